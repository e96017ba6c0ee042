use Rattle.std.proofs.Common.{◌≡◌, ℕ, List, length, ◌∙◌, ap, arith}
use Rattle.sp_ranks.specs.Polynomials.{begin_of}
use Rattle.sp_ranks.proofs.Pieces.{LiesWithin, place_there, place_within, place_read, place_held}
use Rattle.sp_ranks.proofs.polynomials.Polynomials.terms.Goals as goal

pub begin-start-requires : goal.begin-start-requires
begin-start-requires c =
    omega (arith, ap length c.deref.ensures.value, place_there _ _ _ c.args.place c.self.view_is c.requires)

pub index-requires : goal.index-requires
index-requires c = omega (arith, place_there _ _ _ c.args.place c.self.view_is c.requires)

-- where the terms begin, by the ends themselves
from : (read ends : List ℕ) (begin k : ℕ) → begin ≡ begin_of 0 read k → read ≡ ends → begin ≡ begin_of 0 ends k
from read ends begin k is same = is ∙ ap (λ l. begin_of 0 l k) same

pub offset_bounds-deref-start : goal.offset_bounds-deref-start
offset_bounds-deref-start c =
    let w : LiesWithin 0 (length c.self.inside.terms.items) c.begin-start.result c.index.result.now =
    place_within _ _ _ c.args.place _ _ c.self.invariant c.self.view_is c.requires
    (from _ _ _ _ c.begin-start.ensures c.deref.ensures.value) c.index.ensures in
    omega (arith, ap length c.deref-2.ensures.value)

pub slice_bounds-result-count : goal.slice_bounds-result-count
slice_bounds-result-count c =
    (place_within _ _ _ c.args.place _ _ c.self.invariant c.self.view_is c.requires
    (from _ _ _ _ c.begin-start.ensures c.deref.ensures.value) c.index.ensures).rises

pub slice_bounds-result-start : goal.slice_bounds-result-start
slice_bounds-result-start c =
    (place_within _ _ _ c.args.place _ _ c.self.invariant c.self.view_is c.requires
    (from _ _ _ _ c.begin-start.ensures c.deref.ensures.value) c.index.ensures).rises

pub slice_bounds-result-end : goal.slice_bounds-result-end
slice_bounds-result-end c =
    let w : LiesWithin 0 (length c.self.inside.terms.items) c.begin-start.result c.index.result.now =
    place_within _ _ _ c.args.place _ _ c.self.invariant c.self.view_is c.requires
    (from _ _ _ _ c.begin-start.ensures c.deref.ensures.value) c.index.ensures in
    omega (arith, ap length c.deref-2.ensures.value)

pub returns-clause-value : goal.returns-clause-value
returns-clause-value c =
    rw c.deref-2.ensures.value
    (place_read _ _ _ c.args.place _ _ c.self.invariant c.self.view_is c.requires
    (from _ _ _ _ c.begin-start.ensures c.deref.ensures.value) c.index.ensures)

pub returns-clause-held : goal.returns-clause-held
returns-clause-held c =
    rw c.deref-2.ensures.value
    (place_held _ _ _ c.args.place _ _ c.self.invariant c.self.view_is c.requires
    (from _ _ _ _ c.begin-start.ensures c.deref.ensures.value) c.index.ensures)
