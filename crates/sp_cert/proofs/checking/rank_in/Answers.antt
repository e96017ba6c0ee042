use Rattle.std.proofs.Common.{◌≡◌, ℕ, ◌<◌, List, [], length, get_or, refl, sym, ◌∙◌, ap, subst, Less, Contains}
use Rattle.sp_defs.specs.Partition.{order, regulars}
use Rattle.sp_lists.proofs.Occurrence.{contains}
use Rattle.sp_shapes.proofs.Listing.{each_regular}
use Rattle.sp_outcome_law.proofs.Ranks.{rank_of as place_rank}
use Rattle.sp_partition.proofs.Rising.{regulars_rise}
use Rattle.sp_cert.proofs.checking.rank_in.Goals as goal

-- the list ascends place by place
abbrev Rises : List (List ℕ) → Type 0
Rises list = (i j : ℕ) → i < j → j < length list → order (get_or list i []) (get_or list j []) ≡ Less

pub rank-requires : goal.rank-requires
rank-requires c = subst Rises (sym c.regulars.ensures.value) (regulars_rise c.args.ctx.now.e c.args.ctx.now.degree)

pub unreachable-requires : goal.unreachable-requires
unreachable-requires c =
    c.in-None.ensures.none.0 refl
    (subst (λ xs. Contains xs c.args.mu.now) (sym c.regulars.ensures.value)
    (contains c.args.mu.now (regulars c.args.ctx.now.e c.args.ctx.now.degree)
    (each_regular c.args.ctx.now.e c.args.ctx.now.degree c.args.mu.now c.requires)))

pub returns-clause-within : goal.returns-clause-within
returns-clause-within c =
    subst (λ xs. c.in-Some.k < length xs) c.regulars.ensures.value ((c.in-Some.ensures.some c.in-Some.k).0 refl).0

pub returns-clause-at : goal.returns-clause-at
returns-clause-at c =
    ap (λ xs. get_or xs c.in-Some.k []) (sym c.regulars.ensures.value) ∙ ((c.in-Some.ensures.some c.in-Some.k).0 refl).1

pub returns-clause-rank : goal.returns-clause-rank
returns-clause-rank c =
    let found = (c.in-Some.ensures.some c.in-Some.k).0 refl in
    place_rank c.args.ctx.now.e c.args.ctx.now.degree c.in-Some.k c.args.mu.now []
    (subst (λ xs. c.in-Some.k < length xs) c.regulars.ensures.value found.0)
    (ap (λ xs. get_or xs c.in-Some.k []) (sym c.regulars.ensures.value) ∙ found.1) c.requires.total
