use Rattle.std.proofs.Common.{◌≡◌, ℕ, true, false, List, reverse, refl, sym, ◌∙◌, ap, subst, Option, None, Some}
use Rattle.std.proofs.Common.{is_some}
use Rattle.std.specs.List.{find}
use Rattle.std.specs.Option.{option_map}
use Rattle.sp_defs.specs.Laurent.{Laurent, one}
use Rattle.sp_defs.specs.Power.{vector_of}
use Rattle.sp_llt.specs.Place.{IsPlace, place}
use Rattle.sp_llt.specs.Search.{is_stray_entry}
use Rattle.sp_llt.proofs.Labels.{read_label}
use Rattle.sp_llt.proofs.Adopted.{right_from, right_stray, right_invariant, right_left}
use Rattle.sp_llt.proofs.adopt.is_rightly_listed.Goals as goal

-- the first stray partition of some entries
abbrev stray_of : List (List ℕ × Laurent) → List ℕ → Option (List ℕ)
stray_of es mu = option_map (λ t. t.0) (find (is_stray_entry mu) (reverse es))

none_of : (o : Option (List ℕ)) → is_some o ≡ false → o ≡ None
none_of None h = refl
none_of (Some x) h = absurd (cc)

pub returns : goal.returns
returns c =
    let key = c.args.ctx.now in
    let row = c.args.row.now in
    let shares = c.args.shares.now in
    let is = read_label key c.args.k c.regulars.result.now c.index-regulars-k.result c.regulars.ensures.value
    c.requires.rank c.index-regulars-k.is in
    let p : IsPlace (place key c.args.k) = record { key = c.regulars.ensures.held; rank = c.requires.rank } in
    let vector = c.pairs-held.ensures.held.vector in
    let none = none_of c.stray_in.result (sym c.is_some.ensures ∙ c.if-is_some.false) in (
      (λ same. right_from key c.args.k p shares row vector c.requires.degree
          (subst (λ m. vector_of row.entries m ≡ one) is (c.is_one_at.ensures.0 c.if-not-is_one_at.false))
          (ap (stray_of row.entries) (sym is) ∙ sym c.stray_in.ensures ∙ none)
          (c.are_invariant.ensures.0 c.if-not-are_invariant.false)
          (sym (c.is_same_vector.ensures.0 same) ∙ c.requires.left)),
      (λ right. c.is_same_vector.ensures.1
          (c.requires.left ∙ sym (right_left key c.args.k p shares row vector c.requires.degree right))),
    )

pub returns-then-not-is_one_at : goal.returns-then-not-is_one_at
returns-then-not-is_one_at c =
    let key = c.args.ctx.now in
    let row = c.args.row.now in
    let is = read_label key c.args.k c.regulars.result.now c.index-regulars-k.result c.regulars.ensures.value
    c.requires.rank c.index-regulars-k.is in (
      (λ e. absurd (cc)),
      (λ right.
          let has : true ≡ false = sym (c.is_one_at.ensures.1 (subst (λ m. vector_of row.entries m ≡ one) (sym is)
          right.at_mu)) ∙ c.if-not-is_one_at.true in cc),
    )

pub returns-then-is_some : goal.returns-then-is_some
returns-then-is_some c =
    let key = c.args.ctx.now in
    let row = c.args.row.now in
    let is = read_label key c.args.k c.regulars.result.now c.index-regulars-k.result c.regulars.ensures.value
    c.requires.rank c.index-regulars-k.is in
    let p : IsPlace (place key c.args.k) = record { key = c.regulars.ensures.held; rank = c.requires.rank } in (
      (λ e. absurd (cc)),
      (λ right.
          let none = c.stray_in.ensures ∙ ap (stray_of row.entries) is
          ∙ right_stray key c.args.k p c.args.shares.now row c.pairs-held.ensures.held.vector c.requires.degree right in
          let some : false ≡ true = sym (ap is_some none) ∙ sym c.is_some.ensures ∙ c.if-is_some.true in cc),
    )

pub returns-then-not-are_invariant : goal.returns-then-not-are_invariant
returns-then-not-are_invariant c =
    let key = c.args.ctx.now in
    let p : IsPlace (place key c.args.k) = record { key = c.regulars.ensures.held; rank = c.requires.rank } in (
      (λ e. absurd (cc)),
      (λ right.
          let has : true ≡ false = sym (c.are_invariant.ensures.1
          (right_invariant key c.args.k p c.args.shares.now c.args.row.now c.pairs-held.ensures.held.vector
          c.requires.degree right)) ∙ c.if-not-are_invariant.true in cc),
    )
