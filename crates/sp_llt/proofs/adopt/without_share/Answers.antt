use Rattle.std.proofs.Common.{◌≡◌, ℕ, ◌<◌, ◌≤◌, List, [], ◌∷◌, ◌++◌, length, get_or, take, refl, sym, ◌∙◌, ap, subst}
use Rattle.std.proofs.Common.{Err}
use Rattle.std.specs.List.{AllByRecursion}
use Rattle.sp_defs.specs.Partition.{IsPartitionOf}
use Rattle.sp_defs.specs.Laurent.{Laurent}
use Rattle.sp_defs.specs.Power.{FockVector}
use Rattle.sp_defs.specs.Row.{TooLarge, Row, regular_row}
use Rattle.sp_defs.specs.Within.{PowersWithin, ProductWithin}
use Rattle.sp_lists.proofs.Places.{all_at}
use Rattle.sp_laurent.specs.Held.{power_limit}
use Rattle.sp_column_law.specs.Column.{column_weight}
use Rattle.sp_core.specs.declared.piece.Key.{Key}
use Rattle.sp_fock_law.specs.Tally.{TallyValue, subtracted, subtraction_weight, total_of}
use Rattle.sp_llt.specs.declared.share.Share.{Share}
use Rattle.sp_llt.specs.Place.{IsPlace, IsKey, place, label, labels}
use Rattle.sp_llt.specs.Reached.{row_at}
use Rattle.sp_llt.specs.Refusals.{outcome_at}
use Rattle.sp_llt.specs.Adopting.{IsLeft, HasRank, factors_at, listed_powers}
use Rattle.sp_llt.proofs.Labels.{lower_place}
use Rattle.sp_llt.proofs.Adopting.{left_more, subtraction_past, totals_left, listed_product, factors_more}
use Rattle.sp_llt.proofs.Ranked.{listed_row}
use Rattle.sp_llt.proofs.adopt.without_share.Goals as goal

abbrev AreWithin : ℕ → TallyValue → Type 0
AreWithin limit t = (lambda : List ℕ) → IsPartitionOf t.vector.degree lambda → total_of t.totals lambda ≤ limit

abbrev products_fit : Laurent → FockVector → Type 0
products_fit alpha v = AllByRecursion (λ t. ProductWithin power_limit alpha t.1) v.entries

-- what holds of all shares holds of the one at a place
share_at : (P : Share → Type 0) (shares : List Share) (i : ℕ) (s : Share) → AllByRecursion P shares →
    i < length shares → s ≡ get_or shares i s → P s
share_at P shares i s h lt is = subst P (sym is) (all_at P shares i s h lt)

-- the context's key, and the place of the rank
place_of : (key same : Key) (k : ℕ) → same ≡ key → IsKey same → k < length (labels key) →
    IsPlace (place key k)
place_of key same k is held lt = record { key = subst IsKey is held; rank = lt }

pub unreachable-requires : goal.unreachable-requires
unreachable-requires c =
    let key = c.args.ctx.now in
    let s = c.index-shares-place.result in
    let has = share_at (λ s. HasRank c.args.earlier.now s.rank) c.args.shares.now c.args.place s c.requires.listed
    c.requires.place c.index-shares-place.is in
    let row = listed_row key c.args.k c.args.earlier.now s.rank c.requires.earlier has in
    let large : outcome_at c.entry_of-entry.result.now ≡ TooLarge = c.in_default.ensures.none.0 refl in
    let same : TooLarge ≡ Row = sym large ∙ ap outcome_at c.entry_of-entry.ensures ∙ row in
    cc

pub subtract-requires-clause-totals : goal.subtract-requires-clause-totals
subtract-requires-clause-totals c =
    let key = c.args.ctx.now in
    let p = place_of key c.key.result c.args.k c.key.ensures.value c.key.ensures.held c.requires.rank in
    subst (λ (same : Key). AreWithin same.limit c.args.slots) (sym c.key.ensures.value)
    (totals_left key c.args.k p (factors_at key (take c.args.place c.args.shares.now)) c.args.slots c.requires.left)

pub subtract-requires-clause-within : goal.subtract-requires-clause-within
subtract-requires-clause-within c =
    let key = c.args.ctx.now in
    let s = c.index-shares-place.result in
    let p = place_of key c.key.result c.args.k c.key.ensures.value c.key.ensures.held c.requires.rank in
    let lower = share_at (λ s. s.rank < c.args.k) c.args.shares.now c.args.place s c.requires.shares.lower
    c.requires.place c.index-shares-place.is in
    let powers = share_at (λ s. PowersWithin listed_powers s.alpha) c.args.shares.now c.args.place s
    c.requires.shares.powers c.requires.place c.index-shares-place.is in
    subst (products_fit s.alpha) (sym (c.in-Some.ensures.some ∙ ap row_at c.entry_of-entry.ensures))
    (listed_product key s.rank s.alpha (lower_place key c.args.k s.rank p lower) powers)

pub returns-in-Ok-clause-left : goal.returns-in-Ok-clause-left
returns-in-Ok-clause-left c =
    let key = c.args.ctx.now in
    let s = c.index-shares-place.result in
    let mu = label key c.args.k in
    let p = place_of key c.key.result c.args.k c.key.ensures.value c.key.ensures.held c.requires.rank in
    let fs = factors_at key (take c.args.place c.args.shares.now) in
    let nu = label key s.rank in
    let row = c.in-Some.ensures.some ∙ ap row_at c.entry_of-entry.ensures in
    let small = subst (λ v. subtraction_weight c.args.slots s.alpha v ≤ key.limit) row
    (subst (λ (same : Key). subtraction_weight c.args.slots s.alpha c.in-Some.row.now ≤ same.limit)
    c.key.ensures.value c.in-Ok.ensures.fits) in
    subst (λ gs. IsLeft key mu gs c.in-Ok.slots)
    (sym (factors_more key c.args.shares.now c.args.place s c.requires.place c.index-shares-place.is))
    (subst (IsLeft key mu (fs ++ ((nu, s.alpha) ∷ [])))
    (sym (c.in-Ok.ensures.ok ∙ ap (subtracted c.args.slots s.alpha) row))
    (left_more key c.args.k p fs nu s.alpha c.args.slots c.requires.left small))

pub returns-in-Err-TooLarge-clause-too_large : goal.returns-in-Err-TooLarge-clause-too_large
returns-in-Err-TooLarge-clause-too_large c _ =
    let key = c.args.ctx.now in
    let s = c.index-shares-place.result in
    let p = place_of key c.key.result c.args.k c.key.ensures.value c.key.ensures.held c.requires.rank in
    let fs = factors_at key (take c.args.place c.args.shares.now) in
    let nu = label key s.rank in
    let row = c.in-Some.ensures.some ∙ ap row_at c.entry_of-entry.ensures in
    let large = subst (λ v. key.limit < subtraction_weight c.args.slots s.alpha v) row
    (subst (λ (same : Key). same.limit < subtraction_weight c.args.slots s.alpha c.in-Some.row.now)
    c.key.ensures.value (c.in-Err-TooLarge.ensures.too_large (ap Err c.in-Err-TooLarge.field-0-is))) in
    subst (λ gs. key.limit < column_weight key.e (regular_row key.e) (label key c.args.k) gs)
    (sym (factors_more key c.args.shares.now c.args.place s c.requires.place c.index-shares-place.is))
    (subtraction_past key c.args.k p fs nu s.alpha c.args.slots c.requires.left large)
