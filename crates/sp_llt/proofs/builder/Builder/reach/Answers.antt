use Rattle.std.proofs.Common.{◌≡◌, ℕ, ◌<◌, List, length, refl, sym, ◌∙◌, ap, subst, arith, Err, MatchOption}
use Rattle.std.specs.List.{AllByRecursion}
use Rattle.sp_defs.specs.Partition.{partitions}
use Rattle.sp_defs.specs.Power.{vector_of}
use Rattle.sp_fock_law.specs.Tally.{TallyValue}
use Rattle.sp_core.specs.declared.piece.Key.{Key}
use Rattle.sp_llt.specs.Place.{labels}
use Rattle.sp_llt.specs.Places.{ArePlaces, partitions_at}
use Rattle.sp_llt.specs.Reached.{tally_at}
use Rattle.sp_llt.specs.Search.{NoLift, IsLastLift, IsLargeLift}
use Rattle.sp_llt.proofs.Asks.{none_next, open_found, past_found}
use Rattle.sp_llt.proofs.Places.{places_count}
use Rattle.sp_llt.proofs.builder.Builder.reach.Goals as goal

-- the degree of the tally, and the list that is searched
degree_is : (key : Key) (mu : List ℕ) (t : ℕ) (slots : TallyValue) → slots ≡ tally_at key mu t →
    slots.vector.degree ≡ key.degree
degree_is key mu t slots is = ap (λ (s : TallyValue). s.vector.degree) is

abbrev searched : TallyValue → List ℕ → List (List ℕ)
searched slots places = partitions_at (partitions slots.vector.degree) places

searched_is : (key : Key) (slots : TallyValue) (places : List ℕ) → slots.vector.degree ≡ key.degree →
    ArePlaces key places → searched slots places ≡ labels key
searched_is key slots places same h = ap (λ n. partitions_at (partitions n) places) same ∙ h.at

pub next_share-requires-clause-end : goal.next_share-requires-clause-end
next_share-requires-clause-end c = omega (
  arith,
  places_count c.args.ctx.now c.places.result.now c.places.ensures,
  c.requires.place.reached,
  c.requires.place.place.rank,
)

pub next_share-requires-clause-places : goal.next_share-requires-clause-places
next_share-requires-clause-places c =
    subst (λ n. AllByRecursion (λ i. i < length (partitions n)) c.places.result.now)
    (sym (ap (λ (s : TallyValue). s.vector.degree) c.requires.left)) c.places.ensures.within

pub invariant_of-result : goal.invariant_of-result
invariant_of-result c =
    let key = c.args.ctx.now in
    let slots = c.args.slots in
    let degree = ap (λ (s : TallyValue). s.vector.degree) c.requires.left in
    let rs = searched slots c.places.result.now in
    let found = subst (λ o. MatchOption o (NoLift (vector_of slots.vector.entries) rs 0 c.args.reached)
    (IsLastLift (vector_of slots.vector.entries) rs c.args.reached c.key.result.limit)) c.in-Ok-Some.field-0-is
    c.in-Ok-Some.ensures.found in
    record {
      place = c.requires.place;
      row =
          open_found key c.args.rank c.args.reached slots rs c.requires.place c.requires.within c.requires.left
          (searched_is key slots c.places.result.now degree c.places.ensures)
          (record { slots = slots; shares = c.args.shares; next = c.in-Ok-Some.next }) refl c.requires.given
          (subst (λ (k : Key). IsLastLift (vector_of slots.vector.entries) rs c.args.reached k.limit c.in-Ok-Some.next)
          c.key.ensures.value found);
    }

pub into_indexed-requires-clause-all : goal.into_indexed-requires-clause-all
into_indexed-requires-clause-all c =
    c.all.ensures.value ∙ ap partitions (sym (ap (λ (s : TallyValue). s.vector.degree) c.requires.left))

pub whole-requires-clause-last : goal.whole-requires-clause-last
whole-requires-clause-last c =
    let key = c.args.ctx.now in
    let slots = c.args.slots in
    let degree = ap (λ (s : TallyValue). s.vector.degree) c.requires.left in
    let rs = searched slots c.places.result.now in
    none_next key c.args.rank c.args.reached slots rs c.requires.place c.requires.within c.requires.left
    (searched_is key slots c.places.result.now degree c.places.ensures)
    (subst (λ o. MatchOption o (NoLift (vector_of slots.vector.entries) rs 0 c.args.reached)
    (IsLastLift (vector_of slots.vector.entries) rs c.args.reached c.key.result.limit)) c.in-Ok-None.field-0-is
    c.in-Ok-None.ensures.found)

pub whole-requires-clause-left : goal.whole-requires-clause-left
whole-requires-clause-left c =
    c.in_ok-row-in-Ok-None.ensures ∙ ap (λ (s : TallyValue). s.vector) c.requires.left

pub too_large-requires-clause-past : goal.too_large-requires-clause-past
too_large-requires-clause-past c =
    let key = c.args.ctx.now in
    let slots = c.args.slots in
    let degree = ap (λ (s : TallyValue). s.vector.degree) c.requires.left in
    let rs = searched slots c.places.result.now in
    past_found key c.args.rank c.args.reached slots rs c.requires.place c.requires.within c.requires.left
    (searched_is key slots c.places.result.now degree c.places.ensures)
    (subst (λ (k : Key). (j : ℕ) × IsLargeLift (vector_of slots.vector.entries) rs c.args.reached k.limit j)
    c.key.ensures.value (c.in-Err-TooLarge.ensures.too_large (ap Err c.in-Err-TooLarge.field-0-is)))
