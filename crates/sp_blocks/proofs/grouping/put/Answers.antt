-- The rank goes where the map tells, or into a new block.
use Rattle.std.proofs.Common.{◌≡◌, Some, None, sym, ◌∙◌, ap, arith, subst, ◌++◌, ◌∷◌, []}
use Rattle.std.proofs.Math.ListN.{set}
use Rattle.std.specs.BTreeMap.{get, Updates}
use Rattle.std.proofs.lemmas.Result.{on_ok_weaker}
use Rattle.sp_defs.specs.Partition.{order}
use Rattle.sp_blocks.specs.Indexed.{Indexed}
use Rattle.sp_blocks.proofs.Finding.{longer, place_within, rank_added, rank_new, indexed_added, indexed_new}
use Rattle.sp_blocks.proofs.grouping.put.Goals as goal

-- what the map has under the core
told : (c : goal.After-found-1) → get order c.args.places.now c.args.core ≡ Some c.in-Some.place
told c = sym c.get.ensures.value ∙ sym c.copied.ensures ∙ c.in-Some.is

pub index_mut-requires : goal.index_mut-requires
index_mut-requires c =
    let within =
    place_within c.args.places.now c.args.found.now.items c.args.core c.in-Some.place c.requires
    (sym c.get.ensures.value ∙ sym c.copied.ensures ∙ c.in-Some.is) in
    omega (arith, within, c.args.found.now.ok)

pub returns-in-Some-clause-found : goal.returns-in-Some-clause-found
returns-in-Some-clause-found c =
    let bs = c.args.found.now.items in
    let b = c.index_mut.result.now in
    on_ok_weaker c.add_rank.result
    (λ is.
    ap (set bs c.in-Some.place) (is ∙ ap (λ x. longer x c.args.rank) c.index_mut.ensures.value)
    ∙ sym (rank_added c.args.places.now bs c.args.core c.in-Some.place c.args.rank b c.requires (told c)))
    c.add_rank.ensures

pub returns-in-Some-clause-indexed : goal.returns-in-Some-clause-indexed
returns-in-Some-clause-indexed c =
    let bs = c.args.found.now.items in
    let b = c.index_mut.result.now in
    on_ok_weaker c.add_rank.result
    (λ is.
    subst (λ x. Indexed c.args.places.now (set bs c.in-Some.place x))
    (sym (is ∙ ap (λ x. longer x c.args.rank) c.index_mut.ensures.value))
    (indexed_added c.args.places.now bs c.in-Some.place c.args.rank b c.requires))
    c.add_rank.ensures

-- what the map lacks
absent : (c : goal.In_ok-push-in-None) → get order c.args.places.now c.args.core ≡ None
absent c = sym c.get.ensures.value ∙ sym c.copied.ensures ∙ c.in-None.is

-- the new block
pushed : (c : goal.In_ok-push-in-None) →
    c.push.new.self.items
    ≡ c.args.found.now.items ++ record { core = c.args.core; ranks = c.args.rank ∷ [] } ∷ []
pushed c =
    c.in_ok-push-in-None.ensures.items
    ∙ ap (λ ranks. c.args.found.now.items ++ record { core = c.args.core; ranks = ranks } ∷ [])
    (c.of-ranks.ensures ∙ c.in_ok-vec-in-None.ensures.items)

pub returns-in_ok-push-in-None-clause-found : goal.returns-in_ok-push-in-None-clause-found
returns-in_ok-push-in-None-clause-found c =
    pushed c ∙ sym (rank_new c.args.places.now c.args.found.now.items c.args.core c.args.rank c.requires (absent c))

pub returns-in_ok-push-in-None-clause-indexed : goal.returns-in_ok-push-in-None-clause-indexed
returns-in_ok-push-in-None-clause-indexed c =
    let bs = c.args.found.now.items in
    subst (Indexed c.insert.new.self) (sym (pushed c))
    (indexed_new c.args.places.now c.insert.new.self bs (record { core = c.args.core; ranks = c.args.rank ∷ [] })
    c.requires (absent c)
    (subst (λ n. Updates order c.args.places.now c.insert.new.self c.args.core (Some n))
    (c.len.ensures ∙ c.args.found.now.ok.0)
    c.in_ok-insert-in-None.ensures.updates))
