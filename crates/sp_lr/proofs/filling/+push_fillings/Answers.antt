use Rattle.std.proofs.Common.{rules, ◌≡◌, ◌+◌, ◌-◌, ◌≤◌, ◌<◌, ◌++◌, ◌∷◌, [], arith, subst, sym, ◌∙◌, ap, length}
use Rattle.std.proofs.Common.{slice_index}
use Rattle.std.proofs.Common.{take, flat_map, append-nil, vec_len}
use Rattle.std.proofs.Math.Seq.{take-length}
use Rattle.std.proofs.lemmas.List.{length-map}
use Rattle.std.proofs.lemmas.Result.{err_from_is_err_and}
use Rattle.sp_lr_defs.specs.Strip.{IsNext}
use Rattle.sp_lr.specs.Strips.{behind}
use Rattle.sp_lr.specs.Results.{chains_in}
use Rattle.sp_lr.proofs.ChainLists.{chain_block}
use Rattle.sp_lr.proofs.Rounds.{without_last}
use Rattle.sp_lr.proofs.Continuing.{later, chains_split, chains_done, next_at, room_at, found_more, more_on_the_way}
use Rattle.sp_lr.proofs.Continuing.{found_count}
use Rattle.sp_lr.proofs.filling.+push_fillings.Goals as goal

pub returns-then-len-most-clause-many : goal.returns-then-len-most-clause-many
returns-then-len-most-clause-many t c = λ _.
    omega (
      arith,
      c.if-len-most.true,
      c.len.ensures,
      ap length (chains_done c.args.before.now c.args.last.now c.args.spare c.args.sizes.now (omega arith)),
    )

pub returns-in_ok-push_filling-in-empty-clause-found : goal.returns-in_ok-push_filling-in-empty-clause-found
returns-in_ok-push_filling-in-empty-clause-found t c =
    c.in_ok-push_filling-in-empty.ensures.chains
    ∙ ap (λ xs. chains_in c.args.found.now.items ++ xs ∷ []) (c.deref.ensures.value
    ∙ sym (append-nil c.args.chain.now.items))
    ∙ ap (λ cs. chains_in c.args.found.now.items ++ behind c.args.chain.now.items cs)
    (sym (chains_done c.args.before.now c.args.last.now c.args.spare c.args.sizes.now (omega arith)))

pub push_fillings-requires : goal.push_fillings-requires
push_fillings-requires t c =
    let some : 1 ≤ length c.args.sizes.now = omega arith in
    let within : c.loop-shape.shape-index < length c.deref-shape-items.result.now = omega arith in
    let next : IsNext c.args.before.now c.args.last.now c.args.spare
    (slice_index c.args.sizes.now 0) c.shape-item.result =
    next_at c.args.before.now c.args.last.now c.args.spare (slice_index c.args.sizes.now 0)
    c.deref-shape-items.result.now c.loop-shape.shape-index c.shape-item.result c.requires.room.held.partition
    (c.deref-shape-items.ensures.value ∙ c.in_ok-shapes-in-len1-up.ensures) within c.shape-item.is in
    let room = room_at c.args.before.now c.args.last.now c.args.spare c.args.sizes.now c.shape-item.result
    c.requires.room c.requires.small some next in
    (search rules, (room.0, (room.1, c.loop-shape.invariant.few)))

pub returns-in_err-push_fillings-in-len1-up-clause-many : goal.returns-in_err-push_fillings-in-len1-up-clause-many
returns-in_err-push_fillings-in-len1-up-clause-many t c =
    let p = err_from_is_err_and c.from_residual-in_err-push_fillings-in-len1-up.result
    c.from_residual-in_err-push_fillings-in-len1-up.ensures.1 in
    rw (p.1, p.2) (λ e.
    let some : 1 ≤ length c.args.sizes.now = omega arith in
    let within : c.loop-shape.shape-index < length c.deref-shape-items.result.now = omega arith in
    let so_far : length c.loop-shape.found.items ≡ length c.args.found.now.items
    + length (flat_map (chain_block c.args.last.now (later c.args.sizes.now))
    (take c.loop-shape.shape-index c.deref-shape-items.result.now)) =
    sym (length-map c.loop-shape.found.items (λ f. f.chain))
    ∙ found_count (chains_in c.args.found.now.items) (chains_in c.loop-shape.found.items) c.args.chain.now.items
    (flat_map (chain_block c.args.last.now (later c.args.sizes.now))
    (take c.loop-shape.shape-index c.deref-shape-items.result.now)) c.loop-shape.invariant.found
    ∙ ap (λ n. n + length (flat_map (chain_block c.args.last.now (later c.args.sizes.now))
    (take c.loop-shape.shape-index c.deref-shape-items.result.now)))
    (length-map c.args.found.now.items (λ f. f.chain)) in
    let more = more_on_the_way (length c.args.found.now.items) (length c.loop-shape.found.items) c.args.most
    c.args.last.now (later c.args.sizes.now) c.deref-shape-items.result.now c.loop-shape.shape-index
    c.shape-item.result within c.shape-item.is so_far
    (c.push_fillings.ensures.many (c.in_err-push_fillings-in-len1-up.was ∙ e)) in
    subst (λ cs. c.args.most < length c.args.found.now.items + length cs)
    (ap (flat_map (chain_block c.args.last.now (later c.args.sizes.now)))
    (c.deref-shape-items.ensures.value ∙ c.in_ok-shapes-in-len1-up.ensures)
    ∙ sym (chains_split c.args.before.now c.args.last.now c.args.spare c.args.sizes.now some)) more)

pub loop-shape-preserved : goal.loop-shape-preserved
loop-shape-preserved t c =
    let within : c.loop-shape.shape-index < length c.deref-shape-items.result.now = omega arith in
    let grows : c.append.new.list.items ≡ c.args.chain.now.items ++ c.shape-item.result ∷ [] =
    c.in_ok-append-in-len1-up.ensures ∙ ap (λ xs. xs ++ c.shape-item.result ∷ []) c.loop-shape.invariant.chain in
    let count : vec_len c.push_fillings.new.chain ≡ length c.push_fillings.new.chain.items = omega arith in
    record {
      chain = without_last c.push_fillings.new.chain.items c.args.chain.now.items c.pop.new.self.items
          c.shape-item.result
          (c.in_ok-push_fillings-in-len1-up.ensures.chain ∙ grows)
          (c.pop.ensures.rest ∙ ap (λ n. take (n - 1) c.push_fillings.new.chain.items) count);
      found = found_more (chains_in c.args.found.now.items) (chains_in c.loop-shape.found.items)
          (chains_in c.push_fillings.new.found.items) c.args.chain.now.items c.append.new.list.items c.args.last.now
          (later c.args.sizes.now) c.deref-shape-items.result.now c.loop-shape.shape-index c.shape-item.result within
          c.shape-item.is grows c.loop-shape.invariant.found c.in_ok-push_fillings-in-len1-up.ensures.found;
      few = c.in_ok-push_fillings-in-len1-up.ensures.few;
    }

pub returns-after-loop-shape-clause-found : goal.returns-after-loop-shape-clause-found
returns-after-loop-shape-clause-found t c =
    let some : 1 ≤ length c.args.sizes.now = omega arith in
    let all : c.loop-shape.shape-index ≡ length c.deref-shape-items.result.now = omega arith in
    c.loop-shape.invariant.found
    ∙ ap (λ cs. chains_in c.args.found.now.items ++ behind c.args.chain.now.items cs)
    (ap (flat_map (chain_block c.args.last.now (later c.args.sizes.now)))
    (ap (λ n. take n c.deref-shape-items.result.now) all ∙ take-length c.deref-shape-items.result.now
    ∙ c.deref-shape-items.ensures.value ∙ c.in_ok-shapes-in-len1-up.ensures)
    ∙ sym (chains_split c.args.before.now c.args.last.now c.args.spare c.args.sizes.now some))
