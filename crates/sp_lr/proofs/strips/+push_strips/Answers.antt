use Rattle.std.proofs.Common.{rules, ◌≡◌, ◌+◌, ◌++◌, ◌∷◌, [], arith, subst, sym, ◌∙◌, ap, ℕ, suc, ◌-◌, ◌≤◌, length}
use Rattle.std.proofs.Common.{length-append}
use Rattle.std.proofs.lemmas.Result.{on_ok_weaker}
use Rattle.sp_lr.specs.Strips.{behind, AreHeld, strips}
use Rattle.sp_lr.proofs.Rounds.{head, rest, split_rows, falls_split, gained_split, strips_split, strips-nil}
use Rattle.sp_lr.proofs.Rounds.{strips-cons}
use Rattle.sp_lr.proofs.Rounds.{held_round, round, without_last, end_of, blocks}
use Rattle.sp_lr.proofs.strips.+push_strips.Goals as goal

pub push_last-requires-clause-held : goal.push_last-requires-clause-held
push_last-requires-clause-held t c =
    subst (AreHeld c.args.front.now.items)
    (strips-nil c.args.rows.now c.args.above c.args.spare c.args.left c.min.result (omega arith) (omega arith))
    c.requires.held

pub returns-in-empty-clause-strips : goal.returns-in-empty-clause-strips
returns-in-empty-clause-strips t c =
    on_ok_weaker c.push_last.result
    (λ is. is ∙ ap (λ xs. c.args.list.now.items ++ behind c.args.front.now.items xs)
    (sym (strips-nil c.args.rows.now c.args.above c.args.spare c.args.left c.min.result (omega arith) (omega arith))))
    c.push_last.ensures.rows

pub loop-more-init : goal.loop-more-init
loop-more-init t c =
    let end : c.min-more.result + 1 ≡ end_of (head c.args.rows.now) c.args.above c.args.spare c.args.left =
    omega arith in
    record {
      front = search rules;
      list = ap (λ xs. c.args.list.now.items ++ behind c.args.front.now.items xs)
          (ap (blocks (head c.args.rows.now) (rest c.args.rows.now) c.args.spare c.args.left) end
          ∙ sym (strips-cons (head c.args.rows.now) (rest c.args.rows.now) c.args.above c.args.spare c.args.left));
    }

grown : (t : ℕ) (c : goal.After-push_strips-arg-in-loop-more-1 t) →
    c.push.new.self.items ≡ c.args.front.now.items ++ ((head c.args.rows.now).length + (c.loop-more.more - 1)) ∷ []
grown t c =
    c.push.ensures.items
    ∙ ap (λ xs. xs ++ ((head c.args.rows.now).length + (c.loop-more.more - 1)) ∷ []) c.loop-more.invariant.front

pub push_strips-requires : goal.push_strips-requires
push_strips-requires t c =
    let some : 1 ≤ length c.args.rows.now = omega arith in (
      search rules,
      (
        (falls_split c.args.above c.args.rows.now some c.requires.falls).1,
        (
          omega (
            arith,
            ap length (split_rows c.args.rows.now some),
            ap length (grown t c),
            length-append c.args.front.now.items (((head c.args.rows.now).length + (c.loop-more.more - 1)) ∷ []),
          ),
          (
            omega (arith, gained_split c.args.rows.now some),
            held_round c.args.front.now.items c.push.new.self.items (head c.args.rows.now) (rest c.args.rows.now)
                c.args.spare c.args.left (end_of (head c.args.rows.now) c.args.above c.args.spare c.args.left)
                (c.loop-more.more - 1) (grown t c) (omega arith)
                (subst (AreHeld c.args.front.now.items)
                (strips_split c.args.rows.now c.args.above c.args.spare c.args.left some) c.requires.held),
          ),
        ),
      ),
    )

pub loop-more-preserved : goal.loop-more-preserved
loop-more-preserved t c =
    let x : ℕ = (head c.args.rows.now).length + (c.loop-more.more - 1) in
    let grows : c.push.new.self.items ≡ c.args.front.now.items ++ x ∷ [] =
    c.push.ensures.items ∙ ap (λ xs. xs ++ x ∷ []) c.loop-more.invariant.front in
    let next : suc (c.loop-more.more - 1) ≡ c.loop-more.more = omega arith in
    record {
      front = without_last c.push_strips.new.front.items c.args.front.now.items c.pop.new.self.items x
          (c.in_ok-push_strips-in-len1-up.ensures.front ∙ grows) c.pop.ensures.rest;
      list = round c.loop-more.list.items c.push_strips.new.list.items
          (c.args.list.now.items ++ behind c.args.front.now.items
          (strips (head c.args.rows.now ∷ rest c.args.rows.now) c.args.above c.args.spare c.args.left))
          c.args.front.now.items c.push.new.self.items (head c.args.rows.now) (rest c.args.rows.now) c.args.spare
          c.args.left (c.loop-more.more - 1) grows c.in_ok-push_strips-in-len1-up.ensures.strips
          (ap (λ n. c.loop-more.list.items ++ behind c.args.front.now.items
          (blocks (head c.args.rows.now) (rest c.args.rows.now) c.args.spare c.args.left n)) next
          ∙ c.loop-more.invariant.list);
    }
