use Rattle.std.proofs.Common.{rules, ◌≡◌, pos, false, unsigned_abs}
use Rattle.std.specs.Ordering.{int_eq}
use Rattle.sp_paint.proofs.Terms.{written_term}
use Rattle.sp_paint.proofs.notation.put_term.Goals as goal

pub returns-clause-text : goal.returns-clause-text
returns-clause-text c =
    let apart : int_eq c.args.term.0 (pos 0) ≡ false = search rules in
    let size : c.unsigned_abs-2.result ≡ unsigned_abs c.args.term.1 = search rules in
    search (
      rules,
      written_term c.args.notation c.args.term.0 c.args.term.1 _ _ _ c.put_power.new.out.items apart size
          c.in_ok-put_factor.ensures.text,
    )
