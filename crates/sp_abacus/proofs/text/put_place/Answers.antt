use Rattle.std.proofs.Common.{◌+◌, ◌*◌}
use Rattle.sp_abacus.specs.Text.{character}
use Rattle.sp_abacus.proofs.Writing.{characters_more}
use Rattle.sp_abacus.proofs.text.put_place.Goals as goal

pub loop-runner-preserved : goal.loop-runner-preserved
loop-runner-preserved c =
    characters_more c.args.out.now.items c.loop-runner.out.items c.push.new.self.items c.character.result
    (λ n. character c.args.numbers.now (c.args.e * c.args.place + n)) c.loop-runner.runner c.in_ok-push.ensures.items
    c.character.ensures c.loop-runner.invariant
