use Rattle.std.proofs.Common.{ℕ, ◌+◌, ◌<◌, ◌∙◌, get_or, set, sym, subst, arith}
use Rattle.std.proofs.lemmas.List.{length-set}
use Rattle.sp_shapes.proofs.Degrees.{length-degree}
use Rattle.sp_ranks.specs.Moves.{IsGain}
use Rattle.sp_ranks.proofs.Gains.{places_set}
use Rattle.sp_ranks.proofs.moves.gains_in_rows.Goals as goal

pub bounds-gains-from : goal.bounds-gains-from
bounds-gains-from c =
    omega (
      arith,
      c.from.ensures,
      c.loop-place-test.true,
      c.row_count-place-end.ensures.value,
      length-degree c.args.p.now c.row_count-place-end.ensures.held.partition,
      c.requires.small,
    )

pub loop-place-preserved : goal.loop-place-preserved
loop-place-preserved c =
    let gains = c.loop-place.gains in
    let is_gain = IsGain c.args.next.now c.args.p.now in
    record {
      room = length-set gains c.from.result c.gain.result ∙ c.loop-place.invariant.room;
      each =
          subst
          (λ place.
          (k d : ℕ) → k < c.loop-place.place + 1 → is_gain (k + 1) (get_or (set gains place c.gain.result) k d))
          (sym c.from.ensures)
          (places_set (λ k rank. is_gain (k + 1) rank) gains c.gain.result c.loop-place.place
          (omega (arith, bounds-gains-from c, c.from.ensures, c.loop-place.invariant.room)) c.loop-place.invariant.each
          c.gain.ensures);
    }
