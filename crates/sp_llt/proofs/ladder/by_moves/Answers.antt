use Rattle.std.proofs.Common.{◌≡◌, ◌<◌, ◌≤◌, sym, ◌∙◌, ap, ap₂, subst, arith, Err}
use Rattle.sp_defs.specs.Partition.{is_regular, degree, partitions}
use Rattle.sp_defs.specs.Power.{FockVector}
use Rattle.sp_defs.specs.Ladder.{ladder_weight}
use Rattle.sp_core.specs.declared.piece.Key.{Key}
use Rattle.sp_fock_law.specs.Tally.{tally_of}
use Rattle.sp_power.specs.declared.fault.PowerFault.TheVariants.{TooLarge}
use Rattle.sp_ranks.specs.Moves.{Scope}
use Rattle.sp_llt.specs.Place.{IsPlace, place}
use Rattle.sp_llt.specs.Reached.{ladder_tally}
use Rattle.sp_llt.proofs.Labels.{label_facts, place_of, read_label}
use Rattle.sp_llt.proofs.ladder.by_moves.Goals as goal

pub ladder_vector-requires-clause-regular : goal.ladder_vector-requires-clause-regular
ladder_vector-requires-clause-regular c =
    let is = read_label c.args.ctx.now c.args.k c.regulars.result.now c.index-regulars-k.result c.regulars.ensures.value
    c.requires.rank c.index-regulars-k.is in
    let p : IsPlace (place c.args.ctx.now c.args.k) = place_of c.args.ctx.now c.args.k c.regulars.ensures.held
    c.requires.rank in
    ap₂ (λ (key : Key) mu. is_regular key.e mu) c.key-key.ensures.value is
    ∙ (label_facts c.args.ctx.now c.args.k p).regular.regular

pub ladder_vector-requires-clause-residues : goal.ladder_vector-requires-clause-residues
ladder_vector-requires-clause-residues c =
    ap (λ (scope : Scope). scope.e) c.requires.moves ∙ sym (ap (λ (key : Key). key.e) c.key-key.ensures.value)

pub ladder_vector-requires-clause-degree : goal.ladder_vector-requires-clause-degree
ladder_vector-requires-clause-degree c =
    let is = read_label c.args.ctx.now c.args.k c.regulars.result.now c.index-regulars-k.result c.regulars.ensures.value
    c.requires.rank c.index-regulars-k.is in
    let p : IsPlace (place c.args.ctx.now c.args.k) = place_of c.args.ctx.now c.args.k c.regulars.ensures.held
    c.requires.rank in
    omega (
      arith,
      ap degree is ∙ (label_facts c.args.ctx.now c.args.k p).total,
      ap (λ (scope : Scope). scope.degree) c.requires.moves,
    )

pub from_ranks-requires : goal.from_ranks-requires
from_ranks-requires c =
    let is = read_label c.args.ctx.now c.args.k c.regulars.result.now c.index-regulars-k.result c.regulars.ensures.value
    c.requires.rank c.index-regulars-k.is in
    let p : IsPlace (place c.args.ctx.now c.args.k) = place_of c.args.ctx.now c.args.k c.regulars.ensures.held
    c.requires.rank in
    c.all.ensures.value
    ∙ ap partitions
    (sym
    (ap (λ (v : FockVector). v.degree) c.in-Ok.ensures.vector
    ∙ ap degree is
    ∙ (label_facts c.args.ctx.now c.args.k p).total))

pub returns-in_ok-from_ranks-in-Ok-clause-tally : goal.returns-in_ok-from_ranks-in-Ok-clause-tally
returns-in_ok-from_ranks-in-Ok-clause-tally c =
    let is = read_label c.args.ctx.now c.args.k c.regulars.result.now c.index-regulars-k.result c.regulars.ensures.value
    c.requires.rank c.index-regulars-k.is in
    c.in_ok-from_ranks-in-Ok.ensures
    ∙ ap tally_of c.in-Ok.ensures.vector
    ∙ ap₂ (λ (key : Key) mu. ladder_tally key.e mu) c.key-key.ensures.value is

pub returns-in_ok-from_ranks-in-Ok-clause-fits : goal.returns-in_ok-from_ranks-in-Ok-clause-fits
returns-in_ok-from_ranks-in-Ok-clause-fits c =
    let is = read_label c.args.ctx.now c.args.k c.regulars.result.now c.index-regulars-k.result c.regulars.ensures.value
    c.requires.rank c.index-regulars-k.is in
    subst (λ mu. ladder_weight c.args.ctx.now.e mu ≤ c.args.ctx.now.limit) is
    (subst (λ (key : Key). ladder_weight key.e c.index-regulars-k.result ≤ key.limit) c.key-key.ensures.value
    c.in-Ok.ensures.fits)

pub returns-in-Err-clause-too_large : goal.returns-in-Err-clause-too_large
returns-in-Err-clause-too_large c large =
    let is = read_label c.args.ctx.now c.args.k c.regulars.result.now c.index-regulars-k.result c.regulars.ensures.value
    c.requires.rank c.index-regulars-k.is in
    subst (λ mu. c.args.ctx.now.limit < ladder_weight c.args.ctx.now.e mu) is
    (subst (λ (key : Key). key.limit < ladder_weight key.e c.index-regulars-k.result) c.key-key.ensures.value
    (let fault : c.in-Err.fault ≡ TooLarge = cc in c.in-Err.ensures.too_large (ap Err fault)))
