use Rattle.sp_abacus.proofs.Writing.{places_first}
use Rattle.sp_abacus.proofs.text.places.Goals as goal

pub returns-in-Some : goal.returns-in-Some
returns-in-Some c =
    places_first c.args.e c.in-Some.greatest.now c.args.numbers.now c.requires.e_least c.requires.falls
    c.in-Some.ensures.value
