use Rattle.std.proofs.Common.{◌≡◌, length}
use Rattle.std.specs.List.{AllByRecursion}
use Rattle.sp_defs.specs.Laurent.{Laurent}
use Rattle.sp_defs.specs.Text.{polynomial_text}
use Rattle.sp_laurent.specs.Readable.{IsReadable}
use Rattle.sp_laurent.specs.Pieces.{IsGood}
use Rattle.sp_laurent.proofs.Terms.{Left}
use Rattle.sp_laurent.proofs.parsing.read_terms.Given as goal

abbrev pub invariant-loop-rest : goal.invariant-loop-rest
invariant-loop-rest l = record {
  good : AllByRecursion IsGood l.terms.items;
  reads : (p : Laurent) → IsReadable p → polynomial_text p ≡ l.text → Left p l.terms.items l.rest;
}

abbrev pub decreases-loop-rest : goal.decreases-loop-rest
decreases-loop-rest l = length l.rest
