use Rattle.std.proofs.Common.{◌≡◌, map, take}
use Rattle.sp_module_defs.specs.Agreement.{jantzen_entries}
use Rattle.sp_matrix.specs.Agreements.{term_of}
use Rattle.sp_matrix.proofs.line.terms.Given as goal

abbrev pub invariant-loop-pair : goal.invariant-loop-pair
invariant-loop-pair l = record {
  same : l.pair-items ≡ jantzen_entries l.e l.p;
  terms : l.terms.items ≡ map (term_of l.grid) (take l.pair-index l.pair-items);
}
