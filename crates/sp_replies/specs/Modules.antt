-- Answers on one Specht module. This project's own.
use Rattle.std.specs.Prelude.{ℕ, List}
use Rattle.std.specs.Fmt.{decimal}
use Rattle.sp_defs.specs.Partition.{degree}
use Rattle.sp_lang.specs.Convention.{label_in}
use Rattle.sp_lang.specs.declared.convention.Convention.{Convention}
use Rattle.sp_module_defs.specs.Dims.{specht_dim}
use Rattle.sp_module_defs.specs.Jantzen.{jantzen_sum}
use Rattle.sp_replies.specs.Labels.{vector_line}
use Rattle.sp_replies.specs.Words.{line_of}

abbrev pub dim_text : List ℕ → List ℕ
dim_text p = line_of (decimal (specht_dim p))

-- The Jantzen sum of the partition that a label stands for, as the convention tells it.
abbrev pub jantzen_text : Convention → ℕ → List ℕ → List ℕ
jantzen_text convention e label =
    vector_line convention (degree (label_in convention label)) (jantzen_sum e (label_in convention label))
