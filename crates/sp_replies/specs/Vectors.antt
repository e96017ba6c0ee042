-- Answers on ladders and vectors. This project's own.
use Rattle.std.specs.Prelude.{ℕ, ◌+◌, cond, nat_lt, List, ◌++◌, map, codes}
use Rattle.std.specs.Fmt.{decimal}
use Rattle.sp_defs.specs.Partition.{degree}
use Rattle.sp_defs.specs.Power.{entries, divided_power, unit}
use Rattle.sp_defs.specs.Ladder.{ladders, ladder_residue, on_ladder, ladder_vector, ladder_weight}
use Rattle.sp_defs.specs.Text.{vector_text}
use Rattle.sp_lang.specs.Convention.{label_in}
use Rattle.sp_lang.specs.declared.convention.Convention.{Convention}
use Rattle.sp_replies.specs.Labels.{vector_line}
use Rattle.sp_replies.specs.Refusals.{refusal_line}
use Rattle.sp_replies.specs.Words.{dash_or_words, line_of}
use Rattle.sp_replies.specs.declared.refusals.Refusal.TheVariants.{TooLarge}

-- The m-th divided power of f_i on p.
abbrev pub induced_text : ℕ → ℕ → ℕ → List ℕ → List ℕ
induced_text e i m p = line_of (vector_text (entries (degree p + m) (divided_power e i m (unit p))))

-- A ladder's number, its residue and the count of its nodes.
abbrev pub step_text : ℕ → ℕ → ℕ → List ℕ
step_text ladder residue count = decimal ladder ++ codes ":" ++ decimal residue ++ codes ":" ++ decimal count

abbrev pub ladder_text : ℕ → List ℕ → ℕ → List ℕ
ladder_text e mu l = step_text l (ladder_residue e l) (on_ladder e mu l)

abbrev pub ladders_text : ℕ → List ℕ → List ℕ
ladders_text e mu = line_of (dash_or_words (map (ladder_text e mu) (ladders e mu)))

-- The ladder vector of mu as a convention tells it, unless it is too large.
abbrev pub ladder_vector_or_refusal : ℕ → Convention → ℕ → List ℕ → List ℕ
ladder_vector_or_refusal limit convention e mu =
    cond (nat_lt limit (ladder_weight e mu)) (refusal_line TooLarge)
    (vector_line convention (degree mu) (ladder_vector e mu))

-- The ladder vector of the partition that a label stands for.
abbrev pub ladder_vector_text : ℕ → Convention → ℕ → List ℕ → List ℕ
ladder_vector_text limit convention e label = ladder_vector_or_refusal limit convention e (label_in convention label)
