-- What the answers to an input sum up to. This project's own.
use Rattle.std.specs.Prelude.{◌≡◌, ◌≤◌, ◌<◌, ◌+◌, ◌*◌, ◌^◌, ℕ, Bool, true, cond, nat_eq, List, length, codes}
use Rattle.std.specs.List.{concat, count_by, starts_with, sum}
use Rattle.sp_stream.specs.Lines.{lines_of}
use Rattle.sp_stream.specs.Transcript.{Rules, replies, transcript}
use Rattle.sp_stream.specs.declared.summary.Summary.{Summary}

-- The reply tells an error.
abbrev pub tells_error : List ℕ → Bool
tells_error reply = starts_with nat_eq reply (codes "error ")

-- How many replies to its lines tell an error, how many bytes all that answers it has, and the sum of their values.
abbrev pub summary_of : {State : Type 0} → Rules State → State → List ℕ → Summary
summary_of rules state input = record {
  errors = count_by tells_error (replies rules state (lines_of input));
  bytes = length (transcript rules state input);
  sum = sum (transcript rules state input);
}

-- ---- on the way, for the proofs of this crate

-- These texts sum up to this.
pub record IsSumOf (texts : List (List ℕ)) (s : Summary) : Type 0 where
  pub errors : s.errors ≡ count_by tells_error texts
  pub bytes : s.bytes ≡ length (concat texts)
  pub values : s.sum ≡ sum (concat texts)

-- With the bytes of one text more, and the error that it tells where it is a reply.
pub record IsWith (reply : Bool) (text : List ℕ) (s more : Summary) : Type 0 where
  pub errors : more.errors ≡ s.errors + cond reply (cond (tells_error text) 1 0) 0
  pub bytes : more.bytes ≡ s.bytes + length text
  pub values : more.sum ≡ s.sum + sum text

-- What so many texts can sum up to at most.
pub record IsWithin (count : ℕ) (s : Summary) : Type 0 where
  pub errors : s.errors ≤ count
  pub bytes : s.bytes ≤ count * 2 ^ 64
  pub values : s.sum ≤ count * 2 ^ 72
