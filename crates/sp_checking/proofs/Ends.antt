-- A certificate ends exactly at the line `end`.
use Rattle.std.proofs.Common.{◌≡◌, ℕ, Bool, true, false, cond, not, List, [], ◌∷◌, Option, Some, None, refl, sym}
use Rattle.std.proofs.Common.{◌∙◌, ap, subst, codes}
use Rattle.std.proofs.lemmas.Slice.Eq.{bytes_eq-Decides}
use Rattle.sp_defs.specs.Laurent.{Laurent}
use Rattle.sp_cert.specs.declared.certificate.Column.{Column}
use Rattle.sp_replies.specs.Refusals.{refusal_line}
use Rattle.sp_replies.specs.declared.refusals.Refusal.TheVariants as refusal
use Rattle.sp_cert.specs.Grammar.{Answer, Allowed, Before, Body, Columns, Base, Ends, Head, NotAllowed, Nothing}
use Rattle.sp_cert.specs.Grammar.{Version, allowed_by, answer_to, column_answer, degree_in, e_in, end_answer}
use Rattle.sp_cert.specs.Grammar.{behind_head, entry_answer, first_body, head_answer, head_text, is_next_entry}
use Rattle.sp_cert.specs.Grammar.{is_next_share, is_text, share_answer, term_of, three_words, with_begun, with_entry}
use Rattle.sp_cert.specs.Grammar.{version_in, with_share, words}
use Rattle.std.specs.Option.{option_map}
use Rattle.sp_checking.specs.SoFar.{after, behind_answer, behind_malformed, is_end, is_open, line_text, text_by}
use Rattle.sp_checking.specs.declared.so_far.Checking.{Checking}
use Rattle.sp_checking.specs.declared.so_far.Checking.TheVariants.{Outside, Inside, Malformed}

-- ---- what the grammar says of the line `end`, and of any other

abbrev MayBeEnd : Answer → Type 0
MayBeEnd (Allowed before) = ⊥
MayBeEnd (Ends c) = Unit {0}
MayBeEnd NotAllowed = Unit {0}

abbrev MayBeOther : Answer → Type 0
MayBeOther (Allowed before) = Unit {0}
MayBeOther (Ends c) = ⊥
MayBeOther NotAllowed = Unit {0}

-- `end` is not allowed before the certificate is whole.
end_in : (before : Before) → MayBeEnd (answer_to before (codes "end"))
unfolding answer_to
end_in Nothing = tt
end_in (Version version) = tt
end_in (Base version e) = tt
end_in (Columns body) = by_heads body.heads
  where
    by_heads : (heads : List Head) → MayBeEnd (end_answer body heads)
    by_heads [] = tt
    by_heads (head ∷ heads) = tt

allowed_other : (before : Option Before) → MayBeOther (allowed_by before)
allowed_other None = tt
allowed_other (Some before) = tt

allowed_if : (b : Bool) (before : Before) → MayBeOther (cond b (Allowed before) NotAllowed)
allowed_if true before = tt
allowed_if false before = tt

one_of : (b : Bool) (x y : Answer) → MayBeOther x → MayBeOther y → MayBeOther (cond b x y)
one_of true x y hx hy = hx
one_of false x y hx hy = hy

-- Another line ends no certificate.
other_in : (before : Before) (line : List ℕ) → is_end line ≡ false → MayBeOther (answer_to before line)
unfolding answer_to
other_in Nothing line other = allowed_other (option_map Version (version_in line))
other_in (Version version) line other = allowed_other (option_map (Base version) (e_in line))
other_in (Base version e) line other =
    allowed_other (option_map (λ n. Columns (first_body version e n)) (degree_in version line))
other_in (Columns body) line other =
    subst (λ b. MayBeOther (cond b (end_answer body body.heads) (column_answer body line (three_words (words line)))))
    (sym other) (in_column (three_words (words line)))
  where
    head_other : (heads : List Head) → MayBeOther (head_answer body heads line)
    head_other [] = tt
    head_other (head ∷ heads) =
        allowed_if (is_text line (head_text body.e head)) (Columns (behind_head body head heads))

    share_other : (begun : Option Column) (t : Option (List ℕ × Laurent)) → MayBeOther (share_answer body begun t)
    share_other None t = tt
    share_other (Some c) None = tt
    share_other (Some c) (Some t) =
        allowed_if (is_next_share body.version body.e c t.0) (Columns (with_begun body (with_share body.e c t)))

    entry_other : (begun : Option Column) (t : Option (List ℕ × Laurent)) → MayBeOther (entry_answer body begun t)
    entry_other None t = tt
    entry_other (Some c) None = tt
    entry_other (Some c) (Some t) =
        allowed_if (is_next_entry body.version body.e c t.0) (Columns (with_begun body (with_entry c t)))

    in_column : (ws : Option (List ℕ × List ℕ × List ℕ)) → MayBeOther (column_answer body line ws)
    in_column None = head_other body.heads
    in_column (Some (first, second, third)) =
        let term = term_of body.degree second third in
        let share = share_answer body body.begun term in
        let entry = entry_answer body body.begun term in
        let head = head_answer body body.heads line in
        one_of (is_text first (codes "share")) share (cond (is_text first (codes "entry")) entry head)
        (share_other body.begun term)
        (one_of (is_text first (codes "entry")) entry head (entry_other body.begun term) (head_other body.heads))

-- ---- the certificate

malformed_open : (b : Bool) (number : ℕ) → is_open (cond b Outside (Malformed number)) ≡ not b
malformed_open true number = refl
malformed_open false number = refl

module _ (number : ℕ) (line : List ℕ) where
  at_end : (a : Answer) → MayBeEnd a → is_end line ≡ true → is_open (behind_answer number line a) ≡ not (is_end line)
  at_end (Allowed before) may is = absurd may
  at_end (Ends c) may is = sym (ap not is)
  at_end NotAllowed may is = malformed_open (is_end line) number

  at_other : (a : Answer) → MayBeOther a → is_end line ≡ false →
      is_open (behind_answer number line a) ≡ not (is_end line)
  at_other (Allowed before) may is = sym (ap not is)
  at_other (Ends c) may is = absurd may
  at_other NotAllowed may is = malformed_open (is_end line) number

  silent_answer : (limit : ℕ) (a : Answer) → MayBeOther a → is_end line ≡ false → text_by limit number line a ≡ []
  silent_answer limit (Allowed before) may is = refl
  silent_answer limit (Ends c) may is = absurd may
  silent_answer limit NotAllowed may is = ap (λ b. cond b (refusal_line (refusal.Malformed number)) []) is

-- An open certificate is closed by the line `end`, and by no other.
pub ends : (c : Checking) (line : List ℕ) → is_open c ≡ true → is_open (after c line) ≡ not (is_end line)
unfolding after
ends Outside line open_is = absurd (let no : false ≡ true = open_is in cc)
ends (Inside r) line open_is = by_end (is_end line) refl
  where
    by_end : (b : Bool) → is_end line ≡ b →
        is_open (behind_answer r.next line (answer_to r.before line)) ≡ not (is_end line)
    by_end true is =
        at_end r.next line (answer_to r.before line)
        (subst (λ l. MayBeEnd (answer_to r.before l)) (sym ((bytes_eq-Decides line (codes "end")).0 is))
        (end_in r.before)) is
    by_end false is = at_other r.next line (answer_to r.before line) (other_in r.before line is) is
ends (Malformed number) line open_is = malformed_open (is_end line) number

-- Only the line `end` is answered.
pub silent : (limit : ℕ) (c : Checking) (line : List ℕ) → is_end line ≡ false → line_text limit c line ≡ []
unfolding line_text
silent limit Outside line is = refl
silent limit (Inside r) line is =
    silent_answer r.next line limit (answer_to r.before line) (other_in r.before line is) is
silent limit (Malformed number) line is = ap (λ b. cond b (refusal_line (refusal.Malformed number)) []) is
