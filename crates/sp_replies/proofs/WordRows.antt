-- Words in a row: the first, and each other with the separator in front.
use Rattle.std.proofs.Common.{◌≡◌, ℕ, ◌-◌, ◌<◌, ◌≤◌, List, [], ◌∷◌, ◌++◌, map, flat_map, take, drop, length, get_or}
use Rattle.std.proofs.Common.{refl, sym, ◌∙◌, ap, arith, append_assoc, append-nil}
use Rattle.std.specs.Prelude.{codes, OnOk, Result, Ok, Err, is_ok, if◌then◌else◌}
use Rattle.std.proofs.lemmas.List.{take_all}
use Rattle.std.proofs.lemmas.List.Concat.{flat_map-cons}
use Rattle.sp_defs.specs.Text.{joined_by}
use Rattle.sp_replies.specs.Words.{dash_or_words}

-- What a call appended that succeeds.
pub appended : {T E : Type 0} (r : Result T E) (new old more : List ℕ) → new ≡ (if is_ok r then more else old) →
    OnOk r (new ≡ more)
appended (Ok x) new old more is = is
appended (Err e) new old more is = tt

module _ {X : Type 0} (separator : List ℕ) (text : X → List ℕ) where
  joined_first : (first : X) (others : List X) →
      joined_by separator (map text (first ∷ others))
      ≡ text first ++ flat_map (λ x. separator ++ text x) others
  joined_first first [] = sym (append-nil (text first))
  joined_first first (next ∷ others) =
      ap (λ rest. text first ++ separator ++ rest) (joined_first next others)
      ∙ append_assoc (text first) separator (text next ++ flat_map (λ x. separator ++ text x) others)
      ∙ ap (λ rest. text first ++ rest)
      (sym (append_assoc separator (text next) (flat_map (λ x. separator ++ text x) others))
      ∙ sym (flat_map-cons (λ x. separator ++ text x) next others))

  -- as the code splits them
  pub joined_split : (words : List X) (first d : X) → first ≡ get_or words 0 d → 1 ≤ length words →
      joined_by separator (map text words)
      ≡ text first ++ flat_map (λ x. separator ++ text x) (take (length words - 1) (drop 1 words))
  joined_split [] first d is some = absurd (omega arith)
  joined_split (word ∷ words) first d is some =
      joined_first word words
      ∙ ap (λ x. text x ++ flat_map (λ x. separator ++ text x) words) (sym is)
      ∙ ap (λ rest. text first ++ flat_map (λ x. separator ++ text x) rest)
      (sym (take_all (length (word ∷ words) - 1) words (omega arith)))

-- The texts of what is seen of the items.
pub map_seen : {X Y Z : Type 0} (text : Y → Z) (seen : X → Y) (xs : List X) →
    map (λ x. text (seen x)) xs ≡ map text (map seen xs)
map_seen text seen [] = refl
map_seen text seen (x ∷ xs) = ap (λ r. text (seen x) ∷ r) (map_seen text seen xs)

-- Words with a space between, where there is one.
pub spaced : (words : List (List ℕ)) → 0 < length words → joined_by (codes " ") words ≡ dash_or_words words
spaced [] some = absurd (omega arith)
spaced (word ∷ words) some = refl

-- Two pieces that were appended in turn, and then a line of two more.
pub line_of_four : (begin a p b q end one two last : List ℕ) → one ≡ begin ++ a → two ≡ one ++ p →
    last ≡ two ++ ((b ++ q) ++ end) → last ≡ begin ++ ((((a ++ p) ++ b) ++ q) ++ end)
line_of_four begin a p b q end one two last one_is two_is last_is =
    last_is
    ∙ ap (λ xs. xs ++ ((b ++ q) ++ end)) (two_is ∙ ap (λ xs. xs ++ p) one_is ∙ append_assoc begin a p)
    ∙ append_assoc begin (a ++ p) ((b ++ q) ++ end)
    ∙ ap (λ xs. begin ++ xs) regrouped
  where
    regrouped : (a ++ p) ++ ((b ++ q) ++ end) ≡ (((a ++ p) ++ b) ++ q) ++ end
    regrouped = sym (append_assoc (a ++ p) (b ++ q) end) ∙ ap (λ xs. xs ++ end) (sym (append_assoc (a ++ p) b q))
