-- What a line says, and what holds of it.
use Rattle.std.proofs.Common.{◌≡◌, ◌≢◌, ℕ, ◌<◌, ◌≤◌, Bool, true, false, cond, not, List, [], ◌∷◌, length, refl, sym}
use Rattle.std.proofs.Common.{◌∙◌, ap, subst, eqb, nat_lt}
use Rattle.std.proofs.lemmas.Bool.{cond_both, cond-true, cond-false, lt-ltb, le-ltb}
use Rattle.std.proofs.lemmas.List.{length-map}
use Rattle.std.specs.Prelude.{Option, Some, None, Result, Ok, Err, IfOk, codes, find}
use Rattle.std.specs.List.{list_all, starts_with, AllByRecursion}
use Rattle.std.specs.Option.{option_map}
use Rattle.sp_lang.specs.Words.{is_allowed, words}
use Rattle.sp_lang.specs.Convention.{label_fault}
use Rattle.sp_lang.specs.Commands.{verb_of, places_of, command_of}
use Rattle.sp_lang.specs.Faults.{first_fault}
use Rattle.sp_lang.specs.Given.{IsCommand, WantsMemory}
use Rattle.sp_lang.specs.Reading.{or_fault, said_behind, said, reading}
use Rattle.sp_lang.specs.Values.{given_command, read_all, words_of, any_given, fails, tests_of, first_failing}
use Rattle.sp_lang.specs.declared.given.Given.{Given}
use Rattle.sp_lang.specs.declared.TheConstants.{LINE_LIMIT}
use Rattle.sp_lang.specs.declared.convention.Convention.{Convention}
use Rattle.sp_lang.specs.declared.convention.Convention.TheVariants.{Regular, Restricted}
use Rattle.sp_lang.specs.declared.command.Command.{Command}
use Rattle.sp_lang.specs.declared.command.Command.TheVariants.{Nothing}
use Rattle.sp_lang.specs.declared.fault.LineFault.{LineFault}
use Rattle.sp_lang.specs.declared.fault.LineFault.TheVariants.{WordCount, LongLine, BadByte, Memory}
use Rattle.sp_lang.specs.declared.test.Test.{Test}
use Rattle.sp_lang.specs.declared.verb.Place.{Place}
use Rattle.sp_lang.specs.declared.verb.Verb.{Verb}
use Rattle.sp_lang.specs.declared.verb.Verb.TheVariants.{Combine}
use Rattle.sp_lang.proofs.Faultless.{faultless}
use Rattle.sp_lang.proofs.ByPlace.{words_of-read_all}
use Rattle.sp_lang.proofs.Order.{other_count, same_count}
use Rattle.sp_lang.proofs.Fields.{exact, fields}

-- ---- behind the first word

-- Another number of words is a fault.
pub miscounted : (convention : Convention) (verb : Verb) (ws : List (List ℕ)) (places : List Place) →
    places ≡ places_of verb → length ws ≢ length places →
    Err WordCount ≡ or_fault (command_of verb ws) (first_fault convention (places_of verb) ws)
miscounted convention verb ws places of_verb other =
    ap (or_fault (command_of verb ws))
    (other_count convention (places_of verb) ws (λ e. other (e ∙ sym (ap length of_verb))))

-- As many words as there are places are kept in order, and none is lost.
pub record Read (verb : Verb) (ws : List (List ℕ)) (given : List Given) : Type 0 where
  pub words : words_of given ≡ ws
  pub count : length given ≡ length (places_of verb)
  pub own : given ≡ read_all (places_of verb) (words_of given)

-- The words, read place by place, are such.
pub all_read : (verb : Verb) (ws : List (List ℕ)) (places : List Place) (items given : List Given) →
    places ≡ places_of verb → (length ws ≡ length places) × (items ≡ read_all places ws) → given ≡ items →
    Read verb ws given
all_read verb ws places items given of_verb read is =
    let count : length ws ≡ length (places_of verb) = read.0 ∙ ap length of_verb in
    let all : given ≡ read_all (places_of verb) ws = is ∙ read.1 ∙ ap (λ ps. read_all ps ws) of_verb in
    let same : words_of given ≡ ws = ap words_of all ∙ words_of-read_all (places_of verb) ws count in
    record {
      words = same;
      count = sym (length-map given (λ one. one.word)) ∙ ap length same ∙ count;
      own = all ∙ ap (read_all (places_of verb)) (sym same);
    }

-- The tests find the first fault of the words that were read.
pub tested : (convention : Convention) (verb : Verb) (given : List Given) → length given ≡ length (places_of verb) →
    given ≡ read_all (places_of verb) (words_of given) →
    first_failing convention given ≡ first_fault convention (places_of verb) (words_of given)
tested convention verb given count own =
    ap (first_failing convention) own
    ∙ same_count convention verb (words_of given) (length-map given (λ one. one.word) ∙ count)

-- ---- no word is at fault for want of memory

found_in : (p : Test × LineFault → Bool) (tests : List (Test × LineFault)) →
    AllByRecursion (λ (test : Test × LineFault). test.1 ≢ Memory) tests →
    option_map (λ (test : Test × LineFault). test.1) (find p tests) ≡ Some Memory → ⊥
found_in p [] all h = absurd (cc)
found_in p (test ∷ tests) all h = by_test (p test) (found_in p tests all.1) h
  where
    by_test : (t : Bool) →
        (option_map (λ (test : Test × LineFault). test.1) (find p tests) ≡ Some Memory → ⊥) →
        option_map (λ (test : Test × LineFault). test.1) (cond t (Some test) (find p tests)) ≡ Some Memory → ⊥
    by_test true rest h = let same : test.1 ≡ Memory = cc in all.0 same
    by_test false rest h = rest h

label_fault-other : (convention : Convention) → label_fault convention ≢ Memory
label_fault-other Regular e = cc
label_fault-other Restricted e = cc

-- No test finds want of memory.
no_memory : (convention : Convention) (given : List Given) → first_failing convention given ≡ Some Memory → ⊥
no_memory convention given =
    found_in (λ test. any_given (fails test.0) given) (tests_of convention given) (
      λ e. cc,
      (
        λ e. cc,
        (
          λ e. cc,
          (
            λ e. cc,
            (
              λ e. cc,
              (
                λ e. cc,
                (
                  λ e. cc,
                  (
                    λ e. cc,
                    (label_fault-other convention, (λ e. cc, tt)),
                  ),
                ),
              ),
            ),
          ),
        ),
      ),
    )

-- So a fault of the words is none.
pub other_fault : (convention : Convention) (given : List Given) (fault : LineFault) →
    Some fault ≡ first_failing convention given → fault ≢ Memory
other_fault convention given fault found e = no_memory convention given (sym found ∙ ap Some e)

-- ---- what the words say

-- Words without a fault say their command.
pub answered : (convention : Convention) (verb : Verb) (ws : List (List ℕ)) (command : Command) →
    None ≡ first_fault convention (places_of verb) ws → command ≡ given_command verb (read_all (places_of verb) ws) →
    Ok command ≡ or_fault (command_of verb ws) (first_fault convention (places_of verb) ws)
answered convention verb ws command none is =
    ap Ok (is ∙ exact verb ws (faultless convention (places_of verb) ws (sym none)))
    ∙ ap (or_fault (command_of verb ws)) none

-- Only a quotient wants memory.
pub wanted : (convention : Convention) (verb : Verb) (ws : List (List ℕ)) →
    None ≡ first_fault convention (places_of verb) ws → verb ≡ Combine →
    WantsMemory (or_fault (command_of verb ws) (first_fault convention (places_of verb) ws))
unfolding command_of
wanted convention verb ws none is =
    subst (λ o. WantsMemory (or_fault (command_of verb ws) o)) none
    (subst (λ v. WantsMemory (Ok (command_of v ws))) (sym is) tt)

-- ---- the fields of what was read

behind : (convention : Convention) (verb : Option Verb) (ws : List (List ℕ)) →
    IfOk (said_behind convention verb ws) (IsCommand convention)
behind convention None ws = tt
behind convention (Some verb) ws = by_fault (first_fault convention (places_of verb) ws) refl
  where
    by_fault : (o : Option LineFault) → first_fault convention (places_of verb) ws ≡ o →
        IfOk (or_fault (command_of verb ws) o) (IsCommand convention)
    by_fault None none = fields verb ws (faultless convention (places_of verb) ws none)
    by_fault (Some fault) is = tt

said_command : (convention : Convention) (ws : List (List ℕ)) → IfOk (said convention ws) (IsCommand convention)
said_command convention [] = tt
said_command convention (first ∷ rest) =
    cond_both (starts_with eqb first (codes "#")) (Ok Nothing) (said_behind convention (verb_of first) rest)
    (λ (r : Result Command LineFault). IfOk r (IsCommand convention)) (λ e. tt)
    (λ e. behind convention (verb_of first) rest)

-- ---- the length and the bytes

-- A line past the limit is refused for that.
pub long_line : (convention : Convention) (line : List ℕ) → LINE_LIMIT < length line →
    Err LongLine ≡ reading convention line
unfolding reading
long_line convention line long =
    sym (cond-true (nat_lt LINE_LIMIT (length line)) _ _ (lt-ltb LINE_LIMIT (length line) long))

short_line : (convention : Convention) (line : List ℕ) → length line ≤ LINE_LIMIT →
    reading convention line ≡ cond (not (list_all is_allowed line)) (Err BadByte) (said convention (words line))
unfolding reading
short_line convention line short =
    cond-false (nat_lt LINE_LIMIT (length line)) _ _ (le-ltb LINE_LIMIT (length line) short)

-- A line within the limit is refused for a byte that is not allowed.
pub bad_byte : (convention : Convention) (line : List ℕ) → length line ≤ LINE_LIMIT →
    list_all is_allowed line ≡ false → Err BadByte ≡ reading convention line
bad_byte convention line short other =
    sym (short_line convention line short ∙ cond-true (not (list_all is_allowed line)) _ _ (ap not other))

-- Any other line says what its words say.
pub plain_line : (convention : Convention) (line : List ℕ) → length line ≤ LINE_LIMIT →
    list_all is_allowed line ≡ true → said convention (words line) ≡ reading convention line
plain_line convention line short all =
    sym (short_line convention line short ∙ cond-false (not (list_all is_allowed line)) _ _ (ap not all))

-- ---- what was read

-- What the words say is what the line says, memory apart.
pub read_command : (convention : Convention) (line : List ℕ) (r : Result Command LineFault) →
    (r ≢ Err Memory → r ≡ said convention (words line)) → IfOk r (IsCommand convention)
read_command convention line (Err fault) reads = tt
read_command convention line (Ok command) reads =
    let is : Ok command ≡ said convention (words line) = reads (λ e. cc) in
    subst (λ (r : Result Command LineFault). IfOk r (IsCommand convention)) (sym is)
    (said_command convention (words line))
