-- When `clap` takes the words, and what it finds then.
use Rattle.std.proofs.Common.{◌≡◌, ℕ, ◌++◌, ◌&&◌, ◌||◌, Bool, true, false, not, cond, List, [], ◌∷◌, map}
use Rattle.std.proofs.Common.{Option, Some, None, refl, sym, ◌∙◌, ap, ap₂, subst, arith, codes, inl, inr, fold}
use Rattle.std.proofs.Common.{option_map}
use Rattle.std.specs.List.{list_any}
use Rattle.std.specs.Prelude.{slice_get, is_some}
use Rattle.std.specs.Str.{bytes_eq}
use Rattle.std.specs.Borrow.{Bor}
use Rattle.std.specs.Str.Parse.{IsNumeral}
use Rattle.std.proofs.Math.Bool.{or-true}
use Rattle.std.proofs.lemmas.Bool.{ne_eqb}
use Rattle.std.proofs.lemmas.Str.Parse.{digit_from_value}
use Rattle.std.proofs.lemmas.Slice.Eq.{bytes_eq-Decides}
use Rattle.clap.specs.Facts.{Entry}
use Rattle.std.proofs.Common.{append_assoc}
use Rattle.std.specs.List.{find}
use Rattle.std.specs.Prelude.{option_and_then}
use Rattle.clap.specs.Walk.{rows_after, walk}
use Rattle.clap.specs.Simple.{names_of}
use Rattle.clap.specs.Faults.{built_fault, defaults_fault, entered_fault, fault_of, is_simple_and_free, level_fault}
use Rattle.clap.specs.Faults.{settle_fault, walk_fault}
use Rattle.clap.specs.Matches.{first_value}
use Rattle.clap.specs.Simple.{App, entered, is_simple, matches_of}
use Rattle.clap.specs.Takes.{is_given}
use Rattle.clap.specs.Walk.{Row, finished, first_of, has_row, idle, nothing_held, row_of, rows_of, settled, texts}
use Rattle.clap.specs.Walk.{with_default}
use Rattle.clap.specs.Kinds.{HasKind, or_else}
use Rattle.clap.specs.Values.{kind_of}
use Rattle.clap.specs.declared.error.Error.{Error}
use Rattle.clap.specs.declared.error.kind.ErrorKind.TheVariants.{OutOfMemory}
use Rattle.clap.specs.declared.parser.matches.Found.{Found}
use Rattle.sp_words.specs.Found.{ArePlain, IsPlainText, is_dashes, program}
use Rattle.sp_words.specs.Words.{AreNewOptions, Spells, Text, is_among, names_for, text_of}
use Rattle.sp_words.proofs.Turns.{at, built_is, built_rule, built_shape, or_else_nil, row, rules}
use Rattle.sp_words.proofs.Parses.{IsName, ends, found, passes}

-- ---- the command

-- the program's words are simple and free
pub is_plain : (many : Bool) → is_simple_and_free (program (names_for many)) ≡ true
is_plain true = refl
is_plain false = refl

each_name : (many : Bool) (name : Text) → is_among (names_for many) name ≡ true → IsName name
each_name many name among = go (bytes_eq (codes "limit") name) refl (bytes_eq (codes "generate") name) refl many among
  where
    limit_name : IsName (codes "limit")
    limit_name = record { alone = refl; alone_dashes = refl; joined = λ t. refl; joined_dashes = λ t. refl }

    generate_name : IsName (codes "generate")
    generate_name = record { alone = refl; alone_dashes = refl; joined = λ t. refl; joined_dashes = λ t. refl }

    workers_name : IsName (codes "workers")
    workers_name = record { alone = refl; alone_dashes = refl; joined = λ t. refl; joined_dashes = λ t. refl }

    third : (is : Bool) → bytes_eq (codes "workers") name ≡ is → (is || false) ≡ true → IsName name
    third true is e = subst IsName ((bytes_eq-Decides (codes "workers") name).0 is) workers_name
    third false is e = absurd (let bad : false ≡ true = e in cc)

    go : (a : Bool) → bytes_eq (codes "limit") name ≡ a → (b : Bool) → bytes_eq (codes "generate") name ≡ b →
        (m : Bool) → is_among (names_for m) name ≡ true → IsName name
    go true a second b m e = subst IsName ((bytes_eq-Decides (codes "limit") name).0 a) limit_name
    go false a true b m e = subst IsName ((bytes_eq-Decides (codes "generate") name).0 b) generate_name
    go false a false b false e = absurd (let bad = rw (a, b) at e in cc)
    go false a false b true e = third (bytes_eq (codes "workers") name) refl (rw (a, b) at e)

-- ---- after the walk

same_either_way : {A : Type 0} (b : Bool) (x : A) → cond b x x ≡ x
same_either_way true x = refl
same_either_way false x = refl

no_default : (name : Text) (rows : List Row) → with_default rows (built_rule name) ≡ rows
no_default name rows = same_either_way (has_row name rows) rows

-- no rule has a default, so the rows stay as they are
pub finished_is : (names : List Text) (rows : List Row) → fold with_default rows (map built_rule names) ≡ rows
finished_is [] rows = refl
finished_is (name ∷ names) rows =
    ap (λ r. fold with_default r (map built_rule names)) (no_default name rows) ∙ finished_is names rows

defaults_faultless : (names : List Text) (rows : List Row) → defaults_fault rows (map built_rule names) ≡ []
unfolding defaults_fault
defaults_faultless [] rows = refl
defaults_faultless (name ∷ names) rows =
    rw (or-true (has_row name rows), no_default name rows) (defaults_faultless names rows)

none_required : (names : List Text) (rows : List Row) →
    list_any (λ a. a.required && not (is_given a.id rows)) (map built_rule names) ≡ false
none_required [] rows = refl
none_required (name ∷ names) rows = none_required names rows

app : List Text → App
app names = record { top = built_shape names; subs = [] }

no_subcommand : (names words : List Text) (stop : Option (Text × List Text)) →
    level_fault (built_shape names) [] nothing_held words (is_some (entered (app names) stop))
    (entered_fault (app names) stop)
    ≡ level_fault (built_shape names) [] nothing_held words false []
unfolding app
no_subcommand names words None = refl
no_subcommand names words (Some stop) = refl

-- the faults are those of the walk and of the option that was named last
level_is : (names words : List Text) → level_fault (built_shape names) [] nothing_held words false []
    ≡ or_else (walk_fault (built_shape names) [] (at [] None idle) words)
    (or_else (settle_fault (rules names) false (ends names (at [] None idle) words)) [])
level_is names words =
    let end = ends names (at [] None idle) words in
    let defaults = defaults_faultless names (settled (rules names) end).rows in
    rw (defaults, none_required names (finished (rules names) end)) refl

fault_is : (many : Bool) (words : List Text) → fault_of (program (names_for many)) words
    ≡ or_else (walk_fault (built_shape (names_for many)) [] (at [] None idle) words)
    (or_else (settle_fault (rules (names_for many)) false (ends (names_for many) (at [] None idle) words)) [])
unfolding app
fault_is many words =
    ap (λ (a : App). built_fault a nothing_held words) (built_is many)
    ∙ (no_subcommand (names_for many) words (walk (rules (names_for many)) [] nothing_held words).stopped
    ∙ level_is (names_for many) words)

matches_is : (many : Bool) (words : List Text) → matches_of (program (names_for many)) words
    ≡ (settled (rules (names_for many)) (ends (names_for many) (at [] None idle) words)).rows
matches_is many words =
    ap (λ (a : App). rows_after a.top.rules (names_of a) words) (built_is many)
    ∙ finished_is (names_for many)
    (settled (rules (names_for many)) (ends (names_for many) (at [] None idle) words)).rows

-- ---- the whole

-- Where no word is `--` and `clap` finds no fault, the words spell options, and `clap` has found them.
pub all_found : (many : Bool) (words : List Text) → list_any is_dashes words ≡ false →
    fault_of (program (names_for many)) words ≡ [] → (options : List (Text × Text)) × Spells words options
    × AreNewOptions (names_for many) [] options × (matches_of (program (names_for many)) words ≡ map row options)
all_found many words dashes none =
    let faults = or_else_nil _ _ (sym (fault_is many words) ∙ none) in
    let found_all = found (names_for many) words dashes [] None [] (λ _. refl) faults.0 (or_else_nil _ _ faults.1).0 in
    (found_all.options, found_all.spelled, found_all.new, matches_is many words ∙ found_all.rows_are)

-- Options with plain texts are found without a fault.
pub all_pass : (many : Bool) (words : List Text) (options : List (Text × Text)) → Spells words options →
    AreNewOptions (names_for many) [] options → ArePlain options →
    (fault_of (program (names_for many)) words ≡ [])
    × (matches_of (program (names_for many)) words ≡ map row options)
all_pass many words options spelled new plain =
    let all = passes (names_for many) (each_name many) options words spelled [] None [] new plain refl refl in (
      fault_is many words ∙ ap₂ or_else all.faultless (ap (λ k. or_else k []) all.last),
      matches_is many words ∙ all.rows_are,
    )

-- Words that spell options with plain texts have none that is `--`.
pub no_dashes : (many : Bool) (before options : List (Text × Text)) (words : List Text) → Spells words options →
    AreNewOptions (names_for many) before options → ArePlain options → list_any is_dashes words ≡ false
no_dashes many before [] words spelled new plain = ap (list_any is_dashes) spelled
no_dashes many before (o ∷ options) words (inl joined) new plain =
    ap (list_any is_dashes) joined.1 ∙ ap₂ ◌||◌ ((each_name many o.0 new.0).joined_dashes o.1)
    (no_dashes many (before ++ o ∷ []) options joined.0 joined.2 new.2 plain.1)
no_dashes many before (o ∷ options) words (inr apart) new plain =
    ap (list_any is_dashes) apart.1 ∙ ap₂ ◌||◌ (each_name many o.0 new.0).alone_dashes
    (ap₂ ◌||◌ (plain_no_dashes o.1 plain.0) (no_dashes many (before ++ o ∷ []) options apart.0 apart.2 new.2 plain.1))
  where
    plain_no_dashes : (text : Text) → IsPlainText text → is_dashes text ≡ false
    plain_no_dashes [] is = absurd is
    plain_no_dashes (b ∷ bs) is = rw is refl

-- ---- the texts

first_text : (name : Text) (options : List (Text × Text)) → first_of name (map row options) ≡ text_of name options
first_text name [] = refl
first_text name (o ∷ options) = go (bytes_eq o.0 name) refl (first_text name options)
  where
    go : (is : Bool) → bytes_eq o.0 name ≡ is → first_of name (map row options) ≡ text_of name options →
        first_of name (map row (o ∷ options)) ≡ text_of name (o ∷ options)
    go true is rest = rw is refl
    go false is rest = rw is rest

first_now : (vals : List (Bor (List ℕ))) → option_map (λ s. s.now) (slice_get vals 0) ≡ slice_get (texts vals) 0
first_now [] = refl
first_now (v ∷ vals) = refl

value_in : List Entry → Text → Option Text
value_in entries id = option_and_then (λ a. option_map (λ s. s.now) (slice_get a.vals.items 0))
    (option_map (λ e. e.1) (find (λ e. bytes_eq e.0.now id) entries))

value_in-rows : (entries : List Entry) (id : Text) → value_in entries id ≡ first_of id (map row_of entries)
unfolding value_in
value_in-rows [] id = refl
value_in-rows (e ∷ entries) id = go (bytes_eq e.0.now id) refl (value_in-rows entries id)
  where
    go : (is : Bool) → bytes_eq e.0.now id ≡ is → value_in entries id ≡ first_of id (map row_of entries) →
        value_in (e ∷ entries) id ≡ first_of id (map row_of (e ∷ entries))
    go true is rest = rw is (first_now e.1.vals.items)
    go false is rest = rw is rest

-- what `clap` says of a name, where it found these options
pub text_found : (f : Found) (name : Text) (options : List (Text × Text)) → rows_of f ≡ map row options →
    first_value f name ≡ text_of name options
unfolding value_in
text_found f name options rows_are =
    value_in-rows f.entries.items name ∙ ap (first_of name) rows_are ∙ first_text name options

-- ---- numbers are plain

-- the text of an option behind others of other names
pub text_at : (before options : List (Text × Text)) (o : Text × Text) → text_of o.0 before ≡ None →
    text_of o.0 (before ++ o ∷ options) ≡ Some o.1
text_at [] options o none = rw ((bytes_eq-Decides o.0 o.0).1 refl) refl
text_at (first ∷ before) options o none = go (bytes_eq first.0 o.0) refl (text_at before options o)
  where
    go : (is : Bool) → bytes_eq first.0 o.0 ≡ is →
        (text_of o.0 before ≡ None → text_of o.0 (before ++ o ∷ options) ≡ Some o.1)
        → text_of o.0 ((first ∷ before) ++ o ∷ options) ≡ Some o.1
    go true is rest = let bad = rw is at none in cc
    go false is rest = rw is (rest (rw is at none))

number_plain : (text : Text) → IsNumeral 10 text → IsPlainText text
number_plain [] numeral = absurd (omega (arith, numeral.0))
number_plain (d ∷ ds) numeral = ne_eqb _ _ (λ e. omega (arith, digit_from_value d numeral.1.0))

all_plain : (names : List Text) (all : List (Text × Text)) →
    ((name text : Text) → is_among names name ≡ true → text_of name all ≡ Some text → IsPlainText text) →
    (before options : List (Text × Text)) → all ≡ before ++ options → AreNewOptions names before options →
    ArePlain options
all_plain names all plain before [] same new = tt
all_plain names all plain before (o ∷ options) same new = (
  plain o.0 o.1 new.0 (ap (text_of o.0) same ∙ text_at before options o new.1),
  all_plain names all plain (before ++ o ∷ []) options (same ∙ sym (append_assoc before (o ∷ []) options)) new.2,
)

-- The texts of options are plain where those of all names are numbers.
pub plain_texts : (many : Bool) (options : List (Text × Text)) → AreNewOptions (names_for many) [] options →
    ((text : Text) → text_of (codes "limit") options ≡ Some text → IsNumeral 10 text) →
    ((text : Text) → text_of (codes "generate") options ≡ Some text → IsNumeral 10 text) →
    ((text : Text) → text_of (codes "workers") options ≡ Some text → IsNumeral 10 text) → ArePlain options
plain_texts many options new limit generate workers = all_plain (names_for many) options each [] options refl new
  where
    third : (name text : Text) (is : Bool) → bytes_eq (codes "workers") name ≡ is → (is || false) ≡ true →
        text_of name options ≡ Some text → IsPlainText text
    third name text true is e there =
        number_plain text
        (workers text (ap (λ n. text_of n options) ((bytes_eq-Decides (codes "workers") name).0 is) ∙ there))
    third name text false is e there = absurd (let bad : false ≡ true = e in cc)

    go : (name text : Text) (a : Bool) → bytes_eq (codes "limit") name ≡ a → (b : Bool) →
        bytes_eq (codes "generate") name ≡ b → (m : Bool) → is_among (names_for m) name ≡ true →
        text_of name options ≡ Some text → IsPlainText text
    go name text true a second b m e there =
        number_plain text
        (limit text (ap (λ n. text_of n options) ((bytes_eq-Decides (codes "limit") name).0 a) ∙ there))
    go name text false a true b m e there =
        number_plain text
        (generate text (ap (λ n. text_of n options) ((bytes_eq-Decides (codes "generate") name).0 b) ∙ there))
    go name text false a false b false e there = let bad = rw (a, b) at e in cc
    go name text false a false b true e there =
        third name text (bytes_eq (codes "workers") name) refl (rw (a, b) at e) there

    each : (name text : Text) → is_among (names_for many) name ≡ true → text_of name options ≡ Some text →
        IsPlainText text
    each name text among there =
        go name text (bytes_eq (codes "limit") name) refl (bytes_eq (codes "generate") name) refl many among there

-- ---- what a parse says

is_simple_program : (many : Bool) → is_simple (program (names_for many)) ≡ true
is_simple_program true = refl
is_simple_program false = refl

-- some image passes where some element passes by its image
pub any_map : {A : Type 0} (p : Text → Bool) (f : A → Text) (xs : List A) →
    list_any p (map f xs) ≡ list_any (λ x. p (f x)) xs
any_map p f [] = refl
any_map p f (x ∷ xs) = ap (λ b. p (f x) || b) (any_map p f xs)

-- of a parse that succeeds
pub parsed_found : (many : Bool) (words : List Text) (a : App) (rows : List Row) (Rest : Type 0) →
    a ≡ program (names_for many) → list_any is_dashes words ≡ false →
    (is_simple_and_free a ≡ true → fault_of a words ≡ []) → (is_simple a ≡ true → (rows ≡ matches_of a words) × Rest) →
    (options : List (Text × Text)) × Spells words options × AreNewOptions (names_for many) [] options
    × (rows ≡ map row options)
parsed_found many words a rows Rest same dashes faults matches =
    let none : fault_of (program (names_for many)) words ≡ [] =
    subst (λ (b : App). fault_of b words ≡ []) same (faults (ap is_simple_and_free same ∙ is_plain many)) in
    let all = all_found many words dashes none in
    let at_all = (matches (ap is_simple same ∙ is_simple_program many)).0 in
    (all.0, all.1, all.2, at_all ∙ (ap (λ b. matches_of b words) same ∙ all.3))

-- new options that the words spell are all that is found
pub parsed_only : (many : Bool) (words : List Text) (a : App) (rows : List Row) (Rest : Type 0) →
    a ≡ program (names_for many) → (is_simple a ≡ true → (rows ≡ matches_of a words) × Rest) →
    (options : List (Text × Text)) → Spells words options → AreNewOptions (names_for many) [] options →
    ArePlain options → rows ≡ map row options
parsed_only many words a rows Rest same matches options spelled new plain =
    (matches (ap is_simple same ∙ is_simple_program many)).0
    ∙ (ap (λ b. matches_of b words) same ∙ (all_pass many words options spelled new plain).1)

-- of a parse that fails
pub parsed_fails : (many : Bool) (words : List Text) (a : App) (error : Error) → a ≡ program (names_for many) →
    (is_simple_and_free a ≡ true → HasKind (fault_of a words) error) → (options : List (Text × Text)) →
    Spells words options → AreNewOptions (names_for many) [] options → ArePlain options →
    kind_of error ≡ OutOfMemory
parsed_fails many words a error same faults options spelled new plain =
    let kinds : HasKind [] error = subst (λ ks. HasKind ks error)
    (ap (λ b. fault_of b words) same ∙ (all_pass many words options spelled new plain).0)
    (faults (ap is_simple_and_free same ∙ is_plain many)) in
    elim kinds [ inl is ↦ is | inr never ↦ absurd never ]
