-- What `clap` does at one word, for a command of options of one value.
use Rattle.std.proofs.Common.{◌≡◌, ◌≢◌, ℕ, ◌++◌, ◌||◌, Bool, true, false, cond, List, [], ◌∷◌, map}
use Rattle.std.proofs.Common.{length, Option, Some, None, is_some, refl, sym, ◌∙◌, ap}
use Rattle.std.proofs.Common.{append-nil}
use Rattle.std.specs.Str.{bytes_eq}
use Rattle.std.proofs.lemmas.Slice.Eq.{bytes_eq-Decides}
use Rattle.clap.specs.Lexer.{long_of, short_of}
use Rattle.clap.specs.Walk.{Held, Row, Rule, Waiting, Walk, idle, option, arg_by_id, arg_by_long, arg_by_short, has_row}
use Rattle.clap.specs.Walk.{more_values, after_flag, arg_by_index, at_row, bundle_met, plain, settled_rows, used}
use Rattle.clap.specs.Walk.{walked}
use Rattle.clap.specs.declared.error.kind.ErrorKind.TheVariants as kind
use Rattle.clap.specs.Faults.{flags_fault, step_fault}
use Rattle.std.specs.Str.{chars}
use Rattle.std.specs.Prelude.{slice_get, zero, suc}
use Rattle.sp_words.specs.Found.{is_dashes, IsPlainText}
use Rattle.clap.specs.Simple.{Shape, built}
use Rattle.clap.specs.Kinds.{Kinds, or_else}
use Rattle.clap.specs.Faults.{settle_fault, turn_fault, use_fault}
use Rattle.clap.specs.declared.builder.value_parser.Reading.TheVariants.{AsWritten}
use Rattle.clap.specs.declared.builder.value_parser.ValueParser.TheVariants as vp
use Rattle.clap.specs.declared.parser.matches.ValueSource.TheVariants.{CommandLine}
use Rattle.sp_words.specs.Found.{plain_rule, program}
use Rattle.sp_words.specs.Words.{Text, is_among, names_for, text_of}

-- an option as a built command has it
abbrev pub built_rule : Text → Rule
built_rule name = record (plain_rule name) {
  parser = Some vp.String;
  range = Some (record { start_inclusive = 1; end_inclusive = 1 });
}

-- the shape of the program with rules for these names
abbrev pub built_shape : List Text → Shape
built_shape names = record (program names).top {
  rules = map built_rule names;
  disable_help_subcommand = true;
  is_built = true;
}

-- What a command of these options is once it is built.
pub built_is : (many : Bool) → built (program (names_for many))
    ≡ record { top = built_shape (names_for many); subs = [] }
built_is true = refl
built_is false = refl

-- ---- the option of a name

-- The option of a long name.
pub by_long : (names : List Text) (name : Text) →
    arg_by_long (map built_rule names) name ≡ cond (is_among names name) (Some (built_rule name)) None
by_long [] name = refl
by_long (first ∷ names) name = go (bytes_eq first name) refl (by_long names name)
  where
    go : (same : Bool) → bytes_eq first name ≡ same →
        arg_by_long (map built_rule names) name ≡ cond (is_among names name) (Some (built_rule name)) None →
        arg_by_long (map built_rule (first ∷ names)) name
        ≡ cond (is_among (first ∷ names) name) (Some (built_rule name)) None
    go true e rest = rw e (ap (λ n. Some (built_rule n)) ((bytes_eq-Decides first name).0 e))
    go false e rest = rw e rest

-- The option of an id.
pub by_id : (names : List Text) (name : Text) →
    arg_by_id (map built_rule names) name ≡ cond (is_among names name) (Some (built_rule name)) None
by_id [] name = refl
by_id (first ∷ names) name = go (bytes_eq first name) refl (by_id names name)
  where
    go : (same : Bool) → bytes_eq first name ≡ same →
        arg_by_id (map built_rule names) name ≡ cond (is_among names name) (Some (built_rule name)) None →
        arg_by_id (map built_rule (first ∷ names)) name
        ≡ cond (is_among (first ∷ names) name) (Some (built_rule name)) None
    go true e rest = rw e (ap (λ n. Some (built_rule n)) ((bytes_eq-Decides first name).0 e))
    go false e rest = rw e rest

-- No option has a short name.
pub by_short : (names : List Text) (x : ℕ) → arg_by_short (map built_rule names) x ≡ None
by_short [] x = refl
by_short (first ∷ names) x = by_short names x

-- ---- the rows

-- the row of an option
abbrev pub row : Text × Text → Row
row o = record { id = o.0; values = o.1 ∷ []; count = None; source = Some CommandLine; reading = AsWritten }

-- A name has a row where a text stands with it.
pub has_row-is : (options : List (Text × Text)) (name : Text) →
    has_row name (map row options) ≡ is_some (text_of name options)
has_row-is [] name = refl
has_row-is (o ∷ options) name = go (bytes_eq o.0 name) refl (has_row-is options name)
  where
    go : (same : Bool) → bytes_eq o.0 name ≡ same → has_row name (map row options) ≡ is_some (text_of name options) →
        has_row name (map row (o ∷ options)) ≡ is_some (text_of name (o ∷ options))
    go true e rest = rw e refl
    go false e rest = rw e rest

at_row-new : (id : Text) (change : Row → List Row) (missing rows : List Row) → has_row id rows ≡ false →
    at_row id change missing rows ≡ rows ++ missing
at_row-new id change missing [] e = refl
at_row-new id change missing (r ∷ rows) e = go (bytes_eq r.id id) refl (at_row-new id change missing rows) e
  where
    go : (same : Bool) → bytes_eq r.id id ≡ same →
        (has_row id rows ≡ false → at_row id change missing rows ≡ rows ++ missing) →
        (bytes_eq r.id id || has_row id rows) ≡ false → at_row id change missing (r ∷ rows) ≡ (r ∷ rows) ++ missing
    go true same rest none = let bad = rw same at none in cc
    go false same rest none = rw same (ap (λ left. r ∷ left) (rest (rw same at none)))

map_push : (options : List (Text × Text)) (o : Text × Text) →
    map row options ++ row o ∷ [] ≡ map row (options ++ o ∷ [])
map_push [] o = refl
map_push (first ∷ options) o = ap (λ rest. row first ∷ rest) (map_push options o)

no_row : (options : List (Text × Text)) (name : Text) → text_of name options ≡ None →
    has_row name (map row options) ≡ false
no_row options name new = has_row-is options name ∙ ap is_some new

-- An option that is new gets the last row.
pub used_new : (options : List (Text × Text)) (name text : Text) → text_of name options ≡ None →
    used (built_rule name) (text ∷ []) (map row options) ≡ map row (options ++ (name, text) ∷ [])
used_new options name text new =
    let none = no_row options name new in
    let same : at_row name (λ _. []) [] (map row options) ≡ map row options =
    at_row-new name (λ _. []) [] (map row options) none ∙ append-nil (map row options) in
    rw same (at_row-new name (more_values CommandLine (text ∷ [])) (row (name, text) ∷ []) (map row options) none
    ∙ map_push options (name, text))

some_text : (text : Option Text) → is_some text ≡ false → text ≡ None
some_text None e = refl
some_text (Some text) e = cc

-- A new option is used without a fault.
pub use_new : (options : List (Text × Text)) (name text : Text) → text_of name options ≡ None →
    use_fault false (built_rule name) (text ∷ []) (map row options) ≡ []
use_new options name text new = rw (no_row options name new) refl

-- An option that is used without a fault is new.
pub new_use : (options : List (Text × Text)) (name text : Text) →
    use_fault false (built_rule name) (text ∷ []) (map row options) ≡ [] → text_of name options ≡ None
new_use options name text e = some_text _ (go (has_row name (map row options)) refl)
  where
    go : (has : Bool) → has_row name (map row options) ≡ has → is_some (text_of name options) ≡ false
    go false is = sym (has_row-is options name) ∙ is
    go true is = let bad = rw is at e in cc

by_index : (names : List Text) (i : ℕ) → arg_by_index (map built_rule names) i ≡ None
by_index [] i = refl
by_index (first ∷ names) i = by_index names i

-- Where none of two faults is met, neither is.
pub or_else_nil : (a b : Kinds) → or_else a b ≡ [] → (a ≡ []) × (b ≡ [])
or_else_nil [] b e = (refl, e)
or_else_nil (k ∷ ks) b e = cc

-- ---- one word

-- what a walk holds with these rows
abbrev pub held : List Row → Option (Text × List Text) → Held
held rows pending = record { rows = rows; pending = pending; skip = 0 }

-- where the walk stands between two words
abbrev pub at : List Row → Option (Text × List Text) → Waiting → Walk
at rows pending waiting =
    record { held = held rows pending; waiting = waiting; position = 1; is_trailing = false; stopped = None }

module _ (names : List Text) where
  -- the rules for the names
  abbrev pub rules : List Rule
  rules = map built_rule names

  -- the kinds of fault at a word
  abbrev pub turn : List Row → Option (Text × List Text) → Waiting → Text → Kinds
  turn rows pending waiting word = turn_fault (built_shape names) [] (at rows pending waiting) word

  -- where the walk stands after a word
  abbrev pub next : List Row → Option (Text × List Text) → Waiting → Text → Walk
  next rows pending waiting word = walked rules [] (at rows pending waiting) word

  -- a name among them is found as a long word
  pub long_found : (name : Text) → is_among names name ≡ true → arg_by_long rules name ≡ Some (built_rule name)
  long_found name among = by_long names name ∙ ap (λ b. cond b (Some (built_rule name)) None) among

  -- and as an id
  pub id_found : (name : Text) → is_among names name ≡ true → arg_by_id rules name ≡ Some (built_rule name)
  id_found name among = by_id names name ∙ ap (λ b. cond b (Some (built_rule name)) None) among

  -- `--name=text`
  pub value_turn : (rows : List Row) (pending : Option (Text × List Text)) (word name text : Text) →
      is_dashes word ≡ false → long_of word ≡ Some (name, Some text) → is_among names name ≡ true →
      turn rows pending idle word
      ≡ or_else (or_else (settle_fault rules false (held rows pending))
      (use_fault false (built_rule name) (text ∷ []) (settled_rows rules pending rows))) []
  value_turn rows pending word name text dashes long among =
      rw (dashes, long, long_found name among) refl

  -- `--name=text` goes on behind the text
  pub value_next : (rows : List Row) (pending : Option (Text × List Text)) (word name text : Text) →
      is_dashes word ≡ false → long_of word ≡ Some (name, Some text) → is_among names name ≡ true →
      next rows pending idle word ≡ at (used (built_rule name) (text ∷ []) (settled_rows rules pending rows)) None idle
  unfolding walked
  value_next rows pending word name text dashes long among =
      rw (dashes, long, long_found name among) refl

  -- `--name`
  pub alone_turn : (rows : List Row) (pending : Option (Text × List Text)) (word name : Text) →
      is_dashes word ≡ false → long_of word ≡ Some (name, None) → is_among names name ≡ true →
      turn rows pending idle word ≡ or_else (settle_fault rules false (held rows pending)) []
  alone_turn rows pending word name dashes long among = rw (dashes, long, long_found name among) refl

  -- `--name` goes on to wait for the text
  pub alone_next : (rows : List Row) (pending : Option (Text × List Text)) (word name : Text) →
      is_dashes word ≡ false → long_of word ≡ Some (name, None) → is_among names name ≡ true →
      next rows pending idle word ≡ at (settled_rows rules pending rows) (Some (name, [])) (option name)
  unfolding walked
  alone_next rows pending word name dashes long among = rw (dashes, long, long_found name among) refl

  -- `--` with no name of an option
  pub unknown_turn : (rows : List Row) (pending : Option (Text × List Text)) (word name : Text) (value : Option Text) →
      is_dashes word ≡ false → long_of word ≡ Some (name, value) → is_among names name ≡ false →
      turn rows pending idle word ≡ kind.UnknownArgument ∷ []
  unknown_turn rows pending word name value dashes long among =
      rw (dashes, long, by_long names name, among) refl

  -- a word of flags, or none
  stray_flags : (rows : List Row) (pending : Option (Text × List Text)) (word flags : Text) (k : ℕ) →
      let met = bundle_met rules k flags 0 plain (held rows pending) in
      let after = after_flag rules idle word met.0 met.1 in
      or_else (flags_fault rules false k flags 0 (held rows pending))
      (step_fault (built_shape names) 1 after.0 after.1) ≡ kind.UnknownArgument ∷ []
  unfolding bundle_met flags_fault
  stray_flags rows pending word flags zero = rw (by_index names 1) refl
  stray_flags rows pending word flags (suc k) = go (slice_get (chars flags) 0) refl
    where
      go : (first : Option ℕ) → slice_get (chars flags) 0 ≡ first →
          (let met = bundle_met rules (suc k) flags 0 plain (held rows pending) in
          let after = after_flag rules idle word met.0 met.1 in
          or_else (flags_fault rules false (suc k) flags 0 (held rows pending))
          (step_fault (built_shape names) 1 after.0 after.1) ≡ kind.UnknownArgument ∷ [])
      go None e = rw (e, by_index names 1) refl
      go (Some x) e = rw (e, by_short names x) refl

  -- a word that is no option at all is an unknown argument
  pub stray_turn : (rows : List Row) (pending : Option (Text × List Text)) (word : Text) →
      is_dashes word ≡ false → long_of word ≡ None → turn rows pending idle word ≡ kind.UnknownArgument ∷ []
  stray_turn rows pending word dashes long = go (short_of word) refl
    where
      go : (short : Option Text) → short_of word ≡ short → turn rows pending idle word ≡ kind.UnknownArgument ∷ []
      go None short = rw (dashes, long, short, by_index names 1) refl
      go (Some flags) short = rw (dashes, long, short) (stray_flags rows pending word flags (length flags))

  -- ---- the word behind `--name`

  -- it has no hyphen in front
  pub text_turn : (rows : List Row) (name word : Text) → is_among names name ≡ true → IsPlainText word →
      (turn rows (Some (name, [])) (option name) word ≡ [])
      × (next rows (Some (name, [])) (option name) word ≡ at rows (Some (name, word ∷ [])) idle)
  unfolding walked
  text_turn rows name [] among is = absurd is
  text_turn rows name (byte ∷ bytes) among is =
      let same : bytes_eq name name ≡ true = (bytes_eq-Decides name name).1 refl in
      (rw (is, is) refl, rw (is, is, id_found name among, same) refl)

  -- clap refuses a word with two hyphens there
  pub long_after_name : (rows : List Row) (name word given : Text) (value : Option Text) → is_among names name ≡ true →
      is_dashes word ≡ false → long_of word ≡ Some (given, value) → turn rows (Some (name, [])) (option name) word ≢ []
  long_after_name rows name word given value among dashes long none = go (is_among names given) refl value long
    where
      go : (known : Bool) → is_among names given ≡ known → (v : Option Text) → long_of word ≡ Some (given, v) → ⊥
      go false unknown v e = let bad = rw (dashes, e, by_long names given, unknown) at none in cc
      go true known None e = let bad = rw (dashes, e, long_found given known, id_found name among) at none in cc
      go true known (Some text) e = let bad = rw (dashes, e, long_found given known, id_found name among) at none in cc

  -- what it does not refuse it takes as the text
  pub taken_text : (rows : List Row) (name word : Text) → is_among names name ≡ true → is_dashes word ≡ false →
      long_of word ≡ None → turn rows (Some (name, [])) (option name) word ≡ [] →
      next rows (Some (name, [])) (option name) word ≡ at rows (Some (name, word ∷ [])) idle
  unfolding walked bundle_met flags_fault
  taken_text rows name word among dashes long none = go (short_of word) refl
    where
      same : bytes_eq name name ≡ true
      same = (bytes_eq-Decides name name).1 refl

      flags_go : (flags : Text) → short_of word ≡ Some flags → (k : ℕ) → length flags ≡ k → (first : Option ℕ) →
          slice_get (chars flags) 0 ≡ first →
          next rows (Some (name, [])) (option name) word ≡ at rows (Some (name, word ∷ [])) idle
      flags_go flags short zero many first e = rw (dashes, long, short, many, id_found name among, same) refl
      flags_go flags short (suc k) many None e = rw (dashes, long, short, many, e, id_found name among, same) refl
      flags_go flags short (suc k) many (Some x) e =
          let bad = rw (dashes, long, short, many, e, by_short names x) at none in cc

      go : (short : Option Text) → short_of word ≡ short →
          next rows (Some (name, [])) (option name) word ≡ at rows (Some (name, word ∷ [])) idle
      go None short = rw (dashes, long, short, id_found name among, same) refl
      go (Some flags) short = flags_go flags short (length flags) refl (slice_get (chars flags) 0) refl

  -- ---- the end

  -- a name with no text behind it
  pub no_text : (rows : List Row) (name : Text) → is_among names name ≡ true →
      settle_fault rules false (held rows (Some (name, []))) ≢ []
  no_text rows name among none = let bad = rw (id_found name among) at none in cc
