-- What `clap` finds in words, and how words spell options.
use Rattle.std.proofs.Common.{◌≡◌, ℕ, ◌+◌, ◌++◌, ◌==◌, Bool, true, false, cond, List, [], ◌∷◌, map}
use Rattle.std.proofs.Common.{Option, Some, None, refl, sym, ◌∙◌, ap, subst, arith, codes, inl, inr}
use Rattle.std.proofs.Common.{append_assoc, append-nil, eqb-true}
use Rattle.std.proofs.Common.{suc, fold, ap₂}
use Rattle.std.proofs.lemmas.Bool.{or_parts}
use Rattle.std.specs.List.{list_any, before_first, after_first, position_or_len}
use Rattle.clap.specs.Walk.{Held, Row, Waiting, Walk, idle, option, settled, settled_rows, used, walked}
use Rattle.clap.specs.Kinds.{Kinds, or_else}
use Rattle.clap.specs.Faults.{settle_fault, use_fault, walk_fault}
use Rattle.sp_words.proofs.Turns.{alone_next, alone_turn, at, built_rule, built_shape, held, id_found, new_use, next}
use Rattle.sp_words.proofs.Turns.{or_else_nil}
use Rattle.sp_words.proofs.Turns.{row, rules, long_after_name, no_text, stray_turn, taken_text, text_turn, turn}
use Rattle.sp_words.proofs.Turns.{unknown_turn}
use Rattle.sp_words.proofs.Turns.{use_new, used_new, value_next, value_turn}
use Rattle.clap.specs.Lexer.{has_byte, long_of}
use Rattle.sp_words.specs.Found.{ArePlain, is_dashes}
use Rattle.sp_words.specs.Words.{AreNewOptions, Spells, Text, is_among, text_of}

-- ---- how a word with two hyphens is cut

abbrev with_value : Text → Option Text → Text
with_value name None = name
with_value name (Some text) = name ++ (codes "=" ++ text)

abbrev is_equals : ℕ → Bool
is_equals b = b == 61

with_one_more : (b : ℕ) (name : Text) (has : Bool) (text : Text) →
    with_value (b ∷ name) (cond has (Some text) None) ≡ b ∷ with_value name (cond has (Some text) None)
with_one_more b name true text = refl
with_one_more b name false text = refl

cut_joined : (bytes : Text) →
    with_value (before_first is_equals bytes)
    (cond (has_byte 61 bytes) (Some (after_first is_equals bytes)) None) ≡ bytes
cut_joined [] = refl
cut_joined (b ∷ bytes) = go (b == 61) refl (cut_joined bytes)
  where
    go : (is : Bool) → (b == 61) ≡ is →
        with_value (before_first is_equals bytes) (cond (has_byte 61 bytes) (Some (after_first is_equals bytes)) None)
        ≡ bytes →
        with_value (before_first is_equals (b ∷ bytes))
        (cond (has_byte 61 (b ∷ bytes)) (Some (after_first is_equals (b ∷ bytes))) None) ≡ b ∷ bytes
    go true is rest = rw is (ap (λ x. x ∷ bytes) (sym (eqb-true b 61 is)))
    go false is rest =
        let n : ℕ = position_or_len is_equals bytes in
        let one : 1 + n ≡ suc n = omega arith in
        let two : suc n + 1 ≡ suc (n + 1) = omega arith in
        rw (is, one, two)
        (with_one_more b (before_first is_equals bytes) (has_byte 61 bytes) (after_first is_equals bytes)
        ∙ ap (λ left. b ∷ left) rest)

joined_of : Option (Text × Option Text) → Text
joined_of None = []
joined_of (Some cut) = with_value cut.0 cut.1

-- A word that `clap` cuts so is the name, and the text behind `=` where it has one.
pub long_word : (word name : Text) (value : Option Text) → long_of word ≡ Some (name, value) →
    word ≡ 45 ∷ 45 ∷ with_value name value
unfolding joined_of
long_word [] name value e = cc
long_word (a ∷ []) name value e = go (a == 45) refl
  where
    go : (is : Bool) → (a == 45) ≡ is → a ∷ [] ≡ 45 ∷ 45 ∷ with_value name value
    go true is = let bad = rw is at e in cc
    go false is = let bad = rw is at e in cc
long_word (a ∷ b ∷ []) name value e = go (a == 45) refl (b == 45) refl
  where
    go : (one : Bool) → (a == 45) ≡ one → (two : Bool) → (b == 45) ≡ two → a ∷ b ∷ [] ≡ 45 ∷ 45 ∷ with_value name value
    go true one true two = let bad = rw (one, two) at e in cc
    go true one false two = let bad = rw (one, two) at e in cc
    go false one second two = let bad = rw one at e in cc
long_word (a ∷ b ∷ c ∷ rest) name value e = go (a == 45) refl (b == 45) refl
  where
    go : (one : Bool) → (a == 45) ≡ one → (two : Bool) → (b == 45) ≡ two →
        a ∷ b ∷ c ∷ rest ≡ 45 ∷ 45 ∷ with_value name value
    go true one true two =
        let is = rw (one, two) at e in
        rw (eqb-true a 45 one, eqb-true b 45 two)
        (ap (λ t. 45 ∷ 45 ∷ t) (sym (cut_joined (c ∷ rest)) ∙ ap joined_of is))
    go true one false two = let bad = rw (one, two) at e in cc
    go false one second two = let bad = rw one at e in cc

-- ---- what is found

-- how `clap` reads a word that begins with this name
pub record IsName (name : Text) : Type 0 where
  pub alone : long_of (codes "--" ++ name) ≡ Some (name, None)
  pub alone_dashes : is_dashes (codes "--" ++ name) ≡ false
  pub joined : (text : Text) → long_of (codes "--" ++ (name ++ (codes "=" ++ text))) ≡ Some (name, Some text)
  pub joined_dashes : (text : Text) → is_dashes (codes "--" ++ (name ++ (codes "=" ++ text))) ≡ false

module _ (names : List Text) where
  -- what is held after a walk over words
  abbrev pub ends : Walk → List Text → Held
  ends walk words = (fold (walked (rules names) []) walk words).held

  -- the kinds of fault where the walk settles
  abbrev pub settles : List Row → Option (Text × List Text) → Kinds
  settles rows pending = settle_fault (rules names) false (held rows pending)

  -- from a place in the walk with these options before it, the words spell new options and all are found
  pub record Finds (rows : List Row) (pending : Option (Text × List Text)) (done : List (Text × Text))
      (words : List Text) : Type 0 where
    pub options : List (Text × Text)
    pub spelled : Spells words options
    pub new : AreNewOptions names done options
    pub rows_are : (settled (rules names) (ends (at rows pending idle) words)).rows ≡ map row (done ++ options)
    pub clear : settles rows pending ≡ []

  one_more : (words rest : List Text) (rows next_rows : List Row) (pending next_pending : Option (Text × List Text))
      (done : List (Text × Text)) (o : Text × Text) →
      ((options : List (Text × Text)) → Spells rest options → Spells words (o ∷ options)) →
      is_among names o.0 ≡ true → text_of o.0 done ≡ None → settles rows pending ≡ [] →
      ends (at rows pending idle) words ≡ ends (at next_rows next_pending idle) rest →
      Finds next_rows next_pending (done ++ o ∷ []) rest → Finds rows pending done words
  one_more words rest rows next_rows pending next_pending done o spells among new clear same found = record {
    options = o ∷ found.options;
    spelled = spells found.options found.spelled;
    new = (among, new, found.new);
    rows_are = ap (λ (h : Held). (settled (rules names) h).rows) same ∙ found.rows_are
        ∙ ap (map row) (append_assoc done (o ∷ []) found.options);
    clear = clear;
  }

  -- after `--name=text`
  pub value_step : (rows : List Row) (pending : Option (Text × List Text)) (done : List (Text × Text))
      (word name text : Text) → is_dashes word ≡ false → long_of word ≡ Some (name, Some text) →
      is_among names name ≡ true →
      (settles rows pending ≡ [] → settled_rows (rules names) pending rows ≡ map row done) →
      turn names rows pending idle word ≡ [] → (settles rows pending ≡ []) × (text_of name done ≡ None)
      × (next names rows pending idle word ≡ at (map row (done ++ (name, text) ∷ [])) None idle)
  value_step rows pending done word name text dashes long among settled none =
      let turned = value_turn names rows pending word name text dashes long among in
      let faults = or_else_nil _ _ (or_else_nil _ _ (sym turned ∙ none)).0 in
      let rows_are = settled faults.0 in
      let new = new_use done name text (subst (λ (r : List Row). use_fault false (built_rule name) (text ∷ []) r ≡ [])
      rows_are faults.1) in (
        faults.0,
        new,
        value_next names rows pending word name text dashes long among
            ∙ ap (λ r. at r None idle) (ap (used (built_rule name) (text ∷ [])) rows_are ∙ used_new done name text new),
      )

  -- after `--name`
  pub alone_step : (rows : List Row) (pending : Option (Text × List Text)) (done : List (Text × Text))
      (word name : Text) →
      is_dashes word ≡ false → long_of word ≡ Some (name, None) → is_among names name ≡ true →
      (settles rows pending ≡ [] → settled_rows (rules names) pending rows ≡ map row done) →
      turn names rows pending idle word ≡ [] → (settles rows pending ≡ [])
      × (next names rows pending idle word ≡ at (map row done) (Some (name, [])) (option name))
  alone_step rows pending done word name dashes long among settled none =
      let clear = (or_else_nil _ _ (sym (alone_turn names rows pending word name dashes long among) ∙ none)).0 in (
        clear,
        alone_next names rows pending word name dashes long among
            ∙ ap (λ r. at r (Some (name, [])) (option name)) (settled clear),
      )

  -- the text of the option that was named last is its only one
  pub last_new : (done : List (Text × Text)) (name text : Text) → is_among names name ≡ true →
      settles (map row done) (Some (name, text ∷ [])) ≡ [] → text_of name done ≡ None
  last_new done name text among none = new_use done name text (rw (id_found names name among) at none)

  -- It is the last that was found.
  pub last_settled : (done : List (Text × Text)) (name text : Text) → is_among names name ≡ true →
      text_of name done ≡ None →
      settled_rows (rules names) (Some (name, text ∷ [])) (map row done) ≡ map row (done ++ (name, text) ∷ [])
  last_settled done name text among new = rw (id_found names name among) (used_new done name text new)

  walk_step : (rows : List Row) (pending : Option (Text × List Text)) (waiting : Waiting) (word : Text)
      (rest : List Text) → walk_fault (built_shape names) [] (at rows pending waiting) (word ∷ rest) ≡ [] →
      (turn names rows pending waiting word ≡ [])
      × (walk_fault (built_shape names) [] (next names rows pending waiting word) rest ≡ [])
  unfolding walk_fault
  walk_step rows pending waiting word rest none = or_else_nil _ _ none

  -- Where no word is `--` and `clap` finds no fault, it finds the options that the words spell.
  abbrev pub FindsAll : List Text → Type 0
  FindsAll words = list_any is_dashes words ≡ false → (rows : List Row) (pending : Option (Text × List Text))
      (done : List (Text × Text)) →
      (settles rows pending ≡ [] → settled_rows (rules names) pending rows ≡ map row done) →
      walk_fault (built_shape names) [] (at rows pending idle) words ≡ [] →
      settle_fault (rules names) false (ends (at rows pending idle) words) ≡ [] → Finds rows pending done words

  no_word : FindsAll []
  no_word dashes rows pending done settled faults last = record {
    options = [];
    spelled = refl;
    new = tt;
    rows_are = settled last ∙ sym (ap (map row) (append-nil done));
    clear = last;
  }

  value_case : (word : Text) (rest : List Text) (name text : Text) → FindsAll rest →
      long_of word ≡ Some (name, Some text) → FindsAll (word ∷ rest)
  value_case word rest name text finds long dashes rows pending done settled faults last =
      go (is_among names name) refl
    where
      no_dashes : (is_dashes word ≡ false) × (list_any is_dashes rest ≡ false)
      no_dashes = or_parts _ _ dashes

      steps : (turn names rows pending idle word ≡ [])
          × (walk_fault (built_shape names) [] (next names rows pending idle word) rest ≡ [])
      steps = walk_step rows pending idle word rest faults

      go : (known : Bool) → is_among names name ≡ known → Finds rows pending done (word ∷ rest)
      go false unknown =
          let bad = sym (unknown_turn names rows pending word name (Some text) no_dashes.0 long unknown) ∙ steps.0 in cc
      go true known =
          let step = value_step rows pending done word name text no_dashes.0 long known settled steps.0 in
          let there = at (map row (done ++ (name, text) ∷ [])) None idle in
          let more = finds no_dashes.1 (map row (done ++ (name, text) ∷ [])) None (done ++ (name, text) ∷ [])
          (λ _. refl)
          (subst (λ (w : Walk). walk_fault (built_shape names) [] w rest ≡ []) step.2 steps.1)
          (subst (λ (w : Walk). settle_fault (rules names) false (ends w rest) ≡ []) step.2 last) in
          one_more (word ∷ rest) rest rows (map row (done ++ (name, text) ∷ [])) pending None done (name, text)
          (λ options spelled. inl (rest, ap (λ w. w ∷ rest) (long_word word name (Some text) long), spelled))
          known step.1 step.0 (ap (λ (w : Walk). ends w rest) step.2) more

  stray_case : (word : Text) (rest : List Text) → long_of word ≡ None → FindsAll (word ∷ rest)
  stray_case word rest long dashes rows pending done settled faults last =
      let bad = sym (stray_turn names rows pending word (or_parts _ _ dashes).0 long)
      ∙ (walk_step rows pending idle word rest faults).0 in cc

  unknown_case : (word : Text) (rest : List Text) (name : Text) (value : Option Text) →
      long_of word ≡ Some (name, value) → is_among names name ≡ false → FindsAll (word ∷ rest)
  unknown_case word rest name value long unknown dashes rows pending done settled faults last =
      let bad = sym (unknown_turn names rows pending word name value (or_parts _ _ dashes).0 long unknown)
      ∙ (walk_step rows pending idle word rest faults).0 in cc

  -- a name with no word behind it
  alone_last : (word name : Text) → long_of word ≡ Some (name, None) → is_among names name ≡ true → FindsAll (word ∷ [])
  alone_last word name long known dashes rows pending done settled faults last =
      let steps = walk_step rows pending idle word [] faults in
      let step = alone_step rows pending done word name (or_parts _ _ dashes).0 long known settled steps.0 in
      absurd (no_text names (map row done) name known
      (subst (λ (w : Walk). settle_fault (rules names) false (ends w []) ≡ []) step.1 last))

  -- a name with a word behind it
  alone_case : (word text : Text) (rest : List Text) (name : Text) → FindsAll rest →
      long_of word ≡ Some (name, None) → is_among names name ≡ true → FindsAll (word ∷ text ∷ rest)
  alone_case word text rest name finds long known dashes rows pending done settled faults last =
      go (long_of text) refl
    where
      no_dashes : (is_dashes word ≡ false) × (list_any is_dashes (text ∷ rest) ≡ false)
      no_dashes = or_parts _ _ dashes

      steps : (turn names rows pending idle word ≡ [])
          × (walk_fault (built_shape names) [] (next names rows pending idle word) (text ∷ rest) ≡ [])
      steps = walk_step rows pending idle word (text ∷ rest) faults

      first : (settles rows pending ≡ [])
          × (next names rows pending idle word ≡ at (map row done) (Some (name, [])) (option name))
      first = alone_step rows pending done word name no_dashes.0 long known settled steps.0

      second : (turn names (map row done) (Some (name, [])) (option name) text ≡ [])
          × (walk_fault (built_shape names) [] (next names (map row done) (Some (name, [])) (option name) text) rest
          ≡ [])
      second = walk_step (map row done) (Some (name, [])) (option name) text rest
          (subst (λ (w : Walk). walk_fault (built_shape names) [] w (text ∷ rest) ≡ []) first.1 steps.1)

      go : (cut : Option (Text × Option Text)) → long_of text ≡ cut → Finds rows pending done (word ∷ text ∷ rest)
      go (Some cut) long_text = absurd (long_after_name names (map row done) name text cut.0 cut.1 known
          (or_parts _ _ no_dashes.1).0 long_text second.0)
      go None long_text =
          let goes = taken_text names (map row done) name text known (or_parts _ _ no_dashes.1).0 long_text second.0 in
          let same : ends (at rows pending idle) (word ∷ text ∷ rest)
          ≡ ends (at (map row done) (Some (name, text ∷ [])) idle) rest =
          ap (λ (w : Walk). ends w (text ∷ rest)) first.1 ∙ ap (λ (w : Walk). ends w rest) goes in
          let more = finds (or_parts _ _ no_dashes.1).1 (map row done) (Some (name, text ∷ []))
          (done ++ (name, text) ∷ [])
          (λ clear. last_settled done name text known (last_new done name text known clear))
          (subst (λ (w : Walk). walk_fault (built_shape names) [] w rest ≡ []) goes second.1)
          (subst (λ (h : Held). settle_fault (rules names) false h ≡ []) same last) in
          one_more (word ∷ text ∷ rest) rest rows (map row done) pending (Some (name, text ∷ [])) done (name, text)
          (λ options spelled. inr (rest, ap (λ w. w ∷ text ∷ rest) (long_word word name None long), spelled))
          known (last_new done name text known more.clear) first.0 same more

  -- Of all words.
  pub found : (words : List Text) → FindsAll words
  found [] = no_word
  found (word ∷ []) = go (long_of word) refl
    where
      cut_go : (name : Text) (value : Option Text) → long_of word ≡ Some (name, value) →
          (known : Bool) → is_among names name ≡ known → FindsAll (word ∷ [])
      cut_go name (Some text) long known is = value_case word [] name text no_word long
      cut_go name None long false is = unknown_case word [] name None long is
      cut_go name None long true is = alone_last word name long is

      go : (cut : Option (Text × Option Text)) → long_of word ≡ cut → FindsAll (word ∷ [])
      go None long = stray_case word [] long
      go (Some cut) long = cut_go cut.0 cut.1 long (is_among names cut.0) refl
  found (word ∷ text ∷ rest) = go (found (text ∷ rest)) (found rest) (long_of word) refl
    where
      cut_go : FindsAll (text ∷ rest) → FindsAll rest → (name : Text) (value : Option Text) →
          long_of word ≡ Some (name, value) → (known : Bool) → is_among names name ≡ known →
          FindsAll (word ∷ text ∷ rest)
      cut_go one two name (Some value) long known is = value_case word (text ∷ rest) name value one long
      cut_go one two name None long false is = unknown_case word (text ∷ rest) name None long is
      cut_go one two name None long true is = alone_case word text rest name two long is

      go : FindsAll (text ∷ rest) → FindsAll rest → (cut : Option (Text × Option Text)) → long_of word ≡ cut →
          FindsAll (word ∷ text ∷ rest)
      go one two None long = stray_case word (text ∷ rest) long
      go one two (Some cut) long = cut_go one two cut.0 cut.1 long (is_among names cut.0) refl

  -- ---- what is allowed is found

  -- From a place in the walk with these options before it, no fault is met, and all options are found.
  pub record Passes (rows : List Row) (pending : Option (Text × List Text)) (done options : List (Text × Text))
      (words : List Text) : Type 0 where
    pub faultless : walk_fault (built_shape names) [] (at rows pending idle) words ≡ []
    pub last : settle_fault (rules names) false (ends (at rows pending idle) words) ≡ []
    pub rows_are : (settled (rules names) (ends (at rows pending idle) words)).rows ≡ map row (done ++ options)

  -- Of all options.
  pub passes : ((name : Text) → is_among names name ≡ true → IsName name) → (options : List (Text × Text))
      (words : List Text) → Spells words options → (rows : List Row) (pending : Option (Text × List Text))
      (done : List (Text × Text)) → AreNewOptions names done options → ArePlain options → settles rows pending ≡ [] →
      settled_rows (rules names) pending rows ≡ map row done → Passes rows pending done options words
  unfolding walk_fault
  passes is_name [] words spelled rows pending done new plain clear rows_now =
      subst (Passes rows pending done []) (sym spelled)
      (record {
        faultless = refl;
        last = clear;
        rows_are = rows_now ∙ sym (ap (map row) (append-nil done));
      })
  passes is_name (o ∷ options) words (inl joined) rows pending done new plain clear rows_now =
      let word = codes "--" ++ (o.0 ++ (codes "=" ++ o.1)) in
      let reads = is_name o.0 new.0 in
      let goes = value_next names rows pending word o.0 o.1 (reads.joined_dashes o.1) (reads.joined o.1) new.0
      ∙ ap (λ r. at r None idle) (ap (used (built_rule o.0) (o.1 ∷ [])) rows_now ∙ used_new done o.0 o.1 new.1) in
      let more = passes is_name options joined.0 joined.2 (map row (done ++ o ∷ [])) None (done ++ o ∷ []) new.2 plain.1
      refl refl in
      let use_faultless : use_fault false (built_rule o.0) (o.1 ∷ []) (settled_rows (rules names) pending rows) ≡ [] =
      rw rows_now (use_new done o.0 o.1 new.1) in
      let turn_faultless : turn names rows pending idle word ≡ [] =
      value_turn names rows pending word o.0 o.1 (reads.joined_dashes o.1) (reads.joined o.1) new.0
      ∙ ap₂ (λ a b. or_else (or_else a b) []) clear use_faultless in
      subst (Passes rows pending done (o ∷ options)) (sym joined.1)
      (record {
        faultless = ap₂ or_else turn_faultless
            (ap (λ (w : Walk). walk_fault (built_shape names) [] w joined.0) goes ∙ more.faultless);
        last = ap (λ (w : Walk). settle_fault (rules names) false (ends w joined.0)) goes ∙ more.last;
        rows_are = ap (λ (w : Walk). (settled (rules names) (ends w joined.0)).rows) goes ∙ more.rows_are
            ∙ ap (map row) (append_assoc done (o ∷ []) options);
      })
  passes is_name (o ∷ options) words (inr apart) rows pending done new plain clear rows_now =
      let word = codes "--" ++ o.0 in
      let reads = is_name o.0 new.0 in
      let first = alone_next names rows pending word o.0 reads.alone_dashes reads.alone new.0
      ∙ ap (λ r. at r (Some (o.0, [])) (option o.0)) rows_now in
      let text = text_turn names (map row done) o.0 o.1 new.0 plain.0 in
      let more = passes is_name options apart.0 apart.2 (map row done) (Some (o.0, o.1 ∷ [])) (done ++ o ∷ []) new.2
      plain.1 (rw (id_found names o.0 new.0) (use_new done o.0 o.1 new.1)) (last_settled done o.0 o.1 new.0 new.1) in
      let turn_faultless : turn names rows pending idle word ≡ [] =
      alone_turn names rows pending word o.0 reads.alone_dashes reads.alone new.0 ∙ ap (λ a. or_else a []) clear in
      let behind : walk_fault (built_shape names) [] (at (map row done) (Some (o.0, [])) (option o.0)) (o.1 ∷ apart.0)
      ≡ [] =
      ap₂ or_else text.0 (ap (λ (w : Walk). walk_fault (built_shape names) [] w apart.0) text.1 ∙ more.faultless) in
      let same : ends (at rows pending idle) (word ∷ o.1 ∷ apart.0)
      ≡ ends (at (map row done) (Some (o.0, o.1 ∷ [])) idle) apart.0 =
      ap (λ (w : Walk). ends w (o.1 ∷ apart.0)) first ∙ ap (λ (w : Walk). ends w apart.0) text.1 in
      subst (Passes rows pending done (o ∷ options)) (sym apart.1)
      (record {
        faultless = ap₂ or_else turn_faultless
            (ap (λ (w : Walk). walk_fault (built_shape names) [] w (o.1 ∷ apart.0)) first ∙ behind);
        last = ap (λ (h : Held). settle_fault (rules names) false h) same ∙ more.last;
        rows_are = ap (λ (h : Held). (settled (rules names) h).rows) same ∙ more.rows_are
            ∙ ap (map row) (append_assoc done (o ∷ []) options);
      })
