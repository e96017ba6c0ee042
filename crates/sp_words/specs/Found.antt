-- What `clap` finds of the options, and the command that it is given. For the proofs of this crate.
use Rattle.std.specs.Prelude.{◌≡◌, ◌==◌, Bool, true, false, List, [], ◌∷◌, map, Some, codes, option_map}
use Rattle.std.specs.Str.{bytes_eq}
use Rattle.clap.specs.Words.{App, Rule, new_app, new_rule}
use Rattle.clap.specs.declared.builder.action.ArgAction.TheVariants.{Set}
use Rattle.sp_words.specs.Words.{Text, text_of}
use Rattle.sp_words.specs.declared.found.Texts.{Texts}

-- an option of one value
abbrev pub plain_rule : Text → Rule
plain_rule name = record (new_rule name) { long = Some name; action = Some Set }

-- a command of these options alone
abbrev pub program : List Text → App
program names = record {
  top = record (new_app (codes "specht")).top {
    rules = map plain_rule names;
    no_binary_name = true;
    disable_help_flag = true;
  };
  subs = [];
}

abbrev pub is_dashes : Text → Bool
is_dashes word = bytes_eq word (45 ∷ 45 ∷ [])

-- A text that begins with no hyphen, and is not empty.
abbrev pub IsPlainText : Text → Type 0
IsPlainText [] = ⊥
IsPlainText (byte ∷ bytes) = (byte == 45) ≡ false

abbrev pub ArePlain : List (Text × Text) → Type 0
ArePlain [] = Unit {0}
ArePlain (option ∷ options) = IsPlainText option.1 × ArePlain options

pub record HasTexts (texts : Texts) (options : List (Text × Text)) : Type 0 where
  pub workers : option_map (λ s. s.now) texts.workers ≡ text_of (codes "workers") options
  pub limit : option_map (λ s. s.now) texts.limit ≡ text_of (codes "limit") options
  pub generate : option_map (λ s. s.now) texts.generate ≡ text_of (codes "generate") options
