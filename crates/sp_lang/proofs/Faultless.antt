-- What is known of words in which no fault is found.
use Rattle.std.proofs.Common.{◌≡◌, ℕ, zero, suc, Bool, true, false, cond, List, [], ◌∷◌, length}
use Rattle.std.proofs.Common.{refl, subst, arith, eqb, eqb-true, slice_get}
use Rattle.std.proofs.lemmas.Bool.{or_parts, not-false}
use Rattle.std.specs.Prelude.{Some, None, find}
use Rattle.std.specs.List.{AllByRecursion}
use Rattle.std.specs.Option.{option_map}
use Rattle.sp_defs.specs.Partition.{degree}
use Rattle.sp_lang.specs.Commands.{number, partition, word_at}
use Rattle.sp_lang.specs.Faults.{is_no_number, is_no_partition, is_no_e, passes_limit}
use Rattle.sp_lang.specs.Faults.{passes_together, is_of_other_degree, is_no_residue, is_irregular, is_no_label}
use Rattle.sp_lang.specs.Faults.{any_word, faults, first_fault}
use Rattle.sp_lang.specs.declared.convention.Convention.{Convention}
use Rattle.sp_lang.specs.declared.fault.LineFault.{LineFault}
use Rattle.sp_lang.specs.declared.verb.Place.{Place}

-- What is known of the words of a line that has no fault.
pub record Faultless (convention : Convention) (places : List Place) (ws : List (List ℕ)) : Type 0 where
  pub count : length ws ≡ length places
  pub numbers : any_word is_no_number places ws ≡ false
  pub partitions : any_word is_no_partition places ws ≡ false
  pub e_range : any_word is_no_e places ws ≡ false
  pub limit : any_word (passes_limit (number (word_at ws 2))) places ws ≡ false
  pub together : any_word (passes_together (degree (partition (word_at ws 0)))) places ws ≡ false
  pub peers : any_word (is_of_other_degree (degree (partition (word_at ws 0)))) places ws ≡ false
  pub residues : any_word (is_no_residue (number (word_at ws 0))) places ws ≡ false
  pub labels : any_word (is_irregular (number (word_at ws 0))) places ws ≡ false
  pub headings : any_word (is_no_label convention (number (word_at ws 0))) places ws ≡ false

-- A search that finds nothing has passed over all.
none_there : (fs : List (LineFault × Bool)) →
    option_map (λ (f : LineFault × Bool). f.0) (find (λ f. f.1) fs) ≡ None →
    AllByRecursion (λ f. f.1 ≡ false) fs
none_there [] h = tt
none_there (f ∷ fs) h = by_test f.1 refl (none_there fs) h
  where
    by_test : (t : Bool) → f.1 ≡ t →
        (option_map (λ (f : LineFault × Bool). f.0) (find (λ f. f.1) fs) ≡ None →
        AllByRecursion (λ f. f.1 ≡ false) fs) →
        option_map (λ (f : LineFault × Bool). f.0) (cond t (Some f) (find (λ f. f.1) fs)) ≡ None →
        (f.1 ≡ false) × AllByRecursion (λ f. f.1 ≡ false) fs
    by_test true is rest h = absurd (cc)
    by_test false is rest h = (is, rest h)

-- Where no fault is found, no word is wrong.
pub faultless : (convention : Convention) (places : List Place) (ws : List (List ℕ)) →
    first_fault convention places ws ≡ None → Faultless convention places ws
unfolding first_fault
faultless convention places ws h =
    let none = none_there (faults convention places ws) h in
    record {
      count = eqb-true (length ws) (length places) (not-false (eqb (length ws) (length places)) none.0);
      numbers = none.1.0;
      partitions = none.1.1.0;
      e_range = none.1.1.1.0;
      limit = none.1.1.1.1.0;
      together = none.1.1.1.1.1.0;
      peers = none.1.1.1.1.1.1.0;
      residues = none.1.1.1.1.1.1.1.0;
      labels = none.1.1.1.1.1.1.1.1.0;
      headings = none.1.1.1.1.1.1.1.1.1.0;
    }

-- What is wrong nowhere isn't wrong at place k.
pub right_at : (wrong : Place → List ℕ → Bool) (places : List Place) (ws : List (List ℕ)) (place : Place) (k : ℕ) →
    length ws ≡ length places → any_word wrong places ws ≡ false → slice_get places k ≡ Some place →
    wrong place (word_at ws k) ≡ false
right_at wrong [] ws place k e h at = absurd (cc)
right_at wrong (p ∷ ps) [] place k e h at = absurd (omega arith)
right_at wrong (p ∷ ps) (w ∷ ws) place zero e h at =
    let here = or_parts (wrong p w) (any_word wrong ps ws) h in
    let same : p ≡ place = cc in
    subst (λ q. wrong q w ≡ false) same here.0
right_at wrong (p ∷ ps) (w ∷ ws) place (suc k) e h at =
    right_at wrong ps ws place k (omega arith) (or_parts (wrong p w) (any_word wrong ps ws) h).1 at
