-- The fields of a command whose words have no fault.
use Rattle.std.proofs.Common.{◌≡◌, ℕ, ◌≤◌, List, refl, sym, ◌∙◌, ap, ap₂, arith, slice_get}
use Rattle.std.specs.Prelude.{Some}
use Rattle.sp_lang.specs.Convention.{convention_said}
use Rattle.sp_lang.specs.Commands.{places_of, command_of, number, partition, weight, word_at}
use Rattle.sp_lang.specs.Given.{IsCommand, IsWithE, IsGivenLabel, IsHeading}
use Rattle.sp_lang.specs.Values.{number_read, partition_read, value_of, value_at, byte_said, partition_said}
use Rattle.sp_lang.specs.Values.{fitting, all_fitting, read_all, words_of, given_command}
use Rattle.sp_lang.specs.declared.command.Command.TheVariants as command
use Rattle.sp_lang.specs.declared.convention.Convention.{Convention}
use Rattle.sp_lang.specs.declared.verb.Place.{Place}
use Rattle.sp_lang.specs.declared.verb.Place.TheVariants.{E, Residue, Count, Degree, Partition, Peer, Grown, Factor}
use Rattle.sp_lang.specs.declared.verb.Place.TheVariants.{Label, Heading}
use Rattle.sp_lang.specs.declared.verb.Verb.{Verb}
use Rattle.sp_lang.specs.declared.verb.Verb.TheVariants.{Partitions, Regular, Conjugate, Dominates, Diagram, Hooks}
use Rattle.sp_lang.specs.declared.verb.Verb.TheVariants.{Content, Core, Combine, Abacus, Good, Path, Mullineux}
use Rattle.sp_lang.specs.declared.verb.Verb.TheVariants.{Induce, Ladders, Ladder, Row, Crystal, Decomposition}
use Rattle.sp_lang.specs.declared.verb.Verb.TheVariants.{Block, Painter, Jantzen, Schaper, Dim, Dims}
use Rattle.sp_lang.specs.declared.verb.Verb.TheVariants.{Certificate, Check, Restrict, Commutator, Branch, Product}
use Rattle.sp_lang.specs.declared.verb.Verb.TheVariants.{Fillings, Blocks, Inverse, Simple, Cartan}
use Rattle.sp_lang.specs.declared.verb.Verb.TheVariants as verb
use Rattle.sp_lang.proofs.Faultless.{Faultless}
use Rattle.sp_lang.proofs.ByPlace.{value_there, words_of-read_all, byte_exact, partition_fitting}
use Rattle.sp_lang.proofs.Right.{IsGiven-fits, e_at, residue_at, degree_at, partition_at, peer_at, grown_at}
use Rattle.sp_lang.proofs.Right.{factor_at, label_at, heading_at, quotient_at, weight-small}
use Rattle.sp_lang.proofs.Labels.{label-given}

module _ {convention : Convention} (places : List Place) (ws : List (List ℕ)) (f : Faultless convention places ws) where
  exact_number : (k : ℕ) (place : Place) → slice_get places k ≡ Some place →
      value_of place (word_at ws k) ≡ number_read (word_at ws k) → number (word_at ws k) ≤ 255 →
      byte_said (value_at (read_all places ws) k) ≡ number (word_at ws k)
  exact_number k place at is few =
      ap byte_said (value_there places ws k place f.count at ∙ is) ∙ byte_exact (word_at ws k) few

  exact_parts : (k : ℕ) (place : Place) → slice_get places k ≡ Some place →
      value_of place (word_at ws k) ≡ partition_read (word_at ws k) →
      fitting (word_at ws k) ≡ partition (word_at ws k) →
      partition_said (value_at (read_all places ws) k) ≡ partition (word_at ws k)
  exact_parts k place at is fits =
      ap partition_said (value_there places ws k place f.count at ∙ is) ∙ partition_fitting (word_at ws k) ∙ fits

  exact_e : slice_get places 0 ≡ Some E → byte_said (value_at (read_all places ws) 0) ≡ number (word_at ws 0)
  exact_e at = exact_number 0 E at refl (let e = e_at places ws f 0 at in omega (arith, e.high))

  exact_degree : (k : ℕ) → slice_get places k ≡ Some Degree →
      byte_said (value_at (read_all places ws) k) ≡ number (word_at ws k)
  exact_degree k at = exact_number k Degree at refl (omega (arith, degree_at places ws f k at))

  exact_partition : (k : ℕ) → slice_get places k ≡ Some Partition →
      partition_said (value_at (read_all places ws) k) ≡ partition (word_at ws k)
  exact_partition k at =
      exact_parts k Partition at refl (IsGiven-fits (word_at ws k) (partition_at places ws f k at))

  exact_label : (k : ℕ) → slice_get places k ≡ Some Label →
      partition_said (value_at (read_all places ws) k) ≡ partition (word_at ws k)
  exact_label k at = exact_parts k Label at refl (IsGiven-fits (word_at ws k) (label_at places ws f k at).0)

  exact_factor : (k : ℕ) → slice_get places k ≡ Some Factor →
      partition_said (value_at (read_all places ws) k) ≡ partition (word_at ws k)
  exact_factor k at =
      exact_parts k Factor at refl (IsGiven-fits (word_at ws k) (factor_at places ws f k at).0)

  exact_heading : (k : ℕ) → slice_get places k ≡ Some Heading →
      partition_said (value_at (read_all places ws) k) ≡ partition (word_at ws k)
  exact_heading k at =
      exact_parts k Heading at refl (IsGiven-fits (word_at ws k) (heading_at places ws f k at).0)

  exact_residue : (k : ℕ) → slice_get places 0 ≡ Some E → slice_get places k ≡ Some Residue →
      byte_said (value_at (read_all places ws) k) ≡ number (word_at ws k)
  exact_residue k at_e at =
      exact_number k Residue at refl
      (let e = e_at places ws f 0 at_e in
      omega (arith, e.high, residue_at places ws f k at))

  exact_word : (k : ℕ) → word_at (words_of (read_all places ws)) k ≡ word_at ws k
  exact_word k = ap (λ words. word_at words k) (words_of-read_all places ws f.count)

  with_e : slice_get places 0 ≡ Some E → slice_get places 1 ≡ Some Partition →
      IsWithE (number (word_at ws 0)) (partition (word_at ws 1))
  with_e at_e at_p = (e_at places ws f 0 at_e, partition_at places ws f 1 at_p)

  label : (k : ℕ) → slice_get places 0 ≡ Some E → slice_get places k ≡ Some Label →
      IsGivenLabel (number (word_at ws 0)) (partition (word_at ws k))
  label k at_e at_p =
      let mu = label_at places ws f k at_p in
      record { e_range = e_at places ws f 0 at_e; given = mu.0; regular = mu.1 }

  heading : slice_get places 0 ≡ Some E → slice_get places 1 ≡ Some Heading →
      IsHeading convention (number (word_at ws 0)) (partition (word_at ws 1))
  heading at_e at_p =
      let mu = heading_at places ws f 1 at_p in (
        record {
          e_range = e_at places ws f 0 at_e;
          given = label-given convention (partition (word_at ws 1)) mu.0;
          regular = mu.1;
        },
        mu.0,
      )

-- Words without a fault are read exactly.
pub exact : {convention : Convention} (verb : Verb) (ws : List (List ℕ)) → Faultless convention (places_of verb) ws →
    given_command verb (read_all (places_of verb) ws) ≡ command_of verb ws
unfolding command_of
exact Partitions ws f = ap command.Partitions (exact_degree _ ws f 0 refl)
exact Regular ws f = ap₂ command.Regular (exact_e _ ws f refl) (exact_degree _ ws f 1 refl)
exact Conjugate ws f = ap command.Conjugate (exact_partition _ ws f 0 refl)
exact Dominates ws f =
    ap₂ command.Dominates (exact_partition _ ws f 0 refl)
    (exact_parts _ ws f 1 Peer refl refl (IsGiven-fits (word_at ws 1) (peer_at _ ws f 1 refl).0))
exact Diagram ws f = ap₂ command.Diagram (exact_e _ ws f refl) (exact_partition _ ws f 1 refl)
exact Hooks ws f = ap command.Hooks (exact_partition _ ws f 0 refl)
exact Content ws f = ap₂ command.Content (exact_e _ ws f refl) (exact_partition _ ws f 1 refl)
exact Core ws f = ap₂ command.Core (exact_e _ ws f refl) (exact_partition _ ws f 1 refl)
exact Combine ws f =
    let quotient = ap all_fitting (exact_word _ ws f 2) ∙ (quotient_at _ ws f 2 refl).1 in
    cc (exact_e _ ws f refl, exact_partition _ ws f 1 refl, quotient)
exact Abacus ws f = ap₂ command.Abacus (exact_e _ ws f refl) (exact_partition _ ws f 1 refl)
exact Good ws f = ap₂ command.Good (exact_e _ ws f refl) (exact_partition _ ws f 1 refl)
exact Path ws f = ap₂ command.Path (exact_e _ ws f refl) (exact_label _ ws f 1 refl)
exact Mullineux ws f = ap₂ command.Mullineux (exact_e _ ws f refl) (exact_label _ ws f 1 refl)
exact Induce ws f =
    let grown = grown_at _ ws f 3 refl in
    let i = exact_residue _ ws f 1 refl refl in
    let m = exact_number _ ws f 2 Count refl refl (omega (arith, grown.1)) in
    cc (exact_e _ ws f refl, i, m, exact_parts _ ws f 3 Grown refl refl grown.2)
exact Ladders ws f = ap₂ command.Ladders (exact_e _ ws f refl) (exact_label _ ws f 1 refl)
exact Ladder ws f = ap₂ command.Ladder (exact_e _ ws f refl) (exact_heading _ ws f 1 refl)
exact Row ws f = ap₂ command.Row (exact_e _ ws f refl) (exact_heading _ ws f 1 refl)
exact Crystal ws f = ap₂ command.Crystal (exact_e _ ws f refl) (exact_degree _ ws f 1 refl)
exact Decomposition ws f = ap₂ command.Decomposition (exact_e _ ws f refl) (exact_degree _ ws f 1 refl)
exact Block ws f =
    let w = ap weight (exact_word _ ws f 2) in
    cc (exact_e _ ws f refl, exact_partition _ ws f 1 refl, w)
exact Painter ws f = ap command.Painter (exact_word _ ws f 0)
exact Jantzen ws f = ap₂ command.Jantzen (exact_e _ ws f refl) (exact_partition _ ws f 1 refl)
exact Schaper ws f = ap₂ command.Schaper (exact_e _ ws f refl) (exact_degree _ ws f 1 refl)
exact Dim ws f = ap command.Dim (exact_partition _ ws f 0 refl)
exact Dims ws f = ap₂ command.Dims (exact_e _ ws f refl) (exact_degree _ ws f 1 refl)
exact Certificate ws f = ap₂ command.Certificate (exact_e _ ws f refl) (exact_degree _ ws f 1 refl)
exact Check ws f = refl
exact verb.Convention ws f =
    ap (λ word. command.Convention (convention_said word)) (exact_word _ ws f 0)
exact Restrict ws f =
    cc (exact_e _ ws f refl, exact_residue _ ws f 1 refl refl, exact_partition _ ws f 2 refl)
exact Commutator ws f =
    cc (
      exact_e _ ws f refl,
      exact_residue _ ws f 1 refl refl,
      exact_residue _ ws f 2 refl refl,
      exact_partition _ ws f 3 refl,
    )
exact Branch ws f =
    cc (exact_e _ ws f refl, exact_residue _ ws f 1 refl refl, exact_label _ ws f 2 refl)
exact Product ws f = ap₂ command.Product (exact_partition _ ws f 0 refl) (exact_factor _ ws f 1 refl)
exact Fillings ws f =
    cc (exact_partition _ ws f 0 refl, exact_factor _ ws f 1 refl, exact_partition _ ws f 2 refl)
exact Blocks ws f = ap₂ command.Blocks (exact_e _ ws f refl) (exact_degree _ ws f 1 refl)
exact Inverse ws f = ap₂ command.Inverse (exact_e _ ws f refl) (exact_degree _ ws f 1 refl)
exact Simple ws f = ap₂ command.Simple (exact_e _ ws f refl) (exact_label _ ws f 1 refl)
exact Cartan ws f = ap₂ command.Cartan (exact_e _ ws f refl) (exact_degree _ ws f 1 refl)

-- The fields of a command that was read are as its places ask.
pub fields : {convention : Convention} (verb : Verb) (ws : List (List ℕ)) → Faultless convention (places_of verb) ws →
    IsCommand convention (command_of verb ws)
unfolding command_of
fields Partitions ws f = degree_at _ ws f 0 refl
fields Regular ws f = (e_at _ ws f 0 refl, degree_at _ ws f 1 refl)
fields Conjugate ws f = partition_at _ ws f 0 refl
fields Dominates ws f =
    let peer = peer_at _ ws f 1 refl in (partition_at _ ws f 0 refl, peer.0, sym peer.1)
fields Diagram ws f = with_e _ ws f refl refl
fields Hooks ws f = partition_at _ ws f 0 refl
fields Content ws f = with_e _ ws f refl refl
fields Core ws f = with_e _ ws f refl refl
fields Combine ws f = (e_at _ ws f 0 refl, partition_at _ ws f 1 refl, (quotient_at _ ws f 2 refl).0)
fields Abacus ws f = with_e _ ws f refl refl
fields Good ws f = with_e _ ws f refl refl
fields Path ws f = label _ ws f 1 refl refl
fields Mullineux ws f = label _ ws f 1 refl refl
fields Induce ws f =
    let grown = grown_at _ ws f 3 refl in
    record {
      e_range = e_at _ ws f 0 refl;
      residue = residue_at _ ws f 1 refl;
      partition = grown.0;
      room = grown.1;
    }
fields Ladders ws f = label _ ws f 1 refl refl
fields Ladder ws f = heading _ ws f refl refl
fields Row ws f = heading _ ws f refl refl
fields Crystal ws f = (e_at _ ws f 0 refl, degree_at _ ws f 1 refl)
fields Decomposition ws f = (e_at _ ws f 0 refl, degree_at _ ws f 1 refl)
fields Block ws f = (e_at _ ws f 0 refl, partition_at _ ws f 1 refl, weight-small (word_at ws 2))
fields Painter ws f = tt
fields Jantzen ws f = with_e _ ws f refl refl
fields Schaper ws f = (e_at _ ws f 0 refl, degree_at _ ws f 1 refl)
fields Dim ws f = partition_at _ ws f 0 refl
fields Dims ws f = (e_at _ ws f 0 refl, degree_at _ ws f 1 refl)
fields Certificate ws f = (e_at _ ws f 0 refl, degree_at _ ws f 1 refl)
fields Check ws f = tt
fields verb.Convention ws f = tt
fields Restrict ws f = (e_at _ ws f 0 refl, residue_at _ ws f 1 refl, partition_at _ ws f 2 refl)
fields Commutator ws f =
    (e_at _ ws f 0 refl, residue_at _ ws f 1 refl, residue_at _ ws f 2 refl, partition_at _ ws f 3 refl)
fields Branch ws f = (residue_at _ ws f 1 refl, label _ ws f 2 refl refl)
fields Product ws f =
    let factor = factor_at _ ws f 1 refl in (partition_at _ ws f 0 refl, factor.0, factor.1)
fields Fillings ws f =
    let factor = factor_at _ ws f 1 refl in
    (partition_at _ ws f 0 refl, factor.0, factor.1, partition_at _ ws f 2 refl)
fields Blocks ws f = (e_at _ ws f 0 refl, degree_at _ ws f 1 refl)
fields Inverse ws f = (e_at _ ws f 0 refl, degree_at _ ws f 1 refl)
fields Simple ws f = label _ ws f 1 refl refl
fields Cartan ws f = (e_at _ ws f 0 refl, degree_at _ ws f 1 refl)
