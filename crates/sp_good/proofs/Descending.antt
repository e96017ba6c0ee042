-- The way down along good nodes, step by step.
use Rattle.std.proofs.Common.{◌≡◌, ℕ, zero, suc, ◌+◌, ◌-◌, ◌<◌, ◌≤◌, true, List, [], ◌∷◌, ◌++◌, length, refl, sym, ◌∙◌}
use Rattle.std.proofs.Common.{ap, ap₂, subst, arith, Option, Some, None, ◌≢◌, append_assoc, length-append}
use Rattle.std.proofs.lemmas.List.{append-nil}
use Rattle.std.specs.List.{AllByRecursion}
use Rattle.std.specs.Option.{IfSome}
use Rattle.sp_defs.specs.Partition.{degree, part, is_regular}
use Rattle.sp_defs.specs.Node.{Node, is_removable}
use Rattle.sp_defs.specs.Signature.{good, least_good, path_of, path, remove_node, shrink}
use Rattle.sp_defs.specs.Statements.{IsLabel}
use Rattle.sp_lists.proofs.Elements.{all_append}
use Rattle.sp_good_law.proofs.MoveLaw.{move_law}
use Rattle.sp_partition.specs.Held.{IsHeld}
use Rattle.sp_shapes.proofs.Shrink.{degree-shrink}
use Rattle.sp_shapes.proofs.Corners.{removable_corner}

-- ---- what a call answered

-- What a contract says of the value that a call answered.
pub some_fact : {X : Type 0} (r : Option X) (P : X → Type 0) (x : X) → IfSome r P → r ≡ Some x → P x
some_fact r P x h is = subst (λ o. IfSome o P) is h

-- ---- the least residue

-- The least residue is the first that has a good node.
pub least-here : (e i k : ℕ) (parts : List ℕ) (x : Node) → 0 < k → good e i parts ≡ Some x →
    least_good e i k parts ≡ Some (i, x)
unfolding least_good
least-here e i zero parts x some is = absurd (omega arith)
least-here e i (suc k) parts x some is =
    ap (λ o. elim o [ Some x ↦ Some (i, x) | None ↦ least_good e (i + 1) k parts ]) is

-- Or it is later.
pub least-later : (e i k : ℕ) (parts : List ℕ) → 0 < k → good e i parts ≡ None →
    least_good e i k parts ≡ least_good e (i + 1) (k - 1) parts
unfolding least_good
least-later e i zero parts some is = absurd (omega arith)
least-later e i (suc k) parts some is =
    ap (λ o. elim o [ Some x ↦ Some (i, x) | None ↦ least_good e (i + 1) k parts ]) is
    ∙ ap (λ n. least_good e (i + 1) n parts) (back k)
  where
    back : (k : ℕ) → k ≡ suc k - 1
    back k = omega arith

-- Among none there is none.
pub least-none : (e i k : ℕ) (parts : List ℕ) → k ≡ 0 → least_good e i k parts ≡ None
unfolding least_good
least-none e i zero parts is = refl
least-none e i (suc k) parts is = absurd (omega arith)

-- none of k residues from i on has one
none_among : (e i k : ℕ) (parts : List ℕ) → least_good e i k parts ≡ None → (j : ℕ) (x : Node) → i ≤ j → j < i + k →
    good e j parts ≢ Some x
unfolding least_good
none_among e i zero parts none j x lo hi is = absurd (omega arith)
none_among e i (suc k) parts none j x lo hi is =
    settle (good e i parts) refl none (λ h past. none_among e (i + 1) k parts h j x past (omega arith) is)
  where
    settle : (o : Option Node) → good e i parts ≡ o →
        ◌≡◌ {A = Option (ℕ × Node)} (elim o [ Some x ↦ Some (i, x) | None ↦ least_good e (i + 1) k parts ]) None →
        (least_good e (i + 1) k parts ≡ None → i + 1 ≤ j → ⊥) → ⊥
    settle (Some y) at h later = let same : ◌≡◌ {A = Option (ℕ × Node)} (Some (i, y)) None = h in cc
    settle None at h later = later h (omega (arith, not_here))
      where
        not_here : i ≢ j
        not_here same = let found : good e i parts ≡ Some x = ap (λ n. good e n parts) same ∙ is in cc

-- An e-regular partition without a good node is empty.
pub empty_at_end : (e : ℕ) (parts : List ℕ) → IsLabel e parts → least_good e 0 e parts ≡ None → degree parts ≡ 0
empty_at_end e [] h none = refl
empty_at_end e (p ∷ parts) h none =
    let found = (move_law e (p ∷ parts) h).good_exists (λ is. cc) in
    absurd (none_among e 0 e (p ∷ parts) none found.0 found.2 (omega arith) (omega (arith, found.1)) found.3)

-- ---- the path

path-end : (n e : ℕ) (parts : List ℕ) → least_good e 0 e parts ≡ None → path_of n e parts ≡ []
unfolding path_of
path-end zero e parts none = refl
path-end (suc n) e parts none =
    ap (λ (o : Option (ℕ × Node)). elim o as (λ _. List ℕ) [
      | None ↦ []
      | Some found ↦ found.0 ∷ path_of n e (remove_node parts found.1)
    ]) none

path-step : (n m e : ℕ) (parts : List ℕ) (i : ℕ) (x : Node) → m ≡ suc n → least_good e 0 e parts ≡ Some (i, x) →
    path_of m e parts ≡ i ∷ path_of n e (remove_node parts x)
unfolding path_of
path-step n m e parts i x is some =
    ap (λ k. path_of k e parts) is
    ∙ ap (λ (o : Option (ℕ × Node)). elim o as (λ _. List ℕ) [
      | None ↦ []
      | Some found ↦ found.0 ∷ path_of n e (remove_node parts found.1)
    ]) some

-- `at` is reached from mu by these residues.
pub record Descended (e : ℕ) (mu at residues : List ℕ) : Type 0 where
  pub label : IsLabel e at
  pub is : residues ++ path_of (degree at) e at ≡ path e mu
  pub below : AllByRecursion (λ i. i < e) residues
  pub total : length residues + degree at ≡ degree mu
  pub small : degree mu ≤ 32

-- At the start no node is removed.
pub descended_start : (e : ℕ) (mu : List ℕ) → 2 ≤ e → IsHeld mu → is_regular e mu ≡ true → Descended e mu mu []
descended_start e mu he held reg = record {
  label = record { e_least = he; partition = held.partition; regular = reg };
  is = refl;
  below = tt;
  total = omega arith;
  small = held.small;
}

module _ (e : ℕ) (mu at residues : List ℕ) (h : Descended e mu at residues) where
  module _ (i row column : ℕ) (some : least_good e 0 e at ≡ Some (i, (row, column)))
      (removes : is_removable at (row, part at row) ≡ true) where
    -- Without the least good node the degree is 1 less,
    pub one_less : degree (shrink (row - 1) at) + 1 ≡ degree at
    one_less = degree-shrink (row - 1) at h.label.partition (removable_corner at row removes)

    -- and one step more of the path is made.
    pub descended_more : (at' residues' : List ℕ) → at' ≡ shrink (row - 1) at → residues' ≡ residues ++ (i ∷ []) →
        i < e → IsHeld at' → is_regular e (shrink (row - 1) at) ≡ true → Descended e mu at' residues'
    descended_more at' residues' is more lt held reg = record {
      label = record {
        e_least = h.label.e_least;
        partition = held.partition;
        regular = ap (is_regular e) is ∙ reg;
      };
      is = ap₂ (λ rs p. rs ++ path_of (degree p) e p) more is
          ∙ append_assoc residues (i ∷ []) (path_of (degree (shrink (row - 1) at)) e (shrink (row - 1) at))
          ∙ ap (λ rs. residues ++ rs) (sym (path-step (degree (shrink (row - 1) at)) (degree at) e at i (row, column)
          (omega (arith, one_less)) some))
          ∙ h.is;
      below = subst (AllByRecursion (λ i. i < e)) (sym more)
          (all_append (λ i. i < e) residues (i ∷ []) h.below (lt, tt));
      total = omega (
        arith,
        h.total,
        one_less,
        ap degree is,
        ap length more,
        length-append residues (i ∷ []),
      );
      small = h.small;
    }

  module _ (none : least_good e 0 e at ≡ None) where
    -- Without a good node the residues are the whole path,
    pub descended_all : residues ≡ path e mu
    descended_all = sym (append-nil residues) ∙ ap (λ rs. residues ++ rs) (sym (path-end (degree at) e at none)) ∙ h.is

    -- as many as the partition has nodes.
    pub descended_whole : length residues ≡ degree mu
    descended_whole = omega (arith, h.total, empty_at_end e at h.label none)
