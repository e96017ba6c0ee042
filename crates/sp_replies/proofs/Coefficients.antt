-- The numbers of fillings as a vector, and the lines of the chains that end with a partition.
use Rattle.std.proofs.Common.{◌≡◌, ℕ, zero, suc, ◌+◌, ◌-◌, ◌^◌, ◌<◌, ◌≤◌, Bool, true, false, cond, not, nat_eq, nat_lt}
use Rattle.std.proofs.Common.{List, [], ◌∷◌, ◌++◌, map, filter, flat_map, reverse, take, length, get_or, pos, refl, sym}
use Rattle.std.proofs.Common.{◌∙◌, ap, subst, arith, append_assoc, append-nil, length-append}
use Rattle.std.specs.Prelude.{codes}
use Rattle.std.specs.List.{AllByRecursion}
use Rattle.std.specs.Cmp.Lexicographic.{pointwise}
use Rattle.std.specs.Ordering.{int_eq}
use Rattle.std.proofs.lemmas.Bool.Decides.{nat_tests, Decides-int_eq}
use Rattle.std.proofs.lemmas.Int.{ints}
use Rattle.std.proofs.lemmas.Grind.{flat_map-append}
use Rattle.std.proofs.lemmas.List.{reverse-reverse, take_more, map-append}
use Rattle.std.proofs.lemmas.List.Concat.{flat_map-cons}
use Rattle.std.proofs.lemmas.List.Filters.{length-filter_both}
use Rattle.sp_defs.specs.Partition.{IsPartitionOf, degree, partitions}
use Rattle.sp_defs.specs.Laurent.{Laurent, monomial}
use Rattle.sp_defs.specs.Power.{Entries, FockVector, entries, vector_of}
use Rattle.sp_defs.specs.Text.{joined_by, partition_text, vector_text}
use Rattle.sp_defs.specs.Within.{PowersWithin}
use Rattle.sp_fock.specs.Held.{ArePairs, IsHeld, held_as}
use Rattle.sp_fock_law.specs.Tally.{Totals, constant, constants, totals}
use Rattle.sp_fock_law.proofs.Totals.{IsLaurent-constant, IsTotals-totals, IsVector-constants, size-constant}
use Rattle.sp_fock_law.proofs.Totals.{total_of-totals, vector_of-constants}
use Rattle.sp_fock_law.proofs.Vectors.{entries-alike, entries-vector_of}
use Rattle.sp_laurent.specs.Held.{power_limit, IsHeld as IsHeldPolynomial}
use Rattle.sp_lists.proofs.Elements.{all_both, all_every, all_filter, all_map, filter_append}
use Rattle.sp_lists.proofs.Places.{all_weaken}
use Rattle.sp_lr_defs.specs.Listing.{chains_over, chains_to, ends_with, littlewood_richardson, product_pairs}
use Rattle.sp_lr_defs.proofs.Backward.{end_at}
use Rattle.sp_partition.specs.Held.{IsHeld as IsHeldPartition}
use Rattle.sp_lr.specs.Results.{chains_in}
use Rattle.sp_lr.specs.declared.filling.Filling.{Filling}
use Rattle.sp_replies.specs.Products.{chain_line, chain_lines, fillings_text, product_text, schur_product}
use Rattle.sp_replies.specs.declared.products.TheConstants.{MOST_FILLINGS}
use Rattle.sp_replies.specs.Refusals.{refusal_line}
use Rattle.sp_replies.specs.Words.{line_of}
use Rattle.sp_replies.specs.declared.refusals.Refusal.TheVariants.{TooMany}

-- ---- constants

-- a number as the polynomial that the code makes of it
pub monomial-constant : (k : ℕ) → monomial (pos 0) (pos k) ≡ constant k
unfolding constant
monomial-constant zero = refl
monomial-constant (suc k) =
    elim (int_eq (pos (suc k)) (pos 0)) as
    (λ b. int_eq (pos (suc k)) (pos 0) ≡ b → cond {A = Laurent} b [] ((pos 0, pos (suc k)) ∷ [])
    ≡ (pos 0, pos (suc k)) ∷ []) [
      | true ↦ λ e. absurd (omega (arith, ints, (Decides-int_eq (pos (suc k)) (pos 0)).0 e))
      | false ↦ λ e. refl
    ] refl

constant_powers : (k : ℕ) → PowersWithin power_limit (constant k)
unfolding constant
constant_powers zero = tt
constant_powers (suc k) = (omega arith, tt)

held_constant : (k : ℕ) → k < 2 ^ 127 → IsHeldPolynomial (constant k)
held_constant k small = record {
  laurent = IsLaurent-constant k;
  small = subst (λ n. n < 2 ^ 127) (sym (size-constant k)) small;
  powers = constant_powers k;
}

-- ---- the product as a vector

-- the coefficients, by ascending partitions
abbrev coefficients : List ℕ → List ℕ → Totals
coefficients lambda mu = totals (degree lambda + degree mu) (littlewood_richardson lambda mu)

back : (lambda mu : List ℕ) → reverse (product_pairs lambda mu) ≡ coefficients lambda mu
unfolding product_pairs
back lambda mu = reverse-reverse (coefficients lambda mu)

-- no partition has more fillings than all together
few_each : (lambda mu nu : List ℕ) → littlewood_richardson lambda mu nu ≤ length (chains_over lambda mu)
few_each lambda mu nu =
    omega (
      arith,
      length-filter_both (ends_with nu) (λ chain. not (ends_with nu chain)) (λ _. refl) (chains_over lambda mu),
    )

all_few : (lambda mu : List ℕ) → AllByRecursion (λ t. t.1 ≤ length (chains_over lambda mu)) (coefficients lambda mu)
all_few lambda mu =
    all_filter (λ t. t.1 ≤ length (chains_over lambda mu)) (λ t. nat_lt 0 t.1)
    (map (λ nu. (nu, littlewood_richardson lambda mu nu)) (partitions (degree lambda + degree mu)))
    (all_map (λ t. nat_lt 0 t.1 ≡ true → t.1 ≤ length (chains_over lambda mu))
    (λ nu. (nu, littlewood_richardson lambda mu nu)) (partitions (degree lambda + degree mu))
    (all_every (λ nu. nat_lt 0 (littlewood_richardson lambda mu nu) ≡ true →
    littlewood_richardson lambda mu nu ≤ length (chains_over lambda mu)) (partitions (degree lambda + degree mu))
    (λ nu _. few_each lambda mu nu)))

held_pairs : (lambda mu : List ℕ) → degree lambda + degree mu ≤ 32 → length (chains_over lambda mu) ≤ MOST_FILLINGS →
    ArePairs (constants (coefficients lambda mu))
held_pairs lambda mu room few =
    all_map (λ t. IsHeldPartition t.0 × IsHeldPolynomial t.1) (λ t. (t.0, constant t.1)) (coefficients lambda mu)
    (all_weaken
    (λ t. IsPartitionOf (degree lambda + degree mu) t.0 × (t.1 ≤ length (chains_over lambda mu)))
    (λ t. IsHeldPartition t.0 × IsHeldPolynomial (constant t.1)) (coefficients lambda mu)
    (λ t (is, least). (
      record { partition = is.partition; small = omega (arith, is.total) },
      held_constant t.1 (omega arith),
    ))
    (all_both (λ t. IsPartitionOf (degree lambda + degree mu) t.0) (λ t. t.1 ≤ length (chains_over lambda mu))
    (coefficients lambda mu)
    (IsTotals-totals (degree lambda + degree mu) (littlewood_richardson lambda mu)).partitions_of
    (all_few lambda mu)))

-- The numbers that the code found are the coefficients of a vector that it has room for.
pub held_product : (lambda mu : List ℕ) (n : ℕ) (counts : List (List ℕ × ℕ)) → n ≡ degree lambda + degree mu →
    n ≤ 32 → length (chains_over lambda mu) ≤ MOST_FILLINGS → counts ≡ product_pairs lambda mu →
    IsHeld (held_as n (constants (reverse counts)))
held_product lambda mu n counts total room few is =
    subst (λ es. IsHeld (held_as n (constants es))) (sym (ap reverse is ∙ back lambda mu))
    (subst (λ m. IsHeld (held_as m (constants (coefficients lambda mu)))) (sym total) (record {
      vector = IsVector-constants (degree lambda + degree mu) (coefficients lambda mu)
          (IsTotals-totals (degree lambda + degree mu) (littlewood_richardson lambda mu));
      pairs = held_pairs lambda mu (omega (arith, total)) few;
    }))

-- the constants are the entries of the product
product-entries : (lambda mu : List ℕ) →
    constants (coefficients lambda mu) ≡ entries (degree lambda + degree mu) (schur_product lambda mu)
product-entries lambda mu =
    sym (entries-vector_of n ts (IsVector-constants n (coefficients lambda mu) (IsTotals-totals n total)))
    ∙ entries-alike n (vector_of ts) (schur_product lambda mu)
    (λ nu h. vector_of-constants (coefficients lambda mu) nu ∙ ap constant (total_of-totals n total nu h))
  where
    n : ℕ
    n = degree lambda + degree mu

    total : List ℕ → ℕ
    total = littlewood_richardson lambda mu

    ts : Entries
    ts = constants (coefficients lambda mu)

-- the term of one number more
pub constants_more : (counts : Totals) (i : ℕ) (count : List ℕ × ℕ) → i < length counts →
    count ≡ get_or counts i count →
    constants (take i counts) ++ (count.0, monomial (pos 0) (pos count.1)) ∷ [] ≡ constants (take (i + 1) counts)
constants_more counts i count lt is =
    ap (λ p. constants (take i counts) ++ (count.0, p) ∷ []) (monomial-constant count.1)
    ∙ sym
    (ap constants (take_more counts i count lt ∙ ap (λ t. take i counts ++ t ∷ []) (sym is))
    ∙ map-append (λ t. (t.0, constant t.1)) (take i counts) (count ∷ []))

-- ---- the answers

not_past : (most n : ℕ) → n ≤ most → nat_lt most n ≡ false
not_past most n le = grind (arith, nat_tests)

is_past : (most n : ℕ) → most < n → nat_lt most n ≡ true
is_past most n lt = grind (arith, nat_tests)

-- What is answered where there are not too many.
pub product_told : (lambda mu : List ℕ) (n : ℕ) (counts : List (List ℕ × ℕ)) (v : FockVector) →
    length (chains_over lambda mu) ≤ MOST_FILLINGS → counts ≡ product_pairs lambda mu →
    v ≡ held_as n (constants (reverse counts)) → line_of (vector_text v.entries) ≡ product_text lambda mu
product_told lambda mu n counts v few is made =
    ap (λ (u : FockVector). line_of (vector_text u.entries)) made
    ∙ ap (λ es. line_of (vector_text es))
    (ap (λ cs. constants (reverse cs)) is ∙ ap constants (back lambda mu) ∙ product-entries lambda mu)
    ∙ sym
    (ap (λ b. cond b (refusal_line TooMany)
    (line_of (vector_text (entries (degree lambda + degree mu) (schur_product lambda mu)))))
    (not_past MOST_FILLINGS (length (chains_over lambda mu)) few))

-- And where there are.
pub product_refused : (lambda mu : List ℕ) → MOST_FILLINGS < length (chains_over lambda mu) →
    refusal_line TooMany ≡ product_text lambda mu
product_refused lambda mu past =
    sym
    (ap (λ b. cond b (refusal_line TooMany)
    (line_of (vector_text (entries (degree lambda + degree mu) (schur_product lambda mu)))))
    (is_past MOST_FILLINGS (length (chains_over lambda mu)) past))

-- The lines of the chains, where there are not too many.
pub fillings_told : (lambda mu nu : List ℕ) (chains : List (List (List ℕ))) →
    length (chains_over lambda mu) ≤ MOST_FILLINGS → chains ≡ chains_over lambda mu →
    chain_lines (filter (ends_with nu) chains) ≡ fillings_text lambda mu nu
fillings_told lambda mu nu chains few is =
    ap (λ cs. chain_lines (filter (ends_with nu) cs)) is
    ∙ sym
    (ap (λ b. cond b (refusal_line TooMany) (chain_lines (chains_to lambda mu nu)))
    (not_past MOST_FILLINGS (length (chains_over lambda mu)) few))

-- And where there are.
pub fillings_refused : (lambda mu nu : List ℕ) → MOST_FILLINGS < length (chains_over lambda mu) →
    refusal_line TooMany ≡ fillings_text lambda mu nu
fillings_refused lambda mu nu past =
    sym
    (ap (λ b. cond b (refusal_line TooMany) (chain_lines (chains_to lambda mu nu)))
    (is_past MOST_FILLINGS (length (chains_over lambda mu)) past))

-- ---- lines

-- the end of a chain
pub end_told : (nu last : List ℕ) (chain : List (List ℕ)) → 0 < length chain →
    last ≡ get_or chain (length chain - 1) [] → pointwise nat_eq last nu ≡ ends_with nu chain
end_told nu last [] some is = absurd (omega arith)
end_told nu last (inner ∷ shapes) some is =
    ap (λ x. pointwise nat_eq x nu)
    (is ∙ ap (λ k. get_or (inner ∷ shapes) k []) (before (length shapes)) ∙ end_at inner shapes)
  where
    before : (n : ℕ) → suc n - 1 ≡ n
    before n = omega arith

-- the line of one chain more, if it passes
pub line_more : (nu : List ℕ) (front now new : List ℕ) (chains : List (List (List ℕ))) (i : ℕ)
    (chain : List (List ℕ)) → i < length chains → chain ≡ get_or chains i chain →
    now ≡ front ++ flat_map chain_line (filter (ends_with nu) (take i chains)) →
    new ≡ now ++ cond (ends_with nu chain) (chain_line chain) [] →
    new ≡ front ++ flat_map chain_line (filter (ends_with nu) (take (i + 1) chains))
line_more nu front now new chains i chain lt is so_far more =
    more
    ∙ ap (λ s. s ++ cond (ends_with nu chain) (chain_line chain) []) so_far
    ∙ append_assoc front (flat_map chain_line (filter (ends_with nu) (take i chains)))
    (cond (ends_with nu chain) (chain_line chain) [])
    ∙ ap (λ s. front ++ s)
    (ap (λ s. flat_map chain_line (filter (ends_with nu) (take i chains)) ++ s) (one (ends_with nu chain))
    ∙ sym (flat_map-append chain_line (filter (ends_with nu) (take i chains))
    (cond (ends_with nu chain) (chain ∷ []) []))
    ∙ ap (flat_map chain_line) (sym (filter_append (ends_with nu) (take i chains) (chain ∷ [])))
    ∙ ap (λ cs. flat_map chain_line (filter (ends_with nu) cs))
    (sym (take_more chains i chain lt ∙ ap (λ c. take i chains ++ (c ∷ [])) (sym is))))
  where
    one : (b : Bool) → cond b (chain_line chain) [] ≡ flat_map chain_line (cond b (chain ∷ []) [])
    one true = sym (append-nil (chain_line chain))
    one false = refl

-- the chain of the filling at a place
pub chain_at : (found : List Filling) (i : ℕ) (filling : Filling) → i < length found →
    filling ≡ get_or found i filling → filling.chain ≡ get_or (chains_in found) i filling.chain
chain_at [] i filling lt is = absurd (omega arith)
chain_at (first ∷ found) zero filling lt is = ap (λ (f : Filling). f.chain) is
chain_at (first ∷ found) (suc i) filling lt is = chain_at found i filling (omega arith) is

-- a line has its end
line_some : (text : List ℕ) → 1 ≤ length (line_of text)
line_some text = omega (arith, length-append text (codes "\n"))

-- where nothing was written there is no chain
pub none_written : (chains : List (List (List ℕ))) → length (flat_map chain_line chains) ≡ 0 →
    flat_map chain_line chains ++ codes "-\n" ≡ chain_lines chains
none_written [] none = refl
none_written (chain ∷ chains) none =
    absurd
    (omega (
      arith,
      none,
      ap length (flat_map-cons chain_line chain chains),
      length-append (chain_line chain) (flat_map chain_line chains),
      line_some (joined_by (codes " < ") (map partition_text chain)),
    ))

-- where something was, there is
pub some_written : (chains : List (List (List ℕ))) → 0 < length (flat_map chain_line chains) →
    flat_map chain_line chains ≡ chain_lines chains
some_written [] some = absurd (omega arith)
some_written (chain ∷ chains) some = refl
