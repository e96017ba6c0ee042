-- Rows stay in their blocks: what is in a row, and all that it is made from, has its content.
use Rattle.std.proofs.Common.{◌≡◌, ◌≢◌, ℕ, true, false, cond, Some, None, List, [], ◌∷◌, refl, sym, ◌∙◌, subst}
use Rattle.std.proofs.Common.{Bool, Ordering, Less, Equal, Greater}
use Rattle.std.specs.List.{AllByRecursion}
use Rattle.std.specs.Ordering.{is_eq}
use Rattle.sp_defs.specs.Partition.{degree, compare}
use Rattle.sp_defs.specs.Power.{vector_of}
use Rattle.sp_defs.specs.Row.{Factors, earlier, shares, share, IsNeeded}
use Rattle.sp_defs.specs.Row.IsNeeded.{itself, through}
use Rattle.sp_defs.specs.Statements.{IsLabel, SameContent}
use Rattle.sp_lists.proofs.Elements.{all_both}
use Rattle.sp_lists.proofs.Places.{all_weaken}
use Rattle.sp_shapes.proofs.Order.{same_lists}
use Rattle.sp_triangle.proofs.Shares.{from_keys}
use Rattle.sp_row_law.proofs.Setting.{Good, good_earlier, label}
use Rattle.sp_row_law.proofs.Contents.{row_content_law}
use Rattle.sp_outcome_law.specs.Asking.{share_at, next_rank, is_past, asked}
use Rattle.sp_outcome_law.proofs.Ranks.{keys, earlier_at}
use Rattle.sp_outcome_law.proofs.Next.{is_next}
use Rattle.sp_block_law.specs.Blocks.{InOneBlock, RowBlockLaw}
use Rattle.sp_block_law.proofs.Law.{content_block}

-- The partitions with shares are labels.
share_labels : (e : ℕ) (mu : List ℕ) → IsLabel e mu → AllByRecursion (λ a. IsLabel e a.0) (shares e mu)
share_labels e mu h =
    from_keys (IsLabel e) (shares e mu)
    (subst (AllByRecursion (IsLabel e)) (sym (keys e mu))
    (all_weaken (Good e mu) (IsLabel e) (earlier e mu) (λ nu g. label e (degree mu) nu h.e_least g)
    (good_earlier e mu)))

share_blocks : (e : ℕ) (mu : List ℕ) → IsLabel e mu →
    AllByRecursion (λ a. a.1 ≢ [] → InOneBlock e mu a.0) (shares e mu)
share_blocks e mu h =
    all_weaken (λ a. a.1 ≢ [] → SameContent e mu a.0) (λ a. a.1 ≢ [] → InOneBlock e mu a.0) (shares e mu)
    (λ a same ne. content_block e mu a.0 h.e_least (same ne)) (row_content_law e mu h).shares_at

-- What holds of each partition whose factor is not 0 holds where the vector is not 0.
at_factor : (P : List ℕ → Type 0) (fs : Factors) → AllByRecursion (λ a. a.1 ≢ [] → P a.0) fs → (nu : List ℕ) →
    vector_of fs nu ≢ [] → P nu
unfolding vector_of
at_factor P [] h nu ne = absurd (ne refl)
at_factor P ((kappa, p) ∷ fs) (h, hs) nu ne = settle (is_eq (compare kappa nu)) refl ne (at_factor P fs hs nu)
  where
    settle : (v : Bool) → is_eq (compare kappa nu) ≡ v → cond v p (vector_of fs nu) ≢ [] →
        (vector_of fs nu ≢ [] → P nu) → P nu
    settle false _ other rest = rest other
    settle true t here _ = subst P (same_lists kappa nu (equal (compare kappa nu) t)) (h here)
      where
        equal : (o : Ordering) → is_eq o ≡ true → o ≡ Equal
        equal Less e = absurd (cc)
        equal Equal e = refl
        equal Greater e = absurd (cc)

-- A partition with a share is a label of the same block.
share_step : (e : ℕ) (mu nu : List ℕ) → IsLabel e mu → share e mu nu ≢ [] → IsLabel e nu × InOneBlock e mu nu
share_step e mu nu h ne =
    at_factor (λ k. IsLabel e k × InOneBlock e mu k) (shares e mu)
    (all_weaken (λ a. IsLabel e a.0 × (a.1 ≢ [] → InOneBlock e mu a.0))
    (λ a. a.1 ≢ [] → IsLabel e a.0 × InOneBlock e mu a.0) (shares e mu) (λ a both ne. (both.0, both.1 ne))
    (all_both (λ a. IsLabel e a.0) (λ a. a.1 ≢ [] → InOneBlock e mu a.0) (shares e mu) (share_labels e mu h)
    (share_blocks e mu h))) nu ne

joined : (e : ℕ) (x y z : List ℕ) → InOneBlock e x y → InOneBlock e y z → InOneBlock e x z
joined e x y z p q =
    record { one_degree = p.one_degree ∙ q.one_degree; one_core = p.one_core ∙ q.one_core }

-- So is every partition that is needed.
needed_block : (e : ℕ) (kappa mu : List ℕ) → IsNeeded e kappa mu → IsLabel e mu → InOneBlock e mu kappa
needed_block e kappa mu itself h = record { one_degree = refl; one_core = refl }
needed_block e kappa mu (through mu' nu ne needed) h =
    let step : IsLabel e nu × InOneBlock e mu' nu = share_step e mu' nu h ne in
    joined e mu' nu kappa step.1 (needed_block e kappa nu needed step.0)

-- A rank that is asked for is the next one.
asked_next : (e limit : ℕ) (mu : List ℕ) (t j : ℕ) → asked e limit mu t ≡ Some j → next_rank e mu t ≡ Some j
unfolding asked
asked_next e limit mu t j h = settle (is_past e limit mu t) h
  where
    settle : (v : Bool) → cond v None (next_rank e mu t) ≡ Some j → next_rank e mu t ≡ Some j
    settle true none = absurd (cc)
    settle false some = some

-- The law of blocks for rows.
pub row_block_law : RowBlockLaw
row_block_law e mu h = record {
  row = λ lambda _ ne. content_block e mu lambda h.e_least ((row_content_law e mu h).row lambda ne);
  shares_at = share_blocks e mu h;
  asks = λ limit t j is.
      let next = is_next e mu h t j (asked_next e limit mu t j is) in
      subst (InOneBlock e mu) (sym (earlier_at e mu h j [] next.rank)) (content_block e mu (share_at e mu j).0
      h.e_least next.content);
  needed = λ kappa needed. needed_block e kappa mu needed h;
}
