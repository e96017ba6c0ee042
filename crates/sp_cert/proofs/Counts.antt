-- Contents of the partitions of a list.
use Rattle.std.proofs.Common.{◌≡◌, ℕ, ◌<◌, nat_eq, List, [], length, get_or, sym, ◌∙◌, ap, ap₂, arith}
use Rattle.std.specs.List.{range_with_len}
use Rattle.std.specs.Cmp.Lexicographic.{pointwise}
use Rattle.std.proofs.lemmas.List.{get_or-map, length-map}
use Rattle.arrayvec.specs.ArrayVec.{ArrayVec}
use Rattle.sp_defs.specs.Node.{content}
use Rattle.sp_cert.specs.Order.{same_content}
use Rattle.sp_cert.specs.Counts.{counts, AreContents}
use Rattle.sp_cert.proofs.Written.{same_counts}

-- There are as many contents as partitions.
pub as_many : (e : ℕ) (list : List (List ℕ)) (contents : List (ArrayVec ℕ)) → AreContents e list contents →
    length contents ≡ length list
as_many e list contents are =
    sym (length-map contents (λ c. c.items)) ∙ ap length are.counted ∙ length-map list (counts e)

-- The content at a place is that of the partition there.
pub content_at : (e : ℕ) (list : List (List ℕ)) (contents : List (ArrayVec ℕ)) (i : ℕ) (c : ArrayVec ℕ) →
    AreContents e list contents → i < length contents → c ≡ get_or contents i c →
    c.items ≡ counts e (get_or list i [])
content_at e list contents i c are lt is =
    ap (λ (c : ArrayVec ℕ). c.items) is
    ∙ sym (get_or-map (λ c. c.items) contents i c [] lt)
    ∙ ap (λ xs. get_or xs i []) are.counted
    ∙ get_or-map (counts e) list i [] [] (omega (arith, lt, as_many e list contents are))

-- Contents are compared place by place.
pub same_at : (e : ℕ) (list : List (List ℕ)) (contents : List (ArrayVec ℕ)) (i j : ℕ) (c d : ArrayVec ℕ) →
    AreContents e list contents → i < length contents → c ≡ get_or contents i c →
    j < length contents → d ≡ get_or contents j d →
    pointwise nat_eq c.items d.items ≡ same_content e (get_or list i []) (get_or list j [])
same_at e list contents i j c d are lt is lt2 is2 =
    ap₂ (pointwise nat_eq) (content_at e list contents i c are lt is) (content_at e list contents j d are lt2 is2)
    ∙ same_counts (content e (get_or list i [])) (content e (get_or list j [])) (range_with_len 0 e)
