-- What is held behind one line more.
use Rattle.std.proofs.Common.{◌≡◌, ℕ, suc, ◌+◌, ◌<◌, ◌≤◌, Bool, true, false, cond, List, [], ◌∷◌, ◌++◌, map, flat_map}
use Rattle.std.proofs.Common.{length, get_or, take, drop, sym, ◌∙◌, ap, ap₂, subst, arith, Option, Some, None}
use Rattle.std.proofs.Common.{Vec, Global}
use Rattle.std.specs.List.{AllByRecursion}
use Rattle.std.specs.Option.{option_map}
use Rattle.std.proofs.lemmas.List.{get_or-map, length-map, map-append}
use Rattle.std.proofs.Math.Seq.{drop-cons, take-length}
use Rattle.sp_defs.specs.Partition.{IsRegularOf}
use Rattle.sp_lists.proofs.Elements.{all_append}
use Rattle.sp_cert.specs.declared.certificate.Column.{Column}
use Rattle.sp_cert.specs.declared.heads.Head.{Head as HeldHead}
use Rattle.sp_cert.specs.declared.draft.Header.{Header}
use Rattle.sp_cert.specs.declared.draft.Begun.{Begun}
use Rattle.sp_cert.specs.declared.draft.Draft.{Draft}
use Rattle.sp_cert.specs.Rules.{listing, IsCertificate, IsListedColumn}
use Rattle.sp_cert.specs.Grammar.{Head, BlockHead, begun_columns, begun_list, column_begun, behind_head}
use Rattle.sp_cert.specs.Grammar.{Allowed, NotAllowed, Columns, head_answer, end_answer, head_text, is_text}
use Rattle.sp_cert.specs.Drafts.{IsDraft, IsBegun, IsBegunOrNone, column_of, head_of, body_of, named}
use Rattle.sp_cert.proofs.Named.{all_named, named_regular, named_more}

-- ---- the heads that are awaited

abbrev all_heads : Draft → List Head
all_heads d = map head_of d.heads.items

-- The first of them.
first_head : (d : Draft) (h : HeldHead) → d.passed < length d.heads.items → h ≡ get_or d.heads.items d.passed h →
    head_of h ≡ get_or (all_heads d) d.passed (head_of h)
first_head d h lt is =
    ap head_of is ∙ sym (get_or-map head_of d.heads.items d.passed h (head_of h) lt)

awaits : (d : Draft) → d.passed < length d.heads.items → d.passed < length (all_heads d)
awaits d lt = omega (arith, lt, length-map d.heads.items head_of)

-- What is awaited is that one, and those behind it.
awaited_heads : (d : Draft) (h : HeldHead) → d.passed < length d.heads.items → h ≡ get_or d.heads.items d.passed h →
    drop d.passed (all_heads d) ≡ head_of h ∷ drop (d.passed + 1) (all_heads d)
awaited_heads d h lt is =
    drop-cons (all_heads d) d.passed (head_of h) (awaits d lt)
    ∙ ap (λ x. x ∷ drop (suc d.passed) (all_heads d)) (sym (first_head d h lt is))
    ∙ ap (λ j. head_of h ∷ drop j (all_heads d)) next
  where
    next : suc d.passed ≡ d.passed + 1
    next = omega arith

-- Where a head is awaited, the certificate isn't whole.
pub not_whole : (d : Draft) → d.passed < length d.heads.items →
    NotAllowed ≡ end_answer (body_of d) (drop d.passed (all_heads d))
not_whole d lt =
    sym (ap (end_answer (body_of d)) (drop-cons (all_heads d) d.passed (BlockHead []) (awaits d lt)))

-- Another line than the head that is awaited isn't allowed.
pub other_head : (d : Draft) (h : HeldHead) (text : List ℕ) → d.passed < length d.heads.items →
    h ≡ get_or d.heads.items d.passed h → is_text text (head_text d.header.e (head_of h)) ≡ false →
    NotAllowed ≡ head_answer (body_of d) (drop d.passed (all_heads d)) text
other_head d h text lt is other =
    sym (ap (λ hs. head_answer (body_of d) hs text) (awaited_heads d h lt is)
    ∙ ap (λ b. cond b (Allowed (Columns (behind_head (body_of d) (head_of h) (drop (d.passed + 1) (all_heads d)))))
    NotAllowed) other)

-- It names an e-regular partition, or none.
pub head_regular : (d : Draft) (h : HeldHead) → IsDraft d → d.passed < length d.heads.items →
    h ≡ get_or d.heads.items d.passed h →
    AllByRecursion (IsRegularOf d.header.e d.header.degree) (named (head_of h))
head_regular d h draft lt is =
    subst (λ x. AllByRecursion (IsRegularOf d.header.e d.header.degree) (named x))
    (ap (λ hs. get_or hs d.passed (head_of h)) (sym draft.heads) ∙ sym (first_head d h lt is))
    (named_regular d.header.version d.header.e d.header.degree d.passed (head_of h)
    (subst (λ hs. d.passed < length hs) draft.heads (awaits d lt)))

abbrev behind : Draft → Vec Column Global → Option Begun → Draft
behind d columns begun = record {
  header = d.header;
  heads = d.heads;
  passed = d.passed + 1;
  columns = columns;
  begun = begun;
}

-- What is said behind it.
pub head_taken : (d : Draft) (h : HeldHead) (text : List ℕ) (columns : Vec Column Global) (begun : Option Begun) →
    d.passed < length d.heads.items → h ≡ get_or d.heads.items d.passed h →
    is_text text (head_text d.header.e (head_of h)) ≡ true → columns.items ≡ begun_columns (body_of d) →
    option_map (column_of d.header.degree) begun ≡ column_begun d.header.degree (head_of h) →
    Allowed (Columns (body_of (behind d columns begun)))
    ≡ head_answer (body_of d) (drop d.passed (all_heads d)) text
head_taken d h text columns begun lt is same closed begins =
    ap₂ (λ cs b. Allowed (Columns (record {
      version = d.header.version;
      e = d.header.e;
      degree = d.header.degree;
      columns = cs;
      begun = b;
      heads = drop (d.passed + 1) (all_heads d);
    }))) closed begins
    ∙ sym (ap (λ hs. head_answer (body_of d) hs text) (awaited_heads d h lt is)
    ∙ ap (λ b. cond b (Allowed (Columns (behind_head (body_of d) (head_of h) (drop (d.passed + 1) (all_heads d)))))
    NotAllowed) same)

-- ---- the columns

begun_listed : (h : Header) (begun : Option Begun) → IsBegunOrNone h begun →
    AllByRecursion (IsListedColumn h.version h.e h.degree) (begun_list (option_map (column_of h.degree) begun))
begun_listed h None b = tt
begun_listed h (Some x) b = (b.listed, tt)

-- All columns that were begun keep the rules.
all_listed : (d : Draft) (columns : List Column) → IsDraft d → columns ≡ begun_columns (body_of d) →
    AllByRecursion (IsListedColumn d.header.version d.header.e d.header.degree) columns
all_listed d columns draft closed =
    subst (AllByRecursion (IsListedColumn d.header.version d.header.e d.header.degree)) (sym closed)
    (all_append (IsListedColumn d.header.version d.header.e d.header.degree) d.columns.items
    (begun_list (option_map (column_of d.header.degree) d.begun)) draft.columns
    (begun_listed d.header d.begun draft.begun))

-- What is held behind a head.
pub head_held : (d : Draft) (h : HeldHead) (columns : Vec Column Global) (begun : Option Begun) → IsDraft d →
    d.passed < length d.heads.items → h ≡ get_or d.heads.items d.passed h →
    columns.items ≡ begun_columns (body_of d) →
    option_map (column_of d.header.degree) begun ≡ column_begun d.header.degree (head_of h) →
    IsBegunOrNone d.header begun → IsDraft (behind d columns begun)
head_held d h columns begun draft lt is closed begins held = record {
  header = draft.header;
  heads = draft.heads;
  passed = omega (arith, lt);
  order =
      ap (λ b. map (λ (c : Column). c.mu) (columns.items ++ begun_list b)) begins
      ∙ named_more d.header.degree columns.items (all_heads d) d.passed (head_of h) (awaits d lt)
      (first_head d h lt is) (ap (map (λ (c : Column). c.mu)) closed ∙ draft.order);
  columns = all_listed d columns.items draft closed;
  begun = held;
}

-- Where no head is awaited, the columns are those of a certificate.
pub whole_certificate : (d : Draft) (columns : List Column) → IsDraft d → length d.heads.items ≤ d.passed →
    columns ≡ begun_columns (body_of d) →
    IsCertificate (listing d.header.version d.header.e d.header.degree columns)
whole_certificate d columns draft past closed = record {
  version_least = draft.header.version_least;
  version_most = draft.header.version_most;
  e_least = draft.header.e_least;
  e_most = draft.header.e_most;
  degree = draft.header.degree;
  order = ap (map (λ (c : Column). c.mu)) closed ∙ draft.order
      ∙ ap (flat_map named) (ap (λ j. take j (all_heads d)) end ∙ take-length (all_heads d) ∙ draft.heads)
      ∙ all_named d.header.version d.header.e d.header.degree;
  each = all_listed d columns draft closed;
}
  where
    end : d.passed ≡ length (all_heads d)
    end = omega (arith, past, draft.passed, length-map d.heads.items head_of)

-- ---- the column that was begun last

-- What is held when it changes.
pub begun_held : (d : Draft) (b x : Begun) → IsDraft d → d.begun ≡ Some b → IsBegun d.header x → x.mu ≡ b.mu →
    IsDraft (record {
      header = d.header;
      heads = d.heads;
      passed = d.passed;
      columns = d.columns;
      begun = Some x;
    })
begun_held d b x draft is held mu = record {
  header = draft.header;
  heads = draft.heads;
  passed = draft.passed;
  order =
      map-append (λ (c : Column). c.mu) d.columns.items (column_of d.header.degree x ∷ [])
      ∙ ap (λ m. map (λ (c : Column). c.mu) d.columns.items ++ (m ∷ [])) mu
      ∙ sym (map-append (λ (c : Column). c.mu) d.columns.items (column_of d.header.degree b ∷ []))
      ∙ ap (λ o. map (λ (c : Column). c.mu) (d.columns.items ++ begun_list (option_map (column_of d.header.degree) o)))
      (sym is)
      ∙ draft.order;
  columns = draft.columns;
  begun = held;
}

-- A column that a test lets through has its partition.
pub mu_kept : (t : Bool) (n : ℕ) (x : Begun) (c : Column) (mu : List ℕ) →
    Some (column_of n x) ≡ cond t (Some c) None → c.mu ≡ mu → x.mu ≡ mu
mu_kept true n x c mu h is = let same : column_of n x ≡ c = cc in ap (λ (d : Column). d.mu) same ∙ is
mu_kept false n x c mu h is = absurd (cc)
