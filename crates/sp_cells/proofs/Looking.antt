-- A call at one cell among many.
use Rattle.std.proofs.Common.{◌≡◌, ℕ, ◌<◌, List, length, map, get_or, slice_get, slice_set, sym, ◌∙◌, ap, subst}
use Rattle.std.proofs.Common.{arith, MatchOption}
use Rattle.std.proofs.Math.Seq.{map-set_same}
use Rattle.std.proofs.lemmas.List.{map-set, length-map, get_or-map}
use Rattle.std.proofs.lemmas.Option.{same_Some, slice_get_within, slice_get-get_or}
use Rattle.std.specs.declared.option.Option.{Option}
use Rattle.std.specs.declared.option.Option.TheVariants.{None, Some}
use Rattle.std.specs.declared.sync.Arc.{Arc}
use Rattle.std.specs.declared.alloc.Global.{Global}
use Rattle.once_cell.specs.declared.race.note.Note.{Note}
use Rattle.sp_core.specs.declared.piece.Key.{Key}
use Rattle.sp_core.proofs.Sets.{set_same, set_other}
use Rattle.sp_cells.specs.Known.{Known, CellTable, cell_table, IsOf, IsRow, Knows, Looks}
use Rattle.sp_cells.specs.Noted.{piece_of, view_of}
use Rattle.sp_cells.specs.declared.cells.Shown.{Shown}
use Rattle.sp_cells.specs.declared.cells.Shown.TheVariants.{Row, Strange}
use Rattle.sp_cells.specs.Showing.{IsShown, IsSorted, ShowsKnown}

-- ---- elements of mapped lists

-- where two lists have the same names, the elements at one place have
same_at : {A B X : Type 0} → (f : A → X) (g : B → X) (xs : List A) (ys : List B) (k : ℕ) (a : A) (b : B)
    → map f xs ≡ map g ys → k < length xs → k < length ys → a ≡ get_or xs k a → b ≡ get_or ys k b → f a ≡ g b
same_at f g xs ys k a b same lt lt' at at' =
    ap f at
    ∙ sym (get_or-map f xs k a (f a) lt)
    ∙ ap (λ zs. get_or zs k (f a)) same
    ∙ get_or-map g ys k b (f a) lt'
    ∙ ap g (sym at')

-- what stands at a place of a mapped list
mapped_at : {A X : Type 0} → (f : A → X) (xs : List A) (k : ℕ) (a : A) → k < length xs → a ≡ get_or xs k a
    → slice_get (map f xs) k ≡ Some (f a)
mapped_at f xs k a lt at =
    slice_get-get_or (map f xs) k (f a) (rw (length-map xs f) lt)
    ∙ ap (λ x. Some x) (get_or-map f xs k a (f a) lt ∙ ap f (sym at))

-- what stands at a place of a mapped list after a write there
written_at : {A X : Type 0} → (f : A → X) (xs : List A) (k : ℕ) (a : A) → k < length xs
    → slice_get (map f (slice_set xs k a)) k ≡ Some (f a)
written_at f xs k a lt =
    ap (λ ys. slice_get ys k) (map-set f xs k a)
    ∙ set_same (map f xs) k (get_or (map f xs) k (f a)) (f a)
    (slice_get-get_or (map f xs) k (f a) (rw (length-map xs f) lt))

-- ---- the notes of a pass

-- The notes of a pass have the names of the cells that it is of.
names_are : {T C : Type 0} → (name : C → ℕ) (notes : List (Note (Arc T Global))) (cells : List C) (key : Key)
    (p : Known T) (c : CellTable) → view_of notes ≡ p → cell_table key (map name cells) ≡ c → IsOf c p
    → map (λ (n : Note _). n.cell) notes ≡ map name cells
names_are name notes cells key p c pass_is cells_are of =
    ap (λ (q : Known _). q.names) pass_is ∙ (of ∙ sym (ap (λ (d : CellTable). d.names) cells_are))

cell_within : {C : Type 0} → (name : C → ℕ) (cells : List C) (key : Key) (c : CellTable) (k : ℕ)
    → cell_table key (map name cells) ≡ c → k < length c.names → k < length cells
cell_within name cells key c k cells_are lt = rw (← length-map cells name) (rw (← cells_are) at lt)

-- There is a note for each cell.
pub within : {T C : Type 0} → (name : C → ℕ) (notes : List (Note (Arc T Global))) (cells : List C) (key : Key)
    (p : Known T) (c : CellTable) (k : ℕ) → view_of notes ≡ p → cell_table key (map name cells) ≡ c → IsOf c p
    → k < length c.names → k < length notes
within name notes cells key p c k pass_is cells_are of lt =
    let names = names_are name notes cells key p c pass_is cells_are of in
    rw (← length-map notes (λ (n : Note _). n.cell), names, length-map cells name)
    (cell_within name cells key c k cells_are lt)

-- The note at a place is of the cell there.
pub matches : {T C : Type 0} → (name : C → ℕ) (notes : List (Note (Arc T Global))) (cells : List C) (key : Key)
    (p : Known T) (c : CellTable) (k : ℕ) (n : Note (Arc T Global)) (b : C) → view_of notes ≡ p
    → cell_table key (map name cells) ≡ c → IsOf c p → k < length c.names → n ≡ get_or notes k n
    → b ≡ get_or cells k b → n.cell ≡ name b
matches name notes cells key p c k n b pass_is cells_are of lt at at' =
    same_at (λ (m : Note _). m.cell) name notes cells k n b (names_are name notes cells key p c pass_is cells_are of)
    (within name notes cells key p c k pass_is cells_are of lt) (cell_within name cells key c k cells_are lt) at at'

-- The notes at one place of two passes are of one cell.
pub twins : {T : Type 0} → (notes others : List (Note (Arc T Global))) (p q : Known T) (c : CellTable) (k : ℕ)
    (n m : Note (Arc T Global)) → view_of notes ≡ p → view_of others ≡ q → IsOf c p → IsOf c q
    → k < length c.names → n ≡ get_or notes k n → m ≡ get_or others k m → n.cell ≡ m.cell
twins {T} notes others p q c k n m pass_is other_is of of' lt at at' =
    same_at name name notes others k n m (one ∙ sym two) (omega (arith, lt, count)) (omega (arith, lt, count')) at at'
  where
    name : Note (Arc T Global) → ℕ
    name u = u.cell

    one : map name notes ≡ c.names
    one = ap (λ (u : Known T). u.names) pass_is ∙ of

    two : map name others ≡ c.names
    two = ap (λ (u : Known T). u.names) other_is ∙ of'

    count : length c.names ≡ length notes
    count = sym (ap length one) ∙ length-map notes name

    count' : length c.names ≡ length others
    count' = sym (ap length two) ∙ length-map others name

-- ---- what a pass knows

-- What a note knows is what the pass knows at its place.
pub known_by : {T : Type 0} → (notes : List (Note (Arc T Global))) (p : Known T) (k : ℕ) (n : Note (Arc T Global))
    (y : T) → view_of notes ≡ p → n ≡ get_or notes k n → Knows p k y → piece_of n.known ≡ Some y
known_by {T} notes p k n y pass_is at knows = same_Some _ _ (sym (mapped_at seen notes k n lt at) ∙ here)
  where
    seen : Note (Arc T Global) → Option T
    seen m = piece_of m.known

    here : Knows (view_of notes) k y
    here = subst (λ (q : Known T). Knows q k y) (sym pass_is) knows

    lt : k < length notes
    lt = rw (← length-map notes seen) (slice_get_within (map seen notes) k (Some y) here)

-- After a write the pass knows what the written note knows.
pub knows_at : {T : Type 0} → (notes : List (Note (Arc T Global))) (k : ℕ) (n : Note (Arc T Global)) (y : T)
    → k < length notes → piece_of n.known ≡ Some y → Knows (view_of (slice_set notes k n)) k y
knows_at {T} notes k n y lt is =
    written_at (λ (m : Note (Arc T Global)). piece_of m.known) notes k n lt ∙ ap (λ (o : Option T). Some o) is

-- After a write the pass knows no more than the written note at its place.
pub known_at : {T : Type 0} → (notes : List (Note (Arc T Global))) (k : ℕ) (n : Note (Arc T Global)) (y : T)
    → k < length notes → Knows (view_of (slice_set notes k n)) k y → piece_of n.known ≡ Some y
known_at {T} notes k n y lt knows =
    same_Some _ _ (sym (written_at (λ (m : Note (Arc T Global)). piece_of m.known) notes k n lt) ∙ knows)

-- A look at one note leaves the others, and forgets nothing.
pub looks : {T : Type 0} → (notes : List (Note (Arc T Global))) (p : Known T) (k : ℕ) (n n' : Note (Arc T Global))
    → view_of notes ≡ p → k < length notes → n ≡ get_or notes k n → n'.cell ≡ n.cell
    → ((y : T) → piece_of n.known ≡ Some y → piece_of n'.known ≡ Some y) → Looks p (view_of (slice_set notes k n')) k
looks {T} notes p k n n' pass_is lt at same_cell kept = rw (← pass_is) (record {
  names = map-set_same name notes k n' n (same_cell ∙ ap name at);
  others = λ i other. ap (λ os. slice_get os i) (map-set seen notes k n')
      ∙ set_other (map seen notes) k i (seen n') other;
  kept = λ y knows. knows_at notes k n' y lt (kept y (same_Some _ _ (sym (mapped_at seen notes k n lt at) ∙ knows)));
})
  where
    name : Note (Arc T Global) → ℕ
    name m = m.cell

    seen : Note (Arc T Global) → Option T
    seen m = piece_of m.known

-- ---- what is answered

-- What a peek answers, once it is known whether the piece is the row.
pub peeked : {T B : Type 0} → (now : B → T) (key : T → Key) (number : T → ℕ) (notes : List (Note (Arc T Global)))
    (k : ℕ) (n : Note (Arc T Global)) (c : CellTable) (e : Key) (found : Option T) (answer : Option B) → e ≡ c.key
    → k < length notes → found ≡ piece_of n.known
    → MatchOption answer ((x : T) → found ≡ Some x → (key x ≡ e) × (number x ≡ k) → ⊥)
    (λ b. (found ≡ Some (now b)) × (key (now b) ≡ e) × (number (now b) ≡ k))
    → MatchOption answer ((x : T) → Knows (view_of (slice_set notes k n)) k x → IsRow key number c k x → ⊥)
    (λ b. Knows (view_of (slice_set notes k n)) k (now b) × IsRow key number c k (now b))
peeked now key number notes k n c e found None same lt is h =
    λ x knows row. h x (is ∙ known_at notes k n x lt knows) (row.0 ∙ sym same, row.1)
peeked now key number notes k n c e found (Some b) same lt is h =
    (knows_at notes k n (now b) lt (sym is ∙ h.0), (h.1 ∙ same, h.2))

-- A pass that knows the row is answered it by a peek.
pub peeks_known : {T B : Type 0} → (now : B → T) (key : T → Key) (number : T → ℕ) (c : CellTable) (old new : Known T)
    (k : ℕ) (answer : Option B) → Looks old new k
    → MatchOption answer ((x : T) → Knows new k x → IsRow key number c k x → ⊥)
    (λ b. Knows new k (now b) × IsRow key number c k (now b))
    → (x : T) → Knows old k x → IsRow key number c k x → MatchOption answer ⊥ (λ b. now b ≡ x)
peeks_known now key number c old new k None looks h x knows row = h x (looks.kept x knows) row
peeks_known now key number c old new k (Some b) looks h x knows row =
    same_Some _ _ (same_Some _ _ (sym h.0 ∙ looks.kept x knows))

-- What `show` answers, once it is known whether the piece is the row.
pub sorted : {T : Type 0} → (key : T → Key) (number : T → ℕ) (notes : List (Note (Arc T Global))) (k : ℕ)
    (n : Note (Arc T Global)) (c : CellTable) (e : Key) (x : T) (answer : Shown T) → e ≡ c.key → k < length notes
    → piece_of n.known ≡ Some x → IsSorted key number e k x answer
    → IsShown key number c (view_of (slice_set notes k n)) k answer
sorted {T} key number notes k n c e x (Row b) same lt is h = (
  knows_at notes k n b.now lt (is ∙ ap (λ (u : T). Some u) (sym h.0)),
  (ap key h.0 ∙ (h.1 ∙ same), ap number h.0 ∙ h.2),
)
sorted {T} key number notes k n c e x (Strange b) same lt is h = (
  knows_at notes k n b.now lt (is ∙ ap (λ (u : T). Some u) (sym h.0)),
  (λ row. h.1 (sym (ap key h.0) ∙ (row.0 ∙ sym same), sym (ap number h.0) ∙ row.1)),
)

-- A pass that knows the row is answered it by `show`.
pub shows_known : {T : Type 0} → (key : T → Key) (number : T → ℕ) (c : CellTable) (old new : Known T) (k : ℕ)
    (answer : Shown T) → Looks old new k → IsShown key number c new k answer
    → (x : T) → Knows old k x → IsRow key number c k x → ShowsKnown x answer
shows_known key number c old new k (Row b) looks h x knows row =
    same_Some _ _ (same_Some _ _ (sym h.0 ∙ looks.kept x knows))
shows_known {T} key number c old new k (Strange b) looks h x knows row =
    h.1 (subst (IsRow key number c k) (sym same) row)
  where
    same : b.now ≡ x
    same = same_Some _ _ (same_Some _ _ (sym h.0 ∙ looks.kept x knows))
