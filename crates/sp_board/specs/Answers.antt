-- What the calls of a board and of a desk answer, and what they leave.
use Rattle.std.specs.Prelude.{◌≡◌, ℕ, ◌≤◌, ◌⊎◌, slice_get, slice_set}
use Rattle.std.specs.Arc.{arc_value}
use Rattle.std.specs.declared.option.Option.TheVariants.{Some}
use Rattle.sp_core.specs.declared.piece.Key.{Key}
use Rattle.sp_core.specs.declared.machine.RowState.TheVariants as mark
use Rattle.sp_board.specs.declared.stored.Stored.TheVariants as stored
use Rattle.sp_board.specs.declared.answers.Published.{Published}
use Rattle.sp_board.specs.declared.answers.Published.TheVariants as published
use Rattle.sp_board.specs.declared.answers.Given.{Given}
use Rattle.sp_board.specs.declared.answers.Given.TheVariants as given
use Rattle.sp_board.specs.declared.answers.Look.{Look}
use Rattle.sp_board.specs.declared.answers.Look.TheVariants as look
use Rattle.sp_board.specs.declared.answers.Awaited.{Awaited}
use Rattle.sp_board.specs.declared.answers.Awaited.TheVariants as awaited
use Rattle.sp_board.specs.Claimed.{Claimed, claimed}
use Rattle.sp_board.specs.Table.{Table, mark_at, next_of, Stores, MayClaim, MayNotClaim}

-- A claim of the next row.
pub record Claims {T : Type 0} (t : Table T) (w : ℕ) (c : Claimed) (u : Table T) : Type 0 where
  pub may : MayClaim t w
  pub claim : c ≡ claimed w (next_of t) (next_of t)
  pub stores : Stores t (stored.Claim w) t.pieces u

-- The seat comes back, and nothing changes.
pub record Refuses {T : Type 0} (t : Table T) (w seat : ℕ) (u : Table T) : Type 0 where
  pub same : seat ≡ w
  pub may_not : MayNotClaim t w
  pub unchanged : u ≡ t

-- The claim's row is taken by its seat.
abbrev pub IsOwn : {T : Type 0} → Table T → Claimed → Type 0
IsOwn t c = mark_at t c.row ≡ Some (mark.Taken c.worker)

-- The piece is one of this table and row.
abbrev pub IsPiece : {T : Type 0} → (T → Key) → (T → ℕ) → Key → ℕ → T → Type 0
IsPiece key number e k x = (key x ≡ e) × (number x ≡ k)

-- What `publish` answers, and leaves.
abbrev pub Publishes : {T : Type 0} → (T → Key) → (T → ℕ) → Table T → Claimed → T → Published T → Table T → Type 0
Publishes key number t c x (published.Kept seat) u = record {
  same : seat ≡ c.worker;
  own : IsOwn t c;
  fits : IsPiece key number t.key c.row x;
  stores : Stores t (stored.Publish c.worker c.row) (slice_set t.pieces c.row (Some x)) u;
}
Publishes key number t c x (published.Strange seat piece e state) u = record {
  same : seat ≡ c.worker;
  back : arc_value piece ≡ x;
  board : e ≡ t.key;
  shows : state ≡ mark_at t c.row;
  failed : IsOwn t c × IsPiece key number t.key c.row x → ⊥;
  unchanged : u ≡ t;
}

-- What `lose` answers, and leaves.
abbrev pub Loses : {T : Type 0} → Table T → Claimed → Given → Table T → Type 0
Loses t c (given.Marked seat) u = record {
  same : seat ≡ c.worker;
  own : IsOwn t c;
  stores : Stores t (stored.Lose c.worker c.row) t.pieces u;
}
Loses t c (given.Strange seat state) u = record {
  same : seat ≡ c.worker;
  shows : state ≡ mark_at t c.row;
  failed : IsOwn t c → ⊥;
  unchanged : u ≡ t;
}

-- What a look finds.
abbrev pub Looked : {T : Type 0} → Table T → ℕ → Look T → Type 0
Looked t j (look.Done a) = (mark_at t j ≡ Some mark.Done) × (slice_get t.pieces j ≡ Some (Some (arc_value a.now)))
Looked t j look.Lost = mark_at t j ≡ Some mark.Lost
Looked t j look.NoRow = t.rows ≤ j
Looked t j look.NotYet = (mark_at t j ≡ Some mark.Open) ⊎ ((w : ℕ) × (mark_at t j ≡ Some (mark.Taken w)))

-- A piece that is shown is of this table and row.
abbrev pub HasRow : {T : Type 0} → (T → Key) → (T → ℕ) → Table T → ℕ → Look T → Type 0
HasRow key number t j (look.Done a) = IsPiece key number t.key j (arc_value a.now)
HasRow key number t j look.Lost = Unit {0}
HasRow key number t j look.NoRow = Unit {0}
HasRow key number t j look.NotYet = Unit {0}

-- What `publish` on a desk answers. The fields of Strange show what failed.
abbrev pub PublishedAtDesk : {T : Type 0} → (T → Key) → (T → ℕ) → Claimed → T → Published T → Type 0
PublishedAtDesk key number c x (published.Kept seat) = (seat ≡ c.worker) × (number x ≡ c.row)
PublishedAtDesk key number c x (published.Strange seat piece e state) = record {
  same : seat ≡ c.worker;
  back : arc_value piece ≡ x;
  failed : (state ≡ Some (mark.Taken c.worker)) × IsPiece key number e c.row x → ⊥;
}

-- What `lose` on a desk answers. The fields of Strange show what failed.
abbrev pub LostAtDesk : Claimed → Given → Type 0
LostAtDesk c (given.Marked seat) = seat ≡ c.worker
LostAtDesk c (given.Strange seat state) = record {
  same : seat ≡ c.worker;
  failed : state ≡ Some (mark.Taken c.worker) → ⊥;
}

-- What a wait for row j ends in, and the claim that it leaves. A row that was seen is the claim's new last.
abbrev pub AwaitedBy : {T : Type 0} → (T → ℕ) → Claimed → Claimed → ℕ → Awaited T → Type 0
AwaitedBy number c d j (awaited.Row a) = (number (arc_value a) ≡ j) × (d ≡ claimed c.worker c.row j)
AwaitedBy number c d j awaited.Lost = d ≡ claimed c.worker c.row j
AwaitedBy number c d j awaited.NoRow = d ≡ c
AwaitedBy number c d j awaited.Memory = d ≡ c

-- A row that a wait found has this number.
abbrev pub Found : {T : Type 0} → (T → ℕ) → ℕ → Awaited T → Type 0
Found number j (awaited.Row a) = number (arc_value a) ≡ j
Found number j awaited.Lost = Unit {0}
Found number j awaited.NoRow = Unit {0}
Found number j awaited.Memory = Unit {0}
