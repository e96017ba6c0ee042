-- A loop over the pairs of a vector: what is found, and what is still to come.
use Rattle.std.proofs.Common.{◌≡◌, ℕ, zero, suc, ◌+◌, ◌<◌, ◌≤◌, List, [], ◌∷◌, ◌++◌, map, length, drop, get_or, refl}
use Rattle.std.proofs.Common.{sym, ◌∙◌, ap, ap₂, subst}
use Rattle.std.proofs.Common.{arith, append_assoc, append-nil, ℤ, pos, drop-cons, add-one}
use Rattle.std.specs.List.{AllByRecursion}
use Rattle.std.proofs.lemmas.List.{drop_all}
use Rattle.sp_lists.proofs.Places.{all_at}
use Rattle.sp_defs.specs.Power.{Entries}
use Rattle.sp_defs.specs.Laurent.{Laurent}
use Rattle.sp_defs.specs.Signature.{Mark, signature}
use Rattle.sp_power_law.specs.Walk.{moves_through, moves, CanGrow}
use Rattle.sp_power_law.specs.Runs.{Arrival, arrivals}
use Rattle.sp_power_law.proofs.Growth.{can_grow}
use Rattle.sp_power.specs.Arrivals.{arrive_from, HasRoom}

-- The moves down the signature are all moves from a partition.
pub moves_are : (e i m : ℕ) (p q : List ℕ) (ms : List Mark) (d x : ℤ) → ms ≡ signature e i p → q ≡ p → d ≡ pos 0 →
    x ≡ pos 0 → moves_through ms m q d x ≡ moves e i m p
unfolding moves
moves_are e i m p q ms d x h k a b = cc

-- Each entry has room for the nodes.
pub room_at : (m k : ℕ) (es : Entries) (d : List ℕ × Laurent) → k < length es → AllByRecursion (HasRoom m) es →
    HasRoom m (get_or es k d)
room_at m k es d lt all = all_at (HasRoom m) es k d all lt

-- Down the signature of an entry each node can be added in its turn.
pub grows_at : (e i m k : ℕ) (es : Entries) (d : List ℕ × Laurent) (ms : List Mark) (q : List ℕ) → 2 ≤ e →
    k < length es → AllByRecursion (HasRoom m) es → d ≡ get_or es k d → ms ≡ signature e i d.0 → q ≡ d.0 →
    CanGrow ms q
grows_at e i m k es d ms q he lt all at h same =
    let room : HasRoom m d = subst (HasRoom m) (sym at) (room_at m k es d lt all) in
    let grows : CanGrow (signature e i d.0) d.0 = can_grow e i d.0 he room.partition in
    subst (λ l. CanGrow l q) (sym h) (subst (λ l. CanGrow (signature e i d.0) l) (sym same) grows)

-- The moves from one entry more.
pub found_more : (e i m k : ℕ) (es : Entries) (d : List ℕ × Laurent) (old new all : List Arrival) → k < length es →
    d ≡ get_or es k d →
    new ≡ old ++ map (arrive_from k) (moves e i m d.0) → old ++ arrivals e i m k (drop k es) ≡ all →
    new ++ arrivals e i m (k + 1) (drop (k + 1) es) ≡ all
unfolding arrivals
found_more e i m k es d old new all lt at h so_far =
    ap (λ l. l ++ arrivals e i m (k + 1) (drop (k + 1) es)) h
    ∙ append_assoc old (map (arrive_from k) (moves e i m d.0)) (arrivals e i m (k + 1) (drop (k + 1) es))
    ∙ ap (λ l. old ++ l)
    (ap₂ (λ s r. map (arrive_from k) (moves e i m s.0) ++ arrivals e i m (k + 1) r) at
    (ap (λ n. drop n es) (add-one k)) ∙ ap (arrivals e i m k) (sym (drop-cons es k d lt)))
    ∙ so_far

-- No entry is left: all moves are found.
pub found_all : (e i m k : ℕ) (es : Entries) (old all : List Arrival) → length es ≤ k →
    old ++ arrivals e i m k (drop k es) ≡ all → old ≡ all
unfolding arrivals
found_all e i m k es old all past so_far = sym (append-nil old)
    ∙ ap (λ l. old ++ arrivals e i m k l) (sym (drop_all k es past)) ∙ so_far
