-- A whole run.
use Rattle.std.proofs.Common.{◌≡◌, ◌≢◌, ◌≤◌, ◌+◌, ◌-◌, ◌++◌, [], List, ℕ, Option, Some, length, take, drop}
use Rattle.std.proofs.Common.{length-append, append-nil, arith, ap, sym, ◌∙◌, subst, ◌⊎◌, inr}
use Rattle.std.proofs.lemmas.List.{take-append-drop, take-append-le, length-drop, drop-drop}
use Rattle.std.proofs.Math.Seq.{take-add}
use Rattle.sp_base.specs.Bytes.{Hands}
use Rattle.sp_stream.specs.declared.lines.Stop.{Stop}
use Rattle.sp_stream.specs.declared.lines.Stop.TheVariants.{Write, Memory}
use Rattle.sp_stream.specs.declared.reading.TheConstants.{INPUT_LIMIT}
use Rattle.sp_stream.specs.declared.status.Status.{Status}
use Rattle.sp_stream.specs.declared.status.Status.TheVariants.{Done, WriteFault, OutOfMemory, InputTooLong}
use Rattle.sp_stream.specs.Transcript.{Rules, complete, texts_of, transcript}
use Rattle.sp_stream.specs.Writing.{Puts, Stops, Feeds}
use Rattle.sp_stream.specs.Served.{Answered, Takes, status_of}
use Rattle.sp_stream.proofs.Feeding.{feeds_begun, feeds_both, feeds_puts, feeds_stops, transcript-feeds}

-- a sink that is steady for more bytes than a text has
pub fitting : (steady : ℕ → Type 0) (room many : ℕ) → many ≤ room → steady room → steady (many + (room - many))
fitting steady room many fits s = let same : room ≡ many + (room - many) = omega arith in subst steady same s

-- why a run stopped that had no fault of the sink
pub stops_within : (status : Status) (stop : Stop) → status ≡ status_of stop →
    (status ≡ WriteFault → ⊥) → (status ≡ Done) ⊎ (status ≡ OutOfMemory)
stops_within status Write is none = absurd (none is)
stops_within status Memory is none = inr is

module _ {Sink : Type 0} (written : Sink → Option (List ℕ)) (steady : Sink → ℕ → Type 0) (faults : Sink → ℕ)
    {State : Type 0} (rules : Rules State) (first : State) (start : Sink) (input : List ℕ) where
  -- so many bytes of the input are taken, and all lines that are whole in them are answered
  pub record HasTaken (sink : Sink) (state : State) (pending : List ℕ) (now_left : Option (List ℕ)) (taken : ℕ) :
      Type 0 where
    pub left : now_left ≡ Some (drop taken input)
    pub few : taken ≤ length input
    pub feeds : Feeds written steady faults start sink rules first state pending (take taken input)

  -- a sink that is steady for all that answers the input has not failed
  abbrev pub IsCalm : Sink → Status → Type 0
  IsCalm sink status = (room : ℕ) → length (transcript rules first input) ≤ room → steady start room →
      (status ≢ WriteFault) × (faults sink ≡ faults start)

  -- what is told of a run by its status
  abbrev pub IsTold : Sink → Option (List ℕ) → Status → Type 0
  IsTold sink now_left status = (taken : ℕ) × Takes input now_left status taken
      × ((before : List ℕ) → written start ≡ Some before →
      Answered rules first input taken before (written sink) status)

  -- what a run shows that ended by this status
  pub record Ends (sink : Sink) (now_left : Option (List ℕ)) (status : Status) : Type 0 where
    pub told : IsTold sink now_left status
    pub calm : IsCalm sink status

  -- nothing is taken before the first read
  pub nothing_taken : (now_left : Option (List ℕ)) → now_left ≡ Some input → HasTaken start first [] now_left 0
  nothing_taken now_left is = record {
    left = is;
    few = omega arith;
    feeds = feeds_begun written steady faults rules start first [] tt;
  }

  -- some more bytes were read into a buffer, and answered
  pub taken_more : (sink next : Sink) (now_rules : Rules State) (state last : State) (pending rest into : List ℕ)
      (mid_left now_left : Option (List ℕ)) (taken n : ℕ) (behind : List ℕ) → now_rules ≡ rules →
      HasTaken sink state pending mid_left taken → Hands (drop taken input) now_left into n → n ≤ length into →
      Feeds written steady faults sink next now_rules state last rest (pending ++ take n (into ++ behind)) →
      HasTaken next last rest now_left (taken + n)
  taken_more sink next now_rules state last pending rest into mid_left now_left taken n behind same has hands bound
      feeds =
      let here : Feeds written steady faults sink next rules state last rest (pending ++ take n (drop taken input)) =
      subst (λ (t : List ℕ). Feeds written steady faults sink next rules state last rest (pending ++ t))
      (take-append-le n into behind bound ∙ hands.bytes)
      (subst (λ (r : Rules State). Feeds written steady faults sink next r state last rest
      (pending ++ take n (into ++ behind))) same feeds) in
      record {
        left = hands.left ∙ ap (λ t. Some t) (drop-drop n taken input);
        few = omega (arith, has.few, hands.few, length-drop taken input);
        feeds = subst (λ (t : List ℕ). Feeds written steady faults start next rules first last rest t)
            (sym (take-add taken n input))
            (feeds_both written steady faults rules start sink next first state last pending rest
            (take taken input) (take n (drop taken input)) has.feeds here);
      }

  -- a run stopped in these bytes, and so in all that answers the input
  pub taken_stops : (sink new : Sink) (now_rules : Rules State) (state : State) (pending into : List ℕ)
      (mid_left now_left : Option (List ℕ)) (taken n : ℕ) (behind : List ℕ) (stop : Stop) → now_rules ≡ rules →
      HasTaken sink state pending mid_left taken → Hands (drop taken input) now_left into n → n ≤ length into →
      ((more : List ℕ) → Stops written steady faults sink new
      (texts_of now_rules state (pending ++ (take n (into ++ behind) ++ more))) stop) →
      Stops written steady faults start new (texts_of rules first input) stop
  taken_stops sink new now_rules state pending into mid_left now_left taken n behind stop same has hands bound stops =
      let left = drop taken input in
      let bytes : take n (into ++ behind) ++ drop n left ≡ left =
      ap (λ t. t ++ drop n left) (take-append-le n into behind bound ∙ hands.bytes) ∙ take-append-drop n left in
      let here : Stops written steady faults sink new (texts_of rules state (pending ++ left)) stop =
      subst (λ (t : List ℕ). Stops written steady faults sink new (texts_of rules state (pending ++ t)) stop) bytes
      (subst (λ (r : Rules State). Stops written steady faults sink new
      (texts_of r state (pending ++ (take n (into ++ behind) ++ drop n left))) stop) same (stops (drop n left))) in
      subst (λ (t : List ℕ). Stops written steady faults start new (texts_of rules first t) stop)
      (take-append-drop taken input)
      (feeds_stops written steady faults rules start sink new first state pending (take taken input) left stop
      has.feeds here)

  -- the input was taken to its end
  pub all_taken : (sink : Sink) (state : State) (pending : List ℕ) (now_left : Option (List ℕ)) (taken : ℕ) →
      HasTaken sink state pending now_left taken → drop taken input ≡ [] →
      (taken ≡ length input) × Feeds written steady faults start sink rules first state pending input
  all_taken sink state pending now_left taken has none =
      let whole : take taken input ≡ input =
      sym (append-nil (take taken input)) ∙ ap (λ t. take taken input ++ t) (sym none) ∙
      take-append-drop taken input in (
        omega (arith, has.few, length-drop taken input, ap length none),
        subst (λ (t : List ℕ). Feeds written steady faults start sink rules first state pending t) whole has.feeds,
      )

  -- a run whose last line and closing text were written put the whole transcript
  pub end_puts : (sink new : Sink) (now_rules : Rules State) (state : State) (pending last : List ℕ) →
      now_rules ≡ rules → Feeds written steady faults start sink rules first state pending input → last ≡ pending →
      Puts written steady faults sink new (transcript now_rules state last) →
      Puts written steady faults start new (transcript rules first input)
  end_puts sink new now_rules state pending last same feeds last_is puts =
      let here : Puts written steady faults sink new (transcript rules state (pending ++ [])) =
      subst (λ (t : List ℕ). Puts written steady faults sink new (transcript rules state t))
      (last_is ∙ sym (append-nil pending))
      (subst (λ (r : Rules State). Puts written steady faults sink new (transcript r state last)) same puts) in
      subst (λ (t : List ℕ). Puts written steady faults start new (transcript rules first t)) (append-nil input)
      (feeds_puts written steady faults rules start sink new first state pending input [] feeds here)

  -- a run that stopped there stopped within the texts of its input
  pub end_stops : (sink new : Sink) (now_rules : Rules State) (state : State) (pending last : List ℕ) (stop : Stop) →
      now_rules ≡ rules → Feeds written steady faults start sink rules first state pending input → last ≡ pending →
      Stops written steady faults sink new (texts_of now_rules state last) stop →
      Stops written steady faults start new (texts_of rules first input) stop
  end_stops sink new now_rules state pending last stop same feeds last_is stops =
      let here : Stops written steady faults sink new (texts_of rules state (pending ++ [])) stop =
      subst (λ (t : List ℕ). Stops written steady faults sink new (texts_of rules state t) stop)
      (last_is ∙ sym (append-nil pending))
      (subst (λ (r : Rules State). Stops written steady faults sink new (texts_of r state last) stop) same stops) in
      subst (λ (t : List ℕ). Stops written steady faults start new (texts_of rules first t) stop) (append-nil input)
      (feeds_stops written steady faults rules start sink new first state pending input [] stop feeds here)

  -- what is told of a run that stopped
  pub stops_told : (new : Sink) (now_left : Option (List ℕ)) (taken : ℕ) (stop : Stop) →
      Stops written steady faults start new (texts_of rules first input) stop →
      now_left ≡ Some (drop taken input) → taken ≤ length input → taken ≤ INPUT_LIMIT + 1 →
      IsTold new now_left (status_of stop)
  stops_told new now_left taken Write stops left few bound =
      (taken, record { left = left; few = few; allowed = bound }, λ before is. stops.told before is)
  stops_told new now_left taken Memory stops left few bound =
      (taken, record { left = left; few = few; allowed = bound }, λ before is. stops.told before is)

  -- a run that stopped had no fault of a sink that is steady for all
  pub stops_calm : (new : Sink) (stop : Stop) →
      Stops written steady faults start new (texts_of rules first input) stop → IsCalm new (status_of stop)
  stops_calm new Write stops room fits s = absurd (stops.not_calm _ (fitting (steady start) room _ fits s))
  stops_calm new Memory stops room fits s = (λ e. cc, stops.calm _ (fitting (steady start) room _ fits s))

  -- nor had one that put the whole transcript
  pub puts_calm : (new : Sink) (status : Status) → status ≢ WriteFault →
      Puts written steady faults start new (transcript rules first input) → IsCalm new status
  puts_calm new status other puts room fits s = (other, (puts.calm _ (fitting (steady start) room _ fits s)).1)

  -- the replies to whole lines are a part of all that answers the input
  pub feeds_calm : (new : Sink) (state : State) (pending : List ℕ) (now_left : Option (List ℕ)) (taken : ℕ)
      (status : Status) → status ≢ WriteFault → HasTaken new state pending now_left taken → IsCalm new status
  feeds_calm new state pending now_left taken status other has room fits s =
      let said = complete rules first (take taken input) in
      let rest = transcript rules state (pending ++ drop taken input) in
      let all : transcript rules first input ≡ said ++ rest =
      ap (transcript rules first) (sym (take-append-drop taken input)) ∙
      transcript-feeds written steady faults rules start new first state pending (take taken input)
      (drop taken input) has.feeds in
      let less : length said ≤ room = omega (arith, length-append said rest, ap length all) in
      (other, (has.feeds.puts.calm _ (fitting (steady start) room _ less s)).1)

  -- one byte past the limit was read
  pub too_long_told : (sink : Sink) (state : State) (pending into : List ℕ) (mid_left now_left : Option (List ℕ))
      (taken n : ℕ) → HasTaken sink state pending mid_left taken → Hands (drop taken input) now_left into n →
      taken ≡ INPUT_LIMIT → n ≡ 1 → IsTold sink now_left InputTooLong
  too_long_told sink state pending into mid_left now_left taken n has hands limit one = (
    taken + n,
    record {
      left = hands.left ∙ ap (λ t. Some t) (drop-drop n taken input);
      few = omega (arith, has.few, hands.few, length-drop taken input);
      allowed = omega arith;
    },
    λ before is. has.feeds.puts.told before is ∙
        ap (λ k. Some (before ++ complete rules first (take k input))) limit,
  )

  -- the input was read to its end
  pub done_told : (new : Sink) (now_left : Option (List ℕ)) (taken : ℕ) →
      Puts written steady faults start new (transcript rules first input) →
      now_left ≡ Some (drop taken input) → taken ≡ length input → taken ≤ INPUT_LIMIT → IsTold new now_left Done
  done_told new now_left taken puts left whole bound = (
    taken,
    record { left = left; few = omega (arith, whole); allowed = (whole, bound) },
    λ before is. puts.told before is,
  )

  -- ---- how a run ends

  -- a read of no bytes leaves what was left
  nothing_more : (now_left : Option (List ℕ)) (into : List ℕ) (taken n : ℕ) → Hands (drop taken input) now_left into n →
      n ≡ 0 → now_left ≡ Some (drop taken input)
  nothing_more now_left into taken n hands zero = hands.left ∙ ap (λ k. Some (drop k (drop taken input))) zero

  -- the end of the input was read, and all that answers it was written
  pub ends_done : (sink new : Sink) (now_rules : Rules State) (state : State) (pending last into : List ℕ)
      (mid_left now_left : Option (List ℕ)) (taken n : ℕ) → now_rules ≡ rules →
      HasTaken sink state pending mid_left taken → Hands (drop taken input) now_left into n → n ≡ 0 →
      taken ≤ INPUT_LIMIT → last ≡ pending → Puts written steady faults sink new (transcript now_rules state last) →
      Ends new now_left Done
  ends_done sink new now_rules state pending last into mid_left now_left taken n same has hands zero bound last_is
      puts =
      let all = all_taken sink state pending mid_left taken has (hands.ended.0 zero) in
      let written_all = end_puts sink new now_rules state pending last same all.1 last_is puts in
      record {
        told = done_told new now_left taken written_all (nothing_more now_left into taken n hands zero) all.0 bound;
        calm = puts_calm new Done (λ e. cc) written_all;
      }

  -- the end of the input was read, and the run stopped in what was left to be written
  pub ends_stopped : (sink new : Sink) (now_rules : Rules State) (state : State) (pending last into : List ℕ)
      (mid_left now_left : Option (List ℕ)) (taken n : ℕ) (stop : Stop) → now_rules ≡ rules →
      HasTaken sink state pending mid_left taken → Hands (drop taken input) now_left into n → n ≡ 0 →
      taken ≤ INPUT_LIMIT → last ≡ pending → Stops written steady faults sink new (texts_of now_rules state last) stop →
      Ends new now_left (status_of stop)
  ends_stopped sink new now_rules state pending last into mid_left now_left taken n stop same has hands zero bound
      last_is stops =
      let all = all_taken sink state pending mid_left taken has (hands.ended.0 zero) in
      let stops_all = end_stops sink new now_rules state pending last stop same all.1 last_is stops in
      record {
        told = stops_told new now_left taken stop stops_all (nothing_more now_left into taken n hands zero) has.few
            (omega arith);
        calm = stops_calm new stop stops_all;
      }

  -- the run stopped in the lines that were read last
  pub ends_within : (new : Sink) (into : List ℕ) (now_left : Option (List ℕ)) (taken n : ℕ) (stop : Stop) →
      taken ≤ length input → Hands (drop taken input) now_left into n → taken + n ≤ INPUT_LIMIT + 1 →
      Stops written steady faults start new (texts_of rules first input) stop → Ends new now_left (status_of stop)
  ends_within new into now_left taken n stop few hands bound stops = record {
    told = stops_told new now_left (taken + n) stop stops
        (hands.left ∙ ap (λ t. Some t) (drop-drop n taken input))
        (omega (arith, few, hands.few, length-drop taken input)) bound;
    calm = stops_calm new stop stops;
  }

  -- one byte past the limit was read
  pub ends_too_long : (sink : Sink) (state : State) (pending into : List ℕ) (mid_left now_left : Option (List ℕ))
      (taken n : ℕ) → HasTaken sink state pending mid_left taken → Hands (drop taken input) now_left into n →
      taken ≡ INPUT_LIMIT → n ≡ 1 → Ends sink now_left InputTooLong
  ends_too_long sink state pending into mid_left now_left taken n has hands limit one = record {
    told = too_long_told sink state pending into mid_left now_left taken n has hands limit one;
    calm = feeds_calm sink state pending mid_left taken InputTooLong (λ e. cc) has;
  }
