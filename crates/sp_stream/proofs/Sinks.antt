-- Texts that are written one after the other, and where that stops.
use Rattle.std.proofs.Common.{◌≡◌, ◌≢◌, ◌≤◌, ◌<◌, ◌+◌, ◌-◌, ◌++◌, [], List, ℕ, Option, Some, length, take}
use Rattle.std.proofs.Common.{length-append}
use Rattle.std.proofs.Common.{append_assoc, append-nil, arith, ap, sym, ◌∙◌, refl, subst}
use Rattle.std.specs.List.{concat}
use Rattle.std.proofs.lemmas.Grind.{common_steps}
use Rattle.std.proofs.lemmas.List.Folds.{concat-append}
use Rattle.sp_base.specs.Causes.{Rose}
use Rattle.sp_stream.specs.declared.lines.Stop.{Stop}
use Rattle.sp_stream.specs.declared.lines.Stop.TheVariants.{Write, Memory}
use Rattle.sp_stream.specs.declared.status.Status.{Status}
use Rattle.sp_stream.specs.declared.status.Status.TheVariants.{WriteFault}
use Rattle.sp_stream.specs.Faults.{FaultsHaveCause}
use Rattle.sp_stream.specs.Served.{status_of}
use Rattle.sp_stream.specs.Writing.{Puts, Breaks, RunsOut, Stops}

-- a sink that is steady for two texts is so for the first, and then for the second
split_room : (steady : ℕ → Type 0) (one two : List ℕ) (room : ℕ) →
    steady (length (one ++ two) + room) → steady (length one + (length two + room))
split_room steady one two room s =
    let same : length (one ++ two) + room ≡ length one + (length two + room) = omega (arith, length-append one two) in
    subst steady same s

module _ {Sink : Type 0} (written : Sink → Option (List ℕ)) (steady : Sink → ℕ → Type 0) (faults : Sink → ℕ) where
  -- nothing is put where nothing is done
  pub puts_nothing : (sink : Sink) → Puts written steady faults sink sink []
  puts_nothing sink = record {
    told = λ before is. is ∙ ap (λ t. Some t) (sym (append-nil before));
    calm = λ room s. (subst (steady sink) (no_more room) s, refl);
    later = omega arith;
  }
    where
      no_more : (room : ℕ) → length {A = ℕ} [] + room ≡ room
      no_more room = omega arith

  -- two texts, one after the other
  pub puts_both : (old mid new : Sink) (one two : List ℕ) → Puts written steady faults old mid one →
      Puts written steady faults mid new two → Puts written steady faults old new (one ++ two)
  puts_both old mid new one two first second = record {
    told = λ before is.
        second.told (before ++ one) (first.told before is) ∙ ap (λ t. Some t) (append_assoc before one two);
    calm = λ room s.
        let after_one = first.calm (length two + room) (split_room (steady old) one two room s) in
        let after_two = second.calm room after_one.0 in
        (after_two.0, after_two.1 ∙ after_one.1);
    later = omega (arith, first.later, second.later);
  }

  -- a break within the second of two texts is one within both
  pub breaks_later : (old mid new : Sink) (one two : List ℕ) → Puts written steady faults old mid one →
      Breaks written steady faults mid new two → Breaks written steady faults old new (one ++ two)
  breaks_later old mid new one two first second = record {
    told = λ before is.
        let at = second.told (before ++ one) (first.told before is) in (
          one ++ at.0,
          at.1,
          ap (λ t. one ++ t) at.2 ∙ sym (append_assoc one at.0 at.1),
          at.3 ∙ ap (λ t. Some t) (append_assoc before one at.0),
        );
    not_calm = λ room s.
        second.not_calm room (first.calm (length two + room) (split_room (steady old) one two room s)).0;
    later = omega (arith, first.later, second.later);
    rose = omega (arith, first.later, second.rose);
  }

  -- what broke off in a text breaks off in a longer one
  pub breaks_early : (old new : Sink) (one two : List ℕ) → Breaks written steady faults old new one →
      Breaks written steady faults old new (one ++ two)
  breaks_early old new one two breaks = record {
    told = λ before is.
        let at = breaks.told before is in (
          at.0,
          at.1 ++ two,
          ap (λ t. t ++ two) at.2 ∙ append_assoc at.0 at.1 two,
          at.3,
        );
    not_calm = λ room s. breaks.not_calm (length two + room) (split_room (steady old) one two room s);
    later = breaks.later;
    rose = breaks.rose;
  }

  -- memory may run out before the first text
  pub runs_out_at_once : (sink : Sink) (texts : List (List ℕ)) → RunsOut written steady faults sink sink texts
  runs_out_at_once sink texts = record {
    told = λ before is. ([], texts, refl, is ∙ ap (λ t. Some t) (sym (append-nil before)));
    calm = λ room s. refl;
    later = omega arith;
  }

  -- or after some that were put
  pub runs_out_later : (old mid new : Sink) (some others : List (List ℕ)) →
      Puts written steady faults old mid (concat some) → RunsOut written steady faults mid new others →
      RunsOut written steady faults old new (some ++ others)
  runs_out_later old mid new some others first second = record {
    told = λ before is.
        let at = second.told (before ++ concat some) (first.told before is) in (
          some ++ at.0,
          at.1,
          ap (λ t. some ++ t) at.2 ∙ sym (append_assoc some at.0 at.1),
          at.3 ∙ ap (λ t. Some t)
              (append_assoc before (concat some) (concat at.0) ∙ ap (λ t. before ++ t) (sym (concat-append some at.0))),
        );
    calm = λ room s.
        let both : steady old (length (concat some ++ concat others) + room) =
        subst (λ (t : List ℕ). steady old (length t + room)) (concat-append some others) s in
        let after_one = first.calm (length (concat others) + room)
        (split_room (steady old) (concat some) (concat others) room both) in
        second.calm room after_one.0 ∙ after_one.1;
    later = omega (arith, first.later, second.later);
  }

  -- or within the first of several
  pub runs_out_early : (old new : Sink) (some others : List (List ℕ)) → RunsOut written steady faults old new some →
      RunsOut written steady faults old new (some ++ others)
  runs_out_early old new some others runs_out = record {
    told = λ before is.
        let at = runs_out.told before is in (
          at.0,
          at.1 ++ others,
          ap (λ t. t ++ others) at.2 ∙ append_assoc at.0 at.1 others,
          at.3,
        );
    calm = λ room s.
        let both : steady old (length (concat some ++ concat others) + room) =
        subst (λ (t : List ℕ). steady old (length t + room)) (concat-append some others) s in
        runs_out.calm (length (concat others) + room)
        (split_room (steady old) (concat some) (concat others) room both);
    later = runs_out.later;
  }

  -- a run that had written whole texts stopped in those that were to come
  pub stops_later : (old mid new : Sink) (some others : List (List ℕ)) (stop : Stop) →
      Puts written steady faults old mid (concat some) → Stops written steady faults mid new others stop →
      Stops written steady faults old new (some ++ others) stop
  stops_later old mid new some others Write first stops =
      subst (λ (t : List ℕ). Breaks written steady faults old new t) (sym (concat-append some others))
      (breaks_later old mid new (concat some) (concat others) first stops)
  stops_later old mid new some others Memory first stops = runs_out_later old mid new some others first stops

  -- a run that stopped in some texts did so in these and others
  pub stops_early : (old new : Sink) (some others : List (List ℕ)) (stop : Stop) →
      Stops written steady faults old new some stop → Stops written steady faults old new (some ++ others) stop
  stops_early old new some others Write stops =
      subst (λ (t : List ℕ). Breaks written steady faults old new t) (sym (concat-append some others))
      (breaks_early old new (concat some) (concat others) stops)
  stops_early old new some others Memory stops = runs_out_early old new some others stops

  -- one write, which took the first bytes of a text
  pub puts_first : (old new : Sink) (rest : List ℕ) (n : ℕ) → 0 < n → n ≤ length rest →
      ((before : List ℕ) → written old ≡ Some before → written new ≡ Some (before ++ take n rest)) →
      ((room : ℕ) → 0 < room → steady old room → steady new (room - n) × (faults new ≡ faults old)) →
      faults old ≤ faults new → Puts written steady faults old new (take n rest)
  puts_first old new rest n some few told calm later = record {
    told = told;
    calm = λ room s.
        let all : length (take n rest) ≡ n = grind (arith, common_steps) in
        let after = calm (length (take n rest) + room) (omega (arith, all)) s in
        let left : length (take n rest) + room - n ≡ room = omega (arith, all) in
        (subst (steady new) left after.0, after.1);
    later = later;
  }

  -- one write that failed
  pub breaks_at_once : (old new : Sink) (rest : List ℕ) → 0 < length rest → written new ≡ written old →
      ((room : ℕ) → 0 < room → steady old room → ⊥) → faults old ≤ faults new → Rose (faults old) (faults new) →
      Breaks written steady faults old new rest
  breaks_at_once old new rest some same not_calm later rose = record {
    told = λ before is. ([], rest, refl, same ∙ is ∙ ap (λ t. Some t) (sym (append-nil before)));
    not_calm = λ room s. not_calm (length rest + room) (omega arith) s;
    later = later;
    rose = rose;
  }

  -- a stop takes back no fault
  pub stops_faults : (old new : Sink) (texts : List (List ℕ)) (stop : Stop) →
      Stops written steady faults old new texts stop → faults old ≤ faults new
  stops_faults old new texts Write stops = stops.later
  stops_faults old new texts Memory stops = stops.later

  -- a stop by the sink adds one
  pub stops_rose : (old new : Sink) (texts : List (List ℕ)) (stop : Stop) →
      Stops written steady faults old new texts stop → status_of stop ≡ WriteFault → Rose (faults old) (faults new)
  stops_rose old new texts Write stops is = stops.rose
  stops_rose old new texts Memory stops is = cc

  -- the faults of a sink that was written to, after a run that none of its writes ended
  pub puts_faults : (start sink new : Sink) (text : List ℕ) (status : Status) (IsSteady : Type 0) →
      status ≢ WriteFault → faults start ≤ faults sink → Puts written steady faults sink new text →
      (IsSteady → (status ≢ WriteFault) × (faults new ≡ faults start)) →
      FaultsHaveCause WriteFault status (faults start) (faults new) IsSteady
  puts_faults start sink new text status IsSteady other before puts calm = record {
    later = omega (arith, before, puts.later);
    cause = λ is. absurd (other is);
    calm = calm;
  }

  -- the faults of a sink, after a run that stopped in mid-stream
  pub stops_cause : (start sink new : Sink) (texts : List (List ℕ)) (stop : Stop) (IsSteady : Type 0) →
      faults start ≤ faults sink → Stops written steady faults sink new texts stop →
      (IsSteady → (status_of stop ≢ WriteFault) × (faults new ≡ faults start)) →
      FaultsHaveCause WriteFault (status_of stop) (faults start) (faults new) IsSteady
  stops_cause start sink new texts stop IsSteady before stops calm =
      let later : faults sink ≤ faults new = stops_faults sink new texts stop stops in
      record {
        later = omega arith;
        cause = λ is.
            let rose : Rose (faults sink) (faults new) = stops_rose sink new texts stop stops is in
            omega arith;
        calm = calm;
      }
