use Rattle.std.proofs.Common.{◌≡◌, ℕ, ◌+◌, ◌-◌, ◌<◌, ◌≤◌, List, length, get_or, drop, refl, sym}
use Rattle.std.proofs.Common.{◌∙◌, ap, subst, arith, inl, ltb-true}
use Rattle.std.proofs.lemmas.List.{get_or-drop, get_or_default, length-drop}
use Rattle.std.specs.List.{AllByRecursion}
use Rattle.sp_llt.specs.Place.{Place}
use Rattle.sp_llt.specs.Adopting.{Rising}
use Rattle.sp_cert.specs.Checked.{ranks_in}
use Rattle.sp_cert.proofs.Stepping.{all_lower}
use Rattle.sp_cert.proofs.checking.start_below.Goals as goal

-- with the last rank below k, all ranks that rise to it are
lower_from : (es : List Place) (start k : ℕ) (last : Place) → start ≤ length es → Rising (ranks_in (drop start es)) →
    ((d : Place) → last ≡ get_or es (length es - 1) d) → last.rank < k →
    AllByRecursion (λ p. p.rank < k) (drop start es)
lower_from es start k last within rising at low = all_lower (drop start es) k rising below
  where
    below : (d : Place) (j : ℕ) → j + 1 ≡ length (drop start es) → (get_or (drop start es) j d).rank < k
    below d j e =
        let place : start + j ≡ length es - 1 = omega (arith, e, length-drop start es, within) in
        subst (λ (p : Place). p.rank < k)
        (at d ∙ sym (get_or-drop start es j d ∙ ap (λ i. get_or es i d) place)) low

pub returns-then-number-k : goal.returns-then-number-k
returns-then-number-k c = record {
  within = c.requires.start;
  rising = c.requires.rising;
  lower =
      lower_from c.args.entries.now c.args.start c.args.k c.in-Some.last.now c.requires.start c.requires.rising
      (λ d. c.in-Some.ensures.item.1
      ∙ get_or_default c.args.entries.now (length c.args.entries.now - 1) c.in-Some.last.now d
      (omega (arith, ltb-true 0 (length c.args.entries.now) (sym c.in-Some.ensures.item.0))))
      (subst (λ r. r < c.args.k) c.number.ensures c.if-number-k.true);
  moved = inl refl;
}
