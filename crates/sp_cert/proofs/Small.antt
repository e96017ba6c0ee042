-- The certificates of degree 1 at e = 2.
use Rattle.std.proofs.Common.{◌≡◌, ℕ, List, [], ◌∷◌, refl, sym, subst, arith}
use Rattle.std.specs.List.{AllByRecursion}
use Rattle.sp_defs.specs.Partition.{regulars, partitions, partitions_within}
use Rattle.sp_defs.specs.Power.{FockVector}
use Rattle.sp_defs.specs.Within.{PowersWithin}
use Rattle.sp_llt.specs.declared.share.Share.{Share}
use Rattle.sp_llt.specs.Adopting.{listed_powers, AreListedShares}
use Rattle.sp_llt.specs.Shares.{rank_of}
use Rattle.sp_cert.specs.declared.certificate.Column.{Column}
use Rattle.sp_cert.specs.Order.{columns_of}
use Rattle.sp_cert.specs.Rules.{IsCertificate, listing}

column : List ℕ → List Share → FockVector → Column
column mu shares entries = record { mu = mu; shares = shares; entries = entries }

columns_of_one : (1 ∷ []) ∷ [] ≡ columns_of 1 2 1
unfolding columns_of regulars partitions partitions_within
columns_of_one = refl

-- one column without shares
pub one_column : (c : Column) (cs : List Column) → cs ≡ c ∷ [] → c.mu ≡ 1 ∷ [] → c.shares ≡ [] →
    c.entries.degree ≡ 1 → AllByRecursion (λ t. PowersWithin listed_powers t.1) c.entries.entries →
    IsCertificate (listing 1 2 1 cs)
one_column c cs is mu none degree powers = subst (λ xs. IsCertificate (listing 1 2 1 xs)) (sym is) (record {
  version_least = omega arith;
  version_most = omega arith;
  e_least = omega arith;
  e_most = omega arith;
  degree = omega arith;
  order = subst (λ m. m ∷ [] ≡ columns_of 1 2 1) (sym mu) columns_of_one;
  each = (
    record {
      degree = degree;
      shares = subst (λ ss. AreListedShares (rank_of 2 c.mu) ss) (sym none)
          (record { lower = tt; falling = tt; nonzero = tt; powers = tt });
      powers = powers;
      content = λ two. absurd (omega arith);
    },
    tt,
  );
})
