use Rattle.std.proofs.Common.{◌≡◌, ℕ, ◌<◌, [], length, get_or, Contains, Less, refl, sym, subst, ◌∙◌, ap}
use Rattle.sp_defs.specs.Partition.{order, regulars}
use Rattle.sp_replies.proofs.Ranking.{ordered, listed}
use Rattle.sp_replies.proofs.rows.rank_of.Goals as goal

pub rank-requires : goal.rank-requires
rank-requires c =
    subst (λ rs. (i j : ℕ) → i < j → j < length rs → order (get_or rs i []) (get_or rs j []) ≡ Less)
    (sym c.regulars.ensures.value) (ordered c.args.ctx.now.e c.args.ctx.now.degree)

pub unreachable-requires : goal.unreachable-requires
unreachable-requires c = c.in-None.ensures.none.0 refl
    (subst (λ rs. Contains rs c.args.mu.now)
    (ap (regulars c.args.ctx.now.e) c.requires.degree ∙ sym c.regulars.ensures.value)
    (listed c.args.ctx.now.e c.args.mu.now c.requires.partition c.requires.regular))

pub returns-clause-below : goal.returns-clause-below
returns-clause-below c =
    subst (λ rs. c.in-Some.k < length rs) c.regulars.ensures.value ((c.rank.ensures.some c.in-Some.k).0 c.in-Some.is).0
