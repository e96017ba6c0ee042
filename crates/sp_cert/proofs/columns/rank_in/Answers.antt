use Rattle.std.proofs.Common.{◌≡◌, ℕ, ◌<◌, List, [], length, get_or, refl, sym, ◌∙◌, ap, subst, Less, Contains}
use Rattle.sp_defs.specs.Partition.{order, regulars}
use Rattle.sp_lists.proofs.Occurrence.{contains}
use Rattle.sp_shapes.proofs.Listing.{each_regular}
use Rattle.sp_outcome_law.proofs.Ranks.{rank_of as place_rank}
use Rattle.sp_partition.proofs.Rising.{regulars_rise}
use Rattle.sp_cert.proofs.columns.rank_in.Goals as goal

-- the list ascends place by place
abbrev Rises : List (List ℕ) → Type 0
Rises list = (i j : ℕ) → i < j → j < length list → order (get_or list i []) (get_or list j []) ≡ Less

pub rank-requires : goal.rank-requires
rank-requires c =
    subst Rises (sym (c.deref.ensures.value ∙ c.requires.header.regulars))
    (regulars_rise c.args.header.now.e c.args.header.now.degree)

pub unreachable-requires : goal.unreachable-requires
unreachable-requires c =
    c.in-None.ensures.none.0 refl
    (subst (λ xs. Contains xs c.args.mu.now) (sym (c.deref.ensures.value ∙ c.requires.header.regulars))
    (contains c.args.mu.now (regulars c.args.header.now.e c.args.header.now.degree)
    (each_regular c.args.header.now.e c.args.header.now.degree c.args.mu.now c.requires.regular)))

pub returns : goal.returns
returns c =
    let found = (c.in-Some.ensures.some c.in-Some.k).0 refl in
    place_rank c.args.header.now.e c.args.header.now.degree c.in-Some.k c.args.mu.now []
    (subst (λ xs. c.in-Some.k < length xs) (c.deref.ensures.value ∙ c.requires.header.regulars) found.0)
    (ap (λ xs. get_or xs c.in-Some.k []) (sym (c.deref.ensures.value ∙ c.requires.header.regulars)) ∙ found.1)
    c.requires.regular.total
