use Rattle.std.proofs.Common.{rules, ◌≡◌, ◌∙◌, ap₂, nat_cmp, Ok, Err, map}
use Rattle.std.specs.List.Sorted.{IsBinarySearchResult}
use Rattle.std.proofs.lemmas.List.Sorted.{answers_always}
use Rattle.sp_lists.proofs.Occurrence.{occurs}
use Rattle.sp_lists.proofs.Places.{all_at}
use Rattle.sp_llt.specs.Place.{Place, place}
use Rattle.sp_llt.proofs.Ranked.{found_rank, missing_rank}
use Rattle.sp_llt.proofs.adopt.entry_of.Goals as goal

pub returns : goal.returns
returns c =
    let ps = c.args.earlier.now in
    let found : IsBinarySearchResult (λ (p : Place). nat_cmp p.rank c.args.rank) ps (Ok c.in-Ok.found) =
    c.in-Ok.ensures.position (λ p. p.rank) (answers_always _ _ _ (λ f a r g called. search rules)) in
    let p = c.index-earlier-found.result in
    c.index-earlier-found.is
    ∙ ap₂ place (all_at (λ p. p.key ≡ c.args.ctx.now) ps c.in-Ok.found p c.requires.of c.in-Ok.ensures.bound)
    (found_rank ps c.args.rank c.in-Ok.found p found)

pub unreachable-requires : goal.unreachable-requires
unreachable-requires c =
    let ps = c.args.earlier.now in
    let none : IsBinarySearchResult (λ (p : Place). nat_cmp p.rank c.args.rank) ps (Err c.in-Err.field-0) =
    c.in-Err.ensures.position (λ p. p.rank) (answers_always _ _ _ (λ f a r g called. search rules)) in
    missing_rank ps c.requires.rising c.args.rank c.in-Err.field-0 (place c.args.ctx.now 0) none
    (occurs c.args.rank (map (λ p. p.rank) ps) c.requires.listed)
