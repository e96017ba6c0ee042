use Rattle.std.proofs.Common.{rules, ◌≡◌, ◌↔◌, sym, ◌∙◌, ap, subst, filter, Contains}
use Rattle.sp_defs.specs.Partition.{Ascending, IsRegularOf, regulars}
use Rattle.sp_shapes.proofs.Listing.{regulars_ascend, regulars_contain}
use Rattle.std.proofs.lemmas.Fn.{filter_same}
use Rattle.sp_defs.specs.Partition.{is_regular}
use Rattle.sp_partition.proofs.Listings.{regulars_from}
use Rattle.sp_partition.proofs.listing.regular_of.Goals as goal

listed : (c : goal.After-retain) → c.retain.new.self.items ≡ regulars c.args.e c.args.n
listed c =
    filter_same _ (is_regular c.args.e) _ (λ x b f k. search rules) _ _ c.retain.ensures.filtered
    ∙ ap (filter (is_regular c.args.e)) c.in_ok-list.ensures.list
    ∙ regulars_from c.args.e c.args.n

pub returns-clause-list : goal.returns-clause-list
returns-clause-list c = listed c

pub returns-clause-ascends : goal.returns-clause-ascends
returns-clause-ascends c = subst Ascending (sym (listed c)) (regulars_ascend c.args.e c.args.n)

pub returns-clause-each : goal.returns-clause-each
returns-clause-each c = λ p.
    subst (λ list. Contains list p ↔ IsRegularOf c.args.e c.args.n p) (sym (listed c))
    (regulars_contain c.args.e c.args.n p)
