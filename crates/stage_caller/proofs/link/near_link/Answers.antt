use Rattle.std.proofs.Common.{◌<◌, ◌+◌, ◌/◌, ◌%◌, ℕ, sym, ap, ◌∙◌, arith}
use Rattle.group_types.specs.Names.{of_rank}
use Rattle.stage_caller.proofs.Links.{none-where, ranks-apart}
use Rattle.stage_caller.proofs.link.near_link.Goals as goal

pub returns-then-is_multiple_of-clause-none : goal.returns-then-is_multiple_of-clause-none
returns-then-is_multiple_of-clause-none c =
    let route = c.args.route.now in
    let value = c.m-others.ensures.value in
    let few = c.if-others-i.false in
    let some : 0 < route.shape.m = omega (arith, few, value) in
    none-where c.between.result _ _ c.between.ensures.none
    (ranks-apart route.partition.0 route.shape.m route.rank ((c.args.caller + c.args.place / 2) % 4294967296)
    c.further.result.rank c.server-head.result c.server-other.result some route.within
    (c.further.ensures.rank
    ∙ ap (λ (m : ℕ). (route.rank + (1 + (c.args.caller + c.args.place / 2) % 4294967296 % m) % (route.shape.m + 1)) %
    (route.shape.m + 1)) value)
    c.server-head.ensures.rank
    (c.server-other.ensures.rank ∙ ap (λ (d : _). of_rank d.0 c.further.result.rank) c.further.ensures.partition))

pub returns-else-is_multiple_of-clause-none : goal.returns-else-is_multiple_of-clause-none
returns-else-is_multiple_of-clause-none c =
    let route = c.args.route.now in
    let value = c.m-others.ensures.value in
    let few = c.if-others-i.false in
    let some : 0 < route.shape.m = omega (arith, few, value) in
    none-where c.between-else-is_multiple_of.result _ _ c.between-else-is_multiple_of.ensures.none
    (λ same. ranks-apart route.partition.0 route.shape.m route.rank ((c.args.caller + c.args.place / 2) % 4294967296)
    c.further.result.rank c.server-head.result c.server-other.result some route.within
    (c.further.ensures.rank
    ∙ ap (λ (m : ℕ). (route.rank + (1 + (c.args.caller + c.args.place / 2) % 4294967296 % m) % (route.shape.m + 1)) %
    (route.shape.m + 1)) value)
    c.server-head.ensures.rank
    (c.server-other.ensures.rank ∙ ap (λ (d : _). of_rank d.0 c.further.result.rank) c.further.ensures.partition)
    (sym same))
