use Rattle.std.proofs.Common.{ℕ, List, map, sym, ap, ◌∙◌, arith}
use Rattle.std.proofs.lemmas.List.{length-map}
use Rattle.group_types.specs.Lists.{at}
use Rattle.group_types.specs.declared.process.Rank.{Rank}
use Rattle.group_types.proofs.Lists.{at_behind}
use Rattle.parity_process.proofs.marking.coming.rank_in.Goals as goal

pub returns-then-ranks-partition : goal.returns-then-ranks-partition
returns-then-ranks-partition c =
    let few = length-map c.ranks.result.now (λ (r : Rank). r.0) in
    sym (ap (λ (rs : List ℕ). at 0 rs c.args.partition.0) (sym c.ranks.ensures.value)
    ∙ at_behind 0 (map (λ (r : Rank). r.0) c.ranks.result.now) c.args.partition.0 (omega (arith, few, c.if-ranks-partition.true)))
