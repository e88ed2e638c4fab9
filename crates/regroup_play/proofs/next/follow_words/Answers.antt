use Rattle.std.proofs.Common.{ap, ◌∙◌}
use Rattle.group_types.specs.Dimensions.{Dimensions}
use Rattle.regroup_play.proofs.next.follow_words.Goals as goal

pub follow_regroup-requires-clause-successor : goal.follow_regroup-requires-clause-successor
follow_regroup-requires-clause-successor c = record {
  shape = c.in_ok-shape.ensures.named.0;
  partitions = c.in_ok-shape.ensures.named.1 ∙ c.k.ensures.value ∙ ap (λ (s : Dimensions). s.k) c.shape.ensures;
}
