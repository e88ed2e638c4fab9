use Rattle.std.proofs.Common.{◌<◌, List, [], ◌∷◌, map, sym, ap, subst, ◌∙◌}
use Rattle.std.specs.Slots.{slots_items}
use Rattle.group_types.specs.Dimensions.{processes_of}
use Rattle.group_calls.specs.declared.event.Event.{Event}
use Rattle.group_stage.specs.Closed.{HasClosed}
use Rattle.group_stage.specs.Kept.{IsWholeSchedule}
use Rattle.group_stage.specs.Seated.{view_of}
use Rattle.group_stage.specs.declared.view.Plan.{Plan}
use Rattle.group_stage.proofs.Gathering.{has-closed, there}
use Rattle.group_stage.proofs.stage.Stage.taken_apart.Goals as goal

pub take_nodes-requires-clause-have : goal.take_nodes-requires-clause-have
take_nodes-requires-clause-have c =
    let fin = c.close_with.ensures.values.2 in
    let key = c.args.self.table.shared.key in
    let all = c.requires.parts ∙ ap (λ (k : Plan). k.callers) (sym c.args.self.key_is) in
    λ p low. (
      _,
      there key fin.0 fin.1.0 c.args.seat.id c.args.seat.me.0 fin.1.1 all c.requires.idle (slots_items c.close_with.result.slots) fin.4 p
          (subst (λ (k : Plan). p < processes_of k.shape) (sym c.args.self.key_is) low),
    )

pub returns : goal.returns
returns c =
    let fin = c.close_with.ensures.values.2 in
    let key = c.args.self.table.shared.key in
    let all = c.requires.parts ∙ ap (λ (k : Plan). k.callers) (sym c.args.self.key_is) in
    λ seats whole.
    let F : Plan → Type 0 = λ k. HasClosed k.shape seats c.take_nodes.result.nodes in
    subst F c.args.self.key_is (has-closed key fin.0 fin.1.0 c.args.seat.id c.args.seat.me.0 fin.1.1 all c.requires.idle
    (slots_items c.close_with.result.slots) fin.4 seats c.take_nodes.result.nodes
    (c.take_nodes.ensures.many ∙ ap (λ (k : Plan). processes_of k.shape) (sym c.args.self.key_is))
    (λ p y low is. c.take_nodes.ensures.nodes p y (subst (λ (k : Plan). p < processes_of k.shape) c.args.self.key_is low) is)
    (subst (λ (k : Plan). (es : List Event) → IsWholeSchedule k.shape es (c.args.seat.me.0 ∷ [])
    → IsWholeSchedule k.shape es (map view_of seats)) (sym c.args.self.key_is) whole))
