use Rattle.std.proofs.Common.{[], ◌∷◌, ◌++◌, ap, ◌∙◌}
use Rattle.group_stage.specs.SeatList.{SeatList}
use Rattle.group_stage.proofs.Gathering.{of-stage-more}
use Rattle.group_stage.proofs.seats.Seats.put.Goals as goal

pub returns-clause-of_stage : goal.returns-clause-of_stage
returns-clause-of_stage c = λ stage of_stage last.
    of-stage-more stage c.args.self.now.seats c.push_reserved.new.self.items c.args.seat (c.push_reserved.ensures.items
    ∙ ap (λ (l : SeatList). l.seats ++ c.args.seat ∷ []) c.self.view_is) of_stage last
