use Rattle.std.proofs.Common.{sym, ap, ◌∙◌}
use Rattle.group_stage.specs.SeatList.{SeatList}
use Rattle.group_stage.proofs.Gathering.{of-stage-fewer}
use Rattle.group_stage.proofs.seats.Seats.take.Goals as goal

pub returns-clause-of_stage : goal.returns-clause-of_stage
returns-clause-of_stage c = λ stage of_stage.
    of-stage-fewer stage c.args.self.now.seats c.pop.new.self.items c.pop.result
    (ap (λ (l : SeatList). l.seats) (sym c.self.view_is) ∙ c.pop.ensures.items) of_stage
