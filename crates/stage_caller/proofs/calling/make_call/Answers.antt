use Rattle.std.proofs.Common.{◌∙◌}
use Rattle.stage_caller.proofs.Coming.{called, come-asked, come-goes}
use Rattle.stage_caller.proofs.calling.make_call.Goals as goal

pub make-requires-clause-asked : goal.make-requires-clause-asked
make-requires-clause-asked c = come-asked c.args.seat.now c.moves.seat c.args.op.now c.args.start c.moves.phase c.requires.asked c.moves.invariant.come

pub returns-in-Ends-clause-called : goal.returns-in-Ends-clause-called
returns-in-Ends-clause-called c =
    called c.args.seat.now c.moves.seat c.make.new.seat c.args.op.now c.args.start c.moves.phase c.in_ok-end.field-0
    c.in-Ends.end c.in-Ends.is c.moves.invariant.come c.in_ok-end.ensures.stepped

pub moves-preserved : goal.moves-preserved
moves-preserved c = record {
  of = c.make.ensures.seat;
  come = come-goes c.args.seat.now c.moves.seat c.make.new.seat c.args.op.now c.args.start c.moves.phase c.in-Goes.to
      c.in_ok-end.field-0 c.in-Goes.heard c.in-Goes.is c.moves.invariant.come c.in_ok-end.ensures.stepped;
  shape = c.after-progress.ensures.shape ∙ c.moves.invariant.shape;
}
