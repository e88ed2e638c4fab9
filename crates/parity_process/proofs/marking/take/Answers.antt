use Rattle.std.proofs.Common.{ap, ◌∙◌}
use Rattle.group_run.specs.Process.{Process}
use Rattle.parity_process.proofs.Marks.{handed-of}
use Rattle.parity_process.proofs.Waiting.{still-waiting}
use Rattle.parity_process.proofs.marking.take.Goals as goal

pub returns-clause-own : goal.returns-clause-own
returns-clause-own c = still-waiting c.args.bytes.now.process c.mark.new.self.process
    (ap (λ (p : Process). p.name) c.mark.ensures.process ∙ ap (λ (p : Process). p.name) c.apply.ensures.process)
    (ap (λ (p : Process). p.as_leader.sessions) c.mark.ensures.process ∙ ap (λ (p : Process). p.as_leader.sessions) c.apply.ensures.process)

pub returns-clause-leader : goal.returns-clause-leader
returns-clause-leader c = handed-of c.apply.new.below.shape c.args.mark.partition.0 c.args.mark.number c.args.leader c.args.mark.session.number
    c.apply.new.below.process.as_row.copies c.mark.result c.mark.ensures.done
