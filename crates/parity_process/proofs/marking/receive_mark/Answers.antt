use Rattle.parity_process.proofs.Waiting.{begun-waiting}
use Rattle.parity_process.proofs.marking.receive_mark.Goals as goal

pub hand_on-requires-clause-own : goal.hand_on-requires-clause-own
hand_on-requires-clause-own c = c.take-copy.ensures.own
    (begun-waiting c.args.bytes.now.shape c.number_of-leader.result c.args.mark.session.number c.args.mark.block
    c.args.bytes.now.process c.begin.new.self.process
    c.in_ok-begin.ensures.ok c.requires.own)
