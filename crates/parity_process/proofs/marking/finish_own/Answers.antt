use Rattle.std.proofs.Common.{sym, ap, ◌∙◌}
use Rattle.group_types.specs.declared.process.ProcessId.TheVariants.{ParityNode}
use Rattle.parity_process.proofs.Waiting.{own-awaited}
use Rattle.parity_process.proofs.marking.finish_own.Goals as goal

pub row-requires-clause-awaited : goal.row-requires-clause-awaited
row-requires-clause-awaited c = own-awaited c.leader-leader.result c.number-number.result c.args.bytes.now.process
    (c.requires.leader ∙ ap ParityNode (sym c.leader-leader.ensures)) c.requires.own
