use Rattle.std.proofs.Common.{◌≡◌, sym, subst, ◌∙◌}
use Rattle.group_types.specs.declared.process.ProcessId.TheVariants.{DataNode, ParityNode}
use Rattle.group_message.specs.declared.message.Message.{Message}
use Rattle.group_run.specs.Fitting.{Fits, ReadFits}
use Rattle.group_run.specs.Process.{Process}
use Rattle.head_service.specs.Serving.{serving}
use Rattle.parity_process.proofs.Beneath.{over-stays}
use Rattle.parity_process.proofs.receiving.receive.Goals as goal

pub returns-in-ReadBlock-clause-step : goal.returns-in-ReadBlock-clause-step
returns-in-ReadBlock-clause-step c =
    let s = c.args.service.now.shape in
    let p : Process = serving c.args.service.now c.args.bytes.now.process in
    let asked : ReadFits s p c.in-ReadBlock.session c.in-ReadBlock.block c.in-ReadBlock.rows
    = subst (λ (m : Message). Fits s c.args.from m p) c.in-ReadBlock.is c.requires.fits in
    let apart : DataNode asked.holder.0 ≡ ParityNode c.requires.ready.sound.named.0 = sym asked.holder.1 ∙ c.requires.ready.sound.named.1 in
    absurd (cc apart)

pub returns-in-Block-clause-over : goal.returns-in-Block-clause-over
returns-in-Block-clause-over c = over-stays c.args.service.now c.args.bytes.now c.gather_block.new.bytes c.gather_block.ensures.stays c.requires.ready.over

pub returns-in-Row-clause-over : goal.returns-in-Row-clause-over
returns-in-Row-clause-over c = over-stays c.args.service.now c.args.bytes.now c.gather_row.new.bytes c.gather_row.ensures.stays c.requires.ready.over

pub returns-in-Cease-clause-over : goal.returns-in-Cease-clause-over
returns-in-Cease-clause-over c = over-stays c.args.service.now c.args.bytes.now c.cease.new.bytes c.cease.ensures.stays c.requires.ready.over
