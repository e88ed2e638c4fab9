use Rattle.parity_process.proofs.Beneath.{over-stays}
use Rattle.parity_process.proofs.closing.notice.Goals as goal

pub notice-settled-requires-clause-beneath : goal.notice-settled-requires-clause-beneath
notice-settled-requires-clause-beneath c = over-stays c.args.service.now c.args.bytes.now c.close.new.bytes c.close.ensures.stays c.requires.over
