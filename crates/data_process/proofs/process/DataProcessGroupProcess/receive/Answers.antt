use Rattle.group_message.specs.declared.message.Message.TheVariants as tells
use Rattle.process_service.proofs.Names.{received-name}
use Rattle.data_process.proofs.process.DataProcessGroupProcess.receive.Goals as goal

pub returns-in-Notice-clause-name : goal.returns-in-Notice-clause-name
returns-in-Notice-clause-name c = received-name c.args.self.now.shape c.args.from (tells.Notice c.in-Notice.dead) c.args.self.now.process
    c.notice.new.self.process c.notice.result c.notice.ensures.step c.notice.ensures.err
