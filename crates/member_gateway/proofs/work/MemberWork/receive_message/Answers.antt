use Rattle.member_gateway.proofs.Called.{received_or, inside_goes}
use Rattle.member_gateway.proofs.work.MemberWork.receive_message.Goals as goal

pub returns : goal.returns
returns c = record {
  goes = inside_goes c.self.inside.member c.args.self.now c.receive.new.self c.self.view_is
      (received_or c.args.from c.args.message.now c.self.inside.member c.receive.new.self c.receive.result
      c.receive.ensures.received c.receive.ensures.want);
}
