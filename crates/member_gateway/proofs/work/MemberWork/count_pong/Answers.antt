use Rattle.member_gateway.proofs.Called.{counted_so, inside_goes}
use Rattle.member_gateway.proofs.work.MemberWork.count_pong.Goals as goal

pub returns : goal.returns
returns c = record {
  goes = inside_goes c.self.inside.member c.args.self.now c.count.new.self c.self.view_is
      (counted_so c.args.from c.args.ping c.self.inside.member c.count.new.self c.count.ensures);
}
