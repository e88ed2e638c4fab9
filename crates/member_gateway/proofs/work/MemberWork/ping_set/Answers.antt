use Rattle.member_gateway.proofs.Called.{pinged_so, inside_goes}
use Rattle.member_gateway.proofs.work.MemberWork.ping_set.Goals as goal

pub returns : goal.returns
returns c = record {
  goes = inside_goes c.self.inside.member c.args.self.now c.ping.new.self c.self.view_is
      (pinged_so c.args.to.now c.ping.result c.self.inside.member c.ping.new.self c.ping.ensures.acts);
}
