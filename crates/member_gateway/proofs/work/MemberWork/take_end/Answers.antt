use Rattle.std.proofs.Common.{rules}
use Rattle.member_gateway.proofs.Called.{shown_inside}
use Rattle.member_gateway.proofs.work.MemberWork.take_end.Goals as goal

pub returns-clause-shown : goal.returns-clause-shown
returns-clause-shown c = shown_inside c.args.caller c.in_ok-ping.ping c.in_ok-end.end c.show.result c.self.inside.member c.args.self.now c.show.new.self
    c.self.view_is (search rules) c.show.ensures.acts c.show.ensures.told (search rules)
