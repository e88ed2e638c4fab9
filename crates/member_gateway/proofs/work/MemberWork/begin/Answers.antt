use Rattle.member_gateway.proofs.Called.{begun_inside}
use Rattle.member_gateway.proofs.work.MemberWork.begin.Goals as goal

pub returns : goal.returns
returns c = begun_inside c.args.caller c.args.op c.self.inside.member c.args.self.now c.begin.new.self c.self.view_is c.requires c.begin.ensures.acts
