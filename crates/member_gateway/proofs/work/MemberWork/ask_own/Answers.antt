use Rattle.member_gateway.proofs.Called.{asked_here_or, inside_goes}
use Rattle.member_gateway.proofs.work.MemberWork.ask_own.Goals as goal

pub returns : goal.returns
returns c = record {
  goes = inside_goes c.self.inside.member c.args.self.now c.ask_here.new.self c.self.view_is
      (asked_here_or c.args.caller c.self.inside.member c.ask_here.new.self c.ask_here.result
      (c.may_ask_here.ensures.0 c.if-not-may_ask_here.false) c.ask_here.ensures.acts c.ask_here.ensures.want);
}
