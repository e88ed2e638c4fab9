use Rattle.member_gateway.proofs.Called.{asked_or, inside_goes}
use Rattle.member_gateway.proofs.work.MemberWork.ask_other.Goals as goal

pub returns : goal.returns
returns c = record {
  goes = inside_goes c.self.inside.member c.args.self.now c.ask.new.self c.self.view_is
      (asked_or c.args.caller c.args.of c.self.inside.member c.ask.new.self c.ask.result
      (c.may_ask.ensures.0 c.if-not-may_ask.false) c.ask.ensures.acts c.ask.ensures.want);
}
