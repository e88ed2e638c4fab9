use Rattle.member_gateway.proofs.Called.{gave_up, inside_goes}
use Rattle.member_gateway.proofs.work.MemberWork.give_up_one.Goals as goal

pub returns : goal.returns
returns c = record {
  goes = inside_goes c.self.inside.member c.args.self.now c.give_up.new.self c.self.view_is
      (gave_up c.args.caller c.self.inside.member c.give_up.new.self (c.may_give_up.ensures.0 c.if-not-may_give_up.false)
      c.give_up.ensures.acts);
}
