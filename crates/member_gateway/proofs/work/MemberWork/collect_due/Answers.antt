use Rattle.member_gateway.proofs.Called.{collected_due, inside_goes}
use Rattle.member_gateway.proofs.work.MemberWork.collect_due.Goals as goal

pub returns : goal.returns
returns c = record {
  goes = inside_goes c.self.inside.member c.args.self.now c.collect_due.new.self c.self.view_is
      (collected_due c.args.due.now.update.caller c.args.due.now.update.call c.collect_due.result c.self.inside.member
      c.collect_due.new.self c.collect_due.ensures);
}
