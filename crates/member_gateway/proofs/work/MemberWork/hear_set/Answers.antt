use Rattle.member_gateway.proofs.Called.{heard_so, inside_goes}
use Rattle.member_gateway.proofs.work.MemberWork.hear_set.Goals as goal

pub returns : goal.returns
returns c = record {
  goes = inside_goes c.self.inside.member c.args.self.now c.hear.new.self c.self.view_is
      (heard_so c.args.from c.args.set.now c.self.inside.member c.hear.new.self c.hear.ensures);
}
