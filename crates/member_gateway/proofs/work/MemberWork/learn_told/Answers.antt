use Rattle.member_gateway.proofs.Called.{learned_so, inside_goes}
use Rattle.member_gateway.proofs.work.MemberWork.learn_told.Goals as goal

pub returns : goal.returns
returns c = record {
  goes = inside_goes c.self.inside.member c.args.self.now c.learn.new.self c.self.view_is
      (learned_so c.args.from c.args.told c.self.inside.member c.learn.new.self c.learn.ensures);
}
