use Rattle.member_gateway.proofs.Called.{cut_one, inside_goes}
use Rattle.member_gateway.proofs.work.MemberWork.cut_member.Goals as goal

pub returns : goal.returns
returns c = record {
  goes = inside_goes c.self.inside.member c.args.self.now c.cut.new.self c.self.view_is
      (cut_one c.args.x c.self.inside.member c.cut.new.self c.cut.ensures.acts);
}
