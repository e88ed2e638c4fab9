use Rattle.member_gateway.proofs.Called.{permitted_all, inside_goes}
use Rattle.member_gateway.proofs.work.MemberWork.permit.Goals as goal

pub returns : goal.returns
returns c = record {
  goes = inside_goes c.self.inside.member c.args.self.now c.permit.new.self c.self.view_is
      (permitted_all c.self.inside.member c.permit.new.self c.permit.ensures.acts);
}
