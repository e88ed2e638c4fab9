use Rattle.member_gateway.proofs.Called.{took_or, inside_goes}
use Rattle.member_gateway.proofs.work.MemberWork.take.Goals as goal

pub returns : goal.returns
returns c = record {
  goes = inside_goes c.self.inside.member c.args.self.now c.take.new.self c.self.view_is
      (took_or c.args.x c.self.inside.member c.take.new.self c.take.result c.take.ensures.acts c.take.ensures.want);
}
