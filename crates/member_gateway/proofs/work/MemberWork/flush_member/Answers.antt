use Rattle.member_gateway.proofs.Called.{flushed_or, inside_goes}
use Rattle.member_gateway.proofs.work.MemberWork.flush_member.Goals as goal

pub returns : goal.returns
returns c = record {
  goes = inside_goes c.self.inside.member c.args.self.now c.flush.new.self c.self.view_is
      (flushed_or c.self.inside.member c.flush.new.self c.flush.result c.flush.ensures.acts c.flush.ensures.want);
}
