use Rattle.member_gateway.proofs.Called.{traced_other, inside_goes}
use Rattle.member_gateway.proofs.work.MemberWork.trace_other.Goals as goal

pub returns : goal.returns
returns c = record {
  goes = inside_goes c.self.inside.member c.args.self.now c.trace.new.self c.self.view_is
      (traced_other c.args.caller c.args.at c.trace.result c.self.inside.member c.trace.new.self
      (c.may_trace.ensures.0 c.if-not-may_trace.false) c.trace.ensures);
}
