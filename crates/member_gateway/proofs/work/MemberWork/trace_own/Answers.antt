use Rattle.member_gateway.proofs.Called.{traced_here, inside_goes}
use Rattle.member_gateway.proofs.work.MemberWork.trace_own.Goals as goal

pub returns : goal.returns
returns c = record {
  goes = inside_goes c.self.inside.member c.args.self.now c.trace_here.new.self c.self.view_is
      (traced_here c.args.caller c.self.inside.member c.trace_here.new.self
      (c.may_trace.ensures.0 c.if-not-may_trace.false) c.trace_here.ensures);
}
