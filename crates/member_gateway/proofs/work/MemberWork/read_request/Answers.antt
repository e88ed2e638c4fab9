use Rattle.member_gateway.proofs.Called.{read_or, inside_goes}
use Rattle.member_gateway.proofs.work.MemberWork.read_request.Goals as goal

pub returns : goal.returns
returns c = record {
  goes = inside_goes c.self.inside.member c.args.self.now c.read.new.self c.self.view_is
      (read_or c.args.from c.args.request c.self.inside.member c.read.new.self c.read.result c.read.ensures.acts
      c.read.ensures.want);
}
