use Rattle.group_wire.specs.Sets.{entry_at}
use Rattle.member_gateway.proofs.Called.{treated_or, inside_goes}
use Rattle.member_gateway.proofs.work.MemberWork.treat_one.Goals as goal

pub returns : goal.returns
returns c = record {
  goes = inside_goes c.self.inside.member c.args.self.now c.treat.new.self c.self.view_is
      (treated_or c.args.place (entry_at c.self.inside.member.parked c.args.place) c.self.inside.member c.treat.new.self
      c.treat.result c.treat.ensures.treated c.treat.ensures.want);
}
