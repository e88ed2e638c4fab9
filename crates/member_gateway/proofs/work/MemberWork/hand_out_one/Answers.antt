use Rattle.member_gateway.proofs.Called.{handed_or, took_lost, inside_goes}
use Rattle.member_gateway.proofs.work.MemberWork.hand_out_one.Goals as goal

pub returns : goal.returns
returns c = record {
  goes = inside_goes c.self.inside.member c.args.self.now c.hand_out.new.self c.self.view_is
      (handed_or c.process_at-to.result c.self.inside.member c.hand_out.new.self c.hand_out.result
      c.hand_out.ensures.handed c.hand_out.ensures.nothing);
}

pub returns-then-has_cut : goal.returns-then-has_cut
returns-then-has_cut c =
    record {
      goes = inside_goes c.self.inside.member c.args.self.now c.take_lost.new.self c.self.view_is
          (took_lost c.self.inside.member c.take_lost.new.self c.take_lost.ensures.acts);
    }
