use Rattle.std.proofs.Common.{arith}
use Rattle.run_alloc.proofs.Pairs.{few_by_address, few_by_length, paired_reserved}
use Rattle.run_alloc.proofs.runs.Runs.reserve.Goals as goal

pub reserve-requires : goal.reserve-requires
reserve-requires c =
    record {
      few = omega (
        arith,
        few_by_address c.self.inside.by_address c.self.inside.by_length c.self.inside.spare
            c.self.invariant,
        c.requires.few,
      );
    }

pub reserve-requires-2 : goal.reserve-requires-2
reserve-requires-2 c =
    record {
      few = omega (
        arith,
        few_by_length c.self.inside.by_address c.self.inside.by_length c.self.inside.spare
            c.self.invariant,
        c.requires.few,
      );
    }

pub invariant_of-self-2 : goal.invariant_of-self-2
invariant_of-self-2 c =
    let first = few_by_address c.self.inside.by_address c.self.inside.by_length c.self.inside.spare c.self.invariant in
    paired_reserved c.self.inside.by_address c.self.inside.by_length c.self.inside.spare c.self.invariant _ _ _
    c.in_ok-reserve.ensures.order c.in_default.ensures.order c.in_ok-reserve.ensures.runs c.in_default.ensures.runs
    (omega (arith, c.self.invariant.room, c.max-self-inside.ensures, c.in_ok-reserve.ensures.ok))
    (omega (arith, c.self.invariant.length_room, c.max-self-inside.ensures, c.in_default.ensures.ok))
    (omega (arith, c.self.invariant.most, c.max-self-inside.ensures, c.in_ok-reserve.ensures.most))
    (omega (arith, c.self.invariant.length_most, c.max-self-inside.ensures, c.in_default.ensures.most))
    (omega (arith, first, c.self.invariant.few, c.max-self-inside.ensures, c.requires.few))
