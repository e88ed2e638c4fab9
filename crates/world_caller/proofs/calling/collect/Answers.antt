use Rattle.std.proofs.Common.{sym, subst}
use Rattle.group_types.specs.Names.{IsProcess}
use Rattle.law_histories.proofs.Headed.{rank-in}
use Rattle.world_caller.proofs.Making.{collect-made}
use Rattle.world_caller.proofs.calling.collect.Goals as goal

pub returns-clause-made : goal.returns-clause-made
returns-clause-made c op =
    let t = c.requires.ticketed in
    collect-made c.args.world.now c.make.new.world c.args.caller c.args.call op c.args.at c.in_ok-make.field-0
    c.in-Some.next c.collects_lead_on.ensures c.run.ensures
    c.requires.due c.requires.counted (
      c.requires.caller,
      subst (IsProcess c.args.world.now.shape) (sym t.named)
          (rank-in c.args.world.now.shape t.partition t.rank t.inside t.heads.within),
    ) t
    c.in_ok-make.ensures.world c.in_ok-make.ensures.answer (sym c.in-Some.ensures)
