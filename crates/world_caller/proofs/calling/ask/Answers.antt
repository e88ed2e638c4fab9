use Rattle.std.proofs.Common.{◌≡◌, ◌<◌, sym, ap, subst, ◌∙◌}
use Rattle.std.specs.Prelude.{All}
use Rattle.memc_table.specs.Act.{act_value}
use Rattle.memc_table.specs.Asked.{Asked}
use Rattle.memc_table.specs.declared.act.Act.{Act}
use Rattle.group_calls.specs.declared.event.Event.TheVariants.{Ask}
use Rattle.group_run.specs.Causes.{home_in}
use Rattle.group_run.specs.World.{step}
use Rattle.world_caller.specs.Calling.{Serves}
use Rattle.world_caller.proofs.Making.{ask-made}
use Rattle.world_caller.proofs.calling.ask.Goals as goal

pub returns-clause-made : goal.returns-clause-made
returns-clause-made c =
    let home : c.home.result.0 ≡ home_in c.args.world.now c.args.op.now =
    cc (c.home.ensures.value, c.key.ensures, c.act-2.ensures, c.k.ensures.value, c.shape.ensures) in
    ask-made c.args.world.now c.make_ask.new.world c.args.caller c.asks-call.result c.args.op.now c.server-at.result
    c.in_ok-make_ask.field-0 c.in-Some.next c.asks_lead_on.ensures c.run.ensures
    c.requires.due c.requires.counted
    (c.requires.caller, c.server-at.ensures.inside, subst (λ (a : Act). All (λ b. b < 256) (act_value a)) c.act.ensures c.values_are_bytes.ensures)
    (subst (λ d. Serves c.args.world.now d c.server-at.result) home c.server-at.ensures.serves)
    c.in_ok-make_ask.ensures.world c.in_ok-make_ask.ensures.answer (sym c.in-Some.ensures) c.asks-call.ensures
