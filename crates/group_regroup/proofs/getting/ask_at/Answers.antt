use Rattle.std.proofs.Common.{◌≡◌, subst}
use Rattle.std.specs.Prelude.{OnErr}
use Rattle.memc_table.specs.Asked.{Asked}
use Rattle.memc_table.specs.declared.act.Act.TheVariants.{Get}
use Rattle.group_calls.specs.declared.event.Event.TheVariants.{Ask}
use Rattle.group_eras.specs.Eras.{carrier}
use Rattle.group_regroup.specs.Parts.{IsPart}
use Rattle.group_regroup.specs.Reading.{tried}
use Rattle.group_regroup.proofs.getting.ask_at.Goals as goal

pub returns-clause-err : goal.returns-clause-err
returns-clause-err c =
    let op : c.new.result ≡ record { moment = 0; act = Get c.args.key } = λ i. record { moment = c.new.ensures.moment i; act = c.new.ensures.act i } in
    subst (λ (o : Asked). OnErr c.ask_event.result
    (IsPart c.args.world.now (tried c.args.world.now (Ask carrier o c.args.at)).events c.ask_event.new.world)) op
    c.ask_event.ensures.err
