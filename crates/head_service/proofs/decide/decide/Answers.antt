use Rattle.std.proofs.Common.{sym, ap, ap₂, ◌∙◌}
use Rattle.std.proofs.lemmas.Result.{on_err_weaker}
use Rattle.group_types.specs.Dimensions.{space_of}
use Rattle.memc_table.specs.Act.{key_of}
use Rattle.group_run.specs.Deciding.{waits_for}
use Rattle.group_run.specs.Replica.{number_on, slot_in}
use Rattle.head_service.specs.Beneath.{found_in}
use Rattle.head_service.proofs.Follows.{follows-once}
use Rattle.head_service.proofs.Wanting.{wants-waiting}
use Rattle.head_service.proofs.decide.decide.Goals as goal

pub returns-in-None-clause-follows : goal.returns-in-None-clause-follows
returns-in-None-clause-follows g c =
    let last = c.unfinished-last.ensures ∙ ap (number_on c.args.replica.now.replica.log) (c.key.ensures ∙ ap key_of c.act.ensures) in
    let waits = ap₂ (waits_for c.args.inherited) (sym c.act-2.ensures) (sym last) ∙ sym c.waits_for.ensures ∙ c.in-None.is in
    let read = found_in (g.B.Beneath.storage c.args.below.now).shape c.args.partition.0 (g.B.Beneath.storage c.args.below.now).process in
    let slot = slot_in c.args.replica.now.replica.items (key_of c.args.op.now.act) in
    follows-once c.args.replica.now.shape c.args.replica.now.replica c.args.op.now read c.args.inherited slot waits
    c.decide_settled.result c.decide_settled.ensures.decision c.decide_settled.ensures.whole

pub returns-in-None-clause-wanted : goal.returns-in-None-clause-wanted
returns-in-None-clause-wanted g c =
    let last = c.unfinished-last.ensures ∙ ap (number_on c.args.replica.now.replica.log) (c.key.ensures ∙ ap key_of c.act.ensures) in
    let waits = ap₂ (waits_for c.args.inherited) (sym c.act-2.ensures) (sym last) ∙ sym c.waits_for.ensures ∙ c.in-None.is in
    let read = found_in (g.B.Beneath.storage c.args.below.now).shape c.args.partition.0 (g.B.Beneath.storage c.args.below.now).process in
    on_err_weaker c.decide_settled.result
    (wants-waiting (space_of c.args.replica.now.shape) c.args.inherited c.args.replica.now.replica c.args.op.now read waits) c.decide_settled.ensures.wanted
