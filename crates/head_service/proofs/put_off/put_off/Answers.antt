use Rattle.std.proofs.Common.{◌≡◌, false, length, IfOk, OnErr, sym, ap, ◌∙◌}
use Rattle.group_types.specs.Dimensions.{space_of}
use Rattle.memc_table.specs.Act.{act_value}
use Rattle.memc_table.specs.declared.act.Act.{Act}
use Rattle.group_run.specs.Deciding.{is_touch}
use Rattle.head_service.specs.Beneath.{found_by}
use Rattle.head_service.specs.Wanting.{IssuesUpdate}
use Rattle.head_service.proofs.Wanting.{put-placed}
use Rattle.head_service.proofs.put_off.put_off.Goals as goal

pub returns-in-None-2-clause-decision : goal.returns-in-None-2-clause-decision
returns-in-None-2-clause-decision g c = λ outcome h brought.
    let other : is_touch c.args.op.now.act ≡ false = ap is_touch (sym c.act.ensures) ∙ sym c.is_touch.ensures ∙ c.if-is_touch.false in
    put-placed (space_of c.args.replica.now.shape) c.args.replica.now.replica c.args.op.now.act
    (found_by c.args.partition.0 (g.B.Beneath.storage c.args.below.now))
    outcome h c.brought.result (λ d. IfOk c.put_nowhere.result (λ x. x ≡ d)) c.in-None.ensures.few other
    (c.brought.ensures ∙ ap (λ (act : Act). length (act_value act)) c.act-in-None-2.ensures) brought (c.put_nowhere.ensures.decision outcome h)

pub returns-in-None-2-clause-wanted : goal.returns-in-None-2-clause-wanted
returns-in-None-2-clause-wanted g c = λ outcome h brought.
    let other : is_touch c.args.op.now.act ≡ false = ap is_touch (sym c.act.ensures) ∙ sym c.is_touch.ensures ∙ c.if-is_touch.false in
    put-placed (space_of c.args.replica.now.shape) c.args.replica.now.replica c.args.op.now.act
    (found_by c.args.partition.0 (g.B.Beneath.storage c.args.below.now))
    outcome h c.brought.result (λ d. OnErr c.put_nowhere.result (IssuesUpdate d)) c.in-None.ensures.few other
    (c.brought.ensures ∙ ap (λ (act : Act). length (act_value act)) c.act-in-None-2.ensures) brought (c.put_nowhere.ensures.wanted outcome h)
