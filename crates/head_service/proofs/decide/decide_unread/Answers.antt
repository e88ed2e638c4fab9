use Rattle.std.proofs.Common.{ℕ, ◌≡◌, false, List, IfOk, OnErr, sym, ap, subst, ◌∙◌}
use Rattle.std.proofs.lemmas.Result.{on_err_weaker}
use Rattle.memc_table.specs.Ruling.{HoldsItem}
use Rattle.group_types.specs.Dimensions.{space_of}
use Rattle.group_calls.specs.declared.decision.Decision.{Decision}
use Rattle.group_run.specs.Deciding.{is_get, ruling_with}
use Rattle.head_service.specs.Beneath.{found_in}
use Rattle.head_service.specs.Wanting.{IssuesUpdate, TakesMemory}
use Rattle.head_service.proofs.Blind.{unread-decided}
use Rattle.head_service.proofs.Wanting.{issued-takes, put-told}
use Rattle.head_service.proofs.decide.decide_unread.Goals as goal

pub returns-in-Ok-clause-decision : goal.returns-in-Ok-clause-decision
returns-in-Ok-clause-decision g c =
    let read = found_in (g.B.Beneath.storage c.args.below.now).shape c.args.partition.0 (g.B.Beneath.storage c.args.below.now).process in
    subst (λ (d : Decision). IfOk c.decide_ruled.result (λ x. x ≡ d))
    (unread-decided (space_of c.args.replica.now.shape) c.args.replica.now.replica c.args.op.now read c.args.slot c.in-Ok.ruling c.requires.needed
    (c.in-Ok.ensures.ruling ∙ ap (ruling_with c.args.replica.now.replica c.args.op.now c.args.slot) c.empty.ensures))
    c.decide_ruled.ensures.decision

pub returns-in-Ok-clause-wanted : goal.returns-in-Ok-clause-wanted
returns-in-Ok-clause-wanted g c =
    let read = found_in (g.B.Beneath.storage c.args.below.now).shape c.args.partition.0 (g.B.Beneath.storage c.args.below.now).process in
    subst (λ (d : Decision). OnErr c.decide_ruled.result (TakesMemory d))
    (unread-decided (space_of c.args.replica.now.shape) c.args.replica.now.replica c.args.op.now read c.args.slot c.in-Ok.ruling c.requires.needed
    (c.in-Ok.ensures.ruling ∙ ap (ruling_with c.args.replica.now.replica c.args.op.now c.args.slot) c.empty.ensures))
    (on_err_weaker c.decide_ruled.result (issued-takes _) c.decide_ruled.ensures.wanted)

pub returns-in-Err-2-clause-decision : goal.returns-in-Err-2-clause-decision
returns-in-Err-2-clause-decision g c =
    let read = found_in (g.B.Beneath.storage c.args.below.now).shape c.args.partition.0 (g.B.Beneath.storage c.args.below.now).process in
    let other : is_get c.args.op.now.act ≡ false = ap is_get (sym c.act.ensures) ∙ sym c.is_get.ensures ∙ c.if-is_get.false in
    let holds = subst
    (λ (bytes : List ℕ). HoldsItem (ruling_with c.args.replica.now.replica c.args.op.now c.args.slot bytes))
    c.empty.ensures c.in-Err.ensures.wanted in
    put-told (space_of c.args.replica.now.shape) c.args.replica.now.replica c.args.op.now read c.args.slot c.requires.needed
    (λ d. IfOk c.put_off.result (λ x. x ≡ d)) other holds c.put_off.ensures.decision

pub returns-in-Err-2-clause-wanted : goal.returns-in-Err-2-clause-wanted
returns-in-Err-2-clause-wanted g c =
    let read = found_in (g.B.Beneath.storage c.args.below.now).shape c.args.partition.0 (g.B.Beneath.storage c.args.below.now).process in
    let other : is_get c.args.op.now.act ≡ false = ap is_get (sym c.act.ensures) ∙ sym c.is_get.ensures ∙ c.if-is_get.false in
    let holds = subst
    (λ (bytes : List ℕ). HoldsItem (ruling_with c.args.replica.now.replica c.args.op.now c.args.slot bytes))
    c.empty.ensures c.in-Err.ensures.wanted in
    on_err_weaker c.put_off.result (issued-takes _)
    (put-told (space_of c.args.replica.now.shape) c.args.replica.now.replica c.args.op.now read c.args.slot c.requires.needed
    (λ d. OnErr c.put_off.result (IssuesUpdate d)) other holds c.put_off.ensures.wanted)
