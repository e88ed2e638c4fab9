use Rattle.std.proofs.Common.{◌≡◌, ◌+◌, suc, IfOk, OnErr, subst, arith}
use Rattle.group_run.specs.Replica.{last_of}
use Rattle.memc_table.specs.Ruling.{HoldsItem}
use Rattle.head_service.proofs.Deciding.{ruling-held}
use Rattle.head_service.proofs.ruling.ruling_with.Goals as goal

pub returns-in-Some : goal.returns-in-Some
returns-in-Some c =
    let next : c.last-number.result + 1 ≡ suc (last_of c.args.replica.now.replica) = omega (arith, c.last-number.ensures.last) in
    let same =
    ruling-held c.args.replica.now.replica c.args.op.now c.args.slot c.in-Some.slot c.args.value (c.last-number.result + 1) c.held_as-held.result
    c.in-Some.is next c.held_as-held.ensures in
    record {
      ruling = subst (λ y. IfOk c.rule_held.result (λ x. x ≡ y)) same c.rule_held.ensures.ruling;
      wanted = subst (λ y. OnErr c.rule_held.result (HoldsItem y)) same c.rule_held.ensures.wanted;
    }
