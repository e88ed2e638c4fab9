use Rattle.std.proofs.Common.{◌<◌, [], ◌∷◌, sym, subst}
use Rattle.std.specs.Prelude.{All, Some, Option}
use Rattle.memc_table.specs.Act.{act_value}
use Rattle.memc_table.specs.declared.act.Act.{Act}
use Rattle.group_wire.specs.Actions.{Begin}
use Rattle.group_wire.specs.State.{Unasked, OpenCall}
use Rattle.group_member.specs.Acting.{Acts}
use Rattle.group_member.specs.Callers.{IsFree, OwnCallers, caller_of}
use Rattle.group_member.specs.Standing.{Member}
use Rattle.group_member.proofs.Ended.{begin-acts}
use Rattle.group_member.proofs.Wholes.{callers-whole}
use Rattle.group_member.proofs.member.Member.begin.Goals as goal

pub invariant_of-self : goal.invariant_of-self
invariant_of-self c =
    let n = c.self.inside in
    let v : Member = record { words = n.words; signs = n.signs; callers = n.callers; parked = n.parked.items; node = n.node.node } in
    let can = subst (λ (old : Member). IsFree old.callers c.args.caller) (sym c.self.view_is) c.requires in
    let call : Option OpenCall = Some (record { op = c.args.op; position = 0; stage = Unasked }) in
    callers-whole c.self.invariant c.args.caller can.its (record (caller_of n.callers c.args.caller) { call = call }) c.begin.new.self c.begin.ensures

pub returns-clause-acts : goal.returns-clause-acts
returns-clause-acts c =
    let n = c.self.inside in
    let v : Member = record { words = n.words; signs = n.signs; callers = n.callers; parked = n.parked.items; node = n.node.node } in
    let can = subst (λ (old : Member). IsFree old.callers c.args.caller) (sym c.self.view_is) c.requires in
    let bytes : All (λ b. b < 256) (act_value c.args.op.act) = subst (λ (a : Act). All (λ b. b < 256) (act_value a)) c.act.ensures c.values_are_bytes.ensures in
    subst (λ (old : Member). Acts (Begin c.args.caller c.args.op ∷ []) old (record v { callers = c.begin.new.self })) c.self.view_is
    (subst (λ (now : OwnCallers). Acts (Begin c.args.caller c.args.op ∷ []) v (record v { callers = now })) (sym c.begin.ensures)
    (begin-acts v c.args.caller c.args.op can bytes))
