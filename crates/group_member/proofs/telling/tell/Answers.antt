use Rattle.std.proofs.Common.{rules, ◌≡◌, sym, subst, ◌∙◌}
use Rattle.group_types.specs.Names.{IsProcess}
use Rattle.group_types.specs.declared.process.ProcessId.{ProcessId}
use Rattle.group_wire.specs.State.{gateway_of}
use Rattle.group_member.proofs.Numbers.{own-gateway}
use Rattle.group_member.proofs.telling.tell.Goals as goal

pub learn-requires : goal.learn-requires
learn-requires c =
    let w = c.args.words.now in
    let same : c.in_ok-to.to ≡ c.name.result = search rules in
    let there : c.in_ok-to.to ≡ gateway_of w.shape c.args.told.caller = search rules in
    own-gateway w.shape w.name c.args.callers.now c.requires.own (subst (λ (p : ProcessId). IsProcess w.shape p) c.name.ensures.name c.name.ensures.process)
    c.args.told.caller (sym there ∙ same ∙ c.name.ensures.name)
