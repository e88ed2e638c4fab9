use Rattle.std.proofs.Common.{option_copied, sym, subst}
use Rattle.group_config.specs.Text.{HasReadSettings}
use Rattle.group_program.proofs.Refusing.{refused}
use Rattle.group_program.proofs.running.given.Goals as goal

pub returns-in_err-settings_or_tell-clause-given : goal.returns-in_err-settings_or_tell-clause-given
returns-in_err-settings_or_tell-clause-given g c =
    let before = g.S.Source.input c.args.source.now in
    let now = g.S.Source.input c.read_text.new.source in
    refused (option_copied c.args.name) before now c.deref.result.now c.in_err-settings_or_tell.field-0.0 c.from_residual-in_err-settings_or_tell.result
    (subst (HasReadSettings before now) (sym c.deref.ensures.value) c.in_ok-text.ensures.whole)
    c.in_err-settings_or_tell.ensures.comes c.from_residual-in_err-settings_or_tell.ensures.1
