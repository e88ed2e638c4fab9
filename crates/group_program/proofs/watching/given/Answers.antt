use Rattle.std.proofs.Common.{ℕ, List, Err, option_copied, sym, subst, ◌∙◌}
use Rattle.group_config.specs.Text.{HasReadSettings}
use Rattle.group_config.specs.Watching.{WatchComesOf}
use Rattle.group_program.proofs.Refusing.{member_refused, watch_refused}
use Rattle.group_program.proofs.watching.given.Goals as goal

pub returns-in_err-settings-clause-given : goal.returns-in_err-settings-clause-given
returns-in_err-settings-clause-given g c =
    let before = g.S.Source.input c.args.source.now in
    let now = g.S.Source.input c.read_text.new.source in
    member_refused (option_copied c.args.name) before now c.deref.result.now c.in_err-settings.field-0.0 c.from_residual-in_err-settings.result
    (subst (HasReadSettings before now) (sym c.deref.ensures.value) c.in_ok-text.ensures.whole) c.in_err-settings.ensures.comes
    c.from_residual-in_err-settings.ensures.1

pub returns-in_err-watch-clause-given : goal.returns-in_err-watch-clause-given
returns-in_err-watch-clause-given g c =
    let before = g.S.Source.input c.args.source.now in
    let now = g.S.Source.input c.read_text.new.source in
    let same = c.deref-2.ensures.value ∙ sym c.deref.ensures.value in
    watch_refused (option_copied c.args.name) before now c.deref.result.now c.in_ok-settings.settings
    c.in_err-watch.field-0.0 c.from_residual-in_err-watch.result
    (subst (HasReadSettings before now) (sym c.deref.ensures.value) c.in_ok-text.ensures.whole) c.in_ok-settings.ensures.comes
    (subst (λ (t : List ℕ). WatchComesOf t (Err c.in_err-watch.field-0.0)) same c.in_err-watch.ensures.comes) c.from_residual-in_err-watch.ensures.1
