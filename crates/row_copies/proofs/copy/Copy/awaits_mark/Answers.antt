use Rattle.std.proofs.Common.{◌≡◌, ◌<◌, ◌↔◌, length, None, IsTrue, is_some, sym, ap, subst, ◌∙◌}
use Rattle.group_types.specs.Lists.{at}
use Rattle.group_types.proofs.Lists.{at_index}
use Rattle.group_run.specs.Process.{Copy}
use Rattle.row_copies.specs.Coming.{AwaitsMark}
use Rattle.row_copies.proofs.Awaiting.{is_bare}
use Rattle.row_copies.proofs.copy.Copy.awaits_mark.Goals as goal

pub returns-then-self-block : goal.returns-then-self-block
returns-then-self-block c =
    let long : c.args.d.0 < length c.self.inside.marks.items = subst (λ (v : Copy). c.args.d.0 < length v.marks) (sym c.self.view_is) c.requires in
    let read = at_index None c.index.result.now c.self.inside.marks.items c.args.d.0 long ∙ sym c.index.ensures in
    let bare : IsTrue c.is_none.result ↔ (at None c.self.inside.marks.items c.args.d.0 ≡ None) =
    is_bare c.is_none.result (at None c.self.inside.marks.items c.args.d.0) (ap is_some read ∙ c.is_none.ensures) in
    subst (λ (v : Copy). IsTrue c.is_none.result ↔ AwaitsMark c.args.block c.args.d.0 v) c.self.view_is
    (λ yes. (bare.0 yes, c.if-self-block.true), λ awaits. bare.1 awaits.0)
