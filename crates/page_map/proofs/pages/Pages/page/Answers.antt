use Rattle.std.proofs.Common.{Some, ap, sym, ◌∙◌}
use Rattle.page_map.specs.declared.page.Page.{Page}
use Rattle.page_map.proofs.Places.{look_up_at, look_up_gap, read_at}
use Rattle.page_map.proofs.pages.Pages.page.Goals as goal

pub returns-in-Ok-clause-page : goal.returns-in-Ok-clause-page
returns-in-Ok-clause-page c =
    let at = rw c.deref.ensures.value at c.in-Ok.ensures.found in
    let found = look_up_at c.self.inside.pages.items c.self.invariant.0.sorted c.args.number c.in-Ok.place at in
    let read = read_at c.self.inside.pages.items c.in-Ok.place c.index.result.now at.in_range c.index.ensures in
    rw (← c.self.view_is) (ap Some (c.bytes.ensures ∙ ap (λ (p : Page). p.bytes) read) ∙ sym found)

pub returns-in-Err-clause-page : goal.returns-in-Err-clause-page
returns-in-Err-clause-page c =
    rw (← c.self.view_is) (sym (look_up_gap c.self.inside.pages.items c.args.number _ (rw c.deref.ensures.value at c.in-Err.ensures.absent)))
