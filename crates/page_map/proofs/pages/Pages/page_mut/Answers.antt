use Rattle.std.proofs.Common.{ap, sym, ◌∙◌, refl, Some, length}
use Rattle.page_map.specs.declared.page.Page.{Page}
use Rattle.page_map.proofs.Places.{look_up_at, read_at, none_before_at, pages_set, rewritten_at}
use Rattle.page_map.proofs.pages.Pages.page_mut.Goals as goal

pub invariant_of-self-lent : goal.invariant_of-self-lent
invariant_of-self-lent c = λ w.
    let at = rw c.deref.ensures.value at c.place_of-place.ensures in (
      pages_set _ _ c.self.inside.pages.items _ c.index_mut-page.result.now w c.self.invariant.0 at.in_range
          (read_at _ _ _ at.in_range c.index_mut-page.ensures.value),
      c.self.invariant.1,
    )

pub returns : goal.returns
returns c =
    let pages = c.self.inside.pages.items in
    let at = rw c.deref.ensures.value at c.place_of-place.ensures in
    let read = read_at pages _ c.index_mut-page.result.now at.in_range c.index_mut-page.ensures.value in
    let sorted = c.self.invariant.0.sorted in
    rw (← c.self.view_is) (
      (
        refl,
        λ w. ap (λ ps. record { blocks = c.self.inside.blocks; block = c.self.inside.block; pages = ps; room = c.self.inside.room })
            (rewritten_at pages c.args.number _ w c.index_mut-page.result.now at (none_before_at pages sorted c.args.number _ at) read),
      ),
      record {
        writes_back = tt;
        page = ap Some (c.bytes_mut.ensures.value ∙ ap (λ (p : Page). p.bytes) read) ∙ sym (look_up_at pages sorted c.args.number _ at);
        whole = ap length (c.bytes_mut.ensures.value ∙ ap (λ (p : Page). p.bytes) read) ∙ c.self.invariant.0.whole _ at.in_range;
      },
    )
