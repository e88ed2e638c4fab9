use Rattle.std.proofs.Common.{◌≡◌, ◌≢◌, ◌+◌, ◌-◌, ◌*◌, ◌/◌, ◌≤◌, length, eqb-true, subst, sym, ap, ◌∙◌, arith}
use Rattle.group_run.specs.Applying.{area_added}
use Rattle.page_map.specs.Pages.{PageContents, page_in}
use Rattle.block_sessions.proofs.Blocks.{AddsTo, added_all, adds_none, adds_page, empty_added}
use Rattle.page_map.proofs.Unions.{none_unless}
use Rattle.std.proofs.lemmas.Bool.{eqb-false, true≢false}
use Rattle.block_sessions.proofs.rebuilt.add_run.Goals as goal
use Rattle.block_sessions.proofs.rebuilt.add_run.Goals.{then-has, else-has}

pub returns-then-is_empty-clause-blocks : goal.returns-then-is_empty-clause-blocks
returns-then-is_empty-clause-blocks c = λ b. empty_added (b * c.args.shape.block) c.args.at c.args.delta.now
    (page_in c.args.pages.now b) (eqb-true (length c.args.delta.now) 0 (sym c.is_empty.ensures ∙ c.if-is_empty.true))

pub numbers-preserved : goal.numbers-preserved
numbers-preserved c =
    let first = c.args.at / c.block-block.result in
    elim c.if-has.branch [
      | then-has w ↦
          let page = w.page_mut.result.now in
          let bytes = w.add_area.new.area in
          let whole : length page ≡ c.args.shape.block = w.page_mut.ensures.whole ∙ (c.numbers.invariant.holds 0 c.requires.holds).block in
          let sum : bytes ≡ area_added (c.numbers.b * c.args.shape.block) c.args.at c.args.delta.now page =
          w.add_area.ensures ∙ ap (λ n. area_added (c.numbers.b * n) c.args.at c.args.delta.now page)
          c.block-block.ensures.value in
          subst (λ (p : PageContents). AddsTo c.args.shape c.args.at c.args.delta.now c.args.pages.now p first (c.numbers.b + 1)) (sym w.pages-is)
          (adds_page c.args.shape c.args.at c.args.delta.now page bytes c.args.pages.now c.numbers.pages first
          c.numbers.b c.numbers.auto.b c.numbers.invariant (sym w.page_mut.ensures.page) whole (w.add_area.auto.area)
          sum)
      | else-has w ↦ subst (λ (p : PageContents). AddsTo c.args.shape c.args.at c.args.delta.now c.args.pages.now p first (c.numbers.b + 1)) (sym w.pages-is)
          (adds_none c.args.shape c.args.at c.args.delta.now c.args.pages.now c.numbers.pages first c.numbers.b c.numbers.auto.b c.numbers.invariant
          (none_unless (page_in c.numbers.pages c.numbers.b) (λ there. true≢false (sym (c.has.ensures.1 there) ∙ w.if-has.false))))
    ]

pub returns : goal.returns
returns c =
    let some : length c.args.delta.now ≢ 0 = eqb-false (length c.args.delta.now) 0 (sym c.is_empty.ensures ∙ c.if-is_empty.false) in
    record {
      blocks = added_all c.args.shape c.args.at c.args.delta.now c.args.pages.now c.numbers.pages
          (c.args.at / c.block-block.result) c.numbers.b c.requires.holds c.numbers.invariant (omega arith)
          (ap (λ n. c.args.at / n) c.block-block.ensures.value)
          (subst (λ n. (c.args.at + length c.args.delta.now - 1) / n + 1 ≤ c.numbers.b) c.block-block.ensures.value c.numbers-test.false);
      holds = c.numbers.invariant.holds;
    }
