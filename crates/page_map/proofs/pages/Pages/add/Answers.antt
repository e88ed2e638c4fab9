use Rattle.std.proofs.Common.{◌+◌, ◌/◌, unwrap_or, option_copied, subst, sym, ◌∙◌, arith}
use Rattle.page_map.specs.Pages.{HasPage}
use Rattle.page_map.proofs.Addresses.{add_more_by, still_there}
use Rattle.page_map.proofs.pages.Pages.add.Goals as goal

pub page_mut-page-requires : goal.page_mut-page-requires
page_mut-page-requires c =
    let there = c.requires.there (c.args.at + c.pieces.done) (omega arith) (omega arith) in
    still_there c.args.self.now c.pieces.self _ c.pieces.invariant.added.numbers
    (subst (λ b. HasPage c.args.self.now ((c.args.at + c.pieces.done) / b)) (sym c.block-block.ensures.length) there)

pub pieces-preserved : goal.pieces-preserved
pieces-preserved c =
    let same = c.pieces.invariant.added.dimensions.block ∙ sym c.block-block.ensures.length in
    record {
      within = omega arith;
      added = add_more_by c.args.self.now c.pieces.self c.args.at (unwrap_or (option_copied c.args.coef) 1)
          c.args.bytes.now c.pieces.done c.min-len.result _ c.page_mut-page.result.now c.add_piece.new.dst
          c.block-block.result same
          (omega arith) (omega arith) (omega arith) (omega arith) (sym c.page_mut-page.ensures.page)
          (c.page_mut-page.ensures.whole ∙ same) c.add_piece.ensures c.pieces.invariant.added;
    }
