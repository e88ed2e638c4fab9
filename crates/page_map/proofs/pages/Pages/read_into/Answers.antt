use Rattle.std.proofs.Common.{◌≡◌, ℕ, ◌+◌, ◌-◌, ◌/◌, ◌%◌, ◌<◌, ◌≤◌, length, get_or, subst, ap, ◌∙◌, arith}
use Rattle.std.proofs.lemmas.List.Edits.{length-between}
use Rattle.page_map.specs.Pages.{page_in, byte_of}
use Rattle.page_map.proofs.Addresses.{read_more, length_mid}
use Rattle.page_map.proofs.pages.Pages.read_into.Goals as goal

pub pieces-preserved : goal.pieces-preserved
pieces-preserved c =
    let pages = c.args.self.now in
    let start = c.args.at + c.pieces.done in
    let len = c.pieces.done + c.min-len.result - c.pieces.done in
    let same = c.block-block.ensures.length in
    let long : length c.read_piece.new.into ≡ len = c.read_piece.auto.into ∙ length-between c.pieces.into c.pieces.done
    (c.pieces.done + c.min-len.result) (omega arith) in
    let bytes : (i : ℕ) → i < length c.read_piece.new.into → get_or c.read_piece.new.into i 0
    ≡ byte_of (page_in pages (start / pages.block)) (start % pages.block + i) = λ i below.
    subst (λ b. get_or c.read_piece.new.into i 0 ≡ byte_of (page_in pages (start / b)) (start % b + i)) same
    (c.read_piece.ensures i below ∙ ap (λ o. byte_of o (start % c.block-block.result + i)) c.page-page.ensures.page) in
    record {
      within = omega (arith, length_mid c.pieces.done len c.pieces.into c.read_piece.new.into long (omega arith));
      read = read_more pages c.args.at c.pieces.done c.min-len.result len c.pieces.into c.read_piece.new.into (omega arith)
          (subst (λ b. start % b + c.min-len.result ≤ b) same (omega arith)) (omega arith) long (omega arith) bytes c.pieces.invariant.read;
    }
