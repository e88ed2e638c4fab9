use Rattle.std.proofs.Common.{ℕ, ◌<◌, ap, below_more, sym, ◌∙◌, arith}
use Rattle.field_matrix.specs.Grids.{entry}
use Rattle.group_types.specs.Pieces.{contents_of}
use Rattle.group_types.specs.declared.piece_list.Piece.{Piece}
use Rattle.cauchy_code.proofs.Terms.{content_at}
use Rattle.cauchy_code.proofs.column.are_bytes.Goals as goal

pub pieces-preserved : goal.pieces-preserved
pieces-preserved c =
    let p = c.piece-item.result in
    let bytes = c.bytes.ensures ∙ ap (λ (p : Piece). p.bytes) c.piece-item.is in
    let content = content_at c.args.pieces.now c.pieces.piece-index p c.pieces-test.true in
    below_more (λ j. (at : ℕ) → entry (contents_of c.args.pieces.now) j at < 256) c.pieces.piece-index
    c.pieces.invariant (λ at. rw (content ∙ sym bytes) (c.read.ensures at))

pub returns : goal.returns
returns c = λ j at below. c.pieces.invariant j (omega (arith, below, c.pieces-test.false, c.pieces.auto.piece-index-end)) at
