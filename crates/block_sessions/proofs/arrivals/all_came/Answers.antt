use Rattle.std.proofs.Common.{◌<◌, length, subst, sym, ap, ◌∙◌, arith}
use Rattle.std.proofs.lemmas.List.{length-map}
use Rattle.group_types.specs.declared.piece_list.Piece.{Piece}
use Rattle.group_types.proofs.Places.{number_at}
use Rattle.block_sessions.proofs.arrivals.all_came.Goals as goal

pub bounds-came-piece : goal.bounds-came-piece
bounds-came-piece c =
    let here = c.requires c.pieces.piece-index 0 (omega (arith, length-map c.args.pieces.now (λ (p : Piece). p.number))) in
    subst (λ n. n < length c.args.came.now) (number_at c.args.pieces.now c.pieces.piece-index c.piece-item.result
    (omega arith) ∙ sym (ap (λ (p : Piece). p.number) c.piece-item.is)) here
