use Rattle.std.proofs.Common.{◌∙◌, sym, ap, arith}
use Rattle.group_types.specs.Pieces.{place_of}
use Rattle.group_types.specs.declared.piece_list.Piece.{Piece}
use Rattle.group_types.proofs.Places.{place_found, missing_more, not_missing}
use Rattle.group_types.proofs.piece_list.PieceList.place.Goals as goal

pub returns-then-piece-number-clause-place : goal.returns-then-piece-number-clause-place
returns-then-piece-number-clause-place c =
    let is = c.piece-item.is in
    let here = c.if-piece-number.true in
    let all = c.deref-piece-items.ensures.value ∙ c.self.view_is in
    place_found _ c.args.number c.pieces.place c.piece-item.result c.pieces-test.true (ap (λ (p : Piece). p.number) (sym is) ∙ here) c.pieces.invariant
    ∙ ap (λ pieces. place_of pieces c.args.number) all

pub pieces-preserved : goal.pieces-preserved
pieces-preserved c =
    missing_more _ c.args.number c.pieces.place c.piece-item.result c.pieces-test.true
    (λ same. c.if-piece-number.false (ap (λ (p : Piece). p.number) c.piece-item.is ∙ same)) c.pieces.invariant

pub unreachable-requires : goal.unreachable-requires
unreachable-requires c =
    let all = c.deref-piece-items.ensures.value ∙ c.self.view_is in
    not_missing _ c.args.number c.pieces.place (rw all c.requires) (omega (arith, c.pieces-test.false)) c.pieces.invariant
