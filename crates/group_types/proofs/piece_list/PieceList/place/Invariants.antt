use Rattle.group_types.proofs.Places.{IsMissing}
use Rattle.group_types.proofs.piece_list.PieceList.place.Given as goal

abbrev pub invariant-pieces : goal.invariant-pieces
invariant-pieces l = IsMissing l.piece-items l.number l.place
