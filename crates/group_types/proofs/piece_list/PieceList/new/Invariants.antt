use Rattle.std.proofs.Common.{◌≡◌, take}
use Rattle.group_types.specs.Pieces.{zero_pieces}
use Rattle.group_types.proofs.piece_list.PieceList.new.Given as goal

abbrev pub invariant-numbers : goal.invariant-numbers
invariant-numbers l = l.pieces.items ≡ zero_pieces l.block (take l.number-index l.numbers)
