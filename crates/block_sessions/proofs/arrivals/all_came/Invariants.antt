use Rattle.std.proofs.Common.{◌≡◌, false, true, take, get_or}
use Rattle.std.specs.List.{list_all}
use Rattle.block_sessions.proofs.arrivals.all_came.Given as goal

abbrev pub invariant-pieces : goal.invariant-pieces
invariant-pieces l = list_all (λ p. get_or l.came p.number false) (take l.piece-index l.pieces) ≡ true
