use Rattle.std.proofs.Common.{◌≡◌, ◌++◌, map, take, drop}
use Rattle.block_sessions.proofs.Rooms.{with_room}
use Rattle.block_sessions.proofs.sessions.start.make_room.Given as goal

abbrev pub invariant-pages : goal.invariant-pages
invariant-pages l = l.rebuilt ≡ map (with_room l.count) (take l.pages-index l.initial.rebuilt) ++ drop l.pages-index l.initial.rebuilt
