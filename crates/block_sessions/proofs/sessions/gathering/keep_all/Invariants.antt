use Rattle.block_sessions.specs.Opened.{gathering_of}
use Rattle.block_sessions.proofs.Keeping.{AreKept}
use Rattle.block_sessions.proofs.sessions.gathering.keep_all.Given as goal

abbrev pub invariant-pieces : goal.invariant-pieces
invariant-pieces l = AreKept l.shape (gathering_of l.fn.session) l.initial.rebuilt l.rebuilt l.out l.at
