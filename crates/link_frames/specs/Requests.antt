-- A request's parts as the request that group_wire defines.
use Rattle.std.specs.Prelude.{ℕ}
use Rattle.group_wire.specs.State as wire
use Rattle.link_frames.specs.declared.wish.Wish.{Wish}
use Rattle.link_frames.specs.declared.wish.Wish.TheVariants.{Ask, Trace}

abbrev pub wished_request : ℕ → ℕ → Wish → wire.Request
wished_request caller call (Ask op) = wire.AskFor caller call op
wished_request caller call (Trace d) = wire.TraceOf caller call d.0
