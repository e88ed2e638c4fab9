use Rattle.std.proofs.Common.{◌≡◌, drop}
use Rattle.std.specs.List.{slice_get}
use Rattle.front_end.specs.Ahead.{acts_ahead}
use Rattle.front_end.specs.Progress.{waiting_behind}
use Rattle.front_end.proofs.acts.act_ahead.Given as goal

abbrev pub invariant-requests : goal.invariant-requests
invariant-requests l = slice_get (acts_ahead (waiting_behind l.keys (drop l.request-index l.requests))) l.left
    ≡ slice_get (acts_ahead (waiting_behind l.answered l.requests)) l.number
