use Rattle.std.proofs.Common.{◌≡◌, ◌<◌}
use Rattle.group_stage.specs.Seated.{shape_of}
use Rattle.group_types.specs.Dimensions.{processes_of}
use Rattle.group_server.proofs.deliverer.Deliverer.go_round.Given as goal

abbrev pub invariant-receivers : goal.invariant-receivers
invariant-receivers l = (l.processes ≡ processes_of (shape_of l.self.stage.now)) × (l.from < l.processes)

abbrev pub invariant-senders : goal.invariant-senders
invariant-senders l = l.processes ≡ processes_of (shape_of l.self.stage.now)
