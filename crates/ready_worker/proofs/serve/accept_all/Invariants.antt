use Rattle.std.proofs.Common.{◌≡◌, ◌≤◌, true}
use Rattle.node_worker.specs.Served.{HasAccepted}
use Rattle.ready_worker.proofs.serve.accept_all.Given as goal

abbrev pub invariant-connections : goal.invariant-connections
invariant-connections g l =
    (goal.iterator-connections g).can_next l.iterator' × (goal.iterator-connections g).is_finite l.iterator'
    × HasAccepted (g.L.Listener.accepted l.initial.listener) (g.L.Listener.accepted l.listener) l.connections l.accepted
    × (g.L.Listener.faults l.initial.listener ≤ g.L.Listener.faults l.listener)
    × (g.L.ReadyListener.ready l.listener ≡ true)
    × (g.L.Listener.at l.listener ≡ g.L.Listener.at l.initial.listener)
