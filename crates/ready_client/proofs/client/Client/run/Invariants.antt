use Rattle.std.proofs.Common.{◌≡◌, ◌≤◌, ◌++◌, ℕ, List, length}
use Rattle.edge_io.specs.Moving.{Input}
use Rattle.ready_client.specs.Asking.{connection_at, AsksFrom}
use Rattle.ready_client.specs.Calling.{KeepsApart, LendsApart}
use Rattle.ready_client.specs.Coming.{ComesAtGateway}
use Rattle.ready_client.proofs.client.Client.run.Given as goal

abbrev pub invariant-steps : goal.invariant-steps
invariant-steps g l = record {
  comes : (input : Input) (first : g.row.G.Denot) (before : List ℕ)
      → ComesAtGateway g.G.Gateway.rules l.overlap (g.T.Clock.moment l.clock) input (g.S.TryStream.input l.initial.self.stream)
      first before l.initial.gateway
      (g.S.TryStream.held l.initial.self.stream ++ l.initial.self.outbox) l.initial.self.connection
      l.initial.self.calls.list l.initial.self.calls.unwanted l.initial.self.end
      → ComesAtGateway g.G.Gateway.rules l.overlap (g.T.Clock.moment l.clock) input (g.S.TryStream.input l.self.stream) first before l.gateway
      (g.S.TryStream.held l.self.stream ++ l.self.outbox) l.self.connection l.self.calls.list l.self.calls.unwanted l.self.end;
  asks : AsksFrom g.G.Gateway.rules (g.T.Clock.moment l.clock) (g.S.TryStream.held l.initial.self.stream) l.overlap (g.S.TryStream.input l.initial.self.stream)
      (connection_at l.initial.gateway l.initial.self.connection l.initial.self.calls.list l.initial.self.calls.unwanted
      l.initial.self.end (g.S.TryStream.held l.initial.self.stream ++ l.initial.self.outbox))
      (connection_at l.gateway l.self.connection l.self.calls.list l.self.calls.unwanted l.self.end (g.S.TryStream.held l.self.stream ++ l.self.outbox));
  apart : KeepsApart g.G.Gateway.rules l.initial.self.calls.list l.self.calls.list l.initial.gateway l.gateway;
  lends : LendsApart g.G.Gateway.rules l.initial.self.calls.list l.self.calls.list l.initial.gateway l.gateway;
  onward : g.G.Gateway.rules.later l.initial.gateway l.gateway;
  held : g.S.TryStream.held l.self.stream ≡ g.S.TryStream.held l.initial.self.stream;
  later : g.S.TryStream.faults l.initial.self.stream ≤ g.S.TryStream.faults l.self.stream;
  room : length l.room ≡ 65536;
}
