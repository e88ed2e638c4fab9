-- How far the clients of a worker have come, each from where nothing was read of its stream and nothing was written to it.
use Rattle.std.specs.Prelude.{ℕ, ◌≡◌, ◌≢◌, ◌<◌, ◌⊎◌, ◌++◌, [], Option, Some, None, false}
use Rattle.edge_io.specs.Moving.{Input}
use Rattle.front_end.specs.Gateway.{Rules}
use Rattle.front_end.specs.declared.overlap.Overlap.{Overlap}
use Rattle.outbox.specs.declared.try_edge.TryEdge.{TryEdge}
use Rattle.ready_client.specs.Calling.{HasOpen}
use Rattle.ready_client.specs.Coming.{ComesAtGateway}
use Rattle.ready_client.specs.declared.client.Client.{Client}
use Rattle.ready_places.specs.Placed.{Placed, EachPlaced, placed_at}

-- what was read of a stream
abbrev pub taken_of : {X : Type 0} → TryEdge X → Input
taken_of stream = record { taken = stream.incoming.bytes; ended = stream.ended; left = None }

-- nothing was read
abbrev pub unread : Input
unread = record { taken = []; ended = false; left = None }

-- what was written of a client, sent or not, is the text of its requests and of the ends of their calls: it began where
-- nothing was read or written, at the gateway as it was then, and has come to the gateway as it is now
abbrev pub ClientComes : {G K X : Type 0} → Rules G K → Overlap → Option ℕ → G → Client (TryEdge X) K → Type 0
ClientComes {G} rules overlap told now client =
    ∥ ((first : G) × ComesAtGateway rules overlap told unread (taken_of client.stream) first [] now
    (client.stream.outgoing.bytes ++ client.outbox) client.connection
    client.calls.list client.calls.unwanted client.end) ∥₁

-- that holds of each client that has a place
abbrev pub ClientsCome : {G K X : Type 0} → Rules G K → Overlap → Option ℕ → G → Placed (Client (TryEdge X) K) → Type 0
ClientsCome rules overlap told now placed = EachPlaced (ClientComes rules overlap told now) placed

-- no call is open for two clients
abbrev pub ShareNoCall : {S K : Type 0} → Placed (Client S K) → Type 0
ShareNoCall {S} {K} placed = (key other : ℕ) (one two : Client S K) (call : K)
    → key ≢ other → placed_at placed key ≡ Some one → placed_at placed other ≡ Some two → HasOpen one.calls.list call → ¬ HasOpen two.calls.list call

-- no call of a client is under way, and it ended and all of its text was sent, or its stream counted a fault
abbrev pub ClientIsOver : {X K : Type 0} → Client (TryEdge X) K → Type 0
ClientIsOver client = (client.calls.list ≡ []) × (((client.end ≢ None) × (client.outbox ≡ [])) ⊎ (0 < client.stream.faults))
