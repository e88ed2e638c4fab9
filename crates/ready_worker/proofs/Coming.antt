-- A client that has come nowhere yet, and one that stays as far as it has come while another is served.
use Rattle.std.proofs.Common.{◌≡◌, ℕ, List, [], Option, None, false, ap, ◌∙◌}
use Rattle.std.proofs.Math.Logic.{∥∥₁_map, ∥∥₁_elim}
use Rattle.front_end.specs.Gateway.{Rules, KeepsOpen}
use Rattle.front_end.specs.Order.{IsOrder}
use Rattle.front_end.specs.declared.overlap.Overlap.{Overlap}
use Rattle.outbox.specs.declared.try_edge.TryEdge.{TryEdge}
use Rattle.ready_client.proofs.Calling.{stays}
use Rattle.ready_client.specs.Calling.{HasOpen, KeepsApart}
use Rattle.ready_client.specs.Coming.{ComesAtGateway}
use Rattle.ready_client.specs.declared.client.Client.{Client}
use Rattle.ready_client.specs.declared.open_call.OpenCall.{OpenCall}
use Rattle.ready_places.specs.Placed.{Placed}
use Rattle.ready_worker.specs.Come.{ClientComes, ClientsCome, unread}

-- nothing was read of a stream, and nothing written to it
pub fresh : {G K X : Type 0} (rules : Rules G K) (overlap : Overlap) (told : Option ℕ) (now : G)
    (client : Client (TryEdge X) K) (stream : TryEdge X) → client.stream ≡ stream → stream.incoming.bytes ≡ []
    → stream.ended ≡ false → stream.outgoing.bytes ≡ []
    → client.outbox ≡ [] → client.calls.list ≡ [] → client.calls.unwanted ≡ 0 → client.end ≡ None
    → ComesAtGateway rules overlap told unread unread now [] now [] client.connection [] 0 None
    → ClientComes rules overlap told now client
fresh rules overlap told now client stream same none goes_on sent waits idle wanted still comes = ∣ (
  now,
  rw (ap (λ (s : TryEdge _). s.incoming.bytes) same ∙ none) (rw (ap (λ (s : TryEdge _). s.ended) same ∙ goes_on)
      (rw (ap (λ (s : TryEdge _). s.outgoing.bytes) same ∙ sent) (rw waits (rw idle (rw wanted (rw still comes)))))),
) ∣₁

module _ {G K X : Type 0} (rules : Rules G K) (overlap : Overlap) (told : Option ℕ) where
  -- where another client was served, this one stays as far as it has come
  pub stays-come : IsOrder rules.later → (calls_then calls_now : List (OpenCall K)) (before after : G)
      (client : Client (TryEdge X) K) → ((call : K) → HasOpen client.calls.list call → ¬ HasOpen calls_then call)
      → rules.later before after → KeepsApart rules calls_then calls_now before after
      → ClientComes rules overlap told before client → ClientComes rules overlap told after client
  stays-come order calls_then calls_now before after client others later apart come = ∥∥₁_map come
      (λ found. (
        found.0,
        stays rules order overlap told _ _ found.0 _ before after _ client.connection
            client.calls.list client.calls.unwanted client.end later
            (λ call op began has opened. (apart call op began (others call has) opened).0) found.1,
      ))

  -- the client that was served has not come to have an open call of another
  pub stays-apart : (calls_then calls_now : List (OpenCall K)) (before after : G) (client : Client (TryEdge X) K)
      (call : K) → HasOpen client.calls.list call → ¬ HasOpen calls_then call
      → KeepsApart rules calls_then calls_now before after → ClientComes rules overlap told before client → ¬ HasOpen calls_now call
  stays-apart calls_then calls_now before after client call has other apart come = λ same. ∥∥₁_elim come (λ x y. absurd x)
      (λ found. let opened = found.1.opened call has in (apart call opened.0 opened.1 other opened.2).1 same)

  -- between turns the gateway came to be later, and the open calls stay so
  pub come-between : IsOrder rules.later → (before after : G) (placed : Placed (Client (TryEdge X) K))
      → KeepsOpen rules before after → rules.later before after → ClientsCome rules overlap told before placed
      → ClientsCome rules overlap told after placed
  come-between order before after placed kept later have = λ key client at. stays-come order [] [] before after client
      (λ call has none. none) later (λ call op began other opened. (kept call op began opened, λ none. none))
      (have key client at)
