use Rattle.std.proofs.Common.{◌≡◌, ℕ, ◌<◌, ◌≤◌, max, length}
use Rattle.link_core.specs.Outgoing.{link_to}
use Rattle.link_core.proofs.Links.reserve.Given as goal

abbrev pub invariant-targets : goal.invariant-targets
invariant-targets g l = record {
  many : length l.self-inside.links.items ≡ length l.fn.self;
  messages : (to : ℕ) → (link_to l.self-inside.links.items to).messages ≡ (link_to l.fn.self to).messages;
  spare : (to : ℕ) → (link_to l.fn.self to).spare ≤ (link_to l.self-inside.links.items to).spare;
  most : (to : ℕ) → (link_to l.self-inside.links.items to).spare ≤ max (link_to l.fn.self to).spare l.each;
  ready : (to : ℕ) → to < l.to → (link_to l.self-inside.links.items to).spare ≡ max (link_to l.fn.self to).spare l.each;
}
