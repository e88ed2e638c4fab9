use Rattle.std.proofs.Common.{◌≡◌, ℕ, map, take, Vec, ◌≤◌, length}
use Rattle.std.specs.Global.{Global}
use Rattle.edge_io.proofs.memory_listener.MemoryListener.new.Given as goal

abbrev pub invariant-connections : goal.invariant-connections
invariant-connections l = record {
  made : l.to_come.items ≡ map (λ (c : Vec ℕ Global). c.items) (take l.bytes-index l.fn.connections.items);
  whole : l.bytes-items ≡ l.fn.connections.items;
  within : l.bytes-index ≤ length l.fn.connections.items;
  end : l.bytes-index-end ≡ length l.fn.connections.items;
}
