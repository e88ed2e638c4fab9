-- What a listener in memory is, and what its calls make of it.
use Rattle.std.specs.Prelude.{ℕ, ◌+◌, Bool, true, List, drop, Option, Some, None, Result, Ok, Err, if◌then◌else◌}
use Rattle.edge_io.specs.Calls.{CallsMade, after_call, fails_next}
use Rattle.edge_io.specs.Connections.{count_handed_out}

-- where it listens, the connections to come, each by its bytes, how many were handed out, whether it said that none comes, and
-- the calls made
pub record Arrivals : Type 0 where
  pub at : Option (List ℕ)
  pub to_come : List (List ℕ)
  pub accepted : ℕ
  pub over : Bool
  pub calls : CallsMade

-- the listener after `listen` at an address
abbrev pub after_listen : Arrivals → List ℕ → Arrivals
after_listen l address = record {
  at = if fails_next l.calls then l.at else Some address;
  to_come = l.to_come;
  accepted = l.accepted;
  over = l.over;
  calls = after_call l.calls;
}

-- whether it has said that none comes, after this answer of `accept`
abbrev pub is_over_after : {C E : Type 0} → Bool → Result (Option C) E → Bool
is_over_after over (Ok None) = true
is_over_after over (Ok (Some c)) = over
is_over_after over (Err e) = over

-- the listener after this answer of `accept`
abbrev pub after_accept : {C E : Type 0} → Arrivals → Result (Option C) E → Arrivals
after_accept l result = record {
  at = l.at;
  to_come = drop (count_handed_out result) l.to_come;
  accepted = l.accepted + count_handed_out result;
  over = is_over_after l.over result;
  calls = after_call l.calls;
}
