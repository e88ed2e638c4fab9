use Rattle.std.proofs.Common.{◌≡◌, ℕ, ◌+◌, ◌-◌, ◌<◌, ◌≤◌, length, get_or}
use Rattle.page_map.specs.Pages.{byte_in}
use Rattle.page_map.proofs.pages.Pages.read_into.Given as goal

abbrev pub invariant-pieces : goal.invariant-pieces
invariant-pieces l = record {
  within : l.done ≤ length l.into;
  read : (k : ℕ) → k < l.done → get_or l.into k 0 ≡ byte_in l.self (l.start + k);
}

abbrev pub decreases-pieces : goal.decreases-pieces
decreases-pieces l = length l.into - l.done
