use Rattle.std.proofs.Common.{◌/◌, ◌≤◌, ◌<◌, ℕ}
use Rattle.page_map.specs.Pages.{HasPage}
use Rattle.page_map.proofs.pages.Pages.has_all.Given as goal

abbrev pub invariant-numbers : goal.invariant-numbers
invariant-numbers l = record {
  from : l.at / l.self.block ≤ l.number;
  there : (b : ℕ) → l.at / l.self.block ≤ b → b < l.number → HasPage l.self b;
}
