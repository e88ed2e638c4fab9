use Rattle.std.proofs.Common.{◌-◌, ◌≤◌, length, unwrap_or, option_copied}
use Rattle.page_map.specs.Pages.{AddsProduct}
use Rattle.page_map.proofs.pages.Pages.add.Given as goal

abbrev pub invariant-pieces : goal.invariant-pieces
invariant-pieces l = record {
  within : l.done ≤ length l.bytes;
  added : AddsProduct l.initial.self l.self l.start (unwrap_or (option_copied l.coef) 1) l.bytes l.done;
}

abbrev pub decreases-pieces : goal.decreases-pieces
decreases-pieces l = length l.bytes - l.done
