use Rattle.std.proofs.Common.{◌≡◌, drop, take, nat_eq}
use Rattle.std.specs.Cmp.Lexicographic.{pointwise}
use Rattle.std.specs.List.{list_any}
use Rattle.memc_table.specs.Act.{key_of}
use Rattle.front_end.specs.Ahead.{acts_ahead}
use Rattle.front_end.specs.Progress.{waiting_behind}
use Rattle.front_end.proofs.acts.asks_ahead.Given as goal

abbrev pub invariant-requests : goal.invariant-requests
invariant-requests l = list_any (λ a. pointwise nat_eq (key_of a) l.key) (take l.left (acts_ahead (waiting_behind l.keys (drop l.request-index l.requests))))
    ≡ list_any (λ a. pointwise nat_eq (key_of a) l.key) (take l.count (acts_ahead (waiting_behind l.answered l.requests)))
