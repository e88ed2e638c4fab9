use Rattle.std.proofs.Common.{◌≡◌, vec_len}
use Rattle.std.specs.List.{All}
use Rattle.run_alloc.specs.Shelves.{IsBlank}
use Rattle.run_alloc.proofs.chunks.blanks.Given as goal

abbrev pub invariant-blanks : goal.invariant-blanks
invariant-blanks l = record { blank : All IsBlank l.blanks.items; count : vec_len l.blanks ≡ l.counter }
