-- What an account stands for.
use Rattle.std.specs.Prelude.{List, map, Vec}
use Rattle.memc_table.specs.Table.{contents}
use Rattle.run_verify.specs.Passing as passing
use Rattle.run_verify.specs.declared.account.Account.{Account}

-- the lists in vectors
abbrev pub lists_of : {X Z : Type 0} → List (Vec X Z) → List (List X)
lists_of vectors = map (λ v. v.items) vectors

abbrev pub account_of : Account → passing.Account
account_of a = record {
  calls = lists_of a.calls.items;
  table = contents a.table;
  changes = lists_of a.changes.items;
  entries = a.entries;
  placed = 0;
  shown = a.shown;
}
