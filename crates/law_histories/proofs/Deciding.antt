-- What a decision rests on: an update is only issued where the log has room, and a block only wanted where one
-- is missing.
use Rattle.std.proofs.Common.{ℕ, ◌≡◌, ◌<◌, length}
use Rattle.group_types.specs.declared.run.Run.{Run}
use Rattle.memc_table.specs.Asked.{Asked}
use Rattle.group_calls.specs.declared.decision.Decision.{Decision}
use Rattle.group_calls.specs.declared.decision.Decision.TheVariants as decides
use Rattle.group_run.specs.Deciding.{Found, Missing, decide, window}
use Rattle.group_run.specs.Replica.{Replica}
use Rattle.group_run.proofs.Deciding.{decides-by}

-- an update is issued where the log has room, and a block is wanted where this holds
abbrev pub RestsWell : Replica → Type 0 → Decision → Type 0
RestsWell r Wanted (decides.Issue body outcome) = length r.log < window
RestsWell r Wanted (decides.NeedBlock b) = Wanted
RestsWell r Wanted (decides.Answer reply) = Unit {0}
RestsWell r Wanted (decides.Retry n) = Unit {0}
RestsWell r Wanted decides.NoSpace = Unit {0}

module _ (space : ℕ) (r : Replica) (op : Asked) (read : Run → Found) (Wanted : Type 0) (wants : (run : Run) (b : ℕ) → read run ≡ Missing b → Wanted) where
  pub decides-well : (inherited : ℕ) → RestsWell r Wanted (decide space inherited r op read)
  decides-well inherited = decides-by space r op read inherited (RestsWell r Wanted) (record {
    answers = λ reply. tt;
    waits = λ n is. tt;
    full = λ long. tt;
    no_space = tt;
    item = λ run b needed missing. wants run b missing;
    place = λ len run b is missing. wants run b missing;
    removes = λ few outcome. few;
    touches = λ few h outcome. few;
    puts = λ few h run under outcome is. few;
  })
