-- What a decision to write rests on: a head finds the bytes of the run, so that none of its blocks is missing.
use Rattle.std.proofs.Common.{ℕ, ◌≡◌, List, Option, Some, None, refl, subst}
use Rattle.group_types.specs.Dimensions.{Dimensions}
use Rattle.group_types.specs.declared.process.ProcessId.{ProcessId}
use Rattle.group_types.specs.declared.process.ProcessId.TheVariants.{ParityNode}
use Rattle.group_types.specs.declared.run.Run.{Run}
use Rattle.memc_table.specs.Asked.{Asked}
use Rattle.group_message.specs.declared.update.Body.{Body}
use Rattle.group_message.specs.declared.update.Body.TheVariants.{Put, Remove, Touch}
use Rattle.group_calls.specs.declared.decision.Decision.{Decision}
use Rattle.group_calls.specs.declared.decision.Decision.TheVariants as decides
use Rattle.group_run.specs.Asking.{found_at, found_unless}
use Rattle.group_run.specs.Deciding.{Found, Bytes, Missing, decide}
use Rattle.group_run.specs.Leaders.{missing_block, rebuilt_bytes}
use Rattle.group_run.specs.Process.{Process}
use Rattle.group_run.specs.Replica.{Replica}
use Rattle.group_run.proofs.Deciding.{decides-by}

-- a value is put where the bytes of its run were found
abbrev pub PutsFound : (Run → Found) → Body → Type 0
PutsFound read (Put flags until run delta) = (under : List ℕ) × (read run ≡ Bytes under)
PutsFound read Remove = Unit {0}
PutsFound read (Touch until) = Unit {0}

-- what is issued does so
abbrev pub IssuesFound : (Run → Found) → Decision → Type 0
IssuesFound read (decides.Issue body outcome) = PutsFound read body
IssuesFound read (decides.NeedBlock b) = Unit {0}
IssuesFound read (decides.Answer reply) = Unit {0}
IssuesFound read (decides.Retry n) = Unit {0}
IssuesFound read decides.NoSpace = Unit {0}

module _ (space : ℕ) (r : Replica) (op : Asked) (read : Run → Found) where
  pub issues-found : (inherited : ℕ) → IssuesFound read (decide space inherited r op read)
  issues-found inherited = decides-by space r op read inherited (IssuesFound read) (record {
    answers = λ reply. tt;
    waits = λ n is. tt;
    full = λ long. tt;
    no_space = tt;
    item = λ run b needed missing. tt;
    place = λ len run b is missing. tt;
    removes = λ few outcome. tt;
    touches = λ few h outcome. tt;
    puts = λ few h run under outcome is. (under, is);
  })

-- no block of a run is missing in which bytes were found
found-none : (missing : Option ℕ) (bytes under : List ℕ) → found_unless missing bytes ≡ Bytes under → missing ≡ None
found-none None bytes under is = refl
found-none (Some b) bytes under is = absurd (not_bytes is) where
  not_bytes : Missing b ≡ Bytes under → ⊥
  not_bytes e = cc e

pub none-missing : (s : Dimensions) (d : ℕ) (p : Process) (x : ProcessId) (i : ℕ) (run : Run) (under : List ℕ) → x ≡ ParityNode i
    → found_at s d p x run ≡ Bytes under → missing_block s d run p.as_leader ≡ None
none-missing s d p x i run under is found =
    found-none (missing_block s d run p.as_leader) (rebuilt_bytes s d run p.as_leader) under
    (subst (λ (y : ProcessId). found_at s d p y run ≡ Bytes under) is found)
