-- The calls of an object in memory, which are numbered from 1.
use Rattle.std.specs.Prelude.{ℕ, ◌==◌, Bool, List, if◌then◌else◌}
use Rattle.std.specs.List.{list_any}
use Rattle.edge_io.specs.Faults.{saturating_next}

-- the numbers of the calls that fail, how many calls were made, and how many of them failed
pub record CallsMade : Type 0 where
  pub failing : List ℕ
  pub made : ℕ
  pub faults : ℕ

-- whether the next call fails: its number is one of those
abbrev pub fails_next : CallsMade → Bool
fails_next c = list_any (λ n. n == saturating_next c.made) c.failing

-- the calls after the next one
abbrev pub after_call : CallsMade → CallsMade
after_call c = record {
  failing = c.failing;
  made = saturating_next c.made;
  faults = if fails_next c then saturating_next c.faults else c.faults;
}
