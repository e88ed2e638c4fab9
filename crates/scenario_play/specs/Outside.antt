-- What a source and a sink tell of themselves, and how a command's output ends.
use Rattle.std.specs.Prelude.{◌≡◌, ℕ, ◌≤◌, List, ◌++◌, length, take, ◌⊎◌}
use Rattle.edge_io.specs.Faults.{Rose}
use Rattle.edge_io.specs.Moving.{Appends, Input}
use Rattle.edge_io.specs.Writing.{HasWritten}
use Rattle.scenario_play.specs.Status.{last_line}
use Rattle.scenario_play.specs.declared.status.Status.{Status}
use Rattle.scenario_play.specs.declared.status.Status.TheVariants.{Want}

-- what a source and a sink tell of themselves
pub record Outside : Type 0 where
  pub input : Input
  pub reads : ℕ
  pub held : List ℕ
  pub writes : ℕ

abbrev pub outside : Input → ℕ → List ℕ → ℕ → Outside
outside input reads held writes = record { input = input; reads = reads; held = held; writes = writes }

-- a text was written, and then a last line, of which a front alone where the sink counted a fault
pub record EndsWith (before now : List ℕ) (faults_before faults_now : ℕ) (text line : List ℕ) : Type 0 where
  pub count : ℕ
  pub bytes : Appends before now (text ++ take count line)
  pub whole : (length line ≤ count) ⊎ Rose faults_before faults_now

-- a front of the status's last line was written, at `Want` perhaps of another status's
pub record TellsFront (before now : List ℕ) (status : Status) : Type 0 where
  pub said : Status
  pub whose : (said ≡ status) ⊎ (status ≡ Want)
  pub written : HasWritten before now (last_line said)

-- a front of a text was written, and then a front of a last line
pub record StopsWithin (before now : List ℕ) (text : List ℕ) (status : Status) : Type 0 where
  pub middle : List ℕ
  pub written : HasWritten before middle text
  pub told : TellsFront middle now status
