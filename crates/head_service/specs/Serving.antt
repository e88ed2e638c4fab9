-- What a process keeps of its partitions, and the process that it makes with the bytes beneath.
use Rattle.std.specs.Prelude.{ℕ, List, Option}
use Rattle.group_types.specs.Dimensions.{Dimensions}
use Rattle.group_types.specs.declared.process.ProcessId.{ProcessId}
use Rattle.membership.specs.Members.{Membership}
use Rattle.group_run.specs.Process.{Head, Held, Process}
use Rattle.group_run.specs.Replica.{Replica}

pub record Serving : Type 0 where
  pub shape : Dimensions
  pub name : ProcessId
  pub known : Membership
  pub replicas : List Replica
  pub ranks : List ℕ
  pub heads : List (Option Head)
  pub held : List (List Held)

-- the machine's process, where these bytes are beneath
abbrev pub serving : Serving → Process → Process
serving v p = record p { known = v.known; replicas = v.replicas; ranks = v.ranks; heads = v.heads; held = v.held }
