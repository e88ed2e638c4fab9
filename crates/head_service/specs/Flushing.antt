-- How a process tells how far it has settled.
use Rattle.std.specs.Prelude.{ℕ, ◌+◌, List, [], ◌∷◌, ◌++◌, Option, Some, None}
use Rattle.group_message.specs.declared.message.Message.TheVariants as tells
use Rattle.group_run.specs.Applying.{Sent}
use Rattle.group_run.specs.Heading.{partition, rank}
use Rattle.group_run.specs.Process.{Head}
use Rattle.group_run.specs.Replica.{Replica}
use Rattle.head_service.specs.Peers.{to_all}
use Rattle.head_service.specs.declared.peers.Peers.{Peers}

-- what is told of one partition, if it is headed
abbrev pub stable_of : Peers → ℕ → Option Head → Replica → List Sent
stable_of peers d None r = []
stable_of peers d (Some h) r = to_all peers (tells.Stable (rank h.rank) (partition d) r.applied)

-- and of these, from partition d on
abbrev pub stables : Peers → ℕ → List (Option Head) → List Replica → List Sent
stables peers d [] rs = []
stables peers d (h ∷ hs) [] = []
stables peers d (h ∷ hs) (r ∷ rs) = stable_of peers d h r ++ stables peers (d + 1) hs rs
