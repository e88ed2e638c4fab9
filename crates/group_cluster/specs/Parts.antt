-- A cluster's log as parts of the logs of its groups: each is what one event logged.
use Rattle.std.specs.Prelude.{◌<◌, ◌≤◌, ◌+◌, ◌==◌, if◌then◌else◌, List, [], ◌∷◌, ◌++◌, length, take, drop, All}
use Rattle.group_types.specs.Dimensions.{Dimensions}
use Rattle.group_types.specs.Lists.{at}
use Rattle.group_run.specs.World.{World, opening}
use Rattle.group_layout.specs.Cluster.{ClusterEntry, Groups, tagged}
use Rattle.group_cluster.specs.declared.groups.Part.{Part}

-- the entries of a part
abbrev pub part_in : Dimensions → List World → Part → List ClusterEntry
part_in s worlds p = tagged p.group (take p.many (drop p.from (at (opening s) worlds p.group).log))

-- the entries of parts, in order
abbrev pub log_in : Dimensions → List World → List Part → List ClusterEntry
log_in s worlds [] = []
log_in s worlds (p ∷ ps) = part_in s worlds p ++ log_in s worlds ps

-- parts with one more, unless it is empty
abbrev pub noted : List Part → Part → List Part
noted parts p = if p.many == 0 then parts else (parts ++ p ∷ [])

-- worlds of a shape, and the log that parts of theirs make
abbrev pub groups_of : Dimensions → List World → List Part → Groups
groups_of s worlds parts = record { shape = s; worlds = worlds; log = log_in s worlds parts }

-- the log of the part's group reaches over it
pub record IsWithinLog (s : Dimensions) (worlds : List World) (p : Part) : Type 0 where
  pub group : p.group < length worlds
  pub reached : p.from + p.many ≤ length (at (opening s) worlds p.group).log

abbrev pub AreWithinLogs : Dimensions → List World → List Part → Type 0
AreWithinLogs s worlds parts = All (IsWithinLog s worlds) parts
