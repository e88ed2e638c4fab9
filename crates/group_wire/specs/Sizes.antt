-- How many processes are in a set that a member keeps as words, one for each process.
use Rattle.std.specs.Prelude.{◌≡◌, true}
use Rattle.group_types.specs.Dimensions.{Dimensions}
use Rattle.group_types.specs.Names.{IsProcess}
use Rattle.group_types.specs.declared.process.ProcessId.{ProcessId}
use Rattle.membership.specs.Members.{Membership, count_known_dead, knows_dead}
use Rattle.group_wire.specs.Sets.{size_of}

-- where only processes of the group are known dead, they are as many as their set has
abbrev pub SizesAreCounts : Type 0
SizesAreCounts = (s : Dimensions) (known : Membership) → ((p : ProcessId) → knows_dead known p ≡ true → IsProcess s p)
    → size_of s (knows_dead known) ≡ count_known_dead known
