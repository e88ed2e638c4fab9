-- A process of either role.
use Rattle.std.specs.Prelude.{◌≡◌, ℕ}
use Rattle.group_types.specs.declared.process.ProcessId.TheVariants.{DataNode, ParityNode}
use Rattle.process_service.specs.Standing.{Standing}
use Rattle.group_node.specs.declared.process.Role.{Role}
use Rattle.group_node.specs.declared.process.Role.TheVariants.{Data, Parity}

-- the process that it is
abbrev pub standing_in : Role → Standing
standing_in (Data p) = p.value
standing_in (Parity p) = p.value

-- its name is of its role
abbrev pub IsNamed : Role → Type 0
IsNamed (Data p) = (d : ℕ) × (p.value.process.name ≡ DataNode d)
IsNamed (Parity p) = (i : ℕ) × (p.value.process.name ≡ ParityNode i)
