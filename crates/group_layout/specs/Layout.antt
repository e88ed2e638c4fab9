-- Where the processes of groups stand among nodes, and which group a key is of.
use Rattle.std.specs.Prelude.{ℕ, ◌≡◌, ◌<◌, ◌≤◌, ◌+◌, ◌%◌, ◌/◌, ◌==◌, List, [], ◌∷◌, Option, Some, None, if◌then◌else◌}
use Rattle.std.specs.List.{range_with_len}
use Rattle.group_types.specs.Hash.{fnv1a}

-- the node of process number q of group j, of n nodes
abbrev pub node_of : ℕ → ℕ → ℕ → ℕ
node_of n j q = (j + q) % n

-- the group of a key, of g groups of k partitions
abbrev pub group_of : List ℕ → ℕ → ℕ → ℕ
group_of key k g = fnv1a key / k % g

-- the first of some processes of group j that stands on a node, if one does
abbrev pub first_on : ℕ → ℕ → ℕ → List ℕ → Option ℕ
first_on n node j [] = None
first_on n node j (q ∷ qs) = if node_of n j q == node then Some q else first_on n node j qs

-- the process of group j, of so many processes, that stands on a node, if one does
abbrev pub process_on : ℕ → ℕ → ℕ → ℕ → Option ℕ
process_on n count node j = first_on n node j (range_with_len 0 count)

-- no two processes of a group stand on one node
abbrev pub OneANode : Type 0
OneANode = (n count j q r : ℕ) → count ≤ n → q < count → r < count → node_of n j q ≡ node_of n j r → q ≡ r
