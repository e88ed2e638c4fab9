-- Sets of processes, functions of processes that are changed at one place, and lists of which one entry is taken.
use Rattle.std.specs.Prelude.{ℕ, zero, suc, ◌≡◌, ◌+◌, ◌==◌, ◌||◌, Bool, true, false, List, [], ◌∷◌, map, Option, Some, None}
use Rattle.std.specs.List.{range_with_len}
use Rattle.group_types.specs.Dimensions.{Dimensions}
use Rattle.group_types.specs.Names.{process_at, same_process}
use Rattle.group_types.specs.declared.process.ProcessId.{ProcessId}
use Rattle.membership.specs.Members.{count_dead_words}

-- a set of processes
abbrev pub Processes : Type 0
Processes = ProcessId → Bool

-- no process
abbrev pub nobody : Processes
nobody p = false

-- each process
abbrev pub everybody : Processes
everybody p = true

-- the processes of two sets
abbrev pub either : Processes → Processes → Processes
either a b p = a p || b p

-- every process of the first set is in the second
abbrev pub IsSubset : Processes → Processes → Type 0
IsSubset a b = (p : ProcessId) → a p ≡ true → b p ≡ true

-- how many processes of a group are in a set
abbrev pub size_of : Dimensions → Processes → ℕ
size_of s set = count_dead_words (map (λ x. set (process_at s x)) (range_with_len 0 (s.k + s.m)))

-- the first where the test passes, and else the second
abbrev pub one_or : {X : Type 0} → Bool → X → X → X
one_or true x y = x
one_or false x y = y

-- what is at each process, with this at p
abbrev pub changed : {X : Type 0} → (ProcessId → X) → ProcessId → X → ProcessId → X
changed f p x q = one_or (same_process q p) x (f q)

-- what is from each process to each, with this from p to q
abbrev pub changed_from : {X : Type 0} → (ProcessId → ProcessId → X) → ProcessId → ProcessId → X → ProcessId → ProcessId → X
changed_from f p q x = changed f p (changed (f p) q x)

-- what is at each number, with this at n
abbrev pub changed_at : {X : Type 0} → (ℕ → X) → ℕ → X → ℕ → X
changed_at f n x i = one_or (i == n) x (f i)

-- a set with one process more
abbrev pub with_one : Processes → ProcessId → Processes
with_one set p = changed set p true

-- the entry at a place of a list, and the list without it
abbrev pub entry_at : {X : Type 0} → List X → ℕ → Option X
entry_at [] n = None
entry_at (x ∷ xs) zero = Some x
entry_at (x ∷ xs) (suc n) = entry_at xs n

abbrev pub without_nth : {X : Type 0} → List X → ℕ → List X
without_nth [] n = []
without_nth (x ∷ xs) zero = xs
without_nth (x ∷ xs) (suc n) = x ∷ without_nth xs n
