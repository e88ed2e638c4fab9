-- Keys in the order in which they are to be taken, each once.
use Rattle.std.specs.Prelude.{ℕ, ◌≡◌, ◌≤◌, nat_eq, List, ◌∷◌, [], ◌++◌, length, Bool, false, Option, Some, None, if◌then◌else◌, slice_index_or}
use Rattle.std.specs.List.{IsDistinct, list_any}

-- the keys in order, and how many keys fit: those below that number
pub record Queued : Type 0 where
  pub keys : List ℕ
  pub room : ℕ

-- whether a key stands among these
abbrev pub is_queued : List ℕ → ℕ → Bool
is_queued keys key = list_any (nat_eq key) keys

-- the key at the head
abbrev pub first_of : List ℕ → Option ℕ
first_of [] = None
first_of (key ∷ _) = Some key

-- the keys, with this one at their head unless it stands among them
abbrev pub with_key_first : List ℕ → ℕ → List ℕ
with_key_first keys key = if is_queued keys key then keys else key ∷ keys

-- the keys, with this one at their end unless it stands among them
abbrev pub with_key_last : List ℕ → ℕ → List ℕ
with_key_last keys key = if is_queued keys key then keys else keys ++ key ∷ []

-- keys of which each stands once and is marked, in a block of memory that holds as many as can be marked
pub record MarksKeys (keys : List ℕ) (marks : List Bool) (capacity : ℕ) : Type 0 where
  pub once : IsDistinct nat_eq keys
  pub marked : (key : ℕ) → slice_index_or marks key false ≡ is_queued keys key
  pub room : length marks ≤ capacity
