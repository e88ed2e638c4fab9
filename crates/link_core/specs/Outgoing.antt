-- The outgoing links of a process, as contracts see them.
use Rattle.std.specs.Prelude.{ℕ, List, [], slice_index_or, slice_set}

-- what waits for a target, in order, and how many more messages to it fit without memory
pub record Link (M : Type 0) : Type 0 where
  pub messages : List M
  pub spare : ℕ

-- no message and no room
abbrev pub empty_link : {M : Type 0} → Link M
empty_link = record { messages = []; spare = 0 }

-- the link to the target
abbrev pub link_to : {M : Type 0} → List (Link M) → ℕ → Link M
link_to links to = slice_index_or links to empty_link

-- the links with these messages and this room for the target; all others stay
abbrev pub with_link_to : {M : Type 0} → List (Link M) → ℕ → List M → ℕ → List (Link M)
with_link_to links to messages spare = slice_set links to (record { messages = messages; spare = spare })
