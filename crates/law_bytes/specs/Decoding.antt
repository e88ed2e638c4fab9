-- What is read from bytes that stand at one stamp: the lost blocks of a session, and whole spaces.
use Rattle.std.specs.Prelude.{ℕ, ◌≡◌, ◌<◌, true, List, [], ◌∷◌, length, map, replicate, slice_get, Some, None, Contains, All}
use Rattle.std.specs.List.{range_with_len}
use Rattle.group_types.specs.Dimensions.{Dimensions, space_of}
use Rattle.group_types.specs.Lists.{at}
use Rattle.group_types.specs.Names.{IsProcess}
use Rattle.group_types.specs.Shape.{IsShape}
use Rattle.group_types.specs.declared.process.ProcessId.{ProcessId}
use Rattle.group_types.specs.declared.process.ProcessId.TheVariants.{DataNode, ParityNode}
use Rattle.group_types.specs.Each.{Each}
use Rattle.group_message.specs.declared.update.Update.{Update}
use Rattle.erasure_code.specs.Code.{coded}
use Rattle.group_run.specs.Applying.{space_after}
use Rattle.group_run.specs.Leaders.{decoded_of, is_complete}
use Rattle.group_run.specs.Meaning.{AreDistinct}
use Rattle.group_run.specs.Process.{Gathering, Process}
use Rattle.law_bytes.specs.Areas.{IsBlock, code, value, SettledWrite}
use Rattle.law_bytes.specs.Held.{Holds, stand}

-- each number is above those before it
abbrev pub Rising : List ℕ → Type 0
Rising [] = Unit {0}
Rising (x ∷ xs) = Each (λ y. x < y) xs × Rising xs

-- what has come in for a session stands at one stamp: that of these updates of each partition. Its lost
-- partitions have no blocks, and its rows are as many
pub record GathersRight (s : Dimensions) (us : ℕ → List Update) (g : Gathering) : Type 0 where
  pub lost : Rising g.lost
  pub lost_in : Each (λ d. d < s.k) g.lost
  pub rows : Rising g.rows
  pub rows_in : Each (λ i. i < s.m) g.rows
  pub as_many : length g.rows ≡ length g.lost
  pub inside : g.block < s.blocks
  pub write : SettledWrite s us
  pub blocks : (d : ℕ) (bytes : List ℕ) → at None g.blocks_in d ≡ Some bytes → (d < s.k) × (¬ (Contains g.lost d)) × IsBlock s g.block (value (us d)) bytes
  pub codes : (i : ℕ) (bytes : List ℕ) → at None g.rows_in i ≡ Some bytes → Contains g.rows i × IsBlock s g.block (code s i us) bytes

-- a session in which all has come in decodes to the values of its lost partitions, at that stamp
abbrev pub SessionsDecode : Type 0
SessionsDecode = (s : Dimensions) (us : ℕ → List Update) (g : Gathering) → IsShape s → GathersRight s us g → is_complete s g ≡ true
    → (l : ℕ) → Contains g.lost l → IsBlock s g.block (value (us l)) (decoded_of s g l)

-- the space of a partition after updates
abbrev pub values : Dimensions → ℕ → List Update → List ℕ
values s d us = space_after s (DataNode d) d us (replicate (space_of s) 0)

-- the spaces of all partitions after updates of each
abbrev pub columns : Dimensions → (ℕ → List Update) → List (List ℕ)
columns s us = map (λ d. values s d (us d)) (range_with_len 0 s.k)

-- the space that a process of the group has where the partitions' spaces are these columns
abbrev pub SpaceIs : Dimensions → List (List ℕ) → ProcessId → List ℕ → Type 0
SpaceIs s cs (DataNode d) space = slice_get cs d ≡ Some space
SpaceIs s cs (ParityNode i) space = space ≡ coded s.m i (space_of s) cs

-- a process that holds its bytes has the space of the settled updates that it has applied
abbrev pub SpacesStand : Type 0
SpacesStand = (s : Dimensions) (settled : ℕ → List Update) (p : Process) (x : ProcessId) → p.name ≡ x → IsProcess s x
    → SettledWrite s settled → Holds s settled p
    → SpaceIs s (columns s (stand settled p)) x p.space

-- columns of bytes, one for each partition, as long as a space
pub record AreSpaces (s : Dimensions) (cs : List (List ℕ)) : Type 0 where
  pub many : length cs ≡ s.k
  pub long : All (λ c. length c ≡ space_of s) cs
  pub bytes : All (All (λ byte. byte < 256)) cs

-- the spaces of k processes determine all columns
abbrev pub SpacesDetermine : Type 0
SpacesDetermine = (s : Dimensions) (ps : List ProcessId) (space : ProcessId → List ℕ) (cs others : List (List ℕ))
    → IsShape s → length ps ≡ s.k → AreDistinct ps → Each (IsProcess s) ps
    → AreSpaces s cs → AreSpaces s others → Each (λ p. SpaceIs s cs p (space p)) ps → Each (λ p. SpaceIs s others p (space p)) ps → others ≡ cs
