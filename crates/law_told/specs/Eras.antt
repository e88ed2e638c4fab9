-- What eras tell: with which numbers an era goes on, how many items are carried, and which partition has no space.
use Rattle.std.specs.Prelude.{ℕ, ◌≡◌, ◌≢◌, ◌<◌, ◌≤◌, ◌+◌, nat_lt, true, List, [], ◌∷◌, filter, length, map, Option, Some, None, Contains, if◌then◌else◌}
use Rattle.std.specs.List.{sum_by}
use Rattle.group_types.specs.Dimensions.{Dimensions, space_of}
use Rattle.group_types.specs.Each.{EachTwo}
use Rattle.group_types.specs.Hash.{home_of}
use Rattle.group_types.specs.Lists.{at}
use Rattle.group_types.specs.Names.{IsProcess}
use Rattle.group_types.specs.declared.process.Partition.{Partition}
use Rattle.group_types.specs.declared.process.ProcessId.{ProcessId}
use Rattle.group_types.specs.declared.process.ProcessId.TheVariants.{DataNode, ParityNode}
use Rattle.memc_table.specs.Asked.{Asked}
use Rattle.memc_table.specs.Contents.{Contents}
use Rattle.memc_table.specs.Expiry.{is_live}
use Rattle.memc_table.specs.declared.holding.Holding.{Holding}
use Rattle.group_calls.specs.declared.entry.Entry.{Entry}
use Rattle.group_calls.specs.declared.event.Answer.TheVariants as says
use Rattle.group_calls.specs.declared.event.Cause.TheVariants as cause
use Rattle.group_calls.specs.declared.event.Event.TheVariants.{Ask}
use Rattle.group_run.specs.Meaning.{is_update_of}
use Rattle.group_run.specs.Shown.{stamp_of}
use Rattle.group_eras.specs.Carry.{many_carried}
use Rattle.group_eras.specs.Eras.{Eras, MayMake, era_step, stamp_in, turn_in}
use Rattle.group_eras.specs.Promise.{IsLed, table_over}
use Rattle.group_eras.specs.Refusal.{IsAtRest, IsRefused}
use Rattle.group_eras.specs.declared.fault.CarryFault.TheVariants.{NoSpace}

-- how many of the entries are accepted updates of partition d, of k
abbrev pub updates_among : ℕ → ℕ → List Entry → ℕ
updates_among k d [] = 0
updates_among k d (entry ∷ entries) = (if is_update_of k d entry then 1 else 0) + updates_among k d entries

-- the entries that the log has of the eras before the current one
abbrev pub earlier : Eras → List Entry
earlier e = map (λ x. x.1) (filter (λ x. nat_lt x.0 e.era) e.log)

-- a number of the current era's partition d, behind all updates that earlier eras have logged there
abbrev pub gone_on : Eras → ℕ → ℕ → ℕ
gone_on e d n = updates_among e.world.shape.k d (earlier e) + n

-- so an ask is told which update it has to wait for
abbrev pub PendingsGoOn : Type 0
PendingsGoOn = (e : Eras) (caller : ℕ) (op : Asked) (p : ProcessId) (d : Partition) (n : ℕ) → IsLed e
    → MayMake e (Ask caller op p) → (turn_in e (Ask caller op p)).answer ≡ says.Retry (cause.Pending d n)
    → (era_step e (Ask caller op p)).answer ≡ says.Retry (cause.Pending d (gone_on e d.0 n))

-- the partition whose number stands at a place of a process's stamp
abbrev pub partition_at : ProcessId → ℕ → ℕ
partition_at (DataNode d) i = d
partition_at (ParityNode j) i = i

-- and so are the numbers of a stamp
abbrev pub StampsGoOn : Type 0
StampsGoOn = (e : Eras) (p : ProcessId) (i : ℕ) → IsLed e → IsProcess e.world.shape p → i < length (stamp_of e.world p)
    → at 0 (stamp_in e p) i ≡ gone_on e (partition_at p i) (at 0 (stamp_of e.world p) i)

-- the keys of a table whose items live at some moment, each once
pub record AreLiving (t : Contents) (keys : List (List ℕ)) : Type 0 where
  pub once : EachTwo (λ a b. a ≢ b) keys
  pub all : (key : List ℕ) (h : Holding) → t.items key ≡ Some h → is_live 0 h.until ≡ true → Contains keys key
  pub live : (key : List ℕ) → Contains keys key → (h : Holding) × (t.items key ≡ Some h) × (is_live 0 h.until ≡ true)

-- as many items are carried as keys live
abbrev pub CarriesAreCounted : Type 0
CarriesAreCounted = (e : Eras) → IsLed e → IsAtRest e.world → (keys : List (List ℕ)) × AreLiving (table_over e) keys × (many_carried e ≡ length keys)

-- likewise the keys of partition d, of k
pub record AreLivingIn (k d : ℕ) (t : Contents) (keys : List (List ℕ)) : Type 0 where
  pub once : EachTwo (λ a b. a ≢ b) keys
  pub all : (key : List ℕ) (h : Holding) → home_of key k ≡ d → t.items key ≡ Some h → is_live 0 h.until ≡ true → Contains keys key
  pub live : (key : List ℕ) → Contains keys key → (home_of key k ≡ d) × (h : Holding) × (t.items key ≡ Some h) × (is_live 0 h.until ≡ true)

-- how many bytes a key's value has
abbrev pub bytes_held : Option Holding → ℕ
bytes_held None = 0
bytes_held (Some h) = length h.item.value

-- and the values of all living keys of partition d together
abbrev pub HasValueBytes : Eras → ℕ → ℕ → Type 0
HasValueBytes e d many = (keys : List (List ℕ)) × AreLivingIn e.world.shape.k d (table_over e) keys
    × (sum_by (λ key. bytes_held ((table_over e).items key)) keys ≡ many)

-- the partition that has no space in the new group is the first whose living values are longer
pub record IsFirstLonger (e : Eras) (space d : ℕ) : Type 0 where
  pub partition : d < e.world.shape.k
  pub long : (many : ℕ) × HasValueBytes e d many × (space < many)
  pub lower : (f : ℕ) → f < d → (many : ℕ) × HasValueBytes e f many × (many ≤ space)

abbrev pub NoSpaceIsFirst : Type 0
NoSpaceIsFirst = (e : Eras) (s : Dimensions) (d : Partition) → IsLed e → IsRefused e.world s (NoSpace d) → IsFirstLonger e (space_of s) d.0
