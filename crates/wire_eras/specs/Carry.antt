-- How the log of a group begins into which the items of an earlier table were carried by clients.
use Rattle.std.specs.Prelude.{ℕ, ℤ, ◌≡◌, ◌<◌, ◌⊎◌, false, List, ◌++◌, Option, Some, None, Contains, ⊤}
use Rattle.group_types.specs.Each.{Each}
use Rattle.memc_table.specs.Act.{key_of}
use Rattle.memc_table.specs.Asked.{Asked}
use Rattle.memc_table.specs.Contents.{Contents}
use Rattle.memc_table.specs.Expiry.{is_live, longest_offset, until_of}
use Rattle.memc_table.specs.declared.act.Act.TheVariants.{Set}
use Rattle.memc_table.specs.declared.holding.Holding.{Holding}
use Rattle.group_calls.specs.declared.entry.Entry.{Entry}
use Rattle.group_eras.specs.Carry.{expiry_of}

-- an op sets what a table holds of its key: flags and value, with an exptime by which it lives as long
pub record SetsHeld (t : Contents) (op : Asked) : Type 0 where
  pub holding : Holding
  pub held : t.items (key_of op.act) ≡ Some holding
  pub exptime : ℤ
  pub act : op.act ≡ Set (key_of op.act) holding.item.flags exptime holding.item.value
  pub until : until_of exptime op.moment ≡ holding.until

-- an entry is on this key
abbrev pub HasKey : List Entry → List ℕ → Type 0
HasKey log key = (e : Entry) × Contains log e × (key_of e.op.act ≡ key)

-- an item has ended by the moment of each op on its key
abbrev pub HasExpired : List Entry → List ℕ → Holding → Type 0
HasExpired log key h = Each (λ e. key_of e.op.act ≡ key → is_live e.op.moment h.until ≡ false) log

-- a log begins with sets of what a table holds; an item that isn't set has ended before it could be asked for
pub record BeginsWithCarry (t : Contents) (log : List Entry) : Type 0 where
  pub sets : List Entry
  pub later : List Entry
  pub is : log ≡ sets ++ later
  pub only : Each (λ e. SetsHeld t e.op) sets
  pub all : (key : List ℕ) (h : Holding) → t.items key ≡ Some h → HasKey sets key ⊎ HasExpired log key h

-- an until that is no offset from the moment of a call
abbrev pub IsLate : Option ℕ → Type 0
IsLate None = ⊤
IsLate (Some until) = longest_offset < until

-- such an until is kept by the exptime that is its number, and none by 0, whenever the item is set
abbrev pub ExptimesKeep : Type 0
ExptimesKeep = (until : Option ℕ) (moment : ℕ) → IsLate until → until_of (expiry_of until) moment ≡ until
