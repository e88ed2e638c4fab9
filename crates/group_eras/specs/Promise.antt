-- What is promised over eras: one legal log, in which each carried item is what it was, and eras that each are a run of
-- their own with the whole headline.
use Rattle.std.specs.Prelude.{ℕ, ◌≡◌, ◌<◌, ◌+◌, false, List, [], ◌∷◌, ◌++◌, map, take, slice_get, Some, true}
use Rattle.group_types.specs.Dimensions.{Dimensions}
use Rattle.group_types.specs.Hash.{home_of}
use Rattle.group_types.specs.Each.{Each}
use Rattle.group_types.specs.Names.{IsProcess}
use Rattle.group_types.specs.Shape.{IsShape}
use Rattle.group_types.specs.declared.process.ProcessId.{ProcessId}
use Rattle.memc_table.specs.Act.{key_of}
use Rattle.memc_table.specs.Asked.{Asked}
use Rattle.memc_table.specs.Contents.{Contents, count_of, empty_table}
use Rattle.memc_table.specs.Expiry.{is_live}
use Rattle.memc_table.specs.declared.holding.Holding.{Holding}
use Rattle.group_calls.specs.Log.{IsLegal, table_of}
use Rattle.group_calls.specs.Turns.{CallName, name_of}
use Rattle.group_calls.specs.declared.entry.Entry.{Entry}
use Rattle.group_calls.specs.declared.event.Event.{Event}
use Rattle.group_calls.specs.declared.event.Event.TheVariants.{Ask}
use Rattle.group_run.specs.Causes.{asks_among}
use Rattle.group_run.specs.Headline.{Headline, IsRun}
use Rattle.group_run.specs.Meaning.{IsDrained, is_dead}
use Rattle.group_run.specs.World.{World, after, opening}
use Rattle.group_eras.specs.Carry.{begun, carried}
use Rattle.group_eras.specs.Eras.{EraEntry, Eras, MayMake, era_step, first_era}
use Rattle.group_eras.specs.Refusal.{CanCarry, IsAtRest, IsSuccessor}
use Rattle.group_eras.specs.Told.{Bases, based_reply, event_in, op_for_era}

-- what happens over eras: an event, the carrying of all items into a fresh group, or the beginning of one that want of
-- memory cut short after so many events
pub data EraMove : Type 0 where
  Makes : Event → EraMove
  Carries : Dimensions → EraMove
  Begins : ℕ → EraMove

abbrev pub done : Eras → EraMove → Eras
done e (Makes event) = (era_step e event).eras
done e (Carries s) = carried e s
done e (Begins many) = begun e many

abbrev pub all_done : Eras → List EraMove → Eras
all_done e [] = e
all_done e (move ∷ moves) = all_done (done e move) moves

-- what may happen
abbrev pub MayBeDone : Eras → EraMove → Type 0
MayBeDone e (Makes event) = MayMake e event
MayBeDone e (Carries s) = IsSuccessor e.world s × CanCarry e.world s
MayBeDone e (Begins many) = IsAtRest e.world

abbrev pub MayAllBeDone : Eras → List EraMove → Type 0
MayAllBeDone e [] = Unit {0}
MayAllBeDone e (move ∷ moves) = MayBeDone e move × MayAllBeDone (done e move) moves

-- the log over all eras as one log
abbrev pub one_log : Eras → List Entry
one_log e = map (λ x. x.1) e.log

-- the table that it leaves
abbrev pub table_over : Eras → Contents
table_over e = table_of (empty_table e.world.shape.k) (one_log e)

-- an event of a list is the ask of this name for this op
pub record IsAskOf (events : List Event) (name : CallName) (op : Asked) : Type 0 where
  pub place : ℕ
  pub at : ProcessId
  pub there : slice_get events place ≡ Some (Ask name.caller op at)
  pub counted : asks_among name.caller (take place events) ≡ name.call

-- an entry of an era's log tells one of its world's: of the same call, with the op as it was asked, and with its number
pub record TellsEntry (bases : Bases) (k : ℕ) (asked : List Event) (entry told : Entry) : Type 0 where
  pub name : name_of told ≡ name_of entry
  pub was_asked : IsAskOf asked (name_of told) told.op
  pub op : entry.op ≡ op_for_era bases k told.op
  pub reply : told.reply ≡ based_reply bases (home_of (key_of told.op.act) k) entry.reply

-- entry by entry
abbrev pub AreTold : Bases → ℕ → List Event → ℕ → List Entry → List EraEntry → Type 0
AreTold bases k asked era [] [] = Unit {0}
AreTold bases k asked era (x ∷ xs) (y ∷ ys) = (y.0 ≡ era) × TellsEntry bases k asked x y.1 × AreTold bases k asked era xs ys
AreTold bases k asked era [] (y ∷ ys) = ⊥
AreTold bases k asked era (x ∷ xs) [] = ⊥

-- the current era is a run of its own: of the events as they were asked, changed on their way in, it has the whole
-- headline, and its log stands behind that of the eras before
pub record IsEra (e : Eras) : Type 0 where
  pub asked : List Event
  pub events : List Event
  pub changed : events ≡ map (event_in e.bases e.world.shape.k) asked
  pub run : IsRun e.world.shape events
  pub stands : e.world ≡ after e.world.shape events
  pub headline : Headline e.world.shape events
  pub before : List EraEntry
  pub own : List EraEntry
  pub log : e.log ≡ before ++ own
  pub earlier : Each (λ x. x.0 < e.era) before
  pub told : AreTold e.bases e.world.shape.k asked e.era e.world.log own

-- the items of a table that live at some moment are in another what they were, with cas numbers above all earlier ones
-- of their partitions
pub record IsItemKept (t : Contents) (key : List ℕ) (h : Holding) (u : Contents) : Type 0 where
  pub holding : Holding
  pub there : u.items key ≡ Some holding
  pub flags : holding.item.flags ≡ h.item.flags
  pub value : holding.item.value ≡ h.item.value
  pub until : holding.until ≡ h.until
  pub above : count_of t key < holding.item.cas

abbrev pub AreKept : Contents → Contents → Type 0
AreKept t u = (key : List ℕ) (h : Holding) → t.items key ≡ Some h → is_live 0 h.until ≡ true → IsItemKept t key h u

-- an item was in a table what it is
pub record WasThere (t : Contents) (key : List ℕ) (h : Holding) : Type 0 where
  pub holding : Holding
  pub there : t.items key ≡ Some holding
  pub flags : holding.item.flags ≡ h.item.flags
  pub value : holding.item.value ≡ h.item.value
  pub until : holding.until ≡ h.until

-- the items of a table that live at some moment were all in another
abbrev pub NoneIsNew : Contents → Contents → Type 0
NoneIsNew t u = (key : List ℕ) (h : Holding) → u.items key ≡ Some h → is_live 0 h.until ≡ true → WasThere t key h

-- no process is dead
abbrev pub IsWhole : World → Type 0
IsWhole w = (p : ProcessId) → IsProcess w.shape p → is_dead w p ≡ false

-- what a carry leaves
pub record HasCarried (e : Eras) (s : Dimensions) : Type 0 where
  pub shape : (carried e s).world.shape ≡ s
  pub whole : IsWhole (carried e s).world
  pub drained : IsDrained (carried e s).world
  pub kept : AreKept (table_over e) (table_over (carried e s))
  pub none_new : NoneIsNew (table_over e) (table_over (carried e s))

-- eras whose log is legal, and whose current one is a run of its own
pub record HasPromise (e : Eras) : Type 0 where
  pub era : IsEra e
  pub legal : IsLegal e.world.shape.k (one_log e)

-- eras to which moves led, from a group in which no event was made
pub record IsLed (e : Eras) : Type 0 where
  pub s : Dimensions
  pub limits : IsShape s
  pub moves : List EraMove
  pub may : MayAllBeDone (first_era (opening s)) moves
  pub is : e ≡ all_done (first_era (opening s)) moves

-- so it is whatever happens
abbrev pub ErasAreRuns : Type 0
ErasAreRuns = (e : Eras) → IsLed e → HasPromise e

-- and nothing is lost in a carry, nor does anything come back
abbrev pub CarriesKeep : Type 0
CarriesKeep = (e : Eras) (s : Dimensions) → IsLed e → IsSuccessor e.world s → CanCarry e.world s → HasCarried e s

-- and no entry of the log is taken back
abbrev pub LogsOnlyGrow : Type 0
LogsOnlyGrow = (e : Eras) (move : EraMove) → (more : List EraEntry) × ((done e move).log ≡ e.log ++ more)
