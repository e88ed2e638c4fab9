-- What a carry reads of a group that is closed and at rest: the items that its heads list, and the values that gets are told.
use Rattle.std.specs.Prelude.{ℕ, ◌≡◌, ◌<◌, false, List, ◌∷◌, ◌++◌, length, Some, Contains}
use Rattle.group_types.specs.Dimensions.{Dimensions}
use Rattle.group_types.specs.Hash.{home_of}
use Rattle.group_types.specs.Lists.{at}
use Rattle.item_index.specs.declared.slot.Slot.{Slot}
use Rattle.memc_table.specs.Asked.{Asked}
use Rattle.memc_table.specs.Contents.{Contents, reply_of}
use Rattle.memc_table.specs.Expiry.{is_live}
use Rattle.memc_table.specs.declared.act.Act.TheVariants.{Get}
use Rattle.memc_table.specs.declared.holding.Holding.{Holding}
use Rattle.memc_table.specs.declared.reply.Item.{Item}
use Rattle.memc_table.specs.declared.reply.Reply.{Reply}
use Rattle.memc_table.specs.declared.reply.Reply.TheVariants as reply
use Rattle.group_calls.specs.declared.event.Answer.TheVariants as says
use Rattle.group_run.specs.Applying.{replica_of}
use Rattle.group_run.specs.Replica.{Replica}
use Rattle.group_eras.specs.Items.{head_of}
use Rattle.group_wire.specs.Actions.{Action, Begin, Show}
use Rattle.group_wire.specs.Composed.{AreActions, Composed, composed}
use Rattle.group_wire.specs.Composition.{machine}
use Rattle.group_wire.specs.Laws.{NoTwoHoldAll}
use Rattle.group_wire.specs.May.{MayAct}
use Rattle.group_wire.specs.Shown.{Shows}
use Rattle.group_wire.specs.State.{OpenCall, Told}
use Rattle.wire_eras.specs.Closed.{AreMembersAtRest, IsClosed}
use Rattle.wire_eras.specs.Laws.{log_made}
use Rattle.wire_eras.specs.Told.{bases_of, table_left}

-- the replica of a partition at the member that heads it
abbrev pub head_replica : Composed → ℕ → Replica
head_replica c d = replica_of (c.group.works.process (head_of (machine c) d)) d

-- an index tells of an item all but its value
pub record TellsItem (slot : Slot) (h : Holding) : Type 0 where
  pub flags : slot.flags ≡ h.item.flags
  pub until : slot.until ≡ h.until
  pub long : slot.len ≡ length h.item.value

-- a head lists the items of its partition, and its settled number is the base
pub record HeadListsItems (s : Dimensions) (actions : List Action) (d : ℕ) : Type 0 where
  pub listed : (key : List ℕ) (slot : Slot) → Contains (head_replica (composed s actions) d).items (key, slot)
      → (h : Holding) × ((table_left s.k (log_made s actions)).items key ≡ Some h) × TellsItem slot h
  pub all : (key : List ℕ) (h : Holding) → home_of key s.k ≡ d → (table_left s.k (log_made s actions)).items key ≡ Some h
      → (slot : Slot) × Contains (head_replica (composed s actions) d).items (key, slot) × TellsItem slot h
  pub base : (head_replica (composed s actions) d).applied ≡ at 0 (bases_of s.k (log_made s actions)) d

abbrev pub HeadsListItems : Type 0
HeadsListItems = (s : Dimensions) (actions : List Action) (d : ℕ) → AreActions s actions
    → AreMembersAtRest (composed s actions).group → d < s.k → HeadListsItems s actions d

-- a call that begins behind is shown a reply
pub record ShowsBehind (s : Dimensions) (actions more : List Action) (caller : ℕ) (o : OpenCall) (shown : Reply) : Type 0 where
  pub closed : IsClosed s actions more
  pub before : List Action
  pub after : List Action
  pub op : Asked
  pub begins : more ≡ before ++ Begin caller op ∷ after
  pub apart : NoTwoHoldAll (composed s (actions ++ more)).group
  pub ping : ℕ
  pub may : MayAct (composed s (actions ++ more)).group (Show caller ping)
  pub told : Told
  pub shows : Shows (composed s (actions ++ more)) caller o told
  pub answer : told.answer ≡ says.Reply shown

-- it is the reply of the table
abbrev pub GetsTellTable : Type 0
GetsTellTable = (s : Dimensions) (actions more : List Action) (caller : ℕ) (o : OpenCall) (shown : Reply) → ShowsBehind s actions more caller o shown
    → shown ≡ reply_of (table_left s.k (log_made s actions)) o.op

-- a table's reply to a get: the item that it holds, or a miss where what it holds has ended
pub record TableHoldsItem (t : Contents) (key : List ℕ) (item : Item) : Type 0 where
  pub holding : Holding
  pub held : t.items key ≡ Some holding
  pub same : holding.item ≡ item

abbrev pub ValuesAreHeld : Type 0
ValuesAreHeld = (t : Contents) (moment : ℕ) (key : List ℕ) (item : Item)
    → reply_of t (record { moment = moment; act = Get key }) ≡ reply.Value item → TableHoldsItem t key item

abbrev pub MissesHaveEnded : Type 0
MissesHaveEnded = (t : Contents) (moment : ℕ) (key : List ℕ) (h : Holding)
    → reply_of t (record { moment = moment; act = Get key }) ≡ reply.Miss → t.items key ≡ Some h
    → is_live moment h.until ≡ false
