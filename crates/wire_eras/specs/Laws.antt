-- What holds of a group over machines that goes on from an earlier log.
use Rattle.std.specs.Prelude.{ℕ, ◌≡◌, ◌<◌, ◌≤◌, List, ◌++◌, take, Some}
use Rattle.group_types.specs.Dimensions.{Dimensions}
use Rattle.group_types.specs.Each.{Each}
use Rattle.group_types.specs.Hash.{home_of}
use Rattle.group_types.specs.Lists.{at}
use Rattle.memc_table.specs.Act.{key_of}
use Rattle.memc_table.specs.Asked.{Asked}
use Rattle.memc_table.specs.Contents.{Contents, reply_of}
use Rattle.memc_table.specs.declared.holding.Holding.{Holding}
use Rattle.memc_table.specs.declared.reply.Reply.{Reply}
use Rattle.group_calls.specs.Log.{IsLegal}
use Rattle.group_calls.specs.declared.entry.Entry.{Entry}
use Rattle.group_calls.specs.declared.event.Answer.TheVariants as says
use Rattle.group_eras.specs.Promise.{IsItemKept}
use Rattle.group_eras.specs.Told.{Bases, based_reply, op_for_era, with_base}
use Rattle.group_wire.specs.Actions.{Action, Show}
use Rattle.group_wire.specs.Composed.{AreActions, Composed, composed}
use Rattle.group_wire.specs.Composition.{machine}
use Rattle.group_wire.specs.Laws.{NoTwoHoldAll}
use Rattle.group_wire.specs.May.{MayAct}
use Rattle.group_wire.specs.Shown.{IsLoggedSinceBegun, Shows}
use Rattle.group_wire.specs.State.{OpenCall, Told}
use Rattle.wire_eras.specs.Carry.{BeginsWithCarry, HasKey, SetsHeld}
use Rattle.wire_eras.specs.Told.{AreToldAs, bases_of, table_left}

-- the log of the machine to which the members' actions compose
abbrev pub log_made : Dimensions → List Action → List Entry
log_made s actions = (machine (composed s actions)).log

-- members of a group made a run that goes on from a log: its items were carried into the group
pub record GoesOnFrom (earlier : List Entry) (s : Dimensions) (actions : List Action) : Type 0 where
  pub legal : IsLegal s.k earlier
  pub run : AreActions s actions
  pub carried : BeginsWithCarry (table_left s.k earlier) (log_made s actions)

-- its log, as it is told
abbrev pub IsTold : List Entry → Dimensions → List Action → List Entry → Type 0
IsTold earlier s actions told = AreToldAs (bases_of s.k earlier) s.k (log_made s actions) told

-- then the log over both is legal, and a group may go on from it again
abbrev pub LogsAreOne : Type 0
LogsAreOne = (earlier told : List Entry) (s : Dimensions) (actions : List Action) → GoesOnFrom earlier s actions → IsTold earlier s actions told
    → IsLegal s.k (earlier ++ told)

-- an item as it is told: with the base of its partition added to its cas number
abbrev pub with_raised_cas : Bases → ℕ → Holding → Holding
with_raised_cas bases d h = record { item = record { flags = h.item.flags; cas = with_base bases d h.item.cas; value = h.item.value }; until = h.until }

-- a table is another, as it is told
pub record IsRaised (bases : Bases) (k : ℕ) (own over : Contents) : Type 0 where
  pub counts : (d : ℕ) → d < k → at 0 over.counts d ≡ with_base bases d (at 0 own.counts d)
  pub items : (key : List ℕ) (h : Holding) → own.items key ≡ Some h → over.items key ≡ Some (with_raised_cas bases (home_of key k) h)

-- so is the table over both that of the later group: what is read there may be carried on, and the next bases are the sums
abbrev pub TablesGoOn : Type 0
TablesGoOn = (earlier told : List Entry) (s : Dimensions) (actions : List Action) → GoesOnFrom earlier s actions → IsTold earlier s actions told
    → IsRaised (bases_of s.k earlier) s.k (table_left s.k (log_made s actions)) (table_left s.k (earlier ++ told))

-- the log of a first group is one
abbrev pub FirstLogIsLegal : Type 0
FirstLogIsLegal = (s : Dimensions) (actions : List Action) → AreActions s actions → IsLegal s.k (log_made s actions)

-- after sets of what a table holds each item that was set is what it was, with a cas number above all earlier ones of its
-- partition
abbrev pub SetsKeepItems : Type 0
SetsKeepItems = (k : ℕ) (earlier sets told : List Entry) → 1 ≤ k → IsLegal k earlier → IsLegal k sets → Each (λ e. SetsHeld (table_left k earlier) e.op) sets
    → AreToldAs (bases_of k earlier) k sets told
    → (key : List ℕ) (h : Holding) → (table_left k earlier).items key ≡ Some h → HasKey sets key
    → IsItemKept (table_left k earlier) key h (table_left k (earlier ++ told))

-- an answer is that of the one table for what was asked, at the place of the call in the log over both
pub record IsOfTable (earlier told : List Entry) (k : ℕ) (c : Composed) (caller : ℕ) (o : OpenCall) (shown : Reply)
    (asked : Asked) (answer : Reply) : Type 0 where
  pub logged : IsLoggedSinceBegun c caller o shown
  pub table : answer ≡ reply_of (table_left k (earlier ++ take logged.place told)) asked

-- so is what a client is shown: with the base taken off the cas number that it brings, and added to the one that it is told
abbrev pub ShownIsOfTable : Type 0
ShownIsOfTable = (earlier told : List Entry) (s : Dimensions) (actions : List Action) (caller ping : ℕ) (o : OpenCall)
    (t : Told) (shown : Reply) (asked : Asked)
    → GoesOnFrom earlier s actions → IsTold earlier s actions told → NoTwoHoldAll (composed s actions).group
    → MayAct (composed s actions).group (Show caller ping) → Shows (composed s actions) caller o t → t.answer ≡ says.Reply shown
    → o.op ≡ op_for_era (bases_of s.k earlier) s.k asked
    → IsOfTable earlier told s.k (composed s actions) caller o shown asked (based_reply (bases_of s.k earlier) (home_of (key_of asked.act) s.k) shown)
