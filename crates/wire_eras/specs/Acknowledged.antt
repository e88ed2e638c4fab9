-- A carry by clients: what they begin sets what a table holds, and each set is acknowledged.
use Rattle.std.specs.Prelude.{ℕ, ◌≡◌, ◌⊎◌, List, ◌∷◌, ◌++◌, Some}
use Rattle.group_types.specs.Dimensions.{Dimensions}
use Rattle.group_types.specs.Each.{Each}
use Rattle.memc_table.specs.Act.{key_of}
use Rattle.memc_table.specs.Contents.{Contents}
use Rattle.memc_table.specs.declared.holding.Holding.{Holding}
use Rattle.memc_table.specs.declared.reply.Reply.{Reply}
use Rattle.group_calls.specs.Log.{IsLegal}
use Rattle.group_calls.specs.declared.entry.Entry.{Entry}
use Rattle.group_calls.specs.declared.event.Answer.TheVariants as says
use Rattle.group_eras.specs.Promise.{IsItemKept}
use Rattle.group_wire.specs.Actions.{Action, Show}
use Rattle.group_wire.specs.Composed.{AreActions, composed}
use Rattle.group_wire.specs.Laws.{NoTwoHoldAll}
use Rattle.group_wire.specs.Shown.{Shows}
use Rattle.group_wire.specs.State.{OpenCall, Told}
use Rattle.wire_eras.specs.Begun.{BeginsOnly}
use Rattle.wire_eras.specs.Carry.{BeginsWithCarry, HasExpired, SetsHeld}
use Rattle.wire_eras.specs.Laws.{IsTold, log_made}
use Rattle.wire_eras.specs.Told.{table_left}

-- among actions a client is shown the reply to a call on this key
pub record IsAcknowledged (s : Dimensions) (actions : List Action) (key : List ℕ) : Type 0 where
  pub before : List Action
  pub after : List Action
  pub caller : ℕ
  pub ping : ℕ
  pub is : actions ≡ before ++ Show caller ping ∷ after
  pub apart : NoTwoHoldAll (composed s before).group
  pub call : OpenCall
  pub told : Told
  pub shows : Shows (composed s before) caller call told
  pub reply : Reply
  pub answer : told.answer ≡ says.Reply reply
  pub key_is : key_of call.op.act ≡ key

-- all that is begun sets what the table holds; an item whose set isn't acknowledged has ended before it could be asked for
pub record CarriesByClients (t : Contents) (s : Dimensions) (actions more : List Action) : Type 0 where
  pub run : AreActions s (actions ++ more)
  pub sets : Each (BeginsOnly (SetsHeld t)) actions
  pub all : (key : List ℕ) (h : Holding) → t.items key ≡ Some h → IsAcknowledged s actions key ⊎ HasExpired (log_made s (actions ++ more)) key h

-- then the group's log begins with a carry, whatever is done behind
abbrev pub AcknowledgedAreCarried : Type 0
AcknowledgedAreCarried = (t : Contents) (s : Dimensions) (actions more : List Action)
    → CarriesByClients t s actions more → BeginsWithCarry t (log_made s (actions ++ more))

-- and each item whose set is acknowledged is then what it was, with a cas number above all earlier ones of its partition
abbrev pub AcknowledgedKeep : Type 0
AcknowledgedKeep = (earlier told : List Entry) (s : Dimensions) (actions more : List Action) → IsLegal s.k earlier
    → CarriesByClients (table_left s.k earlier) s actions more
    → IsTold earlier s actions told
    → (key : List ℕ) (h : Holding) → (table_left s.k earlier).items key ≡ Some h → IsAcknowledged s actions key
    → IsItemKept (table_left s.k earlier) key h (table_left s.k (earlier ++ told))
