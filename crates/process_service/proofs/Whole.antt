-- Where every run's bytes are at hand, no block is needed.
use Rattle.std.proofs.Common.{ℕ, ◌≢◌, Bool, true, false, List, Option, Some, None}
use Rattle.group_calls.specs.declared.decision.Decision.{Decision}
use Rattle.group_calls.specs.declared.decision.Decision.TheVariants as decides
use Rattle.group_calls.specs.declared.found.Found.{Found}
use Rattle.group_calls.specs.declared.found.Found.TheVariants.{Bytes}
use Rattle.group_message.specs.declared.update.Outcome.{Outcome}
use Rattle.group_run.specs.Deciding.{decide, decide_accepted, decide_blind, decide_found, decide_left, decide_placed, decide_ruled, decide_waiting, item_found}
use Rattle.group_run.specs.Replica.{Replica}
use Rattle.group_types.specs.declared.run.Run.{Run}
use Rattle.item_index.specs.declared.slot.Slot.{Slot}
use Rattle.memc_table.specs.Asked.{Asked}
use Rattle.memc_table.specs.declared.holding.Holding.{Holding}
use Rattle.memc_table.specs.declared.reply.Reply.{Reply}
use Rattle.memc_table.specs.declared.ruling.Ruling.{Ruling}
use Rattle.memc_table.specs.declared.ruling.Ruling.TheVariants.{Refused, Accepted}

-- a decision that needs no block
abbrev NeedsNone : Decision → Type 0
NeedsNone decision = (block : ℕ) → decision ≢ decides.NeedBlock block

module _ (space : ℕ) (r : Replica) (op : Asked) (bytes : Run → List ℕ) where
  abbrev read : Run → Found
  read run = Bytes (bytes run)

  placed : (outcome : Outcome) (h : Holding) (run : Option Run) → NeedsNone (decide_placed read outcome h run)
  placed outcome h None block is = absurd (cc is)
  placed outcome h (Some run) block is = absurd (cc is)

  left : (outcome : Outcome) (touch : Bool) (leaves : Option Holding) → NeedsNone (decide_left space r read outcome touch leaves)
  left outcome touch None block is = absurd (cc is)
  left outcome true (Some h) block is = absurd (cc is)
  left outcome false (Some h) block is = placed outcome h _ block is

  accepted : (full : Bool) (decision : Decision) → NeedsNone decision → NeedsNone (decide_accepted full r decision)
  accepted true decision none block is = absurd (cc is)
  accepted false decision none block is = none block is

  ruled : (ruling : Ruling) → NeedsNone (decide_ruled space r op read ruling)
  ruled (Refused reply) block is = absurd (cc is)
  ruled (Accepted reply leaves) block is = accepted _ _ (left _ _ leaves) block is

  found : (slot : Option Slot) (run : Option Run) → NeedsNone (decide_found space r op read slot (item_found read slot run))
  found slot None = ruled _
  found slot (Some run) = ruled _

  blind : (slot : Option Slot) (reply : Option Reply) → NeedsNone (decide_blind space r op read slot reply)
  blind slot (Some reply) block is = absurd (cc is)
  blind slot None block is = found slot _ block is

  waiting : (slot : Option Slot) (n : Option ℕ) → NeedsNone (decide_waiting space r op read slot n)
  waiting slot (Some n) block is = absurd (cc is)
  waiting slot None block is = blind slot _ block is

  pub needs_none : (inherited : ℕ) → NeedsNone (decide space inherited r op read)
  needs_none inherited = waiting _ _
