-- A head that has nothing in its log, and reads its own bytes, answers a call by a reply, by want of space or by a ticket.
use Rattle.std.proofs.Common.{ℕ, ◌≡◌, nat_le, Bool, true, false, List, [], Option, Some, None, length, sym, ap, subst}
use Rattle.erasure_code.specs.Spaces.{bytes_at}
use Rattle.group_types.specs.Dimensions.{Dimensions, space_of}
use Rattle.group_types.specs.declared.process.ProcessId.{ProcessId}
use Rattle.group_types.specs.declared.process.ProcessId.TheVariants.{DataNode}
use Rattle.group_types.specs.declared.run.Run.{Run}
use Rattle.group_message.specs.declared.update.Outcome.{Outcome}
use Rattle.group_message.specs.declared.update.Update.{Update}
use Rattle.item_index.specs.declared.slot.Slot.{Slot}
use Rattle.memc_table.specs.Act.{key_of}
use Rattle.memc_table.specs.Asked.{Asked}
use Rattle.memc_table.specs.declared.holding.Holding.{Holding}
use Rattle.memc_table.specs.declared.reply.Reply.{Reply}
use Rattle.memc_table.specs.declared.ruling.Ruling.{Ruling}
use Rattle.memc_table.specs.declared.ruling.Ruling.TheVariants.{Accepted, Refused}
use Rattle.group_calls.specs.Turns.{CallName}
use Rattle.group_calls.specs.declared.decision.Decision.{Decision}
use Rattle.group_calls.specs.declared.decision.Decision.TheVariants as decides
use Rattle.group_run.specs.Applying.{ProcessStep, head_at, replica_of}
use Rattle.group_run.specs.Asking.{act_on, ask_head, found_at, issued, ticketed, update_of}
use Rattle.group_run.specs.Deciding.{Found, Bytes, blind_reply, decide, decide_accepted, decide_blind, decide_found}
use Rattle.group_run.specs.Deciding.{decide_left, decide_placed, decide_ruled, decide_waiting, decide_written, is_touch}
use Rattle.group_run.specs.Deciding.{item_found, outcome_of, ruling_with, run_needed, slot_length, unseen, waits_for}
use Rattle.group_run.specs.Deciding.{window}
use Rattle.group_run.specs.Free.{place_for}
use Rattle.group_run.specs.Process.{Head, Process}
use Rattle.group_run.specs.Replica.{Replica, number_on, slot_in}
use Rattle.wire_progress.specs.Emptying.{IsGiven}

-- neither an update nor a block is waited for
abbrev pub NeedsNothing : Decision → Type 0
NeedsNothing (decides.Retry n) = ⊥
NeedsNothing (decides.NeedBlock b) = ⊥
NeedsNothing _ = Unit {0}

module _ (op : Asked) (space : ℕ) (r : Replica) (empty : r.log ≡ []) (read : Run → Found)
    (reads : (run : Run) → (bytes : List ℕ) × (read run ≡ Bytes bytes)) where
  placed : (outcome : Outcome) (h : Holding) (place : Option Run) → NeedsNothing (decide_placed read outcome h place)
  placed outcome h None = tt
  placed outcome h (Some run) = subst (λ (f : Found). NeedsNothing (decide_written outcome h run f)) (sym (reads run).1) tt

  left : (outcome : Outcome) (touch : Bool) (leaves : Option Holding) → NeedsNothing (decide_left space r read outcome touch leaves)
  left outcome touch None = tt
  left outcome true (Some h) = tt
  left outcome false (Some h) = placed outcome h (place_for space r (length h.item.value))

  ruled : (ruling : Ruling) → NeedsNothing (decide_ruled space r op read ruling)
  ruled (Refused refusal) = tt
  ruled (Accepted reply leaves) =
      subst (λ (b : Bool).
      NeedsNothing (decide_accepted b r (decide_left space r read (outcome_of reply) (is_touch op.act) leaves)))
      (sym (ap (λ (log : List Update). nat_le window (length log)) empty)) (left (outcome_of reply) (is_touch op.act) leaves)

  found : (slot : Option Slot) (run : Option Run) → NeedsNothing (decide_found space r op read slot (item_found read slot run))
  found slot None = ruled (ruling_with r op slot (unseen slot))
  found slot (Some run) = subst (λ (f : Found). NeedsNothing (decide_found space r op read slot f)) (sym (reads run).1)
      (ruled (ruling_with r op slot (reads run).0))

  blind : (slot : Option Slot) (reply : Option Reply) → NeedsNothing (decide_blind space r op read slot reply)
  blind slot None = found slot (run_needed op slot)
  blind slot (Some reply) = tt

  decided : (inherited : ℕ) → NeedsNothing (decide space inherited r op read)
  decided inherited = subst (λ (o : Option ℕ). NeedsNothing (decide_waiting space r op read (slot_in r.items (key_of op.act)) o))
      (sym (ap (λ (log : List Update). waits_for inherited op.act (number_on log (key_of op.act))) empty))
      (blind (slot_in r.items (key_of op.act))
      (blind_reply (slot_length (slot_in r.items (key_of op.act)))
      (ruling_with r op (slot_in r.items (key_of op.act)) (unseen (slot_in r.items (key_of op.act))))))

module _ (s : Dimensions) (name : CallName) (op : Asked) (d : ℕ) (p : Process) where
  given-ticket : (u : Update) (t : ProcessStep) (b : Bool) → IsGiven (ticketed b d u t).answer
  given-ticket u t true = tt
  given-ticket u t false = tt

  acted : (h : Head) (x : Decision) → NeedsNothing x → IsGiven (act_on s name op d h p x).answer
  acted h (decides.Answer r) none = tt
  acted h (decides.Retry n) none = absurd none
  acted h decides.NoSpace none = tt
  acted h (decides.NeedBlock b) none = absurd none
  acted h (decides.Issue body outcome) none =
      given-ticket (update_of name op d body outcome p) (issued s d h (update_of name op d body outcome p) p)
      (nat_le (update_of name op d body outcome p).number
      (replica_of (issued s d h (update_of name op d body outcome p) p).process d).applied)

  pub given-asked : (h : Head) (e : ℕ) → head_at p d ≡ Some h → (replica_of p d).log ≡ [] → p.name ≡ DataNode e
      → IsGiven (ask_head s name op d p (head_at p d)).answer
  given-asked h e heads empty named = subst (λ (o : Option Head). IsGiven (ask_head s name op d p o).answer) (sym heads)
      (acted h (decide (space_of s) h.inherited (replica_of p d) op (found_at s d p p.name))
      (decided op (space_of s) (replica_of p d) empty (found_at s d p p.name)
      (λ run. (bytes_at run.at run.len p.space, ap (λ (n : ProcessId). found_at s d p n run) named)) h.inherited))
