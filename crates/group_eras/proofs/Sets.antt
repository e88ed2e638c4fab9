-- What a head decides of the set of a key that has no item: it puts the value.
use Rattle.std.proofs.Common.{ℕ, ℤ, suc, ◌≡◌, nat_le, false, List, [], length, Option, Some, None, ap, ◌∙◌}
use Rattle.field_byte.specs.Vectors.{add_bytes}
use Rattle.group_types.specs.declared.run.Run.{Run}
use Rattle.item_index.specs.declared.slot.Slot.{Slot}
use Rattle.memc_table.specs.Asked.{Asked}
use Rattle.memc_table.specs.Expiry.{until_of}
use Rattle.memc_table.specs.declared.act.Act.TheVariants.{Set}
use Rattle.memc_table.specs.declared.holding.Holding.{Holding}
use Rattle.group_message.specs.declared.update.Body.{Body}
use Rattle.group_message.specs.declared.update.Body.TheVariants.{Put}
use Rattle.group_message.specs.declared.update.Outcome.TheVariants as ends
use Rattle.group_message.specs.declared.update.Update.{Update}
use Rattle.group_calls.specs.declared.decision.Decision.TheVariants as decides
use Rattle.group_run.specs.Deciding.{Bytes, Found, decide, decide_accepted, decide_blind, decide_left, decide_placed}
use Rattle.group_run.specs.Deciding.{decide_waiting, decide_written, blind_reply, slot_length, ruling_with, unseen}
use Rattle.group_run.specs.Deciding.{waits_for, window}
use Rattle.group_run.specs.Free.{place_for}
use Rattle.group_run.specs.Replica.{Replica, last_of, number_on, slot_in}

module _ (key : List ℕ) (flags : ℕ) (expiry : ℤ) (value : List ℕ) where
  abbrev pub put_op : Asked
  put_op = record { moment = 0; act = Set key flags expiry value }

  abbrev pub body_with : Run → List ℕ → Body
  body_with run under = Put flags (until_of expiry 0) run (add_bytes value under)

  module _ (space inherited : ℕ) (r : Replica) (read : Run → Found) (run : Run) (under : List ℕ) (quiet : r.log ≡ []) (new : slot_in r.items key ≡ None)
      (place : place_for space r (length value) ≡ Some run) (reads : read run ≡ Bytes under) where
    abbrev h : Holding
    h = record { item = record { flags = flags; cas = suc (last_of r); value = value }; until = until_of expiry 0 }

    pub decide-put : decide space inherited r put_op read ≡ decides.Issue (body_with run under) ends.Stored
    decide-put =
        ap (λ (log : List Update). decide_waiting space r put_op read (slot_in r.items key) (waits_for inherited put_op.act (number_on log key))) quiet
        ∙ ap (λ (slot : Option Slot). decide_blind space r put_op read slot (blind_reply (slot_length slot) (ruling_with r put_op slot (unseen slot)))) new
        ∙ ap (λ (log : List Update). decide_accepted (nat_le window (length log)) r (decide_left space r read ends.Stored false (Some h))) quiet
        ∙ ap (decide_placed read ends.Stored h) place
        ∙ ap (decide_written ends.Stored h run) reads
