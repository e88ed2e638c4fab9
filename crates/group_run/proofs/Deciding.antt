-- What a head decides, walked through once: a sentence on decisions holds of it where it holds at each end of the walk.
use Rattle.std.proofs.Common.{ℕ, suc, ◌≡◌, ◌<◌, ◌≤◌, nat_le, Bool, true, false, List, length, Option, Some, None, refl, arith}
use Rattle.std.proofs.lemmas.Grind.{common_steps}
use Rattle.field_byte.specs.Vectors.{add_bytes}
use Rattle.group_types.specs.declared.run.Run.{Run}
use Rattle.item_index.specs.declared.slot.Slot.{Slot}
use Rattle.memc_table.specs.Act.{key_of}
use Rattle.memc_table.specs.Asked.{Asked}
use Rattle.memc_table.specs.declared.holding.Holding.{Holding}
use Rattle.memc_table.specs.declared.reply.Reply.{Reply}
use Rattle.memc_table.specs.declared.ruling.Ruling.{Ruling}
use Rattle.memc_table.specs.declared.ruling.Ruling.TheVariants.{Refused, Accepted}
use Rattle.group_message.specs.declared.update.Body.TheVariants.{Put, Remove, Touch}
use Rattle.group_message.specs.declared.update.Outcome.{Outcome}
use Rattle.group_calls.specs.declared.decision.Decision.{Decision}
use Rattle.group_calls.specs.declared.decision.Decision.TheVariants as decides
use Rattle.group_run.specs.Deciding.{Found, Bytes, Missing, blind_reply, decide, decide_accepted, decide_blind}
use Rattle.group_run.specs.Deciding.{decide_found, decide_left, decide_placed, decide_ruled, decide_waiting}
use Rattle.group_run.specs.Deciding.{decide_written, is_touch, item_found, outcome_of, ruling_with, slot_length}
use Rattle.group_run.specs.Deciding.{run_needed, unseen, waits_for, window}
use Rattle.group_run.specs.Free.{place_for}
use Rattle.group_run.specs.Replica.{Replica, number_on, slot_in}

module _ (space : ℕ) (r : Replica) (op : Asked) (read : Run → Found) where
  -- it holds of a reply, of what has to wait, of a block that is missing under the item or in a place, and of each update
  pub record Ends (inherited : ℕ) (Holds : Decision → Type 0) : Type 0 where
    pub answers : (reply : Reply) → Holds (decides.Answer reply)
    pub waits : (n : ℕ) → waits_for inherited op.act (number_on r.log (key_of op.act)) ≡ Some n → Holds (decides.Retry n)
    pub full : window ≤ length r.log → Holds (decides.Retry (suc r.applied))
    pub no_space : Holds decides.NoSpace
    pub item : (run : Run) (b : ℕ) → run_needed op (slot_in r.items (key_of op.act)) ≡ Some run → read run ≡ Missing b → Holds (decides.NeedBlock b)
    pub place : (len : ℕ) (run : Run) (b : ℕ) → place_for space r len ≡ Some run → read run ≡ Missing b → Holds (decides.NeedBlock b)
    pub removes : length r.log < window → (outcome : Outcome) → Holds (decides.Issue Remove outcome)
    pub touches : length r.log < window → (h : Holding) (outcome : Outcome) → Holds (decides.Issue (Touch h.until) outcome)
    pub puts : length r.log < window → (h : Holding) (run : Run) (under : List ℕ) (outcome : Outcome) → read run ≡ Bytes under
        → Holds (decides.Issue (Put h.item.flags h.until run (add_bytes h.item.value under)) outcome)

  module _ (inherited : ℕ) (Holds : Decision → Type 0) (ends : Ends inherited Holds) where
    written : length r.log < window → (outcome : Outcome) (h : Holding) (len : ℕ) (run : Run)
        → place_for space r len ≡ Some run → (found : Found) → read run ≡ found
        → Holds (decide_written outcome h run found)
    written few outcome h len run is (Missing b) missing = ends.place len run b is missing
    written few outcome h len run is (Bytes under) found = ends.puts few h run under outcome found

    placed : length r.log < window → (outcome : Outcome) (h : Holding) (len : ℕ) (run : Option Run)
        → place_for space r len ≡ run → Holds (decide_placed read outcome h run)
    placed few outcome h len None is = ends.no_space
    placed few outcome h len (Some run) is = written few outcome h len run is (read run) refl

    left : length r.log < window → (outcome : Outcome) (touch : Bool) (leaves : Option Holding) → Holds (decide_left space r read outcome touch leaves)
    left few outcome touch None = ends.removes few outcome
    left few outcome true (Some h) = ends.touches few h outcome
    left few outcome false (Some h) = placed few outcome h (length h.item.value) (place_for space r (length h.item.value)) refl

    accepted : (full : Bool) → nat_le window (length r.log) ≡ full → (decision : Decision)
        → (length r.log < window → Holds decision) → Holds (decide_accepted full r decision)
    accepted true is decision holds = ends.full (grind (arith, common_steps))
    accepted false is decision holds = holds (grind (arith, common_steps))

    ruled : (ruling : Ruling) → Holds (decide_ruled space r op read ruling)
    ruled (Refused refusal) = ends.answers refusal
    ruled (Accepted reply leaves) =
        accepted (nat_le window (length r.log)) refl (decide_left space r read (outcome_of reply) (is_touch op.act)
        leaves) (λ few. left few (outcome_of reply) (is_touch op.act) leaves)

    found : (slot : Option Slot) (run : Option Run) (there : Found)
        → ((x : Run) (b : ℕ) → run ≡ Some x → read x ≡ Missing b → Holds (decides.NeedBlock b))
        → item_found read slot run ≡ there
        → Holds (decide_found space r op read slot there)
    found slot run (Bytes bytes) item is = ruled (ruling_with r op slot bytes)
    found slot None (Missing b) item is = absurd (bytes_not (unseen slot) b is) where
      bytes_not : (bytes : List ℕ) (b : ℕ) → Bytes bytes ≡ Missing b → ⊥
      bytes_not bytes b e = cc e
    found slot (Some run) (Missing b) item is = item run b refl is

    blind : (slot : Option Slot) (reply : Option Reply)
        → ((x : Run) (b : ℕ) → run_needed op slot ≡ Some x → read x ≡ Missing b → Holds (decides.NeedBlock b))
        → Holds (decide_blind space r op read slot reply)
    blind slot (Some reply) item = ends.answers reply
    blind slot None item = found slot (run_needed op slot) (item_found read slot (run_needed op slot)) item refl

    waiting : (slot : Option Slot) (waits : Option ℕ) → ((x : Run) (b : ℕ) → run_needed op slot ≡ Some x → read x ≡ Missing b → Holds (decides.NeedBlock b))
        → waits_for inherited op.act (number_on r.log (key_of op.act)) ≡ waits → Holds (decide_waiting space r op read slot waits)
    waiting slot (Some n) item is = ends.waits n is
    waiting slot None item is = blind slot (blind_reply (slot_length slot) (ruling_with r op slot (unseen slot))) item

    pub decides-by : Holds (decide space inherited r op read)
    decides-by = waiting (slot_in r.items (key_of op.act)) (waits_for inherited op.act (number_on r.log (key_of op.act))) ends.item refl
