-- What a head decides can be done, where each difference is as long as its run.
use Rattle.std.proofs.Common.{ℕ, suc, ◌≡◌, ◌<◌, nat_le, Bool, true, false, [], length, Result, Ok, Err, IfOk, Option}
use Rattle.std.proofs.Common.{Some, None, refl, sym, ap, subst, ◌∙◌, arith}
use Rattle.std.proofs.lemmas.Grind.{common_steps}
use Rattle.field_byte.specs.Vectors.{add_bytes}
use Rattle.group_types.specs.Dimensions.{Dimensions, space_of}
use Rattle.group_types.specs.declared.run.Run.{Run}
use Rattle.item_index.specs.declared.slot.Slot.{Slot}
use Rattle.memc_table.specs.Act.{key_of}
use Rattle.memc_table.specs.Asked.{Asked}
use Rattle.memc_table.specs.Expiry.{live_at}
use Rattle.memc_table.specs.declared.act.Act.{Act}
use Rattle.memc_table.specs.declared.holding.Holding.{Holding}
use Rattle.memc_table.specs.declared.reply.Reply.{Reply}
use Rattle.memc_table.specs.declared.ruling.Ruling.{Ruling}
use Rattle.memc_table.specs.declared.ruling.Ruling.TheVariants.{Refused, Accepted}
use Rattle.group_message.specs.declared.update.Body.{Body}
use Rattle.group_message.specs.declared.update.Body.TheVariants.{Put, Remove}
use Rattle.group_message.specs.declared.update.Outcome.{Outcome}
use Rattle.group_calls.specs.declared.decision.Decision.{Decision}
use Rattle.group_run.specs.Deciding.{Found, Bytes, Missing, blind_reply, decide_accepted, decide_blind, decide_found}
use Rattle.group_run.specs.Deciding.{decide_left, decide_placed, decide_ruled, decide_waiting, decide_written, held_as}
use Rattle.group_run.specs.Deciding.{is_get, is_touch, item_found, outcome_of, ruling_with, run_needed, slot_length}
use Rattle.group_run.specs.Deciding.{unseen, waits_for, window}
use Rattle.group_run.specs.Free.{place_for}
use Rattle.group_run.specs.Replica.{Replica, freed_by, items_after, last_of, number_on, slot_in}
use Rattle.law_updates.proofs.Clears.{number_on-none}
use Rattle.law_updates.proofs.Decides.{Place, place-free}
use Rattle.law_updates.proofs.Histories.{steps-keep-slot}
use Rattle.law_updates.proofs.Rules.{RulesWell, rules-well}
use Rattle.head_service.specs.Issuing.{CanFollow, IsWholeDecision}

-- an op that isn't a get waits for any update on its key
waits-none : (inherited : ℕ) (act : Act) (last : Option ℕ) → is_get act ≡ false → waits_for inherited act last ≡ None → last ≡ None
waits-none inherited act None other free = refl
waits-none inherited act (Some n) other free =
    let waits : waits_for inherited act (Some n) ≡ Some n = rw other refl in
    sym waits ∙ free

module _ (s : Dimensions) (r : Replica) (op : Asked) (read : Run → Found) where
  abbrev Follows : Decision → Type 0
  Follows d = IsWholeDecision s d → CanFollow s r (key_of op.act) d

  module _ (alone : number_on r.log (key_of op.act) ≡ None) (few : length r.log < window) where
    -- no update that waits changes what its key has
    frees : (body : Body) → freed_by body (slot_in r.items (key_of op.act)) ≡ freed_by body (slot_in (items_after r.items r.log) (key_of op.act))
    frees body = ap (freed_by body) (sym (steps-keep-slot s [] 0 (key_of op.act) r.items r.log (number_on-none r.log (key_of op.act) alone)))

    follows-written : (outcome : Outcome) (h : Holding) (run : Run) → Place (space_of s) r (length h.item.value) run → (found : Found)
        → Follows (decide_written outcome h run found)
    follows-written outcome h run place (Missing b) whole = whole
    follows-written outcome h run place (Bytes under) whole = record {
      writes = record { long = whole; inside = place.fits.inside };
      free = place.free;
      frees = frees (Put h.item.flags h.until run (add_bytes h.item.value under));
      few = few;
    }

    follows-placed : (outcome : Outcome) (h : Holding) (place : Option Run) → place_for (space_of s) r (length h.item.value) ≡ place
        → Follows (decide_placed read outcome h place)
    follows-placed outcome h None is = λ whole. tt
    follows-placed outcome h (Some run) is = follows-written outcome h run (place-free (space_of s) r (length h.item.value) run is) (read run)

    follows-left : (outcome : Outcome) (touch : Bool) (leaves : Option Holding) → Follows (decide_left (space_of s) r read outcome touch leaves)
    follows-left outcome touch None = λ whole. record { writes = tt; free = tt; frees = frees Remove; few = few }
    follows-left outcome true (Some h) = λ whole. record { writes = tt; free = tt; frees = refl; few = few }
    follows-left outcome false (Some h) = follows-placed outcome h (place_for (space_of s) r (length h.item.value)) refl

  module _ (inherited : ℕ) (waits : waits_for inherited op.act (number_on r.log (key_of op.act)) ≡ None) where
    follows-accepted : (reply : Reply) (leaves : Option Holding) → is_get op.act ≡ false → (full : Bool) → nat_le window (length r.log) ≡ full
        → Follows (decide_accepted full r (decide_left (space_of s) r read (outcome_of reply) (is_touch op.act) leaves))
    follows-accepted reply leaves other true full = λ whole. tt
    follows-accepted reply leaves other false full =
        let alone = waits-none inherited op.act (number_on r.log (key_of op.act)) other waits in
        follows-left alone (grind (arith, common_steps)) (outcome_of reply) (is_touch op.act) leaves

    follows-ruled : (live : Option Holding) (ruling : Ruling) → RulesWell (suc (last_of r)) op.act live ruling
        → Follows (decide_ruled (space_of s) r op read ruling)
    follows-ruled live (Refused reply) well = λ whole. tt
    follows-ruled live (Accepted reply leaves) well = follows-accepted reply leaves well.2 (nat_le window (length r.log)) refl

    follows-found : (slot : Option Slot) (found : Found) → Follows (decide_found (space_of s) r op read slot found)
    follows-found slot (Missing b) = λ whole. whole
    follows-found None (Bytes bytes) = follows-ruled None _ (rules-well op.moment (suc (last_of r)) op.act None)
    follows-found (Some slot) (Bytes bytes) =
        let live : Option Holding = live_at op.moment (Some (held_as slot bytes)) in
        follows-ruled live _ (rules-well op.moment (suc (last_of r)) op.act live)

    follows-blind : (slot : Option Slot) (blind : Option Reply) → Follows (decide_blind (space_of s) r op read slot blind)
    follows-blind slot (Some reply) = λ whole. tt
    follows-blind slot None = follows-found slot (item_found read slot (run_needed op slot))

  -- once the head knows what the op has to wait for
  pub follows-waiting : (inherited : ℕ) (slot : Option Slot) (waits : Option ℕ) → waits_for inherited op.act (number_on r.log (key_of op.act)) ≡ waits
      → Follows (decide_waiting (space_of s) r op read slot waits)
  follows-waiting inherited slot (Some n) is = λ whole. tt
  follows-waiting inherited slot None is = follows-blind inherited is slot (blind_reply (slot_length slot) (ruling_with r op slot (unseen slot)))

  pub follows-once : (inherited : ℕ) (slot : Option Slot) → waits_for inherited op.act (number_on r.log (key_of op.act)) ≡ None
      → {E : Type 0} (result : Result Decision E) → IfOk result (λ d. d ≡ decide_waiting (space_of s) r op read slot None) → IfOk result (IsWholeDecision s)
      → IfOk result (λ d. CanFollow s r (key_of op.act) d)
  follows-once inherited slot waits (Ok d) same whole = subst Follows (sym same) (follows-waiting inherited slot None waits) whole
  follows-once inherited slot waits (Err e) same whole = tt
