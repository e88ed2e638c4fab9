-- What a head decides without the bytes of the item.
use Rattle.std.proofs.Common.{ℕ, suc, ◌≡◌, nat_le, nat_lt, Bool, true, false, ◌&&◌, List, [], length, Option, Some}
use Rattle.std.proofs.Common.{None, if◌then◌else◌, refl, sym, ap, ◌∙◌, arith}
use Rattle.std.proofs.lemmas.Grind.{common_steps}
use Rattle.std.proofs.lemmas.List.{length-replicate}
use Rattle.group_types.specs.declared.run.Run.{Run}
use Rattle.item_index.specs.declared.slot.Slot.{Slot}
use Rattle.memc_table.specs.Asked.{Asked}
use Rattle.memc_table.specs.Expiry.{is_live}
use Rattle.memc_table.specs.Ruling.{ruling_of}
use Rattle.memc_table.specs.declared.holding.Holding.{Holding}
use Rattle.memc_table.specs.declared.reply.Reply.{Reply}
use Rattle.memc_table.specs.declared.ruling.Ruling.{Ruling}
use Rattle.memc_table.specs.declared.ruling.Ruling.TheVariants.{Refused, Accepted}
use Rattle.group_run.specs.Deciding.{Found, blind_reply, decide_blind, decide_found, decide_left, decide_accepted}
use Rattle.group_run.specs.Deciding.{decide_ruled, decide_waiting, held_as, is_blind, is_touch, item_found, slot_length}
use Rattle.group_run.specs.Deciding.{outcome_of, reads_bytes, ruling_with, run_needed, unseen, window}
use Rattle.group_run.specs.Replica.{Replica, last_of, run_in}
use Rattle.law_updates.proofs.Blind.{Alike, LeavesAlike, alike-same, same-empty, unread-alike}

module _ (space : ℕ) (r : Replica) (op : Asked) (read : Run → Found) where
  left-alike : (reply : Reply) (touch : Bool) (mine theirs : Option Holding) → LeavesAlike touch mine theirs
      → decide_left space r read (outcome_of reply) touch mine ≡ decide_left space r read (outcome_of reply) touch theirs
  left-alike reply touch None None alike = refl
  left-alike reply touch None (Some k) alike = absurd alike
  left-alike reply touch (Some h) None alike = absurd alike
  left-alike reply true (Some h) (Some k) alike = cc alike
  left-alike reply false (Some h) (Some k) alike = ap (λ x. decide_left space r read (outcome_of reply) false (Some x)) alike

  -- rulings that are alike come to one decision
  ruled-alike : (mine theirs : Ruling) → Alike (is_touch op.act) mine theirs → decide_ruled space r op read mine ≡ decide_ruled space r op read theirs
  ruled-alike (Refused a) (Refused b) alike = cc alike
  ruled-alike (Refused a) (Accepted b m) alike = absurd alike
  ruled-alike (Accepted a l) (Refused b) alike = absurd alike
  ruled-alike (Accepted a l) (Accepted b m) alike =
      ap (decide_accepted (nat_le window (length r.log)) r) (left-alike a (is_touch op.act) l m alike.1)
      ∙ ap (λ (x : Reply). decide_ruled space r op read (Accepted x m)) alike.0

  -- where no byte is needed, the ruling on no bytes is alike
  empty-alike : (slot : Slot) (reads live : Bool) → reads_bytes op.act ≡ reads → (reads && live && nat_lt 0 slot.len) ≡ false
      → Alike (is_touch op.act) (ruling_of op.moment (suc (last_of r)) op.act (if live then Some (held_as slot []) else None))
      (ruling_of op.moment (suc (last_of r)) op.act (if live then Some (held_as slot (unseen (Some slot))) else None))
  empty-alike slot reads false reading none = alike-same (is_touch op.act) (ruling_of op.moment (suc (last_of r)) op.act None) _ refl
  empty-alike slot false true reading none = unread-alike op.moment (suc (last_of r)) op.act slot [] (unseen (Some slot)) reading
  empty-alike slot true true reading none =
      let empty : slot.len ≡ 0 = grind (arith, common_steps) in
      alike-same (is_touch op.act) (ruling_of op.moment (suc (last_of r)) op.act (Some (held_as slot []))) _
      (ap (λ (bytes : List ℕ). ruling_of op.moment (suc (last_of r)) op.act (Some (held_as slot bytes)))
      (same-empty slot [] (unseen (Some slot)) (sym empty) (length-replicate slot.len 0) empty))

  -- a ruling that needs no byte decides, whether its reply is given blindly or not
  blind-ruled : (slot : Option Slot) → run_needed op slot ≡ None → (ruling : Ruling) → ruling_with r op slot (unseen slot) ≡ ruling
      → decide_ruled space r op read ruling ≡ decide_blind space r op read slot (blind_reply (slot_length slot) ruling)
  blind-ruled slot none (Refused reply) is = by (is_blind (slot_length slot) reply) where
    by : (b : Bool) → decide_ruled space r op read (Refused reply) ≡ decide_blind space r op read slot (if b then Some reply else None)
    by true = refl
    by false =
        ap (decide_ruled space r op read) (sym is)
        ∙ ap (λ (run : Option Run). decide_found space r op read slot (item_found read slot run)) (sym none)
  blind-ruled slot none (Accepted reply leaves) is =
      ap (decide_ruled space r op read) (sym is)
      ∙ ap (λ (run : Option Run). decide_found space r op read slot (item_found read slot run)) (sym none)

  unneeded-alike : (slot : Option Slot) → run_needed op slot ≡ None → Alike (is_touch op.act) (ruling_with r op slot []) (ruling_with r op slot (unseen slot))
  unneeded-alike None none = alike-same (is_touch op.act) (ruling_with r op None []) _ refl
  unneeded-alike (Some slot) none = empty-alike slot (reads_bytes op.act) (is_live op.moment slot.until) refl (by _ none) where
    by : (b : Bool) → (if b then Some (run_in slot) else None) ≡ None → b ≡ false
    by true none = absurd (cc none)
    by false none = refl

  -- so an op that needs no byte is decided by the ruling on none
  pub unread-decided : (slot : Option Slot) (ruling : Ruling) → run_needed op slot ≡ None → ruling ≡ ruling_with r op slot []
      → decide_ruled space r op read ruling ≡ decide_waiting space r op read slot None
  unread-decided slot ruling none is =
      ap (decide_ruled space r op read) is
      ∙ ruled-alike (ruling_with r op slot []) (ruling_with r op slot (unseen slot)) (unneeded-alike slot none)
      ∙ blind-ruled slot none (ruling_with r op slot (unseen slot)) refl
