-- Steps of a head's decision, from one to the next.
use Rattle.std.proofs.Common.{ℕ, suc, ◌≡◌, ◌<◌, nat_le, Bool, false, List, length, Result, IfOk, Option, Some, None, refl, sym, ap, ap₂, subst, ◌∙◌, arith}
use Rattle.std.proofs.lemmas.Grind.{common_steps}
use Rattle.group_types.specs.declared.run.Run.{Run}
use Rattle.item_index.specs.declared.slot.Slot.{Slot}
use Rattle.memc_table.specs.Asked.{Asked}
use Rattle.memc_table.specs.Expiry.{live_at}
use Rattle.memc_table.specs.Ruling.{ruling_of}
use Rattle.memc_table.specs.declared.holding.Holding.{Holding}
use Rattle.memc_table.specs.declared.reply.Reply.{Reply}
use Rattle.memc_table.specs.declared.ruling.Ruling.{Ruling}
use Rattle.memc_table.specs.declared.ruling.Ruling.TheVariants.{Accepted}
use Rattle.group_message.specs.declared.update.Outcome.{Outcome}
use Rattle.group_calls.specs.declared.decision.Decision.{Decision}
use Rattle.group_run.specs.Deciding.{Found, decide_accepted, decide_left, decide_ruled, decide_waiting, held_as, is_touch, outcome_of, ruling_with, window}
use Rattle.group_run.specs.Free.{place_for}
use Rattle.group_run.specs.Replica.{Replica, last_of}
use Rattle.law_updates.proofs.Decides.{place-free}

-- a value that is longer than the space finds no place
pub too-long : (space : ℕ) (r : Replica) (len : ℕ) → space < len → None ≡ place_for space r len
too-long space r len long = by (place_for space r len) refl where
  by : (place : Option Run) → place_for space r len ≡ place → None ≡ place
  by None is = refl
  by (Some run) is = let fits = (place-free space r len run is).fits in absurd (omega (arith, long, fits.long, fits.inside))

-- where the log has room, an accepted op is decided by what it leaves
pub left-ruled : (space : ℕ) (r : Replica) (op : Asked) (read : Run → Found) (outcome : Outcome) (touch : Bool) (ruling : Ruling)
    (reply : Reply) (leaves : Option Holding) → ruling ≡ Accepted reply leaves → outcome ≡ outcome_of reply → touch ≡ is_touch op.act → length r.log < window
    → decide_left space r read outcome touch leaves ≡ decide_ruled space r op read ruling
left-ruled space r op read outcome touch ruling reply leaves is told touches few =
    let room : nat_le window (length r.log) ≡ false = grind (arith, common_steps) in
    ap₂ (λ o t. decide_left space r read o t leaves) told touches
    ∙ ap (λ (full : Bool). decide_accepted full r (decide_left space r read (outcome_of reply) (is_touch op.act) leaves)) (sym room)
    ∙ ap (decide_ruled space r op read) (sym is)

-- the decision on one item, as on the same one
pub at-slot : (space : ℕ) (r : Replica) (op : Asked) (read : Run → Found) {E : Type 0} (result : Result Decision E) {one other : Option Slot} → one ≡ other
    → IfOk result (λ d. d ≡ decide_waiting space r op read one None) → IfOk result (λ d. d ≡ decide_waiting space r op read other None)
at-slot space r op read result same = subst (λ (slot : Option Slot). IfOk result (λ d. d ≡ decide_waiting space r op read slot None)) same

-- the ruling on an item as the table holds it
pub ruling-held : (r : Replica) (op : Asked) (some : Option Slot) (slot : Slot) (bytes : List ℕ) (number : ℕ) (held : Holding)
    → some ≡ Some slot → number ≡ suc (last_of r) → held ≡ held_as slot bytes
    → ruling_of op.moment number op.act (live_at op.moment (Some held)) ≡ ruling_with r op some bytes
ruling-held r op some slot bytes number held is next same =
    ap₂ (λ (n : ℕ) (h : Holding). ruling_of op.moment n op.act (live_at op.moment (Some h))) next same
    ∙ ap (λ (o : Option Slot). ruling_with r op o bytes) (sym is)
