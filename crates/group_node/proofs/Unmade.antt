-- A call that wasn't made, or that reads, changes nothing.
use Rattle.std.proofs.Common.{ℕ, ◌≡◌, ◌+◌, Bool, true, false, inl, inr, List, length, Option, Some, None, refl, sym, subst}
use Rattle.std.specs.List.{range_with_len}
use Rattle.group_types.specs.Dimensions.{Dimensions, space_of}
use Rattle.group_types.specs.Hash.{home_of}
use Rattle.group_types.specs.declared.run.Run.{Run}
use Rattle.item_index.specs.declared.slot.Slot.{Slot}
use Rattle.memc_table.specs.Act.{key_of}
use Rattle.memc_table.specs.Asked.{Asked}
use Rattle.memc_table.specs.Expiry.{live_at}
use Rattle.memc_table.specs.Ruling.{ruling_of}
use Rattle.memc_table.specs.declared.act.Act.{Act}
use Rattle.memc_table.specs.declared.act.Act.TheVariants as asks
use Rattle.memc_table.specs.declared.holding.Holding.{Holding}
use Rattle.memc_table.specs.declared.reply.Reply.{Reply}
use Rattle.memc_table.specs.declared.ruling.Ruling.{Ruling}
use Rattle.memc_table.specs.declared.ruling.Ruling.TheVariants.{Refused}
use Rattle.membership.specs.Members.{Membership}
use Rattle.group_message.specs.declared.message.Message.{Message}
use Rattle.group_message.specs.declared.update.Update.{Update}
use Rattle.group_calls.specs.Turns.{CallName}
use Rattle.group_calls.specs.declared.decision.Decision.{Decision}
use Rattle.group_calls.specs.declared.decision.Decision.TheVariants as decides
use Rattle.group_run.specs.Applying.{ProcessStep, head_at, quiet}
use Rattle.group_run.specs.Asking.{CallStep, Oldest, act_on, ask_head, ask_process, found_at, oldest_inherited, retry_block, ticketed}
use Rattle.group_run.specs.Applying.{replica_of}
use Rattle.group_run.specs.Deciding.{Bytes, Found, Missing, blind_reply, decide, decide_blind, decide_found}
use Rattle.group_run.specs.Deciding.{decide_ruled, decide_waiting, is_get, item_found, run_needed, slot_length}
use Rattle.group_run.specs.Deciding.{ruling_with, unseen, waits_for, held_as}
use Rattle.group_run.specs.Process.{Head, Process}
use Rattle.group_run.specs.Replica.{Replica, number_on, slot_in}
use Rattle.group_run.specs.World.{links_after}
use Rattle.head_service.specs.declared.step.CallStep as code
use Rattle.process_service.specs.Standing as whole
use Rattle.process_service.specs.Steps.{called}
use Rattle.link_core.specs.Outgoing.{Link}
use Rattle.group_node.specs.Asking.{ChangesNothing}
use Rattle.group_node.specs.Rooms.{messages}
use Rattle.group_node.specs.Standing.{node_standing}
use Rattle.group_node.proofs.Refused.{issues, quiet-stays}

-- a decision that issues no update
abbrev IsNoIssue : Decision → Type 0
IsNoIssue (decides.Issue body outcome) = ⊥
IsNoIssue _ = Unit {0}

-- a get is never ruled to leave anything
get-refused : (t n : ℕ) (act : Act) (h : Option Holding) → is_get act ≡ true → (r : Reply) × (ruling_of t n act h ≡ Refused r)
get-refused t n (asks.Get key) None get = (_, refl)
get-refused t n (asks.Get key) (Some h) get = (_, refl)
get-refused t n (asks.Set _ _ _ _) h get = absurd (cc get)
get-refused t n (asks.Add _ _ _ _) h get = absurd (cc get)
get-refused t n (asks.Replace _ _ _ _) h get = absurd (cc get)
get-refused t n (asks.Cas _ _ _ _ _) h get = absurd (cc get)
get-refused t n (asks.Delete _) h get = absurd (cc get)
get-refused t n (asks.Touch _ _) h get = absurd (cc get)
get-refused t n (asks.Append _ _) h get = absurd (cc get)
get-refused t n (asks.Prepend _ _) h get = absurd (cc get)
get-refused t n (asks.Incr _ _) h get = absurd (cc get)
get-refused t n (asks.Decr _ _) h get = absurd (cc get)

module _ (space : ℕ) (r : Replica) (op : Asked) (read : Run → Found) (get : is_get op.act ≡ true) where
  ruled : (slot : Option Slot) (bytes : List ℕ) → IsNoIssue (decide_ruled space r op read (ruling_with r op slot bytes))
  ruled None bytes = subst (λ (x : Ruling). IsNoIssue (decide_ruled space r op read x)) (sym (get-refused op.moment _ op.act None get).1) tt
  ruled (Some slot) bytes = subst (λ (x : Ruling). IsNoIssue (decide_ruled space r op read x))
      (sym (get-refused op.moment _ op.act (live_at op.moment (Some (held_as slot bytes))) get).1) tt

  found : (slot : Option Slot) (f : Found) → IsNoIssue (decide_found space r op read slot f)
  found slot (Missing b) = tt
  found slot (Bytes bytes) = ruled slot bytes

  blind : (slot : Option Slot) (b : Option Reply) → IsNoIssue (decide_blind space r op read slot b)
  blind slot (Some reply) = tt
  blind slot None = found slot (item_found read slot (run_needed op slot))

  waiting : (slot : Option Slot) (w : Option ℕ) → IsNoIssue (decide_waiting space r op read slot w)
  waiting slot (Some n) = tt
  waiting slot None = blind slot (blind_reply (slot_length slot) (ruling_with r op slot (unseen slot)))

  get-issues-none : (inherited : ℕ) → IsNoIssue (decide space inherited r op read)
  get-issues-none inherited = waiting (slot_in r.items (key_of op.act)) (waits_for inherited op.act (number_on r.log (key_of op.act)))

module _ (s : Dimensions) (name : CallName) (op : Asked) (p : Process) where
  by-ticket : (b : Bool) (d : ℕ) (u : Update) (step : ProcessStep) → (is_get op.act ≡ true → ⊥) → ChangesNothing op (ticketed b d u step).answer
      → (ticketed b d u step).step ≡ quiet p
  by-ticket true d u step change (inl refused) = absurd (cc (sym (issues u.outcome), refused))
  by-ticket true d u step change (inr get) = absurd (change get)
  by-ticket false d u step change nothing = absurd nothing

  by-block : (b : ℕ) (o : Option Oldest) → ChangesNothing op (retry_block s b o p).answer → (retry_block s b o p).step ≡ quiet p
  by-block b None nothing = absurd nothing
  by-block b (Some o) nothing = refl

  by-decision : (d : ℕ) (h : Head) (decision : Decision) → (is_get op.act ≡ true → IsNoIssue decision)
      → ChangesNothing op (act_on s name op d h p decision).answer
      → (act_on s name op d h p decision).step ≡ quiet p
  by-decision d h (decides.Answer r) none nothing = refl
  by-decision d h (decides.Retry n) none nothing = refl
  by-decision d h decides.NoSpace none nothing = refl
  by-decision d h (decides.NeedBlock b) none nothing = by-block b (oldest_inherited p (range_with_len 0 s.k)) nothing
  by-decision d h (decides.Issue body outcome) none nothing = by-ticket _ d _ _ none nothing

  by-head : (d : ℕ) (o : Option Head) → ChangesNothing op (ask_head s name op d p o).answer → (ask_head s name op d p o).step ≡ quiet p
  by-head d None nothing = refl
  by-head d (Some h) nothing = by-decision d h _ (λ get. get-issues-none (space_of s) (replica_of p d) op (found_at s d p p.name) get h.inherited) nothing

  pub unmade-quiet : ChangesNothing op (ask_process s name op p).answer → (ask_process s name op p).step ≡ quiet p
  unmade-quiet nothing = by-head (home_of (key_of op.act) s.k) (head_at p (home_of (key_of op.act) s.k)) nothing

-- nor does its node
pub unmade-stays : (s t : Dimensions) (name : CallName) (op : Asked) (old new : whole.Standing)
    (own roomy after : List (Link Message)) (known : Membership) (step : code.CallStep)
    (dead down : Bool) → t ≡ s → length own ≡ s.k + s.m → ask_process t name op old.process ≡ called new.process step → ChangesNothing op step.answer
    → messages roomy ≡ messages own → messages after ≡ links_after s known step.sent.items (messages roomy)
    → node_standing s new after dead down ≡ node_standing s old own dead down
unmade-stays s t name op old new own roomy after known step dead down same long is nothing room behind =
    quiet-stays s t name op old new own roomy after known step dead down same long is
    (unmade-quiet t name op old.process (subst (λ (c : CallStep). ChangesNothing op c.answer) (sym is) nothing)) room behind
