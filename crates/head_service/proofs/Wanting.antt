-- Where memory may be wanted for what a head decides.
use Rattle.std.proofs.Common.{ℕ, ℤ, suc, ◌≡◌, ◌<◌, ◌==◌, nat_le, Bool, true, false, List, [], ◌++◌, length, ◌⊎◌, Option}
use Rattle.std.proofs.Common.{Some, None, if◌then◌else◌, refl, sym, ap, subst, ◌∙◌, arith}
use Rattle.std.proofs.lemmas.Grind.{common_steps}
use Rattle.std.proofs.lemmas.List.{append-nil}
use Rattle.group_types.specs.declared.run.Run.{Run}
use Rattle.item_index.specs.declared.slot.Slot.{Slot}
use Rattle.memc_table.specs.Act.{act_value, key_of}
use Rattle.memc_table.specs.Asked.{Asked}
use Rattle.memc_table.specs.Expiry.{is_live, until_of}
use Rattle.memc_table.specs.Numeral.{number_of}
use Rattle.memc_table.specs.Ruling.{HoldsItem, anew, changed, longest_value, lowered, raised, ruling_of}
use Rattle.memc_table.specs.declared.act.Act.{Act}
use Rattle.memc_table.specs.declared.act.Act.TheVariants.{Get, Set, Add, Replace, Cas, Delete, Touch, Append, Prepend, Incr, Decr}
use Rattle.memc_table.specs.declared.holding.Holding.{Holding}
use Rattle.memc_table.specs.declared.reply.Reply.{Reply}
use Rattle.memc_table.specs.declared.reply.Reply.TheVariants as reply
use Rattle.memc_table.specs.declared.ruling.Ruling.{Ruling}
use Rattle.memc_table.specs.declared.ruling.Ruling.TheVariants.{Refused, Accepted}
use Rattle.group_message.specs.declared.update.Outcome.{Outcome}
use Rattle.group_calls.specs.declared.decision.Decision.{Decision}
use Rattle.group_calls.specs.declared.decision.Decision.TheVariants.{Answer, Issue, NeedBlock, NoSpace, Retry}
use Rattle.group_run.specs.Deciding.{Found, decide_accepted, decide_left, decide_placed, decide_ruled, decide_waiting}
use Rattle.group_run.specs.Deciding.{held_as, is_get, is_touch, outcome_of, ruling_with, run_needed, waits_for, window}
use Rattle.group_run.specs.Free.{place_for}
use Rattle.group_run.specs.Replica.{Replica, last_of, number_on, slot_in}
use Rattle.head_service.specs.Wanting.{IssuesUpdate, MayReadItem, MayWant, ReadsItem, TakesMemory}
use Rattle.head_service.proofs.Blind.{unread-decided}

pub issued-takes : (d : Decision) → IssuesUpdate d → TakesMemory d
issued-takes (Issue body outcome) issued = tt
issued-takes (Answer reply) issued = absurd issued
issued-takes (Retry n) issued = absurd issued
issued-takes NoSpace issued = absurd issued
issued-takes (NeedBlock b) issued = absurd issued

-- a ruling accepts an op, and leaves an item whose value is as long as the one that the op brings
pub record LeavesBrought (act : Act) (ruling : Ruling) : Type 0 where
  pub reply : Reply
  pub leaves : Holding
  pub accepted : ruling ≡ Accepted reply (Some leaves)
  pub long : length leaves.item.value ≡ length (act_value act)

module _ (t n : ℕ) where
  anew-brought : (act : Act) (flags : ℕ) (expiry : ℤ) (value : List ℕ) → length value ≡ length (act_value act) → LeavesBrought act (anew t n flags expiry value)
  anew-brought act flags expiry value is = record {
    reply = reply.Stored;
    leaves = record { item = record { flags = flags; cas = n; value = value }; until = until_of expiry t };
    accepted = refl;
    long = is;
  }

  absent-brought : (act : Act) → is_get act ≡ false → HoldsItem (ruling_of t n act None) → LeavesBrought act (ruling_of t n act None)
  absent-brought (Get key) other holds = absurd (cc other)
  absent-brought (Set key flags expiry value) other holds = anew-brought (Set key flags expiry value) flags expiry value refl
  absent-brought (Add key flags expiry value) other holds = anew-brought (Add key flags expiry value) flags expiry value refl
  absent-brought (Replace key flags expiry value) other holds = absurd holds
  absent-brought (Cas key flags expiry cas value) other holds = absurd holds
  absent-brought (Delete key) other holds = absurd holds
  absent-brought (Touch key expiry) other holds = absurd holds
  absent-brought (Append key value) other holds = absurd holds
  absent-brought (Prepend key value) other holds = absurd holds
  absent-brought (Incr key by) other holds = absurd holds
  absent-brought (Decr key by) other holds = absurd holds

  module _ (h : Holding) (empty : h.item.value ≡ []) where
    swapped-brought : (act : Act) (flags : ℕ) (expiry : ℤ) (value : List ℕ) → length value ≡ length (act_value act) → (same : Bool)
        → HoldsItem (if same then anew t n flags expiry value else Refused reply.Exists)
        → LeavesBrought act (if same then anew t n flags expiry value else Refused reply.Exists)
    swapped-brought act flags expiry value is true holds = anew-brought act flags expiry value is
    swapped-brought act flags expiry value is false holds = absurd holds

    joined-brought : (act : Act) (value : List ℕ) → length value ≡ length (act_value act) → (fits : Bool)
        → HoldsItem (if fits then Accepted reply.Stored (changed n h value) else Refused reply.TooLarge)
        → LeavesBrought act (if fits then Accepted reply.Stored (changed n h value) else Refused reply.TooLarge)
    joined-brought act value is true holds = record {
      reply = reply.Stored;
      leaves = record { item = record { flags = h.item.flags; cas = n; value = value }; until = h.until };
      accepted = refl;
      long = is;
    }
    joined-brought act value is false holds = absurd holds

    present-brought : (act : Act) → is_get act ≡ false → HoldsItem (ruling_of t n act (Some h)) → LeavesBrought act (ruling_of t n act (Some h))
    present-brought (Get key) other holds = absurd (cc other)
    present-brought (Set key flags expiry value) other holds = anew-brought (Set key flags expiry value) flags expiry value refl
    present-brought (Add key flags expiry value) other holds = absurd holds
    present-brought (Replace key flags expiry value) other holds = anew-brought (Replace key flags expiry value) flags expiry value refl
    present-brought (Cas key flags expiry cas value) other holds = swapped-brought (Cas key flags expiry cas value)
        flags expiry value refl (h.item.cas == cas) holds
    present-brought (Delete key) other holds = absurd holds
    present-brought (Touch key expiry) other holds = record {
      reply = reply.Touched;
      leaves = record { item = h.item; until = until_of expiry t };
      accepted = refl;
      long = ap length empty;
    }
    present-brought (Append key value) other holds =
        joined-brought (Append key value) (h.item.value ++ value) (ap (λ (own : List ℕ). length (own ++ value)) empty)
        (nat_le (length (h.item.value ++ value)) longest_value) holds
    present-brought (Prepend key value) other holds =
        joined-brought (Prepend key value) (value ++ h.item.value) (ap (λ (own : List ℕ). length (value ++ own)) empty ∙ ap length (append-nil value))
        (nat_le (length (value ++ h.item.value)) longest_value) holds
    present-brought (Incr key by) other holds = absurd (subst (λ (own : List ℕ). HoldsItem (raised n h by (number_of own))) empty holds)
    present-brought (Decr key by) other holds = absurd (subst (λ (own : List ℕ). HoldsItem (lowered n h by (number_of own))) empty holds)

-- an accepted op waits for none of fewer than 256 unfinished updates
waits-few : (r : Replica) (d : Decision) → length r.log < window → d ≡ decide_accepted (nat_le window (length r.log)) r d
waits-few r d few =
    let room : nat_le window (length r.log) ≡ false = grind (arith, common_steps) in
    ap (λ (full : Bool). decide_accepted full r d) (sym room)

-- what holds of a value's place holds of the op, where fewer updates wait
pub put-placed : (space : ℕ) (r : Replica) (act : Act) (read : Run → Found) (outcome : Outcome) (h : Holding) (len : ℕ) (P : Decision → Type 0)
    → length r.log < window → is_touch act ≡ false → len ≡ length (act_value act) → length h.item.value ≡ length (act_value act)
    → P (decide_placed read outcome h (place_for space r len))
    → P (decide_accepted (nat_le window (length r.log)) r (decide_left space r read outcome (is_touch act) (Some h)))
put-placed space r act read outcome h len P few other long brought = subst P
    (ap (λ (n : ℕ). decide_placed read outcome h (place_for space r n)) (long ∙ sym brought)
    ∙ ap (λ (touch : Bool). decide_left space r read outcome touch (Some h)) (sym other)
    ∙ waits-few r (decide_left space r read outcome (is_touch act) (Some h)) few)

module _ (space : ℕ) (r : Replica) (op : Asked) (read : Run → Found) (slot : Option Slot) where
  abbrev unread : Ruling
  unread = ruling_with r op slot []

  pub brought : is_get op.act ≡ false → HoldsItem (ruling_with r op slot []) → LeavesBrought op.act (ruling_with r op slot [])
  brought other = by slot where
    live : (x : Slot) (b : Bool) → HoldsItem (ruling_of op.moment (suc (last_of r)) op.act (if b then Some (held_as x []) else None))
        → LeavesBrought op.act (ruling_of op.moment (suc (last_of r)) op.act (if b then Some (held_as x []) else None))
    live x true = present-brought op.moment (suc (last_of r)) (held_as x []) refl op.act other
    live x false = absent-brought op.moment (suc (last_of r)) op.act other

    by : (o : Option Slot) → HoldsItem (ruling_with r op o []) → LeavesBrought op.act (ruling_with r op o [])
    by None = absent-brought op.moment (suc (last_of r)) op.act other
    by (Some x) = live x (is_live op.moment x.until)

  module _ (none : run_needed op slot ≡ None) where
    -- what an accepted op that needs no byte comes to
    put-same : (left : LeavesBrought op.act unread)
        → decide_accepted (nat_le window (length r.log)) r (decide_left space r read (outcome_of left.reply) (is_touch op.act) (Some left.leaves))
        ≡ decide_waiting space r op read slot None
    put-same left = ap (decide_ruled space r op read) (sym left.accepted) ∙ unread-decided space r op read slot unread none refl

    -- so what holds of it, whatever it leaves of that length, holds of the decision
    pub put-told : (P : Decision → Type 0) → is_get op.act ≡ false → HoldsItem unread
        → ((outcome : Outcome) (h : Holding) → length h.item.value ≡ length (act_value op.act)
        → P (decide_accepted (nat_le window (length r.log)) r (decide_left space r read outcome (is_touch op.act) (Some h))))
        → P (decide_waiting space r op read slot None)
    put-told P other holds told =
        let left = brought other holds in
        subst P (put-same left) (told (outcome_of left.reply) left.leaves left.long)

-- where no update stands in the way
pub wants-waiting : (space inherited : ℕ) (r : Replica) (op : Asked) (read : Run → Found) → waits_for inherited op.act (number_on r.log (key_of op.act)) ≡ None
    → ReadsItem r op (slot_in r.items (key_of op.act)) read ⊎ TakesMemory (decide_waiting space r op read (slot_in r.items (key_of op.act)) None)
    → MayWant space inherited r op read
wants-waiting space inherited r op read none = subst (λ (waits : Option ℕ).
    ReadsItem r op (slot_in r.items (key_of op.act)) read ⊎ TakesMemory (decide_waiting space r op read (slot_in r.items (key_of op.act)) None)
    → MayReadItem r op (slot_in r.items (key_of op.act)) read waits
    ⊎ TakesMemory (decide_waiting space r op read (slot_in r.items (key_of op.act)) waits)) (sym none) (λ x. x)
