-- What the table makes of an op on an item whose bytes a head doesn't read.
use Rattle.std.proofs.Common.{ℕ, suc, ◌≡◌, ◌+◌, ◌≤◌, nat_lt, Bool, true, false, ◌&&◌, List, length, Option, Some, None}
use Rattle.std.proofs.Common.{if◌then◌else◌, refl, sym, ap, ◌∙◌, arith}
use Rattle.std.proofs.lemmas.Grind.{common_steps}
use Rattle.std.proofs.lemmas.List.{length-replicate}
use Rattle.erasure_code.specs.Spaces.{bytes_at}
use Rattle.item_index.specs.declared.slot.Slot.{Slot}
use Rattle.memc_table.specs.Act.{key_of}
use Rattle.memc_table.specs.Asked.{Asked}
use Rattle.memc_table.specs.Expiry.{is_live, live_at}
use Rattle.memc_table.specs.Ruling.{ruling_of}
use Rattle.memc_table.specs.declared.reply.Reply.{Reply}
use Rattle.memc_table.specs.declared.ruling.Ruling.{Ruling}
use Rattle.memc_table.specs.declared.ruling.Ruling.TheVariants.{Refused}
use Rattle.group_run.specs.Deciding.{blind_reply, held_as, is_blind, is_touch, reads_bytes, unseen}
use Rattle.group_run.specs.Replica.{Replica, last_of, slot_in}
use Rattle.law_updates.specs.Right.{ruling_in}
use Rattle.law_updates.specs.Store.{Store, held_in}
use Rattle.law_updates.proofs.Blind.{Alike, alike-same, blind-held, blind-refused, same-empty, unread-alike}
use Rattle.law_updates.proofs.Spaces.{length-bytes_at}

module _ (r : Replica) (store : Store) (op : Asked) where
  -- what the table makes of the op
  abbrev pub real : Ruling
  real = ruling_in store (suc (last_of r)) op

  -- the ruling on an item with these bytes
  abbrev pub ruling_on : Slot → List ℕ → Ruling
  ruling_on slot bytes = ruling_of op.moment (suc (last_of r)) op.act (live_at op.moment (Some (held_as slot bytes)))

  pub real-on : (slot : Slot) → slot_in store.items (key_of op.act) ≡ Some slot → real ≡ ruling_on slot (bytes_at slot.at slot.len store.space)
  real-on slot is = ap (λ (x : Option Slot). ruling_of op.moment (suc (last_of r)) op.act (live_at op.moment (held_in store.space x))) is

  module _ (slot : Slot) (is : slot_in store.items (key_of op.act) ≡ Some slot) (within : slot.at + slot.len ≤ length store.space) where
    abbrev pub own : List ℕ
    own = bytes_at slot.at slot.len store.space

    own-long : length own ≡ slot.len
    own-long = length-bytes_at slot.at slot.len store.space within

    zeros-long : length (unseen (Some slot)) ≡ slot.len
    zeros-long = length-replicate slot.len 0

    -- a blind reply is the table's
    pub blind-item : (reply : Reply) → blind_reply slot.len (ruling_on slot (unseen (Some slot))) ≡ Some reply → real ≡ Refused reply
    blind-item reply blind =
        let said = blind-refused slot.len (ruling_on slot (unseen (Some slot))) reply blind in
        real-on slot is ∙ by (is_live op.moment slot.until) said.0 said.1 where
          by : (live : Bool)
              → ruling_of op.moment (suc (last_of r)) op.act
              (if live then Some (held_as slot (unseen (Some slot))) else None) ≡ Refused reply
              → is_blind slot.len reply ≡ true
              → ruling_of op.moment (suc (last_of r)) op.act (if live then Some (held_as slot own) else None) ≡ Refused reply
          by true zeros blind = blind-held slot (unseen (Some slot)) own zeros-long own-long op.moment (suc (last_of r)) op.act reply zeros blind
          by false zeros blind = zeros

    -- and the table's refusal, where it is blind, is one on any bytes
    pub item-blind : (reply : Reply) → real ≡ Refused reply → is_blind slot.len reply ≡ true → ruling_on slot (unseen (Some slot)) ≡ Refused reply
    item-blind reply refused blind = by (is_live op.moment slot.until) (sym (real-on slot is) ∙ refused) where
      by : (live : Bool) → ruling_of op.moment (suc (last_of r)) op.act (if live then Some (held_as slot own) else None) ≡ Refused reply
          → ruling_of op.moment (suc (last_of r)) op.act (if live then Some (held_as slot (unseen (Some slot))) else None) ≡ Refused reply
      by true there = blind-held slot own (unseen (Some slot)) own-long zeros-long op.moment (suc (last_of r)) op.act reply there blind
      by false there = there

    -- where no byte is needed, the ruling is alike
    pub unneeded : (reads_it live : Bool) → reads_bytes op.act ≡ reads_it → (reads_it && live && nat_lt 0 slot.len) ≡ false
        → Alike (is_touch op.act) (ruling_of op.moment (suc (last_of r)) op.act (if live then Some (held_as slot (unseen (Some slot))) else None))
        (ruling_of op.moment (suc (last_of r)) op.act (if live then Some (held_as slot own) else None))
    unneeded reads_it false reading none = alike-same (is_touch op.act) (ruling_of op.moment (suc (last_of r)) op.act None) _ refl
    unneeded false true reading none = unread-alike op.moment (suc (last_of r)) op.act slot (unseen (Some slot)) own reading
    unneeded true true reading none =
        let empty : slot.len ≡ 0 = grind (arith, common_steps) in
        alike-same (is_touch op.act) (ruling_of op.moment (suc (last_of r)) op.act (Some (held_as slot (unseen (Some slot))))) _
        (ap (λ (bytes : List ℕ). ruling_of op.moment (suc (last_of r)) op.act (Some (held_as slot bytes)))
        (same-empty slot (unseen (Some slot)) own zeros-long own-long empty))
