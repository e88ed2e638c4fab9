-- Replies that need no byte of the item, and rulings that differ in bytes alone.
use Rattle.std.proofs.Common.{ℕ, ◌≡◌, ◌≢◌, ◌+◌, ◌-◌, ◌%◌, ◌^◌, ◌<◌, ◌≤◌, ◌==◌, nat_le, nat_lt, Bool, true, false, ◌&&◌}
use Rattle.std.proofs.Common.{◌||◌, List, [], ◌∷◌, ◌++◌, length, ◌⊎◌, inl, inr, Option, Some, None, if◌then◌else◌, refl}
use Rattle.std.proofs.Common.{sym, ap, subst, ◌∙◌, arith}
use Rattle.std.proofs.lemmas.Bool.{cases_lt}
use Rattle.std.proofs.lemmas.Grind.{common_steps}
use Rattle.std.proofs.lemmas.List.{length-append}
use Rattle.item_index.specs.declared.slot.Slot.{Slot}
use Rattle.memc_table.specs.Numeral.{number_of}
use Rattle.memc_table.specs.Numeral as numeral
use Rattle.memc_table.specs.Ruling.{anew, changed, joined, longest_value, lowered, raised, ruling_of, touched}
use Rattle.memc_table.specs.declared.act.Act.{Act}
use Rattle.memc_table.specs.declared.act.Act.TheVariants.{Get, Set, Add, Replace, Cas, Delete, Touch, Append, Prepend, Incr, Decr}
use Rattle.memc_table.specs.declared.holding.Holding.{Holding}
use Rattle.memc_table.specs.declared.reply.Reply.{Reply}
use Rattle.memc_table.specs.declared.reply.Reply.TheVariants as reply
use Rattle.memc_table.specs.declared.ruling.Ruling.{Ruling}
use Rattle.memc_table.specs.declared.ruling.Ruling.TheVariants.{Refused, Accepted}
use Rattle.group_run.specs.Deciding.{blind_reply, held_as, is_blind, is_touch, reads_bytes}

-- two rulings that differ at most in the bytes of the item that a touch leaves
abbrev pub LeavesAlike : Bool → Option Holding → Option Holding → Type 0
LeavesAlike touch None None = Unit {0}
LeavesAlike true (Some h) (Some k) = h.until ≡ k.until
LeavesAlike false (Some h) (Some k) = h ≡ k
LeavesAlike touch None (Some k) = ⊥
LeavesAlike touch (Some h) None = ⊥

abbrev pub Alike : Bool → Ruling → Ruling → Type 0
Alike touch (Refused a) (Refused b) = a ≡ b
Alike touch (Accepted a l) (Accepted b m) = (a ≡ b) × LeavesAlike touch l m
Alike touch (Refused a) (Accepted b m) = ⊥
Alike touch (Accepted a l) (Refused b) = ⊥

leaves-refl : (touch : Bool) (l : Option Holding) → LeavesAlike touch l l
leaves-refl touch None = tt
leaves-refl true (Some h) = refl
leaves-refl false (Some h) = refl

alike-refl : (touch : Bool) (a : Ruling) → Alike touch a a
alike-refl touch (Refused a) = refl
alike-refl touch (Accepted a l) = (refl, leaves-refl touch l)

pub alike-same : (touch : Bool) (a b : Ruling) → a ≡ b → Alike touch a b
alike-same touch a b same = subst (λ (r : Ruling). Alike touch a r) same (alike-refl touch a)

-- an op that reads no byte is ruled alike on any two items of other bytes
pub unread-alike : (t n : ℕ) (act : Act) (slot : Slot) (bytes others : List ℕ) → reads_bytes act ≡ false
    → Alike (is_touch act) (ruling_of t n act (Some (held_as slot bytes))) (ruling_of t n act (Some (held_as slot others)))
unread-alike t n (Get key) slot bytes others unread = absurd (cc unread)
unread-alike t n (Set key flags expiry value) slot bytes others unread = alike-refl false (anew t n flags expiry value)
unread-alike t n (Add key flags expiry value) slot bytes others unread = refl
unread-alike t n (Replace key flags expiry value) slot bytes others unread = alike-refl false (anew t n flags expiry value)
unread-alike t n (Cas key flags expiry cas value) slot bytes others unread =
    alike-refl false (if slot.cas == cas then anew t n flags expiry value else Refused reply.Exists)
unread-alike t n (Delete key) slot bytes others unread = (refl, tt)
unread-alike t n (Touch key expiry) slot bytes others unread = (refl, refl)
unread-alike t n (Append key value) slot bytes others unread = absurd (cc unread)
unread-alike t n (Prepend key value) slot bytes others unread = absurd (cc unread)
unread-alike t n (Incr key by) slot bytes others unread = absurd (cc unread)
unread-alike t n (Decr key by) slot bytes others unread = absurd (cc unread)

-- what a blind reply says
blind-of : (len : ℕ) (q r : Reply) (b : Bool) → is_blind len q ≡ b → (if b then Some q else None) ≡ Some r → (Refused q ≡ Refused r) × (is_blind len r ≡ true)
blind-of len q r true blind is =
    let same : q ≡ r = ap (λ (o : Option Reply). elim o [ None ↦ q | Some x ↦ x ]) is in
    (ap Refused same, subst (λ (x : Reply). is_blind len x ≡ true) same blind)
blind-of len q r false blind is = absurd (cc is)

pub blind-refused : (len : ℕ) (ruling : Ruling) (r : Reply) → blind_reply len ruling ≡ Some r → (ruling ≡ Refused r) × (is_blind len r ≡ true)
blind-refused len (Refused q) r is = blind-of len q r (is_blind len q) refl is
blind-refused len (Accepted q leaves) r is = absurd (cc is)

-- no number of digits stands for nothing, nor for more than 20
few-digits : (bytes : List ℕ) → (length bytes == 0 || nat_lt 20 (length bytes)) ≡ true → number_of bytes ≡ None
few-digits bytes blind = let none : (nat_le 1 (length bytes) && nat_le (length bytes) 20) ≡ false = grind (arith, common_steps) in
    ap (λ (b : Bool). if b then numeral.numeral_value bytes else None) none

-- the same refusal on any other item as long, where it is blind
abbrev pub Blindly : ℕ → Ruling → Ruling → Type 0
Blindly len a b = (r : Reply) → a ≡ Refused r → is_blind len r ≡ true → b ≡ Refused r

reply-of : Reply → Ruling → Reply
reply-of d (Refused r) = r
reply-of d (Accepted r leaves) = r

is-accepted : Ruling → Bool
is-accepted (Refused r) = false
is-accepted (Accepted r leaves) = true

blind-accepted : (len : ℕ) (q : Reply) (leaves : Option Holding) (b : Ruling) → Blindly len (Accepted q leaves) b
unfolding is-accepted
blind-accepted len q leaves b r is blind = let e : true ≡ false = ap is-accepted is in absurd (cc e)

-- a value is a blind reply only where it has no byte
blind-value : (len : ℕ) (h : Holding) (b : Ruling) → len ≢ 0 → Blindly len (Refused (reply.Value h.item)) b
unfolding reply-of
blind-value len h b some r is blind =
    let same : reply.Value h.item ≡ r = ap (reply-of r) is in
    let none : (len == 0) ≡ true = subst (λ (x : Reply). is_blind len x ≡ true) (sym same) blind in
    absurd (some (grind (arith, common_steps)))

-- append and prepend judge the length alone
blind-joined : (len n : ℕ) (h k : Holding) (value other : List ℕ) → length value ≡ length other → Blindly len (joined n h value) (joined n k other)
blind-joined len n h k value other long r is blind =
    by (nat_le (length value) longest_value) (nat_le (length other) longest_value) (ap (λ (l : ℕ). nat_le l longest_value) long) is where
      by : (b c : Bool) → b ≡ c → (if b then Accepted reply.Stored (changed n h value) else Refused reply.TooLarge) ≡ Refused r
          → (if c then Accepted reply.Stored (changed n k other) else Refused reply.TooLarge) ≡ Refused r
      by true c same is = blind-accepted len reply.Stored (changed n h value) _ r is blind
      by false true same is = absurd (cc same)
      by false false same is = is

module _ (slot : Slot) (bytes others : List ℕ) (long : length bytes ≡ slot.len) (as_long : length others ≡ slot.len) where
  blind-number : (r : Reply) → reply.NotNumber ≡ r → is_blind slot.len r ≡ true → number_of others ≡ None
  blind-number r same blind =
      let few : (slot.len == 0 || nat_lt 20 slot.len) ≡ true = subst (λ (x : Reply). is_blind slot.len x ≡ true) (sym same) blind in
      few-digits others (subst (λ (l : ℕ). (l == 0 || nat_lt 20 l) ≡ true) (sym as_long) few)

  blind-raised : (n by : ℕ) (h k : Holding) (v : Option ℕ) → Blindly slot.len (raised n h by v) (raised n k by (number_of others))
  unfolding reply-of
  blind-raised n by h k None r is blind = let same : reply.NotNumber ≡ r = ap (reply-of r) is in
      ap (raised n k by) (blind-number r same blind) ∙ ap Refused same
  blind-raised n by h k (Some v) r is blind = blind-accepted slot.len (reply.Number ((v + by) % 2 ^ 64)) _ (raised n k by (number_of others)) r is blind

  blind-lowered : (n by : ℕ) (h k : Holding) (v : Option ℕ) → Blindly slot.len (lowered n h by v) (lowered n k by (number_of others))
  unfolding reply-of
  blind-lowered n by h k None r is blind = let same : reply.NotNumber ≡ r = ap (reply-of r) is in
      ap (lowered n k by) (blind-number r same blind) ∙ ap Refused same
  blind-lowered n by h k (Some v) r is blind = blind-accepted slot.len (reply.Number (v - by)) _ (lowered n k by (number_of others)) r is blind

  both-long : (value : List ℕ) → length (bytes ++ value) ≡ length (others ++ value)
  both-long value = omega (arith, length-append bytes value, length-append others value, long, as_long)

  also-long : (value : List ℕ) → length (value ++ bytes) ≡ length (value ++ others)
  also-long value = omega (arith, length-append value bytes, length-append value others, long, as_long)

  blind-some : (t n : ℕ) (act : Act) → slot.len ≢ 0 → Blindly slot.len (ruling_of t n act (Some (held_as slot bytes)))
      (ruling_of t n act (Some (held_as slot others)))
  blind-some t n (Get key) some = blind-value slot.len (held_as slot bytes) (Refused (reply.Value (held_as slot others).item)) some
  blind-some t n (Set key flags expiry value) some = λ r is blind. is
  blind-some t n (Add key flags expiry value) some = λ r is blind. is
  blind-some t n (Replace key flags expiry value) some = λ r is blind. is
  blind-some t n (Cas key flags expiry cas value) some = λ r is blind. is
  blind-some t n (Delete key) some = λ r is blind. is
  blind-some t n (Touch key expiry) some = blind-accepted slot.len reply.Touched _ (touched t (held_as slot others) expiry)
  blind-some t n (Append key value) some = blind-joined slot.len n (held_as slot bytes) (held_as slot others)
      (bytes ++ value) (others ++ value) (both-long value)
  blind-some t n (Prepend key value) some = blind-joined slot.len n (held_as slot bytes) (held_as slot others)
      (value ++ bytes) (value ++ others) (also-long value)
  blind-some t n (Incr key by) some = blind-raised n by (held_as slot bytes) (held_as slot others) (number_of bytes)
  blind-some t n (Decr key by) some = blind-lowered n by (held_as slot bytes) (held_as slot others) (number_of bytes)

  -- where there is no byte, the items are one
  pub same-empty : slot.len ≡ 0 → bytes ≡ others
  same-empty none = empty bytes others (omega (arith, long)) (omega (arith, as_long)) where
    empty : (xs ys : List ℕ) → length xs ≡ 0 → length ys ≡ 0 → xs ≡ ys
    empty [] [] a b = refl
    empty [] (y ∷ ys) a b = absurd (omega arith)
    empty (x ∷ xs) ys a b = absurd (omega arith)

  pub blind-held : (t n : ℕ) (act : Act) → Blindly slot.len (ruling_of t n act (Some (held_as slot bytes))) (ruling_of t n act (Some (held_as slot others)))
  blind-held t n act = by (cases_lt 0 slot.len) where
    by : (0 < slot.len) ⊎ (slot.len ≤ 0) → Blindly slot.len (ruling_of t n act (Some (held_as slot bytes))) (ruling_of t n act (Some (held_as slot others)))
    by (inl some) = blind-some t n act (λ (none : slot.len ≡ 0). omega arith)
    by (inr none) = λ r is blind. ap (λ (xs : List ℕ). ruling_of t n act (Some (held_as slot xs))) (sym (same-empty (omega arith))) ∙ is
