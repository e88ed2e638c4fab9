-- What the table's rulings have in common: which replies accept, what an accepted op leaves, and how little
-- a ruling depends on the number of the update and on the bytes of the item.
use Rattle.std.proofs.Common.{ℕ, zero, suc, ◌≡◌, ◌+◌, ◌-◌, ◌%◌, ◌/◌, ◌^◌, ◌<◌, ◌≤◌, ◌==◌, nat_le, nat_lt, Bool, true}
use Rattle.std.proofs.Common.{false, List, [], ◌∷◌, ◌++◌, length, get_or, ◌⊎◌, inl, inr, Option, Some, None}
use Rattle.std.proofs.Common.{if◌then◌else◌, refl, sym, ap, subst, arith}
use Rattle.std.specs.Fmt.{decimal, digits, digits_onto, digit_glyph}
use Rattle.std.proofs.lemmas.Bool.{cases_lt}
use Rattle.std.proofs.lemmas.List.{get_or_append_left, get_or-append_right}
use Rattle.field_byte.proofs.Vectors.{AreBytes}
use Rattle.memc_table.specs.Act.{act_value}
use Rattle.memc_table.specs.Numeral.{number_of}
use Rattle.memc_table.specs.Ruling.{anew, changed, joined, longest_value, lowered, raised, ruling_of}
use Rattle.memc_table.specs.declared.act.Act.{Act}
use Rattle.memc_table.specs.declared.act.Act.TheVariants.{Get, Set, Add, Replace, Cas, Delete, Touch, Append, Prepend, Incr, Decr}
use Rattle.memc_table.specs.declared.holding.Holding.{Holding}
use Rattle.memc_table.specs.declared.reply.Reply.{Reply}
use Rattle.memc_table.specs.declared.reply.Reply.TheVariants as reply
use Rattle.memc_table.specs.declared.ruling.Ruling.{Ruling}
use Rattle.memc_table.specs.declared.ruling.Ruling.TheVariants.{Refused, Accepted}
use Rattle.group_calls.specs.Turns.{accepts}
use Rattle.group_run.specs.Asking.{reply_from}
use Rattle.group_run.specs.Deciding.{is_get, is_touch, outcome_of}

-- what an accepted op leaves: a touch keeps the item, and what else is stored has the update's number
abbrev pub LeavesWell : ℕ → Bool → Option Holding → Option Holding → Type 0
LeavesWell n touch live None = Unit {0}
LeavesWell n true live (Some h) = (old : Holding) × (live ≡ Some old) × (h.item ≡ old.item)
LeavesWell n false live (Some h) = h.item.cas ≡ n

abbrev pub RulesWell : ℕ → Act → Option Holding → Ruling → Type 0
RulesWell n act live (Refused r) = accepts r ≡ false
RulesWell n act live (Accepted r leaves) = (accepts r ≡ true) × (reply_from (outcome_of r) ≡ r) × (is_get act ≡ false) × LeavesWell n (is_touch act) live leaves

pub rules-well : (t n : ℕ) (act : Act) (live : Option Holding) → RulesWell n act live (ruling_of t n act live)
rules-well t n (Get key) None = refl
rules-well t n (Get key) (Some h) = refl
rules-well t n (Set key flags expiry value) live = (refl, refl, refl, refl)
rules-well t n (Add key flags expiry value) None = (refl, refl, refl, refl)
rules-well t n (Add key flags expiry value) (Some h) = refl
rules-well t n (Replace key flags expiry value) None = refl
rules-well t n (Replace key flags expiry value) (Some h) = (refl, refl, refl, refl)
rules-well t n (Cas key flags expiry cas value) None = refl
rules-well t n (Cas key flags expiry cas value) (Some h) = by (h.item.cas == cas) where
  by : (b : Bool) → RulesWell n (Cas key flags expiry cas value) (Some h) (if b then anew t n flags expiry value else Refused reply.Exists)
  by true = (refl, refl, refl, refl)
  by false = refl
rules-well t n (Delete key) None = refl
rules-well t n (Delete key) (Some h) = (refl, refl, refl, tt)
rules-well t n (Touch key expiry) None = refl
rules-well t n (Touch key expiry) (Some h) = (refl, refl, refl, (h, refl, refl))
rules-well t n (Append key value) None = refl
rules-well t n (Append key value) (Some h) = by (nat_le (length (h.item.value ++ value)) longest_value) where
  by : (b : Bool) → RulesWell n (Append key value) (Some h) (if b then Accepted reply.Stored (changed n h (h.item.value ++ value)) else Refused reply.TooLarge)
  by true = (refl, refl, refl, refl)
  by false = refl
rules-well t n (Prepend key value) None = refl
rules-well t n (Prepend key value) (Some h) = by (nat_le (length (value ++ h.item.value)) longest_value) where
  by : (b : Bool) → RulesWell n (Prepend key value) (Some h) (if b then Accepted reply.Stored (changed n h (value ++ h.item.value)) else Refused reply.TooLarge)
  by true = (refl, refl, refl, refl)
  by false = refl
rules-well t n (Incr key by') None = refl
rules-well t n (Incr key by') (Some h) = by (number_of h.item.value) where
  by : (v : Option ℕ) → RulesWell n (Incr key by') (Some h) (raised n h by' v)
  by None = refl
  by (Some v) = (refl, refl, refl, refl)
rules-well t n (Decr key by') None = refl
rules-well t n (Decr key by') (Some h) = by (number_of h.item.value) where
  by : (v : Option ℕ) → RulesWell n (Decr key by') (Some h) (lowered n h by' v)
  by None = refl
  by (Some v) = (refl, refl, refl, refl)

-- decimal digits are bytes
byte-glyph : (d : ℕ) → d < 10 → digit_glyph false d < 256
byte-glyph d small = by (nat_lt d 10) where
  by : (b : Bool) → (if b then 48 + d else 87 + d) < 256
  by true = omega arith
  by false = omega arith

bytes-cons : (x : ℕ) (xs : List ℕ) → x < 256 → AreBytes xs → AreBytes (x ∷ xs)
bytes-cons x xs here rest zero = here
bytes-cons x xs here rest (suc k) = rest k

bytes-digits : (k n : ℕ) (acc : List ℕ) → AreBytes acc → AreBytes (digits_onto k 10 false n acc)
bytes-digits zero n acc bytes = bytes
bytes-digits (suc k) n acc bytes =
    let here : digit_glyph false (n % 10) < 256 = byte-glyph (n % 10) (omega arith) in
    let more : AreBytes (digit_glyph false (n % 10) ∷ acc) = bytes-cons (digit_glyph false (n % 10)) acc here bytes in
    by (n / 10 == 0) more (bytes-digits k (n / 10) (digit_glyph false (n % 10) ∷ acc) more) where
      by : (b : Bool) → AreBytes (digit_glyph false (n % 10) ∷ acc) → AreBytes (digits_onto k 10 false (n / 10) (digit_glyph false (n % 10) ∷ acc))
          → AreBytes (if b then digit_glyph false (n % 10) ∷ acc else digits_onto k 10 false (n / 10) (digit_glyph false (n % 10) ∷ acc))
      by true done more = done
      by false done more = more

bytes-nil : AreBytes []
bytes-nil k = omega arith

pub bytes-decimal : (n : ℕ) → AreBytes (decimal n)
unfolding digits
bytes-decimal n = bytes-digits 64 n [] bytes-nil

bytes-append : (xs ys : List ℕ) → AreBytes xs → AreBytes ys → AreBytes (xs ++ ys)
bytes-append xs ys left right k = by (cases_lt k (length xs)) where
  by : (k < length xs) ⊎ (length xs ≤ k) → get_or (xs ++ ys) k 0 < 256
  by (inl below) = subst (λ (b : ℕ). b < 256) (sym (get_or_append_left xs ys 0 k below)) (left k)
  by (inr past) = subst (λ (b : ℕ). b < 256) (sym (get_or-append_right xs ys (length xs) k 0 refl past)) (right (k - length xs))

abbrev pub HoldsBytes : Option Holding → Type 0
HoldsBytes None = Unit {0}
HoldsBytes (Some h) = AreBytes h.item.value

abbrev pub LeavesBytes : Ruling → Type 0
LeavesBytes (Refused r) = Unit {0}
LeavesBytes (Accepted r leaves) = HoldsBytes leaves

-- what is left consists of bytes, where the item and the value that is brought do
pub rules-bytes : (t n : ℕ) (act : Act) (live : Option Holding) → AreBytes (act_value act) → HoldsBytes live → LeavesBytes (ruling_of t n act live)
rules-bytes t n (Get key) None brought holds = tt
rules-bytes t n (Get key) (Some h) brought holds = tt
rules-bytes t n (Set key flags expiry value) live brought holds = brought
rules-bytes t n (Add key flags expiry value) None brought holds = brought
rules-bytes t n (Add key flags expiry value) (Some h) brought holds = tt
rules-bytes t n (Replace key flags expiry value) None brought holds = tt
rules-bytes t n (Replace key flags expiry value) (Some h) brought holds = brought
rules-bytes t n (Cas key flags expiry cas value) None brought holds = tt
rules-bytes t n (Cas key flags expiry cas value) (Some h) brought holds = by (h.item.cas == cas) where
  by : (b : Bool) → LeavesBytes (if b then anew t n flags expiry value else Refused reply.Exists)
  by true = brought
  by false = tt
rules-bytes t n (Delete key) None brought holds = tt
rules-bytes t n (Delete key) (Some h) brought holds = tt
rules-bytes t n (Touch key expiry) None brought holds = tt
rules-bytes t n (Touch key expiry) (Some h) brought holds = holds
rules-bytes t n (Append key value) None brought holds = tt
rules-bytes t n (Append key value) (Some h) brought holds = by (nat_le (length (h.item.value ++ value)) longest_value) where
  by : (b : Bool) → LeavesBytes (if b then Accepted reply.Stored (changed n h (h.item.value ++ value)) else Refused reply.TooLarge)
  by true = bytes-append h.item.value value holds brought
  by false = tt
rules-bytes t n (Prepend key value) None brought holds = tt
rules-bytes t n (Prepend key value) (Some h) brought holds = by (nat_le (length (value ++ h.item.value)) longest_value) where
  by : (b : Bool) → LeavesBytes (if b then Accepted reply.Stored (changed n h (value ++ h.item.value)) else Refused reply.TooLarge)
  by true = bytes-append value h.item.value brought holds
  by false = tt
rules-bytes t n (Incr key by') None brought holds = tt
rules-bytes t n (Incr key by') (Some h) brought holds = by (number_of h.item.value) where
  by : (v : Option ℕ) → LeavesBytes (raised n h by' v)
  by None = tt
  by (Some v) = bytes-decimal ((v + by') % 2 ^ 64)
rules-bytes t n (Decr key by') None brought holds = tt
rules-bytes t n (Decr key by') (Some h) brought holds = by (number_of h.item.value) where
  by : (v : Option ℕ) → LeavesBytes (lowered n h by' v)
  by None = tt
  by (Some v) = bytes-decimal (v - by')

-- the reply of a refusal
abbrev pub refusal : Ruling → Option Reply
refusal (Refused r) = Some r
refusal (Accepted r leaves) = None

pub refusal-is : (r : Reply) (ruling : Ruling) → refusal ruling ≡ Some r → ruling ≡ Refused r
refusal-is r (Refused q) is = ap Refused (some is) where
  some : Some q ≡ Some r → q ≡ r
  some e = ap (λ (o : Option Reply). elim o [ None ↦ q | Some x ↦ x ]) e
refusal-is r (Accepted q leaves) is = absurd (cc is)

-- a refusal doesn't depend on the number that the update would have
pub refused-any : (t n m : ℕ) (act : Act) (live : Option Holding) → refusal (ruling_of t n act live) ≡ refusal (ruling_of t m act live)
refused-any t n m (Get key) None = refl
refused-any t n m (Get key) (Some h) = refl
refused-any t n m (Set key flags expiry value) live = refl
refused-any t n m (Add key flags expiry value) None = refl
refused-any t n m (Add key flags expiry value) (Some h) = refl
refused-any t n m (Replace key flags expiry value) None = refl
refused-any t n m (Replace key flags expiry value) (Some h) = refl
refused-any t n m (Cas key flags expiry cas value) None = refl
refused-any t n m (Cas key flags expiry cas value) (Some h) = by (h.item.cas == cas) where
  by : (b : Bool) → refusal (if b then anew t n flags expiry value else Refused reply.Exists)
      ≡ refusal (if b then anew t m flags expiry value else Refused reply.Exists)
  by true = refl
  by false = refl
refused-any t n m (Delete key) None = refl
refused-any t n m (Delete key) (Some h) = refl
refused-any t n m (Touch key expiry) None = refl
refused-any t n m (Touch key expiry) (Some h) = refl
refused-any t n m (Append key value) None = refl
refused-any t n m (Append key value) (Some h) = refused-joined n m h (h.item.value ++ value)
  where
    refused-joined : (n m : ℕ) (h : Holding) (value : List ℕ) → refusal (joined n h value) ≡ refusal (joined m h value)
    refused-joined n m h value = elim (nat_le (length value) longest_value) as
        (λ b. refusal (if b then Accepted reply.Stored (changed n h value) else Refused reply.TooLarge)
        ≡ refusal (if b then Accepted reply.Stored (changed m h value) else Refused reply.TooLarge)) [ true ↦ refl | false ↦ refl ]
refused-any t n m (Prepend key value) None = refl
refused-any t n m (Prepend key value) (Some h) = refused-joined n m h (value ++ h.item.value)
  where
    refused-joined : (n m : ℕ) (h : Holding) (value : List ℕ) → refusal (joined n h value) ≡ refusal (joined m h value)
    refused-joined n m h value = elim (nat_le (length value) longest_value) as
        (λ b. refusal (if b then Accepted reply.Stored (changed n h value) else Refused reply.TooLarge)
        ≡ refusal (if b then Accepted reply.Stored (changed m h value) else Refused reply.TooLarge)) [ true ↦ refl | false ↦ refl ]
refused-any t n m (Incr key by') None = refl
refused-any t n m (Incr key by') (Some h) = by (number_of h.item.value) where
  by : (v : Option ℕ) → refusal (raised n h by' v) ≡ refusal (raised m h by' v)
  by None = refl
  by (Some v) = refl
refused-any t n m (Decr key by') None = refl
refused-any t n m (Decr key by') (Some h) = by (number_of h.item.value) where
  by : (v : Option ℕ) → refusal (lowered n h by' v) ≡ refusal (lowered m h by' v)
  by None = refl
  by (Some v) = refl
