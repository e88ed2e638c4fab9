-- The number of an update doesn't change the reply to an op, nor the value that the op leaves.
use Rattle.std.proofs.Common.{ℕ, ◌≡◌, nat_le, ◌==◌, Bool, true, false, ◌++◌, length, Option, Some, None, if◌then◌else◌, refl, sym, ap, subst, ◌∙◌}
use Rattle.memc_table.specs.Numeral.{number_of}
use Rattle.memc_table.specs.Ruling.{anew, changed, longest_value, lowered, raised, ruling_of}
use Rattle.memc_table.specs.declared.act.Act.{Act}
use Rattle.memc_table.specs.declared.act.Act.TheVariants.{Get, Set, Add, Replace, Cas, Delete, Touch, Append, Prepend, Incr, Decr}
use Rattle.memc_table.specs.declared.holding.Holding.{Holding}
use Rattle.memc_table.specs.declared.reply.Reply.{Reply}
use Rattle.memc_table.specs.declared.reply.Reply.TheVariants as reply
use Rattle.memc_table.specs.declared.ruling.Ruling.{Ruling}
use Rattle.memc_table.specs.declared.ruling.Ruling.TheVariants.{Refused, Accepted}

-- two items with one value
abbrev pub SameValue : Option Holding → Option Holding → Type 0
SameValue None None = Unit {0}
SameValue (Some h) (Some k) = h.item.value ≡ k.item.value
SameValue None (Some k) = ⊥
SameValue (Some h) None = ⊥

-- two rulings with one reply, that leave one value
abbrev pub SameButNumber : Ruling → Ruling → Type 0
SameButNumber (Refused a) (Refused b) = a ≡ b
SameButNumber (Accepted a l) (Accepted b m) = (a ≡ b) × SameValue l m
SameButNumber (Refused a) (Accepted b m) = ⊥
SameButNumber (Accepted a l) (Refused b) = ⊥

pub numbers-alike : (t n m : ℕ) (act : Act) (live : Option Holding) → SameButNumber (ruling_of t n act live) (ruling_of t m act live)
numbers-alike t n m (Get key) None = refl
numbers-alike t n m (Get key) (Some h) = refl
numbers-alike t n m (Set key flags expiry value) live = (refl, refl)
numbers-alike t n m (Add key flags expiry value) None = (refl, refl)
numbers-alike t n m (Add key flags expiry value) (Some h) = refl
numbers-alike t n m (Replace key flags expiry value) None = refl
numbers-alike t n m (Replace key flags expiry value) (Some h) = (refl, refl)
numbers-alike t n m (Cas key flags expiry cas value) None = refl
numbers-alike t n m (Cas key flags expiry cas value) (Some h) = by (h.item.cas == cas) where
  by : (b : Bool) → SameButNumber (if b then anew t n flags expiry value else Refused reply.Exists)
      (if b then anew t m flags expiry value else Refused reply.Exists)
  by true = (refl, refl)
  by false = refl
numbers-alike t n m (Delete key) None = refl
numbers-alike t n m (Delete key) (Some h) = (refl, tt)
numbers-alike t n m (Touch key expiry) None = refl
numbers-alike t n m (Touch key expiry) (Some h) = (refl, refl)
numbers-alike t n m (Append key value) None = refl
numbers-alike t n m (Append key value) (Some h) = by (nat_le (length (h.item.value ++ value)) longest_value) where
  by : (b : Bool)
      → SameButNumber (if b then Accepted reply.Stored (changed n h (h.item.value ++ value)) else Refused reply.TooLarge)
      (if b then Accepted reply.Stored (changed m h (h.item.value ++ value)) else Refused reply.TooLarge)
  by true = (refl, refl)
  by false = refl
numbers-alike t n m (Prepend key value) None = refl
numbers-alike t n m (Prepend key value) (Some h) = by (nat_le (length (value ++ h.item.value)) longest_value) where
  by : (b : Bool)
      → SameButNumber (if b then Accepted reply.Stored (changed n h (value ++ h.item.value)) else Refused reply.TooLarge)
      (if b then Accepted reply.Stored (changed m h (value ++ h.item.value)) else Refused reply.TooLarge)
  by true = (refl, refl)
  by false = refl
numbers-alike t n m (Incr key more) None = refl
numbers-alike t n m (Incr key more) (Some h) = by (number_of h.item.value) where
  by : (v : Option ℕ) → SameButNumber (raised n h more v) (raised m h more v)
  by None = refl
  by (Some v) = (refl, refl)
numbers-alike t n m (Decr key less) None = refl
numbers-alike t n m (Decr key less) (Some h) = by (number_of h.item.value) where
  by : (v : Option ℕ) → SameButNumber (lowered n h less v) (lowered m h less v)
  by None = refl
  by (Some v) = (refl, refl)

-- a ruling that accepts, by another number
pub accepted-alike : (a b : Ruling) (reply : Reply) (leaves : Option Holding) → SameButNumber a b → a ≡ Accepted reply leaves
    → (other : Option Holding) × (b ≡ Accepted reply other) × SameValue leaves other
accepted-alike (Refused x) b reply leaves same is = absurd (cc is)
accepted-alike (Accepted x l) (Refused y) reply leaves same is = absurd same
accepted-alike (Accepted x l) (Accepted y m) reply leaves same is =
    let replies : x ≡ reply = cc is in
    let left : l ≡ leaves = cc is in
    (m, ap (λ (z : Reply). Accepted z m) (sym same.0 ∙ replies), subst (λ (o : Option Holding). SameValue o m) left same.1)

pub refused-alike : (a b : Ruling) (reply : Reply) → SameButNumber a b → a ≡ Refused reply → b ≡ Refused reply
refused-alike (Refused x) (Refused y) reply same is = ap Refused (sym same) ∙ is
refused-alike (Refused x) (Accepted y m) reply same is = absurd same
refused-alike (Accepted x l) b reply same is = absurd (cc is)
