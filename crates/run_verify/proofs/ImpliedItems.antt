-- What an accepted op leaves at its key: an item, but a deletion none.
use Rattle.std.proofs.Common.{◌≡◌, ◌+◌, ◌==◌, ℕ, Bool, true, false, nat_le, List, ◌++◌, length, Option, Some, None, if◌then◌else◌, refl, ◌∙◌}
use Rattle.std.proofs.lemmas.Map.Text.{is_eq-slice_cmp}
use Rattle.std.proofs.lemmas.Slice.Eq.{bytes_eq-Decides}
use Rattle.std.specs.Cmp.Lexicographic.{slice_cmp}
use Rattle.std.specs.Ordering.{is_eq, nat_cmp}
use Rattle.memc_table.specs.Act.{key_of}
use Rattle.memc_table.specs.Asked.{Asked}
use Rattle.memc_table.specs.Contents.{Contents, after_ruling, count_of, reply_in, reply_of, ruling_on, table_after}
use Rattle.memc_table.specs.Expiry.{live_at}
use Rattle.memc_table.specs.Numeral.{number_of}
use Rattle.memc_table.specs.Ruling.{anew, changed, joined, longest_value, lowered, raised, ruling_of}
use Rattle.memc_table.specs.declared.act.Act.{Act}
use Rattle.memc_table.specs.declared.act.Act.TheVariants.{Get, Set, Add, Replace, Cas, Delete, Touch, Append, Prepend, Incr, Decr}
use Rattle.memc_table.specs.declared.holding.Holding.{Holding}
use Rattle.memc_table.specs.declared.reply.Reply.TheVariants as replied
use Rattle.memc_table.specs.declared.ruling.Ruling.{Ruling}
use Rattle.memc_table.specs.declared.ruling.Ruling.TheVariants.{Refused, Accepted}
use Rattle.group_calls.specs.Turns.{accepts}

-- what an act leaves that is accepted
abbrev pub IsLeft : Act → Option Holding → Type 0
IsLeft (Get _) leaves = ⊥
IsLeft (Delete _) leaves = leaves ≡ None
IsLeft _ leaves = (h : Holding) × (leaves ≡ Some h)

abbrev LeftBy : Act → Ruling → Type 0
LeftBy act (Accepted reply leaves) = IsLeft act leaves
LeftBy act (Refused reply) = ⊥

joined-left : (act : Act) (n : ℕ) (h : Holding) (value : List ℕ) → ((leaves : Holding) → IsLeft act (Some leaves))
    → accepts (reply_in (joined n h value)) ≡ true → LeftBy act (joined n h value)
joined-left act n h value left = by (nat_le (length value) longest_value)
  where
    by : (b : Bool)
        → accepts (reply_in (if b then Accepted replied.Stored (changed n h value) else Refused replied.TooLarge))
        ≡ true → LeftBy act (if b then Accepted replied.Stored (changed n h value) else Refused replied.TooLarge)
    by true is = left _
    by false is = cc is

raised-left : (act : Act) (n : ℕ) (h : Holding) (by : ℕ) (v : Option ℕ)
    → ((leaves : Holding) → IsLeft act (Some leaves)) → accepts (reply_in (raised n h by v)) ≡ true
    → LeftBy act (raised n h by v)
raised-left act n h by (Some v) left is = left _
raised-left act n h by None left is = cc is

lowered-left : (act : Act) (n : ℕ) (h : Holding) (by : ℕ) (v : Option ℕ)
    → ((leaves : Holding) → IsLeft act (Some leaves)) → accepts (reply_in (lowered n h by v)) ≡ true
    → LeftBy act (lowered n h by v)
lowered-left act n h by (Some v) left is = left _
lowered-left act n h by None left is = cc is

ruled : (t n : ℕ) (act : Act) (live : Option Holding) → accepts (reply_in (ruling_of t n act live)) ≡ true → LeftBy act (ruling_of t n act live)
ruled t n (Set key flags expiry value) live is = (_, refl)
ruled t n (Add key flags expiry value) None is = (_, refl)
ruled t n (Replace key flags expiry value) (Some h) is = (_, refl)
ruled t n (Cas key flags expiry cas value) (Some h) is = by (h.item.cas == cas) is
  where
    by : (b : Bool) → accepts (reply_in (if b then anew t n flags expiry value else Refused replied.Exists)) ≡ true
        → LeftBy (Cas key flags expiry cas value) (if b then anew t n flags expiry value else Refused replied.Exists)
    by true is = (_, refl)
    by false is = cc is
ruled t n (Delete key) (Some h) is = refl
ruled t n (Touch key expiry) (Some h) is = (_, refl)
ruled t n (Append key value) (Some h) is = joined-left (Append key value) n h (h.item.value ++ value) (λ l. (l, refl)) is
ruled t n (Prepend key value) (Some h) is = joined-left (Prepend key value) n h (value ++ h.item.value) (λ l. (l, refl)) is
ruled t n (Incr key by) (Some h) is = raised-left (Incr key by) n h by (number_of h.item.value) (λ l. (l, refl)) is
ruled t n (Decr key by) (Some h) is = lowered-left (Decr key by) n h by (number_of h.item.value) (λ l. (l, refl)) is
ruled t n (Get key) None is = cc is
ruled t n a o is = cc is

pub same_key-refl : (key : List ℕ) → is_eq (slice_cmp nat_cmp key key) ≡ true
same_key-refl key = is_eq-slice_cmp key key ∙ (bytes_eq-Decides key key).1 refl

after-left : (t : Contents) (op : Asked) (ruling : Ruling) → LeftBy op.act ruling
    → IsLeft op.act ((after_ruling t (key_of op.act) ruling).items (key_of op.act))
after-left t op (Accepted reply leaves) left = rw (same_key-refl (key_of op.act)) left
after-left t op (Refused reply) left = absurd left

-- an accepted op leaves an item at its key, but a deletion none
pub item-left : (t : Contents) (op : Asked) → accepts (reply_of t op) ≡ true → IsLeft op.act ((table_after t op).items (key_of op.act))
item-left t op is = after-left t op (ruling_on t op) (ruled op.moment (count_of t (key_of op.act) + 1) op.act (live_at op.moment (t.items (key_of op.act))) is)
