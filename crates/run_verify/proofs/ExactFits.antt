-- The replies of a table whose ops are within their limits.
use Rattle.std.proofs.Common.{◌≡◌, ◌<◌, ◌≤◌, ◌+◌, ◌-◌, ◌%◌, ◌^◌, ◌==◌, ◌&&◌, ℕ, Bool, true, false, nat_le, nat_lt, List}
use Rattle.std.proofs.Common.{[], ◌∷◌, ◌++◌, length, Option, Some, None, if◌then◌else◌, refl, arith}
use Rattle.std.proofs.lemmas.Bool.Decides.{nat_tests}
use Rattle.std.proofs.lemmas.Fmt.{digits_decimal}
use Rattle.std.proofs.lemmas.List.Elements.{All-append, All-cons, All-nil, All-replicate, All-set}
use Rattle.std.specs.Char.{is_ascii_digit}
use Rattle.std.specs.Cmp.Lexicographic.{slice_cmp}
use Rattle.std.specs.Fmt.{decimal}
use Rattle.std.specs.Ordering.{is_eq, nat_cmp}
use Rattle.std.specs.Prelude.{All, ⊤}
use Rattle.std.specs.Str.{all_ascii_digits}
use Rattle.std.specs.Str.Parse.{digits_value}
use Rattle.memc_table.specs.Act.{key_of}
use Rattle.memc_table.specs.Asked.{Asked}
use Rattle.memc_table.specs.Contents.{Contents, after_ruling, count_of, empty_table, partition_of, reply_in, reply_of, ruling_on, table_after}
use Rattle.memc_table.specs.Expiry.{is_live, live_at}
use Rattle.memc_table.specs.Numeral.{number_of, numeral_value}
use Rattle.memc_table.specs.Ruling.{anew, changed, counted, joined, longest_value, lowered, raised, ruling_of}
use Rattle.memc_table.specs.declared.act.Act.{Act}
use Rattle.memc_table.specs.declared.act.Act.TheVariants.{Get, Set, Add, Replace, Cas, Delete, Touch, Append, Prepend, Incr, Decr}
use Rattle.memc_table.specs.declared.holding.Holding.{Holding}
use Rattle.memc_table.specs.declared.reply.Reply.TheVariants as replied
use Rattle.memc_table.specs.declared.ruling.Ruling.{Ruling}
use Rattle.memc_table.specs.declared.ruling.Ruling.TheVariants.{Refused, Accepted}
use Rattle.transcript_text.proofs.Numbers.{own}
use Rattle.transcript_text.specs.Forms.{AreBytes, FitsReply}
use Rattle.scenario_text.proofs.Read.{passed}
use Rattle.run_verify.proofs.Within.{low-at, more-low}

-- an act whose flags have 32 bits, and whose value consists of bytes
abbrev pub FitsAct : Act → Type 0
FitsAct (Set key flags expiry value) = (flags < 2 ^ 32) × AreBytes value
FitsAct (Add key flags expiry value) = (flags < 2 ^ 32) × AreBytes value
FitsAct (Replace key flags expiry value) = (flags < 2 ^ 32) × AreBytes value
FitsAct (Cas key flags expiry cas value) = (flags < 2 ^ 32) × AreBytes value
FitsAct (Append key value) = AreBytes value
FitsAct (Prepend key value) = AreBytes value
FitsAct _ = ⊤

abbrev pub FitsHolding : Holding → Type 0
FitsHolding h = FitsReply (replied.Value h.item)

abbrev FitsLive : Option Holding → Type 0
FitsLive None = ⊤
FitsLive (Some h) = FitsHolding h

abbrev FitsRuling : Ruling → Type 0
FitsRuling (Refused reply) = FitsReply reply
FitsRuling (Accepted reply leaves) = FitsReply reply × FitsLive leaves

-- a table whose items are within the limits, and of whose partitions none has more updates than this
pub record FitsTable (m : ℕ) (t : Contents) : Type 0 where
  pub items : (key : List ℕ) → FitsLive (t.items key)
  pub counts : All (λ count. count ≤ m) t.counts

-- ---- numbers

both : (a b : Bool) → (a && b) ≡ true → (a ≡ true) × (b ≡ true)
both true true e = (refl, refl)
both true false e = cc e
both false b e = cc e

digits-bytes : (ds : List ℕ) → all_ascii_digits ds ≡ true → AreBytes ds
digits-bytes [] digits = All-nil (λ b. b < 256)
digits-bytes (d ∷ ds) digits =
    let parts = both (is_ascii_digit d) (all_ascii_digits ds) digits in
    let digit = parts.0 in
    All-cons (λ b. b < 256) d ds (grind (arith, nat_tests, digit)) (digits-bytes ds parts.1)

decimal-bytes : (n : ℕ) → n < 2 ^ 64 → AreBytes (decimal n)
decimal-bytes n fits = digits-bytes (decimal n) (digits_decimal own n fits)

-- a number that is read has 64 bits
pub number-fits : (word : List ℕ) (n : ℕ) → number_of word ≡ Some n → n < 2 ^ 64
number-fits word n is =
    let outer = passed (nat_le 1 (length word) && nat_le (length word) 20) (numeral_value word) n is in
    let inner = passed (all_ascii_digits word && nat_lt (digits_value 10 word) (2 ^ 64)) (Some (digits_value 10 word)) n outer.1 in
    let digits = both (all_ascii_digits word) (nat_lt (digits_value 10 word) (2 ^ 64)) inner.0 in
    let value : digits_value 10 word ≡ n = cc (inner.1) in
    let small = digits.1 in
    let below : digits_value 10 word < 2 ^ 64 = grind (arith, nat_tests, small) in
    rw value at below

-- ---- rulings

anew-fits : (t n flags : ℕ) (expiry : _) (value : List ℕ) → n < 2 ^ 64 → flags < 2 ^ 32 → AreBytes value → FitsRuling (anew t n flags expiry value)
anew-fits t n flags expiry value fn ff fv = (tt, (ff, fn, fv))

joined-fits : (n : ℕ) (h : Holding) (value : List ℕ) → n < 2 ^ 64 → FitsHolding h → AreBytes value → FitsRuling (joined n h value)
joined-fits n h value fn fh fv = by (nat_le (length value) longest_value)
  where
    by : (b : Bool) → FitsRuling (if b then Accepted replied.Stored (changed n h value) else Refused replied.TooLarge)
    by true = (tt, (fh.0, fn, fv))
    by false = tt

counted-fits : (n : ℕ) (h : Holding) (r : ℕ) → n < 2 ^ 64 → FitsHolding h → r < 2 ^ 64 → FitsRuling (counted n h r)
counted-fits n h r fn fh fr = (fr, (fh.0, fn, decimal-bytes r fr))

raised-fits : (n : ℕ) (h : Holding) (by : ℕ) (v : Option ℕ) → n < 2 ^ 64 → FitsHolding h → FitsRuling (raised n h by v)
raised-fits n h by None fn fh = tt
raised-fits n h by (Some v) fn fh = counted-fits n h ((v + by) % 2 ^ 64) fn fh (omega arith)

lowered-fits : (n : ℕ) (h : Holding) (by : ℕ) (v : Option ℕ) → n < 2 ^ 64 → FitsHolding h → ((x : ℕ) → v ≡ Some x → x < 2 ^ 64) → FitsRuling (lowered n h by v)
lowered-fits n h by None fn fh fv = tt
lowered-fits n h by (Some v) fn fh fv = counted-fits n h (v - by) fn fh (let f = fv v refl in omega (arith, f))

ruling-fits : (t n : ℕ) (act : Act) (live : Option Holding) → n < 2 ^ 64 → FitsAct act → FitsLive live → FitsRuling (ruling_of t n act live)
ruling-fits t n (Get key) (Some h) fn fa fh = fh
ruling-fits t n (Set key flags expiry value) live fn fa fh = anew-fits t n flags expiry value fn fa.0 fa.1
ruling-fits t n (Add key flags expiry value) None fn fa fh = anew-fits t n flags expiry value fn fa.0 fa.1
ruling-fits t n (Replace key flags expiry value) (Some h) fn fa fh = anew-fits t n flags expiry value fn fa.0 fa.1
ruling-fits t n (Cas key flags expiry cas value) (Some h) fn fa fh = by (h.item.cas == cas)
  where
    by : (b : Bool) → FitsRuling (if b then anew t n flags expiry value else Refused replied.Exists)
    by true = anew-fits t n flags expiry value fn fa.0 fa.1
    by false = tt
ruling-fits t n (Delete key) (Some h) fn fa fh = (tt, tt)
ruling-fits t n (Touch key expiry) (Some h) fn fa fh = (tt, fh)
ruling-fits t n (Append key value) (Some h) fn fa fh = joined-fits n h (h.item.value ++ value) fn fh (All-append (λ b. b < 256) h.item.value value fh.2 fa)
ruling-fits t n (Prepend key value) (Some h) fn fa fh = joined-fits n h (value ++ h.item.value) fn fh (All-append (λ b. b < 256) value h.item.value fa fh.2)
ruling-fits t n (Incr key by) (Some h) fn fa fh = raised-fits n h by (number_of h.item.value) fn fh
ruling-fits t n (Decr key by) (Some h) fn fa fh = lowered-fits n h by (number_of h.item.value) fn fh (λ x is. number-fits h.item.value x is)
ruling-fits t n a o fn fa fh = tt

-- ---- tables

live-fits : (t : ℕ) (o : Option Holding) → FitsLive o → FitsLive (live_at t o)
live-fits t None fits = tt
live-fits t (Some h) fits = by (is_live t h.until)
  where
    by : (b : Bool) → FitsLive (if b then Some h else None)
    by true = fits
    by false = tt

rules : (m : ℕ) (t : Contents) (op : Asked) → FitsTable m t → m + 1 < 2 ^ 64 → FitsAct op.act → FitsRuling (ruling_on t op)
rules m t op fits small fa =
    let low = low-at m t.counts (partition_of t (key_of op.act)) fits.counts in
    ruling-fits op.moment (count_of t (key_of op.act) + 1) op.act (live_at op.moment (t.items (key_of op.act)))
    (omega (arith, low, small)) fa (live-fits op.moment (t.items (key_of op.act)) (fits.items (key_of op.act)))

-- the reply to an op that fits is one
pub reply-fits : (m : ℕ) (t : Contents) (op : Asked) → FitsTable m t → m + 1 < 2 ^ 64 → FitsAct op.act → FitsReply (reply_of t op)
reply-fits m t op fits small fa = by (ruling_on t op) (rules m t op fits small fa)
  where
    by : (r : Ruling) → FitsRuling r → FitsReply (reply_in r)
    by (Refused reply) f = f
    by (Accepted reply leaves) f = f.0

ruled-fits : (m : ℕ) (t : Contents) (key : List ℕ) (r : Ruling) → FitsTable m t → FitsRuling r → FitsTable (m + 1) (after_ruling t key r)
ruled-fits m t key (Refused reply) fits f = record { items = fits.items; counts = more-low m t.counts fits.counts }
ruled-fits m t key (Accepted reply leaves) fits f = record {
  items = λ other. by other (is_eq (slice_cmp nat_cmp key other));
  counts = All-set (λ count. count ≤ m + 1) t.counts (partition_of t key) (count_of t key + 1)
      (let here = low-at m t.counts (partition_of t key) fits.counts in omega (arith, here))
      (more-low m t.counts fits.counts);
}
  where
    by : (other : List ℕ) (b : Bool) → FitsLive (if b then leaves else t.items other)
    by other true = f.1
    by other false = fits.items other

-- and leaves a table that fits
pub table-fits : (m : ℕ) (t : Contents) (op : Asked) → FitsTable m t → m + 1 < 2 ^ 64 → FitsAct op.act → FitsTable (m + 1) (table_after t op)
table-fits m t op fits small fa = ruled-fits m t (key_of op.act) (ruling_on t op) fits (rules m t op fits small fa)

pub empty-fits : (k : ℕ) → FitsTable 0 (empty_table k)
empty-fits k = record { items = λ key. tt; counts = All-replicate (λ count. count ≤ 0) k 0 (omega arith) }
