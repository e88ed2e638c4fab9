-- What a ruling leaves, and replies, fits a frame where the call and what was there do.
use Rattle.std.proofs.Common.{◌≡◌, ◌≤◌, ℕ, ◌+◌, ◌-◌, ◌^◌, ◌==◌, ◌&&◌, nat_le, nat_lt, ℤ, pos, negsuc, Bool, true, false}
use Rattle.std.proofs.Common.{List, ◌++◌, length, Option, Some, None, if◌then◌else◌, refl, arith}
use Rattle.std.specs.Str.{all_ascii_digits}
use Rattle.std.specs.Str.Parse.{digits_value}
use Rattle.std.proofs.lemmas.Bool.Decides.{nat_tests}
use Rattle.memc_table.specs.declared.act.Act.{Act}
use Rattle.memc_table.specs.declared.act.Act.TheVariants.{Get, Set, Add, Replace, Cas, Delete, Touch, Append, Prepend, Incr, Decr}
use Rattle.memc_table.specs.declared.holding.Holding.{Holding}
use Rattle.memc_table.specs.declared.reply.Reply.TheVariants.{Stored, Exists, TooLarge}
use Rattle.memc_table.specs.declared.ruling.Ruling.{Ruling}
use Rattle.memc_table.specs.declared.ruling.Ruling.TheVariants.{Refused, Accepted}
use Rattle.memc_table.specs.Expiry.{longest_offset, until_of}
use Rattle.memc_table.specs.Numeral as numeral
use Rattle.memc_table.specs.Numeral.{number_of}
use Rattle.memc_table.specs.Ruling.{anew, changed, joined, longest_value, lowered, raised, ruling_of}
use Rattle.group_run.specs.Deciding.{outcome_of}
use Rattle.wire_codec.specs.Fits.{IsEight, IsFour, FitsMaybe, FitsOutcome}
use Rattle.link_frames.specs.Limits.{FitsAct, FitsSigned}

-- an item's flags and its end fit
abbrev pub HoldingFits : Holding → Type 0
HoldingFits h = IsFour h.item.flags × FitsMaybe IsEight h.until

abbrev pub RulingFits : Ruling → Type 0
RulingFits (Accepted reply leaves) = FitsOutcome (outcome_of reply) × FitsMaybe HoldingFits leaves
RulingFits (Refused reply) = Unit {0}

until-fits : (e : ℤ) (t : ℕ) → FitsSigned e → t ≤ 2 ^ 62 → FitsMaybe IsEight (until_of e t)
until-fits (negsuc n) t fits low = omega arith
until-fits (pos e) t fits low = by (e == 0) (nat_le e longest_offset) where
  by : (none soon : Bool) → FitsMaybe IsEight (if none then None else (if soon then Some (t + e) else Some e))
  by true soon = tt
  by false true = omega (arith, fits, low)
  by false false = omega (arith, fits)

anew-fits : (t n flags : ℕ) (expiry : ℤ) (value : List ℕ) → t ≤ 2 ^ 62 → IsFour flags → FitsSigned expiry → RulingFits (anew t n flags expiry value)
anew-fits t n flags expiry value low fits signed = (tt, (fits, until-fits expiry t signed low))

joined-fits : (n : ℕ) (h : Holding) (value : List ℕ) → HoldingFits h → RulingFits (joined n h value)
joined-fits n h value fits = by (nat_le (length value) longest_value) where
  by : (b : Bool) → RulingFits (if b then Accepted Stored (changed n h value) else Refused TooLarge)
  by true = (tt, fits)
  by false = tt

raised-fits : (n : ℕ) (h : Holding) (more : ℕ) (o : Option ℕ) → HoldingFits h → RulingFits (raised n h more o)
raised-fits n h more None fits = tt
raised-fits n h more (Some v) fits = (omega arith, fits)

lowered-fits : (n : ℕ) (h : Holding) (less : ℕ) (o : Option ℕ) → FitsMaybe IsEight o → HoldingFits h → RulingFits (lowered n h less o)
lowered-fits n h less None low fits = tt
lowered-fits n h less (Some v) low fits = (omega (arith, low), fits)

-- a numeral's number has at most 64 bits
value-fits : (ascii below : Bool) (v : ℕ) → nat_lt v (2 ^ 64) ≡ below → FitsMaybe IsEight (if ascii && below then Some v else None)
value-fits true true v is = grind (arith, nat_tests)
value-fits true false v is = tt
value-fits false below v is = tt

number-fits : (bytes : List ℕ) → FitsMaybe IsEight (number_of bytes)
number-fits bytes = by (nat_le 1 (length bytes) && nat_le (length bytes) 20) where
  by : (b : Bool) → FitsMaybe IsEight (if b then numeral.numeral_value bytes else None)
  by true = value-fits (all_ascii_digits bytes) (nat_lt (digits_value 10 bytes) (2 ^ 64)) (digits_value 10 bytes) refl
  by false = tt

module _ (t n : ℕ) (low : t ≤ 2 ^ 62) where
  pub ruling-fits : (a : Act) (live : Option Holding) → FitsAct a → FitsMaybe HoldingFits live → RulingFits (ruling_of t n a live)
  ruling-fits (Get key) None fits held = tt
  ruling-fits (Get key) (Some h) fits held = tt
  ruling-fits (Set key flags expiry value) live fits held = anew-fits t n flags expiry value low fits.1 fits.2
  ruling-fits (Add key flags expiry value) None fits held = anew-fits t n flags expiry value low fits.1 fits.2
  ruling-fits (Add key flags expiry value) (Some h) fits held = tt
  ruling-fits (Replace key flags expiry value) None fits held = tt
  ruling-fits (Replace key flags expiry value) (Some h) fits held = anew-fits t n flags expiry value low fits.1 fits.2
  ruling-fits (Cas key flags expiry cas value) None fits held = tt
  ruling-fits (Cas key flags expiry cas value) (Some h) fits held = by (h.item.cas == cas) where
    by : (b : Bool) → RulingFits (if b then anew t n flags expiry value else Refused Exists)
    by true = anew-fits t n flags expiry value low fits.1 fits.2
    by false = tt
  ruling-fits (Delete key) None fits held = tt
  ruling-fits (Delete key) (Some h) fits held = (tt, tt)
  ruling-fits (Touch key expiry) None fits held = tt
  ruling-fits (Touch key expiry) (Some h) fits held = (tt, (held.0, until-fits expiry t fits.1 low))
  ruling-fits (Append key value) None fits held = tt
  ruling-fits (Append key value) (Some h) fits held = joined-fits n h (h.item.value ++ value) held
  ruling-fits (Prepend key value) None fits held = tt
  ruling-fits (Prepend key value) (Some h) fits held = joined-fits n h (value ++ h.item.value) held
  ruling-fits (Incr key more) None fits held = tt
  ruling-fits (Incr key more) (Some h) fits held = raised-fits n h more (number_of h.item.value) held
  ruling-fits (Decr key less) None fits held = tt
  ruling-fits (Decr key less) (Some h) fits held = lowered-fits n h less (number_of h.item.value) (number-fits h.item.value) held
