-- Ops that are read bring exptimes of 64 bits.
use Rattle.std.proofs.Common.{◌≡◌, inl, inr, ◌^◌, ◌==◌, ℕ, ℤ, pos, neg_ℤ, zero, suc, nat_lt, nat_le, List, [], ◌∷◌}
use Rattle.std.proofs.Common.{Option, Some, None, Ok, subst, arith}
use Rattle.std.proofs.lemmas.Bool.Decides.{nat_tests}
use Rattle.group_types.specs.Dimensions.{Dimensions}
use Rattle.memc_proto.specs.Words.{negative, positive, signed_of}
use Rattle.memc_table.specs.Numeral.{number_of}
use Rattle.memc_table.specs.declared.act.Act.{Act}
use Rattle.memc_table.specs.declared.act.Act.TheVariants.{Add, Cas, Replace, Set, Touch}
use Rattle.scenario_text.proofs.ActWords.{ReadsAct, ReadsStore}
use Rattle.scenario_text.proofs.LineWords.{ReadsLine, line_of-words}
use Rattle.scenario_text.proofs.Read.{chosen, passed}
use Rattle.scenario_text.specs.Acts.{exptime_of}
use Rattle.scenario_text.specs.Meaning.{line_meaning}
use Rattle.scenario_text.specs.declared.line.Line.{Line}
use Rattle.scenario_text.specs.declared.line.Line.TheVariants.{Ask}
use Rattle.group_eras.specs.Range.{HasLowExpiry, IsLow}
use Rattle.regroup_run.specs.Meaning.{IsLowLine}

negative-low : (n : ℕ) → IsLow (neg_ℤ (pos n))
negative-low zero = omega arith
negative-low (suc n) = tt

negative-is : (n : Option ℕ) (e : ℤ) → negative n ≡ Some e → IsLow e
negative-is None e is = cc is
negative-is (Some n) e is = let p = passed (nat_le n (2 ^ 63)) (Some (neg_ℤ (pos n))) e is in
    let same : neg_ℤ (pos n) ≡ e = cc (p.1) in subst IsLow same (negative-low n)

positive-is : (n : Option ℕ) (e : ℤ) → positive n ≡ Some e → IsLow e
positive-is None e is = cc is
positive-is (Some n) e is =
    let p = passed (nat_lt n (2 ^ 63)) (Some (pos n)) e is in
    let less = p.0 in
    let same : pos n ≡ e = cc (p.1) in
    subst IsLow same (grind (arith, nat_tests))

signed-low : (word : List ℕ) (e : ℤ) → signed_of word ≡ Some e → IsLow e
signed-low [] e is = cc is
signed-low (first ∷ digits) e is = elim (chosen (first == 45) (negative (number_of digits)) (positive (number_of (first ∷ digits))) e is) [
  | inl below ↦ negative-is (number_of digits) e below
  | inr above ↦ positive-is (number_of (first ∷ digits)) e above
]

exptime-low : (words : List (List ℕ)) (e : ℤ) → exptime_of words ≡ Some e → IsLow e
exptime-low [] e is = let same : pos 0 ≡ e = cc is in subst IsLow same (omega arith)
exptime-low (word ∷ []) e is = signed-low word e is
exptime-low (word ∷ other ∷ words) e is = cc is

store-low : (flags : ℕ) (expiry : ℤ) (value : List ℕ) → ReadsStore flags expiry value → IsLow expiry
store-low flags expiry value read = exptime-low read.expires.0 expiry read.expires.1

act-low : (a : Act) → ReadsAct a → HasLowExpiry a
act-low (Set key flags expiry value) read = store-low flags expiry value read.1
act-low (Add key flags expiry value) read = store-low flags expiry value read.1
act-low (Replace key flags expiry value) read = store-low flags expiry value read.1
act-low (Cas key flags expiry cas value) read = store-low flags expiry value read.1
act-low (Touch key expiry) read = exptime-low read.1.0 expiry read.1.1
act-low a read = tt

line-low : (s : Dimensions) (l : Line) → ReadsLine s l → IsLowLine l
line-low s (Ask caller p a) read = act-low a read.2
line-low s l read = tt

-- a line behind the group line
pub line_of-low : (s : Dimensions) (line : List ℕ) (l : Line) → line_meaning (Some s) line ≡ Ok l → IsLowLine l
line_of-low s line l is = line-low s l (line_of-words s line l is)
