-- A line of a script names flags of 32 bits, and a call of 64.
use Rattle.std.proofs.Common.{◌≡◌, ◌<◌, ◌^◌, ℕ, ℤ, nat_lt, List, Option, Some, None, Ok, refl, arith}
use Rattle.std.proofs.lemmas.Bool.Decides.{nat_tests}
use Rattle.std.specs.Prelude.{⊤}
use Rattle.group_types.specs.Dimensions.{Dimensions}
use Rattle.memc_table.specs.Act.{act_value}
use Rattle.memc_table.specs.Numeral.{number_of}
use Rattle.memc_table.specs.declared.act.Act.{Act}
use Rattle.memc_table.specs.declared.act.Act.TheVariants as act
use Rattle.scenario_text.proofs.ActWords.{ReadsAct, ReadsStore}
use Rattle.scenario_text.proofs.LineWords.{ReadsLine, line_of-words}
use Rattle.scenario_text.proofs.Read.{passed}
use Rattle.scenario_text.specs.Meaning.{line_meaning}
use Rattle.scenario_text.specs.Words.{number_below}
use Rattle.scenario_text.specs.declared.line.Line.{Line}
use Rattle.scenario_text.specs.declared.line.Line.TheVariants.{Ask, Collect, Trace}
use Rattle.transcript_text.specs.Forms.{AreBytes}
use Rattle.run_verify.proofs.ExactFits.{FitsAct, number-fits}

-- ---- words

under-by : (limit n : ℕ) (word : List ℕ) (o : Option ℕ) → number_of word ≡ o → number_below limit word ≡ Some n → n < limit
unfolding number_below
under-by limit n word None is same = absurd (cc (rw is at same))
under-by limit n word (Some m) is same =
    let test = passed (nat_lt m limit) (Some m) n (rw is at same) in
    let low = test.0 in
    let value : m ≡ n = cc (test.1) in
    let below : m < limit = grind (arith, nat_tests, low) in
    rw value at below

under : (limit n : ℕ) (word : List ℕ) → number_below limit word ≡ Some n → n < limit
under limit n word is = under-by limit n word (number_of word) refl is

-- the flags of an act have 32 bits
abbrev pub FlagsFit : Act → Type 0
FlagsFit (act.Set key flags expiry value) = flags < 2 ^ 32
FlagsFit (act.Add key flags expiry value) = flags < 2 ^ 32
FlagsFit (act.Replace key flags expiry value) = flags < 2 ^ 32
FlagsFit (act.Cas key flags expiry cas value) = flags < 2 ^ 32
FlagsFit _ = ⊤

store-flags : (flags : ℕ) (expiry : ℤ) (value : List ℕ) → ReadsStore flags expiry value → flags < 2 ^ 32
store-flags flags expiry value read = under (2 ^ 32) flags read.flagged.0 read.flagged.1

act-flags : (a : Act) → ReadsAct a → FlagsFit a
act-flags (act.Set key flags expiry value) read = store-flags flags expiry value read.1
act-flags (act.Add key flags expiry value) read = store-flags flags expiry value read.1
act-flags (act.Replace key flags expiry value) read = store-flags flags expiry value read.1
act-flags (act.Cas key flags expiry cas value) read = store-flags flags expiry value read.1
act-flags a read = tt

pub act-fits : (a : Act) → FlagsFit a → AreBytes (act_value a) → FitsAct a
act-fits (act.Set key f expiry value) flags bytes = (flags, bytes)
act-fits (act.Add key f expiry value) flags bytes = (flags, bytes)
act-fits (act.Replace key f expiry value) flags bytes = (flags, bytes)
act-fits (act.Cas key f expiry cas value) flags bytes = (flags, bytes)
act-fits (act.Append key value) flags bytes = bytes
act-fits (act.Prepend key value) flags bytes = bytes
act-fits a flags bytes = tt

-- ---- lines

-- a line's flags have 32 bits, and its call 64
abbrev pub Limits : Line → Type 0
Limits (Ask caller p a) = FlagsFit a
Limits (Collect caller call p) = call < 2 ^ 64
Limits (Trace caller call d p) = call < 2 ^ 64
Limits _ = ⊤

line-limits : (s : Dimensions) (l : Line) → ReadsLine s l → Limits l
line-limits s (Ask caller p a) read = act-flags a read.2
line-limits s (Collect caller call p) read = number-fits read.1.0 call read.1.1
line-limits s (Trace caller call d p) read = number-fits read.1.0 call read.1.1
line-limits s l read = tt

pub read-limits : (s : Dimensions) (line : List ℕ) (l : Line) → line_meaning (Some s) line ≡ Ok l → Limits l
read-limits s line l is = line-limits s l (line_of-words s line l is)
