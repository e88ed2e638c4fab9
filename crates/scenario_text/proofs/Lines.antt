-- What a line names is within the group's limits.
use Rattle.std.proofs.Common.{◌≡◌, inl, inr, ◌≢◌, ◌+◌, ◌^◌, ◌<◌, ◌==◌, ℕ, Bool, true, false, nat_lt, nat_le}
use Rattle.std.proofs.Common.{List, [], ◌∷◌, codes, Option, Some, None, Result, Ok, Err, if◌then◌else◌, refl, subst, arith}
use Rattle.std.proofs.lemmas.Bool.Decides.{nat_tests}
use Rattle.std.specs.Str.{bytes_eq}
use Rattle.group_types.specs.Dimensions.{Dimensions, callers, space_of}
use Rattle.group_types.specs.Names.{IsProcess, same_process}
use Rattle.group_types.specs.declared.process.Partition.{Partition}
use Rattle.group_types.specs.declared.process.ProcessId.{ProcessId}
use Rattle.group_types.specs.declared.process.ProcessId.TheVariants.{DataNode, ParityNode}
use Rattle.group_types.specs.declared.shape.Field.{Field}
use Rattle.memc_proto.specs.Words.{if_below}
use Rattle.memc_table.specs.Numeral.{number_of}
use Rattle.scenario_text.proofs.LineWords.{ReadsCaller, ReadsLine, ReadsProcess, line_of-words}
use Rattle.scenario_text.proofs.Read.{mapped, chosen, passed}
use Rattle.scenario_text.proofs.Limits.{shape-of}
use Rattle.scenario_text.proofs.Values.{act-bytes}
use Rattle.scenario_text.specs.Meaning.{line_meaning, group_line, group_line_of, group_within, group_unless, first_out_of_range}
use Rattle.scenario_text.specs.Meaning.{is_skipped, IsWithin, IsLineOf}
use Rattle.scenario_text.specs.Words.{number_below, process_of_word, partition_of_word, split_words}
use Rattle.scenario_text.specs.declared.line.Line.{Line}
use Rattle.scenario_text.specs.declared.line.LineFault.{LineFault}
use Rattle.scenario_text.specs.declared.line.LineFault.TheVariants.{BadLine}
use Rattle.scenario_text.specs.declared.line.Line.TheVariants.{Skipped, Group, Ask, Collect, Deliver, Fail, Flush, Trace}
use Rattle.scenario_text.specs.declared.line.Line.TheVariants.{Show, Time}

if_below-under : (limit : ℕ) (number : Option ℕ) (n : ℕ) → if_below limit number ≡ Some n → n < limit
if_below-under limit None n is = cc is
if_below-under limit (Some m) n is =
    let p = passed (nat_lt m limit) (Some m) n is in
    let less = p.0 in
    let same : m ≡ n = cc (p.1) in
    grind (arith, nat_tests)

number_below-under : (limit : ℕ) (word : List ℕ) (n : ℕ) → number_below limit word ≡ Some n → n < limit
unfolding number_below
number_below-under limit word n is = if_below-under limit (number_of word) n is

process_of_word-within : (s : Dimensions) (word : List ℕ) (p : ProcessId) → process_of_word s word ≡ Some p → IsProcess s p
unfolding process_of_word
process_of_word-within s [] p is = cc is
process_of_word-within s (letter ∷ digits) p is = elim (chosen (letter == 100) _ _ p is) [
  | inl node ↦ let d = mapped DataNode (number_below s.k digits) p node in subst (IsProcess s) d.2 (number_below-under s.k digits d.0 d.1)
  | inr other ↦
      let i = mapped ParityNode (number_below s.m digits) p (passed (letter == 112) _ p other).1 in
      subst (IsProcess s) i.2 (number_below-under s.m digits i.0 i.1)
]

different : (a b : ProcessId) → same_process a b ≡ false → a ≢ b
different (DataNode a) (DataNode b) not_same same = let e : a ≡ b = cc same in grind (arith, nat_tests)
different (ParityNode a) (ParityNode b) not_same same = let e : a ≡ b = cc same in grind (arith, nat_tests)
different (DataNode a) (ParityNode b) not_same same = cc same
different (ParityNode a) (DataNode b) not_same same = cc same

caller-under : (caller : ℕ) → ReadsCaller caller → caller < callers
caller-under caller read = number_below-under callers read.0 caller read.1

process-within : (s : Dimensions) (p : ProcessId) → ReadsProcess s p → IsProcess s p
process-within s p read = process_of_word-within s read.0 p read.1

partition-under : (s : Dimensions) (word : List ℕ) (p : Partition) → partition_of_word s word ≡ Some p → p.0 < s.k
partition-under s word p is =
    let d = mapped _ (number_below s.k word) p is in
    subst (λ (q : Partition). q.0 < s.k) d.2 (number_below-under s.k word d.0 d.1)

line-within : (s : Dimensions) (l : Line) → ReadsLine s l → IsWithin s l
line-within s (Group shape) read = read
line-within s (Ask caller p a) read = (caller-under caller read.0, process-within s p read.1, act-bytes a read.2)
line-within s (Collect caller call p) read = (caller-under caller read.0, process-within s p read.2)
line-within s (Deliver from to) read =
    (process-within s from read.0, process-within s to read.1, different from to read.2)
line-within s (Fail p keep) read = process-within s p read
line-within s (Flush p) read = process-within s p read
line-within s (Trace caller call d p) read =
    (caller-under caller read.0, partition-under s read.2.0 d read.2.1, process-within s p read.3)
line-within s (Show p run) read = let fits = read.1 in (process-within s p read.0, grind (arith, nat_tests))
line-within s (Time moment) read =
    let below = number_below-under (2 ^ 62 + 1) read.0 moment read.1 in omega (arith, below)
line-within s l read = tt

group_within-group : (d : Dimensions) (l : Line) → group_within d ≡ Ok l → IsLineOf None l
unfolding group_within
group_within-group d l is = by (first_out_of_range d) refl is
  where
    by : (o : Option Field) → first_out_of_range d ≡ o → group_unless d o ≡ Ok l → IsLineOf None l
    by None none is = let same : Group d ≡ l = cc is in subst (IsLineOf None) same (shape-of d none)
    by (Some field) some is = cc is

group_of-group : (k m blocks block : Option ℕ) (l : Line) → group_line_of k m blocks block ≡ Ok l → IsLineOf None l
group_of-group None m blocks block l is = cc is
group_of-group (Some k) None blocks block l is = cc is
group_of-group (Some k) (Some m) None block l is = cc is
group_of-group (Some k) (Some m) (Some blocks) None l is = cc is
group_of-group (Some k) (Some m) (Some blocks) (Some block) l is = group_within-group _ l is

group_line-group : (words : List (List ℕ)) (l : Line) → group_line words ≡ Ok l → IsLineOf None l
group_line-group [] l is = cc is
group_line-group (a ∷ []) l is = cc is
group_line-group (a ∷ b ∷ []) l is = cc is
group_line-group (a ∷ b ∷ c ∷ []) l is = cc is
group_line-group (a ∷ b ∷ c ∷ d ∷ []) l is = cc is
group_line-group (name ∷ k ∷ m ∷ blocks ∷ block ∷ []) l is = by (bytes_eq name (codes "group")) is
  where
    numbers : Result Line LineFault
    numbers = group_line_of (number_below (2 ^ 32) k) (number_below (2 ^ 32) m) (number_below (2 ^ 32) blocks) (number_below (2 ^ 32) block)

    by : (b : Bool) → (if b then numbers else Err BadLine) ≡ Ok l → IsLineOf None l
    by true is = group_of-group (number_below (2 ^ 32) k) (number_below (2 ^ 32) m) (number_below (2 ^ 32) blocks) (number_below (2 ^ 32) block) l is
    by false is = cc is
group_line-group (a ∷ b ∷ c ∷ d ∷ e ∷ f ∷ words) l is = cc is

-- what a line means may stand there
pub line_of-within : (shape : Option Dimensions) (line : List ℕ) (l : Line) → line_meaning shape line ≡ Ok l → IsLineOf shape l
line_of-within (Some s) line l is = line-within s l (line_of-words s line l is)
line_of-within None line l is = by (is_skipped line) is
  where
    by : (b : Bool) → (if b then Ok Skipped else group_line (split_words line)) ≡ Ok l → IsLineOf None l
    by true is = let same : Skipped ≡ l = cc is in subst (IsLineOf None) same tt
    by false is = group_line-group (split_words line) l is
