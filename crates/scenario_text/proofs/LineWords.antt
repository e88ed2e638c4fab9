-- The words that the parts of a line are read from.
use Rattle.std.proofs.Common.{◌≡◌, ◌+◌, ◌^◌, ℕ, Bool, true, false, nat_le, List, [], ◌∷◌, Option, Some, None, Ok}
use Rattle.std.proofs.Common.{if◌then◌else◌, refl, subst}
use Rattle.std.specs.Prelude.{⊤}
use Rattle.group_types.specs.Dimensions.{Dimensions, callers, space_of}
use Rattle.group_types.specs.Names.{same_process}
use Rattle.group_types.specs.declared.process.Partition.{Partition}
use Rattle.group_types.specs.declared.process.ProcessId.{ProcessId}
use Rattle.group_types.specs.declared.run.Run.{Run}
use Rattle.memc_table.specs.Numeral.{number_of}
use Rattle.scenario_text.proofs.ActWords.{ReadsAct, ReadsNumber, act_of-words}
use Rattle.scenario_text.proofs.Read.{bound, mapped, passed}
use Rattle.scenario_text.specs.Acts.{act_of_words}
use Rattle.scenario_text.specs.Meaning.{delivery, event_line, is_skipped, keyword_of, line_by, line_meaning, look_within, or_bad_line}
use Rattle.scenario_text.specs.Words.{keep_of_word, number_below, partition_of_word, process_of_word, run_of_words, split_words}
use Rattle.scenario_text.specs.declared.keyword.Keyword.{Keyword}
use Rattle.scenario_text.specs.declared.keyword.Keyword.TheVariants as keyword
use Rattle.scenario_text.specs.declared.line.Line.{Line}
use Rattle.scenario_text.specs.declared.line.Line.TheVariants.{Skipped, Group, Ask, Collect, Deliver, Fail, Flush, Trace}
use Rattle.scenario_text.specs.declared.line.Line.TheVariants.{Drain, Show, Places, Time, Stop}

abbrev pub ReadsCaller : ℕ → Type 0
ReadsCaller caller = (word : List ℕ) × (number_below callers word ≡ Some caller)

abbrev pub ReadsProcess : Dimensions → ProcessId → Type 0
ReadsProcess s p = (word : List ℕ) × (process_of_word s word ≡ Some p)

abbrev pub ReadsPartition : Dimensions → Partition → Type 0
ReadsPartition s d = (word : List ℕ) × (partition_of_word s word ≡ Some d)

abbrev pub ReadsMoment : ℕ → Type 0
ReadsMoment moment = (word : List ℕ) × (number_below (2 ^ 62 + 1) word ≡ Some moment)

-- each part of a line behind the group line is what words mean
abbrev pub ReadsLine : Dimensions → Line → Type 0
ReadsLine s (Group _) = ⊥
ReadsLine s (Ask caller p act) = ReadsCaller caller × ReadsProcess s p × ReadsAct act
ReadsLine s (Collect caller call p) = ReadsCaller caller × ReadsNumber call × ReadsProcess s p
ReadsLine s (Deliver from to) = ReadsProcess s from × ReadsProcess s to × (same_process from to ≡ false)
ReadsLine s (Fail p keep) = ReadsProcess s p
ReadsLine s (Flush p) = ReadsProcess s p
ReadsLine s (Trace caller call d p) = ReadsCaller caller × ReadsNumber call × ReadsPartition s d × ReadsProcess s p
ReadsLine s (Show p run) = ReadsProcess s p × (nat_le (run.at + run.len) (space_of s) ≡ true)
ReadsLine s (Time moment) = ReadsMoment moment
ReadsLine s _ = ⊤

-- the keyword of a line behind the group line
abbrev pub keyword_in : Line → Option Keyword
keyword_in Skipped = None
keyword_in (Group _) = None
keyword_in (Ask _ _ _) = Some keyword.Ask
keyword_in (Collect _ _ _) = Some keyword.Collect
keyword_in (Deliver _ _) = Some keyword.Deliver
keyword_in (Fail _ _) = Some keyword.Fail
keyword_in (Flush _) = Some keyword.Flush
keyword_in (Trace _ _ _ _) = Some keyword.Trace
keyword_in Drain = Some keyword.Drain
keyword_in (Show _ _) = Some keyword.Show
keyword_in Places = Some keyword.Places
keyword_in (Time _) = Some keyword.Time
keyword_in Stop = Some keyword.Stop

pub record IsReadBy (s : Dimensions) (k : Keyword) (l : Line) : Type 0 where
  pub named : keyword_in l ≡ Some k
  pub parts : ReadsLine s l

moved : (s : Dimensions) (k : Keyword) (a l : Line) → Some a ≡ Some l → keyword_in a ≡ Some k → ReadsLine s a → IsReadBy s k l
moved s k a l is named read =
    let same : a ≡ l = cc is in subst (IsReadBy s k) same (record { named = named; parts = read })

delivery-words : (s : Dimensions) (from to : ProcessId) (l : Line) → ReadsProcess s from → ReadsProcess s to
    → delivery from to ≡ Some l → IsReadBy s keyword.Deliver l
delivery-words s from to l f t is = by (same_process from to) refl is
  where
    by : (b : Bool) → same_process from to ≡ b → (if b then None else Some (Deliver from to)) ≡ Some l
        → IsReadBy s keyword.Deliver l
    by true e is = cc is
    by false e is = moved s keyword.Deliver (Deliver from to) l is refl (f, t, e)

look-words : (s : Dimensions) (p : ProcessId) (run : Run) (l : Line) → ReadsProcess s p → look_within s p run ≡ Some l
    → IsReadBy s keyword.Show l
look-words s p run l at is =
    let shown = passed (nat_le (run.at + run.len) (space_of s)) (Some (Show p run)) l is in
    moved s keyword.Show (Show p run) l shown.1 refl (at, shown.0)

pub line_by-words : (s : Dimensions) (k : Keyword) (words : List (List ℕ)) (l : Line) → line_by s k words ≡ Some l → IsReadBy s k l
unfolding line_by
line_by-words s keyword.Ask (caller ∷ at ∷ op) l is =
    let c = bound (number_below callers caller) _ l is in
    let p = bound (process_of_word s at) _ l c.2 in
    let a = bound (act_of_words op) _ l p.2 in
    moved s keyword.Ask (Ask c.0 p.0 a.0) l a.2 refl ((caller, c.1), (at, p.1), act_of-words op a.0 a.1)
line_by-words s keyword.Collect (caller ∷ call ∷ at ∷ []) l is =
    let c = bound (number_below callers caller) _ l is in
    let n = bound (number_of call) _ l c.2 in
    let p = bound (process_of_word s at) _ l n.2 in
    moved s keyword.Collect (Collect c.0 n.0 p.0) l p.2 refl ((caller, c.1), (call, n.1), (at, p.1))
line_by-words s keyword.Deliver (from ∷ to ∷ []) l is =
    let f = bound (process_of_word s from) _ l is in
    let t = bound (process_of_word s to) _ l f.2 in
    delivery-words s f.0 t.0 l (from, f.1) (to, t.1) t.2
line_by-words s keyword.Fail (at ∷ keep ∷ []) l is =
    let p = bound (process_of_word s at) _ l is in
    let n = bound (keep_of_word keep) _ l p.2 in
    moved s keyword.Fail (Fail p.0 n.0) l n.2 refl (at, p.1)
line_by-words s keyword.Flush (at ∷ []) l is =
    let p = mapped Flush (process_of_word s at) l is in
    moved s keyword.Flush (Flush p.0) l (cc p.2) refl (at, p.1)
line_by-words s keyword.Trace (caller ∷ call ∷ partition ∷ at ∷ []) l is =
    let c = bound (number_below callers caller) _ l is in
    let n = bound (number_of call) _ l c.2 in
    let d = bound (partition_of_word s partition) _ l n.2 in
    let p = bound (process_of_word s at) _ l d.2 in
    moved s keyword.Trace (Trace c.0 n.0 d.0 p.0) l p.2 refl ((caller, c.1), (call, n.1), (partition, d.1), (at, p.1))
line_by-words s keyword.Drain [] l is = moved s keyword.Drain Drain l is refl tt
line_by-words s keyword.Show (at ∷ from ∷ len ∷ []) l is =
    let p = bound (process_of_word s at) _ l is in
    let r = bound (run_of_words from len) _ l p.2 in
    look-words s p.0 r.0 l (at, p.1) r.2
line_by-words s keyword.Places [] l is = moved s keyword.Places Places l is refl tt
line_by-words s keyword.Time (moment ∷ []) l is =
    let n = mapped Time (number_below (2 ^ 62 + 1) moment) l is in
    moved s keyword.Time (Time n.0) l (cc n.2) refl (moment, n.1)
line_by-words s keyword.Stop [] l is = moved s keyword.Stop Stop l is refl tt
line_by-words s k words l is = cc is

or_bad_line-some : (o : Option Line) (l : Line) → or_bad_line o ≡ Ok l → o ≡ Some l
or_bad_line-some None l is = cc is
or_bad_line-some (Some x) l is = cc is

event_line-words : (s : Dimensions) (words : List (List ℕ)) (l : Line) → event_line s words ≡ Some l → ReadsLine s l
event_line-words s [] l is = cc is
event_line-words s (name ∷ words) l is =
    let k = bound (keyword_of name) _ l is in (line_by-words s k.0 words l k.2).parts

-- a line behind the group line
pub line_of-words : (s : Dimensions) (line : List ℕ) (l : Line) → line_meaning (Some s) line ≡ Ok l → ReadsLine s l
line_of-words s line l is = by (is_skipped line) is
  where
    by : (b : Bool) → (if b then Ok Skipped else or_bad_line (event_line s (split_words line))) ≡ Ok l → ReadsLine s l
    by true is = let same : Skipped ≡ l = cc is in subst (ReadsLine s) same tt
    by false is = event_line-words s (split_words line) l (or_bad_line-some (event_line s (split_words line)) l is)
