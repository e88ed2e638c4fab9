-- What is written for the lines of a script is what its course tells, line by line.
use Rattle.std.proofs.Common.{◌≡◌, ◌+◌, ℕ, zero, suc, Bool, true, false, nat_lt, List, [], ◌∷◌, ◌++◌, ◌∙◌, codes}
use Rattle.std.proofs.Common.{length, map, append_assoc, Option, Some, None, Result, Ok, Err, if◌then◌else◌, refl, sym}
use Rattle.std.proofs.Common.{ap, arith}
use Rattle.std.proofs.lemmas.List.{append-nil}
use Rattle.std.specs.Fmt.{decimal}
use Rattle.std.specs.List.{range_with_len}
use Rattle.std.specs.Prelude.{⊤}
use Rattle.group_types.specs.Lists.{at}
use Rattle.group_types.specs.declared.process.ProcessId.{ProcessId}
use Rattle.group_types.specs.declared.run.Run.{Run}
use Rattle.group_calls.specs.Turns.{Turn, log_of}
use Rattle.group_calls.specs.declared.entry.Entry.{Entry}
use Rattle.group_calls.specs.declared.event.Event.{Event}
use Rattle.group_calls.specs.declared.event.Event.TheVariants as happens
use Rattle.group_run.specs.Meaning.{is_dead}
use Rattle.group_run.specs.Shown.{held, is_down, stamp_of}
use Rattle.group_run.specs.World.{World, step, turns_from}
use Rattle.scenario_text.specs.Meaning.{line_meaning}
use Rattle.scenario_text.specs.Texts.{answer_text, entries_text, entry_text, many_placed, place_text, places_text, shown_text}
use Rattle.scenario_text.specs.declared.line.Line.{Line}
use Rattle.scenario_text.specs.declared.line.Line.TheVariants.{Skipped, Group, Ask, Collect, Deliver, Fail, Flush, Trace, Drain, Show, Places, Time, Stop}
use Rattle.scenario_text.specs.declared.line.LineFault.{LineFault}
use Rattle.scenario_text.specs.declared.line.LineFault.TheVariants.{BadLine}
use Rattle.scenario_run.specs.Course.{Ends, Goes, Refused, text_in}
use Rattle.scenario_run.specs.Placing.{many_runs, placed_text, runs_text}
use Rattle.scenario_run.specs.Playing.{Play, PlayNext, by_event, drained_text, draining_unless_down, first_by, look, next_by, next_of, shape_in, then_by}
use Rattle.scenario_run.specs.Playing.{turn_text}
use Rattle.run_verify.specs.Told.{Down, Drained, Lost, Made, Placed, Shown, ToldStep, count_placed, drained_line}
use Rattle.run_verify.specs.Told.{lines_told, place_lines, placed_line, run_lines, told_lines}
use Rattle.law_transcripts.proofs.Joining.{joined, joined-append}
use Rattle.law_transcripts.proofs.Telling.{looked, places_of, told_along, told_by, told_on}

pub lines-append : (xs ys : List ToldStep) → lines_told (xs ++ ys) ≡ lines_told xs ++ lines_told ys
lines-append [] ys = refl
lines-append (x ∷ xs) ys = ap (λ (ls : List (List ℕ)). told_lines x ++ ls) (lines-append xs ys)
    ∙ sym (append_assoc (told_lines x) (lines_told xs) (lines_told ys))

one : (t : ToldStep) → joined (told_lines t) ≡ joined (lines_told (t ∷ []))
one t = ap joined (sym (append-nil (told_lines t)))

-- ---- what is written

entries-joined : (es : List Entry) → entries_text es ≡ joined (map entry_text es)
entries-joined [] = refl
entries-joined (e ∷ es) = ap (λ (t : List ℕ). entry_text e ++ 10 ∷ t) (entries-joined es)

turn-joined : (t : Turn) → turn_text t ≡ joined (told_lines (Made t))
turn-joined t = ap (λ (x : List ℕ). answer_text t.answer ++ 10 ∷ x) (entries-joined t.logged)

drained-joined : (ts : List Turn) → drained_text ts ≡ joined (told_lines (Drained ts (length ts)))
drained-joined ts = ap (λ (x : List ℕ). x ++ (codes "drained " ++ (decimal (length ts) ++ codes "\n"))) (entries-joined (log_of ts))
    ∙ sym (joined-append (map entry_text (log_of ts)) (drained_line (length ts) ∷ []))

looked-joined : (w : World) (p : ProcessId) (run : Run) → look w p (held w p run) ++ 10 ∷ [] ≡ joined (told_lines (looked w p run))
looked-joined w p run = by (is_down w) (is_dead w p)
  where
    by : (down dead : Bool) → (if down then codes "down" else (if dead then codes "lost" else shown_text (stamp_of w p) (held w p run))) ++ 10 ∷ []
        ≡ joined (told_lines (if down then Down else (if dead then Lost else Shown (stamp_of w p) (held w p run))))
    by true dead = refl
    by false true = refl
    by false false = refl

places-joined : (d n : ℕ) (runs : List (Option Run)) → places_text d n runs ≡ joined (run_lines d n runs)
places-joined d n [] = refl
places-joined d n (None ∷ runs) = places-joined d (suc n) runs
places-joined d n (Some run ∷ runs) = ap (λ (t : List ℕ). place_text d (suc n) run ++ 10 ∷ t) (places-joined d (suc n) runs)

module _ (w : World) where
  runs-joined : (d n : ℕ) → runs_text [] w (range_with_len d n) ≡ joined (place_lines d (map (λ e. at [] w.places e) (range_with_len d n)))
  runs-joined d zero = refl
  runs-joined d (suc n) =
      let rest : List (List (Option Run)) = map (λ e. at [] w.places e) (range_with_len (d + 1) n) in
      let next : d + 1 ≡ suc d = omega arith in
      let first = places-joined d 0 (at [] w.places d) in
      let later = runs-joined (d + 1) n ∙ ap (λ (e : ℕ). joined (place_lines e rest)) next in
      (λ i. first i ++ later i) ∙ sym (joined-append (run_lines d 0 (at [] w.places d)) (place_lines (suc d) rest))

  many-placed : (ds : List ℕ) → many_runs w ds ≡ count_placed (map (λ e. at [] w.places e) ds)
  many-placed [] = refl
  many-placed (d ∷ ds) = ap (λ (n : ℕ). many_placed (at [] w.places d) + n) (many-placed ds)

  placed-joined : placed_text [] w ≡ joined (told_lines (Placed (places_of w)))
  placed-joined =
      let runs = runs-joined 0 w.shape.k in
      let many = many-placed (range_with_len 0 w.shape.k) in
      (λ i. runs i ++ (codes "placed " ++ (decimal (many i) ++ codes "\n")))
      ∙ sym (joined-append (place_lines 0 (places_of w)) (placed_line (count_placed (places_of w)) ∷ []))

-- what is written for a line is what it tells
abbrev Writes : PlayNext → List ToldStep → Type 0
Writes (Goes q turns text) told = text ≡ joined (lines_told told)
Writes Ends told = ⊤
Writes (Refused cause) told = ⊤

event-writes : (p : Play) (e : Event) → turn_text (step p.world e).turn ≡ joined (lines_told (Made (step p.world e).turn ∷ []))
event-writes p e = turn-joined (step p.world e).turn ∙ one (Made (step p.world e).turn)

then-writes : (p : Play) (l : Line) → Writes (then_by p l) (told_by p l)
then-writes p Skipped = refl
then-writes p (Group shape) = tt
then-writes p (Ask caller from act) = event-writes p (happens.Ask caller (record { moment = p.moment; act = act }) from)
then-writes p (Collect caller call from) = event-writes p (happens.Collect caller call from)
then-writes p (Deliver from to) = event-writes p (happens.Deliver from to)
then-writes p (Fail from keep) = event-writes p (happens.Fail from keep)
then-writes p (Flush from) = event-writes p (happens.Flush from)
then-writes p (Trace caller call d from) = by (nat_lt call (at 0 p.world.asked caller))
  where
    by : (b : Bool) → Writes (if b then by_event p (happens.Trace caller call d from) else Refused BadLine) (told_by p (Trace caller call d from))
    by true = event-writes p (happens.Trace caller call d from)
    by false = tt
then-writes p Drain =
    let turns : List Turn = turns_from p.world (draining_unless_down p.world) in
    drained-joined turns ∙ one (Drained turns (length turns))
then-writes p (Show from run) = looked-joined p.world from run ∙ one (looked p.world from run)
then-writes p Places = placed-joined p.world ∙ one (Placed (places_of p.world))
then-writes p (Time moment) = refl
then-writes p Stop = tt

first-writes : (l : Line) → Writes (first_by l) []
first-writes Skipped = refl
first-writes (Group shape) = refl
first-writes l = tt

line-writes : (p : Option Play) (r : Result Line LineFault) → Writes (next_by p r) (told_on p r)
line-writes None (Err fault) = tt
line-writes (Some p) (Err fault) = tt
line-writes None (Ok l) = first-writes l
line-writes (Some p) (Ok l) = then-writes p l

-- what is told from a line on, and what is written for it, by what it does
abbrev pub told_from : Option Play → List ℕ → List (List ℕ) → PlayNext → List ToldStep
told_from p line lines next =
    elim next [ Goes q turns text ↦ told_on p (line_meaning (shape_in p) line) ++ told_along q lines | Ends ↦ [] | Refused cause ↦ [] ]

abbrev text_from : List (List ℕ) → PlayNext → List ℕ
text_from lines next = elim next [ Goes q turns text ↦ text ++ text_in next_of q lines | Ends ↦ [] | Refused cause ↦ [] ]

pub text-joined : (p : Option Play) (lines : List (List ℕ)) → text_in next_of p lines ≡ joined (lines_told (told_along p lines))
text-joined p [] = refl
text-joined p (line ∷ lines) = by (next_of p line) (line-writes p (line_meaning (shape_in p) line)) (λ q. text-joined q lines)
  where
    by : (next : PlayNext) → Writes next (told_on p (line_meaning (shape_in p) line))
        → ((q : Option Play) → text_in next_of q lines ≡ joined (lines_told (told_along q lines)))
        → text_from lines next ≡ joined (lines_told (told_from p line lines next))
    by Ends writes later = refl
    by (Refused cause) writes later = refl
    by (Goes q turns text) writes later =
        let own : List ToldStep = told_on p (line_meaning (shape_in p) line) in
        let rest = later q in
        (λ i. writes i ++ rest i) ∙ sym (joined-append (lines_told own) (lines_told (told_along q lines)))
        ∙ ap joined (sym (lines-append own (told_along q lines)))
