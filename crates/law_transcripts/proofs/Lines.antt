-- The lines of a script's transcript are those that its course tells: none holds a line end within.
use Rattle.std.proofs.Common.{◌≡◌, ℕ, suc, Bool, true, false, nat_lt, List, [], ◌∷◌, ◌++◌, ◌∙◌, codes, length, map}
use Rattle.std.proofs.Common.{Option, Some, None, Result, Ok, Err, if◌then◌else◌, sym, ap, subst}
use Rattle.std.proofs.lemmas.List.{append-nil}
use Rattle.std.proofs.lemmas.List.Elements.{All-append, All-cons, All-head, All-nil, All-tail}
use Rattle.std.specs.Fmt.{decimal}
use Rattle.std.specs.Prelude.{All, ⊤}
use Rattle.group_types.specs.Lists.{at}
use Rattle.group_types.specs.declared.process.ProcessId.{ProcessId}
use Rattle.group_types.specs.declared.run.Run.{Run}
use Rattle.memc_table.specs.Act.{key_of}
use Rattle.group_calls.specs.Turns.{Turn, log_of}
use Rattle.group_calls.specs.declared.entry.Entry.{Entry}
use Rattle.group_calls.specs.declared.event.Event.TheVariants as happens
use Rattle.group_run.specs.Meaning.{is_dead}
use Rattle.group_run.specs.Shown.{held, is_down, stamp_of}
use Rattle.group_run.specs.World.{World, step, turns_from}
use Rattle.scenario_text.specs.Meaning.{line_meaning}
use Rattle.scenario_text.specs.Texts.{answer_text, entry_text, place_text, shown_text}
use Rattle.scenario_text.specs.declared.line.Line.{Line}
use Rattle.scenario_text.specs.declared.line.Line.TheVariants.{Skipped, Group, Ask, Collect, Deliver, Fail, Flush, Trace, Drain, Show, Places, Time, Stop}
use Rattle.scenario_text.specs.declared.line.LineFault.{LineFault}
use Rattle.scenario_text.specs.declared.line.LineFault.TheVariants.{BadLine}
use Rattle.scenario_run.specs.Course.{Ends, Goes, Refused, text_in, turns_of_lines}
use Rattle.scenario_run.specs.Lines.{lines_of}
use Rattle.scenario_run.specs.Playing.{Play, PlayNext, by_event, draining_unless_down, first_by, next_by, next_of, shape_in, then_by}
use Rattle.scenario_run.proofs.Following.{turns_after}
use Rattle.run_verify.specs.Told.{Down, Drained, Lost, Made, Placed, Shown, ToldStep, count_placed, drained_line}
use Rattle.run_verify.specs.Told.{lines_told, place_lines, placed_line, run_lines, told_lines}
use Rattle.law_transcripts.proofs.Joining.{lines-joined}
use Rattle.law_transcripts.proofs.Parts.{back-all, front-all, log-append}
use Rattle.law_transcripts.proofs.Plain.{Plain, append, number}
use Rattle.law_transcripts.proofs.PlainTexts as plain
use Rattle.law_transcripts.proofs.Written.{lines-append, text-joined, told_from}
use Rattle.law_transcripts.proofs.Telling.{looked, places_of, told_along, told_by, told_on}

-- the key of an entry has no line end
abbrev pub PlainKey : Entry → Type 0
PlainKey e = Plain (key_of e.op.act)

entries-plain : (es : List Entry) → All PlainKey es → All Plain (map entry_text es)
entries-plain [] keys = All-nil Plain
entries-plain (e ∷ es) keys = All-cons Plain (entry_text e) (map entry_text es) (plain.entry e (All-head PlainKey e es keys))
    (entries-plain es (All-tail PlainKey e es keys))

made-plain : (t : Turn) → All PlainKey (log_of (t ∷ [])) → All Plain (lines_told (Made t ∷ []))
made-plain t keys = subst (All Plain) (sym (append-nil (told_lines (Made t))))
    (All-cons Plain (answer_text t.answer) (map entry_text t.logged) (plain.answer t.answer)
    (entries-plain t.logged (subst (All PlainKey) (append-nil t.logged) keys)))

counted-plain : (front : List ℕ) (n : ℕ) → Plain front → All Plain ((front ++ decimal n) ∷ [])
counted-plain front n first = All-cons Plain (front ++ decimal n) [] (append front (decimal n) first (number n)) (All-nil Plain)

drained-plain : (ts : List Turn) → All PlainKey (log_of ts) → All Plain (lines_told (Drained ts (length ts) ∷ []))
drained-plain ts keys = subst (All Plain) (sym (append-nil (told_lines (Drained ts (length ts)))))
    (All-append Plain (map entry_text (log_of ts)) (drained_line (length ts) ∷ []) (entries-plain (log_of ts) keys)
    (counted-plain (codes "drained ") (length ts) plain.drained))

looked-plain : (w : World) (p : ProcessId) (run : Run) → All Plain (lines_told (looked w p run ∷ []))
looked-plain w p run = by (is_down w) (is_dead w p)
  where
    by : (down dead : Bool) → All Plain (lines_told ((if down then Down else (if dead then Lost else Shown (stamp_of w p) (held w p run))) ∷ []))
    by true dead = All-cons Plain (codes "down") [] plain.down (All-nil Plain)
    by false true = All-cons Plain (codes "lost") [] plain.lost (All-nil Plain)
    by false false = All-cons Plain (shown_text (stamp_of w p) (held w p run)) [] (plain.shown (stamp_of w p) (held w p run)) (All-nil Plain)

runs-plain : (d n : ℕ) (runs : List (Option Run)) → All Plain (run_lines d n runs)
runs-plain d n [] = All-nil Plain
runs-plain d n (None ∷ runs) = runs-plain d (suc n) runs
runs-plain d n (Some run ∷ runs) = All-cons Plain (place_text d (suc n) run) (run_lines d (suc n) runs) (plain.place d (suc n) run) (runs-plain d (suc n) runs)

places-plain : (d : ℕ) (runs : List (List (Option Run))) → All Plain (place_lines d runs)
places-plain d [] = All-nil Plain
places-plain d (runs ∷ others) = All-append Plain (run_lines d 0 runs) (place_lines (suc d) others) (runs-plain d 0 runs) (places-plain (suc d) others)

placed-plain : (runs : List (List (Option Run))) → All Plain (lines_told (Placed runs ∷ []))
placed-plain runs = subst (All Plain) (sym (append-nil (told_lines (Placed runs))))
    (All-append Plain (place_lines 0 runs) (placed_line (count_placed runs) ∷ []) (places-plain 0 runs)
    (counted-plain (codes "placed ") (count_placed runs) plain.placed))

-- what a line tells has lines without a line end, where the keys of what it logs have none
abbrev TellsPlainly : PlayNext → List ToldStep → Type 0
TellsPlainly (Goes q turns text) told = All PlainKey (log_of turns) → All Plain (lines_told told)
TellsPlainly Ends told = ⊤
TellsPlainly (Refused cause) told = ⊤

then-plain : (p : Play) (l : Line) → TellsPlainly (then_by p l) (told_by p l)
then-plain p Skipped = λ keys. All-nil Plain
then-plain p (Group shape) = tt
then-plain p (Ask caller from act) = λ keys. made-plain (step p.world (happens.Ask caller (record { moment = p.moment; act = act }) from)).turn keys
then-plain p (Collect caller call from) = λ keys. made-plain (step p.world (happens.Collect caller call from)).turn keys
then-plain p (Deliver from to) = λ keys. made-plain (step p.world (happens.Deliver from to)).turn keys
then-plain p (Fail from keep) = λ keys. made-plain (step p.world (happens.Fail from keep)).turn keys
then-plain p (Flush from) = λ keys. made-plain (step p.world (happens.Flush from)).turn keys
then-plain p (Trace caller call d from) = by (nat_lt call (at 0 p.world.asked caller))
  where
    by : (b : Bool) → TellsPlainly (if b then by_event p (happens.Trace caller call d from) else Refused BadLine) (told_by p (Trace caller call d from))
    by true = made-plain (step p.world (happens.Trace caller call d from)).turn
    by false = tt
then-plain p Drain = λ keys. drained-plain (turns_from p.world (draining_unless_down p.world)) keys
then-plain p (Show from run) = λ keys. looked-plain p.world from run
then-plain p Places = λ keys. placed-plain (places_of p.world)
then-plain p (Time moment) = λ keys. All-nil Plain
then-plain p Stop = tt

line-plain : (p : Option Play) (r : Result Line LineFault) → TellsPlainly (next_by p r) (told_on p r)
line-plain None (Err fault) = tt
line-plain (Some p) (Err fault) = tt
line-plain (Some p) (Ok l) = then-plain p l
line-plain None (Ok l) = by (first_by l)
  where
    by : (next : PlayNext) → TellsPlainly next []
    by (Goes q turns text) = λ keys. All-nil Plain
    by Ends = tt
    by (Refused cause) = tt

pub told-plain : (p : Option Play) (lines : List (List ℕ)) → All PlainKey (log_of (turns_of_lines next_of p lines))
    → All Plain (lines_told (told_along p lines))
told-plain p [] keys = All-nil Plain
told-plain p (line ∷ lines) keys = by (next_of p line) (line-plain p (line_meaning (shape_in p) line)) (λ q. told-plain q lines) keys
  where
    by : (next : PlayNext) → TellsPlainly next (told_on p (line_meaning (shape_in p) line))
        → ((q : Option Play) → All PlainKey (log_of (turns_of_lines next_of q lines)) → All Plain (lines_told (told_along q lines)))
        → All PlainKey (log_of (turns_after next_of next lines)) → All Plain (lines_told (told_from p line lines next))
    by Ends own later keys = All-nil Plain
    by (Refused cause) own later keys = All-nil Plain
    by (Goes q turns text) own later keys =
        let told : List ToldStep = told_on p (line_meaning (shape_in p) line) in
        let both : All PlainKey (log_of turns ++ log_of (turns_of_lines next_of q lines)) =
        subst (All PlainKey) (log-append turns (turns_of_lines next_of q lines)) keys in
        subst (All Plain) (sym (lines-append told (told_along q lines)))
        (All-append Plain (lines_told told) (lines_told (told_along q lines))
        (own (front-all PlainKey (log_of turns) (log_of (turns_of_lines next_of q lines)) both))
        (later q (back-all PlainKey (log_of turns) (log_of (turns_of_lines next_of q lines)) both)))

-- the transcript is cut into the lines that are told
pub lines-told : (p : Option Play) (lines : List (List ℕ)) → All PlainKey (log_of (turns_of_lines next_of p lines))
    → lines_of (text_in next_of p lines) ≡ lines_told (told_along p lines)
lines-told p lines keys = ap lines_of (text-joined p lines) ∙ lines-joined (lines_told (told_along p lines)) (told-plain p lines keys)
