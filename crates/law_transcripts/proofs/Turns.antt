-- The turns that are told along a script are those of its lines, so they are legal and answered within their time.
use Rattle.std.proofs.Common.{ℕ, ◌≡◌, Bool, true, false, nat_lt, List, [], ◌∷◌, ◌++◌, Option, Some, None, Result, Ok}
use Rattle.std.proofs.Common.{Err, if◌then◌else◌, refl, sym, ap, ap₂, subst, ◌∙◌, append-nil, append_assoc}
use Rattle.group_types.specs.Lists.{at}
use Rattle.group_types.specs.declared.process.ProcessId.{ProcessId}
use Rattle.group_types.specs.declared.run.Run.{Run}
use Rattle.group_calls.specs.Log.{IsLegal}
use Rattle.group_calls.specs.Turns.{Turn, log_of}
use Rattle.group_calls.specs.Within.{AnswersWithin}
use Rattle.group_calls.specs.declared.event.Event.{Event}
use Rattle.group_calls.specs.declared.event.Event.TheVariants as happens
use Rattle.group_run.specs.Meaning.{is_dead}
use Rattle.group_run.specs.Shown.{held, is_down, stamp_of}
use Rattle.group_run.specs.World.{step, turns_from, world_after}
use Rattle.scenario_text.specs.Meaning.{line_meaning}
use Rattle.scenario_text.specs.declared.line.Line.{Line}
use Rattle.scenario_text.specs.declared.line.Line.TheVariants.{Skipped, Group, Ask, Collect, Deliver, Fail, Flush, Trace, Drain, Show, Places, Time, Stop}
use Rattle.scenario_text.specs.declared.line.LineFault.{LineFault}
use Rattle.scenario_text.specs.declared.line.LineFault.TheVariants.{BadLine}
use Rattle.scenario_run.specs.Course as course
use Rattle.scenario_run.specs.Course.{Ends, Goes, Refused}
use Rattle.scenario_run.specs.Lines.{lines_of}
use Rattle.scenario_run.specs.Playing.{Play, PlayNext, by_event, by_trace, drained_text, draining_unless_down, look, next_by, next_of, shape_in, then_by}
use Rattle.scenario_run.specs.Playing.{turn_text}
use Rattle.scenario_run.specs.Placing.{placed_text}
use Rattle.scenario_run.specs.Promises.{KeepsPromises}
use Rattle.scenario_run.specs.Script.{script_turns}
use Rattle.scenario_run.proofs.Following.{turns_after}
use Rattle.scenario_run.proofs.Running.{line-opens, parts}
use Rattle.run_verify.specs.Checked.{RepliesWithin}
use Rattle.run_verify.specs.Told.{ToldStep, Shown, Lost, Down, turns_told_in, turns_told}
use Rattle.law_transcripts.proofs.Telling.{looked, told_along, told_by, told_on}

-- ---- line by line

turns-append : (xs ys : List ToldStep) → turns_told (xs ++ ys) ≡ turns_told xs ++ turns_told ys
turns-append [] ys = refl
turns-append (x ∷ xs) ys =
    ap (λ (ts : List Turn). turns_told_in x ++ ts) (turns-append xs ys) ∙ sym (append_assoc (turns_told_in x) (turns_told xs) (turns_told ys))

by-event : (p : Play) (e : Event) (next : Option Play) (turns : List Turn) (text : List ℕ) → by_event p e ≡ Goes next turns text
    → (step p.world e).turn ∷ [] ≡ turns
by-event p e next turns text is =
    let both = parts (Some (record { world = (step p.world e).world; moment = p.moment })) next ((step p.world e).turn ∷ []) turns
    (turn_text (step p.world e).turn) text is in
    sym both.1

by-trace : (p : Play) (caller call : ℕ) (e : Event) (next : Option Play) (turns : List Turn) (text : List ℕ)
    → by_trace p caller call e ≡ Goes next turns text → (step p.world e).turn ∷ [] ≡ turns
by-trace p caller call e next turns text is = by (nat_lt call (at 0 p.world.asked caller)) is where
  by : (b : Bool) → (if b then by_event p e else Refused BadLine) ≡ Goes next turns text → (step p.world e).turn ∷ [] ≡ turns
  by true goes = by-event p e next turns text goes
  by false goes = absurd (cc goes)

-- a line that makes no event
abbrev silently : Option Play → List ℕ → PlayNext
silently next text = Goes next [] text

quiet : (q : Option Play) (written : List ℕ) (next : Option Play) (turns : List Turn) (text : List ℕ)
    → silently q written ≡ Goes next turns text → [] ≡ turns
quiet q written next turns text is = let both = parts q next [] turns written text is in sym both.1

-- a look tells no turn and no runs
pub quiet-look : (p : Play) (from : ProcessId) (run : Run) → turns_told_in (looked p.world from run) ≡ []
quiet-look p from run = by (is_down p.world) (is_dead p.world from) where
  by : (down dead : Bool) → turns_told_in (if down then Down else (if dead then Lost else Shown (stamp_of p.world from) (held p.world from run))) ≡ []
  by true dead = refl
  by false true = refl
  by false false = refl

turns-by : (p : Play) (l : Line) (next : Option Play) (turns : List Turn) (text : List ℕ) → then_by p l ≡ Goes next turns text
    → turns_told (told_by p l) ≡ turns
turns-by p Skipped next turns text is = quiet (Some p) [] next turns text is
turns-by p (Group shape) next turns text is = absurd (cc is)
turns-by p (Ask caller from act) next turns text is = by-event p (happens.Ask caller (record { moment = p.moment; act = act }) from) next turns text is
turns-by p (Collect caller call from) next turns text is = by-event p (happens.Collect caller call from) next turns text is
turns-by p (Deliver from to) next turns text is = by-event p (happens.Deliver from to) next turns text is
turns-by p (Fail from keep) next turns text is = by-event p (happens.Fail from keep) next turns text is
turns-by p (Flush from) next turns text is = by-event p (happens.Flush from) next turns text is
turns-by p (Trace caller call d from) next turns text is = by-trace p caller call (happens.Trace caller call d from) next turns text is
turns-by p Drain next turns text is =
    let ts : List Turn = turns_from p.world (draining_unless_down p.world) in
    let both = parts (Some (record { world = world_after p.world (draining_unless_down p.world); moment = p.moment })) next ts turns
    (drained_text ts) text is in
    append-nil ts ∙ sym both.1
turns-by p (Show from run) next turns text is = append-nil (turns_told_in (looked p.world from run)) ∙ quiet-look p from run
    ∙ quiet (Some p) (look p.world from (held p.world from run) ++ 10 ∷ []) next turns text is
turns-by p Places next turns text is = quiet (Some p) (placed_text [] p.world) next turns text is
turns-by p (Time moment) next turns text is = quiet (Some (record { world = p.world; moment = moment })) [] next turns text is
turns-by p Stop next turns text is = absurd (cc is)

turns-on : (p : Play) (l : Result Line LineFault) (next : Option Play) (turns : List Turn) (text : List ℕ)
    → next_by (Some p) l ≡ Goes next turns text → turns_told (told_on (Some p) l) ≡ turns
turns-on p (Err fault) next turns text is = absurd (cc is)
turns-on p (Ok l) next turns text is = turns-by p l next turns text is

pub turns-line-told : (play : Option Play) (line : List ℕ) (next : Option Play) (turns : List Turn) (text : List ℕ)
    → next_of play line ≡ Goes next turns text
    → turns_told (told_on play (line_meaning (shape_in play) line)) ≡ turns
turns-line-told None line next turns text is = sym (line-opens line next turns text is).quiet
turns-line-told (Some p) line next turns text is = turns-on p (line_meaning (Some p.world.shape) line) next turns text is

-- ---- line behind line

-- what is told for a line that does this, and behind it
abbrev pub told_after : Option Play → List ℕ → PlayNext → List (List ℕ) → List ToldStep
told_after play line next lines = elim next
    [ Goes state turns text ↦ told_on play (line_meaning (shape_in play) line) ++ told_along state lines | Ends ↦ [] | Refused cause ↦ [] ]

pub turns-along : (play : Option Play) (lines : List (List ℕ)) → turns_told (told_along play lines) ≡ course.turns_of_lines next_of play lines
turns-along play [] = refl
turns-along play (line ∷ lines) = by (next_of play line) refl (λ q. turns-along q lines) where
  by : (next : PlayNext) → next_of play line ≡ next → ((q : Option Play) → turns_told (told_along q lines) ≡ course.turns_of_lines next_of q lines)
      → turns_told (told_after play line next lines) ≡ turns_after next_of next lines
  by Ends is later = refl
  by (Refused cause) is later = refl
  by (Goes next turns text) is later =
      turns-append (told_on play (line_meaning (shape_in play) line)) (told_along next lines)
      ∙ ap₂ (λ (ts us : List Turn). ts ++ us) (turns-line-told play line next turns text is) (later next)

-- ---- the turns of a script

-- what is promised of answers within their time is more
replies-within : (k : ℕ) (turns : List Turn) → AnswersWithin k turns → RepliesWithin turns
replies-within k turns within = record { once = within.once; asked = within.asked; at_once = within.at_once; later = within.later; refused = within.refused }

module _ (text : List ℕ) (keeps : KeepsPromises text) where
  told-are : script_turns text ≡ turns_told (told_along None (lines_of text))
  told-are = sym (turns-along None (lines_of text))

  pub legal-told : IsLegal keeps.shape.k (log_of (turns_told (told_along None (lines_of text))))
  legal-told = subst (λ (ts : List Turn). IsLegal keeps.shape.k (log_of ts)) told-are keeps.legal

  pub within-told : RepliesWithin (turns_told (told_along None (lines_of text)))
  within-told = subst RepliesWithin told-are (replies-within keeps.shape.k (script_turns text) keeps.within)
