-- Every script's group keeps the promises of the headline.
use Rattle.std.proofs.Common.{ℕ, ◌≡◌, List, [], ◌∷◌, ◌++◌, map, Option, Some, Result, Ok, refl, sym, ap, subst, ◌∙◌}
use Rattle.group_types.specs.Dimensions.{Dimensions}
use Rattle.group_types.specs.Shape.{IsShape}
use Rattle.group_calls.specs.Log.{IsLegal}
use Rattle.group_calls.specs.Turns.{Turn, log_of}
use Rattle.group_calls.specs.Within.{AnswersWithin}
use Rattle.group_calls.specs.declared.event.Event.{Event}
use Rattle.group_run.specs.Headline.{Headline, IsRun}
use Rattle.group_run.specs.World as machine
use Rattle.group_run.specs.World.{World, opening, step}
use Rattle.law_headline.proofs.Headlines.{headline_always}
use Rattle.group_run.specs.Shown.{HoldsTruth, held, stamp_of}
use Rattle.law_headline.proofs.Truth.{truth_always}
use Rattle.scenario_text.specs.Meaning.{IsLineOf, line_meaning}
use Rattle.scenario_text.specs.declared.line.Line.{Line}
use Rattle.scenario_text.specs.declared.line.Line.TheVariants.{Show}
use Rattle.scenario_text.specs.declared.line.LineFault.{LineFault}
use Rattle.scenario_text.specs.declared.line.LineFault.TheVariants.{BadLine}
use Rattle.scenario_text.proofs.Lines.{line_of-within}
use Rattle.scenario_run.specs.Lines.{lines_of}
use Rattle.scenario_run.specs.Course.{Goes, turns_of_lines}
use Rattle.scenario_run.specs.Playing.{Play, look, next_by, next_of, shape_in, play_from}
use Rattle.scenario_run.specs.Promises.{AreTrueLines, IsTrueLine, ScriptsKeepPromises, ShowsTruth}
use Rattle.scenario_run.specs.Script.{script_events, script_turns}
use Rattle.scenario_run.proofs.Beginning.{Begins, Onward, all-along, along, begins}
use Rattle.scenario_run.proofs.Leading.{IsLedTo, Leads, leads-then, led-on, opened}
use Rattle.scenario_run.proofs.Running.{line-leads, line-opens, never-ends, parts}
use Rattle.scenario_run.proofs.Truth.{shows-with, true-show}

-- the lines behind the group line make a run
record Runs (w : World) (turns : List Turn) : Type 0 where
  v : World
  leads : Leads w v turns

module _ (s : Dimensions) where
  none : (w : World) → Runs w []
  none w = record { v = w; leads = record { events = []; run = tt; turns_are = refl; to = refl } }

  onward : (p : Play) (line : List ℕ) (next : Option Play) (turns : List Turn) (text : List ℕ) → IsLedTo s p.world
      → next_of (Some p) line ≡ Goes next turns text
      → Onward (λ q. IsLedTo s q.world) (λ q ts us. Runs q.world ts) p next turns text
  onward p line next turns text led is = let on = line-leads s p line next turns text led is in record {
    state = on.play;
    is = on.is;
    ready = led-on s p.world on.play.world turns led on.leads;
    comes = λ ts us rest. record { v = rest.v; leads = leads-then p.world on.play.world rest.v turns ts on.leads rest.leads };
  }

  runs : (p : Play) (lines : List (List ℕ)) → IsLedTo s p.world → Runs p.world (turns_of_lines next_of (Some p) lines)
  runs = along next_of (λ q. IsLedTo s q.world) (λ q ts us. Runs q.world ts) (λ q. none q.world) onward

  -- what is shown behind the group line is true
  truth : (w : World) → IsLedTo s w → HoldsTruth w
  truth w led = subst HoldsTruth (sym led.is) (truth_always s led.events led.run)

  true-line : (p : Play) (l : Result Line LineFault) (next : Option Play) (turns : List Turn) (text : List ℕ)
      → IsLedTo s p.world → ((l' : Line) → l ≡ Ok l' → IsLineOf (Some p.world.shape) l')
      → next_by (Some p) l ≡ Goes next turns text → IsTrueLine (Some p) l text
  true-line p l next turns text led within is = true-show (ShowsTruth p.world) l text (λ from run reads.
      (parts (Some p) next [] turns (look p.world from (held p.world from run) ++ 10 ∷ []) text (sym (ap (next_by (Some p)) reads) ∙ is)).2
      ∙ shows-with (stamp_of p.world from) p.world from run (within (Show from run) reads).0 (truth p.world led))

  true-lines : (p : Play) (lines : List (List ℕ)) → IsLedTo s p.world → AreTrueLines (Some p) lines
  true-lines = all-along next_of (λ q. IsLedTo s q.world) (λ q ts us. Runs q.world ts) (λ q. none q.world) onward
      (λ q line text. IsTrueLine q (line_meaning (shape_in q) line) text)
      (λ p line next turns text led is. true-line p (line_meaning (Some p.world.shape) line) next turns text led
      (λ l reads. line_of-within (Some p.world.shape) line l reads) is)

-- the events of turns
events-are : (w : World) (es : List Event) → map (λ turn. turn.event) (machine.turns_from w es) ≡ es
events-are w [] = refl
events-are w (e ∷ es) = ap (λ (xs : List Event). e ∷ xs) (events-are (step w e).world es)

pub scripts_keep_promises : ScriptsKeepPromises
scripts_keep_promises text whole = record {
  shape = s;
  named = ap shape_in named.named;
  run = subst (IsRun s) same run;
  turns = ap (machine.turns_of s) (sym same) ∙ leads.turns_are;
  legal = subst (λ (ts : List Turn). IsLegal s.k (log_of ts)) leads.turns_are (subst (IsLegal s.k) line.one_log.kept line.one_log.legal);
  within = subst (AnswersWithin s.k) leads.turns_are line.one_log.within;
  headline = subst (Headline s) same line;
  shown = named.all (λ q line text. IsTrueLine q (line_meaning (shape_in q) line) text) (λ line text. tt)
      (true-lines s (play_from s) named.rest (opened s named.limits));
} where
  named : Begins next_of IsShape play_from (lines_of text)
  named = begins next_of BadLine IsShape play_from line-opens never-ends 1 (lines_of text) whole

  s : Dimensions
  s = named.start

  ran : Runs (opening s) (script_turns text)
  ran = subst (Runs (opening s)) (sym named.turns) (runs s (play_from s) named.rest (opened s named.limits))

  leads : Leads (opening s) ran.v (script_turns text)
  leads = ran.leads

  same : leads.events ≡ script_events text
  same = sym (events-are (opening s) leads.events) ∙ ap (λ (ts : List Turn). map (λ turn. turn.event) ts) leads.turns_are

  run : IsRun s leads.events
  run = (named.limits, leads.run)

  line : Headline s leads.events
  line = headline_always s leads.events run
