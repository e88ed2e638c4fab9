-- Every script's eras keep the promises of eras.
use Rattle.std.proofs.Common.{ℕ, ◌≡◌, Bool, true, false, List, [], ◌∷◌, ◌++◌, Option, Some, Result, Ok, Err}
use Rattle.std.proofs.Common.{if◌then◌else◌, refl, sym, ap, subst, ◌∙◌, arith}
use Rattle.group_types.specs.Dimensions.{Dimensions}
use Rattle.group_types.specs.Shape.{IsShape}
use Rattle.group_run.specs.Shown.{HoldsTruth, held}
use Rattle.group_run.specs.World.{opening}
use Rattle.law_headline.proofs.Truth.{truth_always}
use Rattle.scenario_text.specs.Meaning.{IsLineOf, line_meaning}
use Rattle.scenario_text.specs.Words.{split_words}
use Rattle.scenario_text.specs.declared.line.Line.{Line}
use Rattle.scenario_text.specs.declared.line.Line.TheVariants.{Show}
use Rattle.scenario_text.specs.declared.line.LineFault.{LineFault}
use Rattle.scenario_text.specs.declared.line.LineFault.TheVariants.{BadLine}
use Rattle.scenario_text.proofs.Lines.{line_of-within}
use Rattle.scenario_run.specs.Course.{Goes, turns_of_lines}
use Rattle.scenario_run.specs.Lines.{lines_of}
use Rattle.scenario_run.proofs.Beginning as beginning
use Rattle.scenario_run.proofs.Beginning.{Onward, all-along, along, begins}
use Rattle.scenario_run.proofs.Running.{parts}
use Rattle.scenario_run.proofs.Truth.{shows-with, true-show}
use Rattle.group_eras.specs.Eras.{Eras, first_era, stamp_in}
use Rattle.group_eras.specs.Promise.{Begins, Carries, EraMove, Makes, MayAllBeDone, done}
use Rattle.group_eras.proofs.Promises.{carries_keep}
use Rattle.regroup_run.specs.Meaning.{regroup_line}
use Rattle.regroup_run.specs.Playing.{EraPlay, look, next_by, next_of, regroup_by, regroups, shape_in, eras_from}
use Rattle.regroup_run.specs.Promises.{AreTrueLines, IsTrueLine, KeepAll, Keeps, ScriptsKeepPromises, ShowsTruth}
use Rattle.regroup_run.specs.Script.{era_moves_of}
use Rattle.regroup_run.proofs.Leading.{IsLedTo, Leads, is-led, leads-then, led-on, opened, promised, world-led}
use Rattle.regroup_run.proofs.Regrouping.{reads-no-regroup}
use Rattle.regroup_run.proofs.Running.{GoesOn, IsReady, line-leads, line-opens, never-ends}

-- moves that may be done from some eras
record Runs (e : Eras) (moves : List EraMove) : Type 0 where
  f : Eras
  leads : Leads e f moves

none : (e : Eras) → Runs e []
none e = record { f = e; leads = record { may = tt; to = refl } }

ready-on : (s : Dimensions) (p : EraPlay) (next : Option EraPlay) (moves : List EraMove) → IsReady s p → (on : GoesOn p next moves) → IsReady s on.play
ready-on s p next moves ready on = record { led = led-on s p.eras on.play.eras moves ready.led on.leads; moment = on.moment }

-- what is shown is true
truth : (s : Dimensions) (e : Eras) → IsLedTo s e → HoldsTruth e.world
truth s e led = let run = world-led s e led in subst HoldsTruth (sym run.is) (truth_always e.world.shape run.events run.run)

module _ (s : Dimensions) where
  onward : (p : EraPlay) (line : List ℕ) (next : Option EraPlay) (moves : List EraMove) (text : List ℕ) → IsReady s p
      → next_of (Some p) line ≡ Goes next moves text
      → Onward (IsReady s) (λ q ds us. Runs q.eras ds) p next moves text
  onward p line next moves text ready is = let on = line-leads s p line next moves text ready is in record {
    state = on.play;
    is = on.is;
    ready = ready-on s p next moves ready on;
    comes = λ ds us rest. record { f = rest.f; leads = leads-then p.eras on.play.eras rest.f moves ds on.leads rest.leads };
  }

  runs : (p : EraPlay) (lines : List (List ℕ)) → IsReady s p → Runs p.eras (turns_of_lines next_of (Some p) lines)
  runs = along next_of (IsReady s) (λ q ds us. Runs q.eras ds) (λ q. none q.eras) onward

  true-read : (p : EraPlay) (l : Result Line LineFault) (next : Option EraPlay) (turns : List EraMove) (text : List ℕ)
      → IsLedTo s p.eras → ((l' : Line) → l ≡ Ok l' → IsLineOf (Some p.eras.world.shape) l')
      → next_by (Some p) l ≡ Goes next turns text → IsTrueLine (Some p) l text
  true-read p l next turns text led within is = true-show (ShowsTruth p.eras) l text (λ from run reads.
      (parts (Some p) next [] turns (look p.eras from (held p.eras.world from run) ++ 10 ∷ []) text (sym (ap (next_by (Some p)) reads) ∙ is)).2
      ∙ shows-with (stamp_in p.eras from) p.eras.world from run (within (Show from run) reads).0 (truth s p.eras led))

  -- a line `regroup` is none that shows bytes
  true-line : (p : EraPlay) (line : List ℕ) (next : Option EraPlay) (turns : List EraMove) (text : List ℕ)
      → IsLedTo s p.eras → next_of (Some p) line ≡ Goes next turns text
      → IsTrueLine (Some p) (line_meaning (Some p.eras.world.shape) line) text
  true-line p line next turns text led is = by (regroups line) refl is where
    refused : (l : Result Line LineFault) → line_meaning (Some p.eras.world.shape) line ≡ l → regroups line ≡ true → IsTrueLine (Some p) l text
    refused (Err fault) reads names = tt
    refused (Ok l) reads names = absurd (reads-no-regroup p.eras.world.shape line l names reads)

    by : (b : Bool) → regroups line ≡ b
        → (if b then regroup_by p (regroup_line p.eras.world.shape.k (split_words line)) else next_by (Some p)
        (line_meaning (Some p.eras.world.shape) line)) ≡ Goes next turns text
        → IsTrueLine (Some p) (line_meaning (Some p.eras.world.shape) line) text
    by true names goes = refused (line_meaning (Some p.eras.world.shape) line) refl names
    by false names goes = true-read p (line_meaning (Some p.eras.world.shape) line) next turns text led
        (λ l reads. line_of-within (Some p.eras.world.shape) line l reads) goes

  true-lines : (p : EraPlay) (lines : List (List ℕ)) → IsReady s p → AreTrueLines (Some p) lines
  true-lines = all-along next_of (IsReady s) (λ q ds us. Runs q.eras ds) (λ q. none q.eras) onward
      (λ q line text. IsTrueLine q (line_meaning (shape_in q) line) text) (λ p line next moves text ready is. true-line p line next moves text ready.led is)

  -- the promise is kept before and after each move
  keeps : (e : Eras) (move : EraMove) → IsLedTo s e → MayAllBeDone e (move ∷ []) → Keeps e move
  keeps e (Makes event) led may = tt
  keeps e (Carries t) led may = carries_keep e t (is-led s e led) may.0.0 may.0.1
  keeps e (Begins many) led may = tt

  keep-all : (e : Eras) (moves : List EraMove) → IsLedTo s e → MayAllBeDone e moves → KeepAll e moves
  keep-all e [] led may = promised s e led
  keep-all e (move ∷ moves) led may = (
    promised s e led,
    keeps e move led (may.0, tt),
    keep-all (done e move) moves
        (led-on s e (done e move) (move ∷ []) led (record { may = (may.0, tt); to = refl })) may.1,
  )

begun-ready : (s : Dimensions) → IsShape s → IsReady s (eras_from s)
begun-ready s limits = record { led = opened s limits; moment = omega arith }

pub scripts_keep_promises : ScriptsKeepPromises
scripts_keep_promises text whole = record {
  shape = s;
  named = ap shape_in named.named;
  limits = named.limits;
  may = ran.leads.may;
  kept = keep-all s (first_era (opening s)) (era_moves_of text) (opened s named.limits) ran.leads.may;
  shown = named.all (λ q line text. IsTrueLine q (line_meaning (shape_in q) line) text) (λ line text. tt)
      (true-lines s (eras_from s) named.rest (begun-ready s named.limits));
} where
  named : beginning.Begins next_of IsShape eras_from (lines_of text)
  named = begins next_of BadLine IsShape eras_from line-opens never-ends 1 (lines_of text) whole

  s : Dimensions
  s = named.start

  ran : Runs (first_era (opening s)) (era_moves_of text)
  ran = subst (Runs (first_era (opening s))) (sym named.turns) (runs s (eras_from s) named.rest (begun-ready s named.limits))
