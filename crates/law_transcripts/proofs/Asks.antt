-- What the asks of a script bring: acts within their limits, on keys without a line end.
use Rattle.std.proofs.Common.{◌≡◌, ℕ, Bool, true, false, nat_lt, List, [], ◌∷◌, Option, Some, None, Result, Ok, Err, if◌then◌else◌, refl}
use Rattle.std.proofs.lemmas.List.Elements.{All-append, All-cons, All-head, All-nil, All-tail}
use Rattle.std.specs.Prelude.{All, ⊤}
use Rattle.group_types.specs.Lists.{at}
use Rattle.memc_table.specs.Act.{key_of}
use Rattle.group_calls.specs.Turns.{Turn}
use Rattle.group_calls.specs.declared.event.Event.{Event}
use Rattle.group_calls.specs.declared.event.Event.TheVariants as happens
use Rattle.group_run.specs.World.{World, step, turns_from}
use Rattle.group_run.specs.Causes.{IsDelivery}
use Rattle.scenario_text.proofs.Lines.{line_of-within}
use Rattle.scenario_text.specs.Meaning.{line_meaning}
use Rattle.scenario_text.specs.declared.line.Line.{Line}
use Rattle.scenario_text.specs.declared.line.Line.TheVariants.{Skipped, Group, Ask, Collect, Deliver, Fail, Flush, Trace, Drain, Show, Places, Time, Stop}
use Rattle.scenario_text.specs.declared.line.LineFault.{LineFault}
use Rattle.scenario_text.specs.declared.line.LineFault.TheVariants.{BadLine}
use Rattle.scenario_run.specs.Course.{Ends, Goes, Refused, turns_of_lines}
use Rattle.scenario_run.specs.Playing.{Play, PlayNext, by_event, draining_unless_down, first_by, next_by, next_of, shape_in, then_by}
use Rattle.scenario_run.proofs.Following.{turns_after}
use Rattle.run_verify.proofs.ExactFits.{FitsAct}
use Rattle.run_verify.proofs.ExactLimits.{act-fits, read-limits}
use Rattle.law_transcripts.proofs.Deliveries.{draining-delivers}
use Rattle.law_transcripts.proofs.Keys.{read-key}
use Rattle.law_transcripts.proofs.Plain.{Plain}

-- the act of an ask is within its limits, on a key without a line end
abbrev pub IsFine : Event → Type 0
IsFine (happens.Ask caller op p) = FitsAct op.act × Plain (key_of op.act)
IsFine (happens.Collect caller call p) = ⊤
IsFine (happens.Deliver from to) = ⊤
IsFine (happens.Fail p keep) = ⊤
IsFine (happens.Flush p) = ⊤
IsFine (happens.Trace caller call d p) = ⊤

abbrev pub FineTurn : Turn → Type 0
FineTurn t = IsFine t.event

delivery-fine : (e : Event) → IsDelivery e → IsFine e
delivery-fine (happens.Deliver from to) is = tt
delivery-fine e is = absurd is

deliveries-fine : (w : World) (es : List Event) → All IsDelivery es → All FineTurn (turns_from w es)
deliveries-fine w [] all = All-nil FineTurn
deliveries-fine w (e ∷ es) all =
    All-cons FineTurn (step w e).turn (turns_from (step w e).world es) (delivery-fine e (All-head IsDelivery e es all))
    (deliveries-fine (step w e).world es (All-tail IsDelivery e es all))

-- what a line makes is fine
abbrev MakesFine : PlayNext → Type 0
MakesFine (Goes q turns text) = All FineTurn turns
MakesFine Ends = ⊤
MakesFine (Refused cause) = ⊤

one-fine : (p : Play) (e : Event) → IsFine e → MakesFine (by_event p e)
one-fine p e fine = All-cons FineTurn (step p.world e).turn [] fine (All-nil FineTurn)

then-fine : (p : Play) (line : List ℕ) (l : Line) → line_meaning (Some p.world.shape) line ≡ Ok l → MakesFine (then_by p l)
then-fine p line Skipped is = All-nil FineTurn
then-fine p line (Group shape) is = tt
then-fine p line (Ask caller from a) is =
    let within = line_of-within (Some p.world.shape) line (Ask caller from a) is in
    one-fine p (happens.Ask caller (record { moment = p.moment; act = a }) from)
    (act-fits a (read-limits p.world.shape line (Ask caller from a) is) within.2, read-key p.world.shape line (Ask caller from a) is)
then-fine p line (Collect caller call from) is = one-fine p (happens.Collect caller call from) tt
then-fine p line (Deliver from to) is = one-fine p (happens.Deliver from to) tt
then-fine p line (Fail from keep) is = one-fine p (happens.Fail from keep) tt
then-fine p line (Flush from) is = one-fine p (happens.Flush from) tt
then-fine p line (Trace caller call d from) is = by (nat_lt call (at 0 p.world.asked caller))
  where
    by : (b : Bool) → MakesFine (if b then by_event p (happens.Trace caller call d from) else Refused BadLine)
    by true = one-fine p (happens.Trace caller call d from) tt
    by false = tt
then-fine p line Drain is = deliveries-fine p.world (draining_unless_down p.world) (draining-delivers p.world)
then-fine p line (Show from run) is = All-nil FineTurn
then-fine p line Places is = All-nil FineTurn
then-fine p line (Time moment) is = All-nil FineTurn
then-fine p line Stop is = tt

first-fine : (l : Line) → MakesFine (first_by l)
first-fine Skipped = All-nil FineTurn
first-fine (Group shape) = All-nil FineTurn
first-fine l = tt

line-fine : (p : Option Play) (line : List ℕ) → MakesFine (next_of p line)
line-fine p line = by p (line_meaning (shape_in p) line) refl
  where
    by : (q : Option Play) (r : Result Line LineFault) → line_meaning (shape_in q) line ≡ r → MakesFine (next_by q r)
    by None (Err fault) is = tt
    by (Some q) (Err fault) is = tt
    by None (Ok l) is = first-fine l
    by (Some q) (Ok l) is = then-fine q line l is

-- what a script asks is fine
pub turns-fine : (p : Option Play) (lines : List (List ℕ)) → All FineTurn (turns_of_lines next_of p lines)
turns-fine p [] = All-nil FineTurn
turns-fine p (line ∷ lines) = by (next_of p line) (line-fine p line) (λ q. turns-fine q lines)
  where
    by : (next : PlayNext) → MakesFine next → ((q : Option Play) → All FineTurn (turns_of_lines next_of q lines))
        → All FineTurn (turns_after next_of next lines)
    by Ends fine later = All-nil FineTurn
    by (Refused cause) fine later = All-nil FineTurn
    by (Goes q turns text) fine later = All-append FineTurn turns (turns_of_lines next_of q lines) fine (later q)
