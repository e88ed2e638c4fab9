-- Something is told for each step of a script: an answer that its event can have, within its limits, and deliveries for a drain.
use Rattle.std.proofs.Common.{◌≡◌, ◌<◌, ◌+◌, ◌*◌, ◌^◌, ◌⊎◌, inl, inr, ℕ, Bool, true, false, nat_lt, List, [], ◌∷◌, ◌++◌}
use Rattle.std.proofs.Common.{length, Option, Some, None, Result, Ok, Err, if◌then◌else◌, refl, sym, subst, arith}
use Rattle.std.proofs.lemmas.Bool.Decides.{nat_tests}
use Rattle.std.proofs.lemmas.List.Elements.{All-cons, All-head, All-nil, All-tail}
use Rattle.std.specs.Prelude.{All, ⊤}
use Rattle.group_types.specs.Dimensions.{Dimensions}
use Rattle.group_types.specs.Lists.{at}
use Rattle.group_types.specs.Shape.{IsShape}
use Rattle.group_types.specs.declared.process.ProcessId.{ProcessId}
use Rattle.group_types.specs.declared.run.Run.{Run}
use Rattle.group_calls.specs.Turns.{Turn}
use Rattle.group_calls.specs.declared.event.Event.{Event}
use Rattle.group_calls.specs.declared.event.Event.TheVariants as happens
use Rattle.group_run.specs.Headline.{MayCome}
use Rattle.group_run.specs.Meaning.{is_dead}
use Rattle.group_run.specs.Shown.{held, is_down, stamp_of}
use Rattle.group_run.specs.World.{World, after, opening, step, turns_from}
use Rattle.group_run.specs.Causes.{IsDelivery}
use Rattle.scenario_text.proofs.Lines.{line_of-within}
use Rattle.scenario_text.specs.Meaning.{IsLineOf, line_meaning}
use Rattle.scenario_text.specs.declared.line.Line.{Line}
use Rattle.scenario_text.specs.declared.line.Line.TheVariants.{Skipped, Group, Ask, Collect, Deliver, Fail, Flush, Trace, Drain, Show, Places, Time, Stop}
use Rattle.scenario_text.specs.declared.line.LineFault.{LineFault}
use Rattle.scenario_text.specs.declared.line.LineFault.TheVariants.{BadLine}
use Rattle.scenario_run.specs.Course.{Ends, Goes, Refused, turns_of_lines}
use Rattle.scenario_run.specs.Playing.{Play, PlayNext, by_event, draining_unless_down, next_by, next_of, then_by}
use Rattle.scenario_run.proofs.Draining.{burden, drains, line_burden, load-opening}
use Rattle.scenario_run.proofs.Following.{turns_after}
use Rattle.scenario_run.proofs.Leading.{IsLedTo, led-on, opened}
use Rattle.scenario_run.proofs.Running.{GoesOn, line-leads, line-opens}
use Rattle.transcript_text.specs.Forms.{MayAnswer, kind_of_event}
use Rattle.run_verify.specs.Told.{CanBeTold, Down, Drained, Lost, Made, Shown, TellAll, ToldStep}
use Rattle.run_verify.specs.declared.step.Step.{Step}
use Rattle.run_verify.specs.declared.step.Step.TheVariants.{Make, Deliveries, Look}
use Rattle.law_transcripts.proofs.Answers.{may-answer}
use Rattle.law_transcripts.proofs.Deliveries.{draining-delivers}
use Rattle.law_transcripts.proofs.Numbers.{answer-fits, events-long, turns-long}
use Rattle.law_transcripts.proofs.Parts.{back-all, front-all}
use Rattle.law_transcripts.proofs.Replies.{FitsIfReply}
use Rattle.law_transcripts.proofs.Steps.{steps_from}
use Rattle.law_transcripts.proofs.Telling.{looked, steps_along, steps_by, steps_on, told_along, told_by, told_on}
use Rattle.law_transcripts.proofs.Written.{told_from}

tells-append : (xs ys : List Step) (ts us : List ToldStep) → TellAll xs ts → TellAll ys us → TellAll (xs ++ ys) (ts ++ us)
tells-append [] ys [] us first more = more
tells-append [] ys (t ∷ ts) us first more = absurd first
tells-append (x ∷ xs) ys [] us first more = absurd first
tells-append (x ∷ xs) ys (t ∷ ts) us (one, first) more = (one, tells-append xs ys ts us first more)

deliveries-told : (w : World) (es : List Event) → All IsDelivery es → All (λ t. IsDelivery t.event) (turns_from w es)
deliveries-told w [] all = All-nil (λ (t : Turn). IsDelivery t.event)
deliveries-told w (e ∷ es) all =
    All-cons (λ (t : Turn). IsDelivery t.event) (step w e).turn (turns_from (step w e).world es) (All-head IsDelivery e es all)
    (deliveries-told (step w e).world es (All-tail IsDelivery e es all))

looked-tells : (w : World) (p : ProcessId) (run : Run) → CanBeTold (Look p run) (looked w p run)
looked-tells w p run = by (is_down w) (is_dead w p)
  where
    by : (down dead : Bool) → CanBeTold (Look p run) (if down then Down else (if dead then Lost else Shown (stamp_of w p) (held w p run)))
    by true dead = tt
    by false true = tt
    by false false = tt

-- what a line tells is for its steps
abbrev TellsNext : PlayNext → List Step → List ToldStep → Type 0
TellsNext (Goes q turns text) steps told = All FitsIfReply turns → TellAll steps told
TellsNext Ends steps told = ⊤
TellsNext (Refused cause) steps told = ⊤

module _ (s : Dimensions) where
  made-tells : (w : World) (e : Event) → IsLedTo s w → MayCome w e → w.events < 2 ^ 62 → All FitsIfReply ((step w e).turn ∷ [])
      → TellAll (Make e ∷ []) (Made (step w e).turn ∷ [])
  made-tells w e led may few fits = (
    subst (λ (v : World). MayCome v e → v.events < 2 ^ 62 → FitsIfReply (step v e).turn
        → CanBeTold (Make e) (Made (step v e).turn)) (sym led.is) by may few (All-head FitsIfReply (step w e).turn [] fits),
    tt,
  )
    where
      by : MayCome (after s led.events) e → (after s led.events).events < 2 ^ 62 → FitsIfReply (step (after s led.events) e).turn
          → CanBeTold (Make e) (Made (step (after s led.events) e).turn)
      by may few fits =
          let can : MayAnswer (kind_of_event e) (step (after s led.events) e).turn.answer = may-answer s led.events e led.run may in
          (refl, can, answer-fits s led.events led.run few e may (λ r is. fits r is can))

  drained-tells : (w : World) → IsLedTo s w → burden w < 2 ^ 62
      → CanBeTold Deliveries (Drained (turns_from w (draining_unless_down w)) (length (turns_from w (draining_unless_down w))))
  drained-tells w led few =
      let light = (drains s w led).light in
      let many = events-long w (draining_unless_down w) in
      let long = turns-long w (draining_unless_down w) in
      (deliveries-told w (draining_unless_down w) (draining-delivers w), omega (arith, few, light, many, long))

  then-tells : (p : Play) (l : Line) → IsLedTo s p.world → burden p.world < 2 ^ 62 → IsLineOf (Some p.world.shape) l
      → TellsNext (then_by p l) (steps_by p l) (told_by p l)
  then-tells p Skipped led few within = λ fits. tt
  then-tells p (Group shape) led few within = tt
  then-tells p (Ask caller from act) led few within = λ fits. made-tells p.world (happens.Ask caller (record { moment = p.moment; act = act }) from)
      led within (omega (arith, few)) fits
  then-tells p (Collect caller call from) led few within = λ fits. made-tells p.world (happens.Collect caller call from) led within (omega (arith, few)) fits
  then-tells p (Deliver from to) led few within = λ fits. made-tells p.world (happens.Deliver from to) led within (omega (arith, few)) fits
  then-tells p (Fail from keep) led few within = λ fits. made-tells p.world (happens.Fail from keep) led within (omega (arith, few)) fits
  then-tells p (Flush from) led few within = λ fits. made-tells p.world (happens.Flush from) led within (omega (arith, few)) fits
  then-tells p (Trace caller call d from) led few within = by (nat_lt call (at 0 p.world.asked caller)) refl
    where
      by : (b : Bool) → nat_lt call (at 0 p.world.asked caller) ≡ b
          → TellsNext (if b then by_event p (happens.Trace caller call d from) else Refused BadLine) (Make (happens.Trace caller call d from) ∷ [])
          (Made (step p.world (happens.Trace caller call d from)).turn ∷ [])
      by true less = λ fits. made-tells p.world (happens.Trace caller call d from) led (within.0, grind (arith, nat_tests, less), within.1, within.2)
          (omega (arith, few)) fits
      by false less = tt
  then-tells p Drain led few within = λ fits. (drained-tells p.world led few, tt)
  then-tells p (Show from run) led few within = λ fits. (looked-tells p.world from run, tt)
  then-tells p Places led few within = λ fits. (tt, tt)
  then-tells p (Time moment) led few within = λ fits. tt
  then-tells p Stop led few within = tt

  line-tells : (p : Play) (line : List ℕ) → IsLedTo s p.world → burden p.world < 2 ^ 62
      → TellsNext (next_of (Some p) line) (steps_on (Some p) (line_meaning (Some p.world.shape) line))
      (told_on (Some p) (line_meaning (Some p.world.shape) line))
  line-tells p line led few = by (line_meaning (Some p.world.shape) line) refl
    where
      by : (r : Result Line LineFault) → line_meaning (Some p.world.shape) line ≡ r → TellsNext (next_by (Some p) r) (steps_on (Some p) r) (told_on (Some p) r)
      by (Err fault) is = tt
      by (Ok l) is = then-tells p l led few (line_of-within (Some p.world.shape) line l is)

-- ---- along a script

-- what is told of lines is for their steps
abbrev TellsAlong : Option Play → List (List ℕ) → Type 0
TellsAlong p lines = All FitsIfReply (turns_of_lines next_of p lines) → TellAll (steps_along p lines) (told_along p lines)

abbrev Goal : Dimensions → List (List ℕ) → Type 0
Goal s lines = (q : Play) → IsLedTo s q.world → burden q.world + length lines * line_burden < 2 ^ 62 → TellsAlong (Some q) lines

named-tells : (s : Dimensions) (lines : List (List ℕ)) → Goal s lines
named-tells s [] p led few fits = tt
named-tells s (line ∷ lines) p led few fits = by (next_of (Some p) line) refl (line-tells s p line led (omega (arith, few))) (named-tells s lines) fits
  where
    by : (next : PlayNext) → next_of (Some p) line ≡ next
        → TellsNext next (steps_on (Some p) (line_meaning (Some p.world.shape) line)) (told_on (Some p) (line_meaning (Some p.world.shape) line)) → Goal s lines
        → All FitsIfReply (turns_after next_of next lines) → TellAll (steps_from (Some p) line lines next) (told_from (Some p) line lines next)
    by Ends is own later fits = tt
    by (Refused cause) is own later fits = tt
    by (Goes next turns text) is own later fits =
        let on : GoesOn p.world next turns = line-leads s p line next turns text led is in
        let light = on.light in
        let rest : TellsAlong next lines
        = subst (λ (q : Option Play). TellsAlong q lines) (sym on.is)
        (later on.play (led-on s p.world on.play.world turns led on.leads) (omega (arith, few, light))) in
        tells-append (steps_on (Some p) (line_meaning (Some p.world.shape) line)) (steps_along next lines)
        (told_on (Some p) (line_meaning (Some p.world.shape) line))
        (told_along next lines)
        (own (front-all FitsIfReply turns (turns_of_lines next_of next lines) fits))
        (rest (back-all FitsIfReply turns (turns_of_lines next_of next lines) fits))

pub script-tells : (lines : List (List ℕ)) → length lines * line_burden < 2 ^ 62 → TellsAlong None lines
script-tells [] few fits = tt
script-tells (line ∷ lines) few fits = by (next_of None line) refl (script-tells lines (omega (arith, few))) fits
  where
    named : (s : Dimensions) → IsShape s → TellsAlong (Some (record { world = opening s; moment = 0 })) lines
    named s limits = named-tells s lines (record { world = opening s; moment = 0 }) (opened s limits) (let none = load-opening s in omega (arith, none, few))

    either : (next : Option Play) → (next ≡ None) ⊎ ((s : Dimensions) × IsShape s × (next ≡ Some (record { world = opening s; moment = 0 })))
        → TellsAlong None lines → TellsAlong next lines
    either next (inl none) later = subst (λ (q : Option Play). TellsAlong q lines) (sym none) later
    either next (inr (s, limits, some)) later = subst (λ (q : Option Play). TellsAlong q lines) (sym some) (named s limits)

    by : (next : PlayNext) → next_of None line ≡ next → TellsAlong None lines → All FitsIfReply (turns_after next_of next lines)
        → TellAll (steps_from None line lines next) (told_from None line lines next)
    by Ends is later fits = tt
    by (Refused cause) is later fits = tt
    by (Goes next turns text) is later fits =
        let opens = line-opens line next turns text is in
        either next opens.is later (back-all FitsIfReply turns (turns_of_lines next_of next lines) fits)
