-- The turns of a script are those of a run of the machine.
use Rattle.std.proofs.Common.{ℕ, ◌≡◌, ◌≤◌, ◌<◌, ◌+◌, inl, inr, Bool, true, false, nat_lt, List, [], ◌∷◌, Option, Some}
use Rattle.std.proofs.Common.{None, Result, Ok, Err, if◌then◌else◌, refl, sym, ap, ◌∙◌, arith}
use Rattle.std.proofs.lemmas.Bool.Decides.{nat_tests}
use Rattle.group_types.specs.Dimensions.{Dimensions}
use Rattle.group_types.specs.Lists.{at}
use Rattle.group_types.specs.Shape.{IsShape}
use Rattle.group_calls.specs.Turns.{Turn}
use Rattle.group_calls.specs.declared.event.Event.{Event}
use Rattle.group_calls.specs.declared.event.Event.TheVariants as happens
use Rattle.group_run.specs.Headline.{MayCome}
use Rattle.group_run.specs.World as machine
use Rattle.group_run.specs.World.{World, step, world_after}
use Rattle.scenario_text.specs.Meaning.{IsLineOf, line_meaning}
use Rattle.scenario_text.specs.declared.line.Line.{Line}
use Rattle.scenario_text.specs.declared.line.Line.TheVariants.{Skipped, Group, Ask, Collect, Deliver, Fail, Flush, Trace, Drain, Show, Places, Time, Stop}
use Rattle.scenario_text.specs.declared.line.LineFault.{LineFault}
use Rattle.scenario_text.specs.declared.line.LineFault.TheVariants.{BadLine}
use Rattle.scenario_text.proofs.Lines.{line_of-within}
use Rattle.scenario_run.specs.Course.{Ends, Goes, Next, Refused}
use Rattle.scenario_run.specs.Playing.{Play, by_event, by_trace, draining_unless_down, drained_text, next_by, next_of, opens_by, quietly, play_from, then_by}
use Rattle.scenario_run.specs.Playing.{turn_text}
use Rattle.scenario_run.proofs.Beginning.{Opens}
use Rattle.scenario_run.proofs.Draining.{burden, drains, event-light, line_burden}
use Rattle.scenario_run.proofs.Leading.{IsLedTo, Leads}

-- what a line made goes on from there
pub record GoesOn (w : World) (next : Option Play) (turns : List Turn) : Type 0 where
  pub play : Play
  pub is : next ≡ Some play
  pub leads : Leads w play.world turns
  pub light : burden play.world ≤ burden w + line_burden

abbrev pub goes : {S T : Type 0} (F : Type 0) → Option S → List T → List ℕ → Next S T F
goes F state turns text = Goes state turns text

-- two lines that go on alike
pub parts : {S T F : Type 0} (a b : Option S) (ts us : List T) (x y : List ℕ) → goes F a ts x ≡ goes F b us y → (b ≡ a) × (us ≡ ts) × (y ≡ x)
parts a b ts us x y is = (cc, cc, cc)

stays : (p q : Play) (next : Option Play) (turns : List Turn) (text : List ℕ) → p.world ≡ q.world
    → quietly (Some q) ≡ Goes next turns text → GoesOn p.world next turns
stays p q next turns text same is = let both = parts (Some q) next [] turns [] text is in
    record {
      play = q;
      is = both.0;
      leads = record { events = []; run = tt; turns_are = sym both.1; to = same };
      light = let still = ap burden same in omega (arith, still);
    }

-- an event that may come leads on
comes : (s : Dimensions) (p : Play) (e : Event) (next : Option Play) (turns : List Turn) (text : List ℕ)
    → IsLedTo s p.world → MayCome p.world e → by_event p e ≡ Goes next turns text → GoesOn p.world next turns
comes s p e next turns text led may is =
    let both = parts (Some (record { world = (step p.world e).world; moment = p.moment })) next
    ((step p.world e).turn ∷ []) turns (turn_text (step p.world e).turn) text is in
    record {
      play = record { world = (step p.world e).world; moment = p.moment };
      is = both.0;
      leads = record { events = e ∷ []; run = (may, tt); turns_are = sym both.1; to = refl };
      light =
          event-light s p.world e led may;
    }

-- a call is traced that was asked
traces : (s : Dimensions) (p : Play) (caller call : ℕ) (e : Event) (next : Option Play) (turns : List Turn)
    (text : List ℕ) → IsLedTo s p.world → (call < at 0 p.world.asked caller → MayCome p.world e)
    → by_trace p caller call e ≡ Goes next turns text → GoesOn p.world next turns
traces s p caller call e next turns text led may is = by (nat_lt call (at 0 p.world.asked caller)) refl is where
  by : (b : Bool) → nat_lt call (at 0 p.world.asked caller) ≡ b → (if b then by_event p e else Refused BadLine)
      ≡ Goes next turns text → GoesOn p.world next turns
  by true less goes = comes s p e next turns text led (may (grind (arith, nat_tests))) goes
  by false less goes = absurd (cc goes)

-- what a line behind the group line does is a run
pub then-leads : (s : Dimensions) (p : Play) (l : Line) (next : Option Play) (turns : List Turn) (text : List ℕ)
    → IsLedTo s p.world → IsLineOf (Some p.world.shape) l
    → then_by p l ≡ Goes next turns text → GoesOn p.world next turns
then-leads s p Skipped next turns text led within is = stays p p next turns text refl is
then-leads s p (Group shape) next turns text led within is = absurd within
then-leads s p (Ask caller from act) next turns text led within is =
    comes s p (happens.Ask caller (record { moment = p.moment; act = act }) from) next turns text led within is
then-leads s p (Collect caller call from) next turns text led within is = comes s p (happens.Collect caller call from) next turns text led within is
then-leads s p (Deliver from to) next turns text led within is = comes s p (happens.Deliver from to) next turns text led within is
then-leads s p (Fail from keep) next turns text led within is = comes s p (happens.Fail from keep) next turns text led within is
then-leads s p (Flush from) next turns text led within is = comes s p (happens.Flush from) next turns text led within is
then-leads s p (Trace caller call d from) next turns text led within is =
    traces s p caller call (happens.Trace caller call d from) next turns text led (λ less. (within.0, less, within.1, within.2)) is
then-leads s p Drain next turns text led within is =
    let drain = drains s p.world led in
    let v : World = world_after p.world (draining_unless_down p.world) in
    let both = parts (Some (record { world = v; moment = p.moment })) next
    (machine.turns_from p.world (draining_unless_down p.world)) turns
    (drained_text (machine.turns_from p.world (draining_unless_down p.world))) text is in
    record {
      play = record { world = v; moment = p.moment };
      is = both.0;
      leads = record { events = draining_unless_down p.world; run = drain.run; turns_are = sym both.1; to = refl };
      light =
          let lighter = drain.light in omega (arith, lighter);
    }
then-leads s p (Show from run) next turns text led within is =
    record { play = p; is = cc; leads = record { events = []; run = tt; turns_are = cc; to = refl }; light = omega arith }
then-leads s p Places next turns text led within is =
    record { play = p; is = cc; leads = record { events = []; run = tt; turns_are = cc; to = refl }; light = omega arith }
then-leads s p (Time moment) next turns text led within is = stays p (record { world = p.world; moment = moment }) next turns text refl is
then-leads s p Stop next turns text led within is = absurd (cc is)

-- what a line behind the group line does
next-leads : (s : Dimensions) (p : Play) (l : Result Line LineFault) (next : Option Play) (turns : List Turn) (text : List ℕ) → IsLedTo s p.world
    → ((l' : Line) → l ≡ Ok l' → IsLineOf (Some p.world.shape) l') → next_by (Some p) l ≡ Goes next turns text → GoesOn p.world next turns
next-leads s p (Err fault) next turns text led within is = absurd (cc is)
next-leads s p (Ok l) next turns text led within is = then-leads s p l next turns text led (within l refl) is

pub line-leads : (s : Dimensions) (p : Play) (line : List ℕ) (next : Option Play) (turns : List Turn) (text : List ℕ) → IsLedTo s p.world
    → next_of (Some p) line ≡ Goes next turns text → GoesOn p.world next turns
line-leads s p line next turns text led is = next-leads s p (line_meaning (Some p.world.shape) line) next turns text led
    (λ l reads. line_of-within (Some p.world.shape) line l reads) is

module _ {S T : Type 0} (start : Dimensions → S) where
  first-opens : (l : Line) (next : Option S) (turns : List T) (text : List ℕ) → IsLineOf None l
      → opens_by start l ≡ Goes next turns text → Opens IsShape start next turns text
  first-opens Skipped next turns text within is = let both = parts None next [] turns [] text is in record { quiet = both.1; silent = both.2; is = inl both.0 }
  first-opens (Group s) next turns text within is = let both = parts (Some (start s)) next [] turns [] text is in
      record { quiet = both.1; silent = both.2; is = inr (s, within, both.0) }
  first-opens l next turns text within is = absurd within

  never-ends-by : (l : Line) → IsLineOf None l → opens_by {T = T} start l ≡ Ends → ⊥
  never-ends-by Skipped within is = cc is
  never-ends-by (Group s) within is = cc is
  never-ends-by l within is = within

  -- the group line, or a line before it, by how it is read
  pub read-opens : (line : List ℕ) (rule : Result Line LineFault → Next S T LineFault)
      → ((fault : LineFault) → rule (Err fault) ≡ Refused fault) → ((l : Line) → rule (Ok l) ≡ opens_by start l)
      → (next : Option S) (turns : List T) (text : List ℕ) → rule (line_meaning None line) ≡ Goes next turns text → Opens IsShape start next turns text
  read-opens line rule refuses opens next turns text is = by (line_meaning None line) refl is where
    by : (l : Result Line LineFault) → line_meaning None line ≡ l → rule l ≡ Goes next turns text → Opens IsShape start next turns text
    by (Err fault) reads goes = absurd (cc (sym (refuses fault) ∙ goes))
    by (Ok l) reads goes = first-opens l next turns text (line_of-within None line l reads) (sym (opens l) ∙ goes)

  -- before the group line no line is the last
  pub read-never-ends : (line : List ℕ) (rule : Result Line LineFault → Next S T LineFault)
      → ((fault : LineFault) → rule (Err fault) ≡ Refused fault) → ((l : Line) → rule (Ok l) ≡ opens_by start l)
      → rule (line_meaning None line) ≡ Ends → ⊥
  read-never-ends line rule refuses opens is = by (line_meaning None line) refl is where
    by : (l : Result Line LineFault) → line_meaning None line ≡ l → rule l ≡ Ends → ⊥
    by (Err fault) reads ends = cc (sym (refuses fault) ∙ ends)
    by (Ok l) reads ends = never-ends-by l (line_of-within None line l reads) (sym (opens l) ∙ ends)

pub line-opens : (line : List ℕ) (next : Option Play) (turns : List Turn) (text : List ℕ)
    → next_of None line ≡ Goes next turns text → Opens IsShape play_from next turns text
line-opens line next turns text is = read-opens play_from line (next_by None) (λ fault. refl) (λ l. refl) next turns text is

pub never-ends : (line : List ℕ) → next_of None line ≡ Ends → ⊥
never-ends line is = read-never-ends play_from line (next_by None) (λ fault. refl) (λ l. refl) is
