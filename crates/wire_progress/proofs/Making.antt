-- Of an action that makes one event, the machine makes that event, with the same answer.
use Rattle.std.proofs.Common.{◌≡◌, List, [], ◌∷◌, ◌++◌, map, sym, ap, subst, ◌∙◌}
use Rattle.std.proofs.lemmas.List.{append-nil}
use Rattle.group_calls.specs.Turns.{Turn}
use Rattle.group_calls.specs.declared.event.Answer.{Answer}
use Rattle.group_calls.specs.declared.event.Event.{Event}
use Rattle.group_run.specs.Headline.{IsRunFrom, MayCome}
use Rattle.group_run.specs.World.{World, after, opening, step, turns_of, world_after}
use Rattle.law_answers.proofs.Entries.{turns-more}
use Rattle.group_wire.specs.Actions.{Action}
use Rattle.group_wire.specs.Composed.{Composed, Made, composed_with, made_by}
use Rattle.group_wire.specs.Composition.{machine}
use Rattle.group_wire.specs.May.{MayAct}
use Rattle.group_wire.proofs.Extending.{Makes, after-made, events-more, events_in}
use Rattle.group_wire.proofs.Whole.{Whole, whole-step}

pub record MakesOne (c : Composed) (a : Action) (m : Made) : Type 0 where
  pub may : MayCome (machine c) m.event
  pub world : machine (composed_with c a) ≡ (step (machine c) m.event).world
  pub answer : (step (machine c) m.event).turn.answer ≡ m.answer

-- the last event of a run may come
last-may : (w : World) (es : List Event) (e : Event) → IsRunFrom w (es ++ e ∷ []) → MayCome (world_after w es) e
last-may w [] e run = run.0
last-may w (x ∷ es) e run = last-may (step w x).world es e run.1

-- the last answers are the same where all are
last-same : (ts : List Turn) (t : Turn) (ms : List Made) (m : Made) → map (λ (t : Turn). t.answer) (ts ++ t ∷ [])
    ≡ map (λ x. x.answer) (ms ++ m ∷ []) → map (λ (t : Turn). t.answer) ts ≡ map (λ x. x.answer) ms
    → t.answer ≡ m.answer
last-same [] t [] m all before = ap first all where
  first : List Answer → Answer
  first [] = t.answer
  first (a ∷ rest) = a
last-same [] t (y ∷ ms) m all before = cc before
last-same (u ∷ ts) t [] m all before = cc before
last-same (u ∷ ts) t (y ∷ ms) m all before = last-same ts t ms m (ap rest all) (ap rest before) where
  rest : List Answer → List Answer
  rest [] = []
  rest (a ∷ more) = more

module _ (c : Composed) (h : Whole c) (a : Action) (may : MayAct c.group a) (m : Made) (makes : made_by c a ≡ m ∷ []) where
  makes-now : Makes c.group.shape (c.made ++ m ∷ [])
  makes-now = subst (λ (more : List Made). Makes c.group.shape (c.made ++ more)) makes (whole-step c h a may).composes.makes

  turns : turns_of c.group.shape (events_in (c.made ++ m ∷ [])) ≡ turns_of c.group.shape (events_in c.made) ++ (step (machine c) m.event).turn ∷ []
  turns = ap (turns_of c.group.shape) (events-more c.made m) ∙ turns-more (opening c.group.shape) (events_in c.made) m.event

  pub makes-one : MakesOne c a m
  makes-one = record {
    may = last-may (opening c.group.shape) (events_in c.made) m.event
        (subst (λ (es : List Event). IsRunFrom (opening c.group.shape) es) (events-more c.made m) makes-now.run.1);
    world = ap (λ (more : List Made). after c.group.shape (events_in (c.made ++ more))) makes ∙ after-made c.group.shape c.made m;
    answer = last-same (turns_of c.group.shape (events_in c.made)) (step (machine c) m.event).turn c.made m
        (sym (ap (λ (ts : List Turn). map (λ (t : Turn). t.answer) ts) turns) ∙ makes-now.answers) h.composes.makes.answers;
  }

-- one that makes none leaves the machine
pub makes-none : (c : Composed) (a : Action) → made_by c a ≡ [] → machine (composed_with c a) ≡ machine c
makes-none c a none = ap (λ (more : List Made). after c.group.shape (events_in (c.made ++ more))) none
    ∙ ap (λ (made : List Made). after c.group.shape (events_in made)) (append-nil c.made)
