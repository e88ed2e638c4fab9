-- Moves over eras, one behind the other.
use Rattle.std.proofs.Common.{◌≡◌, List, [], ◌∷◌, ◌++◌, map, refl, sym, ap, subst, ◌∙◌}
use Rattle.group_types.specs.Dimensions.{Dimensions}
use Rattle.group_types.specs.Shape.{IsShape}
use Rattle.group_calls.specs.declared.event.Event.{Event}
use Rattle.group_run.specs.World.{opening}
use Rattle.scenario_run.proofs.Leading as world
use Rattle.group_eras.specs.Eras.{Eras, MayMake, era_step, eras_after, first_era}
use Rattle.group_eras.specs.Promise.{EraMove, HasPromise, IsLed, Makes, MayAllBeDone, all_done, done}
use Rattle.group_eras.proofs.Promises.{eras_are_runs}

-- moves that lead from some eras to others
pub record Leads (e f : Eras) (moves : List EraMove) : Type 0 where
  pub may : MayAllBeDone e moves
  pub to : all_done e moves ≡ f

-- the eras that moves led to, from a group of this shape
pub record IsLedTo (s : Dimensions) (e : Eras) : Type 0 where
  pub limits : IsShape s
  pub moves : List EraMove
  pub leads : Leads (first_era (opening s)) e moves

pub opened : (s : Dimensions) → IsShape s → IsLedTo s (first_era (opening s))
opened s limits = record { limits = limits; moves = []; leads = record { may = tt; to = refl } }

pub done-append : (e : Eras) (ds es : List EraMove) → all_done e (ds ++ es) ≡ all_done (all_done e ds) es
done-append e [] es = refl
done-append e (d ∷ ds) es = done-append (done e d) ds es

may-append : (e : Eras) (ds es : List EraMove) → MayAllBeDone e ds → MayAllBeDone (all_done e ds) es → MayAllBeDone e (ds ++ es)
may-append e [] es may more = more
may-append e (d ∷ ds) es may more = (may.0, may-append (done e d) ds es may.1 more)

pub leads-then : (e f g : Eras) (ds es : List EraMove) → Leads e f ds → Leads f g es → Leads e g (ds ++ es)
leads-then e f g ds es first then = record {
  may = may-append e ds es first.may (subst (λ (x : Eras). MayAllBeDone x es) (sym first.to) then.may);
  to = done-append e ds es ∙ ap (λ (x : Eras). all_done x es) first.to ∙ then.to;
}

pub led-on : (s : Dimensions) (e f : Eras) (ds : List EraMove) → IsLedTo s e → Leads e f ds → IsLedTo s f
led-on s e f ds led leads = record { limits = led.limits; moves = led.moves ++ ds; leads = leads-then (first_era (opening s)) e f led.moves ds led.leads leads }

pub is-led : (s : Dimensions) (e : Eras) → IsLedTo s e → IsLed e
is-led s e led = record { s = s; limits = led.limits; moves = led.moves; may = led.leads.may; is = sym led.leads.to }

pub promised : (s : Dimensions) (e : Eras) → IsLedTo s e → HasPromise e
promised s e led = eras_are_runs e (is-led s e led)

-- the current world is one that a run led to
pub world-led : (s : Dimensions) (e : Eras) → IsLedTo s e → world.IsLedTo e.world.shape e.world
world-led s e led = let era = (promised s e led).era in record { events = era.events; run = era.run; is = era.stands }

-- events that may be made, one after the other
abbrev pub MayAllMake : Eras → List Event → Type 0
MayAllMake e [] = Unit {0}
MayAllMake e (x ∷ xs) = MayMake e x × MayAllMake (era_step e x).eras xs

pub makes-lead : (e : Eras) (es : List Event) → MayAllMake e es → Leads e (eras_after e es) (map Makes es)
makes-lead e [] may = record { may = tt; to = refl }
makes-lead e (x ∷ xs) may = let rest = makes-lead (era_step e x).eras xs may.1 in record { may = (may.0, rest.may); to = rest.to }
