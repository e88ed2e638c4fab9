-- What is promised over eras, whatever happens.
use Rattle.std.proofs.Common.{◌≡◌, List, [], ◌∷◌, ◌++◌, take, refl, sym, ap, ◌∙◌, subst}
use Rattle.std.proofs.lemmas.List.{append-nil, append_assoc}
use Rattle.group_calls.specs.declared.event.Event.{Event}
use Rattle.group_eras.specs.Carry.{read_era, reading, setting}
use Rattle.group_run.specs.World.{opening}
use Rattle.group_eras.specs.Eras.{EraEntry, Eras, era_step, eras_after, first_era, next_era}
use Rattle.group_eras.specs.Moments.{ItemsAreGot, ReadsMayCome, SetsMayCome}
use Rattle.group_eras.specs.Promise.{Begins, Carries, CarriesKeep, EraMove, ErasAreRuns, IsLed, LogsOnlyGrow, Makes, MayAllBeDone, MayBeDone, all_done, done}
use Rattle.group_eras.proofs.Carrying.{all-got, begun-stands, carried-stands, has-carried, run-read, run-set}
use Rattle.group_eras.proofs.Standing.{Stands, has-promise, stands-first, stands-next}

pub move-stands : (e : Eras) (move : EraMove) → Stands e → MayBeDone e move → Stands (done e move)
move-stands e (Makes event) stands may = stands-next e stands event may.may
move-stands e (Carries s) stands may = carried-stands e stands may.1.rest s may.0 may.1
move-stands e (Begins many) stands may = begun-stands e stands may many

pub all-stand : (e : Eras) (moves : List EraMove) → Stands e → MayAllBeDone e moves → Stands (all_done e moves)
all-stand e [] stands may = stands
all-stand e (move ∷ moves) stands may = all-stand (done e move) moves (move-stands e move stands may.0) may.1

pub led-stands : (e : Eras) → IsLed e → Stands e
led-stands e led = subst Stands (sym led.is) (all-stand (first_era (opening led.s)) led.moves (stands-first led.s led.limits) led.may)

pub eras_are_runs : ErasAreRuns
eras_are_runs e led = has-promise e (led-stands e led)

pub carries_keep : CarriesKeep
carries_keep e s led successor can = has-carried e (led-stands e led) can.rest s successor can

pub items_are_got : ItemsAreGot
items_are_got e led rest = all-got e (led-stands e led) rest

pub reads_may_come : ReadsMayCome
reads_may_come e led rest = run-read e (led-stands e led) rest

pub sets_may_come : SetsMayCome
sets_may_come e s led successor can = run-set e (led-stands e led) can.rest s successor can

-- what a log gains
after-grows : (e : Eras) (events : List Event) → (more : List EraEntry) × ((eras_after e events).log ≡ e.log ++ more)
after-grows e [] = ([], sym (append-nil e.log))
after-grows e (event ∷ events) =
    let rest = after-grows (era_step e event).eras events in
    let new : List EraEntry = (era_step e event).logged in
    (new ++ rest.0, rest.1 ∙ append_assoc e.log new rest.0)

pub logs_only_grow : LogsOnlyGrow
logs_only_grow e (Makes event) = ((era_step e event).logged, refl)
logs_only_grow e (Carries s) =
    let old = after-grows e (reading e.world).events in
    let new = after-grows (next_era (read_era e) s) (setting (opening s) (reading e.world).parcels) in
    (old.0 ++ new.0, new.1 ∙ ap (λ (log : List EraEntry). log ++ new.0) old.1 ∙ append_assoc e.log old.0 new.0)
logs_only_grow e (Begins many) = after-grows e (take many (reading e.world).events)
