-- Scripts over eras can be played: a line leaves what the next may have.
use Rattle.std.proofs.Common.{◌≡◌, ℕ, ◌⊎◌, inl, inr, List, Option, Some, None, refl, sym, subst, arith}
use Rattle.group_types.specs.Dimensions.{Dimensions}
use Rattle.group_types.specs.Shape.{IsShape}
use Rattle.group_run.specs.World.{opening}
use Rattle.scenario_run.specs.Course.{Goes}
use Rattle.scenario_run.proofs.Beginning.{Opens}
use Rattle.scenario_play.specs.Script.{LeavesReady}
use Rattle.scenario_play.specs.Whole.{PlaysAllAlways}
use Rattle.scenario_play.specs.declared.status.Status.TheVariants.{Done}
use Rattle.scenario_play.proofs.Treating.{all-done}
use Rattle.scenario_play.proofs.Whole.{plays-all, script-never}
use Rattle.group_eras.specs.Eras.{Eras, first_era}
use Rattle.group_eras.specs.Promise.{EraMove, IsLed}
use Rattle.regroup_run.specs.Playing.{EraPlay, next_of, eras_from}
use Rattle.regroup_run.specs.Promises.{KeepsPromises}
use Rattle.regroup_run.specs.Script.{first_fault}
use Rattle.regroup_run.proofs.Leading as leading
use Rattle.regroup_run.proofs.Promises.{scripts_keep_promises}
use Rattle.regroup_run.proofs.Running as running
use Rattle.regroup_play.specs.Doing.{ErasGoOn, IsReadyEras, era_script, era_told}
use Rattle.regroup_play.specs.Language.{era_scripts}

-- moves that led to eras, from their first shape
pub led-to : (e : Eras) → (led : IsLed e) → leading.IsLedTo led.s e
led-to e led = record { limits = led.limits; moves = led.moves; leads = record { may = led.may; to = sym led.is } }

ready-to : (p : EraPlay) → (ready : IsReadyEras p) → running.IsReady ready.led.s p
ready-to p ready = record { led = led-to p.eras ready.led; moment = ready.moment }

-- the script may go on
opens-ready : (now : Option EraPlay) (moves : List EraMove) (text : List ℕ) → Opens IsShape eras_from now moves text → ErasGoOn now
opens-ready now moves text opens = by opens.is where
  by : (now ≡ None) ⊎ ((s : Dimensions) × IsShape s × (now ≡ Some (eras_from s))) → ErasGoOn now
  by (inl none) = subst ErasGoOn (sym none) tt
  by (inr (s, limits, some)) =
      subst ErasGoOn (sym some) (record {
        led = leading.is-led s (first_era (opening s)) (leading.opened s limits);
        moment = omega arith;
      })

goes-ready : (p : EraPlay) (now : Option EraPlay) (moves : List EraMove) → IsReadyEras p → running.GoesOn p now moves → ErasGoOn now
goes-ready p now moves ready on =
    subst ErasGoOn (sym on.is)
    (record {
      led = leading.is-led ready.led.s on.play.eras
          (leading.led-on ready.led.s p.eras on.play.eras moves (led-to p.eras ready.led) on.leads);
      moment = on.moment;
    })

ready-on : (before now : Option EraPlay) (line : List ℕ) (moves : List EraMove) (text : List ℕ) → ErasGoOn before
    → next_of before line ≡ Goes now moves text → ErasGoOn now
ready-on None now line moves text ready next = opens-ready now moves text (running.line-opens line now moves text next)
ready-on (Some p) now line moves text ready next = goes-ready p now moves ready (running.line-leads ready.led.s p line now moves text (ready-to p ready) next)

pub left : LeavesReady era_script
left n before now line moves text ready next = record { ready = ready-on before now line moves text ready next; logged = λ more. refl }

-- a script of which all is done keeps its promises
pub all-kept : (text : List ℕ) → era_scripts.verdict text ≡ Done → KeepsPromises text
all-kept text is = scripts_keep_promises text (all-done era_script era_told (first_fault text) is)

-- a script is all that its source had, where the source told that
pub plays_all : PlaysAllAlways era_scripts
plays_all = plays-all era_scripts (script-never era_script era_scripts first_fault era_told (λ text. refl))
