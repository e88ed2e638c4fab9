-- Scripts of one group can be played: a line leaves what the next may have.
use Rattle.std.proofs.Common.{◌≡◌, ℕ, ◌+◌, ◌*◌, ◌⊎◌, inl, inr, List, [], ◌∷◌, ◌++◌, length, Option, Some, None, refl}
use Rattle.std.proofs.Common.{sym, ap, ◌∙◌, subst, append_assoc, length-append, arith}
use Rattle.group_types.specs.Dimensions.{Dimensions}
use Rattle.group_types.specs.Shape.{IsShape}
use Rattle.group_calls.specs.Turns.{Turn, log_of}
use Rattle.group_calls.specs.declared.entry.Entry.{Entry}
use Rattle.scenario_run.specs.Playing.{Play, play_from}
use Rattle.scenario_run.specs.Promises.{KeepsPromises}
use Rattle.scenario_run.specs.Script.{first_fault}
use Rattle.scenario_run.proofs.Draining.{load-opening}
use Rattle.scenario_run.proofs.Leading.{IsLedTo, leads-log, led-on, opened}
use Rattle.scenario_run.proofs.Promises.{scripts_keep_promises}
use Rattle.scenario_run.proofs.Running.{GoesOn, line-leads, line-opens}
use Rattle.scenario_play.specs.Group.{IsLightAt, IsLightPlay, PlayGoesOn, group_script, group_told, log_len, most_of_a_line}
use Rattle.scenario_play.specs.Script.{LeavesReady, Left}
use Rattle.scenario_play.specs.Status.{verdict}
use Rattle.scenario_play.specs.declared.status.Status.TheVariants.{Done}
use Rattle.scenario_play.proofs.Treating.{all-done}

-- how many entries turns logged
abbrev many : List Turn → ℕ
many turns = length (log_of turns)

many-append : (ts us : List Turn) → many (ts ++ us) ≡ many ts + many us
many-append ts us = ap length (all ts) ∙ length-append (log_of ts) (log_of us) where
  all : (ts : List Turn) → log_of (ts ++ us) ≡ log_of ts ++ log_of us
  all [] = refl
  all (t ∷ ts) = ap (λ (xs : List Entry). t.logged ++ xs) (all ts) ∙ sym (append_assoc t.logged (log_of ts) (log_of us))

light-at : (n : ℕ) (s : Dimensions) (p : Play) → IsLedTo s p.world → IsLightPlay (n * most_of_a_line) p → IsLightAt n p
light-at n s p led light = record { shape = s; events = led.events; run = led.run; is = led.is; light = light }

-- what a line leaves, by how many entries its turns logged
left-by : (n : ℕ) (before now : Option Play) (turns : List Turn) → PlayGoesOn (n + 1) now
    → log_len now ≡ log_len before + many turns → Left group_script n before now turns
left-by n before now turns ready logged = record { ready = ready; logged = λ more. (let all = many-append turns more in omega (arith, all, logged)) }

opens-left : (n : ℕ) (now : Option Play) (turns : List Turn) → turns ≡ [] → (now ≡ None)
    ⊎ ((s : Dimensions) × IsShape s × (now ≡ Some (play_from s))) → Left group_script n None now turns
opens-left n now turns quiet (inl none) = left-by n None now turns
    (subst (PlayGoesOn (n + 1)) (sym none) tt)
    (let here = ap log_len none in let silent = ap many quiet in omega (arith, here, silent))
opens-left n now turns quiet (inr (s, limits, some)) = left-by n None now turns
    (subst (PlayGoesOn (n + 1)) (sym some) (light-at (n + 1) s (play_from s) (opened s limits) (let none = load-opening s in omega (arith, none))))
    (let here = ap log_len some in let silent = ap many quiet in omega (arith, here, silent))

goes-left : (n : ℕ) (s : Dimensions) (p : Play) (now : Option Play) (turns : List Turn) → IsLedTo s p.world
    → IsLightPlay (n * most_of_a_line) p → GoesOn p.world now turns → Left group_script n (Some p) now turns
goes-left n s p now turns led light on = left-by n (Some p) now turns
    (subst (PlayGoesOn (n + 1)) (sym on.is)
    (light-at (n + 1) s on.play (led-on s p.world on.play.world turns led on.leads) (let more = on.light in
    omega (arith, light, more))))
    (ap log_len on.is ∙ ap length (leads-log p.world on.play.world turns on.leads) ∙ length-append p.world.log (log_of turns))

pub left : LeavesReady group_script
left n None now line turns text ready next = let opens = line-opens line now turns text next in opens-left n now turns opens.quiet opens.is
left n (Some p) now line turns text ready next =
    let led : IsLedTo ready.shape p.world = record { events = ready.events; run = ready.run; is = ready.is } in
    goes-left n ready.shape p now turns led ready.light (line-leads ready.shape p line now turns text led next)

-- a script of which all is done keeps its promises
pub all-kept : (text : List ℕ) → verdict text ≡ Done → KeepsPromises text
all-kept text is = scripts_keep_promises text (all-done group_script group_told (first_fault text) is)
