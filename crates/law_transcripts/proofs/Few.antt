-- A script has few turns: no more than its lines can make and drain.
use Rattle.std.proofs.Common.{◌≡◌, ◌≤◌, ◌+◌, ◌*◌, ◌⊎◌, inl, inr, ℕ, suc, List, [], ◌∷◌, ◌∙◌, length, Option, Some, None, refl, sym, ap, subst, arith}
use Rattle.std.proofs.lemmas.List.{length-append}
use Rattle.group_types.specs.Dimensions.{Dimensions}
use Rattle.group_types.specs.Shape.{IsShape}
use Rattle.group_calls.specs.Turns.{Turn}
use Rattle.group_run.specs.World.{World, opening}
use Rattle.scenario_run.specs.Course.{Ends, Goes, Refused, turns_of_lines}
use Rattle.scenario_run.specs.Playing.{Play, PlayNext, next_of}
use Rattle.scenario_run.proofs.Draining.{burden, line_burden, load-opening}
use Rattle.scenario_run.proofs.Following.{turns_after}
use Rattle.scenario_run.proofs.Leading.{IsLedTo, Leads, led-on, opened}
use Rattle.scenario_run.proofs.Running.{GoesOn, line-leads, line-opens}
use Rattle.law_transcripts.proofs.Numbers.{events-long, turns-long}

leads-long : (w v : World) (turns : List Turn) → Leads w v turns → v.events ≡ w.events + length turns
leads-long w v turns leads =
    let many = ap (λ (x : World). x.events) (sym leads.to) ∙ events-long w leads.events in
    let long = sym (turns-long w leads.events) ∙ ap length leads.turns_are in
    omega (arith, many, long)

abbrev Goal : Dimensions → List (List ℕ) → Type 0
Goal s lines = (q : Play) → IsLedTo s q.world → q.world.events + length (turns_of_lines next_of (Some q) lines) ≤ burden q.world + length lines * line_burden

named-few : (s : Dimensions) (lines : List (List ℕ)) → Goal s lines
named-few s [] p led = omega arith
named-few s (line ∷ lines) p led = by (next_of (Some p) line) refl (named-few s lines)
  where
    by : (next : PlayNext) → next_of (Some p) line ≡ next → Goal s lines
        → p.world.events + length (turns_after next_of next lines) ≤ burden p.world + suc (length lines) * line_burden
    by Ends is later = omega arith
    by (Refused cause) is later = omega arith
    by (Goes next turns text) is later =
        let on : GoesOn p.world next turns = line-leads s p line next turns text led is in
        let light = on.light in
        let many = leads-long p.world on.play.world turns on.leads in
        let rest = later on.play (led-on s p.world on.play.world turns led on.leads) in
        let same = ap (λ (q : Option Play). length (turns_of_lines next_of q lines)) on.is in
        let both = length-append turns (turns_of_lines next_of next lines) in
        omega (arith, light, many, rest, same, both)

pub turns-few : (lines : List (List ℕ)) → length (turns_of_lines next_of None lines) ≤ length lines * line_burden
turns-few [] = omega arith
turns-few (line ∷ lines) = by (next_of None line) refl (turns-few lines)
  where
    named : (s : Dimensions) → IsShape s → length (turns_of_lines next_of (Some (record { world = opening s; moment = 0 })) lines) ≤ length lines * line_burden
    named s limits = let all = named-few s lines (record { world = opening s; moment = 0 }) (opened s limits) in let none = load-opening s in omega
        (arith, all, none)

    either : (next : Option Play) → (next ≡ None) ⊎ ((s : Dimensions) × IsShape s × (next ≡ Some (record { world = opening s; moment = 0 })))
        → length (turns_of_lines next_of None lines) ≤ length lines * line_burden
        → length (turns_of_lines next_of next lines) ≤ length lines * line_burden
    either next (inl none) later = subst (λ (q : Option Play). length (turns_of_lines next_of q lines) ≤ length lines * line_burden) (sym none) later
    either next (inr (s, limits, some)) later = subst (λ (q : Option Play). length (turns_of_lines next_of q lines) ≤ length lines * line_burden) (sym some)
        (named s limits)

    by : (next : PlayNext) → next_of None line ≡ next → length (turns_of_lines next_of None lines) ≤ length lines * line_burden
        → length (turns_after next_of next lines) ≤ suc (length lines) * line_burden
    by Ends is later = omega arith
    by (Refused cause) is later = omega arith
    by (Goes next turns text) is later =
        let opens = line-opens line next turns text is in
        let rest = either next opens.is later in
        let quiet = ap length opens.quiet in
        let both = length-append turns (turns_of_lines next_of next lines) in
        omega (arith, rest, quiet, both)
