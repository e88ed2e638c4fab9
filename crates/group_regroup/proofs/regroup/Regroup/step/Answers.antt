use Rattle.std.proofs.Common.{◌≡◌, ℕ, List, [], length, map, ap, subst, ◌∙◌}
use Rattle.group_calls.specs.declared.entry.Entry.{Entry}
use Rattle.group_calls.specs.declared.event.Event.{Event}
use Rattle.group_run.specs.World.{World, step}
use Rattle.group_eras.specs.Eras.{Eras, era_step}
use Rattle.group_regroup.specs.declared.changing.Lowered.{Lowered}
use Rattle.group_eras.specs.Told.{event_in}
use Rattle.group_eras.specs.Promise.{IsLed}
use Rattle.group_regroup.specs.Kept.{eras_of, lowered_by, lowered_until}
use Rattle.group_regroup.proofs.Led.{led-made}
use Rattle.group_regroup.proofs.Moving.{eras-step, kept-step}
use Rattle.group_regroup.proofs.regroup.Regroup.step.Goals as goal

pub invariant_of-self-2 : goal.invariant_of-self-2
invariant_of-self-2 c =
    let w : World = c.self.inside.world in
    let e : Event = c.args.event.now in
    let bases : List ℕ = c.self.inside.bases.items in
    let made : c.make.new.world ≡ (step w (event_in c.deref-2.result.now w.shape.k e)).world = c.in_ok-out.ensures.world in
    let stepped : c.make.new.world ≡ (step w (event_in bases w.shape.k e)).world = made
    ∙ ap (λ (bs : List ℕ). (step w (event_in bs w.shape.k e)).world) c.deref-2.ensures.value in
    let lowered : c.in_ok-lowered.lowered ≡ lowered_by w bases e = c.in_ok-lowered.ensures ∙ ap (λ (bs : List ℕ). lowered_by w bs e) c.deref.ensures.value in
    let past : List (List Entry) = map (λ log. log.items) c.self.inside.past.items in
    record {
      kept =
          kept-step w c.make.new.world bases [] c.self.inside.lowered.items c.note.new.list.items e (length c.log.result.now) c.in_ok-lowered.lowered
          c.self.invariant.kept stepped lowered (ap length c.log.ensures.log)
          (c.note.ensures ∙ ap (λ (xs : List Lowered). lowered_until xs c.in_ok-lowered.lowered (length c.log.result.now)) c.reserve.ensures.items);
      led = led-made c.args.self.now (eras_of c.make.new.world bases past c.note.new.list.items) e
          (subst IsLed c.self.view_is c.self.invariant.led) c.requires.may (
          eras-step w c.make.new.world bases (map (λ log. log.items) c.self.inside.past.items)
          c.self.inside.lowered.items c.note.new.list.items e (length c.log.result.now) c.in_ok-lowered.lowered
          c.self.invariant.kept stepped lowered (ap length c.log.ensures.log)
          (c.note.ensures ∙ ap (λ (xs : List Lowered). lowered_until xs c.in_ok-lowered.lowered (length c.log.result.now)) c.reserve.ensures.items)
          c.run.ensures
          ∙ ap (λ (x : Eras). (era_step x e).eras) c.self.view_is);
    }

pub returns-clause-eras : goal.returns-clause-eras
returns-clause-eras c =
    let w : World = c.self.inside.world in
    let e : Event = c.args.event.now in
    let bases : List ℕ = c.self.inside.bases.items in
    let made : c.make.new.world ≡ (step w (event_in c.deref-2.result.now w.shape.k e)).world = c.in_ok-out.ensures.world in
    let stepped : c.make.new.world ≡ (step w (event_in bases w.shape.k e)).world = made
    ∙ ap (λ (bs : List ℕ). (step w (event_in bs w.shape.k e)).world) c.deref-2.ensures.value in
    let lowered : c.in_ok-lowered.lowered ≡ lowered_by w bases e = c.in_ok-lowered.ensures ∙ ap (λ (bs : List ℕ). lowered_by w bs e) c.deref.ensures.value in
    eras-step w c.make.new.world bases (map (λ log. log.items) c.self.inside.past.items) c.self.inside.lowered.items
    c.note.new.list.items e (length c.log.result.now) c.in_ok-lowered.lowered
    c.self.invariant.kept stepped lowered (ap length c.log.ensures.log)
    (c.note.ensures ∙ ap (λ (xs : List Lowered). lowered_until xs c.in_ok-lowered.lowered (length c.log.result.now)) c.reserve.ensures.items) c.run.ensures
    ∙ ap (λ (x : Eras). (era_step x e).eras) c.self.view_is
