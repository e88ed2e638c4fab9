-- A group in which a delivery comes next isn't drained.
use Rattle.std.proofs.Common.{◌≡◌, ◌≢◌, ℕ, Bool, true, false, not, ◌&&◌, List, [], ◌∷◌, Option, Some, None, refl, sym, ap, subst, ◌∙◌}
use Rattle.group_types.specs.Lists.{at}
use Rattle.group_types.specs.Names.{process_at}
use Rattle.group_types.specs.declared.process.ProcessId.{ProcessId}
use Rattle.group_types.proofs.Names.{index-process_at, process_at-in}
use Rattle.group_message.specs.declared.message.Message.{Message}
use Rattle.group_calls.specs.declared.event.Event.{Event}
use Rattle.group_run.specs.Draining.{next_delivery, node_at, some_message}
use Rattle.group_run.specs.Meaning.{IsDown, IsDrained, link}
use Rattle.group_run.specs.World.{World}
use Rattle.law_progress.specs.Drains.{NextComes}
use Rattle.law_progress.proofs.Next.{Waits, next-waits}
use Rattle.law_progress.proofs.Whole.{next-comes}
use Rattle.group_core.specs.Runs.{HasRun}

both-true : (a b : Bool) → (not a && b) ≡ true → (a ≡ false) × (b ≡ true)
both-true true b is = cc is
both-true false b is = (refl, is)

module _ (w : World) (has : HasRun w) (up : ¬ (IsDown w)) (drained : IsDrained w) where
  comes : (e : Event) → next_delivery w ≡ Some e → NextComes w e
  comes e is = subst (λ (v : World). NextComes v e) (sym has.is)
      (next-comes w.shape has.events has.run (λ down. up (subst IsDown (sym has.is) down)) e (subst (λ (v : World). next_delivery v ≡ Some e) has.is is))

  none-comes : (e : Event) → next_delivery w ≡ Some e → ⊥
  none-comes e is =
      by (at [] (node_at w x).links y) (both-true (node_at w y).dead (some_message (at [] (node_at w x).links y))
      there.waiting) (ap (at [] (node_at w x).links) (index-process_at w.shape y)) where
        there : Waits w e
        there = next-waits w e is

        x : ℕ
        x = there.from

        y : ℕ
        y = there.to

        from : ProcessId
        from = process_at w.shape x

        to : ProcessId
        to = process_at w.shape y

        apart : from ≢ to
        apart = (subst (NextComes w) (sym there.is) (comes e is)).may.2

        by : (ms : List Message) → ((node_at w y).dead ≡ false) × (some_message ms ≡ true) → link w from to ≡ ms → ⊥
        by [] waits same = cc waits.1
        by (m ∷ rest) waits same =
            cc (sym (drained from to (process_at-in w.shape x there.from_low) (
              process_at-in w.shape y there.to_low,
              waits.0,
            ) apart) ∙ same)

  pub none-next : next_delivery w ≡ None
  none-next = by (next_delivery w) refl where
    by : (o : Option Event) → next_delivery w ≡ o → o ≡ None
    by None is = refl
    by (Some e) is = absurd (none-comes e is)
