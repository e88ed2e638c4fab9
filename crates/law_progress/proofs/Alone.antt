-- The link of a living process to itself is empty.
use Rattle.std.proofs.Common.{◌≡◌, ◌≢◌, ◌⊎◌, inl, inr, true, false, List, [], ◌++◌, sym, ap, subst, ◌∙◌}
use Rattle.group_types.specs.Dimensions.{Dimensions}
use Rattle.group_types.specs.Names.{IsProcess}
use Rattle.group_types.specs.Shape.{IsShape}
use Rattle.group_types.specs.declared.process.ProcessId.{ProcessId}
use Rattle.group_types.proofs.Names.{same-cases}
use Rattle.group_types.specs.Each.{Each}
use Rattle.membership.specs.Members.{knows_dead}
use Rattle.group_message.specs.declared.message.Message.{Message}
use Rattle.group_calls.specs.declared.event.Event.{Event}
use Rattle.group_run.specs.Applying.{ProcessStep}
use Rattle.group_run.specs.Headline.{IsRun}
use Rattle.group_run.specs.History.{history_of, no_history}
use Rattle.group_run.specs.Meaning.{Lives, link}
use Rattle.group_run.specs.Process.{Process}
use Rattle.group_run.specs.Receiving.{receive}
use Rattle.group_run.specs.World.{World, after, sent_to}
use Rattle.law_moves.proofs.Moves.{Acted, Keeps, Popped}
use Rattle.law_moves.specs.State.{State, state_of}
use Rattle.law_moves.proofs.Runs.{holds_always, shape-from, world-from}
use Rattle.law_moves.proofs.Members.{MayStand, Members}
use Rattle.law_moves.proofs.Keeping as members
use Rattle.law_progress.proofs.Outward.{Others, none-to, received-out, treated-out}

-- a living process has nothing on its way to itself
abbrev Alone : Dimensions → State → Type 0
Alone s v = (p : ProcessId) → IsProcess s p → v.dead p ≡ false → v.link p p ≡ []

module _ (s : Dimensions) where
  -- a process that sends to others alone acts
  acted-alone : (v w : State) (p : ProcessId) (t : ProcessStep) → IsProcess s p → Acted s v w p t
      → knows_dead t.process.known p ≡ false → Others p t.sent → Alone s v → Alone s w
  acted-alone v w p t pin acts unknown others alone q qin lives = by (same-cases q p) where
    lived : v.dead q ≡ false
    lived = sym (acts.dead q qin) ∙ lives

    by : (q ≡ p) ⊎ (q ≢ p) → w.link q q ≡ []
    by (inr other) = acts.links q q qin qin other ∙ alone q qin lived
    by (inl same) =
        ap (λ (z : ProcessId). w.link z z) same ∙ acts.sends p pin unknown
        ∙ ap (λ (ms : List Message). ms ++ sent_to p t.sent) (ap (λ (z : ProcessId). v.link z z) (sym same) ∙ alone q qin lived) ∙ none-to p t.sent others

  popped-alone : (v u : State) (x p : ProcessId) (m : Message) → x ≢ p → Popped s v u x p m → Alone s v → Alone s u
  popped-alone v u x p m apart pops alone q qin lives = pops.links q q qin qin (by (same-cases q x)) ∙ alone q qin (sym (pops.dead q qin) ∙ lives) where
    by : (q ≡ x) ⊎ (q ≢ x) → (q ≢ x) ⊎ (q ≢ p)
    by (inr other) = inl other
    by (inl same) = inr (λ is. apart (sym same ∙ is))

  -- the members after a step say that the process doesn't take itself for dead
  unknown-self : (v w : State) (p : ProcessId) (t : ProcessStep) → IsProcess s p → v.dead p ≡ false → Acted s v w p t
      → Members s w → knows_dead t.process.known p ≡ false
  unknown-self v w p t pin lives acts after = ap (λ (q : Process). knows_dead q.known p) (sym acts.process) ∙ after.not_self p pin (acts.dead p pin ∙ lives)

  keeps-alone : IsShape s → Keeps s (λ v. Members s v × Alone s v)
  keeps-alone shaped = record {
    opens = λ v starts. ((members.keeps s shaped).opens v starts, λ p pin lives. starts.links p p pin pin);
    treats = λ v w p t pin up lives treats both acts.
        let after = (members.keeps s shaped).treats v w p t pin up lives treats both.0 acts in (
          after,
          acted-alone v w p t pin acts (unknown-self v w p t pin lives acts after)
              (treated-out p s (v.process p) t (both.0.named p pin) treats).others both.1,
        );
    receives = λ v u w x p m xin pin apart up lives both pops acts.
        let after = (members.keeps s shaped).receives v u w x p m xin pin apart up lives both.0 pops acts in
        let may = subst (Each (MayStand s v x p)) pops.first (both.0.may x p xin pin apart lives) in (
          after,
          acted-alone u w p (receive s x m (v.process p)) pin acts (unknown-self u w p (receive s x m (v.process p)) pin (pops.dead p pin ∙ lives) acts after)
              (received-out p s v x m (v.process p) (both.0.named p pin) apart may.0).others (popped-alone v u x p m apart pops both.1),
        );
    dies = λ v w p keep pin both died. (
      (members.keeps s shaped).dies v w p keep pin both.0 died,
      λ q qin lives. by v w p q (died.dead) lives (λ other. died.links q q qin qin other
          ∙ both.1 q qin (sym (died.others q qin other) ∙ lives)) (same-cases q p),
    );
  } where
    by : (v w : State) (p q : ProcessId) → w.dead p ≡ true → w.dead q ≡ false → (q ≢ p → w.link q q ≡ []) → (q ≡ p) ⊎ (q ≢ p) → w.link q q ≡ []
    by v w p q dead lives there (inr other) = there other
    by v w p q dead lives there (inl same) = absurd (cc (dead, lives, ap w.dead same))

pub alone-after : (s : Dimensions) (es : List Event) → IsRun s es → (p : ProcessId) → Lives (after s es) p → link (after s es) p p ≡ []
alone-after s es run = subst (λ (w : World). (p : ProcessId) → Lives w p → link w p p ≡ []) (world-from (no_history s) es)
    (λ p lives. alone p (subst (λ (t : Dimensions). IsProcess t p) (shape-from (no_history s) es) lives.0) lives.1) where
      alone : Alone s (state_of (history_of s es))
      alone = (holds_always s (λ v. Members s v × Alone s v) (keeps-alone s run.0) es run).1
