-- Every move keeps rows on their way sound and sessions numbered, so they are along every run.
use Rattle.std.proofs.Common.{◌≡◌, ◌≢◌, ℕ, false, [], ◌∷◌, take, ◌⊎◌, inl, inr, sym, ap, subst, ◌∙◌}
use Rattle.group_types.specs.Dimensions.{Dimensions}
use Rattle.group_types.specs.Names.{IsProcess}
use Rattle.group_types.specs.Shape.{IsShape}
use Rattle.group_types.specs.declared.process.ProcessId.{ProcessId}
use Rattle.group_types.proofs.Names.{same-cases}
use Rattle.group_types.specs.Each.{Each}
use Rattle.group_types.proofs.Eaches.{each-append, each-take}
use Rattle.membership.specs.Members.{knows_dead}
use Rattle.group_message.specs.declared.message.Message.{Message}
use Rattle.group_message.specs.declared.message.Message.TheVariants as tells
use Rattle.group_run.specs.Applying.{ProcessStep}
use Rattle.group_run.specs.Process.{Process}
use Rattle.group_run.specs.Receiving.{receive}
use Rattle.group_run.specs.World.{sent_to}
use Rattle.law_moves.proofs.Moves.{Acted, Died, Keeps, Popped, Treats}
use Rattle.law_moves.specs.State.{State, HoldsAlways}
use Rattle.law_moves.proofs.State.{Opens}
use Rattle.law_moves.proofs.Runs.{holds_always}
use Rattle.law_moves.proofs.Members.{Members}
use Rattle.law_moves.proofs.Standing.{each-sent_to}
use Rattle.law_moves.proofs.Keeping as members
use Rattle.law_bytes.proofs.TokensKeeping.{unknown}
use Rattle.law_headline.proofs.Rows.{Numbered, RowSound, RowsSound}
use Rattle.law_headline.proofs.RowSteps.{Does, receive-does, treats-does}

module _ (s : Dimensions) where
  -- one process made a step
  acted-sound : (u w : State) (p : ProcessId) (step : ProcessStep) → IsProcess s p → u.dead p ≡ false → Members s w → Acted s u w p step
      → RowsSound s u → (u.process p).name ≡ p → Does s (u.process p) step → RowsSound s w
  acted-sound u w p step pin lives after acts old name does = record { links = links; sessions = sessions } where
    lived : (q : ProcessId) → IsProcess s q → w.dead q ≡ false → u.dead q ≡ false
    lived q qin living = sym (acts.dead q qin) ∙ living

    sends : Each (λ z. RowSound s p z.to z.message) step.sent
    sends = subst (λ (y : ProcessId). Each (λ z. RowSound s y z.to z.message) step.sent) name does.sent

    open_to : (q : ProcessId) → IsProcess s q → w.dead q ≡ false → knows_dead step.process.known q ≡ false
    open_to q qin living = by (same-cases q p) where
      by : (q ≡ p) ⊎ (q ≢ p) → knows_dead step.process.known q ≡ false
      by (inr other) = unknown s u w p step pin lives after acts q qin other (lived q qin living)
      by (inl is) = subst (λ (y : ProcessId). knows_dead step.process.known y ≡ false) (sym is)
          (subst (λ (y : Process). knows_dead y.known p ≡ false) acts.process (after.not_self p pin (acts.dead p pin ∙ lives)))

    links : (x q : ProcessId) → IsProcess s x → IsProcess s q → w.dead q ≡ false → Each (RowSound s x q) (w.link x q)
    links x q xin qin living = by (same-cases x p) where
      by : (x ≡ p) ⊎ (x ≢ p) → Each (RowSound s x q) (w.link x q)
      by (inr other) = subst (Each (RowSound s x q)) (sym (acts.links x q xin qin other)) (old.links x q xin qin (lived q qin living))
      by (inl is) =
          subst (λ (y : ProcessId). Each (RowSound s y q) (w.link y q)) (sym is)
          (subst (Each (RowSound s p q)) (sym (acts.sends q qin (open_to q qin living)))
          (each-append (RowSound s p q) (u.link p q) (sent_to q step.sent) (old.links p q pin qin (lived q qin living))
          (each-sent_to (λ to m. RowSound s p to m) q step.sent sends)))

    sessions : (q : ProcessId) → IsProcess s q → w.dead q ≡ false → Numbered (w.process q).as_leader
    sessions q qin living = by (same-cases q p) where
      by : (q ≡ p) ⊎ (q ≢ p) → Numbered (w.process q).as_leader
      by (inl is) = subst (λ (y : Process). Numbered y.as_leader) (sym (ap w.process is ∙ acts.process)) does.sessions
      by (inr other) = subst (λ (y : Process). Numbered y.as_leader) (sym (acts.others q qin other)) (old.sessions q qin (lived q qin living))

  treated : (v w : State) (p : ProcessId) (t : ProcessStep) → IsProcess s p → v.dead p ≡ false
      → Treats s (v.process p) t → Members s v → Members s w → RowsSound s v → Acted s v w p t → RowsSound s w
  treated v w p t pin lives treats before after old acts =
      acted-sound v w p t pin lives after acts old (before.named p pin) (treats-does s (v.process p) (old.sessions p pin lives) t treats)

  received : (v u w : State) (x p : ProcessId) (m : Message) → IsProcess s x → IsProcess s p → v.dead p ≡ false → Members s v → Members s w
      → RowsSound s v → Popped s v u x p m → Acted s u w p (receive s x m (v.process p)) → RowsSound s w
  received v u w x p m xin pin lives members after old pops acts =
      acted-sound u w p (receive s x m (v.process p)) pin (pops.dead p pin ∙ lives) after acts before
      (subst (λ (y : Process). y.name ≡ p) (sym (pops.processes p pin)) (members.named p pin))
      (subst (λ (y : Process). Does s y (receive s x m (v.process p))) (sym (pops.processes p pin))
      (receive-does s x m (v.process p) (old.sessions p pin lives)))
    where
      before : RowsSound s u
      before = record {
        links = links;
        sessions = λ q qin living. subst (λ (y : Process). Numbered y.as_leader) (sym (pops.processes q qin))
            (old.sessions q qin (sym (pops.dead q qin) ∙ living));
      } where
        links : (y q : ProcessId) → IsProcess s y → IsProcess s q → u.dead q ≡ false → Each (RowSound s y q) (u.link y q)
        links y q yin qin living = cases (same-cases y x) (same-cases q p) where
          was : Each (RowSound s y q) (v.link y q)
          was = old.links y q yin qin (sym (pops.dead q qin) ∙ living)

          popped : Each (RowSound s x p) (u.link x p)
          popped = (subst (Each (RowSound s x p)) pops.first (old.links x p xin pin lives)).1

          cases : (y ≡ x) ⊎ (y ≢ x) → (q ≡ p) ⊎ (q ≢ p) → Each (RowSound s y q) (u.link y q)
          cases (inr other) _ = subst (Each (RowSound s y q)) (sym (pops.links y q yin qin (inl other))) was
          cases (inl is) (inr other) = subst (Each (RowSound s y q)) (sym (pops.links y q yin qin (inr other))) was
          cases (inl is) (inl same) = subst (λ (z : ProcessId). Each (RowSound s z q) (u.link z q)) (sym is)
              (subst (λ (z : ProcessId). Each (RowSound s x z) (u.link x z)) (sym same) popped)

  died : (v w : State) (p : ProcessId) (keep : ℕ) → IsProcess s p → RowsSound s v → Died s v w p keep → RowsSound s w
  died v w p keep pin old dies = record {
    links = links;
    sessions = λ q qin living. subst (λ (y : Process). Numbered y.as_leader) (sym (dies.processes q qin)) (old.sessions q qin (lived q qin living));
  } where
    others : (q : ProcessId) → w.dead q ≡ false → q ≢ p
    others q living same = cc (living, ap w.dead same, dies.dead)

    lived : (q : ProcessId) → IsProcess s q → w.dead q ≡ false → v.dead q ≡ false
    lived q qin living = sym (dies.others q qin (others q living)) ∙ living

    links : (x q : ProcessId) → IsProcess s x → IsProcess s q → w.dead q ≡ false → Each (RowSound s x q) (w.link x q)
    links x q xin qin living = by (same-cases x p) where
      by : (x ≡ p) ⊎ (x ≢ p) → Each (RowSound s x q) (w.link x q)
      by (inr from) = subst (Each (RowSound s x q)) (sym (dies.links x q xin qin from)) (old.links x q xin qin (lived q qin living))
      by (inl is) = subst (λ (y : ProcessId). Each (RowSound s y q) (w.link y q)) (sym is) (subst (Each (RowSound s p q)) (sym (dies.cut q qin))
          (each-append (RowSound s p q) (take keep (v.link p q)) (tells.Notice p ∷ [])
          (each-take (RowSound s p q) keep (v.link p q) (old.links p q pin qin (lived q qin living))) (tt, tt)))

  began : (v : State) → Opens s v → RowsSound s v
  began v starts = record {
    links = λ x q xin qin living. subst (Each (RowSound s x q)) (sym (starts.links x q xin qin)) tt;
    sessions = λ p pin lives. subst (λ (y : Process). Numbered y.as_leader) (sym (starts.process p pin)) (record { rises = tt; below = tt });
  }

  keeps : IsShape s → Keeps s (λ v. Members s v × RowsSound s v)
  keeps shaped = record {
    opens = λ v starts. ((members.keeps s shaped).opens v starts, began v starts);
    treats = λ v w p t pin up lives treats both acts.
        let after = (members.keeps s shaped).treats v w p t pin up lives treats both.0 acts in
        (after, treated v w p t pin lives treats both.0 after both.1 acts);
    receives = λ v u w x p m xin pin apart up lives both pops acts.
        let after = (members.keeps s shaped).receives v u w x p m xin pin apart up lives both.0 pops acts in
        (after, received v u w x p m xin pin lives both.0 after both.1 pops acts);
    dies = λ v w p keep pin both dies. ((members.keeps s shaped).dies v w p keep pin both.0 dies, died v w p keep pin both.1 dies);
  }

  pub rows-sound-always : HoldsAlways s (RowsSound s)
  rows-sound-always es run = (holds_always s (λ v. Members s v × RowsSound s v) (keeps run.0) es run).1
