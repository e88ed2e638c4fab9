-- Every move keeps what the messages of sessions carry sound.
use Rattle.std.proofs.Common.{◌≡◌, ◌≢◌, ℕ, false, [], ◌∷◌, take, ◌⊎◌, inl, inr, sym, ap, subst, ◌∙◌}
use Rattle.group_types.specs.Dimensions.{Dimensions}
use Rattle.group_types.specs.Names.{IsProcess}
use Rattle.group_types.specs.declared.process.ProcessId.{ProcessId}
use Rattle.group_types.proofs.Names.{same-cases}
use Rattle.group_types.specs.Each.{Each}
use Rattle.group_types.proofs.Eaches.{each-append, each-take}
use Rattle.memc_table.specs.Asked.{Asked}
use Rattle.group_message.specs.declared.message.Message.{Message}
use Rattle.group_message.specs.declared.message.Message.TheVariants as tells
use Rattle.group_run.specs.Applying.{ProcessStep}
use Rattle.group_run.specs.Process.{Process}
use Rattle.group_run.specs.Receiving.{receive}
use Rattle.group_run.specs.World.{sent_to}
use Rattle.law_moves.proofs.Moves.{Acted, Died, Popped, Treats}
use Rattle.law_moves.specs.State.{State}
use Rattle.law_moves.proofs.State.{Opens}
use Rattle.law_moves.proofs.Members.{MayStand, Members}
use Rattle.law_moves.proofs.Standing.{each-sent_to}
use Rattle.law_bytes.proofs.Held.{HoldsBytes}
use Rattle.law_bytes.proofs.TokensKeeping.{unknown}
use Rattle.law_headline.proofs.Sound.{LinksSound, NeedsSound, ProcessSound, Sound, SoundAlwaysKept}
use Rattle.law_headline.proofs.SoundSteps.{Does, IsTaker, receive-does, treats-does}

module _ (s : Dimensions) where
  -- whom a message of its kind may come to
  taker : (v : State) (x q : ProcessId) (m : Message) → MayStand s v x q m → IsTaker m q
  taker v x q (tells.Update r d u stable) may = may.1
  taker v x q (tells.Adopt r d base list) may = may.2
  taker v x q (tells.Ack r d n) may = tt
  taker v x q (tells.Stable r d n) may = tt
  taker v x q (tells.ReadBlock session block rows) may = tt
  taker v x q (tells.Block session bytes n) may = tt
  taker v x q (tells.Mark session r block d n) may = tt
  taker v x q (tells.Row session bytes stamp) may = tt
  taker v x q (tells.Cease upto) may = tt
  taker v x q (tells.Notice dead) may = tt

  -- one process made a step, after which links are as they were but for what it sent
  acted-sound : (u w : State) (p : ProcessId) (step : ProcessStep) → IsProcess s p → u.dead p ≡ false → Members s w → Acted s u w p step
      → LinksSound s u → (u.process p).name ≡ p → Does s (u.process p) step → LinksSound s w
  acted-sound u w p step pin lives after acts old name does = record { links = links; processes = processes } where
    lived : (q : ProcessId) → IsProcess s q → w.dead q ≡ false → u.dead q ≡ false
    lived q qin living = sym (acts.dead q qin) ∙ living

    sends : Each (λ z. Sound s p z.message) step.sent
    sends = subst (λ (y : ProcessId). Each (λ z. Sound s y z.message) step.sent) name does.sent

    links : (x q : ProcessId) → IsProcess s x → IsProcess s q → x ≢ q → w.dead q ≡ false → Each (Sound s x) (w.link x q)
    links x q xin qin apart living = by (same-cases x p) where
      by : (x ≡ p) ⊎ (x ≢ p) → Each (Sound s x) (w.link x q)
      by (inr other) = subst (Each (Sound s x)) (sym (acts.links x q xin qin other)) (old.links x q xin qin apart (lived q qin living))
      by (inl is) =
          let other : q ≢ p = λ (same : q ≡ p). apart (is ∙ sym same) in
          subst (λ (y : ProcessId). Each (Sound s y) (w.link y q)) (sym is)
          (subst (Each (Sound s p)) (sym (acts.sends q qin (unknown s u w p step pin lives after acts q qin other (lived q qin living))))
          (each-append (Sound s p) (u.link p q) (sent_to q step.sent)
          (old.links p q pin qin (λ same. other (sym same)) (lived q qin living))
          (each-sent_to (λ to m. Sound s p m) q step.sent sends)))

    processes : (q : ProcessId) → IsProcess s q → w.dead q ≡ false → ProcessSound s (w.process q)
    processes q qin living = by (same-cases q p) where
      by : (q ≡ p) ⊎ (q ≢ p) → ProcessSound s (w.process q)
      by (inl is) = subst (ProcessSound s) (sym (ap w.process is ∙ acts.process)) does.process
      by (inr other) = subst (ProcessSound s) (sym (acts.others q qin other)) (old.processes q qin (lived q qin living))

  treated : (v w : State) (p : ProcessId) (t : ProcessStep) → IsProcess s p → v.dead p ≡ false
      → Treats s (v.process p) t → Members s v → Members s w → HoldsBytes s v
      → ((op : Asked) → NeedsSound s (v.process p) op) → LinksSound s v → Acted s v w p t → LinksSound s w
  treated v w p t pin lives treats members after holds needs old acts =
      acted-sound v w p t pin lives after acts old (members.named p pin)
      (treats-does s (v.process p) (subst (IsProcess s) (sym (members.named p pin)) pin) (holds p pin lives).space.long
      (old.processes p pin lives) needs t treats)

  received : (v u w : State) (x p : ProcessId) (m : Message) → IsProcess s x → IsProcess s p → x ≢ p → v.dead p ≡ false
      → Members s v → Members s w → HoldsBytes s v
      → LinksSound s v → Popped s v u x p m → Acted s u w p (receive s x m (v.process p)) → LinksSound s w
  received v u w x p m xin pin apart lives members after holds old pops acts =
      acted-sound u w p (receive s x m (v.process p)) pin (pops.dead p pin ∙ lives) after acts before
      (subst (λ (y : Process). y.name ≡ p) (sym (pops.processes p pin)) (members.named p pin))
      (subst (λ (y : Process). Does s y (receive s x m (v.process p))) (sym (pops.processes p pin))
      (receive-does s x m (v.process p) first (subst (IsTaker m) (sym (members.named p pin)) (taker v x p m may))
      (holds p pin lives).space.long (old.processes p pin lives)))
    where
      may : MayStand s v x p m
      may = (subst (Each (MayStand s v x p)) pops.first (members.may x p xin pin apart lives)).0

      first : Sound s x m
      first = (subst (Each (Sound s x)) pops.first (old.links x p xin pin apart lives)).0

      before : LinksSound s u
      before = record {
        links = links;
        processes = λ q qin living. subst (ProcessSound s) (sym (pops.processes q qin)) (old.processes q qin (sym (pops.dead q qin) ∙ living));
      } where
        links : (y q : ProcessId) → IsProcess s y → IsProcess s q → y ≢ q → u.dead q ≡ false → Each (Sound s y) (u.link y q)
        links y q yin qin between living = cases (same-cases y x) (same-cases q p) where
          was : Each (Sound s y) (v.link y q)
          was = old.links y q yin qin between (sym (pops.dead q qin) ∙ living)

          popped : Each (Sound s x) (u.link x p)
          popped = (subst (Each (Sound s x)) pops.first (old.links x p xin pin apart lives)).1

          cases : (y ≡ x) ⊎ (y ≢ x) → (q ≡ p) ⊎ (q ≢ p) → Each (Sound s y) (u.link y q)
          cases (inr other) _ = subst (Each (Sound s y)) (sym (pops.links y q yin qin (inl other))) was
          cases (inl is) (inr other) = subst (Each (Sound s y)) (sym (pops.links y q yin qin (inr other))) was
          cases (inl is) (inl same) = subst (λ (z : ProcessId). Each (Sound s z) (u.link z q)) (sym is)
              (subst (λ (z : ProcessId). Each (Sound s x) (u.link x z)) (sym same) popped)

  died : (v w : State) (p : ProcessId) (keep : ℕ) → IsProcess s p → LinksSound s v → Died s v w p keep → LinksSound s w
  died v w p keep pin old dies = record {
    links = links;
    processes = λ q qin living. subst (ProcessSound s) (sym (dies.processes q qin)) (old.processes q qin (lived q qin living));
  } where
    others : (q : ProcessId) → w.dead q ≡ false → q ≢ p
    others q living same = cc (living, ap w.dead same, dies.dead)

    lived : (q : ProcessId) → IsProcess s q → w.dead q ≡ false → v.dead q ≡ false
    lived q qin living = sym (dies.others q qin (others q living)) ∙ living

    links : (x q : ProcessId) → IsProcess s x → IsProcess s q → x ≢ q → w.dead q ≡ false → Each (Sound s x) (w.link x q)
    links x q xin qin apart living = by (same-cases x p) where
      by : (x ≡ p) ⊎ (x ≢ p) → Each (Sound s x) (w.link x q)
      by (inr from) = subst (Each (Sound s x)) (sym (dies.links x q xin qin from)) (old.links x q xin qin apart (lived q qin living))
      by (inl is) = subst (λ (y : ProcessId). Each (Sound s y) (w.link y q)) (sym is) (subst (Each (Sound s p)) (sym (dies.cut q qin))
          (each-append (Sound s p) (take keep (v.link p q)) (tells.Notice p ∷ [])
          (each-take (Sound s p) keep (v.link p q)
          (old.links p q pin qin (λ same. others q living (sym same)) (lived q qin living))) (tt, tt)))

  began : (v : State) → Opens s v → LinksSound s v
  began v starts = record {
    links = λ x q xin qin apart living. subst (Each (Sound s x)) (sym (starts.links x q xin qin)) tt;
    processes = λ p pin lives. subst (ProcessSound s) (sym (starts.process p pin)) (record { copies = tt; sessions = tt });
  }

pub sound_kept : SoundAlwaysKept
sound_kept s shaped = record {
  opens = began s;
  treats = treated s;
  receives = received s;
  dies = died s;
}
