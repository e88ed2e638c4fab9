-- Every move keeps what messages carry exact.
use Rattle.std.proofs.Common.{◌≡◌, ◌≢◌, ℕ, ◌*◌, ◌<◌, ◌≤◌, false, List, [], ◌∷◌, length, take, ◌⊎◌, inl, inr, sym, ap, subst, ◌∙◌, refl, arith}
use Rattle.std.proofs.lemmas.List.{length-append, take-append-le}
use Rattle.group_types.specs.Dimensions.{Dimensions}
use Rattle.group_types.specs.Lists.{at}
use Rattle.group_types.specs.Names.{IsProcess}
use Rattle.group_types.specs.declared.process.ProcessId.{ProcessId}
use Rattle.group_types.specs.declared.process.ProcessId.TheVariants.{DataNode, ParityNode}
use Rattle.group_types.proofs.Names.{same-cases}
use Rattle.group_types.specs.Each.{Each}
use Rattle.group_types.proofs.Eaches.{each-append, each-take, each-weaker, each-both}
use Rattle.group_message.specs.declared.message.Message.{Message}
use Rattle.group_message.specs.declared.message.Message.TheVariants as tells
use Rattle.group_message.specs.declared.update.Update.{Update}
use Rattle.group_run.specs.Applying.{ProcessStep}
use Rattle.group_run.specs.Receiving.{receive}
use Rattle.group_run.specs.World.{sent_to}
use Rattle.law_moves.proofs.Moves.{Acted, Died, Popped, Treats}
use Rattle.law_moves.specs.State.{State}
use Rattle.law_moves.proofs.Members.{MayStand, Members}
use Rattle.law_moves.proofs.Standing.{each-sent_to}
use Rattle.law_bytes.specs.Areas.{IsBlock, block_size, code, value}
use Rattle.law_bytes.specs.Held.{Holds}
use Rattle.law_bytes.proofs.Held.{HoldsBytes}
use Rattle.law_bytes.proofs.Law.{StepIsRight}
use Rattle.law_bytes.proofs.Premises.{MarksNew}
use Rattle.law_bytes.proofs.Applying.{holding-from, rebuilt_at}
use Rattle.law_bytes.proofs.Copies.{same-functions}
use Rattle.law_bytes.proofs.BytesKeeping.{Prolongs, addressed, before-holds, prolongs}
use Rattle.law_bytes.proofs.Values.{area-same, held-same}
use Rattle.law_bytes.proofs.Exact.{Exact, ExactAlwaysKept, MessagesExact, stamp_stand}
use Rattle.law_bytes.proofs.TokensKeeping.{comes-to, unknown}
use Rattle.law_bytes.proofs.Sending.{SendsExact, receive-sends, treats-sends}

module _ (s : Dimensions) where
  -- what is settled behind changes nothing that a message carries
  module _ (before after : ℕ → List Update) (grows : Prolongs s before after) where
    still : (d n : ℕ) → d < s.k → n ≤ length (before d) → take n (after d) ≡ take n (before d)
    still d n below within = ap (take n) (grows d below).1 ∙ take-append-le n (before d) (grows d below).0 within

    longer : (d n : ℕ) → d < s.k → n ≤ length (before d) → n ≤ length (after d)
    longer d n below within = let is = ap length (grows d below).1 in omega (arith, within, is, length-append (before d) (grows d below).0)

    exact-grown : (v : State) (x q : ProcessId) (m : Message) → IsProcess s x → MayStand s v x q m → Exact s before x m → Exact s after x m
    exact-grown v x q (tells.Mark session r block d n) inside may exact = longer d.0 n may.0.1.partition exact
    exact-grown v (DataNode e) q (tells.Block session bytes n) inside may exact =
        (longer e n inside exact.0, (exact.1.0, subst (λ (us : List Update). IsBlock s exact.1.0 (value us) bytes) (sym (still e n inside exact.0)) exact.1.1))
    exact-grown v (ParityNode i) q (tells.Block session bytes n) inside may exact = tt
    exact-grown v (DataNode e) q (tells.Row session bytes stamp) inside may exact = tt
    exact-grown v (ParityNode i) q (tells.Row session bytes stamp) inside may exact = (
      (λ d below. longer d (at 0 stamp d) below (exact.0 d below)),
      (
        exact.1.0,
        area-same (exact.1.0 * s.block) (block_size s exact.1.0) (code s i (stamp_stand before stamp)) (code s i (stamp_stand after stamp)) bytes exact.1.1
            (λ y. held-same s (ParityNode i) (stamp_stand before stamp) (stamp_stand after stamp) y tt
            (λ d below. still d (at 0 stamp d) below (exact.0 d below))),
      ),
    )
    exact-grown v x q (tells.Update r d u stable) inside may exact = tt
    exact-grown v x q (tells.Ack r d n) inside may exact = tt
    exact-grown v x q (tells.Stable r d n) inside may exact = tt
    exact-grown v x q (tells.Adopt r d base list) inside may exact = tt
    exact-grown v x q (tells.ReadBlock session block rows) inside may exact = tt
    exact-grown v x q (tells.Cease upto) inside may exact = tt
    exact-grown v x q (tells.Notice dead) inside may exact = tt

    link-grown : (v : State) (x q : ProcessId) (ms : List Message) → IsProcess s x → Each (MayStand s v x q) ms
        → Each (Exact s before x) ms → Each (Exact s after x) ms
    link-grown v x q ms inside may exact =
        each-weaker (λ m. MayStand s v x q m × Exact s before x m) (Exact s after x) (λ m both. exact-grown v x q m inside both.0 both.1) ms
        (each-both (MayStand s v x q) (Exact s before x) ms may exact)

  -- one process made a step, after which links are as they were but for what it sent
  acted-exact : (u w : State) (p : ProcessId) (step : ProcessStep) → IsProcess s p → u.dead p ≡ false → Members s w → Acted s u w p step
      → ((x q : ProcessId) → IsProcess s x → IsProcess s q → x ≢ q → u.dead q ≡ false → Each (Exact s w.settled x)
      (u.link x q)) → SendsExact s w.settled p step → MessagesExact s w
  acted-exact u w p step pin lives after acts old sends x q xin qin apart living = by (same-cases x p) where
    lived : u.dead q ≡ false
    lived = sym (acts.dead q qin) ∙ living

    by : (x ≡ p) ⊎ (x ≢ p) → Each (Exact s w.settled x) (w.link x q)
    by (inr other) = subst (Each (Exact s w.settled x)) (sym (acts.links x q xin qin other)) (old x q xin qin apart lived)
    by (inl is) =
        let other : q ≢ p = λ (same : q ≡ p). apart (is ∙ sym same) in
        subst (λ (y : ProcessId). Each (Exact s w.settled y) (w.link y q)) (sym is)
        (subst (Each (Exact s w.settled p)) (sym (acts.sends q qin (unknown s u w p step pin lives after acts q qin other lived)))
        (each-append (Exact s w.settled p) (u.link p q) (sent_to q step.sent)
        (old p q pin qin (λ same. other (sym same)) lived)
        (each-sent_to (λ to m. Exact s w.settled p m) q step.sent sends)))

  treated : (v w : State) (p : ProcessId) (t : ProcessStep) → IsProcess s p → v.dead p ≡ false
      → Treats s (v.process p) t → Members s v → Members s w → HoldsBytes s v → MessagesExact s v
      → StepIsRight s w.settled (v.process p) t → Acted s v w p t → MessagesExact s w
  treated v w p t pin lives treats members after holds exact right acts =
      acted-exact v w p t pin lives after acts
      (λ x q xin qin apart living. link-grown v.settled w.settled grows v x q (v.link x q) xin
      (members.may x q xin qin apart living) (exact x q xin qin apart living))
      (treats-sends s w.settled (v.process p) p (members.named p pin)
      (before-holds s v v w p t pin members (λ q qin. refl) (λ q qin. refl) (λ d. refl) acts lives holds) t treats)
    where
      grows : Prolongs s v.settled w.settled
      grows = prolongs s v v w p t pin members (λ q qin. refl) (λ q qin. refl) (λ d. refl) acts

  received : (v u w : State) (x p : ProcessId) (m : Message) → IsProcess s x → IsProcess s p → x ≢ p → v.dead p ≡ false
      → Members s v → Members s w → HoldsBytes s v → MessagesExact s v
      → MarksNew m (v.process p) → StepIsRight s w.settled (v.process p) (receive s x m (v.process p))
      → Popped s v u x p m → Acted s u w p (receive s x m (v.process p)) → MessagesExact s w
  received v u w x p m xin pin apart lives members after holds exact new right pops acts =
      acted-exact u w p step pin (pops.dead p pin ∙ lives) after acts links
      (receive-sends s w.settled right.write (rebuilt_at (v.process p)) x p m (v.process p) (members.named p pin) pin
      (addressed s v x p m may) (comes-to s v x p m may) here
      (holding-from s w.settled (v.process p) here) new right.applies)
    where
      step : ProcessStep
      step = receive s x m (v.process p)

      may : MayStand s v x p m
      may = (subst (Each (MayStand s v x p)) pops.first (members.may x p xin pin apart lives)).0

      grows : Prolongs s v.settled w.settled
      grows = prolongs s v u w p step pin members pops.processes pops.dead pops.settled acts

      here : Holds s w.settled (v.process p)
      here = before-holds s v u w p step pin members pops.processes pops.dead pops.settled acts lives holds

      links : (y q : ProcessId) → IsProcess s y → IsProcess s q → y ≢ q → u.dead q ≡ false → Each (Exact s w.settled y) (u.link y q)
      links y q yin qin between living = cases (same-cases y x) (same-cases q p) where
        lived : v.dead q ≡ false
        lived = sym (pops.dead q qin) ∙ living

        old : Each (Exact s w.settled y) (v.link y q)
        old = link-grown v.settled w.settled grows v y q (v.link y q) yin (members.may y q yin qin between lived) (exact y q yin qin between lived)

        popped : Each (Exact s w.settled x) (u.link x p)
        popped = (subst (Each (Exact s w.settled x)) pops.first
            (link-grown v.settled w.settled grows v x p (v.link x p) xin (members.may x p xin pin apart lives)
            (exact x p xin pin apart lives))).1

        cases : (y ≡ x) ⊎ (y ≢ x) → (q ≡ p) ⊎ (q ≢ p) → Each (Exact s w.settled y) (u.link y q)
        cases (inr other) _ = subst (Each (Exact s w.settled y)) (sym (pops.links y q yin qin (inl other))) old
        cases (inl is) (inr other) = subst (Each (Exact s w.settled y)) (sym (pops.links y q yin qin (inr other))) old
        cases (inl is) (inl same) = subst (λ (z : ProcessId). Each (Exact s w.settled z) (u.link z q)) (sym is)
            (subst (λ (z : ProcessId). Each (Exact s w.settled x) (u.link x z)) (sym same) popped)

  died : (v w : State) (p : ProcessId) (keep : ℕ) → IsProcess s p → MessagesExact s v → Died s v w p keep → MessagesExact s w
  died v w p keep pin exact dies x q xin qin apart living =
      subst (λ (settled : ℕ → List Update). Each (Exact s settled x) (w.link x q)) (sym (same-functions w.settled v.settled dies.settled)) (by (same-cases x p))
    where
      other : q ≢ p
      other same = cc (living, ap w.dead same, dies.dead)

      lived : v.dead q ≡ false
      lived = sym (dies.others q qin other) ∙ living

      by : (x ≡ p) ⊎ (x ≢ p) → Each (Exact s v.settled x) (w.link x q)
      by (inr from) = subst (Each (Exact s v.settled x)) (sym (dies.links x q xin qin from)) (exact x q xin qin apart lived)
      by (inl is) = subst (λ (y : ProcessId). Each (Exact s v.settled y) (w.link y q)) (sym is) (subst (Each (Exact s v.settled p)) (sym (dies.cut q qin))
          (each-append (Exact s v.settled p) (take keep (v.link p q)) (tells.Notice p ∷ [])
          (each-take (Exact s v.settled p) keep (v.link p q) (exact p q pin qin (λ same. other (sym same)) lived))
          (tt, tt)))

pub exact_kept : ExactAlwaysKept
exact_kept s shaped = record {
  opens = λ v starts x q xin qin apart living. subst (Each (Exact s v.settled x)) (sym (starts.links x q xin qin)) tt;
  treats = treated s;
  receives = received s;
  dies = died s;
}
