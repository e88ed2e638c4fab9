-- The members that go on receive what is on its way between them, as the machine delivers it, until none is left.
use Rattle.std.proofs.Common.{ℕ, zero, suc, ◌≡◌, ◌≢◌, ◌<◌, ◌⊎◌, inl, inr, Bool, true, false, List, [], ◌∷◌, ◌++◌, refl, sym, ap, subst, ◌∙◌, arith, Contains}
use Rattle.std.proofs.lemmas.List.{append-nil}
use Rattle.group_types.specs.Dimensions.{Dimensions}
use Rattle.group_types.specs.Names.{IsProcess}
use Rattle.group_types.specs.declared.process.ProcessId.{ProcessId}
use Rattle.group_message.specs.declared.message.Message.{Message}
use Rattle.group_message.specs.declared.message.Message.TheVariants as tells
use Rattle.group_calls.specs.declared.event.Answer.TheVariants as says
use Rattle.group_calls.specs.declared.event.Event.TheVariants as event
use Rattle.group_run.specs.Headline.{MayCome}
use Rattle.group_run.specs.Meaning.{IsDrained, is_dead, link, process_of}
use Rattle.group_run.specs.Applying.{held_at}
use Rattle.law_causes.specs.Calls.{IsCollected}
use Rattle.law_causes.proofs.Lasting.{held_last_always}
use Rattle.group_run.specs.Process.{Held, Node}
use Rattle.group_run.specs.Progress.{load_of}
use Rattle.group_run.specs.World.{World, after, delivered, process_node, step}
use Rattle.law_progress.specs.Ends.{HasDelivery}
use Rattle.law_progress.proofs.Always.{deliveries_lower}
use Rattle.law_progress.proofs.Drained.{deliveries_are_left}
use Rattle.group_wire.specs.Actions.{Action, Receive}
use Rattle.group_wire.specs.Composed.{AreActions, Composed, Made, composed, composed_with, events_of, message_made, opening_composed, stands_if}
use Rattle.group_wire.specs.Composition.{Carried, IsComposed, machine}
use Rattle.group_wire.specs.GoingOn.{CanBe, NamedAreTaken, OthersAreHere}
use Rattle.group_wire.specs.Sets.{IsSubset, Processes, one_or}
use Rattle.group_wire.proofs.Barrier.{Deposed}
use Rattle.group_wire.proofs.Compositions.{runs_compose}
use Rattle.group_wire.proofs.Extending.{after-made, events_in, shape-after}
use Rattle.group_wire.proofs.Honest.{shape-from}
use Rattle.group_wire.proofs.Reaching.{can-be, can-be-then, reaches-by, reaches-here}
use Rattle.group_wire.proofs.Whole.{Whole, whole}
use Rattle.wire_progress.proofs.Delivers.{Delivers, delivers-none, delivers-one, delivers-then}

-- a message comes with a delivery where its receiver lives and its link has one
done-means : (down dead : Bool) (s : Dimensions) (x p : ProcessId) (sender receiver : Node) (ms : List Message)
    → (delivered down dead s x p sender receiver ms).receiver.answer ≡ says.Done
    → (dead ≡ false) × ((m : Message) × (rest : List Message) × (ms ≡ m ∷ rest))
done-means true dead s x p sender receiver ms is = absurd (cc is)
done-means false true s x p sender receiver ms is = absurd (cc is)
done-means false false s x p sender receiver [] is = absurd (cc is)
done-means false false s x p sender receiver (m ∷ rest) is = (refl, (m, rest, refl))

-- members receive messages, and nothing else is done
pub record Stays (named : Processes) (c d : Composed) : Type 0 where
  pub others : OthersAreHere d.group named
  pub taken : NamedAreTaken d.group named
  pub gateways : d.group.gateways ≡ c.group.gateways
  pub words : d.group.words ≡ c.group.words
  pub signs : d.group.signs ≡ c.group.signs
  pub held : (q : ProcessId) (e : ℕ) (x : Held) → IsProcess c.group.shape q
      → Contains (held_at (process_of (machine c) q) e) x → Contains (held_at (process_of (machine d) q) e) x
  pub shape : d.group.shape ≡ c.group.shape
  pub delivers : Delivers (machine c) (machine d)

-- nothing of K is kept
abbrev pub Anyhow : Composed → Composed → Type 0
Anyhow c d = Unit {0}

module _ (s : Dimensions) (named : Processes) (one : ProcessId) (one_in : IsProcess s one) (one_out : named one ≡ false) where
  module _ (actions : List Action) (run : AreActions s actions)
      (others : OthersAreHere (composed s actions).group named)
      (taken : NamedAreTaken (composed s actions).group named) where
    abbrev c : Composed
    c = composed s actions

    h : Whole (composed s actions)
    h = whole s actions run

    made_run : IsComposed (composed s actions)
    made_run = runs_compose s actions run

    shape : (composed s actions).group.shape ≡ s
    shape = shape-from (opening_composed s) actions

    -- those who have failed are the named
    pub failed-named : IsSubset (composed s actions).failed named
    failed-named x lost = by h.barred.deposed where
      by : ((x : ProcessId) → (composed s actions).failed x ≡ false) ⊎ Deposed (composed s actions).group.shape
          (composed s actions).group.words (composed s actions).failed → named x ≡ true
      by (inl none) = cc (none x, lost)
      by (inr d) = others.cut d.by x (h.barred.permitted d.by x (d.permitted x lost))

    pub lives : (x : ProcessId) → named x ≡ false → (composed s actions).failed x ≡ false
    lives x out = by ((composed s actions).failed x) refl where
      by : (b : Bool) → (composed s actions).failed x ≡ b → (composed s actions).failed x ≡ false
      by false out_of = out_of
      by true so = cc (failed-named x so, out)

    pub unnamed : (x : ProcessId) → IsProcess (composed s actions).group.shape x → (composed s actions).failed x ≡ false → named x ≡ false
    unnamed x xin alive = by (named x) refl where
      by : (b : Bool) → named x ≡ b → named x ≡ false
      by false out_of = out_of
      by true so = cc (alive, h.barred.permits one member (lives one one_out) x (h.barred.taken one x (taken one x member one_out xin so))) where
        member : IsProcess (composed s actions).group.shape one
        member = subst (λ (t : Dimensions). IsProcess t one) (sym shape) one_in

    pub shape-machine : (machine (composed s actions)).shape ≡ (composed s actions).group.shape
    shape-machine = shape-after (composed s actions).group.shape (events_of (composed s actions)) made_run.run

    -- the link between two that go on is the wire
    pub same-wire : (x p : ProcessId) → IsProcess (composed s actions).group.shape x
        → IsProcess (composed s actions).group.shape p → x ≢ p → named x ≡ false → named p ≡ false
        → link (machine (composed s actions)) x p ≡ (composed s actions).group.works.messages x p
    same-wire x p xin pin other x_out p_out = carried.is
        ∙ ap (λ (l : List Message). (composed s actions).group.works.messages x p ++ l)
        (carried.whole (uncut ((composed s actions).group.words.cut x p) refl))
        ∙ append-nil ((composed s actions).group.works.messages x p) where
          carried : Carried ((composed s actions).group.words.cut x p) (link (machine (composed s actions)) x p) ((composed s actions).group.works.messages x p)
          carried = made_run.links x p (record { member = xin; lives = lives x x_out }) (record { member = pin; lives = lives p p_out }) other

          uncut : (b : Bool) → (composed s actions).group.words.cut x p ≡ b → (composed s actions).group.words.cut x p ≡ false
          uncut false out_of = out_of
          uncut true so = cc (others.cut x p so, p_out)

    -- a message that the machine may deliver is received
    module _ (x p : ProcessId) (xin : IsProcess (composed s actions).group.shape x)
        (pin : IsProcess (composed s actions).group.shape p) (other : x ≢ p) (x_out : named x ≡ false)
        (p_out : named p ≡ false)
        (m : Message) (rest : List Message) (front : (composed s actions).group.works.messages x p ≡ m ∷ rest) where
      uncut-here : (b : Bool) → (composed s actions).group.words.cut p x ≡ b → (composed s actions).group.words.cut p x ≡ false
      uncut-here false out_of = out_of
      uncut-here true so = cc (others.cut p x so, x_out)

      makes-it : stands_if ((composed s actions).failed p)
          (message_made x p ((composed s actions).group.works.messages x p))
          ≡ record { event = event.Deliver x p; answer = says.Done } ∷ []
      makes-it =
          ap (λ (b : Bool). stands_if b (message_made x p ((composed s actions).group.works.messages x p))) (lives p p_out)
          ∙ ap (message_made x p) front

      pub next-machine : machine (composed_with (composed s actions) (Receive x p)) ≡ (step (machine (composed s actions)) (event.Deliver x p)).world
      next-machine =
          ap (λ (more : List Made). after (composed s actions).group.shape (events_in ((composed s actions).made ++ more))) makes-it
          ∙ after-made (composed s actions).group.shape (composed s actions).made (record { event = event.Deliver x p; answer = says.Done })

      pub received : (P : Composed → Type 0) → P (composed_with (composed s actions) (Receive x p))
          → CanBe s actions (λ d. Stays named (composed s actions) d × P d)
      received P then = can-be Anyhow (λ d. Stays named (composed s actions) d × P d) s actions run
          (reaches-by Anyhow (composed s actions) (λ d. Stays named (composed s actions) d × P d) (Receive x p) tt
          (record {
            reads = record {
              here = others.here p pin p_out;
              sender = xin;
              uncut = uncut-here ((composed s actions).group.words.cut p x) refl;
            };
            other = other;
          })
          tt (
            record {
              others = record { few = others.few; cut = others.cut; here = λ q qin away. record { member = qin; runs = (others.here q qin away).runs } };
              taken = taken;
              gateways = refl;
              words = refl;
              signs = refl;
              held = λ q e y qin holds. subst (λ (w : World). Contains (held_at (process_of w q) e) y) (sym next-machine) (kept q e y qin holds);
              shape = refl;
              delivers = subst (Delivers (machine (composed s actions))) (sym next-machine) (delivers-one (machine (composed s actions)) x p comes);
            },
            then,
          ))
        where
          comes : MayCome (machine (composed s actions)) (event.Deliver x p)
          comes = (subst (λ (t : Dimensions). IsProcess t x) (sym shape-machine) xin, subst (λ (t : Dimensions). IsProcess t p) (sym shape-machine) pin, other)

          kept : (q : ProcessId) (e : ℕ) (y : Held) → IsProcess (composed s actions).group.shape q
              → Contains (held_at (process_of (machine (composed s actions)) q) e) y
              → Contains (held_at (process_of (step (machine (composed s actions)) (event.Deliver x p)).world q) e) y
          kept q e y qin holds =
              by (held_last_always (composed s actions).group.shape (events_of (composed s actions)) made_run.run
              (event.Deliver x p) q e y comes (subst (λ (t : Dimensions). IsProcess t q) (sym shape-machine) qin) holds)
            where
              by : Contains (held_at (process_of (step (machine (composed s actions)) (event.Deliver x p)).world q) e) y
                  ⊎ IsCollected (event.Deliver x p) q y (step (machine (composed s actions)) (event.Deliver x p)).turn.answer
                  → Contains (held_at (process_of (step (machine (composed s actions)) (event.Deliver x p)).world q) e) y
              by (inl there) = there
              by (inr none) = absurd none

    -- the machine's delivery is a receive
    pub delivers : HasDelivery (machine (composed s actions))
        → CanBe s actions (λ d. Stays named (composed s actions) d
        × (load_of (machine d) < load_of (machine (composed s actions))))
    delivers has =
        by (done-means (process_node (machine (composed s actions)) has.to).down
        (process_node (machine (composed s actions)) has.to).dead (machine (composed s actions)).shape has.from has.to
        (process_node (machine (composed s actions)) has.from) (process_node (machine (composed s actions)) has.to)
        (link (machine (composed s actions)) has.from has.to) has.done)
      where
        xin : IsProcess (composed s actions).group.shape has.from
        xin = subst (λ (t : Dimensions). IsProcess t has.from) shape-machine has.may.0

        pin : IsProcess (composed s actions).group.shape has.to
        pin = subst (λ (t : Dimensions). IsProcess t has.to) shape-machine has.may.1

        by : (is_dead (machine (composed s actions)) has.to ≡ false)
            × ((m : Message) × (rest : List Message) × (link (machine (composed s actions)) has.from has.to ≡ m ∷ rest))
            → CanBe s actions (λ d. Stays named (composed s actions) d × (load_of (machine d) < load_of (machine (composed s actions))))
        by (alive, (m, rest, there)) = received has.from has.to xin pin has.may.2 x_out p_out m rest
            (sym (same-wire has.from has.to xin pin has.may.2 x_out p_out) ∙ there)
            (λ d. load_of (machine d) < load_of (machine (composed s actions)))
            (subst (λ (w : World). load_of w < load_of (machine (composed s actions)))
            (sym (next-machine has.from has.to xin pin has.may.2 x_out p_out m rest
            (sym (same-wire has.from has.to xin pin has.may.2 x_out p_out) ∙ there)))
            (deliveries_lower (composed s actions).group.shape (events_of (composed s actions)) made_run.run has.from has.to has.may has.done))
          where
            p_lives : (composed s actions).failed has.to ≡ false
            p_lives = sym (made_run.dead has.to pin) ∙ alive

            p_out : named has.to ≡ false
            p_out = unnamed has.to pin p_lives

            x_lives : (b : Bool) → (composed s actions).failed has.from ≡ b → (composed s actions).failed has.from ≡ false
            x_lives false out_of = out_of
            x_lives true so = absurd (cc (there, none)) where
              none : link (machine (composed s actions)) has.from has.to ≡ []
              none = made_run.notices has.from has.to xin so (record { member = pin; lives = p_lives })
                  ∙ ap (λ (b : Bool). one_or b [] (tells.Notice has.from ∷ []))
                  (taken has.to has.from pin p_out xin (failed-named has.from so))

            x_out : named has.from ≡ false
            x_out = unnamed has.from xin (x_lives ((composed s actions).failed has.from) refl)

  -- as often as there is a delivery
  pub drains : (n : ℕ) (actions : List Action) → AreActions s actions → OthersAreHere (composed s actions).group named
      → NamedAreTaken (composed s actions).group named → load_of (machine (composed s actions)) < n
      → CanBe s actions (λ d. Stays named (composed s actions) d × IsDrained (machine d))
  drains zero actions run others taken low = absurd (omega (arith, low))
  drains (suc n) actions run others taken low =
      by (deliveries_are_left (composed s actions).group.shape (events_of (composed s actions))
      (runs_compose s actions run).run (runs_compose s actions run).up)
      (λ more longer next. drains n (actions ++ more) longer next.0.others next.0.taken (let less = next.1 in omega (arith, less, low)))
    where
      by : IsDrained (machine (composed s actions)) ⊎ HasDelivery (machine (composed s actions))
          → ((more : List Action) → AreActions s (actions ++ more) → Stays named (composed s actions)
          (composed s (actions ++ more))
          × (load_of (machine (composed s (actions ++ more))) < load_of (machine (composed s actions)))
          → CanBe s (actions ++ more) (λ d. Stays named (composed s (actions ++ more)) d × IsDrained (machine d)))
          → CanBe s actions (λ d. Stays named (composed s actions) d × IsDrained (machine d))
      by (inl drained) later = can-be Anyhow (λ d. Stays named (composed s actions) d × IsDrained (machine d)) s actions run
          (reaches-here Anyhow (composed s actions) (λ d. Stays named (composed s actions) d × IsDrained (machine d)) tt (
            record {
              others = others;
              taken = taken;
              gateways = refl;
              words = refl;
              signs = refl;
              held = λ q e y qin holds. holds;
              shape = refl;
              delivers = delivers-none (machine (composed s actions));
            },
            drained,
          ))
      by (inr has) later =
          can-be-then (λ d. Stays named (composed s actions) d
          × (load_of (machine d) < load_of (machine (composed s actions)))) (λ d. Stays named (composed s actions) d
          × IsDrained (machine d)) s actions
          (delivers actions run others taken has)
          (λ more longer next. joined more next.0 (later more longer next))
        where
          joined : (more : List Action) → Stays named (composed s actions) (composed s (actions ++ more))
              → CanBe s (actions ++ more) (λ d. Stays named (composed s (actions ++ more)) d × IsDrained (machine d))
              → CanBe s (actions ++ more) (λ d. Stays named (composed s actions) d × IsDrained (machine d))
          joined more first r = (
            r.0,
            r.1,
            (
              record {
                others = r.2.0.others;
                taken = r.2.0.taken;
                gateways = r.2.0.gateways ∙ first.gateways;
                words = r.2.0.words ∙ first.words;
                signs = r.2.0.signs ∙ first.signs;
                held =
                    λ q e y qin holds. r.2.0.held q e y (subst (λ (t : Dimensions). IsProcess t q) (sym first.shape) qin)
                    (first.held q e y qin holds);
                shape = r.2.0.shape ∙ first.shape;
                delivers =
                    delivers-then (machine (composed s actions)) (machine (composed s (actions ++ more)))
                    (machine (composed s (actions ++ more ++ r.0))) first.delivers r.2.0.delivers;
              },
              r.2.1,
            ),
            r.3,
          )
