-- Every open call of a gateway that goes on can be shown.
use Rattle.std.proofs.Common.{ℕ, zero, suc, ◌≡◌, ◌<◌, ◌+◌, ◌⊎◌, inl, inr, false, List, [], ◌++◌, Some, refl, sym, ap, subst, ◌∙◌, arith}
use Rattle.group_types.specs.Dimensions.{Dimensions}
use Rattle.group_types.specs.Hash.{home_of}
use Rattle.group_types.specs.Names.{IsHead, IsProcess, of_rank}
use Rattle.memc_table.specs.Act.{key_of}
use Rattle.memc_table.specs.Asked.{Asked}
use Rattle.group_calls.specs.declared.event.Answer.{Answer}
use Rattle.group_run.specs.Meaning.{IsDrained}
use Rattle.group_run.specs.Progress.{FewBlockWaits}
use Rattle.group_run.specs.World.{World}
use Rattle.law_histories.proofs.Headed.{rank-in}
use Rattle.law_progress.proofs.Waits.{few_waits_always}
use Rattle.group_wire.specs.Actions.{Action}
use Rattle.group_wire.specs.Composed.{AreActions, Composed, composed, events_of, opening_composed}
use Rattle.group_wire.specs.Composition.{machine}
use Rattle.group_wire.specs.GoingOn.{CanBe, CanBeShown, IsEnd, IsShownAs, TakesNamed}
use Rattle.group_wire.specs.May.{awaited_member}
use Rattle.group_wire.specs.Sets.{Processes}
use Rattle.group_wire.specs.State.{AskFor, Stage, Unasked, AskedOf, Unknown, TracedAt, Answered, OpenCall, Gateways, gateway_of}
use Rattle.group_wire.proofs.Compositions.{runs_compose}
use Rattle.group_wire.proofs.Ending.{told_can_be_shown}
use Rattle.group_wire.proofs.GoingOn.{named_can_be_taken}
use Rattle.group_wire.proofs.Honest.{shape-from}
use Rattle.group_wire.proofs.Reaching.{can-be-then}
use Rattle.wire_progress.specs.Showing.{CallsCanBeShown}
use Rattle.wire_progress.proofs.Asking.{IsAsked, asks-head}
use Rattle.wire_progress.proofs.Collecting.{handed-out}
use Rattle.wire_progress.proofs.Delivers.{Waited, waited-ask, waited-delivers, waited-none}
use Rattle.wire_progress.proofs.Ends.{Answers, AwaitsUpdate, Freed, IsToAsk}
use Rattle.wire_progress.proofs.Finished.{home-below}
use Rattle.wire_progress.proofs.Heading.{a-head}
use Rattle.wire_progress.proofs.Learning.{Loaded}
use Rattle.wire_progress.proofs.Resolving.{Resolved, awaited, resolves}
use Rattle.wire_progress.proofs.Serving.{Between, CanServe, DrainsTo, SettlesTo, caller-in, drains-to, settles-to}
use Rattle.wire_progress.proofs.Settling.{IsFreeCall}
use Rattle.wire_progress.proofs.Tracing.{traces-fate}

module _ (s : Dimensions) (named : Processes) (caller : ℕ) (out : named (gateway_of s caller) ≡ false) (op : Asked)
    (d r : ℕ) (below : d < s.k) (home : home_of (key_of op.act) s.k ≡ d) (head : IsHead s.m named d r) where
  abbrev pub Shown : Composed → Type 0
  Shown c = (o : OpenCall) × (o.op ≡ op) × ((answer : Answer) × IsEnd answer × IsShownAs caller o answer c)

  -- an answered call is shown
  answered : (actions : List Action) → AreActions s actions → Answers named caller op (composed s actions) → CanBe s actions Shown
  answered actions run a =
      by (told_can_be_shown s actions named caller a.call a.told run a.serves.others a.serves.mine out
      (record { pinged = a.pinged; call = a.open_call; stage = a.stage })) where
        by : CanBe s actions (CanBeShown caller a.call) → CanBe s actions Shown
        by r = (
          r.0,
          r.1,
          (
            a.call,
            a.same_op,
            (
              a.told.answer,
              a.ends,
              record {
                call = a.call;
                told = a.told;
                op = refl;
                tells = refl;
                shows = record { pinged = a.pinged; call = r.2.0; stage = a.stage };
                ping = r.2.1.0;
                may = r.2.1.1;
              },
            ),
          ),
          r.3,
        )

  -- one that waits for its update is handed out, once the group is drained
  awaits : (actions : List Action) (run : AreActions s actions) → AwaitsUpdate s named caller op (composed s actions) → CanBe s actions Shown
  awaits actions run a =
      can-be-then (DrainsTo s named caller (composed s actions)) Shown s actions (drains-to s named caller out actions run a.serves)
      (λ more longer to. can-be-then (Answers named caller a.call.op) Shown s (actions ++ more)
      (handed-out s named caller out (actions ++ more) longer to.serves to.drained a.call
      (ap (λ (gw : Gateways). gw.call caller) to.gateways ∙ a.open_call) a.holder a.other a.stage
      (to.held a.holder (AskFor caller a.call.position a.call.op) a.other a.held) (subst (Between (gateway_of s caller) a.holder) (sym to.gateways) a.between))
      (λ again later b. answered (actions ++ more ++ again) later
      (subst (λ (p : Asked). Answers named caller p (composed s (actions ++ more ++ again))) a.same_op b)))

  -- nothing stands between its gateway and the head, and the group is drained
  abbrev Prepared : OpenCall → Composed → Type 0
  Prepared o c = Loaded s named caller o (of_rank d r) [] [] [] c × IsDrained (machine c)

  prepared : (actions : List Action) (run : AreActions s actions) → CanServe named caller (composed s actions).group
      → (o : OpenCall) → IsFreeCall caller o (composed s actions).group.gateways → CanBe s actions (Prepared o)
  prepared actions run serves o free =
      can-be-then (SettlesTo s named caller op (of_rank d r) (composed s actions)) (Prepared o) s actions
      (settles-to s named caller out actions run serves op (of_rank d r) (
        rank-in s d r below head.within,
        head.lives,
      ))
      (λ more longer to. by more to (drains-to s named caller out (actions ++ more) longer to.serves))
    where
      by : (more : List Action) → SettlesTo s named caller op (of_rank d r) (composed s actions)
          (composed s (actions ++ more))
          → CanBe s (actions ++ more) (DrainsTo s named caller (composed s (actions ++ more)))
          → CanBe s (actions ++ more) (Prepared o)
      by more to z = (
        z.0,
        z.1,
        (
          record {
            serves = z.2.serves;
            open_call = ap (λ (gw : Gateways). gw.call caller) z.2.gateways ∙ (to.settles.free o free).0;
            asked = ap (λ (gw : Gateways). gw.requests (gateway_of s caller) (of_rank d r)) z.2.gateways ∙ to.between.2;
            kept = ap (λ (gw : Gateways). gw.parked (of_rank d r)) z.2.gateways ∙ to.between.1;
            told = ap (λ (gw : Gateways). gw.answers (of_rank d r) (gateway_of s caller)) z.2.gateways ∙ to.between.0;
          },
          z.2.drained,
        ),
        z.3,
      )

  homed : (p : Asked) → p ≡ op → home_of (key_of p.act) s.k ≡ d
  homed p same = ap (λ (p : Asked). home_of (key_of p.act) s.k) same ∙ home

  -- one that is to be asked, where calls had to wait for n blocks since a world was drained
  module _ (u : World) (few : FewBlockWaits u) where
    asks-until : (fuel n : ℕ) → u.shape.blocks < fuel + n → (actions : List Action) (run : AreActions s actions)
        → (o : OpenCall) → Prepared o (composed s actions) → o.op ≡ op → o.stage ≡ Unasked
        → Waited u (of_rank d r) n (machine (composed s actions)) → CanBe s actions Shown
    asks-until zero n most actions run o p same stage h =
        absurd (let low = few h.events (of_rank d r) h.may h.drained in let count = h.count in
        omega (arith, most, low, count))
    asks-until (suc fuel) n most actions run o p same stage h =
        can-be-then (IsAsked s named caller out d r below head o.op (machine (composed s actions))) Shown s actions
        (asks-head s named caller out d r below head actions run o p.0 p.1 stage (homed o.op same))
        (λ more longer e. ended more longer e (λ all later o p same stage h. asks-until fuel (suc n) (omega (arith, most)) all later o p same stage h))
      where
        Deeper : Type 0
        Deeper = (all : List Action) (later : AreActions s all) → (o : OpenCall) → Prepared o (composed s all)
            → o.op ≡ op → o.stage ≡ Unasked → Waited u (of_rank d r) (suc n) (machine (composed s all))
            → CanBe s all Shown

        ended : (more : List Action) → AreActions s (actions ++ more) → IsAsked s named caller out d r below head o.op
            (machine (composed s actions)) (composed s (actions ++ more)) → Deeper → CanBe s (actions ++ more) Shown
        ended more longer (inl b) deeper =
            answered (actions ++ more) longer
            (subst (λ (q : Asked). Answers named caller q (composed s (actions ++ more))) same b)
        ended more longer (inr (inl b)) deeper =
            awaits (actions ++ more) longer
            (subst (λ (q : Asked). AwaitsUpdate s named caller q (composed s (actions ++ more))) same b)
        ended more longer (inr (inr b)) deeper =
            can-be-then (DrainsTo s named caller (composed s (actions ++ more))) Shown s (actions ++ more)
            (drains-to s named caller out (actions ++ more) longer b.loaded.serves)
            (λ again later to. deeper (actions ++ more ++ again) later b.call (
              record {
                serves = to.serves;
                open_call = ap (λ (gw : Gateways). gw.call caller) to.gateways ∙ b.loaded.open_call;
                asked = ap (λ (gw : Gateways). gw.requests (gateway_of s caller) (of_rank d r)) to.gateways ∙ b.loaded.asked;
                kept = ap (λ (gw : Gateways). gw.parked (of_rank d r)) to.gateways ∙ b.loaded.kept;
                told = ap (λ (gw : Gateways). gw.answers (of_rank d r) (gateway_of s caller)) to.gateways ∙ b.loaded.told;
              },
              to.drained,
            ) (b.same_op ∙ same) b.stage
            (waited-delivers u (of_rank d r) (suc n) (machine (composed s (actions ++ more))) (machine (composed s (actions ++ more ++ again))) to.delivers
            (subst (Waited u (of_rank d r) (suc n)) (sym b.world)
            (waited-ask u (of_rank d r) n (machine (composed s actions)) caller b.block o.op b.may p.1 b.waits h))))

  to-ask : (actions : List Action) (run : AreActions s actions) → IsToAsk named caller op (composed s actions) → CanBe s actions Shown
  to-ask actions run a =
      can-be-then (Prepared a.call) Shown s actions (prepared actions run a.serves a.call (a.open_call, ap awaited_member a.stage))
      (λ more longer p. asks-until (machine (composed s (actions ++ more)))
      (few_waits_always (composed s (actions ++ more)).group.shape (events_of (composed s (actions ++ more)))
      (runs_compose s (actions ++ more) longer).run)
      (suc (machine (composed s (actions ++ more))).shape.blocks) 0 (omega arith) (actions ++ more) longer a.call p
      a.same_op a.stage (waited-none (machine (composed s (actions ++ more))) (of_rank d r)))

  -- one that waits for no member
  freed : (actions : List Action) (run : AreActions s actions) → Freed named caller op (composed s actions) → CanBe s actions Shown
  freed actions run f = by f.call.stage refl where
    by : (stage : Stage) → f.call.stage ≡ stage → CanBe s actions Shown
    by Unasked is = to-ask actions run (record { serves = f.serves; call = f.call; open_call = f.open_call; same_op = f.same_op; stage = is })
    by (Answered t n) is =
        answered actions run (record {
          serves = f.serves;
          call = f.call;
          open_call = f.open_call;
          same_op = f.same_op;
          told = t;
          pinged = n;
          stage = is;
          ends = awaited s named caller out actions run f.serves f.call f.open_call
              (Answered t n) is;
        })
    by (AskedOf x) is = absurd (cc (f.free, ap awaited_member is))
    by (TracedAt x) is = absurd (cc (f.free, ap awaited_member is))
    by Unknown is =
        can-be-then (Prepared f.call) Shown s actions (prepared actions run f.serves f.call (f.open_call, f.free))
        (λ more longer p. can-be-then (λ c. Answers named caller f.call.op c ⊎ IsToAsk named caller f.call.op c) Shown s (actions ++ more)
        (traces-fate s named caller out d r below head (actions ++ more) longer f.call p.0 p.1 is (homed f.call.op f.same_op))
        (λ again later e. ended (actions ++ more ++ again) later
        (subst (λ (q : Asked). Answers named caller q (composed s (actions ++ more ++ again))
        ⊎ IsToAsk named caller q (composed s (actions ++ more ++ again))) f.same_op e)))
      where
        ended : (all : List Action) → AreActions s all → Answers named caller op (composed s all) ⊎ IsToAsk named caller op (composed s all) → CanBe s all Shown
        ended all later (inl b) = answered all later b
        ended all later (inr b) = to-ask all later b

  pub shown : (actions : List Action) (run : AreActions s actions) → CanServe named caller (composed s actions).group
      → (o : OpenCall) → (composed s actions).group.gateways.call caller ≡ Some o → o.op ≡ op → CanBe s actions Shown
  shown actions run serves o call same = can-be-then (Resolved s named caller o.op) Shown s actions (resolves s named caller out actions run serves o call)
      (λ more longer r. by (actions ++ more) longer (subst (λ (p : Asked). Resolved s named caller p (composed s (actions ++ more))) same r))
    where
      by : (all : List Action) → AreActions s all → Resolved s named caller op (composed s all) → CanBe s all Shown
      by all later (inl a) = awaits all later a
      by all later (inr f) = freed all later f

pub calls_can_be_shown : CallsCanBeShown
calls_can_be_shown s actions named caller o run others mine out call =
    can-be-then (λ d. TakesNamed (composed s actions).group d.group named) End s actions (named_can_be_taken s actions named run others)
    (λ more longer takes. drained (actions ++ more) longer
    (record {
      others = takes.others;
      taken = takes.taken;
      mine = caller-in s named caller out (actions ++ more)
          takes.others mine.low gateway;
    }) (ap (λ (gw : Gateways). gw.call caller) takes.gateways ∙ call))
  where
    End : Composed → Type 0
    End c = (answer : Answer) × IsEnd answer × IsShownAs caller o answer c

    gateway : IsProcess s (gateway_of s caller)
    gateway = subst (λ (t : Dimensions). IsProcess t (gateway_of t caller)) (shape-from (opening_composed s) actions) mine.gateway.member

    below : home_of (key_of o.op.act) s.k < s.k
    below = home-below (key_of o.op.act) s.k run.0.k.0

    -- a drained group has a head of the call's partition
    drained : (all : List Action) (later : AreActions s all) → CanServe named caller (composed s all).group
        → (composed s all).group.gateways.call caller ≡ Some o → CanBe s all End
    drained all later serves open_call = can-be-then (DrainsTo s named caller (composed s all)) End s all (drains-to s named caller out all later serves)
        (λ more longer to. headed (all ++ more) longer to.serves (ap (λ (gw : Gateways). gw.call caller) to.gateways
        ∙ open_call) (a-head s named caller out (all ++ more) longer to.serves to.drained
        (home_of (key_of o.op.act) s.k) below))
      where
        headed : (all : List Action) (later : AreActions s all) → CanServe named caller (composed s all).group
            → (composed s all).group.gateways.call caller ≡ Some o
            → (r : ℕ) × IsHead s.m named (home_of (key_of o.op.act) s.k) r → CanBe s all End
        headed all later serves call (r, head) =
            by (shown s named caller out o.op (home_of (key_of o.op.act) s.k) r below refl head all later serves o call
            refl) where
              by : CanBe s all (Shown s named caller out o.op (home_of (key_of o.op.act) s.k) r below refl head) → CanBe s all End
              by c = (
                c.0,
                c.1,
                (
                  c.2.2.0,
                  c.2.2.1,
                  record {
                    call = c.2.2.2.call;
                    told = c.2.2.2.told;
                    op = c.2.2.2.op ∙ c.2.1;
                    tells = c.2.2.2.tells;
                    shows = c.2.2.2.shows;
                    ping = c.2.2.2.ping;
                    may = c.2.2.2.may;
                  },
                ),
                c.3,
              )
