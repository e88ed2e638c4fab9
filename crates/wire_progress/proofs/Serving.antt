-- A caller whose gateway goes on, where all named deaths are taken: what can be done for it, and that the group can be drained.
use Rattle.std.proofs.Common.{ℕ, suc, ◌≡◌, ◌<◌, ◌≤◌, ◌++◌, false, List, [], Contains, sym, ap, subst, ◌∙◌, arith}
use Rattle.group_types.specs.Dimensions.{Dimensions, callers}
use Rattle.group_types.specs.Hash.{home_of}
use Rattle.group_types.specs.Names.{IsProcess}
use Rattle.group_types.specs.declared.process.ProcessId.{ProcessId}
use Rattle.memc_table.specs.Act.{key_of}
use Rattle.memc_table.specs.Asked.{Asked}
use Rattle.group_run.specs.Applying.{held_at}
use Rattle.group_run.specs.Meaning.{IsDrained, process_of}
use Rattle.group_run.specs.Process.{Process}
use Rattle.group_run.specs.Progress.{load_of}
use Rattle.group_wire.specs.Actions.{Action}
use Rattle.group_wire.specs.Composed.{AreActions, Composed, composed, composed_with, opening_composed}
use Rattle.group_wire.specs.Composition.{machine}
use Rattle.group_wire.specs.GoingOn.{CanBe, GoesOn, NamedAreTaken, OthersAreHere}
use Rattle.group_wire.specs.May.{IsCaller, MayAct}
use Rattle.group_wire.specs.Sets.{Processes, size_of}
use Rattle.group_wire.specs.State.{Request, AskFor, TraceOf, Gateways, Group, Words, Works, gateway_of}
use Rattle.group_wire.proofs.Compositions.{runs_compose}
use Rattle.group_wire.proofs.GoingOn.{Going, IsOther, few-of, going-of, others-of}
use Rattle.group_wire.proofs.Honest.{shape-from}
use Rattle.group_wire.proofs.Reaching.{can-be, reaches-by, reaches-weaker}
use Rattle.wire_progress.proofs.Delivers.{Delivers}
use Rattle.wire_progress.proofs.Draining.{Anyhow, Stays, drains, lives}
use Rattle.wire_progress.proofs.Settling.{Settles, settles-all}
use Rattle.wire_progress.proofs.Waits.{IsHeld}

-- the gateway of a caller goes on, and all named deaths are taken
pub record CanServe (named : Processes) (caller : ℕ) (g : Group) : Type 0 where
  pub others : OthersAreHere g named
  pub taken : NamedAreTaken g named
  pub mine : IsCaller g caller

-- so it is whatever the works and the gateways are
pub serves-still : (named : Processes) (caller : ℕ) (g : Group) (works : Works) (gw : Gateways)
    → CanServe named caller g → CanServe named caller (record g { works = works; gateways = gw })
serves-still named caller g works gw h = record {
  others = record { few = h.others.few; cut = h.others.cut; here = λ q qin away. record { member = qin; runs = (h.others.here q qin away).runs } };
  taken = h.taken;
  mine = record { low = h.mine.low; gateway = record { member = h.mine.gateway.member; runs = h.mine.gateway.runs } };
}

-- nothing stands between a gateway and a member
abbrev pub Between : ProcessId → ProcessId → Gateways → Type 0
Between g x gw = (gw.answers x g ≡ []) × (gw.parked x ≡ []) × (gw.requests g x ≡ [])

-- the group is drained, with no call changed, and what was held is held
pub record DrainsTo (s : Dimensions) (named : Processes) (caller : ℕ) (c d : Composed) : Type 0 where
  pub serves : CanServe named caller d.group
  pub gateways : d.group.gateways ≡ c.group.gateways
  pub drained : IsDrained (machine d)
  pub held : (x : ProcessId) (r : Request) → IsOther s named x → IsHeld s (c.group.works.process x) r → IsHeld s (d.group.works.process x) r
  pub delivers : Delivers (machine c) (machine d)

-- nothing stands between the gateway and x
pub record SettlesTo (s : Dimensions) (named : Processes) (caller : ℕ) (op : Asked) (x : ProcessId) (c d : Composed) : Type 0 where
  pub serves : CanServe named caller d.group
  pub settles : Settles s named caller op x c d
  pub between : Between (gateway_of s caller) x d.group.gateways

module _ (s : Dimensions) (named : Processes) (caller : ℕ) (out : named (gateway_of s caller) ≡ false) where
  pub caller-in : (longer : List Action) → OthersAreHere (composed s longer).group named → caller < callers
      → IsProcess s (gateway_of s caller) → IsCaller (composed s longer).group caller
  caller-in longer others low gin = record {
    low = low;
    gateway = others.here (gateway_of (composed s longer).group.shape caller)
        (subst (λ (t : Dimensions). IsProcess t (gateway_of t caller)) (sym (shape-from (opening_composed s) longer)) gin)
        (subst (λ (t : Dimensions). named (gateway_of t caller) ≡ false) (sym (shape-from (opening_composed s) longer)) out);
  }

  module _ (actions : List Action) (run : AreActions s actions) (serves : CanServe named caller (composed s actions).group) where
    pub going : Going s named (composed s actions).group
    going = going-of s actions named run serves.others

    pub few : size_of s named ≤ s.m
    few = few-of s actions named serves.others

    pub gateway-other : IsOther s named (gateway_of s caller)
    gateway-other = (subst (λ (t : Dimensions). IsProcess t (gateway_of t caller)) going.shape serves.mine.gateway.member, out)

    -- whoever isn't named lives, and is the machine's process
    pub alive : (x : ProcessId) → named x ≡ false → (composed s actions).failed x ≡ false
    alive = lives s named (gateway_of s caller) gateway-other.0 out actions run serves.others serves.taken

    pub same-process : (x : ProcessId) → IsOther s named x → process_of (machine (composed s actions)) x ≡ (composed s actions).group.works.process x
    same-process x xin = (runs_compose s actions run).processes x
        (record { member = subst (λ (t : Dimensions). IsProcess t x) (sym going.shape) xin.0; lives = alive x xin.1 })

    -- one action
    pub acts : (a : Action) (P : Composed → Type 0) → GoesOn a → MayAct (composed s actions).group a
        → P (composed_with (composed s actions) a) → CanBe s actions P
    acts a P goes may is = can-be Anyhow P s actions run (reaches-by Anyhow (composed s actions) P a goes may tt is)

    pub settles-to : (op : Asked) (x : ProcessId) → IsOther s named x → CanBe s actions (SettlesTo s named caller op x (composed s actions))
    settles-to op x xin = by (can-be (Settles s named caller op x) Settled s actions run
        (reaches-weaker (Settles s named caller op x) (composed s actions)
        (λ d. Between (gateway_of s caller) x d.group.gateways) Settled (λ d kept none. (kept, none))
        (settles-all s named few caller op (gateway_of s caller) x gateway-other xin (composed s actions) going)))
      where
        Settled : Composed → Type 0
        Settled d = Settles s named caller op x (composed s actions) d × Between (gateway_of s caller) x d.group.gateways

        by : CanBe s actions Settled → CanBe s actions (SettlesTo s named caller op x (composed s actions))
        by r = (
          r.0,
          r.1,
          record {
            serves = record {
              others = others;
              taken = λ p y pin p_out yin inside. ap (λ (w : Words). w.taken p y) kept.words
                  ∙ serves.taken p y (subst (λ (t : Dimensions). IsProcess t p) (kept.going.shape ∙ sym going.shape)
                  pin) p_out (subst (λ (t : Dimensions). IsProcess t y) (kept.going.shape ∙ sym going.shape)
                  yin) inside;
              mine = caller-in (actions ++ r.0) others serves.mine.low gateway-other.0;
            };
            settles = kept;
            between = r.2.1;
          },
          r.3,
        ) where
          kept : Settles s named caller op x (composed s actions) (composed s (actions ++ r.0))
          kept = r.2.0

          others : OthersAreHere (composed s (actions ++ r.0)).group named
          others = others-of s named few (composed s (actions ++ r.0)).group kept.going

  pub drains-to : (actions : List Action) (run : AreActions s actions)
      → CanServe named caller (composed s actions).group
      → CanBe s actions (DrainsTo s named caller (composed s actions))
  drains-to actions run serves =
      by (drains s named (gateway_of s caller) gin.0 out (suc (load_of (machine (composed s actions)))) actions run
      serves.others serves.taken (omega arith)) where
        gin : IsOther s named (gateway_of s caller)
        gin = gateway-other actions run serves

        by : CanBe s actions (λ d. Stays named (composed s actions) d × IsDrained (machine d)) → CanBe s actions (DrainsTo s named caller (composed s actions))
        by r = (r.0, r.1, record { serves = now; gateways = stays.gateways; drained = r.2.1; held = held; delivers = stays.delivers }, r.3) where
          stays : Stays named (composed s actions) (composed s (actions ++ r.0))
          stays = r.2.0

          now : CanServe named caller (composed s (actions ++ r.0)).group
          now = record { others = stays.others; taken = stays.taken; mine = caller-in (actions ++ r.0) stays.others serves.mine.low gin.0 }

          held : (x : ProcessId) (q : Request) → IsOther s named x → IsHeld s ((composed s actions).group.works.process x) q
              → IsHeld s ((composed s (actions ++ r.0)).group.works.process x) q
          held x (TraceOf who call d) xin none = none
          held x (AskFor who call op) xin (y, there, whose, which) = (
            y,
            subst (λ (p : Process). Contains (held_at p (home_of (key_of op.act) s.k)) y) (same-process (actions ++ r.0) r.1 now x xin)
                (stays.held x (home_of (key_of op.act) s.k) y (subst (λ (t : Dimensions). IsProcess t x) (sym (shape-from (opening_composed s) actions)) xin.0)
                (subst (λ (p : Process). Contains (held_at p (home_of (key_of op.act) s.k)) y) (sym (same-process actions run serves x xin)) there)),
            whose,
            which,
          )
