-- Once all messages are received nothing is unfinished, and no call has to wait.
use Rattle.std.proofs.Common.{Some, ℕ, suc, ◌≡◌, ◌<◌, false, List, [], ◌++◌, sym, ap, subst, ◌∙◌, arith}
use Rattle.group_types.specs.Dimensions.{Dimensions}
use Rattle.group_types.specs.Names.{IsProcess}
use Rattle.group_types.specs.declared.process.ProcessId.{ProcessId}
use Rattle.group_run.specs.Meaning.{IsDrained, process_of}
use Rattle.group_run.specs.Applying.{head_at, replica_of}
use Rattle.law_causes.proofs.Standing.{named-always}
use Rattle.group_run.specs.Process.{Head, Process}
use Rattle.group_run.specs.Progress.{load_of}
use Rattle.law_progress.proofs.Quiet.{quiet_always}
use Rattle.group_wire.specs.Actions.{Action}
use Rattle.group_wire.specs.Composed.{AreActions, Composed, composed, events_of}
use Rattle.group_wire.specs.Composition.{machine}
use Rattle.group_wire.specs.GoingOn.{CanBe, NamedAreTaken, OthersAreHere, TakesNamed}
use Rattle.group_wire.specs.Sets.{Processes}
use Rattle.group_wire.proofs.Compositions.{runs_compose}
use Rattle.group_wire.proofs.GoingOn.{named_can_be_taken}
use Rattle.group_wire.proofs.Reaching.{can-be-then}
use Rattle.group_wire.proofs.Whole.{whole}
use Rattle.group_types.specs.Hash.{home_of}
use Rattle.group_types.specs.declared.process.ProcessId.TheVariants.{DataNode}
use Rattle.memc_table.specs.Act.{key_of}
use Rattle.memc_table.specs.Asked.{Asked}
use Rattle.group_calls.specs.Turns.{CallName}
use Rattle.group_run.specs.Asking.{ask_process}
use Rattle.wire_progress.proofs.Draining.{Stays, drains, lives, same-wire, shape-machine}
use Rattle.wire_progress.proofs.Finished.{home-below}
use Rattle.wire_progress.proofs.Given.{given-asked}
use Rattle.wire_progress.specs.Emptying.{IsGiven, IsEmptied, MembersCanBeDrained}

module _ (s : Dimensions) (named : Processes) (one : ProcessId) (one_in : IsProcess s one) (one_out : named one ≡ false) where
  -- then nothing is on the wires
  pub emptied : (before : Composed) (actions : List Action) (run : AreActions s actions)
      → OthersAreHere (composed s actions).group named → NamedAreTaken (composed s actions).group named
      → (composed s actions).group.gateways ≡ before.group.gateways → IsDrained (machine (composed s actions)) → IsEmptied before (composed s actions) named
  emptied before actions run others taken gateways drained = record {
    others = others;
    taken = taken;
    wires = λ x p xin pin other x_out p_out. sym (same-wire s named one one_in one_out actions run others taken x p xin pin other x_out p_out)
        ∙ drained x p (subst (λ (t : Dimensions). IsProcess t x) (sym (shape-machine s named one one_in one_out actions run others taken)) xin) (
          subst (λ (t : Dimensions). IsProcess t p)
              (sym (shape-machine s named one one_in one_out actions run others taken)) pin,
          (runs_compose s actions run).dead p pin ∙ lives s named one one_in one_out actions run others taken p p_out,
        )
        other;
    quiet = quiet_always (composed s actions).group.shape (events_of (composed s actions))
        (runs_compose s actions run).run drained (runs_compose s actions run).up;
    calls = λ name op out. given name op out;
    gateways = gateways;
  } where
    given : (name : CallName) (op : Asked) → named (DataNode (home_of (key_of op.act) (composed s actions).group.shape.k)) ≡ false
        → IsGiven (ask_process (composed s actions).group.shape name op
        ((composed s actions).group.works.process
        (DataNode (home_of (key_of op.act) (composed s actions).group.shape.k)))).answer
    given name op out = given-asked (composed s actions).group.shape name op d ((composed s actions).group.works.process (DataNode d)) head.0 d
        (ap (λ (p : Process). head_at p d) same ∙ head.1) (ap (λ (p : Process). (replica_of p d).log) same ∙ head.2)
        (ap (λ (p : Process). p.name) same ∙ called)
      where
        d : ℕ
        d = home_of (key_of op.act) (composed s actions).group.shape.k

        below : d < (composed s actions).group.shape.k
        below = home-below (key_of op.act) (composed s actions).group.shape.k ((whole s actions run).limits.k.0)

        below-machine : d < (machine (composed s actions)).shape.k
        below-machine = subst (λ (t : Dimensions). d < t.k) (sym (shape-machine s named one one_in one_out actions run others taken)) below

        alive : (composed s actions).failed (DataNode d) ≡ false
        alive = lives s named one one_in one_out actions run others taken (DataNode d) out

        same : (composed s actions).group.works.process (DataNode d) ≡ process_of (machine (composed s actions)) (DataNode d)
        same = sym ((runs_compose s actions run).processes (DataNode d) (record { member = below; lives = alive }))

        called : (process_of (machine (composed s actions)) (DataNode d)).name ≡ DataNode d
        called = named-always (composed s actions).group.shape (events_of (composed s actions)) (runs_compose s actions run).run (DataNode d) below-machine

        head : (h : Head) × (head_at (process_of (machine (composed s actions)) (DataNode d)) d ≡ Some h)
            × ((replica_of (process_of (machine (composed s actions)) (DataNode d)) d).log ≡ [])
        head = (quiet_always (composed s actions).group.shape (events_of (composed s actions))
            (runs_compose s actions run).run drained (runs_compose s actions run).up).finished d 0 below-machine
            (record {
              within = omega arith;
              lives = (runs_compose s actions run).dead (DataNode d) below ∙ alive;
              lowest = λ q low. absurd (omega (arith, low));
            })

  pub members-drained : (actions : List Action) → AreActions s actions → OthersAreHere (composed s actions).group named
      → CanBe s actions (λ c. IsEmptied (composed s actions) c named)
  members-drained actions run others =
      can-be-then (λ d. TakesNamed (composed s actions).group d.group named)
      (λ c. IsEmptied (composed s actions) c named) s actions (named_can_be_taken s actions named run others)
      (λ more longer takes. done more takes.gateways
      (drains s named one one_in one_out (suc (load_of (machine (composed s (actions ++ more))))) (actions ++ more)
      longer takes.others takes.taken (omega arith)))
    where
      done : (more : List Action) → (composed s (actions ++ more)).group.gateways ≡ (composed s actions).group.gateways
          → CanBe s (actions ++ more) (λ d. Stays named (composed s (actions ++ more)) d × IsDrained (machine d))
          → CanBe s (actions ++ more) (λ c. IsEmptied (composed s actions) c named)
      done more same r = (r.0, r.1, emptied (composed s actions) (actions ++ more ++ r.0) r.1 r.2.0.others r.2.0.taken (r.2.0.gateways ∙ same) r.2.1, r.3)

pub members_can_be_drained : MembersCanBeDrained
members_can_be_drained s actions named one run others one_in one_out = members-drained s named one one_in one_out actions run others
