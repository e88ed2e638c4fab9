-- The process of the lowest rank that isn't named heads its partition, and has taken over where the group is drained.
use Rattle.std.proofs.Common.{ℕ, ◌≡◌, ◌≢◌, ◌<◌, ◌≤◌, Bool, true, false, List, [], Contains, refl, sym, subst, ◌∙◌, arith}
use Rattle.group_types.specs.Dimensions.{Dimensions}
use Rattle.group_types.specs.Names.{IsHead, IsProcess, of_rank}
use Rattle.group_types.specs.declared.process.ProcessId.{ProcessId}
use Rattle.group_message.specs.declared.message.Message.{Message}
use Rattle.group_message.specs.declared.message.Message.TheVariants as tells
use Rattle.group_run.specs.Causes.{IsReady, IsUp}
use Rattle.group_run.specs.Meaning.{HasTakenOver, Heads, IsDrained, is_dead, link}
use Rattle.group_run.specs.World.{World}
use Rattle.law_histories.proofs.Headed.{rank-in}
use Rattle.law_progress.proofs.Quiet.{quiet_always}
use Rattle.group_wire.specs.Actions.{Action}
use Rattle.group_wire.specs.Composed.{AreActions, composed, events_of}
use Rattle.group_wire.specs.Composition.{machine}
use Rattle.group_wire.specs.Sets.{Processes}
use Rattle.group_wire.specs.State.{gateway_of}
use Rattle.group_wire.proofs.Compositions.{runs_compose}
use Rattle.group_wire.proofs.GoingOn.{IsOther}
use Rattle.wire_progress.proofs.Draining.{failed-named, unnamed}
use Rattle.wire_progress.proofs.Finished.{shape-machine}
use Rattle.wire_progress.proofs.Serving.{CanServe, alive, gateway-other, going}

-- there is one
pub a-head : (s : Dimensions) (named : Processes) (caller : ℕ) → named (gateway_of s caller) ≡ false
    → (actions : List Action) (run : AreActions s actions) → CanServe named caller (composed s actions).group
    → IsDrained (machine (composed s actions))
    → (d : ℕ) → d < s.k → (r : ℕ) × IsHead s.m named d r
a-head s named caller out actions run serves drained d below = (found.0, record { within = within; lives = living; lowest = lower }) where
  found : (r : ℕ) × Heads (machine (composed s actions)) d r × HasTakenOver (machine (composed s actions)) d r
  found = (quiet_always (composed s actions).group.shape (events_of (composed s actions))
      (runs_compose s actions run).run drained (runs_compose s actions run).up).headed d
      (subst (λ (t : Dimensions). d < t.k) (sym (shape-machine s actions run)) below)

  within : found.0 ≤ s.m
  within = subst (λ (t : Dimensions). found.0 ≤ t.m) (shape-machine s actions run) found.1.within

  member : (q : ℕ) → q ≤ found.0 → IsProcess (composed s actions).group.shape (of_rank d q)
  member q low = subst (λ (t : Dimensions). IsProcess t (of_rank d q))
      (sym (going s named caller out actions run serves).shape)
      (rank-in s d q below (let most = within in omega (arith, low, most)))

  living : named (of_rank d found.0) ≡ false
  living = unnamed s named (gateway_of s caller) (gateway-other s named caller out actions run serves).0 out actions run
      serves.others serves.taken (of_rank d found.0) (member found.0 (omega arith))
      (sym ((runs_compose s actions run).dead (of_rank d found.0) (member found.0 (omega arith))) ∙ found.1.lives)

  lower : (q : ℕ) → q < found.0 → named (of_rank d q) ≡ true
  lower q low = failed-named s named (gateway_of s caller) (gateway-other s named caller out actions run serves).0 out
      actions run serves.others serves.taken (of_rank d q)
      (sym ((runs_compose s actions run).dead (of_rank d q) (member q (omega (arith, low)))) ∙ found.1.lowest q low)

module _ (s : Dimensions) (named : Processes) (caller : ℕ) (out : named (gateway_of s caller) ≡ false)
    (actions : List Action) (run : AreActions s actions) (serves : CanServe named caller (composed s actions).group)
    (d r : ℕ) (below : d < s.k) (head : IsHead s.m named d r) where
  pub head-other : IsOther s named (of_rank d r)
  head-other = (rank-in s d r below head.within, head.lives)

  abbrev w : World
  w = machine (composed s actions)

  -- the dead are the named
  lives : is_dead (machine (composed s actions)) (of_rank d r) ≡ false
  lives = (runs_compose s actions run).dead (of_rank d r)
      (subst (λ (t : Dimensions). IsProcess t (of_rank d r)) (sym (going s named caller out actions run serves).shape)
      head-other.0) ∙ alive s named caller out actions run serves (of_rank d r) head.lives

  dies : (q : ℕ) → q < r → is_dead (machine (composed s actions)) (of_rank d q) ≡ true
  dies q low = (runs_compose s actions run).dead (of_rank d q) member ∙ by ((composed s actions).failed (of_rank d q)) refl where
    member : IsProcess (composed s actions).group.shape (of_rank d q)
    member = subst (λ (t : Dimensions). IsProcess t (of_rank d q))
        (sym (going s named caller out actions run serves).shape)
        (rank-in s d q below (let most = head.within in omega (arith, low, most)))

    by : (b : Bool) → (composed s actions).failed (of_rank d q) ≡ b → (composed s actions).failed (of_rank d q) ≡ true
    by true is = is
    by false is =
        cc (
          head.lowest q low,
          unnamed s named (gateway_of s caller)
              (gateway-other s named caller out actions run serves).0 out actions run serves.others serves.taken (of_rank d q)
              member is,
        )

  pub is-up : IsUp (machine (composed s actions)) (of_rank d r)
  is-up = record { group = (runs_compose s actions run).up; process = lives }

  pub heads : Heads (machine (composed s actions)) d r
  heads = record { within = subst (λ (t : Dimensions). r ≤ t.m) (sym (shape-machine s actions run)) head.within; lives = lives; lowest = dies }

  pub is-ready : IsDrained (machine (composed s actions)) → IsReady (machine (composed s actions)) (of_rank d r) d
  is-ready drained = record { rank = r; name = refl; heads = heads; taken_over = none } where
    none : (q : ℕ) (from : ProcessId) → q < r → IsProcess (machine (composed s actions)).shape from → from ≢ of_rank d r
        → ¬ (Contains (link (machine (composed s actions)) from (of_rank d r)) (tells.Notice (of_rank d q)))
    none q from low member other there =
        let empty : Contains [] (tells.Notice (of_rank d q)) = subst (λ (ms : List Message). Contains ms (tells.Notice (of_rank d q)))
        (drained from (of_rank d r) member (
          subst (λ (t : Dimensions). IsProcess t (of_rank d r)) (sym (shape-machine s actions run)) head-other.0,
          lives,
        ) other) there in
        let low = empty.1 in omega (arith, low)
