-- Scripts of several groups can be played: a line leaves what the next may have.
use Rattle.std.proofs.Common.{◌≡◌, ℕ, ◌+◌, ◌*◌, ◌⊎◌, inl, inr, List, Option, Some, None, refl, sym, ap, subst, arith}
use Rattle.group_cluster.specs.Plan.{IsPlan, Plan}
use Rattle.group_run.specs.World.{opening}
use Rattle.group_types.proofs.Lists.{at-replicate}
use Rattle.scenario_run.specs.Course.{Goes}
use Rattle.scenario_run.proofs.Draining.{burden, load-opening}
use Rattle.scenario_play.specs.Script.{LeavesReady}
use Rattle.scenario_play.specs.Whole.{PlaysAllAlways}
use Rattle.scenario_play.specs.declared.status.Status.TheVariants.{Done}
use Rattle.scenario_play.proofs.Treating.{all-done}
use Rattle.scenario_play.proofs.Whole.{plays-all, script-never}
use Rattle.cluster_run.specs.Playing.{ClusterPlay, ClusterTurn, next_of, opening_of, cluster_from}
use Rattle.cluster_run.specs.Promises.{KeepsPromises}
use Rattle.cluster_run.specs.Script.{first_fault}
use Rattle.cluster_run.proofs.Leading.{led-on, opened}
use Rattle.cluster_run.proofs.Promises.{scripts_keep_promises}
use Rattle.cluster_run.proofs.Running.{GoesOn, line-leads, line-opens}
use Rattle.cluster_play.specs.Doing.{AreLight, ClusterGoesOn, IsReadyCluster, cluster_script, cluster_told, most_of_a_line}
use Rattle.cluster_play.specs.Language.{cluster_scripts}

-- the opening cluster has made no event
opening-light : (plan : Plan) (n : ℕ) → AreLight n plan.groups (opening_of plan)
opening-light plan n j low =
    let same = ap burden (at-replicate (opening plan.shape) plan.groups j) in
    let none = load-opening plan.shape in
    omega (arith, same, none)

opens-left : (n : ℕ) (now : Option ClusterPlay) → (now ≡ None) ⊎ ((plan : Plan) × IsPlan plan × (now ≡ Some (cluster_from plan))) → ClusterGoesOn (n + 1) now
opens-left n now (inl none) = subst (ClusterGoesOn (n + 1)) (sym none) tt
opens-left n now (inr (plan, limits, some)) =
    subst (ClusterGoesOn (n + 1)) (sym some) (record { plan = plan; led = opened plan limits; light = opening-light plan ((n + 1) * most_of_a_line) })

goes-left : (n : ℕ) (p : ClusterPlay) (now : Option ClusterPlay) (turns : List ClusterTurn)
    → (ready : IsReadyCluster (n * most_of_a_line) p.cluster) → GoesOn ready.plan p.cluster now turns
    → ClusterGoesOn (n + 1) now
goes-left n p now turns ready on = subst (ClusterGoesOn (n + 1)) (sym on.is) (record {
  plan = ready.plan;
  led = led-on ready.plan p.cluster on.play.cluster turns ready.led on.leads;
  light = λ j low. (let more = on.light j low in let light = ready.light j low in omega (arith, light, more));
})

ready-on : (n : ℕ) (before now : Option ClusterPlay) (line : List ℕ) (turns : List ClusterTurn) (text : List ℕ)
    → ClusterGoesOn n before → next_of before line ≡ Goes now turns text → ClusterGoesOn (n + 1) now
ready-on n None now line turns text ready next = opens-left n now (line-opens line now turns text next).is
ready-on n (Some p) now line turns text ready next = goes-left n p now turns ready (line-leads ready.plan p line now turns text ready.led next)

pub left : LeavesReady cluster_script
left n before now line turns text ready next = record { ready = ready-on n before now line turns text ready next; logged = λ more. refl }

-- a script of which all is done keeps its promises
pub all-kept : (text : List ℕ) → cluster_scripts.verdict text ≡ Done → KeepsPromises text
all-kept text is = scripts_keep_promises text (all-done cluster_script cluster_told (first_fault text) is)

-- a script is all that its source had, where the source told that
pub plays_all : PlaysAllAlways cluster_scripts
plays_all = plays-all cluster_scripts (script-never cluster_script cluster_scripts first_fault cluster_told (λ text. refl))
