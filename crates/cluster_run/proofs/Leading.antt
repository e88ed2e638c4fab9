-- Events of a cluster, one after the other.
use Rattle.std.proofs.Common.{ℕ, zero, suc, ◌≡◌, ◌<◌, List, [], ◌∷◌, ◌++◌, length, replicate, true, false, refl, sym, ap, subst, ◌∙◌}
use Rattle.group_types.proofs.Lists.{length-put}
use Rattle.group_layout.specs.Cluster.{Cluster, IsLayout, MayAllHappen, MayHappen, cluster_after, cluster_step, cluster_turns, world_in}
use Rattle.group_layout.specs.declared.event.ClusterEvent.{ClusterEvent}
use Rattle.group_layout.specs.declared.event.ClusterEvent.TheVariants.{FailNode, InGroup}
use Rattle.group_layout.specs.Promise.{AreRuns}
use Rattle.group_layout.proofs.Happening.{Even, all-may, clusters_are_runs, even-after, even-start, groups-after}
use Rattle.group_cluster.specs.Plan.{IsPlan, Plan}
use Rattle.scenario_run.proofs.Leading as group
use Rattle.cluster_run.specs.Led.{IsLedTo}
use Rattle.cluster_run.specs.Playing.{ClusterTurn, cluster_turn, cluster_turns_from, opening_of}

-- events that lead from one cluster to another
pub record Leads (c d : Cluster) (turns : List ClusterTurn) : Type 0 where
  pub events : List ClusterEvent
  pub may : MayAllHappen c events
  pub turns_are : cluster_turns_from c events ≡ turns
  pub to : cluster_after c events ≡ d

pub opened : (plan : Plan) → IsPlan plan → IsLedTo plan (opening_of plan)
opened plan limits = record { limits = limits; events = []; may = tt; is = refl }

-- events, one behind the other
pub may-append : (c : Cluster) (es fs : List ClusterEvent) → MayAllHappen c es → MayAllHappen (cluster_after c es) fs → MayAllHappen c (es ++ fs)
may-append c [] fs first rest = rest
may-append c (e ∷ es) fs first rest = (first.0, may-append (cluster_step c e).cluster es fs first.1 rest)

pub turns-append : (c : Cluster) (es fs : List ClusterEvent)
    → cluster_turns_from c (es ++ fs) ≡ cluster_turns_from c es ++ cluster_turns_from (cluster_after c es) fs
turns-append c [] fs = refl
turns-append c (e ∷ es) fs = ap (λ (ts : List ClusterTurn). cluster_turn c e ∷ ts) (turns-append (cluster_step c e).cluster es fs)

pub after-append : (c : Cluster) (es fs : List ClusterEvent) → cluster_after c (es ++ fs) ≡ cluster_after (cluster_after c es) fs
after-append c [] fs = refl
after-append c (e ∷ es) fs = after-append (cluster_step c e).cluster es fs

pub leads-then : (a b c : Cluster) (ts us : List ClusterTurn) → Leads a b ts → Leads b c us → Leads a c (ts ++ us)
leads-then a b c ts us first then = record {
  events = first.events ++ then.events;
  may = may-append a first.events then.events first.may (subst (λ (x : Cluster). MayAllHappen x then.events) (sym first.to) then.may);
  turns_are = turns-append a first.events then.events
      ∙ ap (λ (xs : List ClusterTurn). xs ++ cluster_turns_from (cluster_after a first.events) then.events) first.turns_are
      ∙ ap (λ (xs : List ClusterTurn). ts ++ xs) (ap (λ (x : Cluster). cluster_turns_from x then.events) first.to ∙ then.turns_are);
  to = after-append a first.events then.events ∙ ap (λ (x : Cluster). cluster_after x then.events) first.to ∙ then.to;
}

-- a cluster that events led to, after more of them
pub led-on : (plan : Plan) (c d : Cluster) (ts : List ClusterTurn) → IsLedTo plan c → Leads c d ts → IsLedTo plan d
led-on plan c d ts led leads = record {
  limits = led.limits;
  events = led.events ++ leads.events;
  may = may-append (opening_of plan) led.events leads.events led.may (subst (λ (x : Cluster). MayAllHappen x leads.events) led.is leads.may);
  is = sym leads.to ∙ ap (λ (x : Cluster). cluster_after x leads.events) led.is ∙ sym (after-append (opening_of plan) led.events leads.events);
}

-- one event leads on
pub one-leads : (c : Cluster) (e : ClusterEvent) → MayHappen c e → Leads c (cluster_step c e).cluster (cluster_turn c e ∷ [])
one-leads c e may = record { events = e ∷ []; may = (may, tt); turns_are = refl; to = refl }

pub none-leads : (c d : Cluster) → c ≡ d → Leads c d []
none-leads c d same = record { events = []; may = tt; turns_are = refl; to = same }

-- so many groups of this shape stand on so many nodes
pub laid : (plan : Plan) → IsPlan plan → IsLayout plan.shape plan.nodes plan.groups
laid plan limits = record { wide = limits.nodes.0; nodes = limits.nodes.1; some = limits.groups.0; groups = limits.groups.1 }

pub led-even : (plan : Plan) (c : Cluster) → IsLedTo plan c → Even plan.shape plan.groups c.groups
led-even plan c led =
    let start : Cluster = opening_of plan in
    let even = even-start plan.shape plan.groups in
    subst (λ (x : Cluster). Even plan.shape plan.groups x.groups) (sym led.is)
    (subst (Even plan.shape plan.groups) (sym (groups-after start led.events))
    (even-after plan.shape plan.groups start.groups _ even (all-may plan.shape plan.groups start led.events even led.may)))

-- the number of nodes stays
many-nodes : (c : Cluster) (es : List ClusterEvent) → MayAllHappen c es → length (cluster_after c es).failed ≡ length c.failed
many-nodes c [] may = refl
many-nodes c (InGroup j event ∷ es) may = many-nodes (cluster_step c (InGroup j event)).cluster es may.1
many-nodes c (FailNode node keep ∷ es) may =
    many-nodes (cluster_step c (FailNode node keep)).cluster es may.1 ∙ length-put false c.failed node true may.0

long : (n : ℕ) → length (replicate n false) ≡ n
long zero = refl
long (suc n) = ap suc (long n)

pub led-nodes : (plan : Plan) (c : Cluster) → IsLedTo plan c → length c.failed ≡ plan.nodes
led-nodes plan c led = ap (λ (x : Cluster). length x.failed) led.is ∙ many-nodes (opening_of plan) led.events led.may ∙ long plan.nodes

-- each group is one that a run led to
pub led-group : (plan : Plan) (c : Cluster) (j : ℕ) → IsLedTo plan c → j < plan.groups → group.IsLedTo plan.shape (world_in c.groups j)
led-group plan c j led low =
    let runs : AreRuns plan.shape plan.groups (cluster_after (opening_of plan) led.events).groups (cluster_turns (opening_of plan) led.events)
    = clusters_are_runs plan.shape plan.nodes plan.groups led.events led.limits.shape (laid plan led.limits) led.may in
    let own = runs.each j low in
    record { events = own.events; run = own.run; is = ap (λ (x : Cluster). world_in x.groups j) led.is ∙ own.stands }
