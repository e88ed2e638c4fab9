-- A drain of a cluster: its deliveries may happen, and each lightens its group.
use Rattle.std.proofs.Common.{ℕ, zero, suc, ◌≡◌, ◌<◌, ◌≤◌, ◌+◌, Bool, true, false, List, [], ◌∷◌, length, map, inl, inr}
use Rattle.std.proofs.Common.{Option, Some, None, if◌then◌else◌, refl, sym, ap, subst, ◌∙◌, arith}
use Rattle.std.specs.List.{range_with_len}
use Rattle.group_calls.specs.declared.event.Event.{Event}
use Rattle.group_calls.specs.declared.event.Event.TheVariants.{Deliver}
use Rattle.group_run.specs.Draining.{drain_events, next_delivery}
use Rattle.group_run.specs.Meaning.{IsDown}
use Rattle.group_run.specs.Progress.{load_of}
use Rattle.group_run.specs.Shown.{is_down}
use Rattle.group_run.specs.World.{World, step}
use Rattle.group_layout.specs.Cluster.{Cluster, MayAllHappen, MayHappen, Move, cluster_after, cluster_step, moved, world_in}
use Rattle.group_layout.specs.declared.event.ClusterEvent.{ClusterEvent}
use Rattle.group_layout.specs.declared.event.ClusterEvent.TheVariants.{InGroup}
use Rattle.group_layout.proofs.Moves.{IsOrNot, is-or-not, other-world, own-world}
use Rattle.group_cluster.specs.Plan.{Plan}
use Rattle.group_run.specs.Causes.{IsDelivery}
use Rattle.scenario_run.proofs.Draining.{Lightens, burden, lightens, next-delivers}
use Rattle.scenario_run.proofs.Truth.{up}
use Rattle.cluster_run.specs.Led.{IsLedTo}
use Rattle.cluster_run.specs.Playing.{all_deliveries, deliveries, deliveries_in}
use Rattle.cluster_run.proofs.Leading.{Leads, after-append, led-even, led-group, led-on, may-append, one-leads}

-- events that may happen, and add to no group
pub record Drains (c : Cluster) (es : List ClusterEvent) : Type 0 where
  pub may : MayAllHappen c es
  pub light : (i : ℕ) → burden (world_in (cluster_after c es).groups i) ≤ burden (world_in c.groups i)

module _ (plan : Plan) where
  -- the next delivery of a group
  pub record Delivered (c : Cluster) (j : ℕ) (e : Event) : Type 0 where
    pub may : MayHappen c (InGroup j e)
    pub own : world_in (cluster_step c (InGroup j e)).cluster.groups j ≡ (step (world_in c.groups j) e).world
    pub light : (i : ℕ) → burden (world_in (cluster_step c (InGroup j e)).cluster.groups i) ≤ burden (world_in c.groups i)

  pub delivered : (c : Cluster) (j : ℕ) (e : Event) → IsLedTo plan c → j < plan.groups → IsDelivery e → Lightens (world_in c.groups j) e → Delivered c j e
  delivered c j (Deliver from to) led low delivery lighter =
      let m : Move = record { group = j; event = Deliver from to } in
      let even = led-even plan c led in
      let own : world_in (moved c.groups m) j ≡ (step (world_in c.groups j) (Deliver from to)).world = own-world c.groups m j refl in
      record {
        may = ((subst (λ (n : ℕ). j < n) (sym even.many) low, lighter.may), λ failure. failure);
        own = own;
        light = λ i. by i (is-or-not i j) own;
      }
    where
      e : Event
      e = Deliver from to

      by : (i : ℕ) → IsOrNot i j → world_in (moved c.groups (record { group = j; event = e })) j ≡ (step (world_in c.groups j) e).world
          → burden (world_in (moved c.groups (record { group = j; event = e })) i) ≤ burden (world_in c.groups i)
      by i (inl (word, is)) own =
          let here = ap (λ (x : ℕ). burden (world_in (moved c.groups (record { group = j; event = e })) x)) is ∙ ap burden own in
          let there = ap (λ (x : ℕ). burden (world_in c.groups x)) is in
          let less = lighter.lower in
          omega (arith, here, there, less)
      by i (inr (word, other)) own =
          let same = ap burden (other-world c.groups (record { group = j; event = e }) i (λ x. other (sym x))) in
          omega (arith, same)
  delivered c j e led low delivery lighter = absurd delivery

  -- the deliveries behind the next one
  abbrev behind : ℕ → World → Option Event → List Event
  behind n w None = []
  behind n w (Some e) = e ∷ drain_events n (step w e).world

  -- the deliveries of one group
  in-group : (n : ℕ) (c : Cluster) (j : ℕ) → IsLedTo plan c → j < plan.groups → ¬ (IsDown (world_in c.groups j))
      → Drains c (map (InGroup j) (drain_events n (world_in c.groups j)))
  in-group zero c j led low up = record { may = tt; light = λ i. omega arith }
  in-group (suc n) c j led low up = by (next_delivery (world_in c.groups j)) refl (λ d. in-group n d j) where
    w : World
    w = world_in c.groups j

    by : (next : Option Event) → next_delivery w ≡ next
        → ((d : Cluster) → IsLedTo plan d → j < plan.groups → ¬ (IsDown (world_in d.groups j))
        → Drains d (map (InGroup j) (drain_events n (world_in d.groups j))))
        → Drains c (map (InGroup j) (behind n w next))
    by None is later = record { may = tt; light = λ i. omega arith }
    by (Some e) is later =
        let lighter : Lightens w e = lightens plan.shape w e (led-group plan c j led low) up is in
        let one : Delivered c j e = delivered c j e led low (next-delivers plan.shape w e (led-group plan c j led low) up is) lighter in
        let d : Cluster = (cluster_step c (InGroup j e)).cluster in
        let rest : Drains d (map (InGroup j) (drain_events n (world_in d.groups j))) =
        later d (led-on plan c d _ led (one-leads c (InGroup j e) one.may)) low
        (subst (λ (v : World). ¬ (IsDown v)) (sym one.own) lighter.up) in
        let same : Drains d (map (InGroup j) (drain_events n (step w e).world)) =
        subst (λ (v : World). Drains d (map (InGroup j) (drain_events n v))) one.own rest in
        record { may = (one.may, same.may); light = λ i. (let first = one.light i in let behind = same.light i in omega (arith, first, behind)) }

  pub group-drains : (c : Cluster) (j : ℕ) → IsLedTo plan c → j < plan.groups → Drains c (deliveries_in c j)
  group-drains c j led low = by (is_down w) refl where
    w : World
    w = world_in c.groups j

    by : (b : Bool) → is_down w ≡ b → Drains c (map (InGroup j) (if b then [] else drain_events (load_of w) w))
    by true is = record { may = tt; light = λ i. omega arith }
    by false is = in-group (load_of w) c j led low (up w is)

  -- groups that are there
  abbrev pub AreThere : List ℕ → Type 0
  AreThere [] = Unit {0}
  AreThere (j ∷ js) = (j < plan.groups) × AreThere js

  pub range-there : (a n : ℕ) → a + n ≤ plan.groups → AreThere (range_with_len a n)
  range-there a zero within = tt
  range-there a (suc n) within = (omega (arith, within), range-there (a + 1) n (omega (arith, within)))

  pub drained : (c : Cluster) (js : List ℕ) → IsLedTo plan c → AreThere js → Drains c (deliveries c js)
  drained c [] led there = record { may = tt; light = λ i. omega arith }
  drained c (j ∷ js) led there =
      let es : List ClusterEvent = deliveries_in c j in
      let d : Cluster = cluster_after c es in
      let first : Drains c es = group-drains c j led there.0 in
      let leads : Leads c d _ = record { events = es; may = first.may; turns_are = refl; to = refl } in
      let rest : Drains d (deliveries d js) = drained d js (led-on plan c d _ led leads) there.1 in
      record {
        may = may-append c es (deliveries d js) first.may rest.may;
        light = λ i. (let same = ap (λ (x : Cluster). burden (world_in x.groups i))
            (after-append c es (deliveries d js)) in let less = first.light i in let more = rest.light i in
            omega (arith, same, less, more));
      }

  pub all-drained : (c : Cluster) → IsLedTo plan c → Drains c (all_deliveries c)
  all-drained c led = let many = (led-even plan c led).many in drained c (range_with_len 0 (length c.groups.worlds)) led
      (range-there 0 (length c.groups.worlds) (omega (arith, many)))
