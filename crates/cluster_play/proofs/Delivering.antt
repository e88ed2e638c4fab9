-- The deliveries of a drain in one group of a cluster, and in one group after the other.
use Rattle.std.proofs.Common.{ℕ, zero, suc, ◌≡◌, ◌+◌, ◌-◌, ◌*◌, ◌^◌, ◌≤◌, ◌<◌, Bool, true, false, if◌then◌else◌, codes}
use Rattle.std.proofs.Common.{List, [], ◌∷◌, ◌++◌, length, map, Option, Some, None, refl, sym, ap, ◌∙◌, subst}
use Rattle.std.proofs.Common.{append_assoc, append-nil, length-append, arith}
use Rattle.std.specs.Fmt.{decimal}
use Rattle.std.specs.List.{range_with_len}
use Rattle.group_calls.specs.declared.event.Event.{Event}
use Rattle.group_run.specs.Draining.{drain_events, next_delivery}
use Rattle.group_run.specs.Meaning.{IsDown}
use Rattle.group_run.specs.Progress.{load_of}
use Rattle.group_run.specs.Shown.{is_down}
use Rattle.group_run.specs.World.{World, step}
use Rattle.group_layout.specs.Cluster.{Cluster, ClusterEntry, MayHappen, cluster_after, cluster_step, logged_in, world_in}
use Rattle.group_layout.specs.declared.event.ClusterEvent.{ClusterEvent}
use Rattle.group_layout.specs.declared.event.ClusterEvent.TheVariants.{InGroup}
use Rattle.group_cluster.specs.History.{HasFewEvents}
use Rattle.group_cluster.specs.Plan.{Plan}
use Rattle.scenario_run.proofs.Draining.{Lightens, burden, lightens, next-delivers}
use Rattle.scenario_run.proofs.Entries.{entries-append}
use Rattle.scenario_play.proofs.Delivering.{draining-down, draining-up, none-left, one-left}
use Rattle.cluster_run.specs.Led.{IsLedTo}
use Rattle.cluster_run.specs.Playing.{ClusterTurn, all_deliveries, cluster_log_of, cluster_turns_from, deliveries, deliveries_in, drained_text}
use Rattle.cluster_run.specs.Texts.{cluster_entries_text, cluster_entry_text}
use Rattle.cluster_run.proofs.Draining.{Delivered, delivered, group-drains}
use Rattle.cluster_run.proofs.Leading.{after-append, led-even, led-group, led-on, one-leads, turns-append}
use Rattle.cluster_play.specs.Doing.{IsReadyCluster}

-- what events write that they log
abbrev pub written_by : Cluster → List ClusterEvent → List ℕ
written_by c es = cluster_entries_text (cluster_log_of (cluster_turns_from c es))

written-more : (c : Cluster) (e : ClusterEvent) (es : List ClusterEvent)
    → written_by c (e ∷ es) ≡ cluster_entries_text (logged_in (cluster_step c e).turns)
    ++ written_by (cluster_step c e).cluster es
written-more c e es = entries-append cluster_entry_text (logged_in (cluster_step c e).turns) (cluster_log_of (cluster_turns_from (cluster_step c e).cluster es))

-- deliveries of a group, as events of its cluster
abbrev pub ours : ℕ → List Event → List ClusterEvent
ours j es = map (InGroup j) es

ours-many : (j : ℕ) (es : List Event) → length (ours j es) ≡ length es
ours-many j [] = refl
ours-many j (e ∷ es) = ap suc (ours-many j es)

module _ (c : Cluster) (j : ℕ) where
  -- the deliveries that are left, of as many as the weight at first
  abbrev pub left_in : Cluster → ℕ → List Event
  left_in d count = drain_events (load_of (world_in c.groups j) - count) (world_in d.groups j)

  abbrev pub all_in : List Event
  all_in = drain_events (load_of (world_in c.groups j)) (world_in c.groups j)

  -- so many deliveries were made, and what they wrote
  pub record Made (d : Cluster) (before text : List ℕ) (count : ℕ) : Type 0 where
    pub plan : Plan
    pub low : j < plan.groups
    pub led : IsLedTo plan d
    pub up : ¬ (IsDown (world_in d.groups j))
    pub fuel : load_of (world_in d.groups j) + count ≤ load_of (world_in c.groups j)
    pub light : burden (world_in d.groups j) ≤ burden (world_in c.groups j)
    pub after : cluster_after d (ours j (left_in d count)) ≡ cluster_after c (ours j all_in)
    pub written : text ++ written_by d (ours j (left_in d count)) ≡ before ++ written_by c (ours j all_in)
    pub many : count + length (left_in d count) ≡ length all_in

  pub Made-none : (plan : Plan) (text : List ℕ) → j < plan.groups → IsLedTo plan c → ¬ (IsDown (world_in c.groups j)) → Made c text text 0
  Made-none plan text low led up = record {
    plan = plan;
    low = low;
    led = led;
    up = up;
    fuel = omega arith;
    light = omega arith;
    after = ap (λ (es : List Event). cluster_after c (ours j es)) whole;
    written = ap (λ (es : List Event). text ++ written_by c (ours j es)) whole;
    many = let same = ap length whole in omega (arith, same);
  } where
    all : load_of (world_in c.groups j) - 0 ≡ load_of (world_in c.groups j)
    all = omega arith

    whole : left_in c 0 ≡ all_in
    whole = ap (λ (n : ℕ). drain_events n (world_in c.groups j)) all

  module _ (d : Cluster) (before text : List ℕ) (count : ℕ) (made : Made d before text count) where
    -- the group is there, and made few events and deliveries
    pub made-there : j < length d.groups.worlds
    made-there = subst (λ (n : ℕ). j < n) (sym (led-even made.plan d made.led).many) made.low

    pub made-few : burden (world_in c.groups j) ≤ 2 ^ 59 → HasFewEvents d.groups j
    made-few few = let light = made.light in omega (arith, few, light)

    pub made-count : burden (world_in c.groups j) ≤ 2 ^ 59 → count ≤ 2 ^ 59
    made-count few = let fuel = made.fuel in omega (arith, few, fuel)

    -- the next delivery
    pub record NextMade (e : Event) : Type 0 where
      pub may : MayHappen d (InGroup j e)
      pub lower : load_of (world_in (cluster_step d (InGroup j e)).cluster.groups j) < load_of (world_in d.groups j)
      pub more : Made (cluster_step d (InGroup j e)).cluster before (text ++ cluster_entries_text (logged_in (cluster_step d (InGroup j e)).turns)) (count + 1)

    pub next-made : (e : Event) → next_delivery (world_in d.groups j) ≡ Some e → NextMade e
    next-made e is = record {
      may = one.may;
      lower = lower;
      more = record {
        plan = made.plan;
        low = made.low;
        led = led-on made.plan d next _ made.led (one-leads d (InGroup j e) one.may);
        up = subst (λ (v : World). ¬ (IsDown v)) (sym one.own) lighter.up;
        fuel = omega (arith, lower, fuel);
        light = let less = one.light j in let light = made.light in omega (arith, less, light);
        after = sym (ap (λ (es : List Event). cluster_after d (ours j es)) split) ∙ made.after;
        written = append_assoc text (cluster_entries_text (logged_in (cluster_step d (InGroup j e)).turns)) (written_by next (ours j rest))
            ∙ ap (λ (xs : List ℕ). text ++ xs) (sym (written-more d (InGroup j e) (ours j rest)))
            ∙ ap (λ (es : List Event). text ++ written_by d (ours j es)) (sym split) ∙ made.written;
        many = let same = ap length split in let all = made.many in omega (arith, same, all);
      };
    } where
      v : World
      v = world_in d.groups j

      next : Cluster
      next = (cluster_step d (InGroup j e)).cluster

      rest : List Event
      rest = left_in next (count + 1)

      lighter : Lightens v e
      lighter = lightens made.plan.shape v e (led-group made.plan d j made.led made.low) made.up is

      one : Delivered made.plan d j e
      one = delivered made.plan d j e made.led made.low (next-delivers made.plan.shape v e (led-group made.plan d j made.led made.low) made.up is) lighter

      lower : load_of (world_in next.groups j) < load_of (world_in d.groups j)
      lower = let same = ap load_of one.own in let less = lighter.lower in omega (arith, same, less)

      fuel : load_of (world_in d.groups j) + count ≤ load_of (world_in c.groups j)
      fuel = made.fuel

      fewer : load_of (world_in c.groups j) - count ≡ suc (load_of (world_in c.groups j) - (count + 1))
      fewer = omega (arith, lower, fuel)

      split : left_in d count ≡ e ∷ rest
      split = one-left (load_of (world_in c.groups j) - count) (load_of (world_in c.groups j) - (count + 1)) v e fewer is
          ∙ ap (λ (x : World). e ∷ drain_events (load_of (world_in c.groups j) - (count + 1)) x) (sym one.own)

  module _ (d : Cluster) (before text : List ℕ) (count : ℕ) (made : Made d before text count)
      (up : ¬ (IsDown (world_in c.groups j))) (is : next_delivery (world_in d.groups j) ≡ None) where
    none : left_in d count ≡ []
    none = none-left (load_of (world_in c.groups j) - count) (world_in d.groups j) is

    all : deliveries_in c j ≡ ours j all_in
    all = ap (map (InGroup j)) (draining-up (world_in c.groups j) up)

    -- none is left
    pub all-delivered : d ≡ cluster_after c (deliveries_in c j)
    all-delivered = sym (ap (λ (es : List Event). cluster_after d (ours j es)) none) ∙ made.after ∙ sym (ap (cluster_after c) all)

    pub all-written : text ≡ before ++ written_by c (deliveries_in c j)
    all-written = sym (append-nil text) ∙ sym (ap (λ (es : List Event). text ++ written_by d (ours j es)) none)
        ∙ made.written ∙ sym (ap (λ (es : List ClusterEvent). before ++ written_by c es) all)

    pub all-counted : count ≡ length (deliveries_in c j)
    all-counted =
        let left = ap length none in
        let whole = made.many in
        let same = ap length all in
        let each = ours-many j all_in in
        omega (arith, left, whole, same, each)

-- there are none while a group is down
pub down-none : (c : Cluster) (j : ℕ) → IsDown (world_in c.groups j) → deliveries_in c j ≡ []
down-none c j down = ap (map (InGroup j)) (draining-down (world_in c.groups j) down)

-- the deliveries of groups, one behind the other
log-append : (ts us : List ClusterTurn) → cluster_log_of (ts ++ us) ≡ cluster_log_of ts ++ cluster_log_of us
log-append [] us = refl
log-append (t ∷ ts) us = ap (λ (xs : List ClusterEntry). logged_in t.turns ++ xs) (log-append ts us)
    ∙ sym (append_assoc (logged_in t.turns) (cluster_log_of ts) (cluster_log_of us))

written-append : (c : Cluster) (es fs : List ClusterEvent) → written_by c (es ++ fs) ≡ written_by c es ++ written_by (cluster_after c es) fs
written-append c es fs =
    ap (λ (ts : List ClusterTurn). cluster_entries_text (cluster_log_of ts)) (turns-append c es fs)
    ∙ ap cluster_entries_text (log-append (cluster_turns_from c es) (cluster_turns_from (cluster_after c es) fs))
    ∙ entries-append cluster_entry_text (cluster_log_of (cluster_turns_from c es)) (cluster_log_of (cluster_turns_from (cluster_after c es) fs))

-- events that add to no group leave it ready
led-after : (n : ℕ) (c : Cluster) (j : ℕ) → (ready : IsReadyCluster n c) → j < length c.groups.worlds → IsLedTo ready.plan (cluster_after c (deliveries_in c j))
led-after n c j ready low =
    let there : j < ready.plan.groups = subst (λ (k : ℕ). j < k) (led-even ready.plan c ready.led).many low in
    led-on ready.plan c (cluster_after c (deliveries_in c j)) _ ready.led
    (record {
      events = deliveries_in c j;
      may = (group-drains ready.plan c j ready.led there).may;
      turns_are = refl;
      to = refl;
    })

pub still-ready : (n : ℕ) (c : Cluster) (j : ℕ) → IsReadyCluster n c → j < length c.groups.worlds → IsReadyCluster n (cluster_after c (deliveries_in c j))
still-ready n c j ready low =
    let there : j < ready.plan.groups = subst (λ (k : ℕ). j < k) (led-even ready.plan c ready.led).many low in
    let drains = group-drains ready.plan c j ready.led there in
    record {
      plan = ready.plan;
      led = led-after n c j ready low;
      light = λ i below. (let less = drains.light i in let light = ready.light i below in omega (arith, less, light));
    }

-- the number of groups stays
pub same-many : (n : ℕ) (c : Cluster) (j : ℕ) → IsReadyCluster n c → j < length c.groups.worlds
    → length (cluster_after c (deliveries_in c j)).groups.worlds ≡ length c.groups.worlds
same-many n c j ready low =
    (led-even ready.plan (cluster_after c (deliveries_in c j)) (led-after n c j ready low)).many ∙ sym (led-even ready.plan c ready.led).many

-- there are at most as many deliveries as the weight of what is on its way
drain-short : (n : ℕ) (w : World) → length (drain_events n w) ≤ n
drain-short zero w = omega arith
drain-short (suc n) w = by (next_delivery w) (λ v. drain-short n v) where
  by : (next : Option Event) → ((v : World) → length (drain_events n v) ≤ n)
      → length {A = Event} (elim next [ None ↦ [] | Some e ↦ e ∷ drain_events n (step w e).world ]) ≤ suc n
  by None later = omega arith
  by (Some e) later = let less = later (step w e).world in omega (arith, less)

deliveries-short : (c : Cluster) (j : ℕ) → length (deliveries_in c j) ≤ load_of (world_in c.groups j)
deliveries-short c j = by (is_down w) where
  w : World
  w = world_in c.groups j

  by : (b : Bool) → length (ours j (if b then [] else drain_events (load_of w) w)) ≤ load_of w
  by true = omega arith
  by false = let many = ours-many j (drain_events (load_of w) w) in let short = drain-short (load_of w) w in omega (arith, many, short)

pub burden-few : (c : Cluster) (j : ℕ) → IsReadyCluster (2 ^ 59) c → j < length c.groups.worlds → burden (world_in c.groups j) ≤ 2 ^ 59
burden-few c j ready low = ready.light j (subst (λ (k : ℕ). j < k) (led-even ready.plan c ready.led).many low)

-- so few that all groups' together can be counted
pub few-deliveries : (c : Cluster) (j : ℕ) → IsReadyCluster (2 ^ 59) c → j < length c.groups.worlds → length (deliveries_in c j) ≤ 2 ^ 59
few-deliveries c j ready low =
    let light = ready.light j (subst (λ (k : ℕ). j < k) (led-even ready.plan c ready.led).many low) in
    let short = deliveries-short c j in
    omega (arith, light, short)

pub few-groups : (c : Cluster) → IsReadyCluster (2 ^ 59) c → length c.groups.worlds ≤ 16
few-groups c ready = let many = (led-even ready.plan c ready.led).many in let few = ready.led.limits.groups.1 in omega (arith, many, few)

module _ (c : Cluster) where
  -- the groups from this one on
  abbrev pub groups_from : ℕ → List ℕ
  groups_from i = range_with_len i (length c.groups.worlds - i)

  -- the groups before this one were drained
  pub record Drained (d : Cluster) (i : ℕ) (before text : List ℕ) (count : ℕ) : Type 0 where
    pub ready : IsReadyCluster (2 ^ 59) d
    pub many : length d.groups.worlds ≡ length c.groups.worlds
    pub after : cluster_after d (deliveries d (groups_from i)) ≡ cluster_after c (all_deliveries c)
    pub written : text ++ written_by d (deliveries d (groups_from i)) ≡ before ++ written_by c (all_deliveries c)
    pub counted : count + length (deliveries d (groups_from i)) ≡ length (all_deliveries c)
    pub few : count ≤ i * 2 ^ 59

  pub Drained-none : (text : List ℕ) → IsReadyCluster (2 ^ 59) c → Drained c 0 text text 0
  Drained-none text ready = record {
    ready = ready;
    many = refl;
    after = ap (λ (n : ℕ). cluster_after c (deliveries c (range_with_len 0 n))) all;
    written = ap (λ (n : ℕ). text ++ written_by c (deliveries c (range_with_len 0 n))) all;
    counted = let same = ap (λ (n : ℕ). length (deliveries c (range_with_len 0 n))) all in omega (arith, same);
    few = omega arith;
  } where
    all : length c.groups.worlds - 0 ≡ length c.groups.worlds
    all = omega arith

  next-group : (i : ℕ) → i < length c.groups.worlds → groups_from i ≡ i ∷ groups_from (i + 1)
  next-group i low = ap (range_with_len i) more where
    more : length c.groups.worlds - i ≡ suc (length c.groups.worlds - (i + 1))
    more = omega (arith, low)

  pub Drained-more : (d e : Cluster) (i : ℕ) (before text more : List ℕ) (count made : ℕ)
      → Drained d i before text count → i < length c.groups.worlds → e ≡ cluster_after d (deliveries_in d i)
      → more ≡ text ++ written_by d (deliveries_in d i) → made ≡ length (deliveries_in d i) → Drained e (i + 1) before more (count + made)
  Drained-more d e i before text more count made drained low is written many =
      subst (λ (x : Cluster). Drained x (i + 1) before more (count + made)) (sym is) (record {
        ready = still-ready (2 ^ 59) d i drained.ready there;
        many = same-many (2 ^ 59) d i drained.ready there ∙ drained.many;
        after = sym (after-append d here rest) ∙ ap (cluster_after d) (sym split) ∙ drained.after;
        written = ap (λ (xs : List ℕ). xs ++ written_by next rest) written ∙ append_assoc text (written_by d here)
            (written_by next rest) ∙ ap (λ (xs : List ℕ). text ++ xs) (sym (written-append d here rest))
            ∙ ap (λ (es : List ClusterEvent). text ++ written_by d es) (sym split) ∙ drained.written;
        counted = let same = ap length split ∙ length-append here rest in let all = drained.counted in omega (arith, same, all, many);
        few = let before = drained.few in let here = few-deliveries d i drained.ready there in omega (arith, before, here, many);
      }) where
        there : i < length d.groups.worlds
        there = let same = drained.many in omega (arith, low, same)

        here : List ClusterEvent
        here = deliveries_in d i

        next : Cluster
        next = cluster_after d here

        rest : List ClusterEvent
        rest = deliveries next (groups_from (i + 1))

        split : deliveries d (groups_from i) ≡ here ++ rest
        split = ap (deliveries d) (next-group i low)

  module _ (d : Cluster) (i : ℕ) (before text : List ℕ) (count : ℕ) (drained : Drained d i before text count) (last : length c.groups.worlds ≤ i) where
    no-groups : groups_from i ≡ []
    no-groups = ap (range_with_len i) zero_left where
      zero_left : length c.groups.worlds - i ≡ 0
      zero_left = omega (arith, last)

    pub drained-all : d ≡ cluster_after c (all_deliveries c)
    drained-all = sym (ap (λ (js : List ℕ). cluster_after d (deliveries d js)) no-groups) ∙ drained.after

    pub drained-written : text ≡ before ++ written_by c (all_deliveries c)
    drained-written = sym (append-nil text) ∙ sym (ap (λ (js : List ℕ). text ++ written_by d (deliveries d js)) no-groups) ∙ drained.written

    pub drained-counted : count ≡ length (all_deliveries c)
    drained-counted = let left = ap (λ (js : List ℕ). length (deliveries d js)) no-groups in let all = drained.counted in omega (arith, left, all)

-- what a drain writes
turns-many : (c : Cluster) (es : List ClusterEvent) → length (cluster_turns_from c es) ≡ length es
turns-many c [] = refl
turns-many c (e ∷ es) = ap suc (turns-many (cluster_step c e).cluster es)

pub drained-is : (c : Cluster) (es : List ClusterEvent) (count : ℕ) (text end whole : List ℕ) → count ≡ length es
    → text ≡ written_by c es → end ≡ codes "drained " ++ (decimal count ++ codes "\n") → whole ≡ text ++ end
    → whole ≡ drained_text (cluster_turns_from c es)
drained-is c es count text end whole many text_is end_is is =
    is ∙ ap (λ (xs : List ℕ). xs ++ end) text_is
    ∙ ap (λ (xs : List ℕ). written_by c es ++ xs) (end_is ∙ ap (λ (n : ℕ). codes "drained " ++ (decimal n ++ codes "\n")) (many ∙ sym (turns-many c es)))
