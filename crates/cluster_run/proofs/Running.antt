-- The turns of a script of several groups are those of events that may happen.
use Rattle.std.proofs.Common.{ℕ, ◌≡◌, ◌<◌, ◌≤◌, ◌+◌, inl, inr, Bool, true, false, nat_lt, List, [], ◌∷◌, length, Option}
use Rattle.std.proofs.Common.{Some, None, Result, Ok, Err, if◌then◌else◌, refl, sym, ap, subst, ◌∙◌, arith}
use Rattle.std.proofs.lemmas.Bool.Decides.{nat_tests}
use Rattle.group_types.specs.Dimensions.{Dimensions}
use Rattle.group_types.specs.Lists.{at}
use Rattle.group_calls.specs.declared.event.Event.{Event}
use Rattle.group_calls.specs.declared.event.Event.TheVariants as happens
use Rattle.group_run.specs.Headline.{MayCome}
use Rattle.group_run.specs.Causes.{IsFailure}
use Rattle.group_layout.specs.Cluster.{Cluster, MayHappen, cluster_after, cluster_step, world_in}
use Rattle.group_layout.specs.declared.event.ClusterEvent.{ClusterEvent}
use Rattle.group_layout.specs.declared.event.ClusterEvent.TheVariants.{InGroup}
use Rattle.group_cluster.specs.Plan.{IsPlan, Plan}
use Rattle.scenario_text.specs.Meaning.{IsLineOf, is_skipped, line_meaning}
use Rattle.scenario_text.specs.Words.{split_words}
use Rattle.scenario_text.specs.declared.line.Line.{Line}
use Rattle.scenario_text.specs.declared.line.Line.TheVariants.{Skipped, Ask, Collect, Deliver, Flush, Trace, Drain, Show, Time}
use Rattle.scenario_text.specs.declared.line.LineFault.{LineFault}
use Rattle.scenario_text.proofs.Lines.{line_of-within}
use Rattle.scenario_run.specs.Course.{Ends, Goes, Refused}
use Rattle.scenario_run.proofs.Beginning as beginning
use Rattle.scenario_run.proofs.Draining.{burden}
use Rattle.scenario_run.proofs.Running.{parts}
use Rattle.cluster_run.specs.Meaning.{failure_line, groups_line, in_group}
use Rattle.cluster_run.specs.Led.{IsLedTo}
use Rattle.cluster_run.specs.Playing.{ClusterPlay, ClusterTurn, all_deliveries, by_event, by_line, by_plan, by_trace}
use Rattle.cluster_run.specs.Playing.{by_words, drained_text, group_world, next_of, quietly, cluster_from, then_by, then_in}
use Rattle.cluster_run.specs.Playing.{cluster_turn, turn_text, cluster_turns_from}
use Rattle.cluster_run.specs.declared.fault.ClusterFault.{ClusterFault}
use Rattle.cluster_run.specs.declared.fault.ClusterFault.TheVariants.{BadLine}
use Rattle.cluster_run.proofs.Draining.{all-drained}
use Rattle.cluster_run.proofs.Leading.{Leads, led-even, led-group, none-leads, one-leads}
use Rattle.cluster_run.proofs.Lightening.{event-adds, most_added}
use Rattle.cluster_run.proofs.Meaning.{failure-below, groups-within, in_group-below}

-- what a line made goes on from there
pub record GoesOn (plan : Plan) (c : Cluster) (next : Option ClusterPlay) (turns : List ClusterTurn) : Type 0 where
  pub play : ClusterPlay
  pub is : next ≡ Some play
  pub leads : Leads c play.cluster turns
  pub light : (j : ℕ) → j < plan.groups → burden (world_in play.cluster.groups j) ≤ burden (world_in c.groups j) + most_added

module _ (plan : Plan) where
  -- the cluster stays
  stays : (p q : ClusterPlay) (next : Option ClusterPlay) (turns : List ClusterTurn) (text : List ℕ)
      → p.cluster ≡ q.cluster → quietly (Some q) ≡ Goes next turns text → GoesOn plan p.cluster next turns
  stays p q next turns text same is =
      let both = parts (Some q) next [] turns [] text is in
      record {
        play = q;
        is = both.0;
        leads = subst (Leads p.cluster q.cluster) (sym both.1) (none-leads p.cluster q.cluster same);
        light = λ j low. (let still = ap (λ (c : Cluster). burden (world_in c.groups j)) same in omega (arith, still));
      }

  -- an event that may happen leads on
  comes : (p : ClusterPlay) (e : ClusterEvent) (next : Option ClusterPlay) (turns : List ClusterTurn) (text : List ℕ)
      → IsLedTo plan p.cluster → MayHappen p.cluster e → by_event p e ≡ Goes next turns text
      → GoesOn plan p.cluster next turns
  comes p e next turns text led may is =
      let q : ClusterPlay = record { cluster = (cluster_step p.cluster e).cluster; moment = p.moment } in
      let both = parts (Some q) next (cluster_turn p.cluster e ∷ []) turns (turn_text (cluster_turn p.cluster e)) text is in
      record {
        play = q;
        is = both.0;
        leads = subst (Leads p.cluster q.cluster) (sym both.1) (one-leads p.cluster e may);
        light = λ j low. event-adds plan.shape plan.groups p.cluster e j (led-even plan p.cluster led)
            led.limits.groups.1 (led-group plan p.cluster j led low) may;
      }

  -- an event of a group
  own : (p : ClusterPlay) (j : ℕ) (e : Event) → IsLedTo plan p.cluster → j < plan.groups → MayCome (group_world p j) e
      → ¬ (IsFailure e) → MayHappen p.cluster (InGroup j e)
  own p j e led low may never = ((subst (λ (n : ℕ). j < n) (sym (led-even plan p.cluster led).many) low, may), never)

  traces : (p : ClusterPlay) (j caller call : ℕ) (e : Event) (next : Option ClusterPlay) (turns : List ClusterTurn) (text : List ℕ) → IsLedTo plan p.cluster
      → (call < at 0 (group_world p j).asked caller → MayHappen p.cluster (InGroup j e)) → by_trace p j caller call e
      ≡ Goes next turns text → GoesOn plan p.cluster next turns
  traces p j caller call e next turns text led may is = by (nat_lt call (at 0 (group_world p j).asked caller)) refl is where
    by : (b : Bool) → nat_lt call (at 0 (group_world p j).asked caller) ≡ b
        → (if b then by_event p (InGroup j e) else Refused BadLine) ≡ Goes next turns text
        → GoesOn plan p.cluster next turns
    by true less goes = comes p (InGroup j e) next turns text led (may (grind (arith, nat_tests))) goes
    by false less goes = absurd (cc goes)

  -- a line of a group
  in-leads : (p : ClusterPlay) (j : ℕ) (l : Line) (next : Option ClusterPlay) (turns : List ClusterTurn) (text : List ℕ)
      → IsLedTo plan p.cluster → j < plan.groups → IsLineOf (Some (group_world p j).shape) l
      → then_in p j l ≡ Goes next turns text → GoesOn plan p.cluster next turns
  in-leads p j (Ask caller from act) next turns text led low within is =
      let e : Event = happens.Ask caller (record { moment = p.moment; act = act }) from in
      comes p (InGroup j e) next turns text led (own p j e led low within (λ x. x)) is
  in-leads p j (Collect caller call from) next turns text led low within is = let e : Event =
      happens.Collect caller call from in comes p (InGroup j e) next turns text led (own p j e led low within (λ x. x))
      is
  in-leads p j (Deliver from to) next turns text led low within is = let e : Event = happens.Deliver from to in
      comes p (InGroup j e) next turns text led (own p j e led low within (λ x. x)) is
  in-leads p j (Flush from) next turns text led low within is = let e : Event = happens.Flush from in
      comes p (InGroup j e) next turns text led (own p j e led low within (λ x. x)) is
  in-leads p j (Trace caller call d from) next turns text led low within is =
      let e : Event = happens.Trace caller call d from in
      traces p j caller call e next turns text led (λ less. own p j e led low (within.0, less, within.1, within.2) (λ x. x)) is
  in-leads p j (Show from run) next turns text led low within is = record {
    play = p;
    is = cc;
    leads = let none : [] ≡ turns = cc (is) in subst (Leads p.cluster p.cluster) none (none-leads p.cluster p.cluster refl);
    light = λ i there. omega arith;
  }
  in-leads p j l next turns text led low within is = absurd (cc is)

  -- a line that names no group
  then-leads : (p : ClusterPlay) (l : Line) (next : Option ClusterPlay) (turns : List ClusterTurn) (text : List ℕ)
      → IsLedTo plan p.cluster → then_by p l ≡ Goes next turns text → GoesOn plan p.cluster next turns
  then-leads p Skipped next turns text led is = stays p p next turns text refl is
  then-leads p (Time moment) next turns text led is = stays p (record { cluster = p.cluster; moment = moment }) next turns text refl is
  then-leads p Drain next turns text led is =
      let es : List ClusterEvent = all_deliveries p.cluster in
      let drains = all-drained plan p.cluster led in
      let q : ClusterPlay = record { cluster = cluster_after p.cluster es; moment = p.moment } in
      let both = parts (Some q) next (cluster_turns_from p.cluster es) turns (drained_text (cluster_turns_from p.cluster es)) text is in
      record {
        play = q;
        is = both.0;
        leads = record { events = es; may = drains.may; turns_are = sym both.1; to = refl };
        light = λ j low. (let less = drains.light j in omega (arith, less));
      }
  then-leads p l next turns text led is = absurd (cc is)

  -- a line that is read so
  line-in : (p : ClusterPlay) (j : ℕ) (l : Result Line LineFault) (next : Option ClusterPlay) (turns : List ClusterTurn)
      (text : List ℕ) → IsLedTo plan p.cluster → j < plan.groups
      → ((l' : Line) → l ≡ Ok l' → IsLineOf (Some p.cluster.groups.shape) l') → by_line (then_in p j) l
      ≡ Goes next turns text → GoesOn plan p.cluster next turns
  line-in p j (Err fault) next turns text led low within is = absurd (cc is)
  line-in p j (Ok l) next turns text led low within is =
      let even = led-even plan p.cluster led in
      in-leads p j l next turns text led low (subst (λ (s : Dimensions). IsLineOf (Some s) l) (even.shape ∙ sym (even.worlds j)) (within l refl)) is

  line-by : (p : ClusterPlay) (l : Result Line LineFault) (next : Option ClusterPlay) (turns : List ClusterTurn)
      (text : List ℕ) → IsLedTo plan p.cluster → by_line (then_by p) l ≡ Goes next turns text
      → GoesOn plan p.cluster next turns
  line-by p (Err fault) next turns text led is = absurd (cc is)
  line-by p (Ok l) next turns text led is = then-leads p l next turns text led is

  -- the words of a line
  words-lead : (p : ClusterPlay) (line : List ℕ) (named : Option (ℕ × List ℕ)) (failure : Option ClusterEvent)
      (next : Option ClusterPlay) (turns : List ClusterTurn) (text : List ℕ) → IsLedTo plan p.cluster
      → ((x : ℕ × List ℕ) → named ≡ Some x → x.0 < plan.groups)
      → ((e : ClusterEvent) → failure ≡ Some e → MayHappen p.cluster e) → by_words p line named failure
      ≡ Goes next turns text → GoesOn plan p.cluster next turns
  words-lead p line (Some x) failure next turns text led there may is =
      line-in p x.0 (line_meaning (Some p.cluster.groups.shape) x.1) next turns text led (there x refl)
      (λ l reads. line_of-within (Some p.cluster.groups.shape) x.1 l reads) is
  words-lead p line None (Some e) next turns text led there may is = comes p e next turns text led (may e refl) is
  words-lead p line None None next turns text led there may is = line-by p (line_meaning (Some p.cluster.groups.shape) line) next turns text led is

  pub line-leads : (p : ClusterPlay) (line : List ℕ) (next : Option ClusterPlay) (turns : List ClusterTurn) (text : List ℕ) → IsLedTo plan p.cluster
      → next_of (Some p) line ≡ Goes next turns text → GoesOn plan p.cluster next turns
  line-leads p line next turns text led is =
      let many = (led-even plan p.cluster led).many in
      words-lead p line (in_group (length p.cluster.groups.worlds) line) (failure_line (length p.cluster.failed) (split_words line)) next turns text led
      (λ x names. subst (λ (n : ℕ). x.0 < n) many (in_group-below (length p.cluster.groups.worlds) line x names))
      (λ e fails. failure-below p.cluster (split_words line) e fails) is

-- the line that names the groups, or a line before it
abbrev pub Opens : Option ClusterPlay → List ClusterTurn → List ℕ → Type 0
Opens next turns text = beginning.Opens IsPlan cluster_from next turns text

plan-opens : (r : Result Plan ClusterFault) (next : Option ClusterPlay) (turns : List ClusterTurn) (text : List ℕ)
    → ((plan : Plan) → r ≡ Ok plan → IsPlan plan) → by_plan r ≡ Goes next turns text → Opens next turns text
plan-opens (Err fault) next turns text within is = absurd (cc is)
plan-opens (Ok plan) next turns text within is =
    let both = parts (Some (cluster_from plan)) next [] turns [] text is in
    record { quiet = both.1; silent = both.2; is = inr (plan, within plan refl, both.0) }

pub line-opens : (line : List ℕ) (next : Option ClusterPlay) (turns : List ClusterTurn) (text : List ℕ)
    → next_of None line ≡ Goes next turns text → Opens next turns text
line-opens line next turns text is = by (is_skipped line) is where
  by : (b : Bool) → (if b then quietly None else by_plan (groups_line (split_words line))) ≡ Goes next turns text → Opens next turns text
  by true goes = let both = parts None next [] turns [] text goes in record { quiet = both.1; silent = both.2; is = inl both.0 }
  by false goes = plan-opens (groups_line (split_words line)) next turns text (groups-within (split_words line)) goes

-- before the groups are named no line is the last
pub never-ends : (line : List ℕ) → next_of None line ≡ Ends → ⊥
never-ends line is = by (is_skipped line) (groups_line (split_words line)) is where
  by : (b : Bool) (r : Result Plan ClusterFault) → (if b then quietly None else by_plan r) ≡ Ends → ⊥
  by true r is = cc is
  by false (Ok plan) is = cc is
  by false (Err fault) is = cc is
