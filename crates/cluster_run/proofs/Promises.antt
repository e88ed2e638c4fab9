-- Every script's cluster keeps the promises of the headline.
use Rattle.std.proofs.Common.{ℕ, zero, suc, ◌≡◌, ◌<◌, List, [], ◌∷◌, ◌++◌, length, map, take, All, Option, Some, None}
use Rattle.std.proofs.Common.{Result, Ok, refl, sym, ap, subst, ◌∙◌, append_assoc}
use Rattle.group_types.specs.Dimensions.{Dimensions}
use Rattle.group_types.specs.Shape.{IsShape}
use Rattle.group_run.specs.Shown.{HoldsTruth, held, stamp_of}
use Rattle.group_layout.specs.Cluster.{Cluster, ClusterEntry, GroupTurn, IsLayout, MayAllHappen, cluster_step, cluster_turns, logged_in, tagged, world_in}
use Rattle.group_layout.specs.Legal.{IsClusterLegal}
use Rattle.group_layout.specs.Promise.{IsOwn}
use Rattle.group_layout.specs.declared.event.ClusterEvent.{ClusterEvent}
use Rattle.group_layout.proofs.Answers.{answers_are_within}
use Rattle.group_layout.proofs.Failing.{few_failures_are_borne}
use Rattle.group_layout.proofs.Happening.{clusters_are_runs}
use Rattle.group_layout.proofs.Owning.{entries_are_own}
use Rattle.group_layout.proofs.Tables.{logs_are_legal}
use Rattle.group_cluster.specs.Plan.{IsPlan, Plan}
use Rattle.law_headline.proofs.Truth.{truth_always}
use Rattle.scenario_text.specs.Meaning.{IsLineOf, line_meaning}
use Rattle.scenario_text.specs.declared.line.Line.{Line}
use Rattle.scenario_text.specs.declared.line.Line.TheVariants.{Show}
use Rattle.scenario_text.specs.declared.line.LineFault.{LineFault}
use Rattle.scenario_text.specs.Words.{split_words}
use Rattle.scenario_text.proofs.Lines.{line_of-within}
use Rattle.scenario_run.specs.Course.{Goes, turns_of_lines}
use Rattle.scenario_run.specs.Lines.{lines_of}
use Rattle.scenario_run.proofs.Beginning.{Begins, Onward, all-along, along, begins}
use Rattle.scenario_run.specs.Playing.{look}
use Rattle.scenario_run.specs.Promises.{IsTrueShow, ShowsTruth}
use Rattle.scenario_run.proofs.Running.{parts}
use Rattle.scenario_run.proofs.Truth.{shows-with, true-show}
use Rattle.cluster_run.specs.Led.{IsLedTo}
use Rattle.cluster_run.specs.Playing.{ClusterPlay, ClusterTurn, by_line, by_words, group_world, cluster_log_of, next_of, opening_of, cluster_from, then_in}
use Rattle.cluster_run.specs.Playing.{cluster_turns_from}
use Rattle.cluster_run.specs.Meaning.{failure_line, in_group}
use Rattle.cluster_run.specs.Promises.{AreTrueLines, HoldsAfter, IsTrueLine, IsTrueNamed, ScriptsKeepPromises, cluster_at_end}
use Rattle.cluster_run.specs.Script.{cluster_script_events, cluster_script_turns, plan_in}
use Rattle.cluster_run.specs.declared.fault.ClusterFault.TheVariants.{BadLine}
use Rattle.cluster_run.proofs.Leading.{Leads, laid, leads-then, led-even, led-group, led-nodes, led-on, none-leads, opened}
use Rattle.cluster_run.proofs.Meaning.{in_group-below}
use Rattle.cluster_run.proofs.Running.{line-leads, line-opens, never-ends}

-- the lines behind the one that names the groups are events that may happen
record Runs (c : Cluster) (turns : List ClusterTurn) : Type 0 where
  d : Cluster
  leads : Leads c d turns

module _ (plan : Plan) where
  none : (c : Cluster) → Runs c []
  none c = record { d = c; leads = none-leads c c refl }

  onward : (p : ClusterPlay) (line : List ℕ) (next : Option ClusterPlay) (turns : List ClusterTurn) (text : List ℕ)
      → IsLedTo plan p.cluster → next_of (Some p) line ≡ Goes next turns text
      → Onward (λ q. IsLedTo plan q.cluster) (λ q ts us. Runs q.cluster ts) p next turns text
  onward p line next turns text led is = let on = line-leads plan p line next turns text led is in record {
    state = on.play;
    is = on.is;
    ready = led-on plan p.cluster on.play.cluster turns led on.leads;
    comes = λ ts us rest. record { d = rest.d; leads = leads-then p.cluster on.play.cluster rest.d turns ts on.leads rest.leads };
  }

  runs : (p : ClusterPlay) (lines : List (List ℕ)) → IsLedTo plan p.cluster → Runs p.cluster (turns_of_lines next_of (Some p) lines)
  runs = along next_of (λ q. IsLedTo plan q.cluster) (λ q ts us. Runs q.cluster ts) (λ q. none q.cluster) onward

  -- what is shown behind the line that names the groups is true
  truth : (c : Cluster) (j : ℕ) → IsLedTo plan c → j < plan.groups → HoldsTruth (world_in c.groups j)
  truth c j led low = let own = led-group plan c j led low in subst HoldsTruth (sym own.is) (truth_always plan.shape own.events own.run)

  true-in : (p : ClusterPlay) (j : ℕ) (l : Result Line LineFault) (next : Option ClusterPlay) (turns : List ClusterTurn)
      (text : List ℕ) → IsLedTo plan p.cluster → j < plan.groups
      → ((l' : Line) → l ≡ Ok l' → IsLineOf (Some (group_world p j).shape) l') → by_line (then_in p j) l
      ≡ Goes next turns text → IsTrueShow (ShowsTruth (group_world p j)) l text
  true-in p j l next turns text led low within is = true-show (ShowsTruth (group_world p j)) l text (λ from run reads.
      (parts (Some p) next [] turns (look (group_world p j) from (held (group_world p j) from run) ++ 10 ∷ []) text
      (sym (ap (by_line (then_in p j)) reads) ∙ is)).2
      ∙ shows-with (stamp_of (group_world p j) from) (group_world p j) from run (within (Show from run) reads).0 (truth p.cluster j led low))

  true-named : (p : ClusterPlay) (line : List ℕ) (named : Option (ℕ × List ℕ)) (failure : Option ClusterEvent)
      (next : Option ClusterPlay) (turns : List ClusterTurn) (text : List ℕ) → IsLedTo plan p.cluster
      → ((x : ℕ × List ℕ) → named ≡ Some x → x.0 < plan.groups) → by_words p line named failure ≡ Goes next turns text → IsTrueNamed p named text
  true-named p line None failure next turns text led there is = tt
  true-named p line (Some x) failure next turns text led there is =
      let even = led-even plan p.cluster led in
      true-in p x.0 (line_meaning (Some p.cluster.groups.shape) x.1) next turns text led (there x refl)
      (λ l reads. subst (λ (s : Dimensions). IsLineOf (Some s) l) (even.shape ∙ sym (even.worlds x.0))
      (line_of-within (Some p.cluster.groups.shape) x.1 l reads)) is

  true-line : (p : ClusterPlay) (line : List ℕ) (next : Option ClusterPlay) (turns : List ClusterTurn) (text : List ℕ)
      → IsLedTo plan p.cluster → next_of (Some p) line ≡ Goes next turns text → IsTrueLine (Some p) line text
  true-line p line next turns text led is =
      let many = (led-even plan p.cluster led).many in
      true-named p line (in_group (length p.cluster.groups.worlds) line) (failure_line (length p.cluster.failed) (split_words line)) next turns text led
      (λ x names. subst (λ (n : ℕ). x.0 < n) many (in_group-below (length p.cluster.groups.worlds) line x names)) is

  true-lines : (p : ClusterPlay) (lines : List (List ℕ)) → IsLedTo plan p.cluster → AreTrueLines (Some p) lines
  true-lines = all-along next_of (λ q. IsLedTo plan q.cluster) (λ q ts us. Runs q.cluster ts) (λ q. none q.cluster) onward IsTrueLine true-line

-- the numbers of the opening cluster
pub opening-plan : (plan : Plan) → IsPlan plan → plan_in (Some (cluster_from plan)) ≡ Some plan
opening-plan plan limits =
    let many = (led-even plan (opening_of plan) (opened plan limits)).many in
    let nodes = led-nodes plan (opening_of plan) (opened plan limits) in
    ap (λ (n : ℕ). Some (record { groups = n; nodes = length (opening_of plan).failed; shape = plan.shape })) many
    ∙ ap (λ (n : ℕ). Some (record { groups = plan.groups; nodes = n; shape = plan.shape })) nodes

-- the first of events that may happen
may-front : (c : Cluster) (n : ℕ) (es : List ClusterEvent) → MayAllHappen c es → MayAllHappen c (take n es)
may-front c zero es may = tt
may-front c (suc n) [] may = tt
may-front c (suc n) (e ∷ es) may = (may.0, may-front (cluster_step c e).cluster n es may.1)

-- the events of turns
events-are : (c : Cluster) (es : List ClusterEvent) → map (λ turn. turn.event) (cluster_turns_from c es) ≡ es
events-are c [] = refl
events-are c (e ∷ es) = ap (λ (xs : List ClusterEvent). e ∷ xs) (events-are (cluster_step c e).cluster es)

-- what turns logged is what the groups' turns logged
pub logged-append : (ts us : List GroupTurn) → logged_in (ts ++ us) ≡ logged_in ts ++ logged_in us
logged-append [] us = refl
logged-append (t ∷ ts) us =
    ap (λ (xs : List ClusterEntry). tagged t.group t.turn.logged ++ xs) (logged-append ts us)
    ∙ sym (append_assoc (tagged t.group t.turn.logged) (logged_in ts) (logged_in us))

pub logged-all : (c : Cluster) (es : List ClusterEvent) → logged_in (cluster_turns c es) ≡ cluster_log_of (cluster_turns_from c es)
logged-all c [] = refl
logged-all c (e ∷ es) =
    logged-append (cluster_step c e).turns (cluster_turns (cluster_step c e).cluster es)
    ∙ ap (λ (xs : List ClusterEntry). logged_in (cluster_step c e).turns ++ xs) (logged-all (cluster_step c e).cluster es)

pub scripts_keep_promises : ScriptsKeepPromises
scripts_keep_promises text whole = record {
  plan = plan;
  named = ap plan_in named.named ∙ opening-plan plan named.limits;
  limits = named.limits;
  may = may;
  turns = turns;
  log = log;
  holds = holds;
  legal = subst (IsClusterLegal plan.shape.k) log (logs_are_legal plan.shape plan.nodes plan.groups (cluster_script_events text) limits layout may);
  own = subst (All (IsOwn plan.shape.k plan.groups)) log (entries_are_own plan.shape plan.nodes plan.groups (cluster_script_events text) limits layout may);
  within = answers_are_within plan.shape plan.nodes plan.groups (cluster_script_events text) limits layout may;
  shown = named.all IsTrueLine (λ line text. tt) (true-lines plan (cluster_from plan) named.rest (opened plan named.limits));
} where
  named : Begins next_of IsPlan cluster_from (lines_of text)
  named = begins next_of BadLine IsPlan cluster_from line-opens never-ends 1 (lines_of text) whole

  plan : Plan
  plan = named.start

  limits : IsShape plan.shape
  limits = named.limits.shape

  layout : IsLayout plan.shape plan.nodes plan.groups
  layout = laid plan named.limits

  ran : Runs (opening_of plan) (cluster_script_turns text)
  ran = subst (Runs (opening_of plan)) (sym named.turns) (runs plan (cluster_from plan) named.rest (opened plan named.limits))

  leads : Leads (opening_of plan) ran.d (cluster_script_turns text)
  leads = ran.leads

  same : leads.events ≡ cluster_script_events text
  same = sym (events-are (opening_of plan) leads.events) ∙ ap (λ (ts : List ClusterTurn). map (λ turn. turn.event) ts) leads.turns_are

  may : MayAllHappen (opening_of plan) (cluster_script_events text)
  may = subst (MayAllHappen (opening_of plan)) same leads.may

  turns : cluster_turns_from (opening_of plan) (cluster_script_events text) ≡ cluster_script_turns text
  turns = ap (cluster_turns_from (opening_of plan)) (sym same) ∙ leads.turns_are

  log : (cluster_at_end plan (cluster_script_events text)).groups.log ≡ cluster_log_of (cluster_script_turns text)
  log = (clusters_are_runs plan.shape plan.nodes plan.groups (cluster_script_events text) limits layout may).log
      ∙ logged-all (opening_of plan) (cluster_script_events text) ∙ ap cluster_log_of turns

  holds : (n : ℕ) → HoldsAfter plan (take n (cluster_script_events text))
  holds n =
      let front = may-front (opening_of plan) n (cluster_script_events text) may in
      record {
        runs = clusters_are_runs plan.shape plan.nodes plan.groups (take n (cluster_script_events text)) limits layout front;
        borne = few_failures_are_borne plan.shape plan.nodes plan.groups (take n (cluster_script_events text)) limits layout front;
      }
