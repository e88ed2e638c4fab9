-- What an event of a cluster logged stands last in its group's log.
use Rattle.std.specs.declared.alloc.Global.{Global}
use Rattle.std.proofs.Common.{IfOk, Vec, Result, Ok, Err, ℕ, suc, ◌≡◌, ◌+◌, ◌-◌, ◌≤◌, Bool, true, false, List, [], ◌∷◌}
use Rattle.std.proofs.Common.{◌++◌, length, drop, Option, Some, None, if◌then◌else◌, refl, sym, ap, ◌∙◌, append_assoc}
use Rattle.std.proofs.Common.{append-nil, arith}
use Rattle.std.specs.List.{range_with_len}
use Rattle.group_types.specs.Dimensions.{Dimensions}
use Rattle.group_types.specs.Lists.{at}
use Rattle.group_types.specs.Names.{process_at}
use Rattle.group_types.specs.declared.process.ProcessId.{ProcessId}
use Rattle.group_calls.specs.declared.entry.Entry.{Entry}
use Rattle.group_calls.specs.declared.event.Event.{Event}
use Rattle.group_calls.specs.declared.event.Event.TheVariants.{Fail}
use Rattle.group_run.specs.World.{Ledger, Ticket, World, all_change, ledger_after, ledger_with, new_ones, process_node, settled_in, step}
use Rattle.law_moves.proofs.Reading.{grown-is}
use Rattle.group_layout.specs.Cluster.{Cluster, ClusterEntry, Groups, Move, all_moved, cluster_step, failure_of}
use Rattle.group_layout.specs.Cluster.{failures, logged_in, move_unless, moved, node_failure, other_group, tagged}
use Rattle.group_layout.specs.Cluster.{turns_made, world_in}
use Rattle.group_layout.specs.Layout.{process_on}
use Rattle.group_layout.specs.declared.event.ClusterEvent.{ClusterEvent}
use Rattle.group_layout.specs.declared.event.ClusterAnswer.{ClusterAnswer}
use Rattle.group_layout.specs.declared.event.ClusterEvent.TheVariants.{FailNode, InGroup}
use Rattle.group_layout.proofs.Happening.{turns-append}
use Rattle.group_layout.proofs.Moves.{own-world}
use Rattle.group_cluster.specs.History.{logged_by}
use Rattle.scenario_run.specs.Marks.{marked, marked_entries}
use Rattle.scenario_play.proofs.Delivering.{last-few, last-logged}
use Rattle.cluster_run.proofs.Promises.{logged-append}
use Rattle.cluster_run.specs.Playing.{cluster_turn, turn_text}
use Rattle.cluster_run.specs.Texts.{cluster_answer_text, cluster_entries_text, group_mark}

-- the entries of one group
pub tagged-text : (j : ℕ) (es : List Entry) → cluster_entries_text (tagged j es ++ []) ≡ marked_entries (group_mark j) es
tagged-text j [] = refl
tagged-text j (e ∷ es) = ap (λ (xs : List ℕ). marked (group_mark j) e ++ 10 ∷ xs) (tagged-text j es)

tagged-many : (j : ℕ) (es : List Entry) → length (tagged j es ++ []) ≡ length es
tagged-many j [] = refl
tagged-many j (e ∷ es) = ap suc (tagged-many j es)

drop-all : {X : Type 0} (xs : List X) → drop (length xs) xs ≡ []
drop-all [] = refl
drop-all (x ∷ xs) = drop-all xs

-- what an event of a group leaves at the end of the group's log
pub record Last (c : Cluster) (j : ℕ) (e : Event) (log : List Entry) (n : ℕ) : Type 0 where
  pub few : n ≤ length log
  pub text : marked_entries (group_mark j) (drop (length log - n) log) ≡ cluster_entries_text (logged_in (cluster_step c (InGroup j e)).turns)

module _ (g : Groups) (j : ℕ) (e : Event) where
  abbrev m : Move
  m = record { group = j; event = e }

  abbrev after : Option ℕ → Groups
  after o = all_moved g (move_unless o m)

  abbrev logged : Option ℕ → List ClusterEntry
  logged o = logged_in (turns_made g (move_unless o m))

  abbrev EndsAs : Option ℕ → Type 0
  EndsAs o = (length (logged o) ≤ length (world_in (after o) j).log)
      × (marked_entries (group_mark j) (drop (length (world_in (after o) j).log - length (logged o))
      (world_in (after o) j).log) ≡ cluster_entries_text (logged o))

  ends : (o : Option ℕ) → EndsAs o
  ends (Some own) = (
    omega arith,
    ap (λ (k : ℕ). marked_entries (group_mark j) (drop k (world_in g j).log)) none
        ∙ ap (marked_entries (group_mark j)) (drop-all (world_in g j).log),
  ) where
    none : length (world_in g j).log - 0 ≡ length (world_in g j).log
    none = omega arith
  ends None =
      let w : World = world_in g j in
      let own : (world_in (moved g m) j).log ≡ (step w e).world.log = ap (λ (v : World). v.log) (own-world g m j refl) in
      let many : length (logged None) ≡ length (step w e).turn.logged = tagged-many j (step w e).turn.logged in
      let few = last-few w e in
      let long = ap length own in
      let last = ap (λ (xs : List Entry). drop (length xs - length (logged None)) xs) own
      ∙ ap (λ (k : ℕ). drop (length (step w e).world.log - k) (step w e).world.log) many ∙ last-logged w e in
      (omega (arith, few, long, many), ap (marked_entries (group_mark j)) last ∙ sym (tagged-text j (step w e).turn.logged))

pub last-in : (c : Cluster) (j : ℕ) (e : Event) (d : Cluster) (log : List Entry) (n : ℕ)
    → d ≡ (cluster_step c (InGroup j e)).cluster → log ≡ (world_in d.groups j).log
    → n ≡ logged_by (cluster_step c (InGroup j e)) → Last c j e log n
last-in c j e d log n is same count = record {
  few = let both = ap length whole in let low = made.0 in omega (arith, both, low, count);
  text = ap (λ (xs : List Entry). marked_entries (group_mark j) (drop (length xs - n) xs)) whole
      ∙ ap (λ (k : ℕ). marked_entries (group_mark j)
      (drop (length (world_in (cluster_step c (InGroup j e)).cluster.groups j).log - k)
      (world_in (cluster_step c (InGroup j e)).cluster.groups j).log)) count
      ∙ made.1;
} where
  made : EndsAs c.groups j e (other_group c.groups j e)
  made = ends c.groups j e (other_group c.groups j e)

  whole : log ≡ (world_in (cluster_step c (InGroup j e)).cluster.groups j).log
  whole = same ∙ ap (λ (x : Cluster). (world_in x.groups j).log) is

-- where nothing is settled nothing is logged
quiet : (tickets : List Ticket) (ds : List ℕ) (ledger : Ledger) → ledger.logged ≡ [] → (ledger_after tickets [] ds ledger).logged ≡ []
quiet tickets [] ledger is = is
quiet tickets (d ∷ ds) ledger is =
    quiet tickets ds (ledger_with tickets d (new_ones (length (at [] ledger.places d)) (settled_in d [])) ledger)
    (grown-is ledger.logged [] ∙ append-nil ledger.logged ∙ is)

-- a failure logs nothing
fail-logs : (w : World) (p : ProcessId) (keep : ℕ) → (step w (Fail p keep)).turn.logged ≡ []
fail-logs w p keep = by (process_node w p).dead where
  start : Ledger
  start = record { logged = []; places = w.places }

  by : (b : Bool) → (ledger_after w.tickets (all_change b w.shape w.nodes p keep).settled (range_with_len 0 w.shape.k) start).logged ≡ []
  by true = quiet w.tickets (range_with_len 0 w.shape.k) start refl
  by false = quiet w.tickets (range_with_len 0 w.shape.k) start refl

failure-logs : (g : Groups) (s : Dimensions) (keep j : ℕ) (q : Option ℕ) → logged_in (turns_made g (failure_of s keep j q)) ≡ []
failure-logs g s keep j None = refl
failure-logs g s keep j (Some q) = ap (λ (es : List Entry). tagged j es ++ []) (fail-logs (world_in g j) (process_at s q) keep)

failures-log : (g : Groups) (s : Dimensions) (n node keep : ℕ) (js : List ℕ) → logged_in (turns_made g (failures s n node keep js)) ≡ []
failures-log g s n node keep [] = refl
failures-log g s n node keep (j ∷ js) =
    let here : List Move = failure_of s keep j (process_on n (s.k + s.m) node j) in
    let rest : List Move = failures s n node keep js in
    ap logged_in (turns-append g here rest) ∙ logged-append (turns_made g here) (turns_made (all_moved g here) rest)
    ∙ ap (λ (xs : List ClusterEntry). xs ++ logged_in (turns_made (all_moved g here) rest)) (failure-logs g s keep j (process_on n (s.k + s.m) node j))
    ∙ failures-log (all_moved g here) s n node keep js

pub fail-silent : (c : Cluster) (node keep : ℕ) → logged_in (cluster_step c (FailNode node keep)).turns ≡ []
fail-silent c node keep = by (at false c.failed node) where
  by : (b : Bool) → logged_in (turns_made c.groups (if b then [] else node_failure c node keep)) ≡ []
  by true = refl
  by false = failures-log c.groups c.groups.shape (length c.failed) node keep (range_with_len 0 (length c.groups.worlds))

-- the answer on a line, and what the event logged
pub turn-written : (c : Cluster) (e : ClusterEvent) (answer : ClusterAnswer) (front line entries text : List ℕ)
    → front ≡ cluster_answer_text answer → answer ≡ (cluster_step c e).answer → line ≡ front ++ 10 ∷ []
    → text ≡ line ++ entries → entries ≡ cluster_entries_text (logged_in (cluster_step c e).turns) → text ≡ turn_text (cluster_turn c e)
turn-written c e answer front line entries text front_is answer_is line_is text_is entries_is =
    text_is ∙ ap (λ (xs : List ℕ). xs ++ entries) line_is ∙ append_assoc front (10 ∷ []) entries
    ∙ ap (λ (xs : List ℕ). xs ++ 10 ∷ entries) (front_is ∙ ap cluster_answer_text answer_is)
    ∙ ap (λ (xs : List ℕ). cluster_answer_text (cluster_step c e).answer ++ 10 ∷ xs) entries_is

-- a text that was written is the one that was to be
pub line-is : {E : Type 0} (result : Result (Vec ℕ Global) E) (line wanted : List ℕ)
    → IfOk result (λ text. text.items ≡ line) → line ≡ wanted → IfOk result (λ text. text.items ≡ wanted)
line-is (Ok text) line wanted is same = is ∙ same
line-is (Err e) line wanted is same = tt
