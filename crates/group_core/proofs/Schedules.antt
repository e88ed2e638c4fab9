-- A group after a schedule, and what one event more leaves as it is.
use Rattle.std.proofs.Common.{ℕ, ◌≡◌, ◌<◌, ◌≤◌, ◌+◌, List, [], ◌∷◌, ◌++◌, length, refl, sym, ap, subst, ◌∙◌, arith}
use Rattle.group_types.specs.Dimensions.{Dimensions}
use Rattle.group_types.specs.Lists.{at}
use Rattle.group_types.specs.Names.{IsProcess, index_of, process_at}
use Rattle.group_types.specs.declared.process.ProcessId.{ProcessId}
use Rattle.group_types.proofs.Names.{process_at-index}
use Rattle.group_calls.specs.declared.event.Event.{Event}
use Rattle.group_run.specs.Headline.{IsRun}
use Rattle.group_run.specs.History.{History, history_of, no_history}
use Rattle.group_run.specs.Locality.{occurrences}
use Rattle.group_run.specs.Process.{Node}
use Rattle.group_run.specs.World.{World, after, group_step, names, node_in, opening, opening_node, process_node, step, world_after}
use Rattle.group_run.proofs.Locality.{others_stay}
use Rattle.law_moves.proofs.Events.{FramedHistory}
use Rattle.law_moves.proofs.Runs.{framed-from, framed-opening, world-from}
use Rattle.law_answers.proofs.Entries.{after-more}
use Rattle.group_core.specs.Runs.{HasRun}
use Rattle.group_core.specs.Schedules.{naming, node_after_schedule}

shape-after : (w : World) (es : List Event) → (world_after w es).shape ≡ w.shape
shape-after w [] = refl
shape-after w (e ∷ es) = shape-after (step w e).world es

-- the shape stays
pub shape-is : (s : Dimensions) (es : List Event) → (after s es).shape ≡ s
shape-is s es = shape-after (opening s) es

-- a run leads to its group
pub has-run : (s : Dimensions) (es : List Event) → IsRun s es → HasRun (after s es)
has-run s es run = record {
  events = es;
  run = subst (λ (t : Dimensions). IsRun t es) (sym (shape-is s es)) run;
  is = ap (λ (t : Dimensions). after t es) (sym (shape-is s es));
}

-- each process has a node
pub many-after : (s : Dimensions) (es : List Event) → IsRun s es → length (after s es).nodes ≡ s.k + s.m
many-after s es run =
    let framed : FramedHistory (history_of s es) = framed-from (no_history s) es (framed-opening s) run.1 in
    let same : (history_of s es).world ≡ after s es = world-from (no_history s) es in
    sym (ap (λ (w : World). length w.nodes) same) ∙ framed.nodes_many
    ∙ ap (λ (w : World). w.shape.k + w.shape.m) same ∙ ap (λ (t : Dimensions). t.k + t.m) (shape-is s es)

-- the node at the index of a process is the node of the process
pub node-is : (s : Dimensions) (es : List Event) (p : ProcessId) → IsProcess s p → node_after_schedule s es (index_of s p) ≡ process_node (after s es) p
node-is s es p pin =
    ap (λ (q : ProcessId). at (opening_node s q) (after s es).nodes (index_of s p)) (process_at-index s p pin)
    ∙ ap (λ (t : Dimensions). node_in t (after s es).nodes p) (sym (shape-is s es))

-- an event leaves each node that it doesn't name as it is
pub stays : (s : Dimensions) (es : List Event) (e : Event) (x : ℕ) → IsRun s es → x < s.k + s.m → naming s e x ≡ 0
    → node_after_schedule s (es ++ e ∷ []) x ≡ node_after_schedule s es x
stays s es e x run below none =
    let w : World = after s es in
    let d : Node = opening_node s (process_at s x) in
    let shape : w.shape ≡ s = shape-is s es in
    let many : length w.nodes ≡ s.k + s.m = many-after s es run in
    let unnamed : occurrences x (names w.shape e) ≡ 0 = subst (λ (t : Dimensions). occurrences x (names t e) ≡ 0) (sym shape) none in
    let wide : length w.nodes ≤ w.shape.k + w.shape.m = subst (λ (t : Dimensions). length w.nodes ≤ t.k + t.m) (sym shape) (omega (arith, many)) in
    ap (λ (v : World). at d v.nodes x) (after-more (opening s) es e)
    ∙ others_stay w e x d wide (omega (arith, many, below)) unnamed
