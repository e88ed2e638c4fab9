use Rattle.std.proofs.Common.{ℕ, ◌≡◌, ◌++◌, [], ◌∷◌, ◌+◌, ◌-◌, List, length, map, ap, sym, subst, ◌∙◌}
use Rattle.std.proofs.lemmas.List.{length-append}
use Rattle.std.proofs.lemmas.List.Elements.{All-push}
use Rattle.std.specs.List.{range_with_len}
use Rattle.group_types.specs.Names.{process_at}
use Rattle.group_run.specs.Process.{Node}
use Rattle.group_run.specs.World.{opening_node}
use Rattle.group_node.specs.Standing.{NodeStanding}
use Rattle.group_core.specs.Seats.{AreNodesOf, nodes_of}
use Rattle.group_core.proofs.Told.{next-made}
use Rattle.group_core.proofs.members.nodes_at_start.Goals as goal

pub processes-preserved : goal.processes-preserved
processes-preserved c =
    let f : ℕ → Node = λ x. opening_node c.args.shape (process_at c.args.shape x) in
    let items : List NodeStanding = c.processes.nodes.items in
    let x : ℕ = c.processes.x in
    let new : NodeStanding = c.in_ok-new.field-0 in
    let pushed : c.push.new.self.items ≡ items ++ new ∷ [] = c.in_ok-push.ensures.items in
    let made : new.node ≡ f x = ap (λ (z : NodeStanding). z.node) c.in_ok-new.ensures ∙ ap (opening_node c.args.shape) c.process_at.ensures.name in
    record {
      all = ap (λ (xs : List NodeStanding). nodes_of xs ++ map f (range_with_len (x + 1) (c.args.count - (x + 1)))) pushed
          ∙ next-made f items new x c.args.count _ c.processes-test.true c.processes.invariant.all made;
      shapes = subst (AreNodesOf c.args.shape) (sym pushed)
          (All-push (λ z. z.shape ≡ c.args.shape) items new c.processes.invariant.shapes
          (ap (λ (z : NodeStanding). z.shape) c.in_ok-new.ensures));
      many = ap length pushed ∙ length-append items (new ∷ []) ∙ ap (λ (n : ℕ). n + 1) c.processes.invariant.many;
    }
