use Rattle.std.proofs.Common.{ℕ, suc, ◌≡◌, ◌+◌, ◌-◌, ◌==◌, sym, ap, ◌∙◌, arith}
use Rattle.std.proofs.lemmas.Bool.{eq-eqb, ne_eqb}
use Rattle.std.specs.List.{range_with_len}
use Rattle.group_layout.specs.Layout.{first_on}
use Rattle.group_layout.proofs.Places.{first-here, first-next}
use Rattle.group_layout.proofs.layout.process_on.Goals as goal

pub processes-preserved : goal.processes-preserved
processes-preserved c =
    let more : c.args.processes - c.processes.q ≡ suc (c.args.processes - (c.processes.q + 1)) = omega (arith, c.processes-test.true) in
    record {
      left = c.processes.invariant.left
          ∙ ap (λ (m : ℕ). first_on c.args.nodes c.args.node c.args.group (range_with_len c.processes.q m)) more
          ∙ first-next c.args.nodes c.args.node c.args.group c.processes.q (c.args.processes - (c.processes.q + 1))
          (ap (λ (x : ℕ). x == c.args.node) (sym c.node_of.ensures.node) ∙ ne_eqb c.node_of.result c.args.node c.if-node_of-node.false);
    }

pub returns-then-node_of-node-clause-process : goal.returns-then-node_of-node-clause-process
returns-then-node_of-node-clause-process c =
    let more : c.args.processes - c.processes.q ≡ suc (c.args.processes - (c.processes.q + 1)) = omega (arith, c.processes-test.true) in
    sym (c.processes.invariant.left
    ∙ ap (λ (m : ℕ). first_on c.args.nodes c.args.node c.args.group (range_with_len c.processes.q m)) more
    ∙ first-here c.args.nodes c.args.node c.args.group c.processes.q (c.args.processes - (c.processes.q + 1))
    (ap (λ (x : ℕ). x == c.args.node) (sym c.node_of.ensures.node) ∙ eq-eqb c.node_of.result c.args.node c.if-node_of-node.true))
