use Rattle.std.proofs.Common.{◌≡◌, ◌+◌, ◌<◌, List, [], ◌∷◌, ◌++◌, None, sym, ap, subst, ◌∙◌, arith}
use Rattle.std.specs.Prelude.{Option}
use Rattle.group_types.specs.Dimensions.{processes_of}
use Rattle.group_run.specs.World.{opening_node}
use Rattle.group_node.specs.Standing.{NodeStanding}
use Rattle.group_stage.specs.Schedules.{standing_at}
use Rattle.group_run.specs.Process.{Node}
use Rattle.group_stage.specs.Opened.{AreLaid}
use Rattle.group_stage.proofs.Dealing.{laid-more, stands-at-start}
use Rattle.group_stage.proofs.opening.lay_nodes.Goals as goal

pub processes-preserved : goal.processes-preserved
processes-preserved c =
    let low : c.processes.x < processes_of c.args.shape = (let k = c.k.ensures.value in let m = c.m.ensures.value in
    let t = c.processes-test.true in omega (arith, k, m, t)) in
    let name = ap (opening_node c.args.shape) c.process_at.ensures.name in
    let y : NodeStanding = c.in_ok-new.field-0 in
    let node : y ≡ standing_at c.args.shape [] c.processes.x = c.in_ok-new.ensures
    ∙ ap (λ (n : Node). record { shape = c.args.shape; node = n }) name ∙ stands-at-start c.args.shape c.processes.x
    low in
    subst (AreLaid c.args.shape (c.processes.x + 1))
    (sym (c.in_ok-push-2.ensures.items ∙ ap (λ (l : List (Option NodeStanding)). l ++ None ∷ [])
    c.in_ok-push.ensures.items))
    (laid-more c.args.shape c.processes.x c.processes.slots.items y c.processes.invariant node)
