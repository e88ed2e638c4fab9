use Rattle.std.proofs.Common.{◌<◌, None, Some, Option, List, replicate, ap, sym, subst, ◌∙◌, arith}
use Rattle.std.proofs.lemmas.List.{length-replicate}
use Rattle.std.specs.Prelude.{set}
use Rattle.group_types.specs.Lists.{put}
use Rattle.group_types.proofs.Lists.{set_put}
use Rattle.group_types.specs.Names.{IsProcess}
use Rattle.group_run.specs.Process.{Head, heads_at_start}
use Rattle.process_service.proofs.service.heads.Goals as goal

pub returns-in_ok-head-in-DataNode : goal.returns-in_ok-head-in-DataNode
returns-in_ok-head-in-DataNode c =
    let nobody : Option Head = None in
    let below : c.in-DataNode.d < c.args.shape.k = subst (IsProcess c.args.shape) c.in-DataNode.is c.requires in
    ap (λ (xs : List (Option Head)). set xs c.in-DataNode.d (Some c.in_ok-head-in-DataNode.head))
    (c.in_ok-heads.ensures ∙ ap (λ n. replicate n None) c.k.ensures.value)
    ∙ set_put None (replicate c.args.shape.k None) c.in-DataNode.d (Some c.in_ok-head-in-DataNode.head)
    (omega (arith, below, length-replicate c.args.shape.k nobody))
    ∙ ap (λ (h : Head). put None (replicate c.args.shape.k None) c.in-DataNode.d (Some h)) c.in_ok-head-in-DataNode.ensures
    ∙ sym (ap (heads_at_start c.args.shape) c.in-DataNode.is)
