use Rattle.std.proofs.Common.{◌≡◌, ℕ, List, [], ap, ◌∙◌}
use Rattle.std.specs.Prelude.{count_by}
use Rattle.group_types.specs.Dimensions.{Dimensions}
use Rattle.group_types.specs.Lists.{at}
use Rattle.memc_table.specs.Contents.{empty_table}
use Rattle.group_calls.specs.declared.entry.Entry.{Entry}
use Rattle.group_run.specs.Meaning.{is_update_of}
use Rattle.group_run.specs.World.{World}
use Rattle.group_regroup.proofs.Behind.{counted}
use Rattle.group_regroup.proofs.fresh.updates_in.Goals as goal

pub returns : goal.returns
returns c =
    let w : World = c.args.world.now in
    let width : c.k.result ≡ w.shape.k = c.k.ensures.value ∙ ap (λ (s : Dimensions). s.k) c.shape.ensures in
    c.updates.ensures ∙ ap (λ (k : ℕ). count_by (is_update_of k c.args.partition) c.log.result.now) width
    ∙ ap (λ (es : List Entry). count_by (is_update_of w.shape.k c.args.partition) es) c.log.ensures.log
    ∙ counted w.shape.k c.args.partition (empty_table w.shape.k) (at [] w.places c.args.partition) w.log
