use Rattle.std.proofs.Common.{length, ap, ◌∙◌}
use Rattle.group_run.specs.Shown.{stamp_of}
use Rattle.group_run.specs.World.{World}
use Rattle.regroup_play.proofs.Stamps.{stamp-fits}
use Rattle.regroup_play.proofs.showing.told_stamp.Goals as goal

pub raised-requires : goal.raised-requires
raised-requires c = stamp-fits c.args.regroup.now.world c.args.at c.first_of.result (length c.deref.result.now) c.requires.process c.first_of.ensures
    (ap length (c.deref.ensures.value ∙ c.in_ok-stamp.ensures ∙ ap (λ (w : World). stamp_of w c.args.at) c.world.ensures))
