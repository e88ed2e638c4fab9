use Rattle.group_regroup.proofs.Tries.{ask-up}
use Rattle.group_regroup.proofs.setting.set_event.Goals as goal

pub drain-requires : goal.drain-requires
drain-requires c = record { up = ask-up c.args.world.now c.make.new.world c.args.event c.requires.may c.requires.up c.in_ok-make.ensures.world }
