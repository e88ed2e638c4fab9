use Rattle.std.proofs.Common.{◌≡◌, ◌++◌, take}
use Rattle.std.specs.List.{flat_map}
use Rattle.wire_codec.specs.Frame.{update}
use Rattle.wire_codec.proofs.put_message.put_updates.Given as goal

abbrev pub invariant-updates : goal.invariant-updates
invariant-updates l = l.out.items ≡ l.fn.out.items ++ flat_map update (take l.u-index l.updates)
