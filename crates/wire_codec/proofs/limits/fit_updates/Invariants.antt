use Rattle.std.proofs.Common.{take}
use Rattle.std.specs.List.{AllByRecursion}
use Rattle.wire_codec.specs.Fits.{FitsUpdate}
use Rattle.wire_codec.proofs.limits.fit_updates.Given as goal

abbrev pub invariant-updates : goal.invariant-updates
invariant-updates l = AllByRecursion FitsUpdate (take l.u-index l.updates)
