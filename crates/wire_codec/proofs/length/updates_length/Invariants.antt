use Rattle.std.proofs.Common.{◌≡◌, ◌≤◌, length, take}
use Rattle.std.specs.List.{flat_map}
use Rattle.wire_codec.specs.Fits.{most}
use Rattle.wire_codec.specs.Frame.{update}
use Rattle.wire_codec.proofs.length.updates_length.Given as goal

abbrev pub invariant-updates : goal.invariant-updates
invariant-updates l = record {
  sums : l.sum ≡ length (flat_map update (take l.u-index l.updates));
  short : l.sum ≤ most;
}
