use Rattle.std.proofs.Common.{◌≡◌, drop}
use Rattle.group_types.specs.Hash.{fnv1a, fnv1a_from}
use Rattle.group_types.proofs.hash.fnv1a_of.Given as goal

abbrev pub invariant-bytes : goal.invariant-bytes
invariant-bytes l = fnv1a_from l.hash (drop l.byte-index l.bytes) ≡ fnv1a l.bytes
