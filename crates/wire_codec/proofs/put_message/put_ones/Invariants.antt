use Rattle.std.proofs.Common.{◌≡◌, ◌++◌, take}
use Rattle.wire_codec.proofs.put_message.put_ones.Given as goal

abbrev pub invariant-numbers : goal.invariant-numbers
invariant-numbers l = l.out.items ≡ l.fn.out.items ++ take l.n-index l.numbers
