use Rattle.std.proofs.Common.{◌≡◌, ◌<◌, ℕ, length, get_or}
use Rattle.erasure_code.specs.Code.{coefficient}
use Rattle.parity_space.proofs.space.coefs_of.Given as goal

abbrev pub invariant-partitions : goal.invariant-partitions
invariant-partitions l = record {
  long : length l.coefs.items ≡ l.d;
  done : (d : ℕ) → d < l.d → get_or l.coefs.items d 0 ≡ coefficient l.shape.m l.number d;
}
