use Rattle.std.proofs.lemmas.Nat.{xor_comm}
use Rattle.field_byte.proofs.laws.sum_commutes.Goals as goal

pub returns : goal.returns
returns c = xor_comm c.args.a c.args.b
