use Rattle.std.proofs.Common.{refl}
use Rattle.crc32c.specs.Register.{shifted_by, after_bytes}
use Rattle.crc32c.proofs.laws.published_value.Goals as goal

pub returns : goal.returns
unfolding shifted_by after_bytes
returns c = refl
