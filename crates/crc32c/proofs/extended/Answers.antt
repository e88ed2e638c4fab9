use Rattle.crc32c.proofs.Shifting.{sum_behind}
use Rattle.crc32c.proofs.extended.Goals as goal

pub returns : goal.returns
returns c = λ front is_sum. sum_behind c.args.sum c.after.result front c.args.bytes.now is_sum c.after.ensures
