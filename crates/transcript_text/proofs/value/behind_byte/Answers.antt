use Rattle.transcript_text.proofs.Values.{one-byte}
use Rattle.transcript_text.proofs.value.behind_byte.Goals as goal

pub returns : goal.returns
returns c = rw (one-byte c.args.byte c.digit.result c.digit-2.result c.digit.ensures c.digit-2.ensures) c.after.ensures
