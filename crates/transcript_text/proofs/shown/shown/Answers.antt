use Rattle.std.proofs.Common.{length}
use Rattle.transcript_text.proofs.Stamps.{shows_none}
use Rattle.transcript_text.proofs.shown.shown.Goals as goal

pub returns-clause-none : goal.returns-clause-none
returns-clause-none c = λ none. shows_none c.args.line.now c.in_ok-after.field-0.now c.in_ok-numbers.numbers.now
    c.in_ok-numbers.value.now c.read_stamp.new.stamp (length c.args.stamp.now) c.in_ok-after.ensures
    c.in_ok-numbers.ensures.0 c.in_ok-numbers.ensures.1 c.if-read_stamp.ensures.read c.read_stamp.ensures.long
