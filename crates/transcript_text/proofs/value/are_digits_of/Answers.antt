use Rattle.transcript_text.proofs.Cuts.{empty-test}
use Rattle.transcript_text.proofs.Values.{digits-done, digits-more, digits-none}
use Rattle.transcript_text.proofs.value.are_digits_of.Goals as goal

pub returns-in-None : goal.returns-in-None
returns-in-None c = digits-none c.args.word.now c.args.bytes.now c.bytes.rest.now c.bytes.byte-index c.bytes-test.true c.in-None.ensures c.bytes.invariant

pub bytes-preserved : goal.bytes-preserved
bytes-preserved c = digits-more c.args.word.now c.args.bytes.now c.bytes.rest.now c.in-Some.more.now c.bytes.byte-index
    c.bytes-test.true c.in-Some.ensures c.bytes.invariant

pub returns : goal.returns
returns c = digits-done c.args.word.now c.args.bytes.now c.bytes.rest.now c.bytes.byte-index c.is_empty.result
    c.bytes-test.false (empty-test c.bytes.rest.now c.is_empty.result c.is_empty.ensures) c.bytes.invariant
