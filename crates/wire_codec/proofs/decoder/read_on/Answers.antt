use Rattle.std.proofs.Common.{[], subst, List, arith}
use Rattle.std.proofs.lemmas.List.{append-nil}
use Rattle.group_message.specs.declared.message.Message.{Message}
use Rattle.wire_codec.specs.Cutting.{DecodesOn, IsFrameCut}
use Rattle.wire_codec.specs.declared.cut.Cut.{Cut}
use Rattle.wire_codec.proofs.Streams.{ends-partial, ends-bad}
use Rattle.wire_codec.proofs.decoder.read_on.Goals as goal

pub returns-in-Partial-clause-read : goal.returns-in-Partial-clause-read
returns-in-Partial-clause-read c =
    let partial = subst (λ (cut : Cut). IsFrameCut [] c.frames.rest.now cut) c.in-Partial.is (c.in_ok-message.ensures.is (λ le. omega (arith, le))) in
    let read = ends-partial c.frames.begun c.waiting.result c.in_ok-front-in-Partial.front.items c.frames.rest.now
    c.waiting.ensures c.in_ok-front-in-Partial.ensures.items partial in
    subst (λ (messages : List Message). DecodesOn c.args.at c.waiting.result c.args.text.now c.args.found.items messages)
    (append-nil c.frames.messages.items) (c.frames.invariant.completes c.waiting.result [] read)

pub returns-in-Bad-clause-read : goal.returns-in-Bad-clause-read
returns-in-Bad-clause-read c =
    let bad = subst (λ (cut : Cut). IsFrameCut [] c.frames.rest.now cut) c.in-Bad.is (c.in_ok-message.ensures.is (λ le. omega (arith, le))) in
    let read = ends-bad c.frames.begun c.spoilt.result c.frames.rest.now c.spoilt.ensures bad in
    subst (λ (messages : List Message). DecodesOn c.args.at c.spoilt.result c.args.text.now c.args.found.items messages)
    (append-nil c.frames.messages.items) (c.frames.invariant.completes c.spoilt.result [] read)
