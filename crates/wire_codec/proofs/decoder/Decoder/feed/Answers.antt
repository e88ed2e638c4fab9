use Rattle.std.proofs.Common.{◌≡◌, ◌∙◌, ◌+◌, length, ap, sym, subst, List, ℕ, true, false, arith}
use Rattle.wire_codec.specs.Cutting.{IsCutWithin, IsFrameCut}
use Rattle.wire_codec.specs.Stream.{DecoderState, Feeds, IsPartial}
use Rattle.wire_codec.specs.declared.cut.Cut.{Cut}
use Rattle.wire_codec.proofs.Streams.{feeds-bad, feeds-whole}
use Rattle.wire_codec.proofs.decoder.Decoder.feed.Goals as goal

pub returns-then-self-clause-bad_frame : goal.returns-then-self-clause-bad_frame
returns-then-self-clause-bad_frame c = λ at e.
    let bad : c.args.self.now.bad ≡ true = sym (ap (λ (k : DecoderState). k.bad) c.self.view_is) ∙ c.if-self.true in
    let begun : c.args.self.now.begun ≡ c.self.inside.begun = sym (ap (λ (k : DecoderState). k.begun) c.self.view_is) in
    let same : c.self.inside.begun ≡ at = cc in
    (bad, begun ∙ same, feeds-bad c.args.self.now c.args.piece.now bad)

pub returns-in_ok-messages-in-Whole-clause-messages : goal.returns-in_ok-messages-in-Whole-clause-messages
returns-in_ok-messages-in-Whole-clause-messages c =
    let old = c.args.self.now in
    let piece = c.args.piece.now in
    let goes : old.bad ≡ false = sym (ap (λ (k : DecoderState). k.bad) c.self.view_is) ∙ c.if-self.false in
    let front : c.deref.result.now ≡ old.front = c.deref.ensures.value ∙ ap (λ (k : DecoderState). k.front) c.self.view_is in
    let within = subst (λ (cut : Cut). IsCutWithin piece cut) c.in-Whole.is c.in_ok-first_frame.ensures.within in
    let frame = subst (λ (f : List ℕ). IsPartial f → IsFrameCut f piece c.in_ok-first_frame.field-0) front c.in_ok-first_frame.ensures.is in
    let is = subst (λ (cut : Cut). IsPartial old.front → IsFrameCut old.front piece cut) c.in-Whole.is frame in
    let decoder = c.in_ok-messages-in-Whole.decoder in
    let begun = ap (λ (k : DecoderState). k.begun) c.self.view_is in
    let len = c.len.ensures in
    let long = ap (λ (k : DecoderState). length k.front) c.self.view_is in
    let at = c.self.inside.begun + (c.len.result + c.in-Whole.taken) in
    subst (λ (kept : DecoderState). Feeds old kept piece c.from.result) (sym c.drop-in-Whole.view_is)
    (feeds-whole old decoder piece c.split_at.result.1.now c.in-Whole.message c.in-Whole.taken at
    c.in_ok-messages-in-Whole.messages.items c.from.result goes within is (omega (arith, begun, len, long))
    c.split_at.ensures.back c.in_ok-messages-in-Whole.ensures.read c.from.ensures)
