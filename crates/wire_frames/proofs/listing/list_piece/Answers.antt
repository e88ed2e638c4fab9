use Rattle.std.proofs.Common.{◌≡◌, ◌∙◌, refl, sym, ap, subst, false, List, ℕ}
use Rattle.std.specs.List.{AllByRecursion}
use Rattle.edge_io.specs.Moving.{Appends}
use Rattle.edge_io.specs.Writing.{HasWritten}
use Rattle.group_message.specs.declared.message.Message.{Message}
use Rattle.wire_codec.specs.Fits.{HasFrame}
use Rattle.wire_frames.specs.Line.{message_lines}
use Rattle.wire_frames.proofs.Lines.{later-have}
use Rattle.wire_frames.proofs.Piecing.{has-given, piece-fault, piece-halted}
use Rattle.wire_frames.proofs.Stands.{never-true}
use Rattle.wire_frames.proofs.listing.list_piece.Goals as goal

pub returns-in_err-given-clause-listed : goal.returns-in_err-given-clause-listed
returns-in_err-given-clause-listed g c = λ input messages h.
    piece-fault c.args.decoder.now c.feed.new.self input messages c.args.piece.now (g.K.Sink.held c.args.sink.now)
    (g.K.Sink.held c.args.sink.now) c.in_err-given.field-0.0 c.from_residual.result h
    c.in_err-given.ensures.bad_frame c.in_err-given.ensures.again refl c.from_residual.ensures.1

pub lines_of-requires : goal.lines_of-requires
lines_of-requires g c =
    let before = c.requires.fed in
    let all = (c.in_ok-given.ensures.messages before.0 before.1 before.2).reads.each in
    subst (λ (ms : List Message). AllByRecursion HasFrame ms) (sym c.messages.ensures) (later-have before.1 c.in_ok-given.given all)

pub returns-in_err-write_all-clause-listed : goal.returns-in_err-write_all-clause-listed
returns-in_err-write_all-clause-listed g c = λ input messages h.
    let old = c.args.decoder.now in
    let new = c.feed.new.self in
    let piece = c.args.piece.now in
    let held = g.K.Sink.held c.args.sink.now in
    let now = g.K.Sink.held c.write_all.new.sink in
    let good : c.args.decoder.now.bad ≡ false = never-true c.args.decoder.now.bad (λ was. absurd (cc (c.in_ok-given.ensures.again was).0)) in
    let text : c.deref.result.now ≡ message_lines c.in_ok-given.given = c.deref.ensures.value ∙ c.in_ok-lines.ensures
    ∙ ap (λ (ms : List Message). message_lines ms) c.messages.ensures in
    piece-halted old new input messages piece held now c.in_err-write_all.field-0.0 c.from_residual-in_err-write_all.result
    (has-given old new input messages piece held now c.in_ok-given.given h good c.in_ok-given.ensures.messages)
    (subst (λ (bytes : List ℕ). HasWritten held now bytes) text c.in_err-write_all.ensures.part) c.from_residual-in_err-write_all.ensures.1

pub returns-clause-listed : goal.returns-clause-listed
returns-clause-listed g c = λ input messages h.
    let old = c.args.decoder.now in
    let held = g.K.Sink.held c.args.sink.now in
    let now = g.K.Sink.held c.write_all.new.sink in
    let good : c.args.decoder.now.bad ≡ false = never-true c.args.decoder.now.bad (λ was. absurd (cc (c.in_ok-given.ensures.again was).0)) in
    let text : c.deref.result.now ≡ message_lines c.in_ok-given.given = c.deref.ensures.value ∙ c.in_ok-lines.ensures
    ∙ ap (λ (ms : List Message). message_lines ms) c.messages.ensures in (
      has-given old c.feed.new.self input messages c.args.piece.now held now c.in_ok-given.given h good c.in_ok-given.ensures.messages,
      subst (λ (bytes : List ℕ). Appends held now bytes) text c.in_ok-write_all.ensures.whole,
    )
