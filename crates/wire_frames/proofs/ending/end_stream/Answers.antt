use Rattle.std.proofs.Common.{◌∙◌, sym, subst, List, ℕ}
use Rattle.wire_codec.specs.Stream.{ReadsFrames}
use Rattle.wire_frames.proofs.Stands.{rest-good}
use Rattle.wire_frames.proofs.ending.end_stream.Goals as goal

pub returns-then-at_start : goal.returns-then-at_start
returns-then-at_start c = λ input messages h.
    subst (λ (rest : List ℕ). ReadsFrames input messages rest) ((rest-good c.args.decoder.now input messages h c.requires).0
    ∙ c.at_start.ensures.0 c.if-at_start.true) h.reads

pub returns-else-at_start : goal.returns-else-at_start
returns-else-at_start c = λ input messages h.
    let good = rest-good c.args.decoder.now input messages h c.requires in
    (h.rest, h.reads, good.1, λ none. let at = c.at_start.ensures.1 (sym good.0 ∙ none) in cc (sym c.if-at_start.false ∙ at))
