use Rattle.std.proofs.Common.{◌∙◌, subst, List, ℕ}
use Rattle.wire_codec.specs.Reading.{Gives, message_in}
use Rattle.wire_codec.proofs.Cuts.{drop-joined}
use Rattle.wire_codec.proofs.cut.joined_message.Goals as goal

pub returns-then-front-le4 : goal.returns-then-front-le4
returns-then-front-le4 c =
    subst (λ (text : List ℕ). Gives (λ m. m) c.read_message.result (message_in text))
    (c.split_at.ensures.back ∙ drop-joined c.args.front.now c.args.piece.now c.if-front-le4.true)
    c.read_message.ensures
