use Rattle.std.proofs.Common.{◌≡◌, ◌∙◌, ◌++◌, ap, sym, List, ℕ}
use Rattle.group_message.specs.declared.message.Message.{Message}
use Rattle.wire_codec.specs.Frame.{frame_of}
use Rattle.wire_codec.proofs.Messages.{frame_once}
use Rattle.wire_codec.proofs.laws.no_frame_begins_another.Goals as goal

pub returns : goal.returns
returns c = λ frame other more rest m n one two e.
    let same : frame_of m ++ more ≡ frame_of n ++ rest = ap (λ (t : List ℕ). t ++ more) (sym one.spelled) ∙ e ∙ ap (λ (t : List ℕ). t ++ rest) two.spelled in
    let once = frame_once m n more rest one.has_frame two.has_frame same in
    (one.spelled ∙ ap (λ (k : Message). frame_of k) once.0 ∙ sym two.spelled, once.0, once.1)
