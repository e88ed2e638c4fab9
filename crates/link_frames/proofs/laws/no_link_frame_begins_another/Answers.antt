use Rattle.std.proofs.Common.{◌≡◌, ◌∙◌, ◌++◌, ap, sym, List, ℕ}
use Rattle.link_frames.specs.declared.frame.Frame.{Frame}
use Rattle.link_frames.specs.Links.{link_frame}
use Rattle.link_frames.proofs.Sequences.{link_once}
use Rattle.link_frames.proofs.laws.no_link_frame_begins_another.Goals as goal

pub returns : goal.returns
returns c = λ s bytes other more rest f g one two e.
    let same : link_frame f ++ more ≡ link_frame g ++ rest = ap (λ (t : List ℕ). t ++ more) (sym one.spelled) ∙ e
    ∙ ap (λ (t : List ℕ). t ++ rest) two.spelled in
    let once = link_once s f g more rest one.has_link two.has_link same in
    (one.spelled ∙ ap (λ (k : Frame). link_frame k) once.0 ∙ sym two.spelled, once.0, once.1)
