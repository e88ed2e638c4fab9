use Rattle.std.proofs.Common.{◌≡◌, ◌∙◌, ℕ, List, [], ◌∷◌, ◌++◌, IfOk, ap, codes, length, subst}
use Rattle.std.specs.Fmt.{decimal}
use Rattle.std.specs.String.{string_bytes}
use Rattle.wire_codec.specs.Frame.{frame_body, kind_of}
use Rattle.wire_frames.proofs.Lines.{joined-line}
use Rattle.wire_frames.proofs.line.line_of.Goals as goal

pub returns : goal.returns
returns c =
    let m = c.args.message.now in
    subst (λ (text : List ℕ). IfOk c.format.result (λ line. string_bytes line ≡ text))
    (ap (λ (k : ℕ). codes "frame " ++ (decimal k ++ 32 ∷ (decimal c.spelled_length-length.result ++ 10 ∷ []))) c.kind_of-kind.ensures
    ∙ ap (λ (n : ℕ). codes "frame " ++ (decimal (kind_of m) ++ 32 ∷ (decimal n ++ 10 ∷ []))) c.spelled_length-length.ensures
    ∙ joined-line (codes "frame ") (decimal (kind_of m)) (decimal (length (frame_body m)))) c.format.ensures.ok
