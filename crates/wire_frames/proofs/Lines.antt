-- The lines of messages.
use Rattle.std.proofs.Common.{◌≡◌, ℕ, ◌+◌, ◌<◌, get_or, take, List, [], ◌∷◌, ◌++◌, length, sym, ap, ◌∙◌, append-nil, append_assoc}
use Rattle.std.specs.List.{AllByRecursion}
use Rattle.std.proofs.lemmas.Grind.{flat_map-append}
use Rattle.std.proofs.lemmas.List.{take_more}
use Rattle.std.proofs.lemmas.List.Concat.{flat_map-cons}
use Rattle.group_message.specs.declared.message.Message.{Message}
use Rattle.wire_codec.specs.Fits.{HasFrame}
use Rattle.wire_frames.specs.Line.{line_of, message_lines}

-- the lines of the first messages, and the line of the next
pub lines-more : (messages : List Message) (i : ℕ) (m : Message) → i < length messages
    → message_lines (take (i + 1) messages) ≡ message_lines (take i messages) ++ line_of (get_or messages i m)
lines-more messages i m lt =
    let next : Message = get_or messages i m in
    ap (λ (ms : List Message). message_lines ms) (take_more messages i m lt) ∙ flat_map-append line_of (take i messages) (next ∷ [])
    ∙ ap (λ (t : List ℕ). message_lines (take i messages) ++ t) (flat_map-cons line_of next [] ∙ append-nil (line_of next))

-- of messages each of which has a frame, the last ones have one
pub later-have : (messages given : List Message) → AllByRecursion HasFrame (messages ++ given) → AllByRecursion HasFrame given
later-have [] given all = all
later-have (m ∷ messages) given all = later-have messages given all.1

-- a line as its pieces are written, one behind the other
pub joined-line : (word kind number : List ℕ) → word ++ (kind ++ 32 ∷ (number ++ 10 ∷ [])) ≡ word ++ kind ++ (32 ∷ []) ++ number ++ (10 ∷ [])
joined-line word kind number =
    sym (append_assoc (word ++ kind ++ (32 ∷ [])) number (10 ∷ []) ∙ append_assoc (word ++ kind) (32 ∷ [])
    (number ++ 10 ∷ []) ∙ append_assoc word kind (32 ∷ (number ++ 10 ∷ [])))
