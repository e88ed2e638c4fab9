-- What was written into an outbox was written behind what had been sent.
use Rattle.std.proofs.Common.{ℕ, List, [], ◌∷◌, ◌++◌, Option, Some, None, Result, Ok, Err, Bool, append_assoc, sym, ap, ◌∙◌}
use Rattle.edge_io.specs.Moving.{Appends}
use Rattle.edge_io.specs.Writing.{HasWritten}
use Rattle.memc_proto.specs.declared.end.CallEnd.{CallEnd}
use Rattle.memc_proto.specs.declared.request.Request.{Request}
use Rattle.front_end.specs.Progress.{EndsConnection}
use Rattle.front_end.specs.Settling.{HasSettledDue, HasTold}
use Rattle.front_end.specs.declared.end.ConnectionFault.{ConnectionFault}
use Rattle.front_end.specs.declared.end.ConnectionFault.TheVariants.{ReadFault, WriteFault, Want}
use Rattle.front_end.specs.declared.end.End.{End}
use Rattle.front_end.specs.declared.end.End.TheVariants as ends

behind : (h before now bytes : List ℕ) → Appends before now bytes → Appends (h ++ before) (h ++ now) bytes
behind h before now bytes taken = ap (λ (bs : List ℕ). h ++ bs) taken ∙ sym (append_assoc h before bytes)

pub settled : (h : List ℕ) (end : CallEnd) (before now : List ℕ) (waiting left : List Request)
    → HasSettledDue end before now waiting left → HasSettledDue end (h ++ before) (h ++ now) waiting left
settled h end before now [] left is = absurd is
settled h end before now (request ∷ others) left is = (behind h before now _ is.0, is.1)

pub told-of : (h text before now : List ℕ) (waiting left : List Request) → HasTold text before now waiting left
    → HasTold text (h ++ before) (h ++ now) waiting left
told-of h text before now [] left is = absurd is
told-of h text before now (request ∷ others) left is = (behind h before now text is.0, is.1)

pub part : (h text before now : List ℕ) → HasWritten before now text → HasWritten (h ++ before) (h ++ now) text
part h text before now is = record { count = is.count; bytes = behind h before now _ is.bytes }

pub closed : (h : List ℕ) (quits : Bool) (rest before now : List ℕ) (result : Result (Option End) ConnectionFault)
    → EndsConnection quits rest before now result → EndsConnection quits rest (h ++ before) (h ++ now) result
closed h quits rest before now (Ok (Some ends.Quit)) is = (is.0, ap (λ (bs : List ℕ). h ++ bs) is.1)
closed h quits rest before now (Ok (Some ends.LineTooLong)) is = (is.0, is.1, behind h _ _ _ is.2)
closed h quits rest before now (Ok (Some ends.Ended)) is = absurd is
closed h quits rest before now (Ok (Some ends.Cut)) is = absurd is
closed h quits rest before now (Ok (Some ends.Worn)) is = absurd is
closed h quits rest before now (Ok None) is = (is.0, is.1, ap (λ (bs : List ℕ). h ++ bs) is.2)
closed h quits rest before now (Err ReadFault) is = absurd is
closed h quits rest before now (Err WriteFault) is = (is.0, is.1, part h _ before now is.2)
closed h quits rest before now (Err Want) is = (is.0, is.1, part h _ before now is.2)
