-- Texts that are written one behind the other.
use Rattle.std.proofs.Common.{◌≡◌, ℕ, ◌+◌, min, Bool, true, List, [], ◌++◌, length, take, if◌then◌else◌, sym, ap, ◌∙◌, subst, arith}
use Rattle.std.proofs.Math.Seq.{take-append-add}
use Rattle.std.proofs.lemmas.List.{take-append-le, take_min}
use Rattle.edge_io.proofs.Moving.{Appends-trans}
use Rattle.edge_io.specs.Moving.{Appends}
use Rattle.edge_io.specs.Writing.{HasWritten}
use Rattle.memc_proto.specs.Text.{end_of_items, end_text}
use Rattle.memc_proto.specs.declared.end.CallEnd.{CallEnd}
use Rattle.front_end.specs.Turns.{is_reply, last_text}

-- the front of a text is a front of what begins with it
pub front_of : (n : ℕ) (text more : List ℕ) → take n text ≡ take (min n (length text)) (text ++ more)
front_of n text more = sym (take_min n text) ∙ sym (take-append-le (min n (length text)) text more (omega arith))

pub front-more : (before now text more : List ℕ) → HasWritten before now text → HasWritten before now (text ++ more)
front-more before now text more part = record {
  count = min part.count (length text);
  bytes = subst (Appends before now) (front_of part.count text more) part.bytes;
}

-- a text was written whole, and of the next one the front
pub front-then : (before middle now text more : List ℕ) → Appends before middle text → HasWritten middle now more → HasWritten before now (text ++ more)
front-then before middle now text more whole part = record {
  count = length text + part.count;
  bytes = subst (Appends before now) (sym (take-append-add text more part.count))
      (Appends-trans before middle now text (take part.count more) whole part.bytes);
}

-- the item of the last key of a get was written, and of `END` the front
pub last-then : (before middle now key : List ℕ) (with_cas : Bool) (end : CallEnd) (text : List ℕ) (replied : Bool)
    → replied ≡ is_reply end → replied ≡ true → text ≡ end_of_items
    → Appends before middle (end_text key with_cas end) → HasWritten middle now text → HasWritten before now (last_text key with_cas end)
last-then before middle now key with_cas end text replied by holds is whole part =
    let more : text ≡ (if is_reply end then end_of_items else []) = is ∙ ap (λ (b : Bool). if b then end_of_items else []) (sym holds ∙ by) in
    subst (λ (bs : List ℕ). HasWritten before now (end_text key with_cas end ++ bs)) more
    (front-then before middle now (end_text key with_cas end) text whole part)
