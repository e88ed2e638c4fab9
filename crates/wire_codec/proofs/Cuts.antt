-- The first frame of a text.
use Rattle.std.proofs.Common.{◌≡◌, ℕ, ◌+◌, ◌-◌, ◌≤◌, List, ◌++◌, length, take, drop, Option, Some, None, refl, sym, ap}
use Rattle.std.proofs.Common.{subst, ◌∙◌, append_assoc, arith, inl, inr}
use Rattle.std.specs.Int.{w32, from_be_bytes}
use Rattle.std.proofs.lemmas.Bool.{cases_lt}
use Rattle.std.proofs.lemmas.List.{take_at, drop_at, take-append-drop, take-append-le, length-append, length-take, length-drop}
use Rattle.std.proofs.Math.Seq.{drop-append-add}
use Rattle.group_message.specs.declared.message.Message.{Message}
use Rattle.wire_codec.specs.Frame.{four, frame_body, frame_of}
use Rattle.wire_codec.specs.Fits.{HasFrame, IsFrame, most}
use Rattle.wire_codec.specs.Reading.{message_in}
use Rattle.wire_codec.specs.Stream.{announced, IsLength, HasNone, IsPartial, IsBad}
use Rattle.wire_codec.proofs.Codes.{IsBytes, IsBytes-drop, IsBytes-take, IsBytes-append, wide32}
use Rattle.wire_codec.proofs.Messages.{text_takes, text_again, text_length}

pub length-frame : (m : Message) → length (frame_of m) ≡ 4 + length (frame_body m)
length-frame m = length-append (four (length (frame_body m))) (frame_body m)

pub announced-frame : (m : Message) (more : List ℕ) → HasFrame m → announced (frame_of m ++ more) ≡ length (frame_body m)
announced-frame m more has =
    let regrouped : frame_of m ++ more ≡ four (length (frame_body m)) ++ (frame_body m ++ more) =
    append_assoc (four (length (frame_body m))) (frame_body m) more in
    let front : take 4 (frame_of m ++ more) ≡ four (length (frame_body m)) = ap (λ (t : List ℕ). take 4 t) regrouped
    ∙ take_at (four (length (frame_body m))) (frame_body m ++ more) 4 refl in
    ap (λ (t : List ℕ). from_be_bytes w32 t) front ∙ wide32.again (length (frame_body m)) (text_length m has)

-- what bytes say of the frame at their front
pub record Fronts (bytes : List ℕ) (m : Message) : Type 0 where
  pub header : 4 ≤ length bytes
  pub says : announced bytes ≡ length (frame_body m)
  pub there : 4 + announced bytes ≤ length bytes
  pub in_range : IsLength (announced bytes)

pub fronts : (bytes more : List ℕ) (m : Message) → HasFrame m → bytes ≡ frame_of m ++ more → Fronts bytes m
fronts bytes more m has e =
    let says : announced bytes ≡ length (frame_body m) = ap announced e ∙ announced-frame m more has in
    let len : length bytes ≡ 4 + length (frame_body m) + length more = ap length e ∙ length-append (frame_of m) more
    ∙ ap (λ (n : ℕ). n + length more) (length-frame m) in
    let short = has.short in
    let some : 1 ≤ length (frame_body m) = omega arith in
    record {
      header = omega (arith, len);
      says = says;
      there = omega (arith, len, says);
      in_range = (omega (arith, says, some), omega (arith, says, short));
    }

pub partial-none : (rest : List ℕ) → IsPartial rest → HasNone rest
partial-none rest partial m more has e =
    let f = fronts rest more m has e in
    let there = f.there in
    let p = partial f.header in
    let less = p.1 in
    omega (arith, there, less)

pub announced-more : (xs ys : List ℕ) → 4 ≤ length xs → announced (xs ++ ys) ≡ announced xs
announced-more xs ys le = ap (λ (t : List ℕ). from_be_bytes w32 t) (take-append-le 4 xs ys le)

pub spelled : (text : List ℕ) (m : Message) → IsBytes text → length text ≡ 4 + announced text → announced text ≤ most
    → message_in (drop 4 text) ≡ Some m → IsFrame text m
spelled text m is len short e =
    let t = text_takes (drop 4 text) m (IsBytes-drop 4 text is) e in
    let four_long : length (take 4 text) ≡ 4 = omega (arith, length-take 4 text, len) in
    let said : announced text ≡ length (frame_body m) = omega (arith, length-drop 4 text, ap length t.0, len) in
    let front : four (announced text) ≡ take 4 text = wide32.back (take 4 text) four_long (IsBytes-take 4 text is) in
    let begins : take 4 text ≡ four (length (frame_body m)) = sym front ∙ ap four said in
    record {
      has_frame = record { fit = t.1; short = omega (arith, said, short) };
      spelled = sym (take-append-drop 4 text) ∙ ap (λ (s : List ℕ). s ++ drop 4 text) begins ∙ ap (λ (s : List ℕ). four (length (frame_body m)) ++ s) t.0;
    }

pub unspelled : (text more : List ℕ) → length text ≡ 4 + announced (text ++ more) → message_in (drop 4 text) ≡ None → HasNone (text ++ more)
unspelled text more len none m behind has e =
    let f = fronts (text ++ more) behind m has e in
    let says = f.says in
    let long : length (frame_of m) ≡ length text = omega (arith, length-frame m, len, says) in
    let is : text ≡ frame_of m = sym (take_at text more (length text) refl) ∙ ap (λ (t : List ℕ). take (length text) t)
    e ∙ take_at (frame_of m) behind (length text) long in
    let read : message_in (drop 4 text) ≡ Some m = ap (λ (t : List ℕ). message_in (drop 4 t)) is
    ∙ ap message_in (drop_at (four (length (frame_body m))) (frame_body m) 4 refl) ∙ text_again m has.fit in
    absurd (some_none (message_in (drop 4 text)) m read none)
  where
    some_none : (r : Option Message) (m : Message) → r ≡ Some m → r ≡ None → ⊥
    some_none r m p q = cc

-- the first bytes of what is kept and a piece, as many as the first four say
record Joined (front piece : List ℕ) (len : ℕ) : Type 0 where
  shorter : length front ≤ 4 + len
  long : length (front ++ take (4 + len - length front) piece) ≡ 4 + len
  whole : front ++ piece ≡ (front ++ take (4 + len - length front) piece) ++ drop (4 + len - length front) piece
  says : announced (front ++ take (4 + len - length front) piece) ≡ len

joined : (front piece : List ℕ) (len : ℕ) → IsPartial front → len ≡ announced (front ++ piece) → 4 + len ≤ length front + length piece → Joined front piece len
joined front piece len partial said there =
    let t = 4 + len - length front in
    let shorter : length front ≤ 4 + len = elim (cases_lt (length front) 4) [
      | inl less ↦ omega (arith, less)
      | inr le ↦ (let p = partial le in let below = p.1 in omega (arith, below, said, announced-more front piece le))
    ] in
    let long : length (front ++ take t piece) ≡ 4 + len = omega (arith, length-append front (take t piece), length-take t piece, shorter, there) in
    let whole : front ++ piece ≡ (front ++ take t piece) ++ drop t piece =
    ap (λ (s : List ℕ). front ++ s) (sym (take-append-drop t piece))
    ∙ sym (append_assoc front (take t piece) (drop t piece)) in
    record {
      shorter = shorter;
      long = long;
      whole = whole;
      says = sym (announced-more (front ++ take t piece) (drop t piece) (omega (arith, long))) ∙ ap announced (sym whole) ∙ sym said;
    }

pub cut-whole : (front piece : List ℕ) (len : ℕ) (m : Message) → IsBytes front → IsBytes piece → IsPartial front
    → len ≡ announced (front ++ piece) → len ≤ most → 4 + len ≤ length front + length piece
    → message_in (drop 4 (front ++ take (4 + len - length front) piece)) ≡ Some m → IsFrame (front ++ take (4 + len - length front) piece) m
cut-whole front piece len m is_front is_piece partial said short there e =
    let j = joined front piece len partial said there in
    let long = j.long in
    let says = j.says in
    let t = 4 + len - length front in
    spelled (front ++ take t piece) m (IsBytes-append front (take t piece) is_front (IsBytes-take t piece is_piece))
    (omega (arith, long, says)) (omega (arith, says, short)) e

pub cut-bad : (front piece : List ℕ) (len : ℕ) → IsPartial front → len ≡ announced (front ++ piece) → 4 + len ≤ length front + length piece
    → message_in (drop 4 (front ++ take (4 + len - length front) piece)) ≡ None → IsBad (front ++ piece)
cut-bad front piece len partial said there e =
    let j = joined front piece len partial said there in
    let t = 4 + len - length front in
    let long = j.long in
    let same : announced ((front ++ take t piece) ++ drop t piece) ≡ len = ap announced (sym j.whole) ∙ sym said in
    record {
      header = omega (arith, length-append front piece, there);
      due = λ _. omega (arith, length-append front piece, there, said);
      none = subst HasNone (sym j.whole) (unspelled (front ++ take t piece) (drop t piece) (omega (arith, long, same)) e);
    }

pub drop-joined : (front piece : List ℕ) → length front ≤ 4 → drop (4 - length front) piece ≡ drop 4 (front ++ piece)
drop-joined front piece le =
    let sum : length front + (4 - length front) ≡ 4 = omega (arith, le) in
    sym (drop-append-add front piece (4 - length front)) ∙ ap (λ (n : ℕ). drop n (front ++ piece)) sum
