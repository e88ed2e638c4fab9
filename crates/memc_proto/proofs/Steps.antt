use Rattle.std.proofs.Common.{suc, ◌≡◌, ◌≢◌, ℕ, ◌+◌, ◌<◌, ◌≤◌, ◌==◌, true, false, List, ◌∷◌, ◌++◌, Result, Ok, Err}
use Rattle.std.proofs.Common.{IfOk, length, take, drop, get_or, slice_index, append_assoc, refl, sym, ap, ◌∙◌, subst}
use Rattle.std.proofs.Common.{arith}
use Rattle.std.proofs.Math.Seq.{take-append-add, take-length}
use Rattle.std.proofs.lemmas.List.{length-append, length-drop, length-take-le, length-take, get_or-take, take-append-le}
use Rattle.std.proofs.lemmas.Bool.Decides.{nat_tests}
use Rattle.std.proofs.lemmas.List.Elements.{All-append}
use Rattle.memc_proto.specs.Line.{parsed_line}
use Rattle.memc_proto.specs.Reader.{Waits, IsTooLong, StandsFor, is_ended}
use Rattle.memc_proto.specs.Request.{IsPlain, IsLine, block_length, request_of}
use Rattle.memc_proto.specs.Step.{IsBlockStep, IsReaderStep, IsStepWithin}
use Rattle.memc_proto.specs.declared.line.Line.{Line}
use Rattle.memc_proto.specs.declared.line.Line.TheVariants as line
use Rattle.memc_proto.specs.declared.mode.Mode.{Mode}
use Rattle.memc_proto.specs.declared.mode.Mode.TheVariants.{InLine, InBlock, Skipping, TooLong, Ended}
use Rattle.memc_proto.specs.declared.step.Step.{Step}
use Rattle.memc_proto.specs.declared.step.Step.TheVariants.{Whole, Grows, Waits as Awaits}
use Rattle.memc_proto.proofs.Spaces.{NoneBelow, is_plain, cut_at}
use Rattle.memc_proto.proofs.Texts.{ends_here}

differs : (b : ℕ) → (b == 10) ≡ false → b ≢ 10
differs b is same = let e : (10 == 10) ≡ false = subst (λ (n : ℕ). (n == 10) ≡ false) same is in cc

is_ten : (b : ℕ) → (b == 10) ≡ true → b ≡ 10
is_ten b is = grind (arith, nat_tests)

-- none of the first bytes ends a line
pub plain_below : (text : List ℕ) (end : ℕ) → end ≤ length text → NoneBelow 10 text end → IsPlain (take end text)
plain_below text end within none k d below = differs (get_or (take end text) k d) (is_plain 10 text end within none k d below)

-- a line in two parts
line_at : (front piece : List ℕ) (end : ℕ) → IsPlain front → end < length piece → NoneBelow 10 piece end
    → length front + end < 32768 → IsLine (front ++ take end piece)
line_at front piece end plain within none short = record {
  plain = All-append (λ (b : ℕ). b ≢ 10) front (take end piece) plain (plain_below piece end (omega arith) none);
  short = omega (arith, length-append front (take end piece), length-take-le end piece (omega arith));
}

-- a piece at the first line end in it
at_end : (piece : List ℕ) (end : ℕ) → end < length piece → (slice_index piece end == 10) ≡ true → piece ≡ take end piece ++ 10 ∷ drop (end + 1) piece
at_end piece end within here = cut_at piece end within ∙ ap (λ (b : ℕ). take end piece ++ b ∷ drop (end + 1) piece) (is_ten (slice_index piece end) here)

whole_at : (front piece : List ℕ) (end : ℕ) → end < length piece → (slice_index piece end == 10) ≡ true
    → front ++ piece ≡ (front ++ take end piece) ++ 10 ∷ drop (end + 1) piece
whole_at front piece end within here = ap (λ (bs : List ℕ). front ++ bs) (at_end piece end within here)
    ∙ sym (append_assoc front (take end piece) (10 ∷ drop (end + 1) piece))

-- the front of a piece, up to n bytes behind its first line end
front_at : (piece : List ℕ) (end n : ℕ) → end < length piece → (slice_index piece end == 10) ≡ true
    → take (end + 1 + n) piece ≡ take end piece ++ 10 ∷ take n (drop (end + 1) piece)
front_at piece end n within here =
    let long : length (take end piece) ≡ end = length-take-le end piece (omega arith) in
    let count : end + 1 + n ≡ length (take end piece) + (1 + n) = omega arith in
    ap (λ (m : ℕ). take m piece) count ∙ ap (take (length (take end piece) + (1 + n))) (at_end piece end within here)
    ∙ take-append-add (take end piece) (10 ∷ drop (end + 1) piece) (1 + n) ∙ ap (λ (bs : List ℕ). take end piece ++ bs) (take_one n (drop (end + 1) piece))
  where
    take_one : (n : ℕ) (bs : List ℕ) → take (1 + n) (10 ∷ bs) ≡ 10 ∷ take n bs
    take_one n bs = let e : 1 + n ≡ suc n = omega arith in rw e refl

waits_at : (front piece : List ℕ) (end : ℕ) (says : Line) (kept : List ℕ) → IsPlain front → end < length piece
    → NoneBelow 10 piece end → (slice_index piece end == 10) ≡ true → length front + end < 32768
    → says ≡ parsed_line (front ++ take end piece) → kept ≡ drop (end + 1) piece → length (drop (end + 1) piece)
    < block_length says → Waits says kept (front ++ piece)
waits_at front piece end says kept plain within none here short read same less = record {
  line = front ++ take end piece;
  whole = whole_at front piece end within here ∙ ap (λ (bs : List ℕ). (front ++ take end piece) ++ 10 ∷ bs) (sym same);
  is_line = line_at front piece end plain within none short;
  said = sym read;
  short = omega (arith, ap length same);
}

-- the step behind the end of a line is a step in the line
pub line_step-end : (front piece : List ℕ) (end : ℕ) (says : Line) (step : Step) → IsPlain front → end < length piece
    → NoneBelow 10 piece end → (slice_index piece end == 10) ≡ true → length front + end < 32768
    → says ≡ parsed_line (front ++ take end piece) → IsStepWithin piece step → IsBlockStep says piece (end + 1) step
    → IsReaderStep InLine front front piece step
line_step-end front piece end says (Whole request taken) plain within none here short read fits step = record {
  line = front ++ take end piece;
  block = take (block_length says) (drop (end + 1) piece);
  whole = ap (λ (n : ℕ). front ++ take n piece) step.0 ∙ ap (λ (bs : List ℕ). front ++ bs) (front_at piece end (block_length says) within here)
      ∙ sym (append_assoc front (take end piece) (10 ∷ take (block_length says) (drop (end + 1) piece)));
  is_line = line_at front piece end plain within none short;
  belongs = length-take-le (block_length says) (drop (end + 1) piece) (omega (arith, length-drop (end + 1) piece, step.0, fits)) ∙ ap block_length read;
  asks = step.1 ∙ ap (λ (s : Line). request_of s (take (block_length says) (drop (end + 1) piece))) read;
}
line_step-end front piece end says Grows plain within none here short read fits step = absurd step
line_step-end front piece end (line.Whole request) (Awaits mode from) plain within none here short read fits step = absurd step.1
line_step-end front piece end (line.Stores store) (Awaits mode from) plain within none here short read fits step =
    let keeps = step.1 in (
      subst (λ (m : Mode). StandsFor m (drop from piece) (front ++ piece)) (sym keeps.0)
          (waits_at front piece end (line.Stores store) (drop from piece) plain within none here short read keeps.1
          step.0),
      ap is_ended keeps.0,
    )
line_step-end front piece end (line.Skips refusal len) (Awaits mode from) plain within none here short read fits step =
    let keeps = step.1 in (
      subst (λ (m : Mode). StandsFor m (drop from piece) (front ++ piece)) (sym keeps.1) (record {
        len = len;
        block = drop (end + 1) piece;
        waits = waits_at front piece end (line.Skips refusal len) (drop (end + 1) piece) plain within none here short read refl step.0;
        missing = keeps.2;
      }),
      ap is_ended keeps.1,
    )

-- what was searched is the front of the piece
pub searched : (piece : List ℕ) (m k : ℕ) → k < length (take m piece) → slice_index (take m piece) k ≡ slice_index piece k
searched piece m k below = get_or-take m piece k 0 (omega (arith, length-take m piece))

-- no line end yet, and there may be one
pub line_step-grows : (front piece : List ℕ) → StandsFor InLine front front → NoneBelow 10 piece (length piece)
    → length front + length piece ≤ 32768 → StandsFor InLine (front ++ piece) (front ++ piece)
line_step-grows front piece stands none short =
    let plain : IsPlain piece = subst IsPlain (take-length piece) (plain_below piece (length piece) (omega arith) none) in
    (refl, All-append (λ (b : ℕ). b ≢ 10) front piece stands.1 plain, omega (arith, length-append front piece))

-- no line end where there may be one
pub line_step-too_long : (front piece : List ℕ) (room : ℕ) → IsPlain front → length front + room ≡ 32768
    → room < length piece → NoneBelow 10 piece room → IsTooLong (front ++ piece)
line_step-too_long front piece room plain whole over none = record {
  long = omega (arith, length-append front piece);
  plain = subst IsPlain (sym (ap (λ (n : ℕ). take n (front ++ piece)) (sym whole) ∙ take-append-add front piece room))
      (All-append (λ (b : ℕ). b ≢ 10) front (take room piece) plain (plain_below piece room (omega arith) none));
}

-- a line stays too long
pub too_long-more : (rest piece : List ℕ) → IsTooLong rest → IsTooLong (rest ++ piece)
too_long-more rest piece long =
    let over : 32768 < length rest = long.long in
    record {
      long = omega (arith, length-append rest piece);
      plain = subst IsPlain (sym (take-append-le 32768 rest piece (omega arith))) long.plain;
    }

-- nothing else that is kept stands for a line that is too long
waits-short : (says : Line) (block rest : List ℕ) → Waits says block rest → IsTooLong rest → ⊥
waits-short says block rest waits long =
    let here = ends_here rest waits.line block waits.whole in
    let short : length waits.line < 32768 = waits.is_line.short in
    let over : 32768 < length rest = long.long in
    long.plain (length waits.line) 0 (omega (arith, length-take 32768 rest)) (get_or-take 32768 rest (length waits.line) 0 short ∙ here.1)

pub not_too_long : (mode : Mode) (front rest : List ℕ) → mode ≢ TooLong → is_ended mode ≡ false → StandsFor mode front rest → IsTooLong rest → ⊥
not_too_long InLine front rest other goes stands long = let over : 32768 < length rest = long.long in omega (arith, stands.2, ap length stands.0)
not_too_long (InBlock store) front rest other goes stands long = waits-short (line.Stores store) front rest stands long
not_too_long (Skipping refusal left) front rest other goes stands long = waits-short (line.Skips refusal stands.len) stands.block rest stands.waits long
not_too_long TooLong front rest other goes stands long = other refl
not_too_long Ended front rest other goes stands long = cc

-- from what an answer says, where it is one
pub both_ok : {T E : Type 0} {P Q R : T → Type 0} (result : Result T E) → IfOk result P → IfOk result Q → ((x : T) → P x → Q x → R x) → IfOk result R
both_ok (Ok x) p q from = from x p q
both_ok (Err e) p q from = tt

pub none_in : (piece : List ℕ) (m n : ℕ) → n ≤ length (take m piece) → NoneBelow 10 (take m piece) n → NoneBelow 10 piece n
none_in piece m n within none k below is = none k below (ap (λ (b : ℕ). b == 10) (searched piece m k (omega arith)) ∙ is)
