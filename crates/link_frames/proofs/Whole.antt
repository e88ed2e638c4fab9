-- The first frame of bytes, with its sum.
use Rattle.std.proofs.Common.{◌≡◌, ℕ, zero, suc, ◌+◌, ◌-◌, ◌<◌, ◌≤◌, ◌==◌, Bool, true, false, eqb, cond, List, ◌++◌}
use Rattle.std.proofs.Common.{length, take, drop, Option, Some, None, refl, sym, ap, subst, ◌∙◌, append_assoc, arith}
use Rattle.std.proofs.Common.{inl, inr}
use Rattle.std.specs.Int.{w32, from_be_bytes}
use Rattle.std.proofs.lemmas.Bool.{cases_lt, eqb-true, eq-eqb}
use Rattle.std.proofs.lemmas.List.{take_at, drop_at, take-append-drop, take-append-le, length-append, length-take, length-drop}
use Rattle.group_types.specs.Dimensions.{Dimensions}
use Rattle.crc32c.specs.Register.{checksum}
use Rattle.wire_codec.specs.Fits.{IsFour, most}
use Rattle.wire_codec.specs.Frame.{four}
use Rattle.wire_codec.specs.Reading.{decode_number}
use Rattle.wire_codec.specs.Stream.{announced, IsLength}
use Rattle.wire_codec.proofs.Codes.{IsBytes, IsBytes-drop, IsBytes-take, IsBytes-append, codes_four, wide32, some_is}
use Rattle.wire_codec.proofs.Cuts.{announced-more}
use Rattle.link_frames.specs.declared.frame.Frame.{Frame}
use Rattle.link_frames.specs.Limits.{HasLink}
use Rattle.link_frames.specs.Links.{summed, link_frame, IsLinkFrame, HasNoFrame, IsPartialFrame, IsBroken, sum_number, frame_of_bytes}
use Rattle.link_frames.specs.Spelling.{link_text}
use Rattle.link_frames.specs.Texts.{frame_in}
use Rattle.link_frames.proofs.Frames.{link_again, link_takes}
use Rattle.link_frames.proofs.Lengths.{text_few}

-- a frame without its sum
abbrev body_of : Frame → List ℕ
body_of f = four (length (link_text f)) ++ link_text f

length-body : (f : Frame) → length (body_of f) ≡ 4 + length (link_text f)
length-body f = length-append (four (length (link_text f))) (link_text f)

pub length-link : (f : Frame) → length (link_frame f) ≡ 8 + length (link_text f)
length-link f = omega (arith, length-append (body_of f) (four (checksum (body_of f))), length-body f)

text_four : (s : Dimensions) (f : Frame) → HasLink s f → IsFour (length (link_text f))
text_four s f has = let few = (text_few f has.fits).1 in omega (arith, few)

announced-link : (s : Dimensions) (f : Frame) (more : List ℕ) → HasLink s f → announced (link_frame f ++ more) ≡ length (link_text f)
announced-link s f more has =
    let l = length (link_text f) in
    let regrouped : link_frame f ++ more ≡ four l ++ (link_text f ++ (four (checksum (body_of f)) ++ more)) =
    append_assoc (body_of f) (four (checksum (body_of f))) more ∙ append_assoc (four l) (link_text f) (four (checksum (body_of f)) ++ more) in
    let front : take 4 (link_frame f ++ more) ≡ four l = ap (λ (t : List ℕ). take 4 t) regrouped
    ∙ take_at (four l) (link_text f ++ (four (checksum (body_of f)) ++ more)) 4 refl in
    ap (λ (t : List ℕ). from_be_bytes w32 t) front ∙ wide32.again l (text_four s f has)

-- what bytes say of the frame at their front
pub record LinkFronts (bytes : List ℕ) (f : Frame) : Type 0 where
  pub header : 4 ≤ length bytes
  pub says : announced bytes ≡ length (link_text f)
  pub there : 8 + announced bytes ≤ length bytes
  pub in_range : IsLength (announced bytes)

pub link_fronts : (s : Dimensions) (bytes more : List ℕ) (f : Frame) → HasLink s f → bytes ≡ link_frame f ++ more → LinkFronts bytes f
link_fronts s bytes more f has e =
    let says : announced bytes ≡ length (link_text f) = ap announced e ∙ announced-link s f more has in
    let len : length bytes ≡ 8 + length (link_text f) + length more = ap length e ∙ length-append (link_frame f) more
    ∙ ap (λ (n : ℕ). n + length more) (length-link f) in
    let few = text_few f has.fits in
    let some = few.0 in
    let short = few.1 in
    record {
      header = omega (arith, len);
      says = says;
      there = omega (arith, len, says);
      in_range = (omega (arith, says, some), omega (arith, says, short));
    }

pub short-none : (s : Dimensions) (rest : List ℕ) → IsPartialFrame rest → HasNoFrame s rest
short-none s rest partial f more has e =
    let l = link_fronts s rest more f has e in
    let there = l.there in
    let p = partial l.header in
    let less = p.1 in
    omega (arith, there, less)

-- the frame of bytes with its sum
read_by : (b : Bool) (s : Dimensions) (bytes body tail : List ℕ) (f : Frame)
    → (from_be_bytes w32 tail == sum_number body) ≡ b → cond b (frame_in s (drop 4 body)) None ≡ Some f
    → (from_be_bytes w32 tail ≡ sum_number body) × (frame_in s (drop 4 body) ≡ Some f)
read_by true s bytes body tail f is e = (eqb-true _ _ is, e)
read_by false s bytes body tail f is e = absurd cc

four_bytes : (n : ℕ) → IsBytes (four n)
four_bytes n zero = omega arith
four_bytes n (suc zero) = omega arith
four_bytes n (suc (suc zero)) = omega arith
four_bytes n (suc (suc (suc zero))) = omega arith
four_bytes n (suc (suc (suc (suc i)))) = omega arith

-- the number that the code compares with
pub sum_is : (sum : ℕ) (bytes : List ℕ) → IsFour sum → sum ≡ checksum bytes → sum_number bytes ≡ sum
sum_is sum bytes lt e = ap (λ (n : ℕ). from_be_bytes w32 (four n)) (sym e) ∙ wide32.again sum lt

pub spelled_link : (s : Dimensions) (bytes : List ℕ) (f : Frame) → IsBytes bytes → length bytes ≡ 8 + announced bytes
    → announced bytes ≤ most → frame_of_bytes s bytes ≡ Some f → IsLinkFrame s bytes f
unfolding frame_of_bytes
spelled_link s bytes f is len short e =
    let n = length bytes - 4 in
    let body = take n bytes in
    let tail = drop n bytes in
    let r = read_by (from_be_bytes w32 tail == sum_number body) s bytes body tail f refl e in
    let body_long : length body ≡ 4 + announced bytes = omega (arith, length-take n bytes, len) in
    let tail_long : length tail ≡ 4 = omega (arith, length-drop n bytes, len) in
    let body_bytes = IsBytes-take n bytes is in
    let text_long : length (drop 4 body) ≡ announced bytes = omega (arith, length-drop 4 body, body_long) in
    let t = link_takes s (drop 4 body) f (IsBytes-drop 4 body body_bytes) (omega (arith, text_long, short)) r.1 in
    let whole : bytes ≡ body ++ tail = sym (take-append-drop n bytes) in
    let said : announced body ≡ announced bytes = sym (announced-more body tail (omega (arith, body_long))) ∙ ap announced (sym whole) in
    let four_long : length (take 4 body) ≡ 4 = omega (arith, length-take 4 body, body_long) in
    let front : four (announced body) ≡ take 4 body = wide32.back (take 4 body) four_long (IsBytes-take 4 body body_bytes) in
    let count : announced body ≡ length (link_text f) = omega (arith, said, text_long, ap length t.0) in
    let begins : take 4 body ≡ four (length (link_text f)) = sym front ∙ ap four count in
    let is_body : body ≡ body_of f = sym (take-append-drop 4 body) ∙ ap (λ (x : List ℕ). x ++ drop 4 body) begins
    ∙ ap (λ (x : List ℕ). four (length (link_text f)) ++ x) t.0 in
    let is_tail : tail ≡ four (checksum body) = sym (wide32.back tail tail_long (IsBytes-drop n bytes is)) ∙ ap four r.0
    ∙ wide32.back (four (checksum body)) refl (four_bytes (checksum body)) in
    record {
      has_link = t.1;
      spelled = whole ∙ ap (λ (x : List ℕ). body ++ x) is_tail ∙ ap summed is_body;
    }

pub frame_again : (s : Dimensions) (f : Frame) → HasLink s f → frame_of_bytes s (link_frame f) ≡ Some f
unfolding frame_of_bytes
frame_again s f has =
    let n = length (link_frame f) - 4 in
    let c = four (checksum (body_of f)) in
    let at : length (body_of f) ≡ n = omega (arith, length-link f, length-body f) in
    let body : take n (link_frame f) ≡ body_of f = take_at (body_of f) c n at in
    let tail : drop n (link_frame f) ≡ c = drop_at (body_of f) c n at in
    let text : drop 4 (body_of f) ≡ link_text f = drop_at (four (length (link_text f))) (link_text f) 4 refl in
    rw (body, tail, eq-eqb (sum_number (body_of f)) (sum_number (body_of f)) refl, text) (link_again s f has)

pub unspelled_link : (s : Dimensions) (bytes more : List ℕ) → length bytes ≡ 8 + announced (bytes ++ more)
    → frame_of_bytes s bytes ≡ None → HasNoFrame s (bytes ++ more)
unspelled_link s bytes more len none f behind has e =
    let l = link_fronts s (bytes ++ more) behind f has e in
    let says = l.says in
    let long : length (link_frame f) ≡ length bytes = omega (arith, length-link f, len, says) in
    let is : bytes ≡ link_frame f = sym (take_at bytes more (length bytes) refl)
    ∙ ap (λ (t : List ℕ). take (length bytes) t) e ∙ take_at (link_frame f) behind (length bytes) long in
    absurd (some_none (frame_of_bytes s bytes) f (ap (frame_of_bytes s) is ∙ frame_again s f has) none)
  where
    some_none : (r : Option Frame) (f : Frame) → r ≡ Some f → r ≡ None → ⊥
    some_none r f p q = cc

-- the first bytes of what is kept and a piece, as many as the first four say with a sum behind them
record LinkJoined (front piece : List ℕ) (len : ℕ) : Type 0 where
  shorter : length front ≤ 8 + len
  long : length (front ++ take (8 + len - length front) piece) ≡ 8 + len
  whole : front ++ piece ≡ (front ++ take (8 + len - length front) piece) ++ drop (8 + len - length front) piece
  says : announced (front ++ take (8 + len - length front) piece) ≡ len

link_joined : (front piece : List ℕ) (len : ℕ) → IsPartialFrame front → len ≡ announced (front ++ piece)
    → 8 + len ≤ length front + length piece → LinkJoined front piece len
link_joined front piece len partial said there =
    let t = 8 + len - length front in
    let shorter : length front ≤ 8 + len = elim (cases_lt (length front) 4) [
      | inl less ↦ omega (arith, less)
      | inr le ↦ (let p = partial le in let below = p.1 in omega (arith, below, said, announced-more front piece le))
    ] in
    let long : length (front ++ take t piece) ≡ 8 + len = omega (arith, length-append front (take t piece), length-take t piece, shorter, there) in
    let whole : front ++ piece ≡ (front ++ take t piece) ++ drop t piece =
    ap (λ (s : List ℕ). front ++ s) (sym (take-append-drop t piece))
    ∙ sym (append_assoc front (take t piece) (drop t piece)) in
    record {
      shorter = shorter;
      long = long;
      whole = whole;
      says = sym (announced-more (front ++ take t piece) (drop t piece) (omega (arith, long))) ∙ ap announced (sym whole) ∙ sym said;
    }

pub link-whole : (s : Dimensions) (front piece : List ℕ) (len : ℕ) (f : Frame) → IsBytes front → IsBytes piece
    → IsPartialFrame front → len ≡ announced (front ++ piece) → len ≤ most → 8 + len ≤ length front + length piece
    → frame_of_bytes s (front ++ take (8 + len - length front) piece) ≡ Some f → IsLinkFrame s (front ++ take (8 + len - length front) piece) f
link-whole s front piece len f is_front is_piece partial said short there e =
    let j = link_joined front piece len partial said there in
    let long = j.long in
    let says = j.says in
    let t = 8 + len - length front in
    spelled_link s (front ++ take t piece) f
    (IsBytes-append front (take t piece) is_front (IsBytes-take t piece is_piece)) (omega (arith, long, says))
    (omega (arith, says, short)) e

pub link-bad : (s : Dimensions) (front piece : List ℕ) (len : ℕ) → IsPartialFrame front
    → len ≡ announced (front ++ piece) → 8 + len ≤ length front + length piece
    → frame_of_bytes s (front ++ take (8 + len - length front) piece) ≡ None → IsBroken s (front ++ piece)
link-bad s front piece len partial said there e =
    let j = link_joined front piece len partial said there in
    let t = 8 + len - length front in
    let long = j.long in
    let same : announced ((front ++ take t piece) ++ drop t piece) ≡ len = ap announced (sym j.whole) ∙ sym said in
    record {
      header = omega (arith, length-append front piece, there);
      due = λ _. omega (arith, length-append front piece, there, said);
      none = subst (HasNoFrame s) (sym j.whole) (unspelled_link s (front ++ take t piece) (drop t piece) (omega (arith, long, same)) e);
    }

-- a length out of range
pub range-bad : (s : Dimensions) (rest : List ℕ) → 4 ≤ length rest → ¬ (IsLength (announced rest)) → IsBroken s rest
range-bad s rest header out = record {
  header = header;
  due = λ within. absurd (out within);
  none = λ f more has e. out (link_fronts s rest more f has e).in_range;
}
