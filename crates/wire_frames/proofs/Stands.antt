-- What a decoder keeps of a stream.
use Rattle.std.proofs.Common.{◌≡◌, ℕ, ◌+◌, ◌≤◌, Bool, true, false, List, length, MatchBool, refl, ap, length-append, arith}
use Rattle.group_message.specs.declared.message.Message.{Message}
use Rattle.wire_codec.specs.Stream.{CanBeFed, DecoderState, HasDecoded, IsBad, IsPartial, stream_of}

pub good_stands : (P Q : Type 0) (b : Bool) → b ≡ false → MatchBool b P Q → Q
good_stands P Q true is given = cc
good_stands P Q false is given = given

pub bad_stands : (P Q : Type 0) (b : Bool) → b ≡ true → MatchBool b P Q → P
bad_stands P Q true is given = given
bad_stands P Q false is given = cc

pub never-true : (b : Bool) → (b ≡ true → ⊥) → b ≡ false
never-true true never = absurd (never refl)
never-true false never = refl

-- a decoder that has met no bad frame keeps the rest, which is less than a frame
pub rest-good : (kept : DecoderState) (input : List ℕ) (messages : List Message) (h : HasDecoded kept input messages)
    → kept.bad ≡ false → (h.rest ≡ kept.front) × IsPartial h.rest
rest-good kept input messages h good = good_stands (IsBad h.rest) ((h.rest ≡ kept.front) × IsPartial h.rest) kept.bad good h.stands

pub rest-bad : (kept : DecoderState) (input : List ℕ) (messages : List Message) (h : HasDecoded kept input messages) → kept.bad ≡ true → IsBad h.rest
rest-bad kept input messages h bad = bad_stands (IsBad h.rest) ((h.rest ≡ kept.front) × IsPartial h.rest) kept.bad bad h.stands

-- it names the place behind the frames
pub place-is : (kept : DecoderState) (input : List ℕ) (messages : List Message) → HasDecoded kept input messages → kept.begun ≡ length (stream_of messages)
place-is kept input messages h = let place = h.place in omega (arith, place, ap length h.reads.whole, length-append (stream_of messages) h.rest)

-- a piece may be fed where with it the stream is no longer than it may be
pub taken-within : (kept : DecoderState) (input : List ℕ) (messages : List Message) (n : ℕ) → HasDecoded kept input messages
    → length input + n ≤ 4611686018427387904 → CanBeFed kept n
taken-within kept input messages n h within good =
    let place = h.place in
    let front = (rest-good kept input messages h good).0 in
    omega (arith, place, ap length front, within)
