-- What the bytes of a whole frame in two pieces are.
use Rattle.std.proofs.Common.{◌≡◌, ◌<◌, ◌≤◌, ℕ, zero, suc, ◌+◌, ◌-◌, List, [], ◌∷◌, ◌++◌, length, take, get_or, Result}
use Rattle.std.proofs.Common.{Ok, Err, IfOk, refl, sym, ap, subst, arith}
use Rattle.group_types.specs.Dimensions.{Dimensions}
use Rattle.wire_codec.specs.Reading.{Gives}
use Rattle.wire_codec.specs.Stream.{announced}
use Rattle.wire_codec.specs.declared.fault.ReadFault.{ReadFault}
use Rattle.wire_codec.specs.declared.fault.ReadFault.TheVariants.{NoSpelling, Want}
use Rattle.wire_codec.proofs.Codes.{IsBytes}
use Rattle.link_frames.specs.declared.frame.Frame.{Frame}
use Rattle.link_frames.specs.Cuts.{IsWholeCut, Waiting}
use Rattle.link_frames.specs.Links.{IsLinkFrame, IsPartialFrame, IsBroken, frame_of_bytes}
use Rattle.link_frames.proofs.Whole.{link-whole, link-bad}

abbrev pub Read : Dimensions → List ℕ → List ℕ → ℕ → Result Frame ReadFault → Type 0
Read s front piece taken r = Gives (λ f. f) r (frame_of_bytes s (front ++ take taken piece))

pub found-whole : (s : Dimensions) (front piece : List ℕ) (taken : ℕ) (r : Result Frame ReadFault) → IsBytes front
    → IsBytes piece → IsPartialFrame front → IsWholeCut front piece taken → Read s front piece taken r
    → IfOk r (λ f. IsLinkFrame s (front ++ take taken piece) f)
found-whole s front piece taken (Ok f) is_front is_piece partial cut read =
    let n = announced (front ++ piece) in
    subst (λ (t : ℕ). IsLinkFrame s (front ++ take t piece) f) (sym cut.last)
    (link-whole s front piece n f is_front is_piece partial refl cut.in_range.1 cut.there (subst (λ (t : ℕ). Read s front piece t (Ok f)) cut.last read))
found-whole s front piece taken (Err fault) is_front is_piece partial cut read = tt

pub bad-whole : (s : Dimensions) (front piece : List ℕ) (taken : ℕ) (r : Result Frame ReadFault) → IsPartialFrame front
    → IsWholeCut front piece taken → Read s front piece taken r → r ≡ Err NoSpelling → IsBroken s (front ++ piece)
bad-whole s front piece taken (Err NoSpelling) partial cut read is =
    link-bad s front piece (announced (front ++ piece)) partial refl cut.there (subst (λ (t : ℕ). Read s front piece t (Err NoSpelling)) cut.last read)
bad-whole s front piece taken (Err Want) partial cut read is = absurd cc
bad-whole s front piece taken (Ok f) partial cut read is = absurd cc

pub bytes-within : (xs : List ℕ) → ((i : ℕ) → i < length xs → get_or xs i 0 < 256) → IsBytes xs
bytes-within [] within i = omega arith
bytes-within (x ∷ xs) within zero = within 0 (omega arith)
bytes-within (x ∷ xs) within (suc i) = bytes-within xs (λ j below. within (suc j) (omega (arith, below))) i

-- what is kept of a reader in whose front these bytes stand now
abbrev pub with_front : Waiting → List ℕ → Waiting
with_front w front = record w { front = front }

pub found-next : (inside now : Waiting) (new piece : List ℕ) (taken : ℕ) (f : Frame) → inside ≡ now → new ≡ []
    → IsWholeCut inside.front piece taken → IsLinkFrame inside.shape (inside.front ++ take taken piece) f
    → (with_front inside new ≡ with_front now []) × (taken ≤ length piece) × IsLinkFrame now.shape (now.front ++ take taken piece) f
found-next inside now new piece taken f is none cut found =
    let last = cut.last in
    let there = cut.there in
    subst (λ (v : Waiting). (with_front inside new ≡ with_front v []) × (taken ≤ length piece) × IsLinkFrame v.shape (v.front ++ take taken piece) f) is
    (ap (with_front inside) none, omega (arith, last, there), found)

pub bad-next : (inside now : Waiting) (piece : List ℕ) → inside ≡ now → IsBroken inside.shape (inside.front ++ piece) → IsBroken now.shape (now.front ++ piece)
bad-next inside now piece is broken = subst (λ (v : Waiting). IsBroken v.shape (v.front ++ piece)) is broken
