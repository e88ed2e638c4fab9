-- What a read of bytes in memory hands out.
use Rattle.std.proofs.Common.{◌≡◌, ℕ, ◌+◌, ◌<◌, ◌↔◌, min, Bool, List, ◌++◌, length, take, drop, Some, IsTrue, sym, ap, ◌∙◌, arith}
use Rattle.std.proofs.Math.Seq.{take-add, take-append_seam}
use Rattle.std.proofs.Math.ListN.{drop_of_length-le}
use Rattle.std.proofs.lemmas.List.{length-drop, length-take-le, drop-drop}
use Rattle.edge_io.specs.Moving.{GivesFront}

abbrev Given : List ℕ → ℕ → ℕ → Bool → Bool → List ℕ → Type 0
Given bytes at n ended now room =
    GivesFront (record { taken = take at bytes; ended = ended; left = Some (drop at bytes) })
    (record { taken = take (at + n) bytes; ended = now; left = Some (drop (at + n) bytes) }) n room

pub gives : (bytes : List ℕ) (at n most : ℕ) (ended now : Bool) (room : List ℕ) → 0 < most → n ≡ min (min (length room) (length (drop at bytes))) most
    → drop at bytes ≡ take n room ++ drop n (drop at bytes) → (IsTrue now ↔ ((n ≡ 0) × (0 < length room))) → Given bytes at n ended now room
gives bytes at n most ended now room some count front meets = record {
  takes = record { taken = take-add at n bytes ∙ ap (λ (bs : List ℕ). take at bytes ++ bs) first; left = front ∙ ap (λ (bs : List ℕ). take n room ++ bs) rest };
  ended = (
    λ end. meets.0 end.met,
    λ none. record {
      met = meets.1 none;
      none = drop_of_length-le bytes (let short = length-drop at bytes in
          omega (arith, none.0, none.1, count, some, short));
    },
  );
}
  where
    first : take n (drop at bytes) ≡ take n room
    first = ap (take n) front ∙ ap (λ (k : ℕ). take k (take n room ++ drop n (drop at bytes)))
        (sym (length-take-le n room (omega (arith, count)))) ∙ take-append_seam (take n room) (drop n (drop at bytes))

    rest : drop n (drop at bytes) ≡ drop (at + n) bytes
    rest = drop-drop n at bytes
