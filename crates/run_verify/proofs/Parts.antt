-- The code of a part of spaces is the part of their code.
use Rattle.std.proofs.Common.{◌≡◌, ◌≤◌, ◌+◌, ◌-◌, ℕ, List, [], ◌∷◌, length, replicate, take, refl, sym, ap, ◌∙◌, arith}
use Rattle.std.proofs.lemmas.List.{drop-replicate, length-replicate, take-replicate}
use Rattle.erasure_code.specs.Code.{coded, coded_from, coefficient}
use Rattle.erasure_code.specs.Spaces.{bytes_at}
use Rattle.field_byte.proofs.Vectors.{chunk-add_bytes, chunk-scale, length-add_bytes, length-scale}
use Rattle.field_byte.specs.Vectors.{add_bytes, scale}
use Rattle.group_types.specs.declared.run.Run.{Run}
use Rattle.run_verify.specs.Updates.{spaces_by}

-- a sum is the part of a whole sum, to which spaces are still to be added
abbrev pub IsSummed : ℕ → ℕ → ℕ → Run → (ℕ → ℕ → List ℕ) → ℕ → List ℕ → List ℕ → List ℕ → Type 0
IsSummed m i size run spaces d rest sum target =
    (whole : List ℕ) × (length whole ≡ size) × (bytes_at run.at run.len whole ≡ sum) × (coded_from m i d whole (spaces_by spaces d rest) ≡ target)

module _ (m i size : ℕ) (run : Run) (inside : run.at + run.len ≤ size) (spaces : ℕ → ℕ → List ℕ) where
  pub sum_begins : (stamp : List ℕ) → IsSummed m i size run spaces 0 stamp (replicate run.len 0) (coded m i size (spaces_by spaces 0 stamp))
  sum_begins stamp = (
    replicate size 0,
    length-replicate size 0,
    ap (take run.len) (drop-replicate run.at size 0) ∙ take-replicate run.len (size - run.at) 0 (omega (arith, inside)),
    refl,
  )

  pub sum_goes : (d n : ℕ) (ns sum target space now : List ℕ) → IsSummed m i size run spaces d (n ∷ ns) sum target → space ≡ spaces d n → length space ≡ size
      → now ≡ add_bytes sum (scale (coefficient m i d) (bytes_at run.at run.len space)) → IsSummed m i size run spaces (d + 1) ns now target
  sum_goes d n ns sum target space now (whole, long, part, rest) is size_is added =
      let scaled : length (scale (coefficient m i d) space) ≡ length space = length-scale (coefficient m i d) space in
      let same : length whole ≡ length (scale (coefficient m i d) space) = long ∙ sym size_is ∙ sym scaled in (
        add_bytes whole (scale (coefficient m i d) space),
        length-add_bytes whole (scale (coefficient m i d) space) same ∙ long,
        chunk-add_bytes run.at run.len whole (scale (coefficient m i d) space) same
            ∙ ap (add_bytes (bytes_at run.at run.len whole)) (chunk-scale (coefficient m i d) run.at run.len space)
            ∙ ap (λ (bytes : List ℕ). add_bytes bytes (scale (coefficient m i d) (bytes_at run.at run.len space))) part ∙ sym added,
        ap (λ (x : List ℕ). coded_from m i (d + 1) (add_bytes whole (scale (coefficient m i d) x)) (spaces_by spaces (d + 1) ns)) is ∙ rest,
      )

  pub sum_ends : (d : ℕ) (rest sum target : List ℕ) → IsSummed m i size run spaces d rest sum target → length rest ≡ 0 → sum ≡ bytes_at run.at run.len target
  sum_ends d [] sum target (whole, long, part, is) none = sym part ∙ ap (bytes_at run.at run.len) is
  sum_ends d (n ∷ ns) sum target summed none = absurd (omega (arith, none))
