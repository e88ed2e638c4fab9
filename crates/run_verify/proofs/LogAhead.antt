-- The lines of the log right ahead, one after the other.
use Rattle.std.proofs.Common.{◌≡◌, ℕ, inl, inr, true, false, List, ◌∷◌, ◌++◌, sym, ap, ◌∙◌}
use Rattle.std.specs.Prelude.{◌↔◌}
use Rattle.std.proofs.lemmas.List.{append_cancel_left}
use Rattle.run_verify.specs.Passing.{IsFrontOf, LogsAhead, begins_entry}

-- a line that is no line of the log ends the search
pub ahead_stops : (front reply line : List ℕ) (lines : List (List ℕ)) → begins_entry line ≡ false → ¬ (LogsAhead front reply (line ∷ lines))
ahead_stops front reply line lines plain found = absurd (cc (found.0, plain))

-- a line that begins otherwise is passed over
pub ahead_goes : (front reply line : List ℕ) (lines : List (List ℕ)) → begins_entry line ≡ true → ¬ (IsFrontOf front line)
    → LogsAhead front reply lines ↔ LogsAhead front reply (line ∷ lines)
ahead_goes front reply line lines entry other = (λ found. (entry, inr (other, found)), back) where
  back : LogsAhead front reply (line ∷ lines) → LogsAhead front reply lines
  back (e, inl is) = absurd (other (is.0 ++ 32 ∷ reply, is.1))
  back (e, inr found) = found.1

-- a line that begins so decides
pub ahead_ends : (front reply line rest : List ℕ) (lines : List (List ℕ)) → begins_entry line ≡ true → line ≡ front
    ++ rest → ((op : List ℕ) × (rest ≡ op ++ 32 ∷ reply)) ↔ LogsAhead front reply (line ∷ lines)
ahead_ends front reply line rest lines entry is = (λ tells. (entry, inl (tells.0, is ∙ ap (λ (xs : List ℕ). front ++ xs) tells.1)), back) where
  back : LogsAhead front reply (line ∷ lines) → (op : List ℕ) × (rest ≡ op ++ 32 ∷ reply)
  back (e, inl found) = (found.0, append_cancel_left front rest (found.0 ++ 32 ∷ reply) (sym is ∙ found.1))
  back (e, inr found) = absurd (found.0 (rest, is))
