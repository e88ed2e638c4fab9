-- What a cessation makes of what a row keeps.
use Rattle.std.proofs.Common.{◌≡◌, ℕ, ◌<◌, ◌==◌, ◌&&◌, nat_le, not, max, List, length, set, filter, sym, ap, ap₂, ◌∙◌}
use Rattle.group_types.specs.Lists.{at, put}
use Rattle.group_types.proofs.Lists.{set_put}
use Rattle.group_run.specs.Process.{Copy, Process, RowState}
use Rattle.group_run.specs.Rows.{copies_ceased}

module _ (l upto : ℕ) where
  -- the copies for other sessions
  abbrev pub left : List Copy → List Copy
  left copies = filter (λ c. not (c.leader == l && nat_le c.number upto)) copies

  pub state_ceased : (copies now : List Copy) (ceased : List ℕ) (last : ℕ) → now ≡ left copies → l < length ceased → last ≡ max (at 0 ceased l) upto
      → (p : Process) → p.as_row ≡ record { copies = copies; ceased = ceased }
      → record { copies = now; ceased = set ceased l last } ≡ (copies_ceased l upto p).as_row
  state_ceased copies now ceased last is within most p row =
      let numbers : set ceased l last ≡ put 0 ceased l (max (at 0 ceased l) upto) = set_put 0 ceased l last within ∙ ap (put 0 ceased l) most in
      ap₂ (λ (cs : List Copy) (ns : List ℕ). record { copies = cs; ceased = ns }) is numbers
      ∙ ap (λ (r : RowState). record { copies = left r.copies; ceased = put 0 r.ceased l (max (at 0 r.ceased l) upto) }) (sym row)
