-- What an action of one member leaves of the words of another.
use Rattle.std.proofs.Common.{◌≡◌, ◌≢◌, Bool, false, List, [], ◌∷◌, ◌++◌, refl, sym, ap}
use Rattle.group_types.specs.Dimensions.{Dimensions}
use Rattle.group_types.specs.Names.{same_process}
use Rattle.group_types.specs.declared.process.ProcessId.{ProcessId}
use Rattle.group_wire.specs.Actions.{Action, Begin, Send, Read, Treat, Collect, Flush, Learn, Receive, GiveUp, Cut, Say}
use Rattle.group_wire.specs.Actions.{Hear, Permit, Take, Ping, Pong, Count, Show, LetGo, Stop}
use Rattle.group_wire.specs.Sending.{heard_first, words_after}
use Rattle.group_wire.specs.Sets.{Processes, changed, either, one_or, with_one}
use Rattle.group_wire.specs.State.{Words}
use Rattle.member_runs.specs.Reading.{rest_of}
use Rattle.member_runs.proofs.Acting.{by_of, reads_set}
use Rattle.member_runs.proofs.Rows.{changed-other, less_if, row-empty, row-read}

-- the words of q stay, but that p may have read the first set
pub record KeepsWords (w now : Words) (q p : ProcessId) (read : Bool) : Type 0 where
  pub cut : now.cut q ≡ w.cut q
  pub heard : now.heard q ≡ w.heard q
  pub permitted : now.permitted q ≡ w.permitted q
  pub taken : now.taken q ≡ w.taken q
  pub said : (r : ProcessId) → now.said q r ≡ less_if read p (w.said q) r

module _ (w : Words) (q : ProcessId) where
  same-words : (p : ProcessId) → KeepsWords w w q p false
  same-words p = record { cut = refl; heard = refl; permitted = refl; taken = refl; said = λ r. refl }

  heard-words : (x p : ProcessId) (wire : List Processes) → wire ≡ w.said x p → q ≢ p → KeepsWords w (heard_first x p wire w) q p (same_process q x)
  heard-words x p [] is other = record { cut = refl; heard = refl; permitted = refl; taken = refl; said = λ r. row-empty w.said x p (sym is) q r }
  heard-words x p (set ∷ rest) is other = record {
    cut = refl;
    heard = changed-other w.heard p q (changed (w.heard p) x (either (w.heard p x) set)) other;
    permitted = refl;
    taken = refl;
    said = λ r. row-read w.said x p rest (ap rest_of is) q r;
  }

  pub keeps-words : (s : Dimensions) (a : Action) → q ≢ by_of s a → KeepsWords w (words_after w a) q (by_of s a) (reads_set a q)
  keeps-words s (Cut x p) other =
      record { cut = changed-other w.cut p q (with_one (w.cut p) x) other; heard = refl; permitted = refl; taken = refl; said = λ r. refl }
  keeps-words s (Say p) other = record {
    cut = refl;
    heard = refl;
    permitted = refl;
    taken = refl;
    said = λ r. ap (λ (row : ProcessId → List Processes). row r)
        (changed-other w.said p q (λ to. one_or (w.cut p to) (w.said p to) (w.said p to ++ w.cut p ∷ [])) other);
  }
  keeps-words s (Hear x p) other = heard-words x p (w.said x p) refl other
  keeps-words s (Permit p) other =
      record { cut = refl; heard = refl; permitted = changed-other w.permitted p q (w.cut p) other; taken = refl; said = λ r. refl }
  keeps-words s (Take x p) other =
      record { cut = refl; heard = refl; permitted = refl; taken = changed-other w.taken p q (with_one (w.taken p) x) other; said = λ r. refl }
  keeps-words s (Begin caller op) other = same-words _
  keeps-words s (Send caller to) other = same-words _
  keeps-words s (Read x p) other = same-words _
  keeps-words s (Treat p place) other = same-words _
  keeps-words s (Collect caller call p) other = same-words _
  keeps-words s (Flush p) other = same-words _
  keeps-words s (Learn x p) other = same-words _
  keeps-words s (Receive x p) other = same-words _
  keeps-words s (GiveUp caller) other = same-words _
  keeps-words s (Ping to p) other = same-words _
  keeps-words s (Pong x p) other = same-words _
  keeps-words s (Count x p) other = same-words _
  keeps-words s (Show caller ping) other = same-words _
  keeps-words s (LetGo caller) other = same-words _
  keeps-words s (Stop p) other = same-words _
