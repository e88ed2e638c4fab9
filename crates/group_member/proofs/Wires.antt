-- Wires of a member on which a frame more was sent, or from which one was read.
use Rattle.std.proofs.Common.{◌≡◌, ◌≢◌, Bool, true, false, List, [], ◌∷◌, ◌++◌, sym, ap, inl, inr, ◌∙◌}
use Rattle.group_types.specs.declared.process.ProcessId.{ProcessId}
use Rattle.group_types.proofs.Names.{same-cases}
use Rattle.group_wire.specs.Sending.{sent_on}
use Rattle.group_wire.specs.Sets.{Processes, changed, changed_from, one_or}
use Rattle.group_member.specs.Acting.{behind_at}
use Rattle.group_member.proofs.Reading.{changed-here, changed-other}

module _ {X : Type 0} (wires : ProcessId → ProcessId → List X) (p q : ProcessId) (row : List X) where
  -- a wire was changed, and others weren't
  pub this-wire : changed_from wires p q row p q ≡ row
  this-wire = ap (λ (f : ProcessId → List X). f q) (changed-here wires p (changed (wires p) q row)) ∙ changed-here (wires p) q row

  pub other-wire : (r : ProcessId) → r ≢ q → changed_from wires p q row p r ≡ wires p r
  other-wire r other = ap (λ (f : ProcessId → List X). f r) (changed-here wires p (changed (wires p) q row)) ∙ changed-other (wires p) q r row other

  pub other-wires : (x r : ProcessId) → x ≢ p → changed_from wires p q row x r ≡ wires x r
  other-wires x r other = ap (λ (f : ProcessId → List X). f r) (changed-other wires p x (changed (wires p) q row) other)

module _ {X : Type 0} (cut : ProcessId → Processes) (wires : ProcessId → ProcessId → List X) (p q : ProcessId) (frame : X) where
  grows : List X
  grows = one_or (cut p q) (wires p q) (wires p q ++ frame ∷ [])

  -- a frame was sent to q
  pub sent-here : cut p q ≡ false → sent_on cut wires p q frame p q ≡ wires p q ++ frame ∷ []
  sent-here uncut = this-wire wires p q _ ∙ ap (λ (b : Bool). one_or b (wires p q) (wires p q ++ frame ∷ [])) uncut

  pub sent-lost : cut p q ≡ true → sent_on cut wires p q frame p q ≡ wires p q
  sent-lost is = this-wire wires p q _ ∙ ap (λ (b : Bool). one_or b (wires p q) (wires p q ++ frame ∷ [])) is

  pub sent-elsewhere : (r : ProcessId) → r ≢ q → sent_on cut wires p q frame p r ≡ wires p r
  sent-elsewhere r other = other-wire wires p q _ r other

  -- it was handed out
  pub sent-handed : (out : ProcessId → List X) → cut p q ≡ false → ((r : ProcessId) → r ≢ p → wires p r ≡ out r) → q ≢ p
      → (r : ProcessId) → r ≢ p → sent_on cut wires p q frame p r ≡ behind_at out q frame r
  sent-handed out uncut same apart r other = elim (same-cases r q) [
    | inl here ↦ ap (sent_on cut wires p q frame p) here ∙ sent-here uncut ∙ ap (λ (l : List X). l ++ frame ∷ []) (same q apart)
        ∙ sym (changed-here out q (out q ++ frame ∷ [])) ∙ ap (behind_at out q frame) (sym here)
    | inr there ↦ sent-elsewhere r there ∙ same r other ∙ sym (changed-other out q r (out q ++ frame ∷ []) there)
  ]

  -- it is lost
  pub sent-nowhere : cut p q ≡ true → (r : ProcessId) → sent_on cut wires p q frame p r ≡ wires p r
  sent-nowhere is r = elim (same-cases r q) [
    | inl here ↦ ap (sent_on cut wires p q frame p) here ∙ sent-lost is ∙ ap (wires p) (sym here)
    | inr there ↦ sent-elsewhere r there
  ]
