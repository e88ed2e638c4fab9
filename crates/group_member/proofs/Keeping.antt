-- What stands among a member's words stands after each of its words.
use Rattle.std.proofs.Common.{ℕ, ◌≡◌, ◌≢◌, ◌==◌, Bool, true, false, List, refl, sym, ap, subst, inl, inr, ◌∙◌, arith}
use Rattle.std.proofs.lemmas.Bool.{cases_eq}
use Rattle.std.proofs.lemmas.Grind.{common_steps}
use Rattle.std.specs.Prelude.{Result, Ok, Err, OnOk, is_err}
use Rattle.group_types.specs.Lists.{at, put}
use Rattle.group_types.specs.Names.{IsProcess, same_process}
use Rattle.group_types.specs.declared.process.ProcessId.{ProcessId}
use Rattle.group_types.specs.declared.process.ProcessId.TheVariants.{DataNode, ParityNode}
use Rattle.group_types.proofs.Lists.{at-put, at-put-other}
use Rattle.group_types.proofs.Names.{same-cases, same-ne, same-refl}
use Rattle.membership.specs.Members.{Membership, knows_dead, with_dead}
use Rattle.group_wire.specs.Sets.{one_or}
use Rattle.group_member.specs.Standing.{OwnWords}
use Rattle.group_member.specs.Words.{AreWords, CanCut, CanTakeDeath}

pub ok-of : {T E P : Type 0} (r : Result T E) → is_err r ≡ false → OnOk r P → P
ok-of (Ok x) none holds = holds
ok-of (Err e) none holds = absurd (cc none)

-- one word is written
word-put : (words : List Bool) (d e : ℕ) → at false (put false words d true) e ≡ one_or (e == d) true (at false words e)
word-put words d e = elim (cases_eq e d) [
  | inl same ↦
      let here : (e == d) ≡ true = grind (arith, common_steps) in
      ap (at false (put false words d true)) same ∙ at-put false false words d true ∙ sym (ap (λ (b : Bool). one_or b true (at false words e)) here)
  | inr other ↦
      let there : (e == d) ≡ false = grind (arith, common_steps) in
      at-put-other false words d e true other ∙ sym (ap (λ (b : Bool). one_or b true (at false words e)) there)
]

-- who is known dead with one more
pub with-is : (known : Membership) (x y : ProcessId) → knows_dead (with_dead known x) y ≡ one_or (same_process y x) true (knows_dead known y)
with-is known (DataNode d) (DataNode e) = word-put known.data_dead d e
with-is known (DataNode d) (ParityNode i) = refl
with-is known (ParityNode j) (DataNode e) = refl
with-is known (ParityNode j) (ParityNode i) = word-put known.parity_dead j i

pub with-shape : (known : Membership) (x : ProcessId) → (with_dead known x).shape ≡ known.shape
with-shape known (DataNode d) = refl
with-shape known (ParityNode i) = refl

true-or : (b : Bool) → one_or b true true ≡ true
true-or true = refl
true-or false = refl

-- those who were known still are
pub still-known : (known : Membership) (x y : ProcessId) → knows_dead known y ≡ true → knows_dead (with_dead known x) y ≡ true
still-known known x y is = with-is known x y ∙ ap (λ (b : Bool). one_or (same_process y x) true b) is ∙ true-or (same_process y x)

pub with-other : (known : Membership) (x y : ProcessId) → y ≢ x → knows_dead (with_dead known x) y ≡ knows_dead known y
with-other known x y other = with-is known x y ∙ ap (λ (b : Bool). one_or b true (knows_dead known y)) (same-ne y x other)

pub with-itself : (known : Membership) (x : ProcessId) → knows_dead (with_dead known x) x ≡ true
with-itself known x = with-is known x x ∙ ap (λ (b : Bool). one_or b true (knows_dead known x)) (same-refl x)

-- nobody else comes to be known
pub known-of : (P : ProcessId → Type 0) (known : Membership) (x : ProcessId) → P x → ((y : ProcessId) → knows_dead known y ≡ true → P y)
    → (y : ProcessId) → knows_dead (with_dead known x) y ≡ true → P y
known-of P known x here before y is = elim (same-cases y x) [
  | inl same ↦ subst P (sym same) here
  | inr other ↦ before y (sym (with-other known x y other) ∙ is)
]

pub cut-whole : (w : OwnWords) (x : ProcessId) → CanCut w x → AreWords w → AreWords (record w { cut = with_dead w.cut x })
cut-whole w x can whole = record {
  member = whole.member;
  lives = with-other w.cut x w.name (λ same. can.other (sym same)) ∙ whole.lives;
  named = known-of (IsProcess w.shape) w.cut x can.member whole.named;
  permitted = λ y is. still-known w.cut x y (whole.permitted y is);
  taken = whole.taken;
  many = whole.many;
  cut_shape = with-shape w.cut x ∙ whole.cut_shape;
  taken_shape = whole.taken_shape;
}

pub take-whole : (w : OwnWords) (x : ProcessId) → CanTakeDeath w x → AreWords w → AreWords (record w { taken = with_dead w.taken x })
take-whole w x can whole = record {
  member = whole.member;
  lives = whole.lives;
  named = whole.named;
  permitted = whole.permitted;
  taken = known-of (λ y. knows_dead w.permitted y ≡ true) w.taken x can.permitted whole.taken;
  many = whole.many;
  cut_shape = whole.cut_shape;
  taken_shape = with-shape w.taken x ∙ whole.taken_shape;
}
