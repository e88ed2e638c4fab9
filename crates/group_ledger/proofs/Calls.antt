-- Names of calls: whether two are one.
use Rattle.std.proofs.Common.{◌≡◌, ◌≢◌, Bool, true, false, refl, sym, ap, ◌∙◌, arith}
use Rattle.std.proofs.lemmas.Grind.{common_steps}
use Rattle.group_calls.specs.Turns.{CallName}
use Rattle.group_run.specs.World.{same_call}

pub same-refl : (a : CallName) → same_call a a ≡ true
same-refl a = grind (arith, common_steps)

pub same-is : (a b : CallName) → same_call a b ≡ true → a ≡ b
same-is a b same =
    let caller : a.caller ≡ b.caller = grind (arith, common_steps) in
    let call : a.call ≡ b.call = grind (arith, common_steps) in
    λ i. record { caller = caller i; call = call i }

pub same-not : (a b : CallName) → a ≢ b → same_call a b ≡ false
same-not a b other = by (same_call a b) refl where
  by : (t : Bool) → same_call a b ≡ t → same_call a b ≡ false
  by true e = absurd (other (same-is a b e))
  by false e = e

pub same-other : (a b : CallName) → same_call a b ≡ false → a ≢ b
same-other a b e same = cc (e, same-refl b, ap (λ (c : CallName). same_call c b) same)

pub same-flip : (a b : CallName) → same_call a b ≡ same_call b a
same-flip a b = by (same_call b a) refl where
  by : (t : Bool) → same_call b a ≡ t → same_call a b ≡ same_call b a
  by true e = ap (λ (c : CallName). same_call c b) (sym (same-is b a e)) ∙ same-refl b ∙ sym e
  by false e = same-not a b (λ same. same-other b a e (sym same)) ∙ sym e
