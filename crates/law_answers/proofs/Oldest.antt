-- The oldest inherited update that is unfinished at a process.
use Rattle.std.proofs.Common.{ℕ, zero, suc, ◌≡◌, ◌≢◌, ◌<◌, ◌≤◌, ◌+◌, nat_lt, Bool, true, false, Option, Some, None, ◌⊎◌}
use Rattle.std.proofs.Common.{inl, inr, if◌then◌else◌, refl, sym, subst, arith}
use Rattle.std.proofs.lemmas.Bool.{cases_eq}
use Rattle.std.proofs.lemmas.Grind.{common_steps}
use Rattle.std.specs.List.{range_with_len}
use Rattle.group_run.specs.Applying.{head_at, replica_of}
use Rattle.group_run.specs.Asking.{Oldest, inherited_or, oldest_inherited}
use Rattle.group_run.specs.Causes.{HasInherited}
use Rattle.group_run.specs.Process.{Head, Process}

-- the lowest partition from a on that has one, and its number
pub record IsOldest (p : Process) (a n : ℕ) (o : Oldest) : Type 0 where
  pub from : a ≤ o.partition
  pub to : o.partition < a + n
  pub has : HasInherited p o.partition
  pub lowest : (e : ℕ) → a ≤ e → e < o.partition → ¬ (HasInherited p e)
  pub number : o.number ≡ suc (replica_of p o.partition).applied

pub is-oldest : (p : Process) (n a : ℕ) (o : Oldest) → oldest_inherited p (range_with_len a n) ≡ Some o → IsOldest p a n o
is-oldest p zero a o is = absurd (cc is)
is-oldest p (suc n) a o is = by (head_at p a) refl is (is-oldest p n (a + 1) o) where
  later : ¬ (HasInherited p a) → IsOldest p (a + 1) n o → IsOldest p a (suc n) o
  later not_here rest = record {
    from = let low = rest.from in omega (arith, low);
    to = let high = rest.to in omega (arith, high);
    has = rest.has;
    lowest = λ e low high. step e low high (cases_eq e a);
    number = rest.number;
  } where
    step : (e : ℕ) → a ≤ e → e < o.partition → (e ≡ a) ⊎ (e ≢ a) → ¬ (HasInherited p e)
    step e low high (inl same) has = not_here (subst (HasInherited p) same has)
    step e low high (inr other) has = rest.lowest e (omega (arith, low, other)) high has

  here : (h : Head) → head_at p a ≡ Some h → (b : Bool) → nat_lt (replica_of p a).applied h.inherited ≡ b
      → (if b then Some (record { partition = a; number = suc (replica_of p a).applied }) else oldest_inherited p (range_with_len (a + 1) n)) ≡ Some o
      → (oldest_inherited p (range_with_len (a + 1) n) ≡ Some o → IsOldest p (a + 1) n o) → IsOldest p a (suc n) o
  here h heads true test is rest =
      let same : record { partition = a; number = suc (replica_of p a).applied } ≡ o = cc is in
      subst (IsOldest p a (suc n)) same
      (record {
        from = omega arith;
        to = omega arith;
        has = (h, heads, grind (arith, common_steps));
        lowest = λ e low high has. absurd (omega (arith, low, high));
        number = refl;
      })
  here h heads false test is rest = later not_here (rest is) where
    not_here : ¬ (HasInherited p a)
    not_here (k, heads_k, short) =
        let same : h ≡ k = cc (heads, heads_k) in
        let low : (replica_of p a).applied < h.inherited = subst (λ (x : Head). (replica_of p a).applied < x.inherited) (sym same) short in
        let most : h.inherited ≤ (replica_of p a).applied = grind (arith, common_steps) in
        absurd (omega (arith, low, most))

  by : (h : Option Head) → head_at p a ≡ h → inherited_or p a h (oldest_inherited p (range_with_len (a + 1) n)) ≡ Some o
      → (oldest_inherited p (range_with_len (a + 1) n) ≡ Some o → IsOldest p (a + 1) n o) → IsOldest p a (suc n) o
  by None heads is rest = later (λ has. absurd (cc (heads, has.1))) (rest is)
  by (Some h) heads is rest = here h heads (nat_lt (replica_of p a).applied h.inherited) refl is rest
