-- The oldest inherited update is looked for partition by partition.
use Rattle.std.proofs.Common.{ℕ, suc, ◌≡◌, ◌<◌, ◌+◌, ◌-◌, nat_lt, Bool, true, false, Option, Some, None, is_some, if◌then◌else◌, refl, ap, ◌∙◌, arith}
use Rattle.std.specs.List.{range_with_len}
use Rattle.group_run.specs.Applying.{head_at, replica_of}
use Rattle.group_run.specs.Asking.{Oldest, inherited_or, oldest_inherited}
use Rattle.group_run.specs.Process.{Head, Process}
use Rattle.process_service.specs.Inherited.{oldest_as}
use Rattle.process_service.specs.declared.inherited.Inherited.{Inherited}

-- what is found of one partition comes before what is found of others
if-first : (test : Bool) (x : Oldest) (found : Option Inherited) → is_some found ≡ true → (if test then Some x else None) ≡ oldest_as found
    → (other : Option Oldest) → (if test then Some x else other) ≡ oldest_as found
if-first true x found some is other = is
if-first false x None some is other = absurd (cc some)
if-first false x (Some f) some is other = absurd (cc is)

if-none : (test : Bool) (x : Oldest) (found : Option Inherited) → is_some found ≡ false → (if test then Some x else None) ≡ oldest_as found
    → (other : Option Oldest) → (if test then Some x else other) ≡ other
if-none true x None none is other = absurd (cc is)
if-none true x (Some f) none is other = absurd (cc none)
if-none false x found none is other = refl

module _ (p : Process) (k d : ℕ) (below : d < k) (found : Option Inherited) where
  abbrev rest : Option Oldest
  rest = oldest_inherited p (range_with_len (d + 1) (k - (d + 1)))

  looked : oldest_inherited p (range_with_len d (k - d)) ≡ inherited_or p d (head_at p d) rest
  looked = let e : k - d ≡ suc (k - (d + 1)) = omega (arith, below) in ap (λ (n : ℕ). oldest_inherited p (range_with_len d n)) e

  first-of : (h : Option Head) → is_some found ≡ true → inherited_or p d h None ≡ oldest_as found → inherited_or p d h rest ≡ oldest_as found
  first-of None some is = by found some is where
    by : (f : Option Inherited) → is_some f ≡ true → None ≡ oldest_as f → rest ≡ oldest_as f
    by None some is = absurd (cc some)
    by (Some f) some is = absurd (cc is)
  first-of (Some h) some is = if-first (nat_lt (replica_of p d).applied h.inherited) _ found some is rest

  none-of : (h : Option Head) → is_some found ≡ false → inherited_or p d h None ≡ oldest_as found → inherited_or p d h rest ≡ rest
  none-of None none is = refl
  none-of (Some h) none is = if-none (nat_lt (replica_of p d).applied h.inherited) _ found none is rest

  pub oldest-here : is_some found ≡ true → inherited_or p d (head_at p d) None ≡ oldest_as found
      → oldest_inherited p (range_with_len d (k - d)) ≡ oldest_as found
  oldest-here some is = looked ∙ first-of (head_at p d) some is

  pub oldest-behind : is_some found ≡ false → inherited_or p d (head_at p d) None ≡ oldest_as found → oldest_inherited p (range_with_len d (k - d)) ≡ rest
  oldest-behind none is = looked ∙ none-of (head_at p d) none is
