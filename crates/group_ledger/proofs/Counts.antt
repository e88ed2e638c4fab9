-- Counts of calls stay low.
use Rattle.std.proofs.Common.{ℕ, zero, suc, ◌≡◌, ◌<◌, ◌≤◌, ◌+◌, List, [], ◌∷◌, Option, Some, None, IfSome, All, length, subst, ◌∙◌, arith}
use Rattle.std.proofs.lemmas.List.Elements.{All-set, All-weaker}
use Rattle.group_types.specs.Lists.{at}
use Rattle.group_types.proofs.Lists.{length-put, set_put}
use Rattle.group_run.specs.Replica.{callers}
use Rattle.group_run.specs.World.{asked_after}
use Rattle.group_ledger.specs.Books.{call_in}
use Rattle.group_ledger.specs.declared.entering.NewCall.{NewCall}

count-low : (asked : List ℕ) (events i : ℕ) → All (λ n. n ≤ events) asked → at 0 asked i ≤ events
count-low [] events i all = omega arith
count-low (n ∷ ns) events zero all = all 0 n (omega arith)
count-low (n ∷ ns) events (suc i) all = count-low ns events i (λ k d below. all (suc k) d (omega (arith, below)))

pub counts-low : (o : Option NewCall) (asked : List ℕ) (events : ℕ) → All (λ n. n ≤ events) asked → events < 4611686018427387904
    → IfSome o (λ c. at 0 asked c.caller < 4611686018427387904)
counts-low None asked events all few = tt
counts-low (Some c) asked events all few = let low = count-low asked events c.caller all in omega (arith, low, few)

-- the counts once a call is counted
pub counts-after : (o : Option NewCall) (events : ℕ) (asked : List ℕ) → IfSome o (λ c. c.caller < callers)
    → length asked ≡ callers → All (λ n. n ≤ events) asked
    → (length (asked_after asked (call_in asked o)) ≡ callers) × All (λ n. n ≤ events + 1) (asked_after asked (call_in asked o))
counts-after None events asked within long low = (long, All-weaker (λ n. n ≤ events) (λ n. n ≤ events + 1) (λ n low. omega (arith, low)) asked low)
counts-after (Some c) events asked within long low =
    let few = count-low asked events c.caller low in
    let here : c.caller < length asked = omega (arith, within, long) in
    let next : ℕ = suc (at 0 asked c.caller) in (
      length-put 0 asked c.caller next here ∙ long,
      subst (All (λ n. n ≤ events + 1)) (set_put 0 asked c.caller next here)
          (All-set (λ n. n ≤ events + 1) asked c.caller next (omega (arith, few))
          (All-weaker (λ n. n ≤ events) (λ n. n ≤ events + 1) (λ n low. omega (arith, low)) asked low)),
    )
