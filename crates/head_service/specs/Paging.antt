-- Which pages of a space a step makes.
use Rattle.std.specs.Prelude.{ℕ, ⊤, List, All, Contains, IfSome}
use Rattle.group_message.specs.declared.update.Body.{Body}
use Rattle.group_message.specs.declared.update.Update.{Update}
use Rattle.group_calls.specs.declared.decision.Decision.{Decision}
use Rattle.group_calls.specs.declared.decision.Decision.TheVariants.{Issue}
use Rattle.page_map.specs.Pages.{Meets}
use Rattle.group_run.specs.Replica.{run_of}

-- an update of this body writes no byte of block b, where blocks have `block` bytes
abbrev pub Misses : ℕ → Body → ℕ → Type 0
Misses block body b = IfSome (run_of body) (λ run. ¬ (Meets block run.at run.len b))

-- and none of these updates does
abbrev pub AllMiss : ℕ → List Update → ℕ → Type 0
AllMiss block us b = All (λ u. Misses block u.body b) us

-- the update that a head decided to issue, if it did, writes no byte of block b
abbrev pub DecisionMisses : ℕ → Decision → ℕ → Type 0
DecisionMisses block (Issue body outcome) b = Misses block body b
DecisionMisses block _ b = ⊤

-- the pages that were made stay, and none of the blocks that are missed gets one
pub record MakesNoneOf (IsMissed : ℕ → Type 0) (old new : List ℕ) : Type 0 where
  pub kept : (b : ℕ) → Contains old b → Contains new b
  pub others : (b : ℕ) → IsMissed b → Contains new b → Contains old b
