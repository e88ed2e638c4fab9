-- The laws of fine histories.
use Rattle.std.specs.Prelude.{ℕ, ◌≡◌, ◌≢◌, AllPairs, ◌<◌, ◌≤◌, List, [], ◌∷◌, ◌++◌, length, take, drop, All}
use Rattle.group_types.specs.Dimensions.{Dimensions, space_of}
use Rattle.group_types.specs.Hash.{home_of}
use Rattle.group_types.specs.Each.{Each}
use Rattle.group_message.specs.declared.update.Body.{Body}
use Rattle.group_message.specs.declared.update.Body.TheVariants.{Put, Remove, Touch}
use Rattle.group_message.specs.declared.update.Outcome.{Outcome}
use Rattle.group_message.specs.declared.update.Update.{Update}
use Rattle.group_calls.specs.declared.decision.Decision.TheVariants.{Issue}
use Rattle.group_run.specs.Applying.{replica_of}
use Rattle.group_run.specs.Asking.{found_at, update_of}
use Rattle.group_run.specs.Deciding.{decide}
use Rattle.group_run.specs.Fitting.{AllCanCome, Writes}
use Rattle.group_run.specs.Process.{Process}
use Rattle.group_run.specs.Replica.{Items, Replica, items_after}
use Rattle.group_run.specs.World.{AskedCall}
use Rattle.law_updates.specs.Decisions.{ReadsFrom}
use Rattle.law_updates.specs.Fine.{Fine, IsCallOf}
use Rattle.law_updates.proofs.Fine.{ComesBehind, IsReplicaOf}
use Rattle.law_updates.specs.Store.{StoreFits, store_after}

-- how fine histories come about: they begin empty, more of them may be applied, their first updates are fine,
-- and more calls may be asked
pub record FineLaws (s : Dimensions) (d : ℕ) : Type 0 where
  pub start : (calls : List AskedCall) → Fine s calls d 0 []
  pub rises : (calls : List AskedCall) (a b : ℕ) (h : List Update) → Fine s calls d a h → a ≤ b → b ≤ length h → Fine s calls d b h
  pub front : (calls : List AskedCall) (a n : ℕ) (h : List Update) → Fine s calls d a h → a ≤ n → Fine s calls d a (take n h)
  pub more : (calls later : List AskedCall) (a : ℕ) (h : List Update) → Fine s calls d a h → Fine s (calls ++ later) d a h

-- so it is in every partition
abbrev pub HistoriesAreFine : Type 0
HistoriesAreFine = (s : Dimensions) (d : ℕ) → FineLaws s d

-- the update that a head issues for a new call prolongs a fine history, of which the head has a replica
abbrev pub IssuesAreFine : Type 0
IssuesAreFine = (s : Dimensions) (calls : List AskedCall) (d inherited : ℕ) (h : List Update) (c : AskedCall) (p : Process) (body : Body) (outcome : Outcome)
    → let r : Replica = replica_of p d in
    Fine s calls d r.applied h → IsReplicaOf r.applied h r → IsCallOf s d c → ComesBehind calls c
    → ReadsFrom (store_after s d (take r.applied h)).space (found_at s d p p.name)
    → decide (space_of s) inherited r c.op (found_at s d p p.name) ≡ Issue body outcome
    → Fine s (calls ++ c ∷ []) d r.applied (h ++ update_of c.name c.op d body outcome p ∷ [])

-- a difference consists of bytes
abbrev pub WritesBytes : Body → Type 0
WritesBytes (Put _ _ _ delta) = All (λ b. b < 256) delta
WritesBytes Remove = Unit {0}
WritesBytes (Touch _) = Unit {0}

-- what a fine history has for the bytes, and for those that receive its updates
pub record FineFits (s : Dimensions) (calls : List AskedCall) (d a : ℕ) (h : List Update) : Type 0 where
  pub store : (n : ℕ) → StoreFits s (store_after s d (take n h))
  pub writes : Each (λ u. Writes (space_of s) u.body) h
  pub bytes : Each (λ u. WritesBytes u.body) h
  pub comes : (r : Replica) (n : ℕ) → a ≤ n → IsReplicaOf a (take n h) r → AllCanCome (space_of s) r (drop n h)

-- so it is of every fine history
abbrev pub FineHistoriesFit : Type 0
FineHistoriesFit = (s : Dimensions) (calls : List AskedCall) (d a : ℕ) (h : List Update) → Fine s calls d a h → FineFits s calls d a h

-- the items that a fine history leaves: each is of a key of the partition, and no key has two
pub record FineItems (s : Dimensions) (d : ℕ) (items : Items) : Type 0 where
  pub homes : All (λ x. home_of x.0 s.k ≡ d) items
  pub once : AllPairs (λ x y. x.0 ≢ y.0) items

-- so it is of the first updates of every fine history
abbrev pub FineHistoriesLeaveItems : Type 0
FineHistoriesLeaveItems = (s : Dimensions) (calls : List AskedCall) (d a n : ℕ) (h : List Update) → Fine s calls d a h
    → FineItems s d (items_after [] (take n h))
