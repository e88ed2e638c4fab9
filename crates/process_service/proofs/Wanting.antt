-- Where memory may be wanted for a call, in the machine's words.
use Rattle.std.proofs.Common.{ℕ, ◌≡◌, Option, None, Some, sym, subst}
use Rattle.group_types.specs.Dimensions.{Dimensions, space_of}
use Rattle.group_types.specs.Hash.{home_of}
use Rattle.group_types.specs.Lists.{at}
use Rattle.memc_table.specs.Act.{key_of}
use Rattle.memc_table.specs.Asked.{Asked}
use Rattle.group_run.specs.Process.{Head, Process}
use Rattle.group_run.specs.Replica.{Replica, empty_replica}
use Rattle.head_service.specs.Beneath.{found_in}
use Rattle.head_service.specs.Serving.{Serving, serving}
use Rattle.head_service.specs.Wanting.{MayWant}
use Rattle.process_service.specs.Wanting.{AskWants, WantsBy}

module _ (s : Dimensions) (v : Serving) (b : Process) (h : Head) (r : Replica) (op : Asked) where
  abbrev d : ℕ
  d = home_of (key_of op.act) s.k

  head-wants : at None v.heads d ≡ Some h → at empty_replica v.replicas d ≡ r
      → MayWant (space_of s) h.inherited r op (found_in s d b) → AskWants s op (serving v b)
  head-wants head replica wants = subst (λ (o : Option Head). WantsBy s op d (serving v b) o) (sym head)
      (subst (λ (y : Replica). MayWant (space_of s) h.inherited y op (found_in s d b)) (sym replica) wants)

  -- the same, where the partition is known by another name
  pub wants-at : (e : ℕ) → e ≡ d → at None v.heads e ≡ Some h → at empty_replica v.replicas e ≡ r
      → MayWant (space_of s) h.inherited r op (found_in s e b) → AskWants s op (serving v b)
  wants-at e same = subst (λ (e : ℕ). at None v.heads e ≡ Some h → at empty_replica v.replicas e ≡ r
      → MayWant (space_of s) h.inherited r op (found_in s e b) → AskWants s op (serving v b)) (sym same) head-wants
