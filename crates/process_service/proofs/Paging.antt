-- The pages that a call makes, in the machine's words.
use Rattle.std.proofs.Common.{ℕ, ◌≡◌, List, Option, None, Some, sym, subst}
use Rattle.std.specs.Prelude.{IfSome}
use Rattle.group_types.specs.Dimensions.{Dimensions}
use Rattle.group_types.specs.Hash.{home_of}
use Rattle.group_types.specs.Lists.{at}
use Rattle.memc_table.specs.Act.{key_of}
use Rattle.memc_table.specs.Asked.{Asked}
use Rattle.group_run.specs.Process.{Head, Process}
use Rattle.group_run.specs.Replica.{Replica, empty_replica}
use Rattle.head_service.specs.Laws.{decided}
use Rattle.head_service.specs.Paging.{DecisionMisses, MakesNoneOf}
use Rattle.head_service.specs.Serving.{Serving, serving}
use Rattle.process_service.specs.Paging.{CallMisses, HeadMisses}

module _ (s : Dimensions) (v : Serving) (b : Process) (h : Head) (r : Replica) (op : Asked) (old new : List ℕ) where
  abbrev d : ℕ
  d = home_of (key_of op.act) s.k

  head-pages : at None v.heads d ≡ Some h → at empty_replica v.replicas d ≡ r
      → MakesNoneOf (DecisionMisses s.block (decided s d h op r b)) old new → MakesNoneOf (CallMisses s op (serving v b)) old new
  head-pages head replica made = record {
    kept = made.kept;
    others = λ x missed. made.others x (subst (λ (y : Replica). DecisionMisses s.block (decided s d h op y b) x) replica
        (subst (λ (o : Option Head). IfSome o (HeadMisses s op d (serving v b) x)) head missed));
  }

  -- the same, where the partition is known by another name
  pub pages-at : (e : ℕ) → e ≡ d → at None v.heads e ≡ Some h → at empty_replica v.replicas e ≡ r
      → MakesNoneOf (DecisionMisses s.block (decided s e h op r b)) old new → MakesNoneOf (CallMisses s op (serving v b)) old new
  pages-at e same = subst (λ (e : ℕ). at None v.heads e ≡ Some h → at empty_replica v.replicas e ≡ r
      → MakesNoneOf (DecisionMisses s.block (decided s e h op r b)) old new → MakesNoneOf (CallMisses s op (serving v b)) old new) (sym same) head-pages
