-- What is done beneath a process's partitions is done to the process.
use Rattle.std.proofs.Common.{ℕ, ◌≡◌, Bool, true, false, List, is_some, refl, sym, subst, ◌∙◌}
use Rattle.std.specs.Prelude.{All}
use Rattle.group_types.specs.Dimensions.{Dimensions}
use Rattle.group_types.specs.Lists.{at}
use Rattle.group_types.specs.declared.process.ProcessId.{ProcessId}
use Rattle.group_types.specs.declared.process.ProcessId.TheVariants.{DataNode, ParityNode}
use Rattle.group_run.specs.Process.{Process}
use Rattle.group_run.specs.Replica.{empty_replica}
use Rattle.group_run.specs.Rows.{begin_copy, copy_begun, copy_in, leader_forgotten}
use Rattle.head_service.specs.Serving.{Serving, serving}
use Rattle.parity_bytes.specs.Bytes.{BytesAreReady, ParityHolding, Stays}
use Rattle.parity_process.specs.Standing.{BytesAreBeneath}

-- bytes that stay beneath a process's partitions
pub over-stays : (v : Serving) (old new : ParityHolding) → Stays old new → BytesAreBeneath v old → BytesAreBeneath v new
over-stays v old new stays over = record {
  shape = stays.shape ∙ over.shape;
  name = stays.name ∙ over.name;
  blocks = stays.partitions ∙ over.blocks;
  ready = λ d within. by d stays.shape stays.made (over.ready d within);
} where
  by : (d : ℕ) → new.shape ≡ old.shape → new.made ≡ old.made → All (BytesAreReady old d) (at empty_replica v.replicas d).log
      → All (BytesAreReady new d) (at empty_replica v.replicas d).log
  by d shape made all =
      subst (λ (pages : List ℕ). All (BytesAreReady (record { shape = new.shape; made = pages; process = new.process }) d)
      (at empty_replica v.replicas d).log) (sym made)
      (subst (λ (s : Dimensions). All (BytesAreReady (record { shape = s; made = old.made; process = new.process }) d)
      (at empty_replica v.replicas d).log) (sym shape) all)

module _ (v : Serving) (b : Process) where
  pub begin-beneath : (s : Dimensions) (leader number block : ℕ) → begin_copy s leader number block (serving v b)
      ≡ serving v (begin_copy s leader number block b)
  begin-beneath s leader number block = by (is_some (copy_in b.as_row.copies leader number)) where
    by : (there : Bool) → copy_begun there s leader number block (serving v b) ≡ serving v (copy_begun there s leader number block b)
    by true = refl
    by false = refl

  pub forgotten-beneath : (dead : ProcessId) → leader_forgotten dead (serving v b) ≡ serving v (leader_forgotten dead b)
  forgotten-beneath (DataNode _) = refl
  forgotten-beneath (ParityNode _) = refl
