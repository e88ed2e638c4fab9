-- The items of a group that are carried: those that its heads have settled, but for those that live at no moment.
use Rattle.std.specs.Prelude.{ℕ, suc, List, [], ◌∷◌, ◌++◌, filter, map, sum_by, if◌then◌else◌}
use Rattle.std.specs.List.{range_with_len}
use Rattle.group_types.specs.Names.{of_rank}
use Rattle.group_types.specs.declared.process.ProcessId.{ProcessId}
use Rattle.item_index.specs.declared.slot.Slot.{Slot}
use Rattle.memc_table.specs.Expiry.{is_live}
use Rattle.group_run.specs.Applying.{replica_of}
use Rattle.group_run.specs.Meaning.{is_dead, process_of}
use Rattle.group_run.specs.Replica.{Items}
use Rattle.group_run.specs.World.{World}

-- the first of some ranks in partition d whose process lives
abbrev pub first_living : World → ℕ → List ℕ → ℕ
first_living w d [] = 0
first_living w d (r ∷ rs) = if is_dead w (of_rank d r) then first_living w d rs else r

-- the head of partition d
abbrev pub head_of : World → ℕ → ProcessId
head_of w d = of_rank d (first_living w d (range_with_len 0 (suc w.shape.m)))

-- the settled items of a partition, in the order of keys
abbrev pub settled_items : World → ℕ → Items
settled_items w d = (replica_of (process_of w (head_of w d)) d).items

-- an item that is carried: its partition, its key, and what is settled of it
pub record Load : Type 0 where
  pub partition : ℕ
  pub key : List ℕ
  pub slot : Slot

abbrev pub load_of_slot : ℕ → List ℕ × Slot → Load
load_of_slot d x = record { partition = d; key = x.0; slot = x.1 }

-- those of a partition: an item whose until is 0 lives at no moment
abbrev pub loads_in : World → ℕ → List Load
loads_in w d = map (load_of_slot d) (filter (λ x. is_live 0 x.1.until) (settled_items w d))

-- those of partitions, in order
abbrev pub loads_of : World → List ℕ → List Load
loads_of w [] = []
loads_of w (d ∷ ds) = loads_in w d ++ loads_of w ds

-- all of them
abbrev pub loads : World → List Load
loads w = loads_of w (range_with_len 0 w.shape.k)

-- how many bytes those of a partition have
abbrev pub bytes_in_partition : World → ℕ → ℕ
bytes_in_partition w d = sum_by (λ x. x.slot.len) (loads_in w d)
