-- The bytes beneath a head, as contracts see them, and what stays of them.
use Rattle.std.specs.Prelude.{ℕ, ◌≡◌, List}
use Rattle.group_types.specs.Dimensions.{Dimensions}
use Rattle.group_message.specs.declared.update.Update.{Update}
use Rattle.group_run.specs.Process.{Process}
use Rattle.head_service.specs.Paging.{MakesNoneOf}

-- the shape of the group, the machine's process (of which the name, the space, and what it keeps as a row and as a
-- leader count), the numbers of the blocks whose pages were made, and for which updates of a partition all is ready
pub record Storage : Type 1 where
  pub shape : Dimensions
  pub process : Process
  pub made : List ℕ
  pub is_ready : ℕ → Update → Type 0

-- a step that takes no memory: no page is made, and what was ready is ready
pub record StaysReady (old new : Storage) : Type 0 where
  pub shape : new.shape ≡ old.shape
  pub pages : new.made ≡ old.made
  pub kept : (d : ℕ) (u : Update) → old.is_ready d u → new.is_ready d u

-- a step that makes pages, but none of the blocks that are missed; what was ready is ready
pub record MakesReady (IsMissed : ℕ → Type 0) (old new : Storage) : Type 0 where
  pub shape : new.shape ≡ old.shape
  pub pages : MakesNoneOf IsMissed old.made new.made
  pub kept : (d : ℕ) (u : Update) → old.is_ready d u → new.is_ready d u
