-- When the items of a group aren't carried into a fresh one.
use Rattle.std.specs.Prelude.{ℕ, ◌≡◌, ◌<◌, ◌≤◌}
use Rattle.group_types.specs.Dimensions.{Dimensions, space_of}
use Rattle.group_types.specs.Shape.{IsShape}
use Rattle.group_run.specs.Meaning.{IsDown, IsDrained}
use Rattle.group_run.specs.World.{World}
use Rattle.group_eras.specs.Items.{bytes_in_partition}
use Rattle.group_eras.specs.declared.fault.CarryFault.{CarryFault}
use Rattle.group_eras.specs.declared.fault.CarryFault.TheVariants.{Down, NoSpace, NotDrained, Want}

-- the group stands still and can be read
pub record IsAtRest (w : World) : Type 0 where
  pub up : ¬ (IsDown w)
  pub drained : IsDrained w

-- the items of partition d have more bytes than the new space
abbrev pub ExceedsSpace : World → Dimensions → ℕ → Type 0
ExceedsSpace w s d = space_of s < bytes_in_partition w d

-- and those of no lower partition have
pub record IsFirstTooLong (w : World) (s : Dimensions) (d : ℕ) : Type 0 where
  pub partition : d < w.shape.k
  pub long : ExceedsSpace w s d
  pub lowest : (e : ℕ) → e < d → ¬ (ExceedsSpace w s e)

-- each reason but want of memory, which may come in any group at rest
abbrev pub IsRefused : World → Dimensions → CarryFault → Type 0
IsRefused w s Down = IsDown w
IsRefused w s NotDrained = (¬ (IsDown w)) × (¬ (IsDrained w))
IsRefused w s (NoSpace d) = IsAtRest w × IsFirstTooLong w s d.0
IsRefused w s Want = IsAtRest w

-- there is no reason but want of memory
pub record CanCarry (w : World) (s : Dimensions) : Type 0 where
  pub rest : IsAtRest w
  pub space : (d : ℕ) → d < w.shape.k → bytes_in_partition w d ≤ space_of s

-- the new group may be asked for: a shape with as many partitions
pub record IsSuccessor (w : World) (s : Dimensions) : Type 0 where
  pub shape : IsShape s
  pub partitions : s.k ≡ w.shape.k
