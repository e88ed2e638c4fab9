-- The first parity process that lives heads a partition whose data process is dead.
use Rattle.std.proofs.Common.{ℕ, zero, suc, ◌≡◌, ◌<◌, true, false, arith, inl, refl}
use Rattle.group_types.specs.Names.{of_rank}
use Rattle.group_types.specs.declared.process.ProcessId.TheVariants.{DataNode, ParityNode}
use Rattle.group_run.specs.Meaning.{is_dead}
use Rattle.group_run.specs.World.{World}
use Rattle.world_caller.specs.Calling.{Serves}

pub parity-serves : (w : World) (d i : ℕ) → i < w.shape.m → is_dead w (DataNode d) ≡ true
    → ((j : ℕ) → j < i → is_dead w (ParityNode j) ≡ true) → is_dead w (ParityNode i) ≡ false
    → Serves w d (ParityNode i)
parity-serves w d i low gone below lives = inl (suc i, record { within = omega (arith, low); lives = lives; lowest = lower }, refl) where
  lower : (q : ℕ) → q < suc i → is_dead w (of_rank d q) ≡ true
  lower zero less = gone
  lower (suc j) less = below j (omega (arith, less))
