-- A partition of a group that is drained and isn't down has a head.
use Rattle.std.proofs.Common.{ℕ, zero, suc, ◌≡◌, ◌<◌, true, false, sym, subst, arith}
use Rattle.group_types.specs.Names.{of_rank}
use Rattle.group_types.specs.declared.process.ProcessId.TheVariants.{DataNode, ParityNode}
use Rattle.group_run.specs.Meaning.{Heads, IsDown, IsDrained, is_dead}
use Rattle.group_run.specs.World.{World}
use Rattle.law_histories.specs.Laws.{IsHeaded}
use Rattle.law_histories.proofs.Headed.{headed_always}
use Rattle.group_core.specs.Runs.{HasRun}

all_headed : (w : World) → HasRun w → IsDrained w → ¬ (IsDown w) → IsHeaded w
all_headed w has drained up = subst IsHeaded (sym has.is)
    (headed_always w.shape has.events has.run (subst IsDrained has.is drained) (λ down. up (subst IsDown (sym has.is) down)))

-- not all of its processes are dead
pub some_lives : (w : World) (d : ℕ) → HasRun w → IsDrained w → ¬ (IsDown w) → d < w.shape.k → is_dead w (DataNode d) ≡ true
    → ((i : ℕ) → i < w.shape.m → is_dead w (ParityNode i) ≡ true) → ⊥
some_lives w d has drained up below gone parities = let (r, heads, _) = all_headed w has drained up d below in by r heads where
  by : (r : ℕ) → Heads w d r → ⊥
  by zero heads = cc (heads.lives, gone)
  by (suc i) heads = cc (heads.lives, parities i (omega (arith, heads.within)))

-- the data process heads the partition as long as it lives
pub data_heads : (w : World) (d : ℕ) → is_dead w (DataNode d) ≡ false → Heads w d 0
data_heads w d lives = record { within = omega arith; lives = lives; lowest = λ q low. absurd (omega (arith, low)) }

-- and then the first parity process that lives
pub parity_heads : (w : World) (d i : ℕ) → i < w.shape.m → is_dead w (DataNode d) ≡ true
    → ((j : ℕ) → j < i → is_dead w (ParityNode j) ≡ true) → is_dead w (ParityNode i) ≡ false
    → Heads w d (suc i)
parity_heads w d i low gone below lives = record { within = omega (arith, low); lives = lives; lowest = lower } where
  lower : (q : ℕ) → q < suc i → is_dead w (of_rank d q) ≡ true
  lower zero less = gone
  lower (suc j) less = below j (omega (arith, less))
