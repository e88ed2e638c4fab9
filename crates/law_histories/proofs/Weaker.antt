-- A sentence on histories that follows from another is reached where that is.
use Rattle.std.proofs.Common.{ℕ, List, Option}
use Rattle.group_types.specs.Dimensions.{Dimensions}
use Rattle.group_message.specs.declared.message.Message.{Message}
use Rattle.group_message.specs.declared.message.Message.TheVariants as tells
use Rattle.group_message.specs.declared.update.Update.{Update}
use Rattle.group_run.specs.Process.{Head}
use Rattle.group_run.specs.Replica.{Replica}
use Rattle.law_moves.specs.State.{State}
use Rattle.law_histories.proofs.LaneWords.{Goes, Seen, next}
use Rattle.law_histories.proofs.Reach.{Reach, ReplicaFits}
use Rattle.law_histories.proofs.Folds.{along-weaker}

module _ (F G : ℕ → ℕ → List Update → Type 0) (weaker : (d a : ℕ) (history : List Update) → F d a history → G d a history) where
  goes-weaker : (d : ℕ) (settled : List Update) (seen : Seen) (m : Message) → Goes F d settled seen m → Goes G d settled seen m
  goes-weaker d settled seen (tells.Update r e u stable) goes =
      λ live. let old = goes live in record {
        rank = old.rank;
        stable_settled = old.stable_settled;
        few = old.few;
        fine = (old.fine.0, weaker d stable _ old.fine.1);
      }
  goes-weaker d settled seen (tells.Adopt r e base list) goes =
      λ live. let old = goes live in record {
        rank = old.rank;
        base_settled = old.base_settled;
        prolongs = old.prolongs;
        few = old.few;
        fine = (old.fine.0, weaker d base _ old.fine.1);
      }
  goes-weaker d settled seen (tells.Stable r e n) goes = goes
  goes-weaker d settled seen (tells.Mark session r block e n) goes = goes
  goes-weaker d settled seen (tells.Ack r e n) goes = tt
  goes-weaker d settled seen (tells.ReadBlock session block rows) goes = tt
  goes-weaker d settled seen (tells.Block session bytes n) goes = tt
  goes-weaker d settled seen (tells.Row session bytes stamp) goes = tt
  goes-weaker d settled seen (tells.Cease upto) goes = tt
  goes-weaker d settled seen (tells.Notice dead) goes = tt

  fits-weaker : (d : ℕ) (settled : List Update) (r : Replica) (head : Option Head) → ReplicaFits F d settled r head → ReplicaFits G d settled r head
  fits-weaker d settled r head fits =
      record {
        applied = fits.applied;
        prolongs = fits.prolongs;
        short = fits.short;
        fine = (fits.fine.0, weaker d r.applied _ fits.fine.1);
        holds = fits.holds;
        heads = fits.heads;
      }

  pub reach-weaker : (s : Dimensions) (v : State) → Reach F s v → Reach G s v
  reach-weaker s v reach d below = record {
    replicas = λ q qin living keeps. fits-weaker d (v.settled d) _ _ ((reach d below).replicas q qin living keeps);
    issued = (reach d below).issued;
    lanes = λ x i xin iin apart living. let lane = (reach d below).lanes x i xin iin apart living in record {
      goes = along-weaker (next d) (Goes F d (v.settled d)) (Goes G d (v.settled d)) (goes-weaker d (v.settled d)) _ _ lane.goes;
      ends = lane.ends;
      kept = lane.kept;
      acks = lane.acks;
    };
  }
