-- What can come to a data process, of a message whose kind is known.
use Rattle.std.proofs.Common.{ℕ, ◌≡◌, ◌<◌, ◌↔◌, Bool, List, IsTrue, refl, sym, subst}
use Rattle.group_types.specs.Dimensions.{Dimensions}
use Rattle.group_types.specs.declared.process.ProcessId.{ProcessId}
use Rattle.group_message.specs.declared.message.Message.{Message}
use Rattle.group_message.specs.declared.message.Message.TheVariants as tells
use Rattle.group_message.specs.declared.message.Session.{Session}
use Rattle.group_run.specs.Fitting.{Fits, IsForData, ReadFits}
use Rattle.group_run.specs.Process.{Process}
use Rattle.head_service.specs.Serving.{Serving, serving}
use Rattle.process_service.specs.Coming.{LeavesFew, NoticeComes}
use Rattle.process_service.specs.Standing.{Standing, standing}
use Rattle.data_process.specs.Coming.{CanAsk, FitsData}
use Rattle.data_process.specs.Values.{DataHolding, data_process_of}

module _ {b : Bool} {s : Dimensions} {from : ProcessId} {p : Process} where
  -- a message of a kind that is for a data process
  pub fits-only : {m : Message} → IsForData m → LeavesFew s m p → (IsTrue b ↔ Fits s from m p) → IsTrue b ↔ FitsData s from m p
  fits-only kind few told = (λ yes. record { fits = told.0 yes; kind = kind; few = few }, λ comes. told.1 comes.fits)

  -- the notice of a death
  pub fits-few : {dead : ProcessId} → (IsTrue b ↔ NoticeComes s from p dead) → IsTrue b ↔ FitsData s from (tells.Notice dead) p
  fits-few told = (
    λ yes. record { fits = ((told.0 yes).sender, (told.0 yes).fits); kind = tt; few = (told.0 yes).few },
    λ comes. told.1 (record { sender = comes.fits.0; fits = comes.fits.1; few = comes.few }),
  )

-- what is told of the message and of the process as they are
pub told-of : (v : Serving) (p : Process) {b : Bool} {from : ProcessId} {m n : Message} {made : List ℕ} {now : Standing}
    → m ≡ n → standing v p made ≡ now → (IsTrue b ↔ FitsData v.shape from n (serving v p)) → IsTrue b ↔ FitsData now.shape from m now.process
told-of v p {b = b} {from = from} {m = m} is view told =
    subst (λ (x : Standing). IsTrue b ↔ FitsData x.shape from m x.process) view
    (subst (λ (x : Message). IsTrue b ↔ FitsData v.shape from x (serving v p)) (sym is) told)

-- what is told of a question for a block
pub read-told : (v : Serving) (w : DataHolding) (b : Bool) (session : Session) (block : ℕ) (rows : List ℕ) {made : List ℕ} {now : Standing}
    → standing v (data_process_of w) made ≡ now → w.number < v.shape.k → (IsTrue b ↔ CanAsk v.shape session block rows)
    → IsTrue b ↔ ReadFits now.shape now.process session block rows
read-told v w b session block rows view within told =
    subst (λ (x : Standing). IsTrue b ↔ ReadFits x.shape x.process session block rows) view (
      λ yes. let can = told.0 yes in record {
        holder = (w.number, refl, within);
        leader = can.leader;
        inside = can.inside;
        in_group = can.rows_are.in_group;
        differ = can.rows_are.differ;
      },
      λ reads. told.1 (record { leader = reads.leader; inside = reads.inside; rows_are = record { in_group = reads.in_group; differ = reads.differ } }),
    )
