-- What can come to a parity process, of a message whose kind is known.
use Rattle.std.proofs.Common.{ℕ, ◌≡◌, ◌↔◌, Bool, List, IsTrue, sym, subst}
use Rattle.group_types.specs.Dimensions.{Dimensions}
use Rattle.group_types.specs.declared.process.ProcessId.{ProcessId}
use Rattle.group_message.specs.declared.message.Message.{Message}
use Rattle.group_message.specs.declared.message.Message.TheVariants as tells
use Rattle.group_run.specs.Fitting.{Fits, IsForParity}
use Rattle.group_run.specs.Process.{Process}
use Rattle.head_service.specs.Serving.{Serving, serving}
use Rattle.process_service.specs.Coming.{NoticeComes}
use Rattle.process_service.specs.Standing.{Standing, standing}
use Rattle.leader_role.specs.Sound.{IsOfGroup}
use Rattle.parity_process.specs.Coming.{FitsParity}

module _ {b : Bool} {s : Dimensions} {from : ProcessId} {p : Process} where
  -- a message of a kind that is for each parity process
  pub fits-only : {m : Message} → IsForParity p.name m → IsOfGroup s m p → (IsTrue b ↔ Fits s from m p) → IsTrue b ↔ FitsParity s from m p
  fits-only kind group told = (λ yes. record { fits = told.0 yes; kind = kind; group = group }, λ comes. told.1 comes.fits)

  -- the notice of a death
  pub fits-few : {dead : ProcessId} → (IsTrue b ↔ NoticeComes s from p dead) → IsTrue b ↔ FitsParity s from (tells.Notice dead) p
  fits-few told = (
    λ yes. record { fits = ((told.0 yes).sender, (told.0 yes).fits); kind = tt; group = (told.0 yes).few },
    λ comes. told.1 (record { sender = comes.fits.0; fits = comes.fits.1; few = comes.group }),
  )

-- what is told of the message and of the process as they are
pub told-of : (v : Serving) (p : Process) {b : Bool} {from : ProcessId} {m n : Message} {made : List ℕ} {now : Standing}
    → m ≡ n → standing v p made ≡ now → (IsTrue b ↔ FitsParity v.shape from n (serving v p)) → IsTrue b ↔ FitsParity now.shape from m now.process
told-of v p {b = b} {from = from} {m = m} is view told =
    subst (λ (x : Standing). IsTrue b ↔ FitsParity x.shape from m x.process) view
    (subst (λ (x : Message). IsTrue b ↔ FitsParity v.shape from x (serving v p)) (sym is) told)
