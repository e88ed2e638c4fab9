-- What comes of each step of serving by settings.
use Rattle.std.specs.Prelude.{◌≡◌, ℕ, List, Some, Result, Ok, Err, ⊤}
use Rattle.edge_io.specs.Moving.{Appends, Input}
use Rattle.edge_io.specs.Writing.{HasWritten}
use Rattle.group_config.specs.Text.{HasReadTooMuch}
use Rattle.group_config.specs.declared.settings.Settings.{Settings}
use Rattle.node_worker.specs.declared.fault.ServeFault.{ServeFault}
use Rattle.group_server.specs.Faults.{of_serving}
use Rattle.group_server.specs.Service.{HasGivenSettings, HasRefused, Tally, listening, served}
use Rattle.group_server.specs.declared.fault.ServiceFault.{ServiceFault}
use Rattle.group_server.specs.declared.fault.ServiceFault.TheVariants.{TooLong, BadConfig, ReadFault, WriteFault, AcceptFault, Want}

-- a source gave settings, or why not
abbrev pub IsGivenOr : Input → Input → Result Settings ServiceFault → Type 0
IsGivenOr before now (Ok settings) = HasGivenSettings before now settings
IsGivenOr before now (Err TooLong) = HasReadTooMuch before now
IsGivenOr before now (Err (BadConfig key)) = HasRefused before now key
IsGivenOr before now (Err ReadFault) = ⊤
IsGivenOr before now (Err Want) = ⊤
IsGivenOr before now (Err _) = ⊥

-- why connections cannot come: nothing was written where the listener failed, which listens where it did, and a front of the first
-- line where the sink did
abbrev pub HasNotOpened : {L : Type 0} → (L → List ℕ → L → Type 0) → (L → Tally) → Settings → List ℕ → List ℕ → L → L → ServiceFault → Type 0
HasNotOpened listened tells settings held held_now l l_now AcceptFault = ((tells l_now).at ≡ (tells l).at) × (held_now ≡ held)
HasNotOpened listened tells settings held held_now l l_now WriteFault =
    listened l settings.address l_now × ((tells l_now).at ≡ Some settings.address) × HasWritten held held_now listening
HasNotOpened listened tells settings held held_now l l_now Want = HasWritten held held_now listening
HasNotOpened listened tells settings held held_now l l_now _ = ⊥

-- how serving ended was told: only at its end anything is written
abbrev pub HasReported : List ℕ → List ℕ → Result ℕ ServeFault → Result ℕ ServiceFault → Type 0
HasReported held held_now (Err fault) result = (result ≡ Err (of_serving fault)) × (held_now ≡ held)
HasReported held held_now (Ok n) (Ok m) = (m ≡ n) × Appends held held_now (served n)
HasReported held held_now (Ok n) (Err WriteFault) = HasWritten held held_now (served n)
HasReported held held_now (Ok n) (Err Want) = HasWritten held held_now (served n)
HasReported held held_now (Ok n) (Err _) = ⊥
