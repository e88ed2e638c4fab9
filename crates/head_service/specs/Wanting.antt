-- Where memory may be wanted for what a head makes of a call.
use Rattle.std.specs.Prelude.{ℕ, ◌≡◌, ◌⊎◌, Option, Some, None, ⊤}
use Rattle.group_types.specs.declared.run.Run.{Run}
use Rattle.memc_table.specs.Act.{key_of}
use Rattle.memc_table.specs.Asked.{Asked}
use Rattle.memc_table.specs.Ruling.{HoldsItem}
use Rattle.memc_table.specs.declared.ruling.Ruling.TheVariants.{Refused}
use Rattle.group_calls.specs.declared.decision.Decision.{Decision}
use Rattle.group_calls.specs.declared.decision.Decision.TheVariants.{Answer, Issue, NeedBlock, NoSpace, Retry}
use Rattle.group_calls.specs.declared.found.Found.{Found}
use Rattle.group_calls.specs.declared.found.Found.TheVariants.{Bytes, Missing}
use Rattle.group_run.specs.Deciding.{blind_reply, decide, ruling_with, run_needed, slot_length, unseen, waits_for}
use Rattle.group_run.specs.Replica.{Replica, number_on, slot_in}
use Rattle.item_index.specs.declared.slot.Slot.{Slot}

-- bytes were found
abbrev pub IsThere : Found → Type 0
IsThere (Bytes bytes) = ⊤
IsThere (Missing b) = ⊥

-- a run is needed, and its bytes are there
abbrev pub IsNeeded : (Run → Found) → Option Run → Type 0
IsNeeded read None = ⊥
IsNeeded read (Some run) = IsThere (read run)

-- where no update stands in the way: the op reads bytes of the item, which are there, since no reply can be given without them
abbrev pub ReadsItem : Replica → Asked → Option Slot → (Run → Found) → Type 0
ReadsItem r op slot read = (blind_reply (slot_length slot) (ruling_with r op slot (unseen slot)) ≡ None) × IsNeeded read (run_needed op slot)

-- so it is where this is the update that the op has to wait for, if there is one
abbrev pub MayReadItem : Replica → Asked → Option Slot → (Run → Found) → Option ℕ → Type 0
MayReadItem r op slot read (Some n) = ⊥
MayReadItem r op slot read None = ReadsItem r op slot read

-- an update is issued
abbrev pub IssuesUpdate : Decision → Type 0
IssuesUpdate (Issue body outcome) = ⊤
IssuesUpdate (Answer reply) = ⊥
IssuesUpdate (Retry n) = ⊥
IssuesUpdate NoSpace = ⊥
IssuesUpdate (NeedBlock b) = ⊥

-- a value is handed out or an update is issued
abbrev pub TakesMemory : Decision → Type 0
TakesMemory (Issue body outcome) = ⊤
TakesMemory (Answer reply) = HoldsItem (Refused reply)
TakesMemory (Retry n) = ⊥
TakesMemory NoSpace = ⊥
TakesMemory (NeedBlock b) = ⊥

-- memory may be wanted for an op that a head is asked: to read the bytes of its item, to hand out a value, or to issue an update
abbrev pub MayWant : ℕ → ℕ → Replica → Asked → (Run → Found) → Type 0
MayWant space inherited r op read =
    MayReadItem r op (slot_in r.items (key_of op.act)) read (waits_for inherited op.act (number_on r.log (key_of op.act)))
    ⊎ TakesMemory (decide space inherited r op read)
