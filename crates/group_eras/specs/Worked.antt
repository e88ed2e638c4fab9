-- A worked carry: a group of one data and one parity process loses the data process, and its item is carried, which has
-- no byte.
use Rattle.std.specs.Prelude.{ℕ, pos, ◌≡◌, List, [], ◌∷◌, codes}
use Rattle.group_types.specs.Dimensions.{Dimensions}
use Rattle.group_types.specs.declared.process.ProcessId.TheVariants.{DataNode, ParityNode}
use Rattle.memc_table.specs.Asked.{Asked}
use Rattle.memc_table.specs.declared.act.Act.TheVariants.{Cas, Get, Set}
use Rattle.memc_table.specs.declared.reply.Reply.{Reply}
use Rattle.memc_table.specs.declared.reply.Reply.TheVariants.{Exists, Stored, Value}
use Rattle.group_calls.specs.declared.event.Event.TheVariants.{Ask, Deliver, Fail}
use Rattle.group_run.specs.World.{opening}
use Rattle.law_causes.specs.Worked.{small_shape}
use Rattle.group_eras.specs.Eras.{EraEntry, Eras, first_era}
use Rattle.group_eras.specs.Promise.{Carries, EraMove, Makes, MayAllBeDone, all_done}
use Rattle.group_eras.specs.Refusal.{CanCarry}

abbrev pub next_shape : Dimensions
next_shape = record { k = 1; m = 1; blocks = 1; block = 32 }

-- it is stored, and the data process fails once all is delivered
abbrev pub small_set : Asked
small_set = record { moment = 0; act = Set (codes "a") 0 (pos 0) [] }

abbrev pub small_get : Asked
small_get = record { moment = 0; act = Get (codes "a") }

-- the cas number is that of the old era
abbrev pub small_cas : Asked
small_cas = record { moment = 0; act = Cas (codes "a") 0 (pos 0) 1 (66 ∷ []) }

abbrev pub before_carry : List EraMove
before_carry = Makes (Ask 0 small_set (DataNode 0)) ∷ Makes (Deliver (DataNode 0) (ParityNode 0))
    ∷ Makes (Deliver (ParityNode 0) (DataNode 0)) ∷ Makes (Fail (DataNode 0) 0)
    ∷ Makes (Deliver (DataNode 0) (ParityNode 0)) ∷ []

abbrev pub with_carry : List EraMove
with_carry = Carries next_shape ∷ Makes (Ask 0 small_cas (DataNode 0)) ∷ Makes (Ask 0 small_get (DataNode 0)) ∷ []

abbrev pub small_eras : Eras
small_eras = all_done (all_done (first_era (opening small_shape)) before_carry) with_carry

-- all this may be done
abbrev pub MayBeWorked : Type 0
MayBeWorked = MayAllBeDone (first_era (opening small_shape)) before_carry × CanCarry (all_done (first_era (opening small_shape)) before_carry).world next_shape

-- an entry of an era, of a caller's call
abbrev pub era_entry : ℕ → ℕ → ℕ → Asked → Reply → EraEntry
era_entry era caller call op reply = (era, record { caller = caller; call = call; op = op; reply = reply })

-- the item is read from the parity process; the cas finds a higher number; and the last get has it
abbrev pub LogIsAsWorked : Type 0
LogIsAsWorked = small_eras.log ≡ era_entry 0 0 0 small_set Stored
    ∷ era_entry 0 255 0 small_get (Value (record { flags = 0; cas = 1; value = [] }))
    ∷ era_entry 1 255 0 small_set Stored
    ∷ era_entry 1 0 0 small_cas Exists
    ∷ era_entry 1 0 1 small_get (Value (record { flags = 0; cas = 2; value = [] }))
    ∷ []
