-- How the items of a group are carried into a fresh one: each is read in the old group, and then each is set in the new.
use Rattle.std.specs.Prelude.{ℕ, ℤ, pos, zero, suc, ◌≡◌, Bool, true, false, List, [], ◌∷◌, ◌++◌, length, take, Option, Some, None, if◌then◌else◌}
use Rattle.group_types.specs.Dimensions.{Dimensions}
use Rattle.group_types.specs.declared.process.ProcessId.TheVariants.{DataNode}
use Rattle.memc_table.specs.declared.act.Act.TheVariants.{Get, Set}
use Rattle.memc_table.specs.declared.reply.Reply.TheVariants as reply
use Rattle.group_calls.specs.declared.event.Answer.{Answer}
use Rattle.group_calls.specs.declared.event.Answer.TheVariants as says
use Rattle.group_calls.specs.declared.event.Event.{Event}
use Rattle.group_calls.specs.declared.event.Event.TheVariants.{Ask}
use Rattle.group_run.specs.Draining.{drain_events}
use Rattle.group_run.specs.Progress.{load_of}
use Rattle.group_run.specs.World.{World, WorldStep, opening, step, world_after}
use Rattle.group_eras.specs.Eras.{Eras, carrier, eras_after, next_era}
use Rattle.group_eras.specs.Items.{Load, head_of, loads}

-- the deliveries that drain a group, and the group after them
abbrev pub draining : World → List Event
draining w = drain_events (load_of w) w

abbrev pub drained : World → World
drained w = world_after w (draining w)

-- the get of an item at the head of its partition, at the moment 0
abbrev pub get_of : World → Load → Event
get_of w x = Ask carrier (record { moment = 0; act = Get x.key }) (head_of w x.partition)

-- the answer tells to ask again
abbrev pub is_retry : Answer → Bool
is_retry (says.Retry _) = true
is_retry _ = false

-- what a get made: its events, the group after them, and the last answer
pub record Getting : Type 0 where
  pub events : List Event
  pub world : World
  pub answer : Answer

abbrev pub only_got : Event → WorldStep → Getting
only_got get t = record { events = get ∷ []; world = t.world; answer = t.turn.answer }

abbrev pub got_behind : List Event → Getting → Getting
got_behind events g = record { events = events ++ g.events; world = g.world; answer = g.answer }

-- a get, after which the group is drained and it is asked again where it is told to, at most so often
abbrev pub get_with : ℕ → Event → WorldStep → Getting
get_with zero get t = only_got get t
get_with (suc tries) get t = if is_retry t.turn.answer
    then got_behind (get ∷ draining t.world) (get_with tries get (step (drained t.world) get))
    else only_got get t

-- no call at a head waits more often than there are blocks
abbrev pub got : World → Load → Getting
got w x = get_with w.shape.blocks (get_of w x) (step w (get_of w x))

-- an item on its way, with its value
pub record Parcel : Type 0 where
  pub partition : ℕ
  pub key : List ℕ
  pub flags : ℕ
  pub until : Option ℕ
  pub value : List ℕ

-- what was got of an item
abbrev pub bytes_got : Answer → List ℕ
bytes_got (says.Reply (reply.Value item)) = item.value
bytes_got _ = []

abbrev pub parcel_of : Load → Answer → Parcel
parcel_of x answer = record { partition = x.partition; key = x.key; flags = x.slot.flags; until = x.slot.until; value = bytes_got answer }

-- what reading items made: its events, the group after them, and the items with their values
pub record Reading : Type 0 where
  pub events : List Event
  pub world : World
  pub parcels : List Parcel

abbrev pub read_before : Getting → Parcel → Reading → Reading
read_before g parcel r = record { events = g.events ++ r.events; world = r.world; parcels = parcel ∷ r.parcels }

-- items are read one after the other
abbrev pub read_all : World → List Load → Reading
read_all w [] = record { events = []; world = w; parcels = [] }
read_all w (x ∷ xs) = let g : Getting = got w x in read_before g (parcel_of x g.answer) (read_all g.world xs)

-- all items that are carried
abbrev pub reading : World → Reading
reading w = read_all w (loads w)

-- the exptime with which an item has this until at the moment 0
abbrev pub expiry_of : Option ℕ → ℤ
expiry_of None = pos 0
expiry_of (Some until) = pos until

-- the set of an item in a fresh group, at the moment 0
abbrev pub set_of : Parcel → Event
set_of x = Ask carrier (record { moment = 0; act = Set x.key x.flags (expiry_of x.until) x.value }) (DataNode x.partition)

-- items are set one after the other, and after each the group is drained
abbrev pub setting : World → List Parcel → List Event
setting w [] = []
setting w (x ∷ xs) = let t : WorldStep = step w (set_of x) in (set_of x ∷ draining t.world) ++ setting (drained t.world) xs

-- the old era once all items are read
abbrev pub read_era : Eras → Eras
read_era e = eras_after e (reading e.world).events

-- the next era once all items are set
abbrev pub carried : Eras → Dimensions → Eras
carried e s = eras_after (next_era (read_era e) s) (setting (opening s) (reading e.world).parcels)

-- how many items are carried
abbrev pub many_carried : Eras → ℕ
many_carried e = length (loads e.world)

-- after want of memory: the old group stands, in which the first events of the reading were made
abbrev pub begun : Eras → ℕ → Eras
begun e many = eras_after e (take many (reading e.world).events)

abbrev pub IsBegun : Eras → Eras → Type 0
IsBegun e after = (many : ℕ) × (after ≡ begun e many)
