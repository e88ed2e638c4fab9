-- A run with what laws speak of and the group does not keep: the settled updates of each partition,
-- whole, and the calls that were asked.
use Rattle.std.specs.Prelude.{ℕ, ◌++◌, List, [], ◌∷◌, length, option_to_list, replicate, take}
use Rattle.std.specs.List.{range_with_len}
use Rattle.group_types.specs.Dimensions.{Dimensions}
use Rattle.group_types.specs.Lists.{at, put}
use Rattle.group_message.specs.declared.update.Update.{Update}
use Rattle.group_calls.specs.declared.event.Event.{Event}
use Rattle.group_run.specs.Applying.{Settlement}
use Rattle.group_run.specs.World.{AskedCall, World, call_of, group_step, new_ones, opening, settled_in, step}
use Rattle.group_run.specs.Replica.{Replica}

-- a group, the settled updates of each of its partitions, and the calls that were asked
pub record History : Type 0 where
  pub world : World
  pub settled : List (List Update)
  pub asked : List AskedCall

-- the updates of partition d that were settled before, with those that a step settles for the first time
abbrev pub settled_with : List Settlement → ℕ → List Update → List Update
settled_with settlements d before = before ++ new_ones (length before) (settled_in d settlements)

-- the same for partitions, in order
abbrev pub settled_after : List Settlement → List ℕ → List (List Update) → List (List Update)
settled_after settlements [] settled = settled
settled_after settlements (d ∷ ds) settled = settled_after settlements ds (put [] settled d (settled_with settlements d (at [] settled d)))

-- the history that an event prolongs
abbrev pub prolonged : History → Event → History
prolonged h e = record {
  world = (step h.world e).world;
  settled = settled_after (group_step h.world e).settled (range_with_len 0 h.world.shape.k) h.settled;
  asked = h.asked ++ option_to_list (call_of h.world e);
}

-- the history of a group at its start
abbrev pub no_history : Dimensions → History
no_history s = record { world = opening s; settled = replicate s.k []; asked = [] }

-- the history after events, in order
abbrev pub history_from : History → List Event → History
history_from h [] = h
history_from h (e ∷ es) = history_from (prolonged h e) es

-- the history of a run
abbrev pub history_of : Dimensions → List Event → History
history_of s es = history_from (no_history s) es

-- the history of a replica: what it has applied of the settled updates, and then its log
abbrev pub history : List Update → Replica → List Update
history settled replica = take replica.applied settled ++ replica.log
