-- A group over eras: one world at a time, which makes the events that are asked of it with its own numbers.
use Rattle.std.specs.Prelude.{ℕ, suc, ◌+◌, ◌<◌, List, [], ◌∷◌, ◌++◌, map, replicate}
use Rattle.std.specs.List.{range_with_len}
use Rattle.group_types.specs.Dimensions.{Dimensions}
use Rattle.group_types.specs.Lists.{at}
use Rattle.group_types.specs.declared.process.ProcessId.{ProcessId}
use Rattle.group_types.specs.declared.process.ProcessId.TheVariants.{DataNode, ParityNode}
use Rattle.group_calls.specs.Turns.{Turn}
use Rattle.group_calls.specs.declared.entry.Entry.{Entry}
use Rattle.group_calls.specs.declared.event.Answer.{Answer}
use Rattle.group_calls.specs.declared.event.Event.{Event}
use Rattle.group_calls.specs.declared.event.Event.TheVariants.{Ask, Collect, Trace}
use Rattle.group_run.specs.Headline.{MayCome}
use Rattle.group_run.specs.Meaning.{count_logged}
use Rattle.group_run.specs.Shown.{stamp_of}
use Rattle.group_run.specs.World.{World, call_of, opening, step}
use Rattle.group_eras.specs.Range.{IsInRange}
use Rattle.group_eras.specs.Told.{Bases, event_in, told_entry, told_of_event, told_stamp}

-- an entry of the log over all eras: its era, and the entry as it is told
abbrev pub EraEntry : Type 0
EraEntry = ℕ × Entry

-- the number of the current era, its world and its bases, and the log over all eras
pub record Eras : Type 0 where
  pub era : ℕ
  pub world : World
  pub bases : Bases
  pub log : List EraEntry

-- the first era, of a world in which no event was made
abbrev pub first_era : World → Eras
first_era w = record { era = 0; world = w; bases = replicate w.shape.k 0; log = [] }

-- the entries that the current world logs at an event, as they are told
abbrev pub logged_in_era : Eras → Event → List Entry → List EraEntry
logged_in_era e event entries = map (λ entry. (e.era, told_entry e.bases e.world.shape.k (call_of e.world event) entry)) entries

-- what an event makes: the answer, and the entries that it logs
pub record EraStep : Type 0 where
  pub eras : Eras
  pub answer : Answer
  pub logged : List EraEntry

-- the turn of the current world at an event
abbrev pub turn_in : Eras → Event → Turn
turn_in e event = (step e.world (event_in e.bases e.world.shape.k event)).turn

abbrev pub era_step : Eras → Event → EraStep
era_step e event = record {
  eras = record {
    era = e.era;
    world = (step e.world (event_in e.bases e.world.shape.k event)).world;
    bases = e.bases;
    log = e.log ++ logged_in_era e event (turn_in e event).logged;
  };
  answer = told_of_event e.bases e.world.shape.k event (turn_in e event).answer;
  logged = logged_in_era e event (turn_in e event).logged;
}

-- events are made one after the other
abbrev pub eras_after : Eras → List Event → Eras
eras_after e [] = e
eras_after e (event ∷ events) = eras_after (era_step e event).eras events

-- the caller that carries
abbrev pub carrier : ℕ
carrier = 255

-- the event's caller, if it has one, isn't the one that carries
abbrev pub IsOfOthers : Event → Type 0
IsOfOthers (Ask caller op p) = caller < carrier
IsOfOthers (Collect caller call p) = caller < carrier
IsOfOthers (Trace caller call d p) = caller < carrier
IsOfOthers _ = Unit {0}

-- an event that may be made in the current era
pub record MayMake (e : Eras) (event : Event) : Type 0 where
  pub may : MayCome e.world event
  pub others : IsOfOthers event
  pub range : IsInRange event

-- the stamp of a process of the current world, as it is told
abbrev pub stamp_from : ProcessId → ℕ
stamp_from (DataNode d) = d
stamp_from (ParityNode i) = 0

abbrev pub stamp_in : Eras → ProcessId → List ℕ
stamp_in e p = told_stamp e.bases (stamp_from p) (stamp_of e.world p)

-- the bases of the next era: the updates of this one are counted too
abbrev pub next_bases : Eras → Bases
next_bases e = map (λ d. at 0 e.bases d + count_logged e.world d) (range_with_len 0 e.world.shape.k)

-- the next era, in a fresh group
abbrev pub next_era : Eras → Dimensions → Eras
next_era e s = record { era = suc e.era; world = opening s; bases = next_bases e; log = e.log }
