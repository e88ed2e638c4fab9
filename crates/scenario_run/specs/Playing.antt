-- What a line of a script of one group makes of it, and what is written for it.
use Rattle.std.specs.Prelude.{ℕ, nat_lt, List, [], ◌∷◌, ◌++◌, codes, length, Option, Some, None, Result, Ok, Err, option_map, if◌then◌else◌}
use Rattle.std.specs.Fmt.{decimal}
use Rattle.group_types.specs.Dimensions.{Dimensions}
use Rattle.group_types.specs.Lists.{at}
use Rattle.group_types.specs.declared.process.ProcessId.{ProcessId}
use Rattle.group_types.specs.declared.run.Run.{Run}
use Rattle.group_calls.specs.Turns.{Turn, log_of}
use Rattle.group_calls.specs.declared.event.Event.{Event}
use Rattle.group_calls.specs.declared.event.Event.TheVariants as happens
use Rattle.group_run.specs.Draining.{drain_events}
use Rattle.group_run.specs.Meaning.{is_dead}
use Rattle.group_run.specs.Progress.{load_of}
use Rattle.group_run.specs.World.{World, WorldStep, opening, step, turns_from, world_after}
use Rattle.group_run.specs.Shown.{held, is_down, stamp_of}
use Rattle.scenario_text.specs.Meaning.{line_meaning}
use Rattle.scenario_text.specs.Texts.{answer_text, entries_text, shown_text}
use Rattle.scenario_text.specs.declared.line.Line.{Line}
use Rattle.scenario_text.specs.declared.line.Line.TheVariants.{Skipped, Group, Ask, Collect, Deliver, Fail, Flush, Trace, Drain, Show, Places, Time, Stop}
use Rattle.scenario_text.specs.declared.line.LineFault.{LineFault}
use Rattle.scenario_text.specs.declared.line.LineFault.TheVariants.{BadLine}
use Rattle.scenario_run.specs.Course.{Next, Goes, Ends, Refused}
use Rattle.scenario_run.specs.Placing.{placed_text}

-- the group of a script, and the moment of the asks that follow
pub record Play : Type 0 where
  pub world : World
  pub moment : ℕ

-- what a line of its script does
abbrev pub PlayNext : Type 0
PlayNext = Next Play Turn LineFault

-- a line that writes nothing and makes no event
abbrev pub quietly : Option Play → PlayNext
quietly play = Goes play [] []

-- the answer of an event on a line, and then what it logged
abbrev pub turn_text : Turn → List ℕ
turn_text turn = answer_text turn.answer ++ 10 ∷ entries_text turn.logged

-- an event is made
abbrev pub by_event : Play → Event → PlayNext
by_event p e = let t : WorldStep = step p.world e in Goes (Some (record { world = t.world; moment = p.moment })) (t.turn ∷ []) (turn_text t.turn)

-- only a call that was asked is traced
abbrev pub by_trace : Play → ℕ → ℕ → Event → PlayNext
by_trace p caller call e = if nat_lt call (at 0 p.world.asked caller) then by_event p e else Refused BadLine

-- the deliveries of a drain: always from the lowest link that has a message, until none is left; none
-- while the group is down
abbrev pub draining_unless_down : World → List Event
draining_unless_down w = if is_down w then [] else drain_events (load_of w) w

-- what the deliveries of a drain logged, and how many there were
abbrev pub drained_text : List Turn → List ℕ
drained_text turns = entries_text (log_of turns) ++ (codes "drained " ++ (decimal (length turns) ++ codes "\n"))

abbrev pub by_drain : Play → List Event → PlayNext
by_drain p es = Goes (Some (record { world = world_after p.world es; moment = p.moment })) (turns_from p.world es) (drained_text (turns_from p.world es))

-- bytes that a process shows with a stamp, unless the group is down or the process dead
abbrev pub look_with : List ℕ → World → ProcessId → List ℕ → List ℕ
look_with stamp w p bytes = if is_down w then codes "down" else (if is_dead w p then codes "lost" else shown_text stamp bytes)

abbrev pub look : World → ProcessId → List ℕ → List ℕ
look w p bytes = look_with (stamp_of w p) w p bytes

abbrev pub by_show : Play → ProcessId → Run → PlayNext
by_show p from run = Goes (Some p) [] (look p.world from (held p.world from run) ++ 10 ∷ [])

-- the runs of the updates that were logged
abbrev pub by_places : Play → PlayNext
by_places p = Goes (Some p) [] (placed_text [] p.world)

-- a group at its start
abbrev pub play_from : Dimensions → Play
play_from shape = record { world = opening shape; moment = 0 }

-- what a line of this meaning does before a shape is named, where a script starts so from one
abbrev pub opens_by : {S T : Type 0} → (Dimensions → S) → Line → Next S T LineFault
opens_by start Skipped = Goes None [] []
opens_by start (Group shape) = Goes (Some (start shape)) [] []
opens_by start _ = Refused BadLine

abbrev pub first_by : Line → PlayNext
first_by line = opens_by play_from line

-- what a line of this meaning does behind the group line
abbrev pub then_by : Play → Line → PlayNext
then_by p Skipped = quietly (Some p)
then_by p (Group shape) = Refused BadLine
then_by p (Ask caller from act) = by_event p (happens.Ask caller (record { moment = p.moment; act = act }) from)
then_by p (Collect caller call from) = by_event p (happens.Collect caller call from)
then_by p (Deliver from to) = by_event p (happens.Deliver from to)
then_by p (Fail from keep) = by_event p (happens.Fail from keep)
then_by p (Flush from) = by_event p (happens.Flush from)
then_by p (Trace caller call partition from) = by_trace p caller call (happens.Trace caller call partition from)
then_by p Drain = by_drain p (draining_unless_down p.world)
then_by p (Show from run) = by_show p from run
then_by p Places = by_places p
then_by p (Time moment) = quietly (Some (record { world = p.world; moment = moment }))
then_by p Stop = Ends

-- what a line does that is read so
abbrev pub next_by : Option Play → Result Line LineFault → PlayNext
next_by play (Err fault) = Refused fault
next_by None (Ok line) = first_by line
next_by (Some p) (Ok line) = then_by p line

-- the shape of the group, once its line was read
abbrev pub shape_in : Option Play → Option Dimensions
shape_in play = option_map (λ p. p.world.shape) play

-- what a line does
abbrev pub next_of : Option Play → List ℕ → PlayNext
next_of play line = next_by play (line_meaning (shape_in play) line)
