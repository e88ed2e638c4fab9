-- What a line of a script over eras makes of them, and what is written for it.
use Rattle.std.specs.Prelude.{ℕ, nat_lt, nat_le, Bool, false, List, [], ◌∷◌, ◌++◌, codes, drop, length, map, Option}
use Rattle.std.specs.Prelude.{Some, None, Result, Ok, Err, option_map, if◌then◌else◌}
use Rattle.std.specs.Fmt.{decimal}
use Rattle.std.specs.List.{list_all, range_with_len}
use Rattle.std.specs.Option.{is_some}
use Rattle.group_types.specs.Dimensions.{Dimensions, space_of}
use Rattle.group_types.specs.Lists.{at}
use Rattle.group_types.specs.declared.process.ProcessId.{ProcessId}
use Rattle.group_types.specs.declared.run.Run.{Run}
use Rattle.group_calls.specs.declared.event.Event.{Event}
use Rattle.group_calls.specs.declared.event.Event.TheVariants as happens
use Rattle.group_run.specs.Draining.{next_delivery}
use Rattle.group_run.specs.Shown.{held, is_down}
use Rattle.group_run.specs.World.{World, opening}
use Rattle.scenario_text.specs.Meaning.{is_skipped, line_meaning}
use Rattle.scenario_text.specs.Texts.{answer_text}
use Rattle.scenario_text.specs.Words.{split_words}
use Rattle.scenario_text.specs.declared.line.Line.{Line}
use Rattle.scenario_text.specs.declared.line.Line.TheVariants.{Skipped, Group, Ask, Collect, Deliver, Fail, Flush, Trace, Drain, Show, Places, Time, Stop}
use Rattle.scenario_text.specs.declared.line.LineFault.{LineFault}
use Rattle.scenario_text.specs.declared.line.LineFault.TheVariants.{BadLine}
use Rattle.scenario_run.specs.Course.{Next, Goes, Ends, Refused}
use Rattle.scenario_run.specs.Placing.{placed_text}
use Rattle.scenario_run.specs.Playing.{draining_unless_down, look_with, opens_by}
use Rattle.group_eras.specs.Carry.{carried, many_carried}
use Rattle.group_eras.specs.Eras.{EraEntry, Eras, carrier, era_step, eras_after, first_era, stamp_in}
use Rattle.group_eras.specs.Items.{bytes_in_partition}
use Rattle.group_eras.specs.Promise.{EraMove, Makes, Carries}
use Rattle.regroup_run.specs.Meaning.{is_regroup, regroup_line}
use Rattle.regroup_run.specs.Texts.{era_entries_text}

-- the group of a script over its eras, and the moment of the asks that follow
pub record EraPlay : Type 0 where
  pub eras : Eras
  pub moment : ℕ

-- what a line of its script does; its turns are moves
abbrev pub EraNext : Type 0
EraNext = Next EraPlay EraMove LineFault

-- a line that writes nothing and does nothing
abbrev pub quietly : Option EraPlay → EraNext
quietly play = Goes play [] []

-- what was logged since a log was so long
abbrev pub logged_since : List EraEntry → List EraEntry → List EraEntry
logged_since before now = drop (length before) now

-- the answer of an event on a line, and then what it logged
abbrev pub by_event : EraPlay → Event → EraNext
by_event p e = Goes (Some (record { eras = (era_step p.eras e).eras; moment = p.moment })) (Makes e ∷ [])
    (answer_text (era_step p.eras e).answer ++ 10 ∷ era_entries_text (era_step p.eras e).logged)

-- a caller's event, unless it is the caller that carries
abbrev pub by_call : EraPlay → ℕ → Event → EraNext
by_call p caller e = if nat_lt caller carrier then by_event p e else Refused BadLine

-- only a call that was asked in the current era is traced
abbrev pub by_trace : EraPlay → ℕ → ℕ → Event → EraNext
by_trace p caller call e = if nat_lt call (at 0 p.eras.world.asked caller) then by_call p caller e else Refused BadLine

-- the deliveries of a drain, what they logged, and how many there were
abbrev pub by_drain : EraPlay → List Event → EraNext
by_drain p es = Goes (Some (record { eras = eras_after p.eras es; moment = p.moment })) (map Makes es)
    (era_entries_text (logged_since p.eras.log (eras_after p.eras es).log) ++ (codes "drained " ++ (decimal (length es) ++ codes "\n")))

-- bytes that a process of the current era shows with its stamp
abbrev pub look : Eras → ProcessId → List ℕ → List ℕ
look e p bytes = look_with (stamp_in e p) e.world p bytes

abbrev pub by_show : EraPlay → ProcessId → Run → EraNext
by_show p from run = Goes (Some p) [] (look p.eras from (held p.eras.world from run) ++ 10 ∷ [])

-- the runs of the updates that the current era has logged, whose numbers go on from those of the eras before
abbrev pub by_places : EraPlay → EraNext
by_places p = Goes (Some p) [] (placed_text p.eras.bases p.eras.world)

-- items are carried: how many, and then what was logged of reading and of setting them
abbrev pub by_carry : EraPlay → Dimensions → EraNext
by_carry p s = Goes (Some (record { eras = carried p.eras s; moment = p.moment })) (Carries s ∷ [])
    (codes "regrouped " ++ (decimal (many_carried p.eras) ++ 10 ∷ era_entries_text (logged_since p.eras.log (carried p.eras s).log)))

-- nothing is carried
abbrev pub refuses : EraPlay → List ℕ → EraNext
refuses p text = Goes (Some p) [] (text ++ 10 ∷ [])

-- no partition's items have more bytes than the new space
abbrev pub has_space : World → Dimensions → Bool
has_space w s = list_all (λ d. nat_le (bytes_in_partition w d) (space_of s)) (range_with_len 0 w.shape.k)

-- the group is down, or else has messages on their way, or else the items are too long, or else they are carried
abbrev pub by_regroup : EraPlay → Dimensions → EraNext
by_regroup p s =
    if is_down p.eras.world then refuses p (codes "down")
    else (if is_some (next_delivery p.eras.world) then refuses p (codes "not_drained")
    else (if has_space p.eras.world s then by_carry p s else refuses p (codes "no_space")))

-- a group at its start
abbrev pub eras_from : Dimensions → EraPlay
eras_from shape = record { eras = first_era (opening shape); moment = 0 }

abbrev pub first_by : Line → EraNext
first_by line = opens_by eras_from line

-- what a line of this meaning does behind the group line
abbrev pub then_by : EraPlay → Line → EraNext
then_by p Skipped = quietly (Some p)
then_by p (Group shape) = Refused BadLine
then_by p (Ask caller from act) = by_call p caller (happens.Ask caller (record { moment = p.moment; act = act }) from)
then_by p (Collect caller call from) = by_call p caller (happens.Collect caller call from)
then_by p (Deliver from to) = by_event p (happens.Deliver from to)
then_by p (Fail from keep) = by_event p (happens.Fail from keep)
then_by p (Flush from) = by_event p (happens.Flush from)
then_by p (Trace caller call partition from) = by_trace p caller call (happens.Trace caller call partition from)
then_by p Drain = by_drain p (draining_unless_down p.eras.world)
then_by p (Show from run) = by_show p from run
then_by p Places = by_places p
then_by p (Time moment) = quietly (Some (record { eras = p.eras; moment = moment }))
then_by p Stop = Ends

-- what a line does that is read so
abbrev pub next_by : Option EraPlay → Result Line LineFault → EraNext
next_by play (Err fault) = Refused fault
next_by None (Ok line) = first_by line
next_by (Some p) (Ok line) = then_by p line

-- the shape of the current group, once its line was read
abbrev pub shape_in : Option EraPlay → Option Dimensions
shape_in play = option_map (λ p. p.eras.world.shape) play

-- a line `regroup` that names this shape
abbrev pub regroup_by : EraPlay → Result Dimensions LineFault → EraNext
regroup_by p (Err fault) = Refused fault
regroup_by p (Ok shape) = by_regroup p shape

-- a line that does not begin with `#` is `regroup`, or one of a script of one group
abbrev pub regroups : List ℕ → Bool
regroups line = if is_skipped line then false else is_regroup (split_words line)

-- what a line does
abbrev pub next_of : Option EraPlay → List ℕ → EraNext
next_of None line = next_by None (line_meaning None line)
next_of (Some p) line = if regroups line then regroup_by p (regroup_line p.eras.world.shape.k (split_words line)) else
    next_by (Some p) (line_meaning (shape_in (Some p)) line)
