-- What a script asks of its transcript, step by step, and the first of its lines that is refused.
use Rattle.std.specs.Prelude.{ℕ, ◌+◌, nat_lt, not, Bool, true, List, [], ◌∷◌, ◌++◌, codes, replicate, slice_index}
use Rattle.std.specs.Prelude.{slice_set, Option, Some, None, Result, Ok, Err, option_map, if◌then◌else◌}
use Rattle.std.specs.Str.{bytes_eq}
use Rattle.group_types.specs.Dimensions.{Dimensions, callers}
use Rattle.group_calls.specs.declared.event.Event.{Event}
use Rattle.group_calls.specs.declared.event.Event.TheVariants as happens
use Rattle.scenario_text.specs.Meaning.{is_skipped, line_meaning}
use Rattle.scenario_text.specs.declared.line.Line.{Line}
use Rattle.scenario_text.specs.declared.line.Line.TheVariants.{Skipped, Group, Ask, Collect, Deliver, Fail, Flush, Trace, Drain, Show, Places, Time, Stop}
use Rattle.scenario_text.specs.declared.line.LineFault.{LineFault}
use Rattle.scenario_text.specs.declared.line.LineFault.TheVariants.{BadLine}
use Rattle.scenario_run.specs.Course.{Fault, Next, Goes, Ends, Refused}
use Rattle.run_verify.specs.declared.step.Step.{Step}
use Rattle.run_verify.specs.declared.step.Step.TheVariants.{Make, Deliveries, Look, Placing}

-- what the lines before set: the group's shape, the moment of the asks that follow, and how often each caller
-- has asked
pub record Setting : Type 0 where
  pub shape : Dimensions
  pub moment : ℕ
  pub asked : List ℕ

-- what a line does
abbrev pub StepNext : Type 0
StepNext = Next Setting Step LineFault

-- at the group line
abbrev pub first_setting : Dimensions → Setting
first_setting shape = record { shape = shape; moment = 0; asked = replicate callers 0 }

-- a line that asks nothing of the transcript
abbrev pub sets : Setting → StepNext
sets s = Goes (Some s) [] []

-- a line that asks one step
abbrev pub asks_for : Setting → Step → StepNext
asks_for s step = Goes (Some s) (step ∷ []) []

-- the setting behind an ask of this caller
abbrev pub with_ask : Setting → ℕ → Setting
with_ask s caller = record { shape = s.shape; moment = s.moment; asked = slice_set s.asked caller (slice_index s.asked caller + 1) }

-- only a call that was asked is traced
abbrev pub trace_steps : Setting → ℕ → ℕ → Event → StepNext
trace_steps s caller call e = if nat_lt call (slice_index s.asked caller) then asks_for s (Make e) else Refused BadLine

-- what a line of this meaning does where the group isn't named yet
abbrev pub first_steps : Line → StepNext
first_steps Skipped = Goes None [] []
first_steps (Group shape) = sets (first_setting shape)
first_steps _ = Refused BadLine

-- what it does behind the group line
abbrev pub later_steps : Setting → Line → StepNext
later_steps s Skipped = sets s
later_steps s (Group shape) = Refused BadLine
later_steps s (Ask caller from act) = asks_for (with_ask s caller) (Make (happens.Ask caller (record { moment = s.moment; act = act }) from))
later_steps s (Collect caller call from) = asks_for s (Make (happens.Collect caller call from))
later_steps s (Deliver from to) = asks_for s (Make (happens.Deliver from to))
later_steps s (Fail from keep) = asks_for s (Make (happens.Fail from keep))
later_steps s (Flush from) = asks_for s (Make (happens.Flush from))
later_steps s (Trace caller call partition from) = trace_steps s caller call (happens.Trace caller call partition from)
later_steps s Drain = asks_for s Deliveries
later_steps s (Show from run) = asks_for s (Look from run)
later_steps s Places = asks_for s Placing
later_steps s (Time moment) = sets (record { shape = s.shape; moment = moment; asked = s.asked })
later_steps s Stop = Ends

-- what a line does that is read so
abbrev pub steps_by_meaning : Option Setting → Result Line LineFault → StepNext
steps_by_meaning setting (Err fault) = Refused fault
steps_by_meaning None (Ok line) = first_steps line
steps_by_meaning (Some s) (Ok line) = later_steps s line

abbrev pub setting_shape : Option Setting → Option Dimensions
setting_shape setting = option_map (λ s. s.shape) setting

abbrev pub steps_of_line : Option Setting → List ℕ → StepNext
steps_of_line setting line = steps_by_meaning setting (line_meaning (setting_shape setting) line)

-- whether lines hold nothing more before `stop` or the end
abbrev pub is_over : List (List ℕ) → Bool
is_over [] = true
is_over (line ∷ lines) = if is_skipped line then is_over lines else bytes_eq line (codes "stop")

-- whether a line stands where it may: the last line, and no other, is `places`
abbrev pub stands_well : List ℕ → List (List ℕ) → Bool
stands_well line lines = if is_over lines then bytes_eq line (codes "places") else not (bytes_eq line (codes "places"))

-- what is to be checked: the group's shape, and the steps in order
pub record Script : Type 0 where
  pub shape : Dimensions
  pub steps : List Step

-- a script with steps before
abbrev pub behind : List Step → Result Script (Fault LineFault) → Result Script (Fault LineFault)
behind steps (Ok script) = Ok (record { shape = script.shape; steps = steps ++ script.steps })
behind steps (Err fault) = Err fault

-- the line of this number is refused
abbrev pub bad_line : ℕ → Result Script (Fault LineFault)
bad_line n = Err (record { number = n; cause = BadLine })

-- a script that ends where the next line would have the number n: before the group line it lacks that line
abbrev pub ended : ℕ → Option Setting → Result Script (Fault LineFault)
ended n None = bad_line n
ended n (Some s) = Ok (record { shape = s.shape; steps = [] })

-- what comes of the line of this number, which is skipped or not and stands where it may or doesn't, and of the rest
abbrev pub script_from_line : Bool → Bool → ℕ → Option Setting → StepNext → (Option Setting → Result Script (Fault LineFault)) → Result Script (Fault LineFault)
script_from_line skipped well n setting (Goes next steps text) rest = if skipped then rest next else (if well then behind steps (rest next) else bad_line n)
script_from_line skipped well n setting Ends rest = ended n setting
script_from_line skipped well n setting (Refused cause) rest = Err (record { number = n; cause = cause })

-- the script of lines, or the first of them that is refused, where the next has the number n
abbrev pub script_in : ℕ → Option Setting → List (List ℕ) → Result Script (Fault LineFault)
script_in n setting [] = ended n setting
script_in n setting (line ∷ lines) = script_from_line (is_skipped line) (stands_well line lines) n setting
    (steps_of_line setting line) (λ next. script_in (n + 1) next lines)
