use Rattle.std.specs.Prelude.{ℕ, ◌<◌, ◌≤◌, ◌+◌, ⊤, ◌==◌, ◌≢◌, ◌^◌, nat_le, ◌&&◌, not, Bool, true, All, List, [], ◌∷◌}
use Rattle.std.specs.Prelude.{find, codes, Option, Some, None, option_map, Result, Ok, Err, if◌then◌else◌}
use Rattle.std.specs.Int.{is_power_of_two}
use Rattle.std.specs.Str.{bytes_eq}
use Rattle.group_types.specs.Dimensions.{Dimensions, callers, space_of}
use Rattle.group_types.specs.Names.{IsProcess, same_process}
use Rattle.group_types.specs.Shape.{IsShape, most_space}
use Rattle.group_types.specs.declared.process.ProcessId.{ProcessId}
use Rattle.group_types.specs.declared.run.Run.{Run}
use Rattle.group_types.specs.declared.shape.Field.{Field}
use Rattle.group_types.specs.declared.shape.Field.TheVariants.{K, M, Block, Blocks}
use Rattle.memc_table.specs.Act.{act_value}
use Rattle.memc_table.specs.Numeral.{number_of}
use Rattle.scenario_text.specs.Acts.{act_of_words}
use Rattle.scenario_text.specs.Words.{◌>>=◌, split_words, number_below, process_of_word, partition_of_word, run_of_words, keep_of_word}
use Rattle.scenario_text.specs.declared.keyword.Keyword.{Keyword}
use Rattle.scenario_text.specs.declared.keyword.Keyword.TheVariants as keyword
use Rattle.scenario_text.specs.declared.line.Line.{Line}
use Rattle.scenario_text.specs.declared.line.Line.TheVariants.{Skipped, Group, Ask, Collect, Deliver, Fail, Flush, Trace, Drain, Show, Places, Time, Stop}
use Rattle.scenario_text.specs.declared.line.LineFault.{LineFault}
use Rattle.scenario_text.specs.declared.line.LineFault.TheVariants.{BadLine, BadShape}

-- an empty line, or one that begins with `#`
abbrev pub is_skipped : List ℕ → Bool
is_skipped [] = true
is_skipped (first ∷ rest) = first == 35

-- whether a field is within the limits of a shape
abbrev pub is_in_range : Dimensions → Field → Bool
is_in_range d K = nat_le 1 d.k && nat_le d.k 16
is_in_range d M = nat_le d.m 4
is_in_range d Block = nat_le 16 d.block && nat_le d.block 65536 && is_power_of_two d.block
is_in_range d Blocks = nat_le 1 d.blocks && nat_le (space_of d) most_space

-- the first field out of range, in the order k, m, block, blocks
abbrev pub first_out_of_range : Dimensions → Option Field
first_out_of_range d = find (λ field. not (is_in_range d field)) (K ∷ M ∷ Block ∷ Blocks ∷ [])

-- a group of this shape, unless a field is out of range
abbrev pub group_unless : Dimensions → Option Field → Result Line LineFault
group_unless d None = Ok (Group d)
group_unless d (Some field) = Err (BadShape field)

-- a group, if its shape is within the limits
unfoldable pub group_within : Dimensions → Result Line LineFault
group_within d = group_unless d (first_out_of_range d)

-- the group of numbers, if all words are numbers
abbrev pub group_line_of : Option ℕ → Option ℕ → Option ℕ → Option ℕ → Result Line LineFault
group_line_of (Some k) (Some m) (Some blocks) (Some block) = group_within (record { k = k; m = m; blocks = blocks; block = block })
group_line_of _ _ _ _ = Err BadLine

-- the words `group <k> <m> <blocks> <block>`
abbrev pub group_line : List (List ℕ) → Result Line LineFault
group_line (name ∷ k ∷ m ∷ blocks ∷ block ∷ []) = if bytes_eq name (codes "group") then group_line_of
    (number_below (2 ^ 32) k) (number_below (2 ^ 32) m) (number_below (2 ^ 32) blocks) (number_below (2 ^ 32) block)
    else Err BadLine
group_line _ = Err BadLine

-- the keyword that the first word of a line is
unfoldable pub keyword_of : List ℕ → Option Keyword
keyword_of word =
    if bytes_eq word (codes "ask") then Some keyword.Ask
    else (if bytes_eq word (codes "collect") then Some keyword.Collect
    else (if bytes_eq word (codes "deliver") then Some keyword.Deliver
    else (if bytes_eq word (codes "fail") then Some keyword.Fail
    else (if bytes_eq word (codes "flush") then Some keyword.Flush
    else (if bytes_eq word (codes "trace") then Some keyword.Trace
    else (if bytes_eq word (codes "drain") then Some keyword.Drain
    else (if bytes_eq word (codes "show") then Some keyword.Show
    else (if bytes_eq word (codes "places") then Some keyword.Places
    else (if bytes_eq word (codes "time") then Some keyword.Time
    else (if bytes_eq word (codes "stop") then Some keyword.Stop
    else None))))))))))

-- a delivery between two different processes
abbrev pub delivery : ProcessId → ProcessId → Option Line
delivery from to = if same_process from to then None else Some (Deliver from to)

-- a look at a run that lies in the space
abbrev pub look_within : Dimensions → ProcessId → Run → Option Line
look_within shape at run = if nat_le (run.at + run.len) (space_of shape) then Some (Show at run) else None

-- what a keyword means with the words behind it, in a group of this shape
unfoldable pub line_by : Dimensions → Keyword → List (List ℕ) → Option Line
line_by shape keyword.Ask (caller ∷ at ∷ op) = do
  caller ← number_below callers caller
  at ← process_of_word shape at
  act ← act_of_words op
  Some (Ask caller at act)
line_by shape keyword.Collect (caller ∷ call ∷ at ∷ []) = do
  caller ← number_below callers caller
  call ← number_of call
  at ← process_of_word shape at
  Some (Collect caller call at)
line_by shape keyword.Deliver (from ∷ to ∷ []) = do
  from ← process_of_word shape from
  to ← process_of_word shape to
  delivery from to
line_by shape keyword.Fail (at ∷ keep ∷ []) = do
  at ← process_of_word shape at
  keep ← keep_of_word keep
  Some (Fail at keep)
line_by shape keyword.Flush (at ∷ []) = option_map Flush (process_of_word shape at)
line_by shape keyword.Trace (caller ∷ call ∷ partition ∷ at ∷ []) = do
  caller ← number_below callers caller
  call ← number_of call
  partition ← partition_of_word shape partition
  at ← process_of_word shape at
  Some (Trace caller call partition at)
line_by shape keyword.Drain [] = Some Drain
line_by shape keyword.Show (at ∷ from ∷ len ∷ []) = do
  at ← process_of_word shape at
  run ← run_of_words from len
  look_within shape at run
line_by shape keyword.Places [] = Some Places
line_by shape keyword.Time (moment ∷ []) = option_map Time (number_below (2 ^ 62 + 1) moment)
line_by shape keyword.Stop [] = Some Stop
line_by _ _ _ = None

-- what words mean after the group line
abbrev pub event_line : Dimensions → List (List ℕ) → Option Line
event_line shape [] = None
event_line shape (name ∷ words) = keyword_of name >>= λ keyword. line_by shape keyword words

-- a meaning, or a bad line where there is none
abbrev pub or_bad_line : Option Line → Result Line LineFault
or_bad_line None = Err BadLine
or_bad_line (Some line) = Ok line

-- what words mean where the group is not named yet, and after it
abbrev pub meaning_of : Option Dimensions → List (List ℕ) → Result Line LineFault
meaning_of None words = group_line words
meaning_of (Some shape) words = or_bad_line (event_line shape words)

-- what a line means, or why it is refused
abbrev pub line_meaning : Option Dimensions → List ℕ → Result Line LineFault
line_meaning shape line = if is_skipped line then Ok Skipped else meaning_of shape (split_words line)

-- what a line names is within the group's limits: callers, processes, partitions, runs and moments, and a
-- value consists of bytes
abbrev pub IsWithin : Dimensions → Line → Type 0
IsWithin s Skipped = ⊤
IsWithin s (Group _) = ⊥
IsWithin s (Ask caller at act) = (caller < callers) × IsProcess s at × All (λ b. b < 256) (act_value act)
IsWithin s (Collect caller call at) = (caller < callers) × IsProcess s at
IsWithin s (Deliver from to) = IsProcess s from × IsProcess s to × (from ≢ to)
IsWithin s (Fail at keep) = IsProcess s at
IsWithin s (Flush at) = IsProcess s at
IsWithin s (Trace caller call partition at) = (caller < callers) × (partition.0 < s.k) × IsProcess s at
IsWithin s Drain = ⊤
IsWithin s (Show at run) = IsProcess s at × (run.at + run.len ≤ space_of s)
IsWithin s Places = ⊤
IsWithin s (Time moment) = moment ≤ 2 ^ 62
IsWithin s Stop = ⊤

-- a line that may stand in a script of this group, or before the group is named
abbrev pub IsLineOf : Option Dimensions → Line → Type 0
IsLineOf (Some shape) line = IsWithin shape line
IsLineOf None Skipped = ⊤
IsLineOf None (Group shape) = IsShape shape
IsLineOf None _ = ⊥
