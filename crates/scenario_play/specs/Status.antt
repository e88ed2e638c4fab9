use Rattle.std.specs.Prelude.{◌≡◌, ℕ, nat_lt, List, [], ◌++◌, codes, Option, Some, None, ◌⊎◌, if◌then◌else◌, length, ⊤}
use Rattle.std.specs.Fmt.{decimal}
use Rattle.edge_io.specs.Faults.{Rose}
use Rattle.edge_io.specs.declared.fault.ReadFault as edge
use Rattle.edge_io.specs.declared.fault.ReadFault.TheVariants as read
use Rattle.group_types.specs.declared.config_key.ConfigKey.{ConfigKey}
use Rattle.group_types.specs.declared.config_key.ConfigKey.TheVariants as key
use Rattle.group_types.specs.declared.shape.Field.TheVariants.{K, M, Block, Blocks}
use Rattle.scenario_text.specs.declared.line.LineFault.{LineFault}
use Rattle.scenario_text.specs.declared.line.LineFault.TheVariants as line
use Rattle.scenario_run.specs.Course.{Fault}
use Rattle.scenario_run.specs.Script.{first_fault}
use Rattle.scenario_play.specs.declared.status.Count.TheVariants.{Groups, Nodes}
use Rattle.scenario_play.specs.declared.status.Status.{Status}
use Rattle.scenario_play.specs.declared.status.Status.TheVariants.{Done, BadWords, BadLine, BadShape, BadCount, TooLong}
use Rattle.scenario_play.specs.declared.status.Status.TheVariants.{ReadFault, WriteFault, Want, Cut, LineTooLong, Worn}
use Rattle.scenario_play.specs.declared.status.Status.TheVariants.{BadFrame, Refused, BadConfig, AcceptFault}

-- the number with which the program ends
abbrev pub number_of_status : Status → ℕ
number_of_status Done = 0
number_of_status BadWords = 1
number_of_status (BadLine _) = 2
number_of_status (BadShape _) = 3
number_of_status (BadCount _) = 3
number_of_status TooLong = 4
number_of_status (BadConfig _) = 5
number_of_status ReadFault = 6
number_of_status WriteFault = 7
number_of_status AcceptFault = 8
number_of_status Want = 9
number_of_status Cut = 10
number_of_status LineTooLong = 11
number_of_status Worn = 12
number_of_status (BadFrame _) = 13
number_of_status (Refused _) = 14

-- the status of a script that wasn't read
abbrev pub status_of_read : edge.ReadFault → Status
status_of_read read.TooLong = TooLong
status_of_read read.Failed = ReadFault
status_of_read read.Want = Want

-- the last line of settings that are refused at a key
abbrev pub config_line : ConfigKey → List ℕ
config_line key.Syntax = codes "fault: config syntax\n"
config_line key.K = codes "fault: config k\n"
config_line key.M = codes "fault: config m\n"
config_line key.Blocks = codes "fault: config blocks\n"
config_line key.Block = codes "fault: config block\n"
config_line key.Address = codes "fault: config address\n"
config_line key.Workers = codes "fault: config workers\n"
config_line key.Connections = codes "fault: config connections\n"
config_line key.Control = codes "fault: config control\n"
config_line key.Unknown = codes "fault: config unknown\n"

-- the last line, of a bad line, a bad frame and a line that fails what stands before its number
abbrev pub text_of_status : Status → List ℕ
text_of_status Done = []
text_of_status BadWords = codes "fault: words\n"
text_of_status (BadLine _) = codes "fault: line "
text_of_status (BadShape K) = codes "fault: shape k\n"
text_of_status (BadShape M) = codes "fault: shape m\n"
text_of_status (BadShape Block) = codes "fault: shape block\n"
text_of_status (BadShape Blocks) = codes "fault: shape blocks\n"
text_of_status (BadCount Groups) = codes "fault: shape groups\n"
text_of_status (BadCount Nodes) = codes "fault: shape nodes\n"
text_of_status TooLong = codes "fault: length\n"
text_of_status (BadConfig key) = config_line key
text_of_status ReadFault = codes "fault: read\n"
text_of_status WriteFault = []
text_of_status AcceptFault = codes "fault: accept\n"
text_of_status Want = codes "fault: memory\n"
text_of_status Cut = []
text_of_status LineTooLong = []
text_of_status Worn = []
text_of_status (BadFrame _) = codes "fault: frame "
text_of_status (Refused _) = codes "refused "

-- the last line that is written at a status
abbrev pub last_line : Status → List ℕ
last_line (BadLine n) = codes "fault: line " ++ decimal n ++ codes "\n"
last_line (BadFrame at) = codes "fault: frame " ++ decimal at ++ codes "\n"
last_line (Refused n) = codes "refused " ++ decimal n ++ codes "\n"
last_line Done = text_of_status Done
last_line BadWords = text_of_status BadWords
last_line (BadShape field) = text_of_status (BadShape field)
last_line (BadCount count) = text_of_status (BadCount count)
last_line TooLong = text_of_status TooLong
last_line (BadConfig key) = text_of_status (BadConfig key)
last_line ReadFault = text_of_status ReadFault
last_line WriteFault = text_of_status WriteFault
last_line AcceptFault = text_of_status AcceptFault
last_line Want = text_of_status Want
last_line Cut = text_of_status Cut
last_line LineTooLong = text_of_status LineTooLong
last_line Worn = text_of_status Worn

-- the most bytes that a script has
abbrev pub longest_script : ℕ
longest_script = 16777216

-- what is told of a line that is refused
abbrev pub told_at : ℕ → LineFault → Status
told_at n line.BadLine = BadLine n
told_at n (line.BadShape field) = BadShape field
told_at n line.Want = Want

-- what is told of lines with this first fault, where this is told of a line that is refused
abbrev pub status_of_lines : {F : Type 0} → (ℕ → F → Status) → Option (Fault F) → Status
status_of_lines tell None = Done
status_of_lines tell (Some fault) = tell fault.number fault.cause

-- what is told of a script, where this is told of its lines
abbrev pub told_by : (List ℕ → Status) → List ℕ → Status
told_by verdict text = if nat_lt longest_script (length text) then TooLong else verdict text

-- what is told of the lines of a script of one group, and of the script
abbrev pub verdict : List ℕ → Status
verdict text = status_of_lines told_at (first_fault text)

abbrev pub status_for : List ℕ → Status
status_for text = told_by verdict text

-- a status is the one that is to be told, or there was no memory, or an object counted a fault
abbrev pub IsStatusTold : Status → ℕ → ℕ → ℕ → ℕ → Status → Type 0
IsStatusTold wanted read_before read_now written_before written_now status =
    (status ≡ wanted) ⊎ (status ≡ Want) ⊎ ((status ≡ ReadFault) × Rose read_before read_now) ⊎ ((status ≡ WriteFault) × Rose written_before written_now)

-- a status that tells of a line
abbrev pub TellsOfLine : Status → Type 0
TellsOfLine (BadLine _) = ⊤
TellsOfLine (BadShape _) = ⊤
TellsOfLine (BadCount _) = ⊤
TellsOfLine _ = ⊥

-- a status that tells what is wrong with a script
abbrev pub TellsOfScript : Status → Type 0
TellsOfScript TooLong = ⊤
TellsOfScript status = TellsOfLine status

-- a status that comes before a line of the script is treated
abbrev pub IsUnread : Status → Type 0
IsUnread TooLong = ⊤
IsUnread ReadFault = ⊤
IsUnread _ = ⊥

-- a status that may come before a script was read to its end
abbrev pub IsEarly : Status → Type 0
IsEarly TooLong = ⊤
IsEarly ReadFault = ⊤
IsEarly Want = ⊤
IsEarly _ = ⊥

-- where a status tells of a fault of the source or the sink, that one counted it; and it is none of other commands
abbrev pub HasFaultOf : ℕ → ℕ → ℕ → ℕ → Status → Type 0
HasFaultOf read_before read_now written_before written_now ReadFault = Rose read_before read_now
HasFaultOf read_before read_now written_before written_now WriteFault = Rose written_before written_now
HasFaultOf read_before read_now written_before written_now BadWords = ⊥
HasFaultOf _ _ _ _ _ = ⊤
