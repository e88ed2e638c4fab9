-- The bytes of each message: how many follow, of which kind it is, and its fields.
use Rattle.std.specs.Prelude.{ℕ, List, [], ◌∷◌, ◌++◌, length, Option, Some, None}
use Rattle.std.specs.List.{flat_map}
use Rattle.std.specs.Int.{w16, w32, w64, to_be_bytes}
use Rattle.group_types.specs.declared.process.ProcessId.{ProcessId}
use Rattle.group_types.specs.declared.process.ProcessId.TheVariants.{DataNode, ParityNode}
use Rattle.group_types.specs.declared.run.Run.{Run}
use Rattle.group_message.specs.declared.message.Message.{Message}
use Rattle.group_message.specs.declared.message.Message.TheVariants as tells
use Rattle.group_message.specs.declared.message.Session.{Session}
use Rattle.group_message.specs.declared.update.Body.{Body}
use Rattle.group_message.specs.declared.update.Body.TheVariants.{Put, Remove, Touch}
use Rattle.group_message.specs.declared.update.Outcome.{Outcome}
use Rattle.group_message.specs.declared.update.Outcome.TheVariants as ends
use Rattle.group_message.specs.declared.update.Update.{Update}

-- a number of one byte, and numbers of two, four and eight, the highest byte first
abbrev pub one : ℕ → List ℕ
one n = n ∷ []

abbrev pub two : ℕ → List ℕ
two n = to_be_bytes w16 n

abbrev pub four : ℕ → List ℕ
four n = to_be_bytes w32 n

abbrev pub eight : ℕ → List ℕ
eight n = to_be_bytes w64 n

-- a data process or a parity process, and its number
abbrev pub process : ProcessId → List ℕ
process (DataNode d) = 0 ∷ one d
process (ParityNode i) = 1 ∷ one i

abbrev pub session : Session → List ℕ
session s = process s.leader ++ eight s.number

-- few bytes, with their number before them in one byte
abbrev pub short : List ℕ → List ℕ
short bytes = one (length bytes) ++ bytes

-- bytes, with their number before them in four
abbrev pub long : List ℕ → List ℕ
long bytes = four (length bytes) ++ bytes

-- nothing, or something
abbrev pub maybe : {A : Type 0} → (A → List ℕ) → Option A → List ℕ
maybe spell None = 0 ∷ []
maybe spell (Some x) = 1 ∷ spell x

abbrev pub run : Run → List ℕ
run r = four r.at ++ four r.len

abbrev pub body : Body → List ℕ
body (Put flags until r delta) = 0 ∷ four flags ++ maybe eight until ++ run r ++ long delta
body Remove = 1 ∷ []
body (Touch until) = 2 ∷ maybe eight until

abbrev pub outcome : Outcome → List ℕ
outcome ends.Stored = 0 ∷ []
outcome ends.Deleted = 1 ∷ []
outcome ends.Touched = 2 ∷ []
outcome (ends.Number n) = 3 ∷ eight n

abbrev pub update : Update → List ℕ
update u = eight u.number ++ one u.caller ++ eight u.call ++ short u.key ++ body u.body ++ maybe run u.frees ++ outcome u.outcome

-- which kind a message is of
abbrev pub kind_of : Message → ℕ
kind_of (tells.Update _ _ _ _) = 1
kind_of (tells.Ack _ _ _) = 2
kind_of (tells.Stable _ _ _) = 3
kind_of (tells.Adopt _ _ _ _) = 4
kind_of (tells.ReadBlock _ _ _) = 5
kind_of (tells.Block _ _ _) = 6
kind_of (tells.Mark _ _ _ _ _) = 7
kind_of (tells.Row _ _ _) = 8
kind_of (tells.Cease _) = 9
kind_of (tells.Notice _) = 10

-- the fields of a message, in order
abbrev pub fields : Message → List ℕ
fields (tells.Update r d u stable) = one r.0 ++ one d.0 ++ update u ++ eight stable
fields (tells.Ack r d number) = one r.0 ++ one d.0 ++ eight number
fields (tells.Stable r d number) = one r.0 ++ one d.0 ++ eight number
fields (tells.Adopt r d base list) = one r.0 ++ one d.0 ++ eight base ++ two (length list) ++ flat_map update list
fields (tells.ReadBlock s block rows) = session s ++ four block ++ short rows
fields (tells.Block s bytes number) = session s ++ long bytes ++ eight number
fields (tells.Mark s r block d number) = session s ++ one r.0 ++ four block ++ one d.0 ++ eight number
fields (tells.Row s bytes stamp) = session s ++ long bytes ++ one (length stamp) ++ flat_map eight stamp
fields (tells.Cease upto) = eight upto
fields (tells.Notice dead) = process dead

-- what stands behind a frame's length
abbrev pub frame_body : Message → List ℕ
frame_body m = kind_of m ∷ fields m

-- the frame of a message
abbrev pub frame_of : Message → List ℕ
frame_of m = four (length (frame_body m)) ++ frame_body m
