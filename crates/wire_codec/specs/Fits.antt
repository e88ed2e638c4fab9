-- Which messages have a frame: each number fits where it is written, and the frame isn't too long.
use Rattle.std.specs.Prelude.{ℕ, ◌≡◌, ◌<◌, ◌≤◌, ◌^◌, List, length, Option, IfSome, ⊤}
use Rattle.std.specs.List.{AllByRecursion}
use Rattle.group_types.specs.Key.{IsKey}
use Rattle.group_types.specs.declared.process.ProcessId.{ProcessId}
use Rattle.group_types.specs.declared.process.ProcessId.TheVariants.{DataNode, ParityNode}
use Rattle.group_types.specs.declared.run.Run.{Run}
use Rattle.group_message.specs.declared.message.Message.{Message}
use Rattle.group_message.specs.declared.message.Message.TheVariants as tells
use Rattle.group_message.specs.declared.message.Session.{Session}
use Rattle.group_message.specs.declared.update.Body.{Body}
use Rattle.group_message.specs.declared.update.Body.TheVariants.{Put, Remove, Touch}
use Rattle.group_message.specs.declared.update.Outcome.{Outcome}
use Rattle.group_message.specs.declared.update.Outcome.TheVariants as ends
use Rattle.group_message.specs.declared.update.Update.{Update}
use Rattle.wire_codec.specs.Frame.{frame_body, frame_of}

-- a number of one byte, and of two, four and eight
abbrev pub IsOne : ℕ → Type 0
IsOne n = n < 256

abbrev pub IsTwo : ℕ → Type 0
IsTwo n = n < 2 ^ 16

abbrev pub IsFour : ℕ → Type 0
IsFour n = n < 2 ^ 32

abbrev pub IsEight : ℕ → Type 0
IsEight n = n < 2 ^ 64

abbrev pub FitsProcess : ProcessId → Type 0
FitsProcess (DataNode d) = IsOne d
FitsProcess (ParityNode i) = IsOne i

abbrev pub FitsSession : Session → Type 0
FitsSession s = FitsProcess s.leader × IsEight s.number

-- so many that their number is one of one byte, and of four
abbrev pub IsShort : List ℕ → Type 0
IsShort bytes = IsOne (length bytes)

abbrev pub IsLong : List ℕ → Type 0
IsLong bytes = IsFour (length bytes)

abbrev pub FitsMaybe : {A : Type 0} → (A → Type 0) → Option A → Type 0
FitsMaybe P o = IfSome o P

abbrev pub FitsRun : Run → Type 0
FitsRun r = IsFour r.at × IsFour r.len

-- the difference of an update has the length of its run
abbrev pub FitsBody : Body → Type 0
FitsBody (Put flags until r delta) = IsFour flags × FitsMaybe IsEight until × FitsRun r × IsLong delta × (length delta ≡ r.len)
FitsBody Remove = ⊤
FitsBody (Touch until) = FitsMaybe IsEight until

abbrev pub FitsOutcome : Outcome → Type 0
FitsOutcome ends.Stored = ⊤
FitsOutcome ends.Deleted = ⊤
FitsOutcome ends.Touched = ⊤
FitsOutcome (ends.Number n) = IsEight n

abbrev pub FitsUpdate : Update → Type 0
FitsUpdate u = IsEight u.number × IsOne u.caller × IsEight u.call × IsKey u.key × FitsBody u.body × FitsMaybe FitsRun u.frees × FitsOutcome u.outcome

abbrev pub FitFields : Message → Type 0
FitFields (tells.Update r d u stable) = IsOne r.0 × IsOne d.0 × FitsUpdate u × IsEight stable
FitFields (tells.Ack r d number) = IsOne r.0 × IsOne d.0 × IsEight number
FitFields (tells.Stable r d number) = IsOne r.0 × IsOne d.0 × IsEight number
FitFields (tells.Adopt r d base list) = IsOne r.0 × IsOne d.0 × IsEight base × IsTwo (length list) × AllByRecursion FitsUpdate list
FitFields (tells.ReadBlock s block rows) = FitsSession s × IsFour block × IsShort rows × AllByRecursion IsOne rows
FitFields (tells.Block s bytes number) = FitsSession s × IsLong bytes × IsEight number
FitFields (tells.Mark s r block d number) = FitsSession s × IsOne r.0 × IsFour block × IsOne d.0 × IsEight number
FitFields (tells.Row s bytes stamp) = FitsSession s × IsLong bytes × IsShort stamp × AllByRecursion IsEight stamp
FitFields (tells.Cease upto) = IsEight upto
FitFields (tells.Notice dead) = FitsProcess dead

-- the most bytes behind a frame's length
abbrev pub most : ℕ
most = 134217728

-- a message has a frame
pub record HasFrame (m : Message) : Type 0 where
  pub fit : FitFields m
  pub short : length (frame_body m) ≤ most

-- these bytes are the frame of this message
pub record IsFrame (bytes : List ℕ) (m : Message) : Type 0 where
  pub has_frame : HasFrame m
  pub spelled : bytes ≡ frame_of m
