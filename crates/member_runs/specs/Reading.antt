-- What a call of a member reads: the first of a kind that another handed out to it.
use Rattle.std.specs.Prelude.{ℕ, List, [], ◌∷◌, Option, Some, None}
use Rattle.group_types.specs.declared.process.ProcessId.{ProcessId}
use Rattle.membership.specs.Members.{Membership}
use Rattle.group_message.specs.declared.message.Message.{Message}
use Rattle.group_wire.specs.Sets.{changed}
use Rattle.group_wire.specs.State.{Request, Told}
use Rattle.group_member.specs.Acting.{IsFirst}
use Rattle.group_member.specs.Standing.{HandedFrames}
use Rattle.member_runs.specs.Calls.{MemberCall, Receives, Hears, Pongs, Counts, Reads, Learns}

-- what one member hands out to another
pub data HandedFrame : Type 0 where
  AMessage : Message → HandedFrame
  ASet : Membership → HandedFrame
  APing : ℕ → HandedFrame
  APong : ℕ → HandedFrame
  ARequest : Request → HandedFrame
  AnAnswer : Told → HandedFrame

-- a frame, and the member that handed it out
pub record Delivery : Type 0 where
  pub from : ProcessId
  pub frame : HandedFrame

-- what a call reads
abbrev pub read_by : MemberCall → Option Delivery
read_by (Receives from m) = Some (record { from = from; frame = AMessage m })
read_by (Hears from set) = Some (record { from = from; frame = ASet set })
read_by (Pongs from ping) = Some (record { from = from; frame = APing ping })
read_by (Counts from ping) = Some (record { from = from; frame = APong ping })
read_by (Reads from r) = Some (record { from = from; frame = ARequest r })
read_by (Learns from t) = Some (record { from = from; frame = AnAnswer t })
read_by _ = None

-- it is the first of its kind that was handed out to p and that p hasn't read
abbrev pub IsFirstFor : ProcessId → HandedFrame → HandedFrames → Type 0
IsFirstFor p (AMessage m) out = IsFirst (out.messages p) m
IsFirstFor p (ASet set) out = IsFirst (out.said p) set
IsFirstFor p (APing ping) out = IsFirst (out.pings p) ping
IsFirstFor p (APong ping) out = IsFirst (out.pongs p) ping
IsFirstFor p (ARequest r) out = IsFirst (out.requests p) r
IsFirstFor p (AnAnswer t) out = IsFirst (out.answers p) t

-- a list without its first
abbrev pub rest_of : {X : Type 0} → List X → List X
rest_of [] = []
rest_of (x ∷ xs) = xs

-- what was handed out, of which p has read the first
abbrev pub rest_for : {X : Type 0} → ProcessId → (ProcessId → List X) → ProcessId → List X
rest_for p frames = changed frames p (rest_of (frames p))

-- of that kind
abbrev pub without_first : ProcessId → HandedFrame → HandedFrames → HandedFrames
without_first p (AMessage m) out = record out { messages = rest_for p out.messages }
without_first p (ASet set) out = record out { said = rest_for p out.said }
without_first p (APing ping) out = record out { pings = rest_for p out.pings }
without_first p (APong ping) out = record out { pongs = rest_for p out.pongs }
without_first p (ARequest r) out = record out { requests = rest_for p out.requests }
without_first p (AnAnswer t) out = record out { answers = rest_for p out.answers }
