-- The callers of a member: their numbers, their open calls, and their positions.
use Rattle.std.specs.Prelude.{ℕ, suc, ◌≡◌, ◌+◌, ◌-◌, ◌*◌, ◌/◌, ◌<◌, ◌≤◌, ◌^◌, Bool, true, false, not, List, length, Option, Some, None}
use Rattle.group_types.specs.Dimensions.{Dimensions, callers}
use Rattle.group_types.specs.Hash.{home_of}
use Rattle.group_types.specs.Lists.{at, put}
use Rattle.group_types.specs.Names.{index_of}
use Rattle.group_types.specs.Shape.{IsShape}
use Rattle.group_types.specs.declared.process.ProcessId.{ProcessId}
use Rattle.memc_table.specs.Act.{key_of}
use Rattle.group_wire.specs.May.{call_waits_for}
use Rattle.group_wire.specs.State.{Request, AskFor, TraceOf, Told, Stage, Unasked, AskedOf, Unknown, TracedAt, Answered, OpenCall}
use Rattle.group_member.specs.declared.open_call.CallStage as code
use Rattle.group_member.specs.declared.open_call.CallStage.TheVariants as stands

-- a caller: its open call, if there is one, and its next position
pub record OwnCaller : Type 0 where
  pub call : Option OpenCall
  pub next : ℕ

-- the callers of a member, in order, and the number of the first
pub record OwnCallers : Type 0 where
  pub first : ℕ
  pub states : List OwnCaller

-- a caller that has asked nothing
abbrev pub no_caller : OwnCaller
no_caller = record { call = None; next = 0 }

-- how many callers each member is the gateway of
abbrev pub callers_each : Dimensions → ℕ
callers_each s = callers / (s.k + s.m)

-- the callers are those whose gateway this process is
pub record AreCallersOf (s : Dimensions) (name : ProcessId) (v : OwnCallers) : Type 0 where
  pub limits : IsShape s
  pub first : v.first ≡ index_of s name * callers_each s
  pub many : length v.states ≡ callers_each s

-- the caller of a number is one of them
pub record IsItsCaller (v : OwnCallers) (caller : ℕ) : Type 0 where
  pub from : v.first ≤ caller
  pub below : caller < v.first + length v.states

-- the caller of a number, and the callers with this one in its place
abbrev pub caller_of : OwnCallers → ℕ → OwnCaller
caller_of v caller = at no_caller v.states (caller - v.first)

abbrev pub with_caller : OwnCallers → ℕ → OwnCaller → OwnCallers
with_caller v caller state = record v { states = put no_caller v.states (caller - v.first) state }

-- the callers, of which one has this open call
abbrev pub with_call : OwnCallers → ℕ → Option OpenCall → OwnCallers
with_call v caller call = with_caller v caller (record (caller_of v caller) { call = call })

-- a caller whose call is asked of a member, under its next position
abbrev pub call_asked : ProcessId → ℕ → Option OpenCall → Option OpenCall
call_asked x next None = None
call_asked x next (Some opened) = Some (record opened { position = next; stage = AskedOf x })

abbrev pub asked_of : ProcessId → OwnCaller → OwnCaller
asked_of x caller = record { call = call_asked x caller.next caller.call; next = suc caller.next }

-- one whose call goes on to another stage
abbrev pub call_staged : (OpenCall → Stage) → Option OpenCall → Option OpenCall
call_staged stage None = None
call_staged stage (Some opened) = Some (record opened { stage = stage opened })

-- the request that a caller's call is asked by, and that by which it is traced
abbrev pub ask_for : ℕ → ℕ → Option OpenCall → Option Request
ask_for caller next None = None
ask_for caller next (Some opened) = Some (AskFor caller next opened.op)

abbrev pub ask_of : OwnCallers → ℕ → Option Request
ask_of v caller = ask_for caller (caller_of v caller).next (caller_of v caller).call

abbrev pub trace_of : ℕ → ℕ → Option OpenCall → Option Request
trace_of k caller None = None
trace_of k caller (Some opened) = Some (TraceOf caller opened.position (home_of (key_of opened.op.act) k))

-- the stage of a call in the words of the definitions
abbrev pub stage_of : code.CallStage → Stage
stage_of stands.Unasked = Unasked
stage_of (stands.AskedOf x) = AskedOf x
stage_of stands.Unknown = Unknown
stage_of (stands.TracedAt x) = TracedAt x
stage_of (stands.Answered told pinged) = Answered told pinged

-- a call that is to be asked, and one whose fate is not known
abbrev pub is_unasked : Stage → Bool
is_unasked Unasked = true
is_unasked _ = false

abbrev pub is_unknown : Stage → Bool
is_unknown Unknown = true
is_unknown _ = false

-- a call that waits for an answer to its ask, or to its trace
abbrev pub waits_for_told : Bool → Stage → Bool
waits_for_told traced (AskedOf x) = not traced
waits_for_told traced (TracedAt x) = traced
waits_for_told traced _ = false

-- there is an open call, at such a stage
abbrev pub is_at : (Stage → Bool) → Option OpenCall → Bool
is_at such None = false
is_at such (Some opened) = such opened.stage

-- the caller is one of the member's, and has no open call
pub record IsFree (v : OwnCallers) (caller : ℕ) : Type 0 where
  pub its : IsItsCaller v caller
  pub free : (caller_of v caller).call ≡ None

-- its open call is to be asked, and it has a position left
pub record CanBeAsked (v : OwnCallers) (caller : ℕ) : Type 0 where
  pub its : IsItsCaller v caller
  pub unasked : is_at is_unasked (caller_of v caller).call ≡ true
  pub left : (caller_of v caller).next < 2 ^ 64 - 1

-- its open call is of unknown fate
pub record CanBeTraced (v : OwnCallers) (caller : ℕ) : Type 0 where
  pub its : IsItsCaller v caller
  pub unknown : is_at is_unknown (caller_of v caller).call ≡ true

-- it waits for no member
pub record CanLetGo (v : OwnCallers) (caller : ℕ) : Type 0 where
  pub its : IsItsCaller v caller
  pub waits : call_waits_for (caller_of v caller).call ≡ None

-- what an open call was told as its answer
abbrev pub answer_told_at : Stage → Option Told
answer_told_at (Answered told pinged) = Some told
answer_told_at _ = None

abbrev pub told_in : Option OpenCall → Option Told
told_in None = None
told_in (Some opened) = answer_told_at opened.stage
