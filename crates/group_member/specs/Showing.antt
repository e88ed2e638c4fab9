-- When a member may show an answer, and give up what it asked.
use Rattle.std.specs.Prelude.{ℕ, ◌≡◌, ◌<◌, ◌≤◌, ◌+◌, ◌&&◌, ◌||◌, nat_lt, not, Bool, true, false, Option, Some, None}
use Rattle.group_types.specs.Lists.{at}
use Rattle.group_types.specs.Names.{index_of}
use Rattle.group_types.specs.declared.process.ProcessId.{ProcessId}
use Rattle.membership.specs.Members.{count_known_dead, knows_dead}
use Rattle.group_wire.specs.May.{call_waits_for}
use Rattle.group_wire.specs.Sets.{Processes, size_of}
use Rattle.group_wire.specs.State.{Stage, Answered, OpenCall}
use Rattle.group_member.specs.Callers.{IsItsCaller, OwnCallers, caller_of}
use Rattle.group_member.specs.Standing.{Member, OwnSigns, OwnWords}

-- an open call was told its answer before a ping was sent
abbrev pub IsToldIn : Stage → ℕ → Type 0
IsToldIn (Answered told pinged) ping = pinged ≤ ping
IsToldIn _ ping = ⊥

abbrev pub WasToldBefore : Option OpenCall → ℕ → Type 0
WasToldBefore None ping = ⊥
WasToldBefore (Some opened) ping = IsToldIn opened.stage ping

-- who has answered a ping, but for those whose deaths the member has taken
abbrev pub own_answerers : OwnWords → OwnSigns → ℕ → Processes
own_answerers w v ping x = nat_lt ping (at 0 v.answered (index_of w.shape x)) && not (knows_dead w.taken x)

-- who has answered it, or is one of those
abbrev pub counts_for : OwnWords → OwnSigns → ℕ → Processes
counts_for w v ping x = knows_dead w.taken x || nat_lt ping (at 0 v.answered (index_of w.shape x))

-- with those at least m have
abbrev pub HasEnough : OwnWords → OwnSigns → ℕ → Type 0
HasEnough w v ping = w.shape.m ≤ size_of w.shape (own_answerers w v ping) + count_known_dead w.taken

-- an answer may be shown by a ping
pub record CanShow (v : Member) (caller ping : ℕ) : Type 0 where
  pub its : IsItsCaller v.callers caller
  pub told : WasToldBefore (caller_of v.callers caller).call ping
  pub sent : ping < v.signs.pinged
  pub enough : HasEnough v.words v.signs ping

-- a call waits for one whose death the member has taken
abbrev pub is_taken : OwnWords → Option ProcessId → Bool
is_taken w None = false
is_taken w (Some x) = knows_dead w.taken x

pub record CanGiveUp (w : OwnWords) (v : OwnCallers) (caller : ℕ) : Type 0 where
  pub its : IsItsCaller v caller
  pub taken : is_taken w (call_waits_for (caller_of v caller).call) ≡ true
