-- When each action may come, and runs of the group.
use Rattle.std.specs.Prelude.{ℕ, ◌≡◌, ◌≢◌, ◌<◌, ◌≤◌, ◌+◌, ◌&&◌, false, not, true, Option, Some, None, All}
use Rattle.group_types.specs.Dimensions.{callers}
use Rattle.group_types.specs.Names.{IsProcess}
use Rattle.group_types.specs.declared.process.ProcessId.{ProcessId}
use Rattle.memc_table.specs.Act.{act_value}
use Rattle.group_wire.specs.Actions.{Action, Begin, Send, Read, Treat, Collect, Flush, Learn, Receive, GiveUp, Cut, Say}
use Rattle.group_wire.specs.Actions.{Hear, Permit, Take, Ping, Pong, Count, Show, LetGo, Stop}
use Rattle.group_wire.specs.Sets.{IsSubset, Processes, size_of, with_one}
use Rattle.group_wire.specs.State.{Stage, AskedOf, TracedAt, Answered, OpenCall, Group, gateway_of}

-- a member of the group whose program runs
pub record IsHere (g : Group) (p : ProcessId) : Type 0 where
  pub member : IsProcess g.shape p
  pub runs : g.gone p ≡ false

-- a member may read what another sent it, or itself, which it hasn't cut
pub record MayRead (g : Group) (x p : ProcessId) : Type 0 where
  pub here : IsHere g p
  pub sender : IsProcess g.shape x
  pub uncut : g.words.cut p x ≡ false

-- the same of another
pub record MayReadOther (g : Group) (x p : ProcessId) : Type 0 where
  pub reads : MayRead g x p
  pub other : x ≢ p

-- the caller is one, whose gateway is here
pub record IsCaller (g : Group) (caller : ℕ) : Type 0 where
  pub low : caller < callers
  pub gateway : IsHere g (gateway_of g.shape caller)

-- the member that an open call waits for
abbrev pub awaited_member : Stage → Option ProcessId
awaited_member (AskedOf x) = Some x
awaited_member (TracedAt x) = Some x
awaited_member _ = None

abbrev pub call_waits_for : Option OpenCall → Option ProcessId
call_waits_for None = None
call_waits_for (Some opened) = awaited_member opened.stage

-- a member waits for one whose death it has taken
pub record WaitsForDead (g : Group) (caller : ℕ) : Type 0 where
  pub member : ProcessId
  pub waits : call_waits_for (g.gateways.call caller) ≡ Some member
  pub taken : g.words.taken (gateway_of g.shape caller) member ≡ true

-- each member that p hasn't cut has said a set to p that has all that p has cut
abbrev pub AllHaveSaid : Group → ProcessId → Type 0
AllHaveSaid g p = (r : ProcessId) → IsProcess g.shape r → r ≢ p → g.words.cut p r ≡ false → IsSubset (g.words.cut p) (g.words.heard p r)

-- who answered a ping, but for those whose deaths were taken
abbrev pub answerers : Group → ProcessId → ℕ → Processes
answerers g p ping x = g.signs.answered p ping x && not (g.words.taken p x)

-- an answer was told before the ping was sent
abbrev pub IsToldBefore : Group → Stage → ℕ → Type 0
IsToldBefore g (Answered t pinged) ping = pinged ≤ ping
IsToldBefore g _ ping = ⊥

abbrev pub CallIsTold : Group → Option OpenCall → ℕ → Type 0
CallIsTold g None ping = ⊥
CallIsTold g (Some opened) ping = IsToldBefore g opened.stage ping

-- an answer may be shown: it was told before the ping, and with those whose deaths were taken at least m members have
-- answered it
pub record MayShow (g : Group) (caller ping : ℕ) : Type 0 where
  pub told : CallIsTold g (g.gateways.call caller) ping
  pub sent : ping < g.signs.pinged (gateway_of g.shape caller)
  pub enough : g.shape.m ≤ size_of g.shape (answerers g (gateway_of g.shape caller) ping) + size_of g.shape (g.words.taken (gateway_of g.shape caller))

-- an action may come
abbrev pub MayAct : Group → Action → Type 0
MayAct g (Begin caller op) = IsCaller g caller × (g.gateways.call caller ≡ None) × All (λ b. b < 256) (act_value op.act)
MayAct g (Send caller x) = IsCaller g caller × IsProcess g.shape x
MayAct g (Read x p) = MayRead g x p
MayAct g (Treat p place) = IsHere g p
MayAct g (Collect caller call p) = (caller < callers) × IsHere g p
MayAct g (Flush p) = IsHere g p
MayAct g (Learn x p) = MayRead g x p
MayAct g (Receive x p) = MayReadOther g x p
MayAct g (GiveUp caller) = IsCaller g caller × WaitsForDead g caller
MayAct g (Cut x p) = IsHere g p × IsProcess g.shape x × (x ≢ p) × (size_of g.shape (with_one (g.words.cut p) x) ≤ g.shape.m)
MayAct g (Say p) = IsHere g p
MayAct g (Hear x p) = MayReadOther g x p
MayAct g (Permit p) = IsHere g p × AllHaveSaid g p
MayAct g (Take x p) = IsHere g p × IsProcess g.shape x × (g.words.permitted p x ≡ true) × (g.words.taken p x ≡ false)
MayAct g (Ping to p) = IsHere g p
MayAct g (Pong x p) = MayReadOther g x p
MayAct g (Count x p) = MayReadOther g x p
MayAct g (Show caller ping) = IsCaller g caller × MayShow g caller ping
MayAct g (LetGo caller) = IsCaller g caller × (call_waits_for (g.gateways.call caller) ≡ None)
MayAct g (Stop p) = IsProcess g.shape p
