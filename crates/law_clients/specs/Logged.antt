-- Calls of clients whose replies stand in the log of one run.
use Rattle.std.specs.Prelude.{ℕ, suc, ◌≡◌, ◌<◌, ◌≤◌, ◌+◌, List, [], ◌∷◌, ◌++◌, length, slice_get, Some, ⊤}
use Rattle.group_types.specs.Dimensions.{Dimensions}
use Rattle.group_types.specs.declared.process.ProcessId.{ProcessId}
use Rattle.memc_table.specs.Asked.{Asked}
use Rattle.memc_table.specs.declared.reply.Reply.{Reply}
use Rattle.memc_proto.specs.declared.end.CallEnd.TheVariants as ends
use Rattle.front_end.specs.Calls.{Call, Made}
use Rattle.group_calls.specs.Turns.{call_entry}
use Rattle.group_calls.specs.declared.entry.Entry.{Entry}
use Rattle.group_wire.specs.Composition.{machine}
use Rattle.group_wire.specs.Once.{IsChangeBy}
use Rattle.group_member.specs.Standing.{Member}
use Rattle.member_runs.specs.Calls.{MemberCall, Begins, Shows}
use Rattle.member_runs.specs.Laws.{composed_of}
use Rattle.member_runs.specs.System.{System, SystemStep}

-- the log of the machine's run that members' steps make
abbrev pub log_by : Dimensions → System → List SystemStep → List Entry
log_by s y steps = (machine (composed_of s y steps)).log

-- the step in which the member of a process makes a call
abbrev pub step_of : ProcessId → MemberCall → Member → SystemStep
step_of p call after = record { at = p; call = call; after = after }

-- in one of these steps a call of the op began at a member, and in a later one it was shown; its entry in the log has this
-- reply, was logged between the two, and is the only one of the call that changed the table, however the run went on
pub record IsReplyLogged (s : Dimensions) (y : System) (steps : List SystemStep) (p : ProcessId) (op : Asked) (reply : Reply) : Type 0 where
  pub caller : ℕ
  pub ping : ℕ
  pub first : Member
  pub last : Member
  pub before : List SystemStep
  pub since : List SystemStep
  pub behind : List SystemStep
  pub are : steps ≡ before ++ step_of p (Begins caller op) first ∷ (since ++ step_of p (Shows caller ping) last ∷ behind)
  pub position : ℕ
  pub place : ℕ
  pub entry : slice_get (log_by s y steps) place ≡ Some (call_entry (record { caller = caller; call = position }) op reply)
  pub begun : length (log_by s y before) ≤ place
  pub shown : place < length (log_by s y (before ++ step_of p (Begins caller op) first ∷ since))
  pub only : (other : ℕ) (e : Entry)
      → IsChangeBy (composed_of s y (before ++ step_of p (Begins caller op) first ∷ since)) (composed_of s y steps) caller other e → other ≡ place

-- of these calls each that ended by a reply is so logged: begun when so many steps had come, at this place or behind it, and
-- the next only when it was shown, at a place behind its own
abbrev pub AreLogged : Dimensions → System → List SystemStep → ProcessId → ℕ → ℕ → List Call → Type 0
AreLogged s y steps p count place [] = ⊤
AreLogged s y steps p count place (Made op (ends.Reply reply) ∷ calls) = (logged : IsReplyLogged s y steps p op reply) × (count ≤ length logged.before)
    × (place ≤ logged.place) × AreLogged s y steps p (length logged.before + length logged.since + 2) (suc logged.place) calls
AreLogged s y steps p count place (_ ∷ calls) = AreLogged s y steps p count place calls
