-- What holds of the calls of clients at members side by side.
use Rattle.std.specs.Prelude.{ℕ, ◌≡◌, List, [], ◌∷◌, ◌++◌, Some}
use Rattle.group_types.specs.Dimensions.{Dimensions}
use Rattle.group_types.specs.Names.{IsProcess, same_process}
use Rattle.group_types.specs.declared.process.ProcessId.{ProcessId}
use Rattle.memc_table.specs.Asked.{Asked}
use Rattle.memc_table.specs.declared.reply.Reply.{Reply}
use Rattle.memc_proto.specs.declared.end.CallEnd.TheVariants as ends
use Rattle.group_wire.specs.Composed.{Composed}
use Rattle.group_wire.specs.Laws.{NoTwoHoldAll}
use Rattle.group_wire.specs.Sets.{one_or}
use Rattle.group_wire.specs.Shown.{IsLoggedSinceBegun}
use Rattle.group_wire.specs.State.{OpenCall}
use Rattle.group_member.specs.Standing.{Member}
use Rattle.member_runs.specs.Calls.{Begins}
use Rattle.member_runs.specs.Laws.{HaveMade, composed_of}
use Rattle.member_runs.specs.System.{System, SystemStep, after_steps}
use Rattle.member_gateway.specs.Calls.{MadeCall}
use Rattle.member_gateway.specs.Rules.{HasBegunCall, IsShown}

-- the calls that the member of a process made in steps, in their order
abbrev pub calls_at : ProcessId → List SystemStep → List MadeCall
calls_at p [] = []
calls_at p (t ∷ steps) = one_or (same_process t.at p) (record { call = t.call; after = t.after } ∷ calls_at p steps) (calls_at p steps)

-- by its calls in these steps, a call of the op began at a caller of the member of a process, which left it open since
pub record HasBegunIn (y : System) (before since : List SystemStep) (p : ProcessId) (caller : ℕ) (op : Asked) : Type 0 where
  pub begun : HasBegunCall caller op ((after_steps y before).members p) ((after_steps y (before ++ since)).members p)
  pub calls : calls_at p since ≡ record { call = Begins caller op; after = begun.first } ∷ begun.calls

-- the open call of a caller is of that op, and its entry in the machine's log has this reply, logged since the call began
pub record IsLoggedFor (c : Composed) (caller : ℕ) (op : Asked) (reply : Reply) : Type 0 where
  pub opened : OpenCall
  pub call : c.group.gateways.call caller ≡ Some opened
  pub asks : opened.op ≡ op
  pub logged : IsLoggedSinceBegun c caller opened reply

-- where no two permitted sets together hold all members: a call that began at a member, which left it open and shows it now as
-- ended by a reply, has this reply in the machine's log
abbrev pub EndsAreLogged : Type 0
EndsAreLogged = (s : Dimensions) (y : System) (before since : List SystemStep) (p : ProcessId) (caller : ℕ) (op : Asked) (reply : Reply) (after : Member)
    → HaveMade s y (before ++ since) → NoTwoHoldAll (composed_of s y (before ++ since)).group → IsProcess s p → HasBegunIn y before since p caller op
    → IsShown caller (ends.Reply reply) ((after_steps y (before ++ since)).members p) after
    → IsLoggedFor (composed_of s y (before ++ since)) caller op reply
