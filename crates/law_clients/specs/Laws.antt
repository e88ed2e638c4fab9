-- What holds of all that a connection at a member is written.
use Rattle.std.specs.Prelude.{ℕ, ◌≡◌, List, [], ◌++◌, length, Option}
use Rattle.edge_io.specs.Moving.{Input}
use Rattle.group_types.specs.Dimensions.{Dimensions}
use Rattle.group_types.specs.Names.{IsProcess}
use Rattle.group_types.specs.declared.process.ProcessId.{ProcessId}
use Rattle.memc_proto.specs.Reader.{ReaderState}
use Rattle.front_end.specs.Sequences.{sequence_of}
use Rattle.front_end.specs.Turns.{calls_in}
use Rattle.front_end.specs.declared.overlap.Overlap.{Overlap}
use Rattle.front_end.specs.declared.overlap.Overlap.TheVariants.{Never}
use Rattle.ready_client.specs.Ordered.{AnsweredInSequences}
use Rattle.group_wire.specs.Laws.{NoTwoHoldAll}
use Rattle.member_runs.specs.Laws.{HaveMade, composed_of}
use Rattle.member_runs.specs.System.{System, SystemStep, after_steps}
use Rattle.member_gateway.specs.Calls.{MadeCall}
use Rattle.member_gateway.specs.Laws.{calls_at}
use Rattle.member_gateway.specs.Rules.{Gateway, member_rules}
use Rattle.law_clients.specs.Logged.{AreLogged, log_by}
use Rattle.law_clients.specs.Told.{calls_along, calls_of}

-- members side by side made steps, and then more, between which a member stood so, and in which it then made these calls; no
-- two permitted sets together hold all members
pub record HaveServed (s : Dimensions) (y : System) (before since : List SystemStep) (p : ProcessId) (first : Gateway) (calls : List MadeCall) : Type 0 where
  pub made : HaveMade s y (before ++ since)
  pub apart : NoTwoHoldAll (composed_of s y (before ++ since)).group
  pub member : IsProcess s p
  pub stood : (after_steps y before).members p ≡ first.member
  pub calls_are : calls_at p since ≡ calls

-- where the member's calls are those that are told along a sequence of a connection's calls, each of these that ended by a
-- reply is logged, in the order of the requests
abbrev pub WrittenIsLogged : Type 0
WrittenIsLogged = (s : Dimensions) (y : System) (before since : List SystemStep) (p : ProcessId) (overlap : Overlap) (told : Option ℕ) (input input_now : Input)
    (kept : ReaderState) (first now : Gateway) (held held_now : List ℕ)
    (answered : AnsweredInSequences member_rules.ways member_rules.later (sequence_of overlap) told input input_now kept first now held held_now) (one : List ℕ)
    → HaveServed s y before since p first (calls_along (sequence_of overlap) one (λ _. first) (calls_in answered.turns) now answered.order)
    → AreLogged s y (before ++ since) p (length before) (length (log_by s y before)) (calls_of (sequence_of overlap) one (calls_in answered.turns))

-- where no two calls of a connection overlap, all are in one sequence: so each that ended by a reply is
abbrev pub WrittenInOrder : Type 0
WrittenInOrder = (s : Dimensions) (y : System) (before since : List SystemStep) (p : ProcessId) (told : Option ℕ) (input input_now : Input)
    (kept : ReaderState) (first now : Gateway) (held held_now : List ℕ)
    (answered : AnsweredInSequences member_rules.ways member_rules.later (sequence_of Never) told input input_now kept first now held held_now)
    → HaveServed s y before since p first (calls_along (sequence_of Never) [] (λ _. first) (calls_in answered.turns) now answered.order)
    → AreLogged s y (before ++ since) p (length before) (length (log_by s y before)) (calls_in answered.turns)
