-- The calls of a member, as what is said of the calls of one of its connections tells them.
use Rattle.std.specs.Prelude.{ℕ, List, [], ◌∷◌, ◌++◌}
use Rattle.group_types.specs.Lists.{same_key}
use Rattle.memc_table.specs.Asked.{Asked}
use Rattle.memc_table.specs.declared.act.Act.{Act}
use Rattle.memc_proto.specs.declared.end.CallEnd.{CallEnd}
use Rattle.front_end.specs.Calls.{Call, Made, Failed}
use Rattle.front_end.specs.Sequences.{with_end}
use Rattle.ready_client.specs.Ordered.{AreInSequences}
use Rattle.group_wire.specs.Sets.{one_or}
use Rattle.member_runs.specs.Calls.{Begins, Shows}
use Rattle.member_gateway.specs.Calls.{MadeCall}
use Rattle.member_gateway.specs.Rules.{Gateway, HasCallEnded, member_rules}

-- the member's calls from the one by which a client's call began to the one that showed its end
abbrev pub calls_for : (began : Gateway) (op : Asked) (end : CallEnd) (after : Gateway) → HasCallEnded began op end after → List MadeCall
calls_for began op end after made = record { call = Begins made.caller op; after = made.begun.first }
    ∷ (made.begun.calls ++ record { call = Shows made.caller made.shown.ping; after = after.member } ∷ [])

-- the member's calls along one sequence of a connection's calls, whose last one ended here: those before each call, those for
-- it, and those behind all
abbrev pub calls_along : (sequence : Act → List ℕ) (one : List ℕ) (ends : List ℕ → Gateway) (calls : List Call) (now : Gateway)
    → AreInSequences member_rules.ways member_rules.later sequence ends calls now → List MadeCall
calls_along sequence one ends [] now order = (order one).calls
calls_along sequence one ends (Made op end ∷ calls) now order = one_or (same_key (sequence op.act) one)
    (order.2.calls ++ (calls_for order.0 op end order.1 order.3
    ++ calls_along sequence one (with_end ends (sequence op.act) order.1) calls now order.4))
    (calls_along sequence one (with_end ends (sequence op.act) order.1) calls now order.4)
calls_along sequence one ends (Failed at keep end ∷ calls) now order =
    (order.2 one).calls ++ (order.3.1.calls ++ calls_along sequence one (λ _. order.1) calls now order.4)

-- the calls of one sequence; an order that a process fail is in each
abbrev pub calls_of : (Act → List ℕ) → List ℕ → List Call → List Call
calls_of sequence one [] = []
calls_of sequence one (Made op end ∷ calls) =
    one_or (same_key (sequence op.act) one) (Made op end ∷ calls_of sequence one calls) (calls_of sequence one calls)
calls_of sequence one (Failed at keep end ∷ calls) = Failed at keep end ∷ calls_of sequence one calls
