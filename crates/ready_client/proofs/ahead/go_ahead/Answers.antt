use Rattle.ready_client.proofs.ahead.go_ahead.Goals as goal
use Rattle.std.proofs.Common.{None}
use Rattle.ready_client.specs.Asking.{connection_at}
use Rattle.ready_client.proofs.Asking.{asks-none}

pub returns-in-OtherKeys-clause-comes : goal.returns-in-OtherKeys-clause-comes
returns-in-OtherKeys-clause-comes g c = λ input input_now first before held come. rw c.in-OtherKeys.is
    (c.begin_further.ensures.comes input input_now first before held (rw c.in-OtherKeys.is at come))

pub returns-in-Never-clause-asks : goal.returns-in-Never-clause-asks
returns-in-Never-clause-asks g c = λ sent held short. asks-none g.G.Gateway.rules _ sent
    (connection_at c.args.gateway.now c.args.connection.now c.args.calls.now 0 None held)
