-- The calls of other connections, over several steps.
use Rattle.std.proofs.Common.{List}
use Rattle.front_end.specs.Gateway.{Rules}
use Rattle.ready_client.specs.Calling.{KeepsApart, LendsApart}
use Rattle.ready_client.specs.declared.open_call.OpenCall.{OpenCall}

pub apart-then : {G K : Type 0} (rules : Rules G K) (calls calls_then calls_now : List (OpenCall K)) (before then after : G)
    → KeepsApart rules calls calls_then before then → KeepsApart rules calls_then calls_now then after → KeepsApart rules calls calls_now before after
apart-then rules calls calls_then calls_now before then after first second = λ call op began other opened.
    let kept = first call op began other opened in second call op began kept.1 kept.0

pub lends-then : {G K : Type 0} (rules : Rules G K) (calls calls_then calls_now : List (OpenCall K)) (before then after : G)
    → LendsApart rules calls calls_then before then → LendsApart rules calls_then calls_now then after → LendsApart rules calls calls_now before after
lends-then rules calls calls_then calls_now before then after first second = λ call other lent.
    let had = second call other lent in first call had.1 had.0
