-- A caller as a gateway, whose end that is kept stays that of its call while the caller is led on.
use Rattle.std.proofs.Common.{ℕ, Option, None, Some, Result, Ok, Err, IfOk, OnErr}
use Rattle.std.specs.declared.alloc.AllocError.{AllocError}
use Rattle.group_types.specs.declared.process.ProcessId.{ProcessId}
use Rattle.memc_table.specs.Asked.{Asked}
use Rattle.memc_proto.specs.declared.end.FailEnd.{FailEnd}
use Rattle.front_end.specs.AtOnce.{IsKeptCall}
use Rattle.front_end.specs.Calls.{Ways}
use Rattle.front_end.specs.Order.{IsOrder, LeadsOn}
use Rattle.front_end.specs.declared.at_once.Ended.{Ended}

pub order-leads : {C : Type 0} (ways : Ways C) (later : C → C → Type 0) (onward : LeadsOn ways later) (before after : C)
    (at : ProcessId) (keep : ℕ) (result : Result FailEnd AllocError)
    → IfOk result (λ end. ways.failed before at keep end after) → OnErr result (ways.unmade before after) → later before after
order-leads ways later onward before after at keep (Ok end) failed want = onward.failed before at keep end after failed
order-leads ways later onward before after at keep (Err e) failed want = onward.unmade before after want

pub kept-on : {C : Type 0} (ways : Ways C) (later : C → C → Type 0) (order : IsOrder later) (ended : Option Ended)
    (began now next : C) (op : Asked) → later now next → IsKeptCall ways later ended began op now
    → IsKeptCall ways later ended began op next
kept-on ways later order None began now next op on kept = absurd kept
kept-on ways later order (Some ended) began now next op on kept = (
  kept.0,
  record { after = kept.1.after; made = kept.1.made; follows = order.on kept.1.after now next kept.1.follows on },
)
