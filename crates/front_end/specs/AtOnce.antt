-- A caller as a gateway.
use Rattle.std.specs.Prelude.{◌≡◌, Option, Some, None, IsSome}
use Rattle.memc_table.specs.Asked.{Asked}
use Rattle.memc_proto.specs.declared.end.CallEnd.{CallEnd}
use Rattle.front_end.specs.Calls.{Ways}
use Rattle.front_end.specs.Gateway.{Rules}
use Rattle.front_end.specs.Order.{IsOrder}
use Rattle.front_end.specs.declared.at_once.AtOnce.{AtOnce}
use Rattle.front_end.specs.declared.at_once.Ended.{Ended}
use Rattle.front_end.specs.declared.at_once.OnlyCall.{OnlyCall}

module _ {C : Type 0} (ways : Ways C) (later : C → C → Type 0) where
  -- the caller made a call, and has come here or was led there by it
  pub record HasCalledAtOnce (before : C) (op : Asked) (end : CallEnd) (now : C) : Type 0 where
    pub after : C
    pub made : ways.made before op end after
    pub follows : later after now

  -- the call was made whose end is kept
  abbrev pub IsKeptCall : Option Ended → C → Asked → C → Type 0
  IsKeptCall None before op now = ⊥
  IsKeptCall (Some kept) before op now = (kept.op ≡ op) × HasCalledAtOnce before op kept.end now

  -- the relations of a gateway that makes each call as it is begun
  abbrev pub at_once : Rules (AtOnce C) OnlyCall
  at_once = record {
    ways = record {
      made = λ before op end after. HasCalledAtOnce before.caller op end after.caller;
      failed = λ before at keep end after. ways.failed before.caller at keep end after.caller;
      kept = λ before op after. ways.kept before.caller op after.caller;
      unmade = λ before after. ways.unmade before.caller after.caller;
    };
    lent = λ now _. IsSome now.ended;
    opened = λ now _ op began. IsKeptCall now.ended began.caller op now.caller;
    later = λ before after. later before.caller after.caller;
  }

-- its gateways stand in the order of their callers
abbrev pub order_of : {C : Type 0} (later : C → C → Type 0) → IsOrder later → IsOrder (λ (before after : AtOnce C). later before.caller after.caller)
order_of later order = record {
  same = λ gateway. order.same gateway.caller;
  on = λ first then last before after. order.on first.caller then.caller last.caller before after;
}
