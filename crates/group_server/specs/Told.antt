-- A caller that notes what is lost does what its own caller does.
use Rattle.front_end.specs.Calls.{Ways}
use Rattle.front_end.specs.Order.{IsOrder, LeadsOn}
use Rattle.group_server.specs.declared.told_caller.ToldCaller.{ToldCaller}

abbrev pub told_ways : {C : Type 0} → Ways C → Ways (ToldCaller C)
told_ways ways = record {
  made = λ before op end after. ways.made before.caller op end after.caller;
  failed = λ before at keep end after. ways.failed before.caller at keep end after.caller;
  kept = λ before op after. ways.kept before.caller op after.caller;
  unmade = λ before after. ways.unmade before.caller after.caller;
}

abbrev pub told_order : {C : Type 0} (later : C → C → Type 0) → IsOrder later → IsOrder (λ (before after : ToldCaller C). later before.caller after.caller)
told_order later order = record {
  same = λ told. order.same told.caller;
  on = λ first then last before after. order.on first.caller then.caller last.caller before after;
}

abbrev pub told_onward : {C : Type 0} (ways : Ways C) (later : C → C → Type 0) → LeadsOn ways later
    → LeadsOn (told_ways ways) (λ (before after : ToldCaller C). later before.caller after.caller)
told_onward ways later onward = record {
  made = λ before op end after is. onward.made before.caller op end after.caller is;
  failed = λ before at keep end after is. onward.failed before.caller at keep end after.caller is;
  kept = λ before op after is. onward.kept before.caller op after.caller is;
  unmade = λ before after is. onward.unmade before.caller after.caller is;
}
