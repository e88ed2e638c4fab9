use Rattle.std.proofs.Common.{[], List, Vec, Global, length, ap, ◌∙◌, subst}
use Rattle.group_types.specs.Lists.{at}
use Rattle.run_verify.specs.Accounts.{lists_of}
use Rattle.std.specs.Prelude.{◌↔◌, IfOk, IsTrue}
use Rattle.scenario_run.specs.Lines.{lines_of}
use Rattle.scenario_text.specs.Texts.{name_text}
use Rattle.run_verify.specs.Passing.{LogsAhead}
use Rattle.run_verify.specs.declared.call.Call.{Call}
use Rattle.run_verify.proofs.account.Account.is_next.Goals as goal

pub returns : goal.returns
returns c = subst
    (λ (calls : List Call). IfOk c.is_ahead.result
    (λ yes. IsTrue yes ↔ LogsAhead (name_text c.args.caller (length calls) 0) c.args.reply.now
    (lines_of c.args.ahead.now)))
    (c.calls_of.ensures ∙ ap (λ (vs : List (Vec Call Global)). at [] (lists_of vs) c.args.caller) c.deref.ensures.value)
    c.is_ahead.ensures
