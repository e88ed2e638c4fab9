use Rattle.std.proofs.Common.{◌<◌, [], List, length, sym, ap, ◌∙◌, subst}
use Rattle.group_types.specs.Lists.{put}
use Rattle.run_verify.specs.Accounts.{lists_of}
use Rattle.run_verify.specs.Passing.{with_reply}
use Rattle.run_verify.specs.declared.call.Call.{Call}
use Rattle.run_verify.proofs.Vectors.{list_here, list_set}
use Rattle.run_verify.proofs.keep.set_reply.Goals as goal

pub reply_at-requires : goal.reply_at-requires
reply_at-requires c = subst (λ (xs : List Call). c.args.call < length xs)
    (sym (list_here c.args.calls.now.items c.args.caller c.index_mut.result.now c.requires.caller
    c.index_mut.ensures.value)) c.requires.call

pub returns-clause-calls : goal.returns-clause-calls
returns-clause-calls c =
    list_set c.args.calls.now.items c.args.caller c.index_mut.result.now c.requires.caller c.reply_at.new.calls
    ∙ ap (put [] (lists_of c.args.calls.now.items) c.args.caller)
    (c.reply_at.ensures ∙ ap (λ (xs : List Call). with_reply xs c.args.call c.args.reply)
    (list_here c.args.calls.now.items c.args.caller c.index_mut.result.now c.requires.caller
    c.index_mut.ensures.value))
