use Rattle.run_verify.proofs.Vectors.{list_more}
use Rattle.run_verify.proofs.calls.add_call.Goals as goal

pub returns-clause-calls : goal.returns-clause-calls
returns-clause-calls c = list_more c.args.calls.now.items c.args.caller c.index_mut.result.now c.requires
    c.push.new.self _ c.index_mut.ensures.value c.in_ok-push.ensures.items
