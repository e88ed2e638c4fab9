use Rattle.run_verify.proofs.Vectors.{reply_set}
use Rattle.run_verify.proofs.keep.reply_at.Goals as goal

pub returns : goal.returns
returns c = reply_set c.args.calls.now.items c.args.call c.index_mut.result.now c.args.reply c.requires c.index_mut.ensures.value
