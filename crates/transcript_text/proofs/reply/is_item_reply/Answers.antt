use Rattle.transcript_text.proofs.Replies.{item-of}
use Rattle.transcript_text.proofs.reply.is_item_reply.Goals as goal

pub returns-in-Some : goal.returns-in-Some
returns-in-Some c = item-of c.args.text.now c.in-Some.value.now c.is_value.result c.in-Some.ensures c.is_value.ensures
