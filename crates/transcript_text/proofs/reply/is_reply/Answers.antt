use Rattle.transcript_text.specs.Parts.{IsNumberReply}
use Rattle.transcript_text.specs.Texts.{IsReplyText}
use Rattle.transcript_text.proofs.Replies.{holds, last_of, of-number}
use Rattle.transcript_text.proofs.reply.is_reply.Goals as goal

pub returns-then-is_number_reply : goal.returns-then-is_number_reply
returns-then-is_number_reply c = holds (IsNumberReply c.args.text.now) (IsReplyText c.args.text.now)
    c.is_number_reply.result c.if-is_number_reply.true c.is_number_reply.ensures (of-number c.args.text.now)

pub returns : goal.returns
returns c = last_of c.args.text.now c.is_word_reply.result c.is_number_reply.result c.is_item_reply.result
    c.if-is_word_reply.false c.is_word_reply.ensures c.if-is_number_reply.false c.is_number_reply.ensures
    c.is_item_reply.ensures
