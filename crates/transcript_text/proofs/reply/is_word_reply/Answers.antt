use Rattle.std.proofs.Common.{sym, refl}
use Rattle.memc_table.specs.declared.reply.Reply.TheVariants as replied
use Rattle.transcript_text.proofs.Forms.{no_word, word_reply}
use Rattle.transcript_text.proofs.reply.is_word_reply.Goals as goal

pub returns-then-is_text : goal.returns-then-is_text
returns-then-is_text c = word_reply replied.Miss refl c.args.text.now (sym (c.is_text.ensures.0 c.if-is_text.true))

pub returns-then-is_text-2 : goal.returns-then-is_text-2
returns-then-is_text-2 c = word_reply replied.Stored refl c.args.text.now (sym (c.is_text-2.ensures.0 c.if-is_text-2.true))

pub returns-then-is_text-3 : goal.returns-then-is_text-3
returns-then-is_text-3 c = word_reply replied.NotStored refl c.args.text.now (sym (c.is_text-3.ensures.0 c.if-is_text-3.true))

pub returns-then-is_text-4 : goal.returns-then-is_text-4
returns-then-is_text-4 c = word_reply replied.Exists refl c.args.text.now (sym (c.is_text-4.ensures.0 c.if-is_text-4.true))

pub returns-then-is_text-5 : goal.returns-then-is_text-5
returns-then-is_text-5 c = word_reply replied.NotFound refl c.args.text.now (sym (c.is_text-5.ensures.0 c.if-is_text-5.true))

pub returns-then-is_text-6 : goal.returns-then-is_text-6
returns-then-is_text-6 c = word_reply replied.Deleted refl c.args.text.now (sym (c.is_text-6.ensures.0 c.if-is_text-6.true))

pub returns-then-is_text-7 : goal.returns-then-is_text-7
returns-then-is_text-7 c = word_reply replied.Touched refl c.args.text.now (sym (c.is_text-7.ensures.0 c.if-is_text-7.true))

pub returns-then-is_text-8 : goal.returns-then-is_text-8
returns-then-is_text-8 c = word_reply replied.NotNumber refl c.args.text.now (sym (c.is_text-8.ensures.0 c.if-is_text-8.true))

pub returns-then-is_text-9 : goal.returns-then-is_text-9
returns-then-is_text-9 c = word_reply replied.TooLarge refl c.args.text.now (sym (c.is_text-9.ensures.0 c.if-is_text-9.true))

pub returns : goal.returns
returns c = no_word c.args.text.now
    (λ same. let is = c.is_text.ensures.1 same in let other = c.if-is_text.false in cc (is, other))
    (λ same. let is = c.is_text-2.ensures.1 same in let other = c.if-is_text-2.false in cc (is, other))
    (λ same. let is = c.is_text-3.ensures.1 same in let other = c.if-is_text-3.false in cc (is, other))
    (λ same. let is = c.is_text-4.ensures.1 same in let other = c.if-is_text-4.false in cc (is, other))
    (λ same. let is = c.is_text-5.ensures.1 same in let other = c.if-is_text-5.false in cc (is, other))
    (λ same. let is = c.is_text-6.ensures.1 same in let other = c.if-is_text-6.false in cc (is, other))
    (λ same. let is = c.is_text-7.ensures.1 same in let other = c.if-is_text-7.false in cc (is, other))
    (λ same. let is = c.is_text-8.ensures.1 same in let other = c.if-is_text-8.false in cc (is, other))
    (λ same. let is = c.is_text-9.ensures.1 same in let other = c.if-is_text-9.false in cc (is, other))
