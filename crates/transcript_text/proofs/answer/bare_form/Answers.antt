use Rattle.std.proofs.Common.{sym}
use Rattle.group_calls.specs.declared.event.Answer.TheVariants as answered
use Rattle.transcript_text.proofs.Forms.{bare, no_bare}
use Rattle.transcript_text.proofs.answer.bare_form.Goals as goal

pub returns-then-is_text : goal.returns-then-is_text
returns-then-is_text c = bare answered.NotYet tt c.args.line.now (sym (c.is_text.ensures.0 c.if-is_text.true))

pub returns-then-is_text-2 : goal.returns-then-is_text-2
returns-then-is_text-2 c = bare answered.NoSpace tt c.args.line.now (sym (c.is_text-2.ensures.0 c.if-is_text-2.true))

pub returns-then-is_text-3 : goal.returns-then-is_text-3
returns-then-is_text-3 c = bare answered.Moved tt c.args.line.now (sym (c.is_text-3.ensures.0 c.if-is_text-3.true))

pub returns-then-is_text-4 : goal.returns-then-is_text-4
returns-then-is_text-4 c = bare answered.Lost tt c.args.line.now (sym (c.is_text-4.ensures.0 c.if-is_text-4.true))

pub returns-then-is_text-5 : goal.returns-then-is_text-5
returns-then-is_text-5 c = bare answered.Down tt c.args.line.now (sym (c.is_text-5.ensures.0 c.if-is_text-5.true))

pub returns-then-is_text-6 : goal.returns-then-is_text-6
returns-then-is_text-6 c = bare answered.Idle tt c.args.line.now (sym (c.is_text-6.ensures.0 c.if-is_text-6.true))

pub returns-then-is_text-7 : goal.returns-then-is_text-7
returns-then-is_text-7 c = bare answered.Stranger tt c.args.line.now (sym (c.is_text-7.ensures.0 c.if-is_text-7.true))

pub returns-then-is_text-8 : goal.returns-then-is_text-8
returns-then-is_text-8 c = bare answered.Done tt c.args.line.now (sym (c.is_text-8.ensures.0 c.if-is_text-8.true))

pub returns-then-is_text-9 : goal.returns-then-is_text-9
returns-then-is_text-9 c = bare answered.AlreadyDead tt c.args.line.now (sym (c.is_text-9.ensures.0 c.if-is_text-9.true))

pub returns-then-is_text-10 : goal.returns-then-is_text-10
returns-then-is_text-10 c = bare answered.Gone tt c.args.line.now (sym (c.is_text-10.ensures.0 c.if-is_text-10.true))

pub returns : goal.returns
returns c = no_bare c.args.line.now
    (λ same. let is = c.is_text.ensures.1 same in let other = c.if-is_text.false in cc (is, other))
    (λ same. let is = c.is_text-2.ensures.1 same in let other = c.if-is_text-2.false in cc (is, other))
    (λ same. let is = c.is_text-3.ensures.1 same in let other = c.if-is_text-3.false in cc (is, other))
    (λ same. let is = c.is_text-4.ensures.1 same in let other = c.if-is_text-4.false in cc (is, other))
    (λ same. let is = c.is_text-5.ensures.1 same in let other = c.if-is_text-5.false in cc (is, other))
    (λ same. let is = c.is_text-6.ensures.1 same in let other = c.if-is_text-6.false in cc (is, other))
    (λ same. let is = c.is_text-7.ensures.1 same in let other = c.if-is_text-7.false in cc (is, other))
    (λ same. let is = c.is_text-8.ensures.1 same in let other = c.if-is_text-8.false in cc (is, other))
    (λ same. let is = c.is_text-9.ensures.1 same in let other = c.if-is_text-9.false in cc (is, other))
    (λ same. let is = c.is_text-10.ensures.1 same in let other = c.if-is_text-10.false in cc (is, other))
