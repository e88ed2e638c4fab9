use Rattle.transcript_text.proofs.Forms.{last_form, of-blocked, of-pending, of-replied, of-stale, of-ticket}
use Rattle.transcript_text.proofs.answer.form.Goals as goal

pub returns-then-is_replied : goal.returns-then-is_replied
returns-then-is_replied c = of-replied c.args.line.now (c.is_replied.ensures.0 c.if-is_replied.true)

pub returns-then-is_numbered : goal.returns-then-is_numbered
returns-then-is_numbered c = of-ticket c.args.line.now (c.is_numbered.ensures.0 c.if-is_numbered.true)

pub returns-then-is_numbered-2 : goal.returns-then-is_numbered-2
returns-then-is_numbered-2 c = of-stale c.args.line.now (c.is_numbered-2.ensures.0 c.if-is_numbered-2.true)

pub returns-then-is_pending : goal.returns-then-is_pending
returns-then-is_pending c = of-pending c.args.line.now (c.is_pending.ensures.0 c.if-is_pending.true)

pub returns-then-is_blocked : goal.returns-then-is_blocked
returns-then-is_blocked c = of-blocked c.args.line.now (c.is_blocked.ensures.0 c.if-is_blocked.true)

pub returns : goal.returns
returns c = last_form c.args.line.now c.bare_form.result
    (λ told. let is = c.is_replied.ensures.1 told in let no = c.if-is_replied.false in cc (is, no))
    (λ told. let is = c.is_numbered.ensures.1 told in let no = c.if-is_numbered.false in cc (is, no))
    (λ told. let is = c.is_numbered-2.ensures.1 told in let no = c.if-is_numbered-2.false in cc (is, no))
    (λ told. let is = c.is_pending.ensures.1 told in let no = c.if-is_pending.false in cc (is, no))
    (λ told. let is = c.is_blocked.ensures.1 told in let no = c.if-is_blocked.false in cc (is, no))
    c.bare_form.ensures
