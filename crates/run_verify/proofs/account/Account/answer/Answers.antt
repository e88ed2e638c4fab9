use Rattle.std.proofs.Common.{Some, subst, arith}
use Rattle.scenario_run.specs.Lines.{lines_of}
use Rattle.transcript_text.specs.Texts.{IsSaid}
use Rattle.transcript_text.specs.declared.kind.Kind.{Kind}
use Rattle.transcript_text.specs.Forms.{kind_of_event}
use Rattle.transcript_text.specs.declared.answer.Said.{Said}
use Rattle.run_verify.specs.Accounts.{account_of}
use Rattle.run_verify.proofs.Replying.{judged, other_said, replied}
use Rattle.run_verify.proofs.account.Account.answer.Goals as goal

pub returns-else-not-branch : goal.returns-else-not-branch
returns-else-not-branch c =
    let raw = subst (λ (k : Kind). IsSaid k c.args.line.now (Some c.in-Some-Reply.field-0)) c.kind.ensures c.in-Some-Reply.ensures in
    let says = subst (λ (x : Said). IsSaid (kind_of_event c.args.event.now) c.args.line.now (Some x)) c.in-Some-Reply.field-0-is raw in
    let tells = c.in_ok-is_reply_to-in-Some-Reply.ensures.0 (grind arith) in
    judged _ _ _ _ c.ask.ensures.goes c.ask.ensures.account
    (replied (account_of c.args.self.now) c.args.event.now c.args.line.now (lines_of c.args.ahead.now)
    c.in-Some-Reply.reply says tells)

pub returns-in-Some-Other : goal.returns-in-Some-Other
returns-in-Some-Other c =
    let raw = subst (λ (k : Kind). IsSaid k c.args.line.now (Some c.in-Some-Other.field-0)) c.kind.ensures c.in-Some-Other.ensures in
    let says = subst (λ (x : Said). IsSaid (kind_of_event c.args.event.now) c.args.line.now (Some x)) c.in-Some-Other.field-0-is raw in
    judged _ _ _ _ c.ask-in-Some-Other.ensures.goes c.ask-in-Some-Other.ensures.account
    (other_said (account_of c.args.self.now) c.args.event.now c.args.line.now (lines_of c.args.ahead.now) says)
