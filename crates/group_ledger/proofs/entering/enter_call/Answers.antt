use Rattle.std.proofs.Common.{ℕ, ◌≡◌, ◌++◌, [], ◌∷◌, List, Some, if◌then◌else◌, length, sym, ap, ◌∙◌, arith}
use Rattle.std.proofs.lemmas.Grind.{common_steps}
use Rattle.group_types.specs.Lists.{at}
use Rattle.group_calls.specs.Turns.{call_entry}
use Rattle.group_calls.specs.declared.entry.Entry.{Entry}
use Rattle.group_run.specs.World.{Ticket, is_issued}
use Rattle.group_ledger.proofs.Entered.{count-here, counted, refused, ticketed}
use Rattle.group_ledger.proofs.entering.enter_call.Goals as goal

pub overflow_add-asked : goal.overflow_add-asked
overflow_add-asked c = let here = count-here c.args.asked.now c.args.call.caller c.requires.caller in omega (arith, here, c.requires.count)

pub returns-in-None-clause-asked : goal.returns-in-None-clause-asked
returns-in-None-clause-asked c = counted c.args.asked.now c.args.call.caller c.requires.caller

pub returns-in-None-clause-tickets : goal.returns-in-None-clause-tickets
returns-in-None-clause-tickets c =
    let caller : ℕ = c.args.call.caller in
    let here = count-here c.args.asked.now caller c.requires.caller in
    let long : c.len.result ≡ length c.args.log.now.items = grind (arith, common_steps) in
    let kept : ℕ → ℕ → List Ticket
    = λ call since. c.args.tickets.now.items
    ++ (if is_issued c.args.answer.now then record { name = record { caller = caller; call = call }; since = since; op = Some c.args.call.op } ∷ [] else []) in
    c.keep_ticket.ensures ∙ ap (λ (n : ℕ). kept n c.len.result) here ∙ ap (kept (at 0 c.args.asked.now caller)) long
    ∙ ticketed (is_issued c.args.answer.now) (length c.args.log.now.items)
    (record { name = record { caller = caller; call = at 0 c.args.asked.now caller }; op = c.args.call.op })
    c.args.tickets.now.items

pub returns-in-Some-clause-asked : goal.returns-in-Some-clause-asked
returns-in-Some-clause-asked c = counted c.args.asked.now c.args.call.caller c.requires.caller

pub returns-in-Some-clause-log : goal.returns-in-Some-clause-log
returns-in-Some-clause-log c =
    let caller : ℕ = c.args.call.caller in
    let here = count-here c.args.asked.now caller c.requires.caller in
    c.add.ensures.items
    ∙ ap (λ (n : ℕ). c.args.log.now.items ++ call_entry (record { caller = caller; call = n }) c.args.call.op c.in-Some.reply ∷ []) here
    ∙ ap (λ (es : List Entry). c.args.log.now.items ++ es)
    (refused (record { name = record { caller = caller; call = at 0 c.args.asked.now caller }; op = c.args.call.op }) c.args.answer.now c.in-Some.reply
    (sym c.in-Some.is ∙ c.requires.refusal))
