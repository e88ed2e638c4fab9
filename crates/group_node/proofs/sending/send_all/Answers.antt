use Rattle.std.proofs.Common.{List, ap, subst, sym, ◌∙◌, arith, length}
use Rattle.std.specs.Vec.Iter.{into_iter_items}
use Rattle.group_node.proofs.Sent.{IsSending, all-sent, none-left, sends-on, some-room, starts-sending}
use Rattle.group_run.specs.Applying.{Sent}
use Rattle.group_node.proofs.sending.send_all.Goals as goal

pub messages-init : goal.messages-init
messages-init c =
    let all = c.into_iter-one-iterator.ensures.into_iter_gives.0 in
    record {
      sends = subst (λ (rest : List Sent). IsSending c.args.shape c.args.known c.args.sent.items rest c.args.links.now c.args.links.now) (sym all)
          (starts-sending c.args.shape c.args.known c.args.sent.items c.args.links.now c.requires.few c.requires.room);
      long = let same = ap length all in let long = c.args.sent.ok in let as_long = c.into_iter-one-iterator.ensures.into_iter_gives.1 in omega
          (arith, same, long, as_long);
    }

pub send-requires-clause-many : goal.send-requires-clause-many
send-requires-clause-many c = c.messages.invariant.sends.many ∙ c.requires.many

pub send-requires-clause-room : goal.send-requires-clause-room
send-requires-clause-room c = some-room c.args.shape (into_iter_items c.messages.one-iterator) c.messages.links c.messages.invariant.sends.room

pub messages-preserved : goal.messages-preserved
messages-preserved c =
    let step = c.in-Some.ensures.steps in
    record {
      sends = sends-on c.args.shape c.args.known c.in-Some.one c.args.sent.items (into_iter_items c.next.new.self)
          c.args.links.now c.messages.links c.send.new.links
          (subst (λ (rest : List Sent). IsSending c.args.shape c.args.known c.args.sent.items rest c.args.links.now
          c.messages.links) step.0 c.messages.invariant.sends)
          c.send.ensures.many c.send.ensures.messages c.send.ensures.room;
      long = let one = ap length step.0 in let before = c.messages.invariant.long in let fewer = step.1 in omega (arith, one, before, fewer);
    }

pub returns-clause-many : goal.returns-clause-many
returns-clause-many c = c.messages.invariant.sends.many

pub returns-clause-messages : goal.returns-clause-messages
returns-clause-messages c =
    all-sent c.args.shape c.args.known c.args.sent.items c.args.links.now c.messages.links c.requires.many
    (subst (λ (rest : List Sent). IsSending c.args.shape c.args.known c.args.sent.items rest c.args.links.now c.messages.links)
    (none-left (into_iter_items c.messages.one-iterator) (c.messages.invariant.long ∙ c.in-None.ensures.steps.0)) c.messages.invariant.sends)

pub returns-clause-room : goal.returns-clause-room
returns-clause-room c = some-room c.args.shape (into_iter_items c.messages.one-iterator) c.messages.links c.messages.invariant.sends.room
