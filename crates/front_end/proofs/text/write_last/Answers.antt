use Rattle.memc_proto.specs.Text.{end_of_items, end_text}
use Rattle.std.proofs.Common.{[], if◌then◌else◌}
use Rattle.front_end.specs.Turns.{is_reply}
use Rattle.front_end.proofs.Writing.{front-more, last-then}
use Rattle.front_end.proofs.text.write_last.Goals as goal

pub returns-in_err-write_end-clause-part : goal.returns-in_err-write_end-clause-part
returns-in_err-write_end-clause-part g c =
    front-more _ _ (end_text c.args.key.now c.args.with_cas c.args.end.now)
    (if is_reply c.args.end.now then end_of_items else []) c.in_err-write_end.ensures.part

pub returns-then-is_reply-clause-part : goal.returns-then-is_reply-clause-part
returns-then-is_reply-clause-part g c =
    last-then _ _ _ c.args.key.now c.args.with_cas c.args.end.now _ c.is_reply.result c.is_reply.ensures
    c.if-is_reply.true c.end_of_items.ensures c.in_ok-write_end.ensures.whole c.write_text.ensures.part
