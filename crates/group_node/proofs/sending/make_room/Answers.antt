use Rattle.group_node.proofs.Links.{messages-same}
use Rattle.group_node.proofs.sending.make_room.Goals as goal

pub returns-clause-messages : goal.returns-clause-messages
returns-clause-messages c = messages-same c.args.links.now c.reserve.new.self c.reserve.ensures.many c.reserve.ensures.messages
