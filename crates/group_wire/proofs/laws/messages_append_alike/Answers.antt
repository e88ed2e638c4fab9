use Rattle.group_wire.proofs.Appending.{messages_append_alike}
use Rattle.group_wire.proofs.laws.messages_append_alike.Goals as goal

pub returns : goal.returns
returns c = messages_append_alike
