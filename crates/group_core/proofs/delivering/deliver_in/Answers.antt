use Rattle.group_core.proofs.Changed.{weaker}
use Rattle.group_core.proofs.Exchanges.{can-come, exchanged-is, seated-either}
use Rattle.group_core.proofs.delivering.deliver_in.Goals as goal

pub deliver_up-requires-clause-can : goal.deliver_up-requires-clause-can
deliver_up-requires-clause-can c =
    can-come c.args.shape c.args.nodes.now c.requires.seated c.args.from c.args.to c.requires.from c.requires.to
    c.index_of-sender.result c.index_of-receiver.result
    c.index_of-sender.ensures c.index_of-receiver.ensures c.requires.from_name c.requires.to_name c.requires.comes

pub deliver_down-requires-clause-can : goal.deliver_down-requires-clause-can
deliver_down-requires-clause-can c =
    can-come c.args.shape c.args.nodes.now c.requires.seated c.args.from c.args.to c.requires.from c.requires.to
    c.index_of-sender.result c.index_of-receiver.result
    c.index_of-sender.ensures c.index_of-receiver.ensures c.requires.from_name c.requires.to_name c.requires.comes

pub returns-then-sender-receiver-clause-seated : goal.returns-then-sender-receiver-clause-seated
returns-then-sender-receiver-clause-seated c =
    seated-either c.args.shape c.args.nodes.now c.requires.seated c.args.from c.args.to c.requires.from c.requires.to
    c.index_of-sender.result c.index_of-receiver.result
    c.index_of-sender.ensures c.index_of-receiver.ensures c.requires.from_name c.requires.to_name c.deliver_up.new.nodes
    c.deliver_up.result c.deliver_up.ensures.step c.deliver_up.ensures.err

pub returns-then-sender-receiver-clause-step : goal.returns-then-sender-receiver-clause-step
returns-then-sender-receiver-clause-step c =
    weaker c.deliver_up.result (λ out ex. exchanged-is c.args.shape c.args.nodes.now c.requires.seated c.args.from c.args.to c.requires.from c.requires.to
    c.index_of-sender.result c.index_of-receiver.result c.index_of-sender.ensures c.index_of-receiver.ensures
    c.requires.from_name c.requires.to_name c.deliver_up.new.nodes out ex) c.deliver_up.ensures.step

pub returns-else-sender-receiver-clause-seated : goal.returns-else-sender-receiver-clause-seated
returns-else-sender-receiver-clause-seated c =
    seated-either c.args.shape c.args.nodes.now c.requires.seated c.args.from c.args.to c.requires.from c.requires.to
    c.index_of-sender.result c.index_of-receiver.result
    c.index_of-sender.ensures c.index_of-receiver.ensures c.requires.from_name c.requires.to_name
    c.deliver_down.new.nodes c.deliver_down.result c.deliver_down.ensures.step c.deliver_down.ensures.err

pub returns-else-sender-receiver-clause-step : goal.returns-else-sender-receiver-clause-step
returns-else-sender-receiver-clause-step c =
    weaker c.deliver_down.result (λ out ex. exchanged-is c.args.shape c.args.nodes.now c.requires.seated c.args.from c.args.to c.requires.from c.requires.to
    c.index_of-sender.result c.index_of-receiver.result c.index_of-sender.ensures c.index_of-receiver.ensures
    c.requires.from_name c.requires.to_name c.deliver_down.new.nodes out ex) c.deliver_down.ensures.step
