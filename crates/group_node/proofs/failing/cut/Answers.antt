use Rattle.std.proofs.Common.{◌<◌, arith, length}
use Rattle.group_node.proofs.Cut.{all-cut, cuts-on, has-place, has-room, none-cut}
use Rattle.group_node.proofs.failing.cut.Goals as goal

pub targets-init : goal.targets-init
targets-init c = none-cut c.args.dead c.args.keep c.args.links.now

pub cut-requires : goal.cut-requires
cut-requires c = let many = c.targets.invariant.many in omega (arith, c.k.ensures.value, c.m.ensures.value, c.requires.many, c.targets-test.true, many)

pub send-requires-clause-target : goal.send-requires-clause-target
send-requires-clause-target c =
    let within : c.targets.to < length c.args.links.now = omega (arith, c.k.ensures.value, c.m.ensures.value, c.requires.many, c.targets-test.true) in
    let long = has-place c.args.dead c.args.keep c.targets.to c.args.links.now c.targets.links c.cut.new.self
    c.cut.new.self within c.targets.invariant c.cut.ensures in
    omega (arith, within, long)

pub send-requires-clause-room : goal.send-requires-clause-room
send-requires-clause-room c =
    let within : c.targets.to < length c.args.links.now = omega (arith, c.k.ensures.value, c.m.ensures.value, c.requires.many, c.targets-test.true) in
    has-room c.args.dead c.args.keep c.targets.to c.args.links.now c.targets.links c.cut.new.self c.cut.new.self within
    c.targets.invariant c.cut.ensures c.requires.room

pub targets-preserved : goal.targets-preserved
targets-preserved c =
    let within : c.targets.to < length c.args.links.now = omega (arith, c.k.ensures.value, c.m.ensures.value, c.requires.many, c.targets-test.true) in
    cuts-on c.args.dead c.args.keep c.targets.to c.args.links.now c.targets.links c.cut.new.self c.send.new.self within
    c.targets.invariant c.cut.ensures c.send.ensures

pub returns-clause-many : goal.returns-clause-many
returns-clause-many c = c.targets.invariant.many

pub returns-clause-messages : goal.returns-clause-messages
returns-clause-messages c =
    all-cut c.args.shape c.args.dead c.args.keep c.targets.to c.args.links.now c.targets.links c.requires.many
    (omega (arith, c.k.ensures.value, c.m.ensures.value, c.targets-test.false)) c.targets.invariant
