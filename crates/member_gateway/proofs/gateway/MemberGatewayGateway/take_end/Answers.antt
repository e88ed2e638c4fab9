use Rattle.std.proofs.Common.{rules}
use Rattle.member_gateway.proofs.Ending.{HasShut, has-shut, shows_free, shows_keeps, shows_later, shows_lends, shows_over}
use Rattle.member_gateway.proofs.Opening.{gateway-of}
use Rattle.member_gateway.proofs.gateway.MemberGatewayGateway.take_end.Goals as goal

pub returns-clause-over : goal.returns-clause-over
returns-clause-over c =
    let l : HasShut c.args.self.now (gateway-of c.take_end.new.self c.close.new.self) c.args.call.now c.in_ok-end.end =
    has-shut (gateway-of c.self.inside.work c.self.inside.slots) c.args.self.now
    (gateway-of c.take_end.new.self c.close.new.self) c.caller-caller.result c.args.call.now c.in_ok-end.end
    c.self.view_is (search rules) (search rules) (search rules) (search rules) in
    λ is. shows_over c.args.self.now (gateway-of c.take_end.new.self c.close.new.self) c.args.call.now c.in_ok-end.end l.shown l.lent l.closed

pub returns-clause-free : goal.returns-clause-free
returns-clause-free c =
    let l : HasShut c.args.self.now (gateway-of c.take_end.new.self c.close.new.self) c.args.call.now c.in_ok-end.end =
    has-shut (gateway-of c.self.inside.work c.self.inside.slots) c.args.self.now
    (gateway-of c.take_end.new.self c.close.new.self) c.caller-caller.result c.args.call.now c.in_ok-end.end
    c.self.view_is (search rules) (search rules) (search rules) (search rules) in
    λ is. shows_free c.args.self.now (gateway-of c.take_end.new.self c.close.new.self) c.args.call.now c.in_ok-end.end l.shown l.lent l.closed

pub returns-clause-others : goal.returns-clause-others
returns-clause-others c =
    let l : HasShut c.args.self.now (gateway-of c.take_end.new.self c.close.new.self) c.args.call.now c.in_ok-end.end =
    has-shut (gateway-of c.self.inside.work c.self.inside.slots) c.args.self.now
    (gateway-of c.take_end.new.self c.close.new.self) c.caller-caller.result c.args.call.now c.in_ok-end.end
    c.self.view_is (search rules) (search rules) (search rules) (search rules) in
    shows_keeps c.args.self.now (gateway-of c.take_end.new.self c.close.new.self) c.args.call.now c.in_ok-end.end l.shown l.lent l.closed

pub returns-clause-lends : goal.returns-clause-lends
returns-clause-lends c =
    let l : HasShut c.args.self.now (gateway-of c.take_end.new.self c.close.new.self) c.args.call.now c.in_ok-end.end =
    has-shut (gateway-of c.self.inside.work c.self.inside.slots) c.args.self.now
    (gateway-of c.take_end.new.self c.close.new.self) c.caller-caller.result c.args.call.now c.in_ok-end.end
    c.self.view_is (search rules) (search rules) (search rules) (search rules) in
    shows_lends c.args.self.now (gateway-of c.take_end.new.self c.close.new.self) c.args.call.now c.in_ok-end.end l.shown l.lent l.closed

pub returns-clause-later : goal.returns-clause-later
returns-clause-later c =
    let l : HasShut c.args.self.now (gateway-of c.take_end.new.self c.close.new.self) c.args.call.now c.in_ok-end.end =
    has-shut (gateway-of c.self.inside.work c.self.inside.slots) c.args.self.now
    (gateway-of c.take_end.new.self c.close.new.self) c.caller-caller.result c.args.call.now c.in_ok-end.end
    c.self.view_is (search rules) (search rules) (search rules) (search rules) in
    shows_later c.args.self.now (gateway-of c.take_end.new.self c.close.new.self) c.args.call.now c.in_ok-end.end l.shown l.lent l.closed
