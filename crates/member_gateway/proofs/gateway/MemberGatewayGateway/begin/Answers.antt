use Rattle.std.proofs.Common.{rules}
use Rattle.member_gateway.proofs.Opening.{HasLent, begins_keeps, begins_later, begins_lends, begins_open, gateway-of, has-lent}
use Rattle.member_gateway.proofs.gateway.MemberGatewayGateway.begin.Goals as goal

pub returns-clause-begun : goal.returns-clause-begun
returns-clause-begun c =
    let l : HasLent c.args.self.now (gateway-of c.begin.new.self c.lend.new.self) c.lend.result c.args.op =
    (has-lent (gateway-of c.self.inside.work c.self.inside.slots) c.args.self.now
    (gateway-of c.begin.new.self c.lend.new.self) c.in-Some.caller c.lend.result c.args.op c.self.view_is
    c.lend.ensures.caller c.begin.ensures (search rules) (search rules) c.lend.ensures.lent) in
    begins_open c.args.self.now (gateway-of c.begin.new.self c.lend.new.self) c.lend.result c.args.op l.begins l.free l.hash l.lent

pub returns-clause-others : goal.returns-clause-others
returns-clause-others c =
    let l : HasLent c.args.self.now (gateway-of c.begin.new.self c.lend.new.self) c.lend.result c.args.op =
    (has-lent (gateway-of c.self.inside.work c.self.inside.slots) c.args.self.now
    (gateway-of c.begin.new.self c.lend.new.self) c.in-Some.caller c.lend.result c.args.op c.self.view_is
    c.lend.ensures.caller c.begin.ensures (search rules) (search rules) c.lend.ensures.lent) in
    begins_keeps c.args.self.now (gateway-of c.begin.new.self c.lend.new.self) c.lend.result c.args.op l.begins l.free l.hash l.lent

pub returns-clause-lends : goal.returns-clause-lends
returns-clause-lends c =
    let l : HasLent c.args.self.now (gateway-of c.begin.new.self c.lend.new.self) c.lend.result c.args.op =
    (has-lent (gateway-of c.self.inside.work c.self.inside.slots) c.args.self.now
    (gateway-of c.begin.new.self c.lend.new.self) c.in-Some.caller c.lend.result c.args.op c.self.view_is
    c.lend.ensures.caller c.begin.ensures (search rules) (search rules) c.lend.ensures.lent) in
    begins_lends c.args.self.now (gateway-of c.begin.new.self c.lend.new.self) c.lend.result c.args.op l.begins l.free l.hash l.lent

pub returns-clause-later : goal.returns-clause-later
returns-clause-later c =
    let l : HasLent c.args.self.now (gateway-of c.begin.new.self c.lend.new.self) c.lend.result c.args.op =
    (has-lent (gateway-of c.self.inside.work c.self.inside.slots) c.args.self.now
    (gateway-of c.begin.new.self c.lend.new.self) c.in-Some.caller c.lend.result c.args.op c.self.view_is
    c.lend.ensures.caller c.begin.ensures (search rules) (search rules) c.lend.ensures.lent) in
    begins_later c.args.self.now (gateway-of c.begin.new.self c.lend.new.self) c.lend.result c.args.op l.begins l.free l.hash l.lent
