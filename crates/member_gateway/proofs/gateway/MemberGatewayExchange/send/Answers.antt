use Rattle.std.proofs.Common.{refl}
use Rattle.member_gateway.proofs.Opening.{gateway-of, inside_keeps, inside_later, inside_lends}
use Rattle.member_gateway.proofs.gateway.MemberGatewayExchange.send.Goals as goal

pub returns-clause-open : goal.returns-clause-open
returns-clause-open g c = inside_keeps (gateway-of c.self.inside.work c.self.inside.slots) c.args.self.now
    (gateway-of c.send.new.self c.self.inside.slots) c.self.view_is c.send.ensures.goes refl

pub returns-clause-lends : goal.returns-clause-lends
returns-clause-lends g c = inside_lends (gateway-of c.self.inside.work c.self.inside.slots) c.args.self.now
    (gateway-of c.send.new.self c.self.inside.slots) c.self.view_is refl

pub returns-clause-later : goal.returns-clause-later
returns-clause-later g c = inside_later (gateway-of c.self.inside.work c.self.inside.slots) c.args.self.now
    (gateway-of c.send.new.self c.self.inside.slots) c.self.view_is c.send.ensures.goes
