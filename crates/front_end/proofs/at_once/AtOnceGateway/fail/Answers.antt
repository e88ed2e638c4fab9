use Rattle.front_end.proofs.Leading.{order-leads, kept-on}
use Rattle.front_end.proofs.at_once.AtOnceGateway.fail.Goals as goal

pub returns-clause-others : goal.returns-clause-others
returns-clause-others g c = λ call op began. kept-on g.C.Caller.ways g.C.Caller.later g.C.Caller.order
    c.args.self.now.ended began.caller c.args.self.now.caller c.fail.new.self op
    (order-leads g.C.Caller.ways g.C.Caller.later g.C.Caller.onward c.args.self.now.caller c.fail.new.self c.args.at
    c.args.keep c.fail.result c.fail.ensures.failed c.fail.ensures.want)
