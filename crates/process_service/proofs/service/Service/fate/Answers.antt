use Rattle.std.proofs.Common.{sym, ap, ◌∙◌}
use Rattle.group_run.specs.Asking.{fate_of}
use Rattle.head_service.specs.Serving.{serving}
use Rattle.head_service.proofs.Machine.{fates_are_the_machines}
use Rattle.process_service.proofs.Lent.{HasPlace, IsLent, head-at, heads-as}
use Rattle.process_service.proofs.service.Service.fate.Goals as goal

pub returns-in-None : goal.returns-in-None
returns-in-None c b name =
    let place : HasPlace c.self.inside c.args.self.now c.args.partition.0 =
    record { view = c.self.view_is; kept = c.self.invariant; below = c.requires.partition } in
    sym (ap (fate_of c.args.self.now.shape c.args.caller c.args.call c.args.partition.0 (serving c.args.self.now b))
    (head-at place c.index.result.now c.index.ensures ∙ c.in-None.is))

pub returns-in-Some : goal.returns-in-Some
returns-in-Some c b name =
    let place : HasPlace c.self.inside c.args.self.now c.args.partition.0 =
    record { view = c.self.view_is; kept = c.self.invariant; below = c.requires.partition } in
    let lent : IsLent c.self.inside c.args.self.now c.args.partition.0 c.index-in-Some.result.now = record { place = place; entry = c.index-in-Some.ensures } in
    c.fate.ensures ∙ sym (
    fates_are_the_machines c.args.self.now.shape c.args.self.now b c.peers.result c.args.partition.0 c.in-Some.head
    c.index-in-Some.result.now.replica c.args.caller c.args.call
    (record { m = c.peers.ensures.m; name = c.peers.ensures.name ∙ sym name; known = c.peers.ensures.known })
    (heads-as lent c.in-Some.head (head-at place c.index.result.now c.index.ensures ∙ c.in-Some.is)))
