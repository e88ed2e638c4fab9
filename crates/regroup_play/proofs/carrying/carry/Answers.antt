use Rattle.regroup_play.proofs.Judging.{from-carry}
use Rattle.regroup_play.proofs.carrying.carry.Goals as goal

pub returns : goal.returns
returns c = from-carry c.args.regroup.now c.carry.new.self c.args.shape c.carry.result c.carry.ensures.eras
    c.carry.ensures.many c.carry.ensures.can c.carry.ensures.fault c.carry.ensures.left
