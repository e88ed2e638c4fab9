use Rattle.field_byte.proofs.Powers.{log_of_byte}
use Rattle.field_byte.proofs.laws.powers_are_all.Goals as goal

pub returns : goal.returns
returns c =
    let log = log_of_byte c.args.a c.ranges.a.fits c.requires in
    (_, log.below, log.power)
