use Rattle.run_verify.proofs.Rising.{few_rise}
use Rattle.run_verify.proofs.places.rise.Goals as goal

pub returns : goal.returns
returns c _ = c.places.invariant.all (few_rise c.places.rest.now c.in_default.len_below)
