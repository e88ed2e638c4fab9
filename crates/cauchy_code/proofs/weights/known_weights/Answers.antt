use Rattle.std.proofs.Common.{◌≤◌, length, get_or}
use Rattle.cauchy_code.specs.Solving.{known_weight}
use Rattle.cauchy_code.proofs.Coefficients.{one_made}
use Rattle.cauchy_code.proofs.Terms.{number_holds}
use Rattle.cauchy_code.proofs.weights.known_weights.Goals as goal

pub known_weight-requires-clause-d : goal.known_weight-requires-clause-d
known_weight-requires-clause-d c = number_holds (λ d. d ≤ 15) c.args.known.now c.known.j c.index-known-j.result c.requires.known_below c.known-test.true

pub known-preserved : goal.known-preserved
known-preserved c =
    let weight = known_weight (length c.args.rows.now) c.args.m (λ a. get_or c.args.by.now a 0) c.args.rows.now in
    one_made weight c.args.known.now c.known.j _ c.index-known-j.result c.known.all c.requires.few_known
    c.known-test.true c.known_weight.ensures c.known.invariant
