use Rattle.std.proofs.Common.{rules, ◌<◌, length, arith}
use Rattle.cauchy_code.proofs.Terms.{number_holds}
use Rattle.cauchy_code.proofs.square.numbers.Goals as goal

pub overflow_cast-numbers : goal.overflow_cast-numbers
overflow_cast-numbers g c =
    let within : c.rows.a < length c.args.rows.now = omega (arith, c.rows-test.true, c.requires.long) in
    let below = number_holds (λ i. i < 256) c.args.rows.now c.rows.a c.index-rows-a.result c.requires.below within in
    search rules
