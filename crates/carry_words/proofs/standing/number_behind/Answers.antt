use Rattle.carry_words.proofs.Lines.{number_in}
use Rattle.carry_words.proofs.Reading.{stripped}
use Rattle.carry_words.proofs.standing.number_behind.Goals as goal

pub returns-in-Some : goal.returns-in-Some
returns-in-Some c =
    number_in c.args.lines.now c.args.front.now c.lines.line-index _ c.lines-test.true c.strip_prefix.result c.in-Some.digits c.in-Some.is
    (stripped _ c.args.front.now c.strip_prefix.result c.strip_prefix.ensures.cases) c.number.result c.number.ensures
