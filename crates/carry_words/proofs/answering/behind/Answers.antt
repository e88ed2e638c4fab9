use Rattle.carry_words.proofs.Reading.{stripped}
use Rattle.carry_words.proofs.answering.behind.Goals as goal

pub returns : goal.returns
returns c = stripped c.args.text.now c.args.front.now c.strip_prefix.result c.strip_prefix.ensures.cases
