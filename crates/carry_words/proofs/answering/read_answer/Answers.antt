use Rattle.std.proofs.Common.{rules, ◌≡◌, List, ℕ, ◌++◌, ap, ◌∙◌}
use Rattle.carry_words.specs.Answers.{IsRest, head_text}
use Rattle.carry_words.proofs.Reading.{has-value}
use Rattle.carry_words.proofs.answering.read_answer.Goals as goal

pub returns-in-Some-found : goal.returns-in-Some-found
returns-in-Some-found c =
    let head : c.args.text.now ≡ head_text c.args.item.now ++ c.in-Some.rest.now = search rules in
    let has : IsRest c.args.item.now.length c.in-Some-found.value c.in-Some.rest.now c.in-Some-found.left.now = search rules in
    has-value c.args.item.now c.in-Some-found.value c.args.text.now c.in-Some.rest.now c.in-Some-found.left.now c.answered.result c.answered.ensures head has
