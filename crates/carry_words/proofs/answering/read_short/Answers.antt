use Rattle.std.proofs.Common.{refl}
use Rattle.std.specs.Prelude.{codes}
use Rattle.carry_words.specs.declared.heard.Heard.TheVariants as heard
use Rattle.carry_words.proofs.Reading.{is-heard}
use Rattle.carry_words.proofs.answering.read_short.Goals as goal

pub returns-in-Some : goal.returns-in-Some
returns-in-Some c = λ item. is-heard item heard.Missing c.args.text.now (codes "END\r\n") c.in-Some.missing.now
    c.answered.result c.answered.ensures c.in-Some.ensures refl

pub returns-in-Some-behind : goal.returns-in-Some-behind
returns-in-Some-behind c = λ item. is-heard item heard.Stored c.args.text.now (codes "STORED\r\n")
    c.in-Some-behind.stored.now c.answered-in-Some-behind.result c.answered-in-Some-behind.ensures
    c.in-Some-behind.ensures refl
