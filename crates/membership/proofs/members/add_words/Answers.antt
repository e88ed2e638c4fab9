use Rattle.std.proofs.Common.{◌∙◌, arith}
use Rattle.membership.proofs.Words.{all-added, one-more}
use Rattle.membership.proofs.members.add_words.Goals as goal

pub words-preserved : goal.words-preserved
words-preserved c =
    one-more c.words.i c.args.words.now c.words.words c.args.others.now
    (let long = c.words.invariant.long in let test = c.words-test.true in omega (arith, long, test)) (c.words.invariant.long ∙ c.requires) c.words.invariant

pub returns : goal.returns
returns c =
    all-added c.words.i c.args.words.now c.words.words c.args.others.now
    (let long = c.words.invariant.long in let test = c.words-test.false in omega (arith, long, test)) (c.words.invariant.long ∙ c.requires) c.words.invariant
