use Rattle.std.proofs.Common.{sym, ◌∙◌}
use Rattle.membership.proofs.Words.{all-within, one-outside, one-within}
use Rattle.membership.proofs.members.are_within.Goals as goal
use Rattle.membership.proofs.members.are_within.Goals.{else-words-i-via-then-words-i+else-not-others-i, else-words-i-via-else-words-i}

pub returns-then-not-others-i : goal.returns-then-not-others-i
returns-then-not-others-i c = (
  λ no. absurd (cc no),
  λ are. absurd (one-outside c.words.i c.args.words.now c.args.others.now c.words-test.true c.requires c.if-words-i.true c.if-not-others-i.true are),
)

pub words-preserved : goal.words-preserved
words-preserved c = elim c.else-words-i.branch [
  | else-words-i-via-then-words-i+else-not-others-i w ↦
      one-within c.words.i c.args.words.now c.args.others.now c.words-test.true c.requires (λ dead. w.if-not-others-i.false) c.words.invariant
  | else-words-i-via-else-words-i w ↦
      one-within c.words.i c.args.words.now c.args.others.now c.words-test.true c.requires
      (λ dead. absurd (cc (sym dead ∙ w.if-words-i.false))) c.words.invariant
]

pub returns : goal.returns
returns c = (
  λ yes. all-within c.words.i c.args.words.now c.args.others.now c.words-test.false c.words.invariant,
  λ are. cc,
)
