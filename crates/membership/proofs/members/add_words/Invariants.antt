use Rattle.membership.proofs.Words.{AreAddedBefore}
use Rattle.membership.proofs.members.add_words.Given as goal

abbrev pub invariant-words : goal.invariant-words
invariant-words l = AreAddedBefore l.i l.initial.words l.words l.others
