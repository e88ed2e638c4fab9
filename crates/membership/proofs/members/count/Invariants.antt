use Rattle.std.proofs.Common.{◌≡◌, ◌≤◌, ◌+◌, drop}
use Rattle.membership.specs.Members.{count_dead_words}
use Rattle.membership.proofs.members.count.Given as goal

abbrev pub invariant-words : goal.invariant-words
invariant-words l = record {
  counted : l.dead + count_dead_words (drop l.word-index l.words) ≡ count_dead_words l.words;
  few : l.dead ≤ l.word-index;
}
