use Rattle.std.proofs.Common.{◌≡◌, ℕ, ◌≤◌, ◌++◌, map, length, List, Bor}
use Rattle.memc_proto.specs.Words.{words_of}
use Rattle.memc_proto.proofs.words.words.Given as goal

abbrev pub invariant-words : goal.invariant-words
invariant-words l = record {
  words : map (λ (word : Bor (List ℕ)). word.now) l.words.items ++ words_of l.rest ≡ words_of l.line;
  shorter : length l.rest ≤ length l.line;
}

abbrev pub decreases-words : goal.decreases-words
decreases-words l = length l.rest
