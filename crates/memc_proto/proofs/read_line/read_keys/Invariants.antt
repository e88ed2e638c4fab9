use Rattle.std.proofs.Common.{◌≡◌, ℕ, true, map, take, List, Bor}
use Rattle.std.specs.List.{list_all}
use Rattle.memc_proto.specs.Words.{is_key_word}
use Rattle.memc_proto.proofs.read_line.read_keys.Given as goal

abbrev pub invariant-words : goal.invariant-words
invariant-words l = record {
  keys : l.keys.items ≡ take l.word-index (map (λ (word : Bor (List ℕ)). word.now) l.words);
  right : list_all is_key_word (take l.word-index (map (λ (word : Bor (List ℕ)). word.now) l.words)) ≡ true;
}
