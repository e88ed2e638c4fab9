use Rattle.std.proofs.Common.{ℕ, List, ◌++◌, ◌∙◌, ap, map, Bor, ◌+◌, ◌-◌, length, take, drop, arith}
use Rattle.std.proofs.lemmas.List.{length-drop}
use Rattle.memc_proto.specs.Words.{words_of}
use Rattle.memc_proto.proofs.Spaces.{words_of-step, words_of-done, take_rest}
use Rattle.memc_proto.proofs.words.words.Goals as goal

pub words-preserved : goal.words-preserved
words-preserved c = record {
  words = ap (λ (ws : List (List ℕ)). ws
      ++ words_of (take (length c.words.rest.now - (c.in-Some.end + 1)) (drop (c.in-Some.end + 1) c.words.rest.now)))
      c.in_ok-push_word.ensures
      ∙ words_of-step (map (λ (word : Bor (List ℕ)). word.now) c.words.words.items) c.args.line.now c.words.rest.now
      c.in-Some.end c.words.invariant.words c.in-Some.ensures.0.high
      (λ k below. c.in-Some.ensures.0.before k (omega arith) below) c.in-Some.ensures.1;
  shorter = omega (
    arith,
    c.words.invariant.shorter,
    ap length (take_rest c.words.rest.now (c.in-Some.end + 1)),
    length-drop (c.in-Some.end + 1) c.words.rest.now,
  );
}

pub returns : goal.returns
returns c = c.in_ok-push_word-2.ensures ∙ words_of-done (map (λ (word : Bor (List ℕ)). word.now) c.words.words.items)
    c.args.line.now c.words.rest.now c.words.invariant.words (λ k below. c.in_default.ensures k (omega arith) below)
