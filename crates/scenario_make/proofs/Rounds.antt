-- One round more is written.
use Rattle.std.proofs.Common.{ℕ, suc, ◌≡◌, ◌<◌, ◌+◌, ◌-◌, List, ◌++◌, flat_map, sym, ap, ◌∙◌, arith}
use Rattle.std.proofs.lemmas.List.{append_assoc}
use Rattle.std.specs.List.{range_with_len}
use Rattle.scenario_make.specs.Rounds.{after_round, line, lines_before, round_from, round_words}
use Rattle.scenario_make.specs.Script.{after_rounds, round_text}
use Rattle.scenario_make.specs.declared.round.Round.{Round}

-- what a round adds to a text
pub record Adds (n past : ℕ) (old new : List ℕ) : Type 0 where
  pub losses : List ℕ
  pub written : List ℕ
  pub round : Round
  pub drawn : round ≡ round_from (after_rounds n past)
  pub losses_are : losses ≡ lines_before (past + 1)
  pub written_is : written ≡ line (round_words (past + 1) round)
  pub new_is : new ≡ old ++ losses ++ written

-- its text moves from what is left to what is done
pub one-more : (n past rounds : ℕ) (old new whole : List ℕ) → past < rounds → Adds n past old new
    → old ++ flat_map (round_text n) (range_with_len past (rounds - past)) ≡ whole
    → new ++ flat_map (round_text n) (range_with_len (past + 1) (rounds - (past + 1))) ≡ whole
one-more n past rounds old new whole below adds all =
    ap (λ (text : List ℕ). text ++ later) (adds.new_is ∙ ap (λ (text : List ℕ). old ++ text ++ adds.written)
    adds.losses_are ∙ ap (λ (text : List ℕ). old ++ lines_before (past + 1) ++ text) own)
    ∙ ap (λ (text : List ℕ). text ++ later) (append_assoc old (lines_before (past + 1)) (line (round_words (past + 1) (round_from (after_rounds n past)))))
    ∙ append_assoc old (round_text n past) later
    ∙ ap (λ (k : ℕ). old ++ flat_map (round_text n) (range_with_len past k)) (sym more) ∙ all
  where
    later : List ℕ
    later = flat_map (round_text n) (range_with_len (past + 1) (rounds - (past + 1)))

    more : rounds - past ≡ suc (rounds - (past + 1))
    more = omega (arith, below)

    own : adds.written ≡ line (round_words (past + 1) (round_from (after_rounds n past)))
    own = adds.written_is ∙ ap (λ (r : Round). line (round_words (past + 1) r)) adds.drawn

pub after-more : (n past : ℕ) → after_round (after_rounds n past) ≡ after_rounds n (past + 1)
after-more n past = let next : suc past ≡ past + 1 = omega arith in ap (after_rounds n) next
