-- Each made script is clean.
use Rattle.std.proofs.Common.{ℕ, zero, suc, ◌≡◌, ◌≤◌, ◌+◌, ◌*◌, ◌==◌, Bool, true, false, List, [], ◌∷◌, ◌++◌, length}
use Rattle.std.proofs.Common.{flat_map, Option, Some, None, refl, sym, ap, subst, ◌∙◌, arith, if◌then◌else◌}
use Rattle.std.proofs.lemmas.List.{append_assoc, length-append}
use Rattle.std.specs.Prelude.{codes}
use Rattle.std.specs.List.{range_with_len}
use Rattle.group_types.specs.Dimensions.{Dimensions}
use Rattle.group_run.specs.World.{opening}
use Rattle.scenario_make.specs.Rounds.{first_loss, line, lines_before, round_from, round_words, second_loss}
use Rattle.scenario_make.specs.Script.{after_rounds, round_text, rounds_text, script_text}
use Rattle.scenario_run.specs.Lines.{lines_of}
use Rattle.scenario_run.specs.Course.{named_in}
use Rattle.scenario_run.specs.Playing.{Play, next_of, shape_in}
use Rattle.scenario_text.specs.Meaning.{group_within, keyword_of, line_by}
use Rattle.scenario_text.specs.Words.{number_below, process_of_word}
use Rattle.memc_proto.specs.Words.{keep_word, number_word}
use Rattle.made_scripts.specs.Clean.{MadeAreClean, made_shape}
use Rattle.made_scripts.proofs.Lines.{NoneRefused, Passes, fault_in, both-pass, each-passes, line-passes, lines-more, none-passes}
use Rattle.made_scripts.proofs.Rounds.{body, drawn-fine, line-body}

-- a drain, and a loss before it
drain-passes : Passes made_shape (codes "drain\n")
unfolding keyword_of line_by
drain-passes = line-passes made_shape (codes "drain") refl refl

first-passes : Passes made_shape (codes "fail d0 1\n")
unfolding keyword_of line_by number_below process_of_word keep_word number_word
first-passes = line-passes made_shape (codes "fail d0 1") refl refl

second-passes : Passes made_shape (codes "fail p0 1\n")
unfolding keyword_of line_by number_below process_of_word keep_word number_word
second-passes = line-passes made_shape (codes "fail p0 1") refl refl

-- a text that passes, and is short
record Fine (most : ℕ) (text : List ℕ) : Type 0 where
  passes : Passes made_shape text
  short : length text ≤ most

losses-fine : (round : ℕ) → Fine 32 (lines_before round)
losses-fine round = by (round == first_loss) (round == second_loss) where
  by : (a b : Bool) → Fine 32 (if a then codes "fail d0 1\ndrain\n" else if b then codes "fail p0 1\ndrain\n" else [])
  by true b = record { passes = both-pass made_shape (codes "fail d0 1\n") (codes "drain\n") first-passes drain-passes; short = omega arith }
  by false true = record { passes = both-pass made_shape (codes "fail p0 1\n") (codes "drain\n") second-passes drain-passes; short = omega arith }
  by false false = record { passes = none-passes made_shape; short = omega arith }

line-fine : (round s : ℕ) → Fine 64 (line (round_words round (round_from s)))
line-fine round s =
    let fine = drawn-fine round s in
    let words : List (List ℕ) = round_words round (round_from s) in
    subst (Fine 64) (sym (line-body words)) (record {
      passes = line-passes made_shape (body words) fine.ends fine.plain;
      short = let few = fine.short in let long = length-append (body words) (10 ∷ []) in omega (arith, few, long);
    })

round-fine : (n r : ℕ) → Fine 96 (round_text n r)
round-fine n r =
    let losses = losses-fine (r + 1) in
    let told = line-fine (r + 1) (after_rounds n r) in
    record {
      passes = both-pass made_shape (lines_before (r + 1)) (line (round_words (r + 1) (round_from (after_rounds n r)))) losses.passes told.passes;
      short =
          let one = losses.short in
          let two = told.short in
          let long = length-append (lines_before (r + 1)) (line (round_words (r + 1) (round_from (after_rounds n r)))) in
          omega (arith, one, two, long);
    }

flat-short : (f : ℕ → List ℕ) (most : ℕ) → ((x : ℕ) → length (f x) ≤ most) → (a n : ℕ) → length (flat_map f (range_with_len a n)) ≤ n * most
flat-short f most each a zero = omega arith
flat-short f most each a (suc n) =
    let here = each a in
    let rest = flat-short f most each (a + 1) n in
    let long = length-append (f a) (flat_map f (range_with_len (a + 1) n)) in
    omega (arith, here, rest, long)

rounds-fine : (n : ℕ) → Fine (4000 * 96) (rounds_text n 4000)
unfolding rounds_text
rounds-fine n = record {
  passes = each-passes made_shape (round_text n) (λ r. (round-fine n r).passes) (range_with_len 0 4000);
  short = flat-short (round_text n) 96 (λ r. (round-fine n r).short) 0 4000;
}

-- the end
stops : NoneRefused made_shape (codes "stop\n")
unfolding keyword_of line_by
stops n p shape = refl

end-none : NoneRefused made_shape (codes "drain\nstop\n")
end-none = drain-passes (codes "stop\n") stops

-- the shape of the group that the lines are about
abbrev shape_from : Option Play → List (List ℕ) → Option Dimensions
shape_from p lines = shape_in (named_in next_of p lines)

-- the beginning
start : Play
start = record { world = opening made_shape; moment = 0 }

starts : (lines : List (List ℕ)) → fault_in 1 None (codes "group 3 2 64 64" ∷ lines) ≡ fault_in 2 (Some start) lines
unfolding start group_within number_below lib.Count.ones
starts lines = refl

shapes : (lines : List (List ℕ)) → shape_from None (codes "group 3 2 64 64" ∷ lines) ≡ Some made_shape
unfolding group_within number_below lib.Count.ones
shapes lines = refl

pub made_are_clean : MadeAreClean
unfolding script_text start
made_are_clean n = record {
  fault = ap (fault_in 1 None) lines-are ∙ starts (lines_of later) ∙ none 2 start refl;
  shape = ap (shape_from None) lines-are ∙ shapes (lines_of later);
  short =
      let rounds = (rounds-fine n).short in
      let one = length-append (codes "group 3 2 64 64\n") (rounds_text n 4000) in
      let two = length-append (codes "group 3 2 64 64\n" ++ rounds_text n 4000) (codes "drain\nstop\n") in
      omega (arith, rounds, one, two);
} where
  later : List ℕ
  later = rounds_text n 4000 ++ codes "drain\nstop\n"

  lines-are : lines_of (script_text n) ≡ codes "group 3 2 64 64" ∷ lines_of later
  lines-are = ap lines_of (append_assoc (codes "group 3 2 64 64\n") (rounds_text n 4000) (codes "drain\nstop\n"))
      ∙ lines-more (codes "group 3 2 64 64") later refl

  none : NoneRefused made_shape later
  none = (rounds-fine n).passes (codes "drain\nstop\n") end-none
