use Rattle.std.proofs.Common.{◌≡◌, ℕ, ◌+◌, ◌<◌, List, length, get_or, sym, ap, ◌∙◌, arith}
use Rattle.cauchy_code.proofs.Terms.{part_at}
use Rattle.cauchy_code.proofs.Fours.{four_added}
use Rattle.cauchy_code.proofs.pass.add_pieces.Goals as goal

pub fours-preserved : goal.fours-preserved
fours-preserved c =
    let pieces = c.args.pieces.now in
    let j = c.fours.j in
    let a = c.part-a.result.now in
    let b = c.part-b.result.now in
    let e = c.part-c.result.now in
    let d = c.part-d.result.now in
    let by_first = c.four_of-by_first.result in
    let by_second = c.four_of-by_second.result in
    let long : length c.args.first.now ≡ length c.fours.first = sym (c.fours.auto.first) in
    let other_long : length c.args.first.now ≡ length c.fours.second = sym (c.fours.auto.second ∙ c.requires.same) in
    let in_a = λ (k : ℕ) (below : k < length c.args.first.now). part_at pieces j (c.args.at + k) (get_or a k 0)
    c.index-pieces-j.result (omega (arith, c.fours-test.true)) c.index-pieces-j.is (c.part-a.ensures.bytes k below) in
    let in_b = λ (k : ℕ) (below : k < length c.args.first.now). part_at pieces (j + 1) (c.args.at + k) (get_or b k 0)
    c.index-pieces-j-in-fours.result (omega (arith, c.fours-test.true)) c.index-pieces-j-in-fours.is
    (c.part-b.ensures.bytes k below) in
    let in_c = λ (k : ℕ) (below : k < length c.args.first.now). part_at pieces (j + 2) (c.args.at + k) (get_or e k 0)
    c.index-pieces-j-in-fours-2.result (omega (arith, c.fours-test.true)) c.index-pieces-j-in-fours-2.is
    (c.part-c.ensures.bytes k below) in
    let in_d = λ (k : ℕ) (below : k < length c.args.first.now). part_at pieces (j + 3) (c.args.at + k) (get_or d k 0)
    c.index-pieces-j-in-fours-3.result (omega (arith, c.fours-test.true)) c.index-pieces-j-in-fours-3.is
    (c.part-d.ensures.bytes k below) in
    record {
      within = c.fours-test.true;
      first = λ k x below is. ap (λ (l : List ℕ). get_or l k 0) c.mul_add_four_into.ensures.first
          ∙ four_added by_first a b e d c.fours.first (c.part-a.ensures.length ∙ long) (c.part-b.ensures.length ∙ long)
          (c.part-c.ensures.length ∙ long) (c.part-d.ensures.length ∙ long)
          j (λ q. get_or c.args.in_first.now q 0) pieces (c.args.at + k) k x (c.fours.invariant.first k x below is)
          c.four_of-by_first.ensures (in_a k below) (in_b k below) (in_c k below) (in_d k below);
      second = λ k x below is. ap (λ (l : List ℕ). get_or l k 0) c.mul_add_four_into.ensures.second
          ∙ four_added by_second a b e d c.fours.second (c.part-a.ensures.length ∙ other_long)
          (c.part-b.ensures.length ∙ other_long) (c.part-c.ensures.length ∙ other_long)
          (c.part-d.ensures.length ∙ other_long)
          j (λ q. get_or c.args.in_second.now q 0) pieces (c.args.at + k) k x (c.fours.invariant.second k x below is)
          c.four_of-by_second.ensures (in_a k below) (in_b k below) (in_c k below) (in_d k below);
    }
