use Rattle.std.proofs.Common.{ℕ, ◌+◌, ◌<◌, List, get_or, ap, ◌∙◌, arith, length}
use Rattle.cauchy_code.specs.Solving.{IsStarted}
use Rattle.cauchy_code.specs.declared.weights.Weights.{Weights}
use Rattle.cauchy_code.proofs.Terms.{part_at}
use Rattle.cauchy_code.proofs.Fours.{start_added}
use Rattle.cauchy_code.proofs.two_columns.fill_four.Goals as goal

pub returns : goal.returns
returns c =
    let rows = c.args.rows.now in
    let known = c.args.known.now in
    let summed = λ (w : Weights) (started : IsStarted w) (k : ℕ) (below : k < length c.args.a.now).
    let at = c.args.at + k in
    let in_p = part_at rows 0 at (get_or c.part-p.result.now k 0) c.index-rows-0.result
    (omega (arith, c.requires.two_rows)) c.index-rows-0.is (c.part-p.ensures.bytes k below) in
    let in_q = part_at rows 1 at (get_or c.part-q.result.now k 0) c.index-rows-1.result
    (omega (arith, c.requires.two_rows)) c.index-rows-1.is (c.part-q.ensures.bytes k below) in
    let in_r = part_at known 0 at (get_or c.part-r.result.now k 0) c.index-known-0.result
    (omega (arith, c.requires.two_known)) c.index-known-0.is (c.part-r.ensures.bytes k below) in
    let in_s = part_at known 1 at (get_or c.part-s.result.now k 0) c.index-known-1.result
    (omega (arith, c.requires.two_known)) c.index-known-1.is (c.part-s.ensures.bytes k below) in
    start_added (length c.args.a.now) w.start c.part-p.result.now c.part-q.result.now c.part-r.result.now c.part-s.result.now
    c.part-p.ensures.length c.part-q.ensures.length c.part-r.ensures.length c.part-s.ensures.length
    (λ q. get_or w.rows q 0) (λ q. get_or w.known q 0) rows known at k started.row started.next_row started.column started.next_column in_p in_q in_r in_s in
    record {
      a = λ k below. ap (λ (l : List ℕ). get_or l k 0) c.mul_four_into.ensures.first ∙ summed c.args.first.now c.requires.started.0 k below;
      b = λ k below. ap (λ (l : List ℕ). get_or l k 0) c.mul_four_into.ensures.second ∙ summed c.args.second.now c.requires.started.1 k below;
    }
