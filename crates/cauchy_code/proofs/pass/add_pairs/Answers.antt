use Rattle.std.proofs.Common.{◌≡◌, ℕ, ◌+◌, ◌<◌, List, length, get_or, bit_xor, sym, ap, ◌∙◌, refl, arith}
use Rattle.cauchy_code.specs.Solving.{pieces_sum}
use Rattle.cauchy_code.proofs.Terms.{one_added, part_at, two_added}
use Rattle.cauchy_code.proofs.pass.add_pairs.Goals as goal

pub pairs-preserved : goal.pairs-preserved
pairs-preserved c =
    let pieces = c.args.pieces.now in
    let j = c.pairs.j in
    let a = c.part-a.result.now in
    let b = c.part-b.result.now in
    let long : length c.pairs.first ≡ length c.args.first.now = c.pairs.auto.first in
    let other_long : length c.pairs.second ≡ length c.args.first.now = c.pairs.auto.second ∙ c.requires.same in
    let here = λ (k : ℕ) (below : k < length c.args.first.now). part_at pieces j (c.args.at + k) (get_or a k 0)
    c.index-pieces-j.result (omega (arith, c.pairs-test.true)) c.index-pieces-j.is (c.part-a.ensures.bytes k below) in
    let next = λ (k : ℕ) (below : k < length c.args.first.now). part_at pieces (j + 1) (c.args.at + k) (get_or b k 0)
    c.index-pieces-j-in-pairs.result (omega (arith, c.pairs-test.true)) c.index-pieces-j-in-pairs.is
    (c.part-b.ensures.bytes k below) in
    record {
      within = c.pairs-test.true;
      first = λ k x below is. ap (λ (l : List ℕ). get_or l k 0) c.mul_add_two_into.ensures.first
          ∙ two_added j (λ a. get_or c.args.in_first.now a 0) pieces (c.args.at + k) k x _ _ a b c.pairs.first
          (c.part-a.ensures.length ∙ sym long) (c.part-b.ensures.length ∙ sym long)
          (c.pairs.invariant.first k x below is) refl refl (here k below) (next k below);
      second = λ k x below is. ap (λ (l : List ℕ). get_or l k 0) c.mul_add_two_into.ensures.second
          ∙ two_added j (λ a. get_or c.args.in_second.now a 0) pieces (c.args.at + k) k x _ _ a b c.pairs.second
          (c.part-a.ensures.length ∙ sym other_long) (c.part-b.ensures.length ∙ sym other_long)
          (c.pairs.invariant.second k x below is) refl refl (here k below) (next k below);
    }

pub returns-then-j-pieces : goal.returns-then-j-pieces
returns-then-j-pieces c =
    let pieces = c.args.pieces.now in
    let j = c.pairs.j in
    let last = c.part-last.result.now in
    let all : j + 1 ≡ length pieces = omega (arith, c.if-j-pieces.true, c.pairs-test.false) in
    let added = λ (coefs now : List ℕ) (same : length c.args.first.now ≡ length now) (k x : ℕ) (below : k < length c.args.first.now)
    (sum : get_or now k 0 ≡ bit_xor x (pieces_sum j (λ a. get_or coefs a 0) pieces (c.args.at + k))).
    one_added j (λ a. get_or coefs a 0) pieces (c.args.at + k) k x (get_or coefs j 0) last now (c.part-last.ensures.length ∙ same) sum refl
    (part_at pieces j (c.args.at + k) (get_or last k 0) c.index-pieces-j-then-j-pieces.result c.if-j-pieces.true
    c.index-pieces-j-then-j-pieces.is (c.part-last.ensures.bytes k below))
    ∙ ap (λ m. bit_xor x (pieces_sum m (λ a. get_or coefs a 0) pieces (c.args.at + k))) all in
    record {
      first = λ k x below is. ap (λ (l : List ℕ). get_or l k 0) c.mul_add_into.ensures
          ∙ added c.args.in_first.now c.pairs.first (sym (c.pairs.auto.first)) k x below (c.pairs.invariant.first k x below is);
      second = λ k x below is.
          let within : k < length c.args.first.now = omega (arith, below, c.requires.same) in
          ap (λ (l : List ℕ). get_or l k 0) c.mul_add_into-then-j-pieces.ensures
          ∙ added c.args.in_second.now c.pairs.second (sym (c.pairs.auto.second ∙ c.requires.same)) k x within (c.pairs.invariant.second k x within is);
    }

pub returns-else-j-pieces : goal.returns-else-j-pieces
returns-else-j-pieces c =
    let all : c.pairs.j ≡ length c.args.pieces.now = omega (arith, c.pairs.invariant.within, c.if-j-pieces.false) in
    record {
      first = λ k x below is. c.pairs.invariant.first k x below is
          ∙ ap (λ m. bit_xor x (pieces_sum m (λ a. get_or c.args.in_first.now a 0) c.args.pieces.now (c.args.at + k)))
          all;
      second = λ k x below is. c.pairs.invariant.second k x (omega (arith, below, c.requires.same)) is
          ∙ ap (λ m. bit_xor x (pieces_sum m (λ a. get_or c.args.in_second.now a 0) c.args.pieces.now (c.args.at + k))) all;
    }
