use Rattle.std.proofs.Common.{◌≡◌, ℕ, ◌≤◌, List, length, get_or, bit_xor, sym, ap, ◌∙◌, refl, arith}
use Rattle.std.proofs.lemmas.List.{length-replicate}
use Rattle.std.proofs.lemmas.List.Elements.{All-get_or}
use Rattle.field_byte.proofs.Vectors.{length-add_scaled}
use Rattle.group_types.proofs.Places.{number_at}
use Rattle.group_types.specs.declared.piece_list.Piece.{Piece}
use Rattle.group_types.specs.Pieces.{numbers_of}
use Rattle.cauchy_code.specs.Solving.{pieces_sum, known_sum, known_weight}
use Rattle.cauchy_code.proofs.Terms.{cleared, column_begun, content_at, number_holds, rows_more, known_more}
use Rattle.cauchy_code.proofs.column.write_column.Goals as goal

pub rows-init : goal.rows-init
rows-init c = record {
  long = ap length c.clear.ensures ∙ length-replicate (length c.args.into.now) 0;
  sum = cleared c.clear.new.bytes (length c.args.into.now) (λ a. get_or c.args.weights.now a 0) c.args.rows.now c.clear.ensures;
}

pub rows-preserved : goal.rows-preserved
rows-preserved c =
    let p = c.index-rows-a.result in
    let content = content_at c.args.rows.now c.rows.a p c.rows-test.true in
    let long : length c.bytes.result.now ≡ length c.rows.into =
    ap length c.bytes.ensures
    ∙ (All-get_or (λ (p : Piece). length p.bytes ≡ length c.args.into.now) c.args.rows.now c.rows.a p
    c.rows-test.true c.requires.rows_long ∙ sym c.rows.invariant.long) in
    record {
      long = ap length c.mul_add_into.ensures ∙ (length-add_scaled _ _ _ long ∙ c.rows.invariant.long);
      sum = λ at. ap (λ (bytes : List ℕ). get_or bytes at 0) c.mul_add_into.ensures
          ∙ rows_more c.rows.a (λ a. get_or c.args.weights.now a 0) c.args.rows.now _ _ _ long refl (c.bytes.ensures ∙ sym content) c.rows.invariant.sum at;
    }

pub known-init : goal.known-init
known-init c =
    let all : c.rows.a ≡ length c.args.rows.now = omega (arith, c.rows-test.false, c.rows.auto.a-end) in
    record {
      long = c.rows.invariant.long;
      sum = λ at. c.rows.invariant.sum at ∙ (ap (λ n. pieces_sum n (λ a. get_or c.args.weights.now a 0) c.args.rows.now at) all
          ∙ column_begun c.args.m (λ a. get_or c.args.weights.now a 0) c.args.rows.now c.args.known.now at);
    }

pub known_weight-weight-requires-clause-d : goal.known_weight-weight-requires-clause-d
known_weight-weight-requires-clause-d c =
    let below = number_holds (λ d. d ≤ 15) c.args.known.now c.known.piece-index c.piece-item.result c.requires.known_below c.known-test.true in
    let same = ap (λ (p : Piece). p.number) c.piece-item.is in
    omega (arith, below, same)

pub known-preserved : goal.known-preserved
known-preserved c =
    let p = c.piece-item.result in
    let is = c.piece-item.is in
    let bytes : c.bytes-in-known.result.now ≡ (get_or c.args.known.now c.known.piece-index p).bytes =
    c.bytes-in-known.ensures ∙ ap (λ (p : Piece). p.bytes) is in
    let content = content_at c.args.known.now c.known.piece-index p c.known-test.true in
    let long : length c.bytes-in-known.result.now ≡ length c.known.into =
    ap length bytes
    ∙ (All-get_or (λ (p : Piece). length p.bytes ≡ length c.args.into.now) c.args.known.now c.known.piece-index p
    c.known-test.true c.requires.known_long ∙ sym c.known.invariant.long) in
    let number : p.number ≡ get_or (numbers_of c.args.known.now) c.known.piece-index 0 =
    ap (λ (p : Piece). p.number) is ∙ sym (number_at c.args.known.now c.known.piece-index p c.known-test.true) in
    record {
      long = ap length c.mul_add_into-in-known.ensures ∙ (length-add_scaled _ _ _ long ∙ c.known.invariant.long);
      sum = λ at. ap (λ (bytes : List ℕ). get_or bytes at 0) c.mul_add_into-in-known.ensures
          ∙ known_more c.known.piece-index c.args.m (λ a. get_or c.args.weights.now a 0) c.args.rows.now c.args.known.now _ _ _
          (pieces_sum (length c.args.rows.now) (λ a. get_or c.args.weights.now a 0) c.args.rows.now) long
          (c.known_weight-weight.ensures ∙ ap (known_weight (length c.args.rows.now) c.args.m (λ a. get_or c.args.weights.now a 0) c.args.rows.now) number)
          (bytes ∙ sym content) c.known.invariant.sum at;
    }

pub returns : goal.returns
returns c =
    let all : c.known.piece-index ≡ length c.args.known.now = omega (arith, c.known-test.false, c.known.auto.piece-index-end) in
    λ at. c.known.invariant.sum at
    ∙ ap (λ n. bit_xor (pieces_sum (length c.args.rows.now) (λ a. get_or c.args.weights.now a 0) c.args.rows.now at)
    (known_sum n c.args.m (λ a. get_or c.args.weights.now a 0) c.args.rows.now c.args.known.now at)) all
