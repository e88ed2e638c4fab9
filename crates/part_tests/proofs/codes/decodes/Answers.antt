use Rattle.std.proofs.Common.{◌≡◌, ◌++◌, take, length}
use Rattle.std.proofs.lemmas.List.Elements.{All-append}
use Rattle.group_types.specs.declared.piece_list.Piece.{Piece}
use Rattle.part_tests.proofs.Cases.{blocks_of_zeros, found_in_zeros, one_length}
use Rattle.part_tests.proofs.codes.decodes.Goals as goal

pub decode-requires-clause-out : goal.decode-requires-clause-out
decode-requires-clause-out c = rw c.in_ok-out.ensures (λ k d below. found_in_zeros 16 (take c.args.f c.args.order.now) k d below)

pub decode-requires-clause-long : goal.decode-requires-clause-long
decode-requires-clause-long c =
    let long = λ (p : Piece). length p.bytes ≡ 16 in
    one_length (c.in_ok-rows.rows ++ c.in_ok-known.known ++ c.in_ok-out.out)
    (All-append long (c.in_ok-rows.rows ++ c.in_ok-known.known) c.in_ok-out.out
    (All-append long c.in_ok-rows.rows c.in_ok-known.known c.in_ok-rows.ensures.long c.in_ok-known.ensures.long)
    (rw c.in_ok-out.ensures (blocks_of_zeros (take c.args.f c.args.order.now)).long))

pub piece-requires : goal.piece-requires
piece-requires c = rw c.decode.ensures.numbers (rw c.in_ok-out.ensures (found_in_zeros 16 (take c.args.f c.args.order.now) c.lost.d-index 0 c.lost-test.true))
