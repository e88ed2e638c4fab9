use Rattle.std.proofs.Common.{length, sym, ap, ◌∙◌}
use Rattle.std.proofs.lemmas.List.Elements.{Contains-get_or}
use Rattle.part_tests.proofs.Cases.{block_long, blocks_of_zeros, blocks_written}
use Rattle.part_tests.proofs.codes.data.Goals as goal

pub numbers-init : goal.numbers-init
numbers-init c = rw c.in_ok-list.ensures (blocks_of_zeros c.args.numbers.now)

pub copy_from_slice-requires : goal.copy_from_slice-requires
copy_from_slice-requires c =
    ap length c.piece_mut.ensures.value
    ∙ (block_long c.args.numbers.now c.numbers.list _ c.numbers.invariant
    (Contains-get_or c.args.numbers.now c.numbers.d-index 0 c.numbers-test.true) ∙ sym c.content.ensures)

pub numbers-preserved : goal.numbers-preserved
numbers-preserved c =
    blocks_written c.args.numbers.now c.numbers.list _ c.copy_from_slice.new.self c.numbers.invariant
    (Contains-get_or c.args.numbers.now c.numbers.d-index 0 c.numbers-test.true)
