use Rattle.page_map.proofs.Spaces.{bytes_of_none}
use Rattle.value_space.proofs.space.ValueSpace.new.Goals as goal

pub returns-clause-bytes : goal.returns-clause-bytes
returns-clause-bytes c =
    rw (c.in_ok-new.ensures, c.blocks-2.ensures.value, c.block.ensures.value) (bytes_of_none c.args.shape.blocks c.args.shape.block)
