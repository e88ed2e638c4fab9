-- What a leader gets that asks for a block.
use Rattle.std.specs.Prelude.{ℕ, List, ◌∷◌}
use Rattle.group_message.specs.declared.message.Message.TheVariants as tells
use Rattle.group_message.specs.declared.message.Session.{Session}
use Rattle.group_run.specs.Applying.{Sent}
use Rattle.group_run.specs.Receiving.{data_marks}
use Rattle.group_run.specs.Rows.{block_in}
use Rattle.data_process.specs.Values.{DataHolding}

-- the leader gets the block at the settled number, and then each row a mark of that number
abbrev pub block_sent : DataHolding → Session → ℕ → List ℕ → ℕ → List Sent
block_sent v session block rows n =
    record { to = session.leader; message = tells.Block session (block_in v.space.shape block v.space.bytes) n } ∷ data_marks session block v.number n rows
