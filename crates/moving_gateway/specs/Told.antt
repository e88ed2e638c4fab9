-- How the end of a call is told where the numbers of each partition go on from a base.
use Rattle.std.specs.Prelude.{ℕ, ◌+◌, ◌^◌, nat_lt, if◌then◌else◌}
use Rattle.memc_table.specs.declared.reply.Item.{Item}
use Rattle.memc_table.specs.declared.reply.Reply.TheVariants as reply
use Rattle.memc_proto.specs.declared.end.CallEnd.{CallEnd}
use Rattle.memc_proto.specs.declared.end.CallEnd.TheVariants as ends
use Rattle.group_types.specs.Lists.{at}
use Rattle.group_eras.specs.Told.{Bases}

-- an item with the base added to its cas number; a number of more than 64 bits can't be told
abbrev pub item_told : ℕ → Item → CallEnd
item_told base item = if nat_lt (base + item.cas) (2 ^ 64) then ends.Reply (reply.Value (record item { cas = base + item.cas })) else ends.Worn

-- the end of a call on a key of partition d
abbrev pub end_told : Bases → ℕ → CallEnd → CallEnd
end_told bases d (ends.Reply (reply.Value item)) = item_told (at 0 bases d) item
end_told bases d end = end
