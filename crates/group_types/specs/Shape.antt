use Rattle.std.specs.Prelude.{ℕ, ◌≤◌, IsTrue}
use Rattle.std.specs.Int.{is_power_of_two}
use Rattle.group_types.specs.Dimensions.{Dimensions, space_of}
use Rattle.group_types.specs.declared.shape.Field.{Field}
use Rattle.group_types.specs.declared.shape.Field.TheVariants.{K, M, Block, Blocks}

-- a space holds at most 64 MiB
abbrev pub most_space : ℕ
most_space = 67108864

-- the field is within its limits; those of the number of blocks are judged with the block's length
abbrev pub IsFieldInRange : Dimensions → Field → Type 0
IsFieldInRange d K = (1 ≤ d.k) × (d.k ≤ 16)
IsFieldInRange d M = d.m ≤ 4
IsFieldInRange d Block = (16 ≤ d.block) × (d.block ≤ 65536) × IsTrue (is_power_of_two d.block)
IsFieldInRange d Blocks = (1 ≤ d.blocks) × (space_of d ≤ most_space)

-- every field is within its limits
pub record IsShape (d : Dimensions) : Type 0 where
  pub k : IsFieldInRange d K
  pub m : IsFieldInRange d M
  pub block : IsFieldInRange d Block
  pub blocks : IsFieldInRange d Blocks

-- the field is the first out of range, in the order k, m, block, blocks
abbrev pub IsFirstOutOfRange : Dimensions → Field → Type 0
IsFirstOutOfRange d K = ¬ (IsFieldInRange d K)
IsFirstOutOfRange d M = IsFieldInRange d K × (¬ (IsFieldInRange d M))
IsFirstOutOfRange d Block = IsFieldInRange d K × IsFieldInRange d M × (¬ (IsFieldInRange d Block))
IsFirstOutOfRange d Blocks = IsFieldInRange d K × IsFieldInRange d M × IsFieldInRange d Block × (¬ (IsFieldInRange d Blocks))
