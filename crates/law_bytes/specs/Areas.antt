-- Bytes of spaces, told address by address: what updates leave there, and what each process makes of it.
use Rattle.std.specs.Prelude.{ℕ, ◌≡◌, ◌+◌, ◌-◌, ◌*◌, ◌<◌, min, List, [], ◌∷◌, ◌++◌, length, get_or, replicate, All, bit_xor, ⊤}
use Rattle.field_byte.specs.Field.{product}
use Rattle.field_byte.specs.Vectors.{field_sum}
use Rattle.group_types.specs.Dimensions.{Dimensions, space_of}
use Rattle.group_types.specs.declared.process.ProcessId.{ProcessId}
use Rattle.group_types.specs.declared.process.ProcessId.TheVariants.{DataNode, ParityNode}
use Rattle.group_types.specs.Each.{Each}
use Rattle.group_message.specs.declared.update.Body.{Body}
use Rattle.group_message.specs.declared.update.Body.TheVariants.{Put, Remove, Touch}
use Rattle.group_message.specs.declared.update.Update.{Update}
use Rattle.erasure_code.specs.Code.{coefficient}
use Rattle.group_run.specs.Fitting.{Writes}

-- bytes are what f says of the len addresses from a place on
pub record IsArea (from len : ℕ) (f : ℕ → ℕ) (bytes : List ℕ) : Type 0 where
  pub long : length bytes ≡ len
  pub same : (x : ℕ) → x < len → get_or bytes x 0 ≡ f (from + x)

-- the byte at an address of a difference that begins at a place, and 0 outside of it
abbrev pub shifted : ℕ → List ℕ → ℕ → ℕ
shifted at delta x = get_or (replicate at 0 ++ delta) x 0

-- what an update adds at an address
abbrev pub change : Body → ℕ → ℕ
change (Put _ _ run delta) x = shifted run.at delta x
change Remove x = 0
change (Touch _) x = 0

-- the byte at an address of a space of zeros after updates
abbrev pub value : List Update → ℕ → ℕ
value [] x = 0
value (u ∷ us) x = bit_xor (change u.body x) (value us x)

-- the code of parity process i at an address, of updates of each partition
abbrev pub code : Dimensions → ℕ → (ℕ → List Update) → ℕ → ℕ
code s i us x = field_sum s.k (λ d. product (coefficient s.m i d) (value (us d) x))

-- what a process has at an address, of updates of each partition: a data process the values of its own, a
-- parity process the code
abbrev pub held : Dimensions → ProcessId → (ℕ → List Update) → ℕ → ℕ
held s (DataNode d) us x = value (us d) x
held s (ParityNode i) us x = code s i us x

-- how many bytes of a block lie in the space: all of a block that is one of it
abbrev pub block_size : Dimensions → ℕ → ℕ
block_size s b = min s.block (space_of s - b * s.block)

-- the bytes are what f says of a block
abbrev pub IsBlock : Dimensions → ℕ → (ℕ → ℕ) → List ℕ → Type 0
IsBlock s b f bytes = IsArea (b * s.block) (block_size s b) f bytes

-- the difference of an update consists of bytes
abbrev pub HasByteDelta : Body → Type 0
HasByteDelta (Put _ _ run delta) = All (λ b. b < 256) delta
HasByteDelta Remove = ⊤
HasByteDelta (Touch _) = ⊤

-- an update writes in the space, and bytes
pub record WritesBytes (s : Dimensions) (u : Update) : Type 0 where
  pub writes : Writes (space_of s) u.body
  pub bytes : HasByteDelta u.body

-- every settled update writes in the space, and bytes
abbrev pub SettledWrite : Dimensions → (ℕ → List Update) → Type 0
SettledWrite s settled = (d : ℕ) → d < s.k → Each (WritesBytes s) (settled d)
