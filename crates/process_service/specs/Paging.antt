-- Which pages of a space the calls of a process make.
use Rattle.std.specs.Prelude.{ℕ, ⊤, IfSome}
use Rattle.group_types.specs.Dimensions.{Dimensions, space_of}
use Rattle.group_types.specs.Hash.{home_of}
use Rattle.memc_table.specs.Act.{key_of}
use Rattle.memc_table.specs.Asked.{Asked}
use Rattle.group_message.specs.declared.message.Message.{Message}
use Rattle.group_message.specs.declared.message.Message.TheVariants.{Adopt, Update}
use Rattle.group_run.specs.Applying.{head_at, replica_of}
use Rattle.group_run.specs.Asking.{found_at}
use Rattle.group_run.specs.Deciding.{decide}
use Rattle.group_run.specs.Process.{Head, Process}
use Rattle.head_service.specs.Paging.{AllMiss, DecisionMisses, MakesNoneOf, Misses}
use Rattle.process_service.specs.Standing.{Standing}

-- the update that a head of partition d decides to issue, if it does, writes no byte of block b
abbrev pub HeadMisses : Dimensions → Asked → ℕ → Process → ℕ → Head → Type 0
HeadMisses s op d p b h = DecisionMisses s.block (decide (space_of s) h.inherited (replica_of p d) op (found_at s d p p.name)) b

-- the update that a process issues for a call, if it does, writes no byte of block b
abbrev pub CallMisses : Dimensions → Asked → Process → ℕ → Type 0
CallMisses s op p b = IfSome (head_at p (home_of (key_of op.act) s.k)) (HeadMisses s op (home_of (key_of op.act) s.k) p b)

-- no update that a message brings writes a byte of block b
abbrev pub MessageMisses : ℕ → Message → ℕ → Type 0
MessageMisses block (Update rank d update stable) b = Misses block update.body b
MessageMisses block (Adopt rank d base list) b = AllMiss block list b
MessageMisses block _ b = ⊤

-- a message makes no page of a process but for the updates that it brings
abbrev pub MakesPagesFor : Message → Standing → Standing → Type 0
MakesPagesFor m old new = MakesNoneOf (MessageMisses old.shape.block m) old.made new.made
