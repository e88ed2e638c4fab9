use Rattle.std.specs.Prelude.{ℕ, ◌*◌, ◌+◌}

-- a shape as contracts see it: k data processes, m parity processes, and each space cut into blocks
pub record Dimensions : Type 0 where
  pub k : ℕ
  pub m : ℕ
  pub blocks : ℕ
  pub block : ℕ

-- how many callers there may be
abbrev pub callers : ℕ
callers = 256

-- the bytes of one space
abbrev pub space_of : Dimensions → ℕ
space_of d = d.blocks * d.block

-- how many processes there are
abbrev pub processes_of : Dimensions → ℕ
processes_of d = d.k + d.m
