-- What reading a text of settings takes from its source.
use Rattle.std.specs.Prelude.{ℕ, ◌+◌, ◌≤◌, List, length}
use Rattle.edge_io.specs.Moving.{Input, Takes, IsEnded}
use Rattle.edge_io.specs.Reading.{TakesExactly}
use Rattle.edge_io.specs.declared.fault.ReadFault.{ReadFault}
use Rattle.edge_io.specs.declared.fault.ReadFault.TheVariants as read
use Rattle.group_config.specs.declared.fault.TextFault.{TextFault}
use Rattle.group_config.specs.declared.fault.TextFault.TheVariants as text

-- the most bytes of settings
abbrev pub longest_settings : ℕ
longest_settings = 65536

-- the text is what a source gave up to its end
pub record HasReadSettings (before now : Input) (text : List ℕ) : Type 0 where
  pub taken : Takes before now text
  pub ended : IsEnded now
  pub short : length text ≤ longest_settings

-- a source gave one byte more than settings may have
abbrev pub HasReadTooMuch : Input → Input → Type 0
HasReadTooMuch before now = TakesExactly (longest_settings + 1) before now

-- why it wasn't read
abbrev pub fault_of_read : ReadFault → TextFault
fault_of_read read.TooLong = text.TooLong
fault_of_read read.Failed = text.ReadFault
fault_of_read read.Want = text.Want
