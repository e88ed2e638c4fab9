use Rattle.std.proofs.Common.{◌++◌}
use Rattle.memc_proto.proofs.Steps.{too_long-more}
use Rattle.memc_proto.proofs.Texts.{partial-too_long}
use Rattle.memc_proto.proofs.laws.long_line_ends_reading.Goals as goal

pub returns : goal.returns
returns c = λ rest more long. partial-too_long (rest ++ more) (too_long-more rest more long)
