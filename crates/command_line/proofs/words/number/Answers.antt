use Rattle.std.proofs.Common.{refl, arith}
use Rattle.std.specs.Str.Parse.{ParsesUnsigned, ExplainsUnsignedError, HasUnsignedDigitsIfOk}
use Rattle.clap.specs.Words.{found_of}
use Rattle.command_line.specs.Parsers.{most_64}
use Rattle.command_line.proofs.Numbers.{number-read}
use Rattle.command_line.proofs.words.number.Goals as goal

pub returns : goal.returns
returns c =
    number-read _ (λ bs r. ParsesUnsigned 64 10 bs r × ExplainsUnsignedError 10 bs r × HasUnsignedDigitsIfOk bs r) 64
    most_64 (λ u x gives. gives.0) refl (omega arith)
    (found_of c.args.matches.now) c.args.id.now c.get_one.result c.get_one.ensures.none c.get_one.ensures.value
