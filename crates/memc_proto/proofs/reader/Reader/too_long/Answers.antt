use Rattle.std.proofs.Common.{sym, ◌∙◌}
use Rattle.memc_proto.proofs.Steps.{not_too_long}
use Rattle.memc_proto.proofs.reader.Reader.too_long.Goals as goal

pub returns-in_default : goal.returns-in_default
returns-in_default c = λ input requests read none. (
  λ f. absurd (cc),
  λ long. absurd (not_too_long c.args.self.now.mode c.args.self.now.front read.rest
      (λ e. c.in_default.not-TooLong (cc)) (sym read.ended ∙ none) read.stands long),
)
