use Rattle.std.proofs.Common.{sym, ap, ◌∙◌}
use Rattle.field_byte.proofs.Powers.{log, log_of_power}
use Rattle.field_byte.proofs.laws.powers_differ.Goals as goal

pub returns : goal.returns
returns c =
    sym (log_of_power c.args.i c.requires.i) ∙ (ap log c.requires.same ∙ log_of_power c.args.j c.requires.j)
