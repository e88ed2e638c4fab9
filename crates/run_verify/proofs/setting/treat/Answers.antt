use Rattle.std.proofs.Common.{◌+◌}
use Rattle.run_verify.proofs.Taking.{begun-low}
use Rattle.run_verify.proofs.setting.treat.Goals as goal

pub returns-in_ok-setting-in-None-clause-low : goal.returns-in_ok-setting-in-None-clause-low
returns-in_ok-setting-in-None-clause-low c = begun-low c.in_ok-read_line-in-None.field-0 c.in_ok-setting-in-None.field-0
    (c.args.number + 1) c.in_ok-setting-in-None.ensures
