use Rattle.std.proofs.Common.{option_copied}
use Rattle.toml.specs.View.{table_view}
use Rattle.group_config.proofs.Coming.{member_comes}
use Rattle.group_config.proofs.member_reading.read_member_settings.Goals as goal

pub returns-in-Ok-clause-comes : goal.returns-in-Ok-clause-comes
returns-in-Ok-clause-comes c = member_comes (option_copied c.args.word) c.args.text.now (table_view c.in-Ok.table)
    c.settings_in.result c.in-Ok.ensures.ok c.settings_in.ensures.told
