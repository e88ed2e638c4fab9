use Rattle.toml.specs.View.{table_view}
use Rattle.group_config.proofs.Coming.{comes}
use Rattle.group_config.proofs.reading.read_settings.Goals as goal

pub returns-in-Ok-clause-comes : goal.returns-in-Ok-clause-comes
returns-in-Ok-clause-comes c = comes c.args.text.now (table_view c.in-Ok.table) c.settings_in.result c.in-Ok.ensures.ok c.settings_in.ensures.told
