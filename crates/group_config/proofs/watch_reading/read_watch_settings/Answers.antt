use Rattle.toml.specs.View.{table_view}
use Rattle.group_config.proofs.Coming.{watch_comes}
use Rattle.group_config.proofs.watch_reading.read_watch_settings.Goals as goal

pub returns-in-Ok-clause-comes : goal.returns-in-Ok-clause-comes
returns-in-Ok-clause-comes c = watch_comes c.args.text.now (table_view c.in-Ok.table) c.watch_of.result c.in-Ok.ensures.ok c.watch_of.ensures.told
