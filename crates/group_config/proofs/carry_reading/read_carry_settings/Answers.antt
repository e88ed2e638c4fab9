use Rattle.toml.specs.View.{table_view}
use Rattle.group_config.proofs.Coming.{carry_comes}
use Rattle.group_config.proofs.carry_reading.read_carry_settings.Goals as goal

pub returns-in-Ok : goal.returns-in-Ok
returns-in-Ok c = carry_comes c.args.text.now (table_view c.in-Ok.table) c.carry_of.result c.in-Ok.ensures.ok c.carry_of.ensures
