use Rattle.command_line.proofs.Said.{simple-too}
use Rattle.command_line.proofs.words.parse.Goals as goal
use Rattle.clap.specs.Words.{app_of}

pub returns-in-Ok-clause-rows : goal.returns-in-Ok-clause-rows
returns-in-Ok-clause-rows c = (c.in-Ok.ensures.matches (simple-too (app_of c.args.command) c.requires)).0
