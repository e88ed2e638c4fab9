-- What is found of inherited updates, in the machine's words.
use Rattle.std.specs.Prelude.{Option, Some, None}
use Rattle.group_run.specs.Asking.{Oldest}
use Rattle.process_service.specs.declared.inherited.Inherited.{Inherited}

abbrev pub oldest_as : Option Inherited → Option Oldest
oldest_as None = None
oldest_as (Some found) = Some (record { partition = found.partition.0; number = found.number })
