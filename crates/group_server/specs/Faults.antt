-- Why a group was not served to its end, by what failed.
use Rattle.edge_io.specs.declared.fault.SinkFault.{SinkFault}
use Rattle.edge_io.specs.declared.fault.SinkFault.TheVariants as sink
use Rattle.group_config.specs.declared.fault.ConfigFault.{ConfigFault}
use Rattle.group_config.specs.declared.fault.ConfigFault.TheVariants as config
use Rattle.group_config.specs.declared.fault.TextFault.{TextFault}
use Rattle.group_config.specs.declared.fault.TextFault.TheVariants as text
use Rattle.node_worker.specs.declared.fault.ServeFault.{ServeFault}
use Rattle.node_worker.specs.declared.fault.ServeFault.TheVariants as serving
use Rattle.group_server.specs.declared.fault.ServiceFault.{ServiceFault}
use Rattle.group_server.specs.declared.fault.ServiceFault.TheVariants.{TooLong, BadConfig, ReadFault, WriteFault, AcceptFault, Want}

abbrev pub of_text : TextFault → ServiceFault
of_text text.TooLong = TooLong
of_text text.ReadFault = ReadFault
of_text text.Want = Want

abbrev pub of_config : ConfigFault → ServiceFault
of_config (config.BadConfig key) = BadConfig key
of_config config.Want = Want

abbrev pub of_serving : ServeFault → ServiceFault
of_serving serving.AcceptFault = AcceptFault
of_serving serving.Want = Want

abbrev pub of_sink : SinkFault → ServiceFault
of_sink sink.Failed = WriteFault
of_sink sink.Want = Want
