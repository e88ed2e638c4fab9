use Rattle.std.specs.Prelude.{ℕ, List}
use Rattle.memc_table.specs.declared.act.Act.{Act}
use Rattle.memc_table.specs.declared.act.Act.TheVariants as act
use Rattle.memc_proto.specs.declared.store.Store.{Store}
use Rattle.memc_proto.specs.declared.store.Verb.{Verb}
use Rattle.memc_proto.specs.declared.store.Verb.TheVariants.{Set, Add, Replace, Append, Prepend, Cas}

-- the call of a command, with what its line says and a value
abbrev pub act_by : Verb → Store → List ℕ → Act
act_by Set s value = act.Set s.key s.flags s.expiry value
act_by Add s value = act.Add s.key s.flags s.expiry value
act_by Replace s value = act.Replace s.key s.flags s.expiry value
act_by Append s value = act.Append s.key value
act_by Prepend s value = act.Prepend s.key value
act_by Cas s value = act.Cas s.key s.flags s.expiry s.cas value

-- the call that a store makes of its value
abbrev pub act_of : Store → List ℕ → Act
act_of s value = act_by s.verb s value
