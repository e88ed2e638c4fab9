-- A member at the start.
use Rattle.std.specs.Prelude.{◌+◌, ◌*◌, [], replicate}
use Rattle.group_types.specs.Dimensions.{Dimensions}
use Rattle.group_types.specs.Names.{index_of}
use Rattle.group_types.specs.declared.process.ProcessId.{ProcessId}
use Rattle.membership.specs.Members.{all_living}
use Rattle.group_run.specs.World.{opening_node}
use Rattle.group_member.specs.Callers.{OwnCallers, callers_each, no_caller}
use Rattle.group_member.specs.Standing.{Member, OwnWords}

-- nobody is cut, and nothing is heard of anybody
abbrev pub opening_words : Dimensions → ProcessId → OwnWords
opening_words s name = record {
  shape = s;
  name = name;
  cut = all_living s;
  heard = replicate (s.k + s.m) (all_living s);
  permitted = all_living s;
  taken = all_living s;
}

-- no caller has asked anything
abbrev pub opening_callers : Dimensions → ProcessId → OwnCallers
opening_callers s name = record { first = index_of s name * callers_each s; states = replicate (callers_each s) no_caller }

abbrev pub opening_member : Dimensions → ProcessId → Member
opening_member s name = record {
  words = opening_words s name;
  signs = record { pinged = 0; answered = replicate (s.k + s.m) 0 };
  callers = opening_callers s name;
  parked = [];
  node = opening_node s name;
}
