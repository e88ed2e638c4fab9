-- What each action makes of the group.
use Rattle.std.specs.Prelude.{ℕ, suc, nat_le, List, [], ◌∷◌}
use Rattle.group_types.specs.declared.process.ProcessId.{ProcessId}
use Rattle.group_wire.specs.Actions.{Action, Ping, Pong, Count, Stop}
use Rattle.group_wire.specs.Sets.{Processes, changed, changed_from, one_or, with_one}
use Rattle.group_wire.specs.State.{Signs, Group}
use Rattle.group_wire.specs.Sending.{sent_on, sent_to_all, words_after, works_after}
use Rattle.group_wire.specs.Serving.{gateways_after}

-- the ping at the front of a wire is answered
abbrev pub answered_first : (ProcessId → Processes) → ProcessId → ProcessId → List ℕ → Signs → Signs
answered_first cut x p [] signs = signs
answered_first cut x p (ping ∷ rest) signs = record signs {
  pings = changed_from signs.pings x p rest;
  pongs = sent_on cut signs.pongs p x ping;
}

-- the pong at the front of a wire is counted: it answers its ping and all before it
abbrev pub counted_first : ProcessId → ProcessId → List ℕ → Signs → Signs
counted_first x p [] signs = signs
counted_first x p (ping ∷ rest) signs = record signs {
  pongs = changed_from signs.pongs x p rest;
  answered = changed signs.answered p (λ j. one_or (nat_le j ping) (with_one (signs.answered p j) x) (signs.answered p j));
}

-- pings and pongs after an action
abbrev pub signs_after : (ProcessId → Processes) → Signs → Action → Signs
signs_after cut signs (Ping to p) = record signs {
  pinged = changed signs.pinged p (suc (signs.pinged p));
  pings = sent_to_all cut signs.pings p (λ q. one_or (to q) (signs.pinged p ∷ []) []);
}
signs_after cut signs (Pong x p) = answered_first cut x p (signs.pings x p) signs
signs_after cut signs (Count x p) = counted_first x p (signs.pongs x p) signs
signs_after cut signs _ = signs

-- who is gone after an action
abbrev pub gone_after : Processes → Action → Processes
gone_after gone (Stop p) = with_one gone p
gone_after gone _ = gone

-- the group after an action
abbrev pub group_after : Group → Action → Group
group_after g a = record {
  shape = g.shape;
  gone = gone_after g.gone a;
  words = words_after g.words a;
  works = works_after g a;
  gateways = gateways_after g a;
  signs = signs_after g.words.cut g.signs a;
}
