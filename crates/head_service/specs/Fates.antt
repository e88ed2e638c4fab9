-- What a head tells of calls, in terms of what it keeps.
use Rattle.std.specs.Prelude.{ℕ, ◌==◌, nat_le, Bool, true, false, not, ◌||◌, List, filter, is_some, Option, Some, None}
use Rattle.std.specs.List.{list_all}
use Rattle.group_types.specs.Lists.{at}
use Rattle.group_calls.specs.declared.event.Answer.{Answer}
use Rattle.group_calls.specs.declared.event.Answer.TheVariants as says
use Rattle.group_run.specs.Asking.{fate_from, fate_unless, is_call, is_in_log, reply_from}
use Rattle.group_run.specs.Heading.{other_parities}
use Rattle.group_run.specs.Process.{Head, Held}
use Rattle.group_run.specs.Replica.{Replica}
use Rattle.head_service.specs.declared.peers.Peers.{Peers}

-- every peer has acknowledged this head, which isn't the first
abbrev pub adopted : Peers → Head → Bool
adopted peers h = h.rank == 0 || list_all (λ i. is_some (at None h.acks i)) (other_parities peers.m peers.name peers.known)

-- what became of a call
abbrev pub fate : Peers → Head → Replica → ℕ → ℕ → Answer
fate peers h r caller call = fate_unless (is_in_log caller call r.log) (fate_from (adopted peers h) call (at None r.kept caller))

-- what a held call is answered, once it is known whether its update is settled
abbrev pub told_when : Bool → Held → Answer
told_when true h = says.Reply (reply_from h.outcome)
told_when false h = says.NotYet

-- what a call is answered, where the partition is applied up to a number
abbrev pub fate_answer : ℕ → Option Held → Answer
fate_answer applied None = says.Stranger
fate_answer applied (Some h) = told_when (nat_le h.number applied) h

-- the calls that are held once it is known whether one is handed out
abbrev pub kept_when : Bool → Held → List Held → List Held
kept_when true h held = filter (λ x. not (is_call h.caller h.call x)) held
kept_when false h held = held

-- the calls that are held once one was looked for
abbrev pub kept_of : ℕ → Option Held → List Held → List Held
kept_of applied None held = held
kept_of applied (Some h) held = kept_when (nat_le h.number applied) h held
