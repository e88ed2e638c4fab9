-- Where a call goes on behind a move, and which links it helps before its next own one.
use Rattle.std.specs.Prelude.{◌≡◌, ◌≢◌, ◌+◌, ◌%◌, ◌<◌, ◌≤◌, true, false, if◌then◌else◌, min}
use Rattle.stage_caller.specs.declared.phase.Phase.{Phase}
use Rattle.stage_caller.specs.declared.phase.Phase.TheVariants.{Asks, Waits}
use Rattle.stage_caller.specs.declared.progress.Progress.{Progress}
use Rattle.stage_caller.specs.declared.progress.Round.{Round}
use Rattle.stage_caller.specs.declared.progress.Round.TheVariants.{Onward, Over, Near, All}
use Rattle.stage_caller.specs.declared.route.Route.{Route}
use Rattle.stage_caller.specs.declared.step.Heard.{Heard}
use Rattle.stage_caller.specs.declared.step.Heard.TheVariants.{Moves, Busy, Block, Elsewhere}
use Rattle.stage_caller.specs.declared.step.Move.{Move}
use Rattle.stage_caller.specs.declared.step.Move.TheVariants.{Ask, Collect, Deliver, Look, Trace}

-- at the next rank, round the partition
abbrev pub IsNextRank : Route → Route → Type 0
IsNextRank before after = (after.rank ≡ (before.rank + 1 % (before.shape.m + 1)) % (before.shape.m + 1)) × (after.begun ≡ before.begun)

-- the process to which a call goes on behind a move, and whether it traces there: where an ask or a trace was sent elsewhere at the
-- next rank, where a collect was so with a trace at the data process, and else at the same, with no trace behind one that found it gone
abbrev pub GoesTo : Move → Phase → Heard → Progress → Progress → Type 0
GoesTo (Ask _) Asks Elsewhere p q = IsNextRank p.route q.route × (q.traces ≡ p.traces)
GoesTo (Trace _ _) (Waits _) Elsewhere p q = IsNextRank p.route q.route × (q.traces ≡ p.traces)
GoesTo (Trace _ _) Asks _ p q = (q.route ≡ p.route) × (q.traces ≡ false)
GoesTo (Collect _ _) _ Elsewhere p q = (q.route.rank ≡ 0) × (q.route.begun ≡ 0) × (q.traces ≡ true)
GoesTo _ _ _ p q = (q.route ≡ p.route) × (q.traces ≡ p.traces)

-- the place behind that of a round
abbrev pub next_place : Round → Round
next_place Onward = Onward
next_place Over = Over
next_place (Near place) = Near (min (place + 1) 4294967295)
next_place (All place) = All (min (place + 1) 4294967295)

-- behind a look that found a message the same link is next
pub record StaysAtLink (p q : Progress) : Type 0 where
  pub caller : q.caller ≡ p.caller
  pub same : q.round ≡ p.round
  pub waits : q.waits ≡ true
  pub moved : q.moved ≡ p.moved
  pub idle : q.idle ≡ p.idle

-- behind any other move at a link the next one is
pub record PassesLink (heard : Heard) (p q : Progress) : Type 0 where
  pub caller : q.caller ≡ p.caller
  pub next : q.round ≡ next_place p.round
  pub waits : q.waits ≡ false
  pub moves : heard ≡ Moves → q.moved ≡ true
  pub unmoved : heard ≢ Moves → q.moved ≡ p.moved
  pub idle : q.idle ≡ p.idle

-- a round begins, and the rounds are counted in which nothing moved
pub record BeginsRound (round : Round) (p q : Progress) : Type 0 where
  pub caller : q.caller ≡ p.caller
  pub begun : q.round ≡ round
  pub waits : q.waits ≡ p.waits
  pub unmoved : q.moved ≡ false
  pub idle : q.idle ≡ (if p.moved then 0 else min (p.idle + 1) 4294967295)

-- no round: the call went on to another process
pub record IsNoRound (p q : Progress) : Type 0 where
  pub caller : q.caller ≡ p.caller
  pub onward : q.round ≡ Onward
  pub waits : q.waits ≡ p.waits
  pub moved : q.moved ≡ p.moved
  pub idle : q.idle ≡ p.idle

-- round all links once all of the partition were asked
abbrev pub Turns : Progress → Progress → Type 0
Turns p q = (q.route.rank ≢ q.route.begun → IsNoRound p q) × (q.route.rank ≡ q.route.begun → BeginsRound (All 0) p q)

-- round the links of the call's own update, and round all after four rounds in which nothing moved
abbrev pub Rests : Progress → Progress → Type 0
Rests p q = (p.idle < 4 → BeginsRound (Near 0) p q) × (4 ≤ p.idle → BeginsRound (All 0) p q)

-- which links are helped behind a move
abbrev pub Helps : Move → Phase → Heard → Progress → Progress → Type 0
Helps (Look _ _) _ Moves p q = StaysAtLink p q
Helps (Look _ _) _ heard p q = PassesLink heard p q
Helps (Deliver _ _) _ heard p q = PassesLink heard p q
Helps (Ask _) (Waits _) _ p q = BeginsRound (Near 0) p q
Helps (Ask _) Asks Elsewhere p q = Turns p q
Helps (Ask _) Asks Block p q = BeginsRound (All 0) p q
Helps (Ask _) Asks Busy p q = BeginsRound Over p q
Helps (Ask _) Asks _ p q = Rests p q
Helps (Collect _ _) _ Elsewhere p q = IsNoRound p q
Helps (Collect _ _) _ _ p q = Rests p q
Helps (Trace _ _) Asks _ p q = IsNoRound p q
Helps (Trace _ _) (Waits _) Elsewhere p q = Turns p q
Helps (Trace _ _) (Waits _) _ p q = BeginsRound (All 0) p q
