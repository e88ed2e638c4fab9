-- How far a connection has come that is served step by step.
use Rattle.std.specs.Prelude.{ℕ, zero, suc, ◌≡◌, ◌≢◌, ◌+◌, ◌<◌, ◌≤◌, ◌⊎◌, List, [], ◌++◌, drop, length, Option, Some, None, Result, Ok, Err}
use Rattle.std.specs.List.{list_any}
use Rattle.edge_io.specs.Moving.{Input, Takes}
use Rattle.memc_proto.specs.Reader.{HasRead, ReaderState}
use Rattle.memc_proto.specs.Reads.{is_quit}
use Rattle.memc_proto.specs.declared.request.Request.{Request}
use Rattle.front_end.specs.Ahead.{acts_ahead}
use Rattle.front_end.specs.Answers.{Stand, stand}
use Rattle.front_end.specs.Calls.{Ways}
use Rattle.front_end.specs.Connection.{HasServed}
use Rattle.front_end.specs.Gateway.{Rules}
use Rattle.front_end.specs.Going.{ConnectionGoesOn}
use Rattle.front_end.specs.Progress.{HasAnsweredNext, Progress}
use Rattle.front_end.specs.Sequences.{in_sequence, sequence_of}
use Rattle.front_end.specs.declared.end.ConnectionFault.{ConnectionFault}
use Rattle.front_end.specs.declared.end.End.{End}
use Rattle.front_end.specs.declared.overlap.Overlap.{Overlap}
use Rattle.ready_client.specs.Calling.{AreCalls, StandOnce, AreOpen}
use Rattle.ready_client.specs.declared.open_call.OpenCall.{OpenCall}
use Rattle.ready_client.specs.declared.step.Step.{Step}
use Rattle.ready_client.specs.declared.step.Step.TheVariants.{Goes, Waits, Ends}

-- so many steps were made at requests that were given, and these wait
abbrev pub Steps : {C : Type 0} → Ways C → Option ℕ → ℕ → Stand C → List Request → Stand C → List Request → Type 0
Steps ways told zero before given now waiting = (now ≡ before) × (waiting ≡ given)
Steps {C} ways told (suc n) before given now waiting =
    (middle : Stand C) × (left : List Request) × Steps ways told n before given middle left × HasAnsweredNext ways told middle now left waiting

-- a piece came to a connection of which all was answered, and some steps were made at the requests that are whole with it
pub record IsUnderWay {C : Type 0} (ways : Ways C) (told : Option ℕ) (input input_now : Input) (before now : Stand C) (progress : Progress) : Type 0 where
  pub input_then : Input
  pub then : Stand C
  pub kept : ReaderState
  pub count : ℕ
  pub goes : ConnectionGoesOn ways told input input_then before then kept count
  pub piece : List ℕ
  pub consumed : Takes input_then input_now piece
  pub short : length piece ≤ 65536
  pub given : List Request
  pub has_read : HasRead progress.kept (goes.read ++ piece) (goes.requests ++ given)
  pub quits : progress.quits ≡ list_any is_quit given
  pub counted : progress.count ≡ count + length piece
  pub made : ℕ
  pub steps : Steps ways told made then given now progress.waiting

-- how far a connection has come: all that was read is answered, or a piece is under way; or how it ended
abbrev pub HasComeTo : {C : Type 0} → Ways C → Option ℕ → Input → Input → Stand C → Stand C → Progress → Option (Result End ConnectionFault) → Type 0
HasComeTo ways told input input_now before now progress None =
    (progress.waiting ≡ [] × ConnectionGoesOn ways told input input_now before now progress.kept progress.count)
    ⊎ (progress.waiting ≢ [] × IsUnderWay ways told input input_now before now progress)
HasComeTo ways told input input_now before now progress (Some result) = HasServed ways told input input_now before now result

-- a stream took less than the most that a turn sends
abbrev pub HasTakenLess : List ℕ → List ℕ → Type 0
HasTakenLess held held_now = length held_now < length held + 65536

-- how a connection ended by what its close said
abbrev pub by_close : Result (Option End) ConnectionFault → Option (Result End ConnectionFault)
by_close (Ok None) = None
by_close (Ok (Some end)) = Some (Ok end)
by_close (Err fault) = Some (Err fault)

-- how it ended by what a step came to
abbrev pub end_by : Result Step ConnectionFault → Option (Result End ConnectionFault)
end_by (Ok Goes) = None
end_by (Ok Waits) = None
end_by (Ok (Ends end)) = Some (Ok end)
end_by (Err fault) = Some (Err fault)

-- what the calls of a connection may come to among those of others: those of one sequence are made one behind the other
abbrev pub ways_of : {G K : Type 0} → Rules G K → Overlap → Ways (List ℕ → G)
ways_of rules overlap = in_sequence (sequence_of overlap) rules.later rules.ways

-- the same of a connection among others at one gateway, which began there with these bytes held and now has these: its calls that
-- are under way are of the acts that its requests ask, in their order, but for the first ones, whose ends aren't wanted any more
pub record ComesAtGateway {G K : Type 0} (rules : Rules G K) (overlap : Overlap) (told : Option ℕ)
    (input input_now : Input) (first : G) (before : List ℕ) (now : G)
    (held : List ℕ) (progress : Progress) (calls : List (OpenCall K)) (unwanted : ℕ) (end : Option (Result End ConnectionFault)) : Type 0 where
  pub ends : List ℕ → G
  pub later : (sequence : List ℕ) → rules.later (ends sequence) now
  pub come : HasComeTo (ways_of rules overlap) told input input_now (stand (λ _. first) before) (stand ends held) progress end
  pub wanted : end ≡ None → AreCalls rules overlap told ends now (acts_ahead progress.waiting) (drop unwanted calls)
  pub opened : AreOpen rules now calls
  pub distinct : StandOnce calls
