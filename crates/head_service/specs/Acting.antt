-- What a head does of what it decided, part by part: its replica, the calls that it holds, and the bytes
-- beneath, with what is handed out.
use Rattle.std.specs.Prelude.{◌≡◌, ◌≢◌, ◌<◌, ⊤, ℕ, suc, nat_le, List, []}
use Rattle.group_types.specs.Dimensions.{Dimensions, space_of}
use Rattle.group_message.specs.declared.message.Message.TheVariants as tells
use Rattle.group_message.specs.declared.update.Body.{Body}
use Rattle.group_message.specs.declared.update.Outcome.{Outcome}
use Rattle.group_message.specs.declared.update.Update.{Update}
use Rattle.memc_table.specs.Act.{key_of}
use Rattle.memc_table.specs.Asked.{Asked}
use Rattle.group_calls.specs.Turns.{CallName}
use Rattle.group_calls.specs.declared.decision.Decision.{Decision}
use Rattle.group_calls.specs.declared.decision.Decision.TheVariants as decides
use Rattle.group_calls.specs.declared.event.Answer as event
use Rattle.group_calls.specs.declared.event.Answer.TheVariants as says
use Rattle.group_calls.specs.declared.event.Cause.TheVariants as cause
use Rattle.group_run.specs.Applying.{Sent, Settlement, bytes_after}
use Rattle.group_run.specs.Deciding.{decide}
use Rattle.group_run.specs.Heading.{partition, rank, settlements}
use Rattle.group_run.specs.Process.{Head, Held, Process}
use Rattle.group_run.specs.Replica.{Replica, applied_to, freed_by, last_of, slot_in, up_to, with_update}
use Rattle.partition_replica.specs.State.{ReplicaState}
use Rattle.head_service.specs.Answering.{answer_to, held_then}
use Rattle.head_service.specs.Beneath.{found_by}
use Rattle.head_service.specs.Peers.{settles, to_all}
use Rattle.head_service.specs.Storage.{Storage}
use Rattle.head_service.specs.declared.ask.Asking.{Asking}
use Rattle.head_service.specs.declared.ask.Call as named
use Rattle.head_service.specs.declared.ask.Asking.TheVariants.{Done, Need}
use Rattle.head_service.specs.declared.peers.Peers.{Peers}
use Rattle.head_service.specs.declared.step.CallStep as code_step

-- the name of a call
abbrev pub name_of_call : named.Call → CallName
name_of_call call = record { caller = call.caller; call = call.number }

-- the parts after a step of a head, and what is handed out
pub record HeadStep : Type 0 where
  pub replica : Replica
  pub held : List Held
  pub bytes : Process
  pub sent : List Sent
  pub settled : List Settlement
  pub answer : event.Answer

-- the next update
abbrev pub next_update : CallName → Asked → Body → Outcome → Replica → Update
next_update name op body outcome r = record {
  number = suc (last_of r);
  caller = name.caller;
  call = name.call;
  key = key_of op.act;
  body = body;
  frees = freed_by body (slot_in r.items (key_of op.act));
  outcome = outcome;
}

-- an answer that changes nothing
abbrev pub stays : event.Answer → Replica → List Held → Process → HeadStep
stays answer r held b = record { replica = r; held = held; bytes = b; sent = []; settled = []; answer = answer }

-- the next update is issued, and the partition settled up to a number, where these messages are sent
abbrev pub issued_up_to : ℕ → List Sent → Dimensions → ℕ → Update → Replica → List Held → Process → HeadStep
issued_up_to n sent s d u r held b =
    let grown : Replica = with_update u r in
    record {
      replica = applied_to n grown;
      held = held_then (nat_le u.number (applied_to n grown).applied) u held;
      bytes = bytes_after s d (up_to n grown) b;
      sent = sent;
      settled = settlements d (up_to n grown);
      answer = answer_to (nat_le u.number (applied_to n grown).applied) u;
    }

-- the next update is issued: the others are told of it, and what they acknowledged is settled
abbrev pub issues : Dimensions → ℕ → Peers → Head → Update → Replica → List Held → Process → HeadStep
issues s d peers h u r held b =
    issued_up_to (settles peers h u.number) (to_all peers (tells.Update (rank h.rank) (partition d) u r.applied))
    s d u r held b

-- what a head decides of a call
abbrev pub decision_of : ℕ → Head → Asked → ReplicaState → Storage → Decision
decision_of d h op r b = decide (space_of r.shape) h.inherited r.replica op (found_by d b)

-- what is done of a decision that needs no block
abbrev pub acts : Dimensions → ℕ → Peers → Head → CallName → Asked → Replica → List Held → Process → Decision → HeadStep
acts s d peers h name op r held b (decides.Answer reply) = stays (says.Reply reply) r held b
acts s d peers h name op r held b (decides.Retry n) = stays (says.Retry (cause.Pending (partition d) n)) r held b
acts s d peers h name op r held b decides.NoSpace = stays says.NoSpace r held b
acts s d peers h name op r held b (decides.NeedBlock block) = stays (says.Retry (cause.Block block)) r held b
acts s d peers h name op r held b (decides.Issue body outcome) = issues s d peers h (next_update name op body outcome r) r held b

-- the code's step and parts are these
pub record IsHeadStep (made : HeadStep) (step : code_step.CallStep) (r : Replica) (calls : List Held) (b : Process) : Type 0 where
  pub replica : r ≡ made.replica
  pub held : calls ≡ made.held
  pub bytes : b ≡ made.bytes
  pub sent : step.sent.items ≡ made.sent
  pub settled : step.settled.items ≡ made.settled
  pub answer : step.answer ≡ made.answer

-- a block that is needed is one of the space
abbrev pub NeedsOf : Dimensions → Asking → Type 0
NeedsOf s (Done step) = ⊤
NeedsOf s (Need block) = block < s.blocks

-- the decision needs no block, and this was done of it; or it needs this block of the space, and nothing was done
abbrev pub IsMade : Dimensions → Decision → HeadStep → Asking → Replica → List Held → Process → Type 0
IsMade s decision made (Done step) r held b = IsHeadStep made step r held b × ((block : ℕ) → decision ≢ decides.NeedBlock block)
IsMade s decision made (Need block) r held b =
    (decision ≡ decides.NeedBlock block) × (r ≡ made.replica) × (held ≡ made.held) × (b ≡ made.bytes) × (block < s.blocks)
