-- What a head decides of a call is what the table makes of it.
use Rattle.std.specs.Prelude.{ℕ, suc, ◌≡◌, ◌<◌, ◌≤◌, ◌+◌, Bool, true, false, List, length, Option, Some, None}
use Rattle.field_byte.specs.Vectors.{add_bytes}
use Rattle.group_types.specs.declared.run.Run.{Run}
use Rattle.group_types.specs.Each.{Each}
use Rattle.memc_table.specs.Act.{key_of}
use Rattle.memc_table.specs.Asked.{Asked}
use Rattle.memc_table.specs.declared.holding.Holding.{Holding}
use Rattle.memc_table.specs.declared.reply.Reply.{Reply}
use Rattle.memc_table.specs.declared.ruling.Ruling.TheVariants.{Accepted, Refused}
use Rattle.group_message.specs.declared.update.Body.{Body}
use Rattle.group_message.specs.declared.update.Body.TheVariants.{Put, Remove, Touch}
use Rattle.group_message.specs.declared.update.Outcome.{Outcome}
use Rattle.group_calls.specs.declared.decision.Decision.{Decision}
use Rattle.group_calls.specs.declared.decision.Decision.TheVariants.{Answer, Retry, NoSpace, NeedBlock, Issue}
use Rattle.erasure_code.specs.Spaces.{bytes_at}
use Rattle.run_alloc.specs.Free.{AllFree}
use Rattle.group_run.specs.Deciding.{Bytes, Found, decide, is_touch, outcome_of, waits_for, window}
use Rattle.group_run.specs.Fitting.{IsRunOf}
use Rattle.group_run.specs.Free.{is_free}
use Rattle.group_run.specs.Replica.{Replica, last_of, number_on}
use Rattle.law_updates.specs.Right.{ruling_in}
use Rattle.law_updates.specs.Store.{Store}

-- what a head finds in a run of its partition is what the space has there
abbrev pub ReadsFrom : List ℕ → (Run → Found) → Type 0
ReadsFrom space read = (run : Run) (bytes : List ℕ) → run.at + run.len ≤ length space → read run ≡ Bytes bytes → bytes ≡ bytes_at run.at run.len space

-- a reply that is given at once: the table refuses the op, and no update in the log stands in the way
pub record IsRefusal (inherited : ℕ) (r : Replica) (store : Store) (op : Asked) (reply : Reply) : Type 0 where
  pub ruled : (n : ℕ) → ruling_in store n op ≡ Refused reply
  pub waits : waits_for inherited op.act (number_on r.log (key_of op.act)) ≡ None

-- a value's run is as long as it, and free; the difference is to what stands there
pub record IsPlacedPut (space : ℕ) (r : Replica) (store : Store) (h : Holding) (body : Body) : Type 0 where
  pub run : Run
  pub fits : IsRunOf space (length h.item.value) run
  pub free : AllFree (is_free space r) run.at run.len
  pub is : body ≡ Put h.item.flags h.until run (add_bytes h.item.value (bytes_at run.at run.len store.space))

-- the body of an update that a head issues, by what the op leaves
abbrev pub IsPlacedBody : ℕ → Replica → Store → Bool → Option Holding → Body → Type 0
IsPlacedBody space r store touch None body = body ≡ Remove
IsPlacedBody space r store true (Some h) body = body ≡ Touch h.until
IsPlacedBody space r store false (Some h) body = IsPlacedPut space r store h body

-- an update that is to be issued: the table accepts the op, and no other update on its key is in the log
pub record IsIssue (space : ℕ) (r : Replica) (store : Store) (op : Asked) (body : Body) (outcome : Outcome) : Type 0 where
  pub reply : Reply
  pub leaves : Option Holding
  pub ruled : ruling_in store (suc (last_of r)) op ≡ Accepted reply leaves
  pub told : outcome ≡ outcome_of reply
  pub writes : IsPlacedBody space r store (is_touch op.act) leaves body
  pub alone : number_on r.log (key_of op.act) ≡ None
  pub few : length r.log < window

-- a decision is a refusal by the table, an update that the table makes, or puts the call off
abbrev pub IsSound : ℕ → ℕ → Replica → Store → Asked → Decision → Type 0
IsSound space inherited r store op (Answer reply) = IsRefusal inherited r store op reply
IsSound space inherited r store op (Issue body outcome) = IsIssue space r store op body outcome
IsSound space inherited r store op (Retry n) = Unit {0}
IsSound space inherited r store op NoSpace = Unit {0}
IsSound space inherited r store op (NeedBlock b) = Unit {0}

-- so it is of every head whose items are the store's, and which finds in runs what the store's space has
abbrev pub DecisionsAreSound : Type 0
DecisionsAreSound = (space inherited : ℕ) (r : Replica) (store : Store) (op : Asked) (read : Run → Found)
    → length store.space ≡ space → Each (λ x. x.1.at + x.1.len ≤ space) store.items → r.items ≡ store.items → ReadsFrom store.space read
    → IsSound space inherited r store op (decide space inherited r op read)
