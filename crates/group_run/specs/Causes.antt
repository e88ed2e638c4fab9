-- The cause of each answer of a step, what an answer leaves as it was, and when a call is answered.
use Rattle.std.specs.Prelude.{ℕ, suc, ◌≡◌, ◌≢◌, ◌<◌, ◌≤◌, ◌⊎◌, ◌==◌, ◌&&◌, Bool, true, false, ⊤, ◌+◌, List, [], ◌∷◌, length, Option, Some, None, Contains}
use Rattle.group_types.specs.Dimensions.{space_of}
use Rattle.group_types.specs.Hash.{home_of}
use Rattle.group_types.specs.Lists.{at}
use Rattle.group_types.specs.Names.{of_rank}
use Rattle.group_types.specs.declared.process.ProcessId.{ProcessId}
use Rattle.group_types.specs.declared.process.ProcessId.TheVariants.{ParityNode}
use Rattle.group_types.specs.declared.run.Run.{Run}
use Rattle.membership.specs.Members.{knows_dead}
use Rattle.run_alloc.specs.Free.{NoPlace}
use Rattle.memc_table.specs.Act.{key_of}
use Rattle.memc_table.specs.Asked.{Asked}
use Rattle.memc_table.specs.Contents.{Contents, empty_table, reply_of, table_after}
use Rattle.memc_table.specs.declared.holding.Holding.{Holding}
use Rattle.group_message.specs.declared.kept.Kept.{Kept}
use Rattle.group_calls.specs.Log.{table_of}
use Rattle.group_calls.specs.Turns.{accepts, asks_in}
use Rattle.group_calls.specs.declared.event.Answer.{Answer}
use Rattle.group_calls.specs.declared.event.Answer.TheVariants.{AlreadyDead, Done, Down, Gone, Idle, Lost, Moved}
use Rattle.group_calls.specs.declared.event.Answer.TheVariants.{NoSpace, NotYet, Reply, Retry, Stale, Stranger, Ticket}
use Rattle.group_calls.specs.declared.event.Cause.TheVariants.{Block, Pending}
use Rattle.group_calls.specs.declared.event.Event.{Event}
use Rattle.group_calls.specs.declared.event.Event.TheVariants.{Ask, Collect, Deliver, Fail, Flush, Trace}
use Rattle.group_run.specs.Applying.{replica_of, head_at, held_at}
use Rattle.group_run.specs.Asking.{is_call, is_in_log, reply_from}
use Rattle.group_run.specs.Deciding.{is_get, is_touch, run_needed, window}
use Rattle.group_run.specs.Free.{is_free, place_for}
use Rattle.group_run.specs.Headline.{MayCome}
use Rattle.group_run.specs.Leaders.{missing_block, rebuilt_block}
use Rattle.group_run.specs.Meaning.{HasTakenOver, Heads, IsDown, IsUnfinished, is_dead, link, process_of}
use Rattle.group_run.specs.Process.{Head, Held, Process, Gathering}
use Rattle.group_run.specs.Replica.{Replica, last_of, number_on, slot_in}
use Rattle.group_run.specs.World.{World, step}

-- the group isn't down, and the process lives
pub record IsUp (w : World) (p : ProcessId) : Type 0 where
  pub group : ¬ (IsDown w)
  pub process : is_dead w p ≡ false

-- the process heads the partition and has taken over
pub record IsReady (w : World) (p : ProcessId) (d : ℕ) : Type 0 where
  pub rank : ℕ
  pub name : p ≡ of_rank d rank
  pub heads : Heads w d rank
  pub taken_over : HasTakenOver w d rank

-- the partition of an op
abbrev pub home_in : World → Asked → ℕ
home_in w op = home_of (key_of op.act) w.shape.k

-- the replica of an op's partition at a process
abbrev pub replica_for : World → ProcessId → Asked → Replica
replica_for w p op = replica_of (process_of w p) (home_in w op)

-- the table that the log leaves
abbrev pub table_now : World → Contents
table_now w = table_of (empty_table w.shape.k) w.log

-- the value that the table would have for the op's key
abbrev pub Leaves : World → Asked → Holding → Type 0
Leaves w op h = (accepts (reply_of (table_now w) op) ≡ true) × ((table_after (table_now w) op).items (key_of op.act) ≡ Some h)

-- the process heads partition d, and its update n is one that it inherited
abbrev pub IsInherited : World → ProcessId → ℕ → ℕ → Type 0
IsInherited w p d n = (h : Head) × (head_at (process_of w p) d ≡ Some h) × (n ≤ h.inherited)

-- an unfinished update on the key stands in the way: any, or for a get an inherited one
pub record WaitsForKey (w : World) (p : ProcessId) (op : Asked) (d n : ℕ) : Type 0 where
  pub home : d ≡ home_in w op
  pub on_key : number_on (replica_for w p op).log (key_of op.act) ≡ Some n
  pub inherited : is_get op.act ≡ true → IsInherited w p d n

-- an accepted op finds 256 updates unfinished
pub record FindsWindowFull (w : World) (p : ProcessId) (op : Asked) (d n : ℕ) : Type 0 where
  pub home : d ≡ home_in w op
  pub accepted : accepts (reply_of (table_now w) op) ≡ true
  pub full : length (replica_for w p op).log ≡ window
  pub oldest : n ≡ suc (replica_for w p op).applied

-- the run of the item whose bytes the op needs
abbrev pub NeedsItem : World → ProcessId → Asked → Run → Type 0
NeedsItem w p op run = run_needed op (slot_in (replica_for w p op).items (key_of op.act)) ≡ Some run

-- the run that the op's new value gets; a touch writes none
pub record NeedsPlace (w : World) (p : ProcessId) (op : Asked) (run : Run) : Type 0 where
  pub written : is_touch op.act ≡ false
  pub value : Holding
  pub leaves : Leaves w op value
  pub place : place_for (space_of w.shape) (replica_for w p op) (length value.item.value) ≡ Some run

-- one of the two
abbrev pub NeedsRun : World → ProcessId → Asked → Run → Type 0
NeedsRun w p op run = NeedsItem w p op run ⊎ NeedsPlace w p op run

-- block b is the lowest of a run of the op's partition that isn't rebuilt here, at a parity head
pub record MissesBlock (w : World) (p : ProcessId) (op : Asked) (run : Run) (b : ℕ) : Type 0 where
  pub parity : (i : ℕ) × (p ≡ ParityNode i)
  pub missing : missing_block w.shape (home_in w op) run (process_of w p).as_leader ≡ Some b

-- and the op needs that run
pub record NeedsBlock (w : World) (p : ProcessId) (op : Asked) (b : ℕ) : Type 0 where
  pub run : Run
  pub needed : NeedsRun w p op run
  pub misses : MissesBlock w p op run b

-- partition d has an inherited update that is unfinished at this process
abbrev pub HasInherited : Process → ℕ → Type 0
HasInherited p d = (h : Head) × (head_at p d ≡ Some h) × ((replica_of p d).applied < h.inherited)

-- a needed block isn't rebuilt, and n is the oldest inherited update of the lowest partition that has one
pub record WaitsForInherited (w : World) (p : ProcessId) (op : Asked) (d n : ℕ) : Type 0 where
  pub block : ℕ
  pub needed : NeedsBlock w p op block
  pub partition : d < w.shape.k
  pub has : HasInherited (process_of w p) d
  pub lowest : (e : ℕ) → e < d → ¬ (HasInherited (process_of w p) e)
  pub oldest : n ≡ suc (replica_of (process_of w p) d).applied

-- a block is awaited at a leader: just one session is open for it, and it isn't rebuilt for a partition that the
-- session is for
pub record IsAwaited (p : Process) (block : ℕ) : Type 0 where
  pub session : Gathering
  pub opened : Contains p.as_leader.sessions session
  pub d : ℕ
  pub lost : Contains session.lost d
  pub missing : rebuilt_block p.as_leader d block ≡ None
  pub of_block : session.block ≡ block
  pub alone : (g : Gathering) → Contains p.as_leader.sessions g → g.block ≡ block → g ≡ session

-- after the ask the block is awaited or, where there is one partition, rebuilt
abbrev pub ComesToBe : World → ProcessId → ℕ → Type 0
ComesToBe after p b = IsAwaited (process_of after p) b ⊎ ((after.shape.k ≡ 1) × (rebuilt_block (process_of after p).as_leader 0 b ≢ None))

-- no free run has the length of the new value; a touch writes none
pub record FindsNoRun (w : World) (p : ProcessId) (op : Asked) : Type 0 where
  pub written : is_touch op.act ≡ false
  pub value : Holding
  pub leaves : Leaves w op value
  pub some : 0 < length value.item.value
  pub none : NoPlace (space_of w.shape) (is_free (space_of w.shape) (replica_for w p op)) (length value.item.value)

-- the op was issued as the next update, and is unfinished after the step
pub record IsIssuedNext (w after : World) (p : ProcessId) (op : Asked) (n : ℕ) : Type 0 where
  pub accepted : accepts (reply_of (table_now w) op) ≡ true
  pub next : n ≡ suc (last_of (replica_for w p op))
  pub head : Head
  pub unfinished : IsUnfinished after p (home_in w op) n head

-- why an ask is answered so, at a head that is ready
abbrev pub HeadCause : World → World → ProcessId → Asked → Answer → Type 0
HeadCause w after p op (Reply reply) = reply ≡ reply_of (table_now w) op
HeadCause w after p op (Ticket n) = IsIssuedNext w after p op n
HeadCause w after p op NoSpace = FindsNoRun w p op
HeadCause w after p op (Retry (Pending d n)) = WaitsForKey w p op d.0 n ⊎ FindsWindowFull w p op d.0 n ⊎ WaitsForInherited w p op d.0 n
HeadCause w after p op (Retry (Block b)) = NeedsBlock w p op b × ComesToBe after p b
HeadCause w after p op _ = ⊥

-- why an ask is answered so
abbrev pub AskCause : World → World → ProcessId → Asked → Answer → Type 0
AskCause w after p op Down = IsDown w
AskCause w after p op Lost = (¬ (IsDown w)) × (is_dead w p ≡ true)
AskCause w after p op Moved = IsUp w p × (¬ (IsReady w p (home_in w op)))
AskCause w after p op answer = IsUp w p × IsReady w p (home_in w op) × HeadCause w after p op answer

-- the process holds this call of an update of partition d
pub record HoldsCall (w : World) (p : ProcessId) (caller call d : ℕ) (h : Held) : Type 0 where
  pub partition : d < w.shape.k
  pub held : Contains (held_at (process_of w p) d) h
  pub named : is_call caller call h ≡ true

-- why a collect is answered so
abbrev pub CollectCause : World → ProcessId → ℕ → ℕ → Answer → Type 0
CollectCause w p caller call Down = IsDown w
CollectCause w p caller call Lost = (¬ (IsDown w)) × (is_dead w p ≡ true)
CollectCause w p caller call NotYet = IsUp w p × ((d : ℕ) × (h : Held) × HoldsCall w p caller call d h × ((replica_of (process_of w p) d).applied < h.number))
CollectCause w p caller call (Reply reply) = IsUp w p
    × ((d : ℕ) × (h : Held) × HoldsCall w p caller call d h × (h.number ≤ (replica_of (process_of w p) d).applied)
    × (reply ≡ reply_from h.outcome))
CollectCause w p caller call Stranger = IsUp w p × ((d : ℕ) (h : Held) → ¬ (HoldsCall w p caller call d h))
CollectCause w p caller call _ = ⊥

-- every other parity process that isn't known dead has acknowledged the head under its rank, or it is the
-- first
abbrev pub IsAdopted : World → ProcessId → Head → Type 0
IsAdopted w p h = (h.rank ≡ 0)
    ⊎ ((i : ℕ) → i < w.shape.m → ParityNode i ≢ p → knows_dead (process_of w p).known (ParityNode i) ≡ false
    → at None h.acks i ≢ None)

-- what the head's replica keeps of the caller
abbrev pub kept_at : World → ProcessId → ℕ → ℕ → Option Kept
kept_at w p d caller = at None (replica_of (process_of w p) d).kept caller

-- whether an update of the call waits in the head's log
abbrev pub waits_at : World → ProcessId → ℕ → ℕ → ℕ → Bool
waits_at w p caller call d = is_in_log caller call (replica_of (process_of w p) d).log

-- no update of the call waits, and what is kept of its caller is no later one
pub record IsOpen (w : World) (p : ProcessId) (caller call d : ℕ) : Type 0 where
  pub not_in_log : waits_at w p caller call d ≡ false
  pub earlier : (kept : Kept) → kept_at w p d caller ≡ Some kept → kept.call < call

-- why a trace is answered so, at a head that is ready
abbrev pub FateCause : World → ProcessId → ℕ → ℕ → ℕ → Answer → Type 0
FateCause w p caller call d (Reply reply) = (waits_at w p caller call d ≡ false)
    × ((kept : Kept) × (kept_at w p d caller ≡ Some kept) × (kept.call ≡ call) × (reply ≡ reply_from kept.outcome))
FateCause w p caller call d (Stale c) = (waits_at w p caller call d ≡ false)
    × ((kept : Kept) × (kept_at w p d caller ≡ Some kept) × (kept.call ≡ c) × (call < c))
FateCause w p caller call d Gone = IsOpen w p caller call d × ((h : Head) × (head_at (process_of w p) d ≡ Some h) × IsAdopted w p h)
FateCause w p caller call d NotYet = (waits_at w p caller call d ≡ true)
    ⊎ (IsOpen w p caller call d × ((h : Head) × (head_at (process_of w p) d ≡ Some h) × (¬ (IsAdopted w p h))))
FateCause w p caller call d _ = ⊥

-- why a trace is answered so
abbrev pub TraceCause : World → ProcessId → ℕ → ℕ → ℕ → Answer → Type 0
TraceCause w p caller call d Down = IsDown w
TraceCause w p caller call d Lost = (¬ (IsDown w)) × (is_dead w p ≡ true)
TraceCause w p caller call d Moved = IsUp w p × (¬ (IsReady w p d))
TraceCause w p caller call d answer = IsUp w p × IsReady w p d × FateCause w p caller call d answer

-- why a delivery is answered so
abbrev pub DeliverCause : World → ProcessId → ProcessId → Answer → Type 0
DeliverCause w from to Down = IsDown w
DeliverCause w from to Idle = (¬ (IsDown w)) × ((is_dead w to ≡ true) ⊎ (link w from to ≡ []))
DeliverCause w from to Done = IsUp w to × (link w from to ≢ [])
DeliverCause w from to _ = ⊥

-- why a failure is answered so
abbrev pub FailCause : World → ProcessId → Answer → Type 0
FailCause w p AlreadyDead = is_dead w p ≡ true
FailCause w p Done = is_dead w p ≡ false
FailCause w p _ = ⊥

-- why a flush is answered so
abbrev pub FlushCause : World → ProcessId → Answer → Type 0
FlushCause w p Down = IsDown w
FlushCause w p Lost = (¬ (IsDown w)) × (is_dead w p ≡ true)
FlushCause w p Done = IsUp w p
FlushCause w p _ = ⊥

-- why an event is answered so
abbrev pub CauseOf : World → Event → World → Answer → Type 0
CauseOf w (Ask caller op p) after answer = AskCause w after p op answer
CauseOf w (Collect caller call p) after answer = CollectCause w p caller call answer
CauseOf w (Deliver from to) after answer = DeliverCause w from to answer
CauseOf w (Fail p keep) after answer = FailCause w p answer
CauseOf w (Flush p) after answer = FlushCause w p answer
CauseOf w (Trace caller call d p) after answer = TraceCause w p caller call d.0 answer

-- each answer has its cause
abbrev pub AnswersHaveCauses : World → Type 0
AnswersHaveCauses w = (e : Event) → MayCome w e → CauseOf w e (step w e).world (step w e).turn.answer

-- nothing stands in the way of a call at the head of its partition
pub record CanProceed (w : World) (p : ProcessId) (op : Asked) : Type 0 where
  pub up : IsUp w p
  pub ready : IsReady w p (home_in w op)
  pub key : number_on (replica_for w p op).log (key_of op.act) ≡ None
  pub window : length (replica_for w p op).log < window
  pub blocks : (b : ℕ) → ¬ (NeedsBlock w p op b)
  pub space : ¬ (FindsNoRun w p op)

-- the table's reply, or a ticket
abbrev pub IsServed : World → Asked → Answer → Type 0
IsServed w op (Reply reply) = reply ≡ reply_of (table_now w) op
IsServed w op (Ticket _) = ⊤
IsServed w op _ = ⊥

-- a call that nothing stands in the way of is served
abbrev pub ClearIsServed : World → Type 0
ClearIsServed w = (caller : ℕ) (op : Asked) (p : ProcessId) → MayCome w (Ask caller op p) → CanProceed w p op
    → IsServed w op (step w (Ask caller op p)).turn.answer

-- log, places and tickets are as before
pub record KeepsLedger (w after : World) : Type 0 where
  pub log : after.log ≡ w.log
  pub places : after.places ≡ w.places
  pub tickets : after.tickets ≡ w.tickets

-- what an ask leaves as it was: all nodes and the whole ledger where it is neither replied to, nor gets a
-- ticket, nor has to wait for a block; the ledger alone where it waits for a block; and after a refusal
-- the nodes
abbrev pub AskLeaves : World → World → Answer → Type 0
AskLeaves w after (Ticket n) = ⊤
AskLeaves w after (Reply reply) = accepts reply ≡ false → (after.nodes ≡ w.nodes) × (after.places ≡ w.places) × (after.tickets ≡ w.tickets)
AskLeaves w after (Retry (Block b)) = KeepsLedger w after
AskLeaves w after answer = (after.nodes ≡ w.nodes) × KeepsLedger w after

-- each answer to an ask leaves what it should
abbrev pub AsksLeave : World → Type 0
AsksLeave w = (caller : ℕ) (op : Asked) (p : ProcessId) → MayCome w (Ask caller op p)
    → AskLeaves w (step w (Ask caller op p)).world (step w (Ask caller op p)).turn.answer

-- the event is a delivery
abbrev pub IsDelivery : Event → Type 0
IsDelivery (Deliver _ _) = Unit {0}
IsDelivery _ = ⊥

-- how many asks of a caller are among events
abbrev pub asks_among : ℕ → List Event → ℕ
asks_among caller [] = 0
asks_among caller (e ∷ es) = asks_in caller e + asks_among caller es

-- the event is a failure
abbrev pub IsFailure : Event → Type 0
IsFailure (Fail _ _) = Unit {0}
IsFailure _ = ⊥

-- past m losses every event but a failure is answered that the group is down, and the log stands still
pub record StandsStill (w : World) (e : Event) : Type 0 where
  pub down : ¬ (IsFailure e) → (step w e).turn.answer ≡ Down
  pub log : (step w e).world.log ≡ w.log
  pub stays : IsDown (step w e).world

abbrev pub DownStandsStill : World → Type 0
DownStandsStill w = IsDown w → (e : Event) → MayCome w e → StandsStill w e
