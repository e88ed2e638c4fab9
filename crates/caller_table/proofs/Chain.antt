-- The ends of a chain of calls from a fresh group on are those of one table.
use Rattle.std.proofs.Common.{ℕ, suc, ◌≡◌, ◌<◌, ◌≤◌, List, [], ◌∷◌, ◌++◌, ◌⊎◌, inl, inr, Option, Some, None, refl, sym, ap, subst, ◌∙◌, arith}
use Rattle.group_types.specs.Dimensions.{Dimensions}
use Rattle.group_types.specs.Shape.{IsShape}
use Rattle.group_types.specs.declared.process.ProcessId.{ProcessId}
use Rattle.memc_table.specs.Asked.{Asked}
use Rattle.memc_table.specs.Contents.{Contents, empty_table, reply_of, table_after}
use Rattle.memc_table.specs.declared.reply.Reply.{Reply}
use Rattle.memc_proto.specs.declared.end.CallEnd.{CallEnd}
use Rattle.memc_proto.specs.declared.end.CallEnd.TheVariants as ends
use Rattle.memc_proto.specs.declared.end.FailEnd.{FailEnd}
use Rattle.memc_proto.specs.declared.end.FailEnd.TheVariants as fails
use Rattle.group_calls.specs.Log.{IsLegal, table_of}
use Rattle.group_calls.specs.Turns.{call_entry}
use Rattle.group_calls.specs.declared.entry.Entry.{Entry}
use Rattle.group_calls.specs.declared.event.Event.{Event}
use Rattle.group_calls.specs.declared.event.Event.TheVariants.{Fail}
use Rattle.law_log.proofs.Tables.{table-append}
use Rattle.group_run.specs.World.{World, opening, step, world_after}
use Rattle.front_end.specs.Calls.{Call, Made, Failed, Leads}
use Rattle.world_caller.specs.Callers.{GroupCaller, HasCalledGroup, HasFailedProcess, IsFailureOrdered}
use Rattle.world_caller.specs.Calling.{EventsBring, IsCallMade, IsCallOver, most_events}
use Rattle.world_caller.specs.declared.stage.Next.{Next}
use Rattle.world_caller.specs.declared.stage.Next.TheVariants.{Goes, Ends}
use Rattle.world_caller.specs.declared.stage.Stage.TheVariants.{Asks}
use Rattle.caller_table.specs.Tables.{AreOfTable, IsEndByTable, IsOneTable, OneTableAlways, fresh, group_ways, table_in}
use Rattle.caller_table.proofs.Calling.{Came, Idle, events-came, idle-quiet}
use Rattle.caller_table.proofs.Entering.{NoneWaits}
use Rattle.caller_table.proofs.Leaving.{led-shape, places-same}
use Rattle.caller_table.proofs.Naming.{IsLed, last-legal, led-legal, led-step}

-- a group that calls led to: it counts no further event, or no op waits to be logged
pub record Stays (s : Dimensions) (w : World) : Type 0 where
  pub led : IsLed s w
  pub quiet : (most_events ≤ w.events) ⊎ NoneWaits w.tickets

-- no event of a call can be counted any more
worn-none : (caller : ℕ) (op : Asked) (w : World) (es : List Event) (last : Next) → most_events ≤ w.events
    → EventsBring caller op w (Goes Asks) es last → (es ≡ []) × (last ≡ Goes Asks)
worn-none caller op w [] last worn is = (refl, is)
worn-none caller op w (e ∷ es) last worn (next, event, brings) = let below : w.events < most_events = event.counted in absurd (omega (arith, below, worn))

worn-call : (caller : ℕ) (op : Asked) (w : World) (end : CallEnd) (v : World) → most_events ≤ w.events
    → IsCallMade caller op w end v → (end ≡ ends.Worn) × (v ≡ w)
worn-call caller op w end v worn called =
    let none = worn-none caller op w called.events called.last worn called.brings in
    let over : IsCallOver v (Goes Asks) end = subst (λ (n : Next). IsCallOver v n end) none.1 called.over in
    (over.1, called.after ∙ ap (world_after w) none.0)

-- what a call came to, where no op waited before it
abbrev Came_to : ℕ → Asked → World → CallEnd → World → Type 0
Came_to caller op w end v = Came caller op w.log v (Ends end) ⊎ ((end ≡ ends.Worn) × (most_events ≤ v.events))

came-to : (s : Dimensions) (caller : ℕ) (op : Asked) (w : World) (end : CallEnd) (v : World) → IsLed s w
    → NoneWaits w.tickets → IsCallMade caller op w end v → IsLed s v × Came_to caller op w end v
came-to s caller op w end v led none called = (
  subst (IsLed s) (sym called.after) came.1,
  by called.last (subst (λ (x : World). Came caller op w.log x called.last) (sym called.after) came.0)
      called.over,
) where
  came : Came caller op w.log (world_after w called.events) called.last × IsLed s (world_after w called.events)
  came = events-came s called.events w led caller op w.log (Goes Asks) called.last (refl, none) called.brings

  by : (last : Next) → Came caller op w.log v last → IsCallOver v last end → Came_to caller op w end v
  by (Ends e) came over = inl (subst (λ (x : CallEnd). Came caller op w.log v (Ends x)) (sym over) came)
  by (Goes stage) came over = inr (over.1, over.0)

-- the end of a call beside the table
module _ (s : Dimensions) (caller : ℕ) (op : Asked) (w v : World) (led : IsLed s w) (behind : IsLed s v) where
  table-is : table_in w ≡ table_of (empty_table s.k) w.log
  table-is = ap (λ (t : Dimensions). table_of (empty_table t.k) w.log) (led-shape s w led)

  of-came : (places : v.log ≡ w.log → v.places ≡ w.places) (end : CallEnd) → Came caller op w.log v (Ends end) → IsEndByTable caller w op end v
  of-came places (ends.Reply reply) came = record {
    is = last-legal (empty_table s.k) w.log (call_entry (record { caller = caller; call = came.0 }) op reply)
        (subst (IsLegal s.k) came.1 (led-legal s v behind)) ∙ ap (λ (t : Contents). reply_of t op) (sym table-is);
    call = came.0;
    logged = came.1;
  }
  of-came places ends.NoSpace came = record { log = came.0; places = places came.0 }
  of-came places ends.Down came = record { log = came.0; places = places came.0 }
  of-came places ends.Worn came = tt
  of-came places ends.Moves came = absurd came

-- what calls leave the table
table-same : (w v : World) → v.shape ≡ w.shape → v.log ≡ w.log → table_in v ≡ table_in w
table-same w v shape log = ap (λ (t : Dimensions). table_of (empty_table t.k) v.log) shape ∙ ap (table_of (empty_table w.shape.k)) log

table-next : (w v : World) (e : Entry) → v.shape ≡ w.shape → v.log ≡ w.log ++ e ∷ [] → table_in v ≡ table_after (table_in w) e.op
table-next w v e shape log = ap (λ (t : Dimensions). table_of (empty_table t.k) v.log) shape
    ∙ ap (table_of (empty_table w.shape.k)) log ∙ table-append (empty_table w.shape.k) w.log (e ∷ [])

same-shape : (s : Dimensions) (w v : World) → IsLed s w → IsLed s v → v.shape ≡ w.shape
same-shape s w v led behind = led-shape s v behind ∙ sym (led-shape s w led)

-- the end of a call from a group that calls led to
pub call-of-table : (s : Dimensions) (c after : GroupCaller) (op : Asked) (end : CallEnd) → Stays s c.world
    → HasCalledGroup c op end after → IsEndByTable c.caller c.world op end after.world
call-of-table s c after op end stays called = by stays.quiet where
  worn-of : (e : CallEnd) → e ≡ ends.Worn → IsEndByTable c.caller c.world op e after.world
  worn-of e is = subst (λ (x : CallEnd). IsEndByTable c.caller c.world op x after.world) (sym is) tt

  places : IsLed s after.world → after.world.log ≡ c.world.log → after.world.places ≡ c.world.places
  places behind same =
      let is = called.called.after in
      ap (λ (x : World). x.places) is ∙ places-same s c.world called.called.events stays.led (subst (IsLed s) is behind)
      (ap (λ (x : World). x.log) (sym is) ∙ same)

  by : (most_events ≤ c.world.events) ⊎ NoneWaits c.world.tickets → IsEndByTable c.caller c.world op end after.world
  by (inl worn) = worn-of end (worn-call c.caller op c.world end after.world worn called.called).0
  by (inr none) = either (came-to s c.caller op c.world end after.world stays.led none called.called) where
    either : IsLed s after.world × Came_to c.caller op c.world end after.world → IsEndByTable c.caller c.world op end after.world
    either (behind, inl came) = of-came s c.caller op c.world after.world stays.led behind (places behind) end came
    either (behind, inr worn) = worn-of end worn.0

-- where no further event is counted, every call is worn out
order-later : (c after : GroupCaller) (p : ProcessId) (keep : ℕ) (end : FailEnd) → IsFailureOrdered c p keep end after → c.world.events ≤ after.world.events
order-later c after p keep fails.Off ordered = let same = ap (λ (x : GroupCaller). x.world.events) ordered.1 in omega (arith, same)
order-later c after p keep fails.NoProcess ordered = let same = ap (λ (x : GroupCaller). x.world.events) ordered.2 in omega (arith, same)
order-later c after p keep fails.Worn ordered = let same = ap (λ (x : GroupCaller). x.world.events) ordered.2 in omega (arith, same)
order-later c after p keep fails.Made ordered = let same : after.world.events ≡ suc c.world.events =
    ap (λ (x : World). x.events) ordered.world in omega (arith, same)
order-later c after p keep fails.AlreadyDead ordered = let same : after.world.events ≡ suc c.world.events =
    ap (λ (x : World). x.events) ordered.world in omega (arith, same)

worn-chain : (t : Contents) (c after : GroupCaller) (calls : List Call) → most_events ≤ c.world.events → Leads group_ways c calls after → AreOfTable t calls
worn-chain t c after [] worn leads = tt
worn-chain t c after (Made op end ∷ calls) worn (next, called, leads) =
    let over = worn-call c.caller op c.world end next.world worn called.called in
    let later : c.world.events ≡ next.world.events = ap (λ (x : World). x.events) (sym over.1) in
    subst (λ (e : CallEnd). AreOfTable t (Made op e ∷ calls)) (sym over.0) (worn-chain t next after calls (omega (arith, worn, later)) leads)
worn-chain t c after (Failed p keep end ∷ calls) worn (next, ordered, leads) =
    let later = order-later c next p keep end ordered in worn-chain t next after calls (omega (arith, worn, later)) leads

-- an order that a process fail is an event, or none, and logs nothing
ordered-led : (s : Dimensions) (c after : GroupCaller) (p : ProcessId) (keep : ℕ) (end : FailEnd) → IsLed s c.world
    → IsFailureOrdered c p keep end after → IsLed s after.world
ordered-led s c after p keep end led = by end where
  same : after ≡ c → IsLed s after.world
  same is = subst (λ (x : GroupCaller). IsLed s x.world) (sym is) led

  failed : (e : FailEnd) → HasFailedProcess c p keep e after → IsLed s after.world
  failed e fail = subst (IsLed s) (sym fail.world) (led-step s c.world (Fail p keep) led fail.taken.process)

  by : (e : FailEnd) → IsFailureOrdered c p keep e after → IsLed s after.world
  by fails.Off ordered = same ordered.1
  by fails.NoProcess ordered = same ordered.2
  by fails.Worn ordered = same ordered.2
  by fails.Made ordered = failed fails.Made ordered
  by fails.AlreadyDead ordered = failed fails.AlreadyDead ordered

ordered-idle : (c after : GroupCaller) (p : ProcessId) (keep : ℕ) (end : FailEnd) → NoneWaits c.world.tickets
    → IsFailureOrdered c p keep end after → Idle c.world.log after.world
ordered-idle c after p keep end none = by end where
  same : after ≡ c → Idle c.world.log after.world
  same is = subst (λ (x : GroupCaller). Idle c.world.log x.world) (sym is) (refl, none)

  failed : (e : FailEnd) → HasFailedProcess c p keep e after → Idle c.world.log after.world
  failed e fail = subst (Idle c.world.log) (sym fail.world) (idle-quiet c.world.log c.world (Fail p keep) refl (refl, none))

  by : (e : FailEnd) → IsFailureOrdered c p keep e after → Idle c.world.log after.world
  by fails.Off ordered = same ordered.1
  by fails.NoProcess ordered = same ordered.2
  by fails.Worn ordered = same ordered.2
  by fails.Made ordered = failed fails.Made ordered
  by fails.AlreadyDead ordered = failed fails.AlreadyDead ordered

-- no op waits behind a call that ended
none-behind : (caller : ℕ) (op : Asked) (log : List Entry) (v : World) (end : CallEnd) → Came caller op log v (Ends end) → NoneWaits v.tickets
none-behind caller op log v (ends.Reply reply) came = came.2
none-behind caller op log v ends.NoSpace came = came.1
none-behind caller op log v ends.Down came = came.1
none-behind caller op log v ends.Worn came = absurd came
none-behind caller op log v ends.Moves came = absurd came

-- so the next call begins as this one did
call-stays : (s : Dimensions) (c after : GroupCaller) (op : Asked) (end : CallEnd) → Stays s c.world → HasCalledGroup c op end after → Stays s after.world
call-stays s c after op end stays called = by stays.quiet where
  by : (most_events ≤ c.world.events) ⊎ NoneWaits c.world.tickets → Stays s after.world
  by (inl worn) = subst (Stays s) (sym (worn-call c.caller op c.world end after.world worn called.called).1) stays
  by (inr none) = either (came-to s c.caller op c.world end after.world stays.led none called.called) where
    either : IsLed s after.world × Came_to c.caller op c.world end after.world → Stays s after.world
    either (behind, inl came) = record { led = behind; quiet = inr (none-behind c.caller op c.world.log after.world end came) }
    either (behind, inr worn) = record { led = behind; quiet = inl worn.1 }

order-stays : (s : Dimensions) (c after : GroupCaller) (p : ProcessId) (keep : ℕ) (end : FailEnd) → Stays s c.world
    → IsFailureOrdered c p keep end after → Stays s after.world
order-stays s c after p keep end stays ordered = record { led = ordered-led s c after p keep end stays.led ordered; quiet = by stays.quiet } where
  by : (most_events ≤ c.world.events) ⊎ NoneWaits c.world.tickets → (most_events ≤ after.world.events) ⊎ NoneWaits after.world.tickets
  by (inl worn) = let later = order-later c after p keep end ordered in inl (omega (arith, worn, later))
  by (inr none) = inr (ordered-idle c after p keep end none ordered).1

-- a call that is worn out leaves a group that counts no further event
worn-later : (s : Dimensions) (c after : GroupCaller) (op : Asked) (end : CallEnd) → Stays s c.world
    → HasCalledGroup c op end after → end ≡ ends.Worn → most_events ≤ after.world.events
worn-later s c after op end stays called is = by stays.quiet where
  by : (most_events ≤ c.world.events) ⊎ NoneWaits c.world.tickets → most_events ≤ after.world.events
  by (inl worn) = subst (λ (x : World). most_events ≤ x.events) (sym (worn-call c.caller op c.world end after.world worn called.called).1) worn
  by (inr none) = either (came-to s c.caller op c.world end after.world stays.led none called.called) where
    either : IsLed s after.world × Came_to c.caller op c.world end after.world → most_events ≤ after.world.events
    either (behind, inl came) = absurd (subst (λ (x : CallEnd). Came c.caller op c.world.log after.world (Ends x)) is came)
    either (behind, inr worn) = worn.1

-- the calls behind one, by its end
made-of-table : (c next after : GroupCaller) (op : Asked) (calls : List Call) → next.world.shape ≡ c.world.shape
    → Leads group_ways next calls after → AreOfTable (table_in next.world) calls
    → (end : CallEnd) → IsEndByTable c.caller c.world op end next.world
    → (end ≡ ends.Worn → most_events ≤ next.world.events) → AreOfTable (table_in c.world) (Made op end ∷ calls)
made-of-table c next after op calls shape leads rest (ends.Reply reply) it worn = (
  it.is,
  subst (λ (t : Contents). AreOfTable t calls)
      (table-next c.world next.world (call_entry (record { caller = c.caller; call = it.call }) op reply) shape it.logged)
      rest,
)
made-of-table c next after op calls shape leads rest ends.NoSpace it worn = subst (λ (t : Contents). AreOfTable t calls)
    (table-same c.world next.world shape it.log) rest
made-of-table c next after op calls shape leads rest ends.Down it worn = subst (λ (t : Contents). AreOfTable t calls)
    (table-same c.world next.world shape it.log) rest
made-of-table c next after op calls shape leads rest ends.Worn it worn = worn-chain (table_in c.world) next after calls (worn refl) leads
made-of-table c next after op calls shape leads rest ends.Moves it worn = absurd it

-- calls that lead from such a group
pub chain-of-table : (s : Dimensions) (calls : List Call) (c after : GroupCaller) → Stays s c.world
    → Leads group_ways c calls after → Stays s after.world × AreOfTable (table_in c.world) calls
chain-of-table s [] c after stays is = (subst (λ (x : GroupCaller). Stays s x.world) (sym is) stays, tt)
chain-of-table s (Made op end ∷ calls) c after stays (next, called, leads) =
    let on : Stays s next.world = call-stays s c next op end stays called in
    let rest = chain-of-table s calls next after on leads in (
      rest.0,
      made-of-table c next after op calls (same-shape s c.world next.world stays.led on.led) leads rest.1 end
          (call-of-table s c next op end stays called) (worn-later s c next op end stays called),
    )
chain-of-table s (Failed p keep end ∷ calls) c after stays (next, ordered, leads) =
    let on : Stays s next.world = order-stays s c next p keep end stays ordered in
    let rest = chain-of-table s calls next after on leads in (rest.0, by stays.quiet rest.1)
  where
    by : (most_events ≤ c.world.events) ⊎ NoneWaits c.world.tickets → AreOfTable (table_in next.world) calls → AreOfTable (table_in c.world) calls
    by (inl worn) rest = let later = order-later c next p keep end ordered in worn-chain (table_in c.world) next after calls (omega (arith, worn, later)) leads
    by (inr none) rest = subst (λ (t : Contents). AreOfTable t calls)
        (table-same c.world next.world
        (same-shape s c.world next.world stays.led (ordered-led s c next p keep end stays.led ordered))
        (ordered-idle c next p keep end none ordered).0) rest

pub one_table_always : OneTableAlways
one_table_always s shape = record {
  calls = λ made c leads. (chain-of-table s made (fresh s) c opened leads).1;
  next = λ made c leads op end after called. call-of-table s c after op end (chain-of-table s made (fresh s) c opened leads).0 called;
}
  where
    opened : Stays s (opening s)
    opened = record { led = record { events = []; run = (shape, tt); is = refl }; quiet = inr (λ name op is. cc is) }
