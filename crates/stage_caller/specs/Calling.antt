-- What a call makes of its seat, event by event: asks for its op, collects and traces of its own tickets, and deliveries.
-- An ask behind another ticket comes only after that ticket's trace said that it is gone, and nothing after the end.
use Rattle.std.specs.Prelude.{ℕ, ◌≡◌, ◌+◌, ◌++◌, List, [], ◌∷◌}
use Rattle.group_types.specs.Hash.{home_of}
use Rattle.memc_table.specs.Act.{key_of}
use Rattle.memc_table.specs.Asked.{Asked}
use Rattle.memc_proto.specs.declared.end.CallEnd.{CallEnd}
use Rattle.memc_proto.specs.declared.end.CallEnd.TheVariants as ends
use Rattle.group_calls.specs.declared.event.Answer.{Answer}
use Rattle.group_calls.specs.declared.event.Answer.TheVariants as says
use Rattle.group_calls.specs.declared.event.Event.{Event}
use Rattle.group_calls.specs.declared.event.Event.TheVariants.{Ask, Collect, Deliver, Fail, Flush, Trace}
use Rattle.group_stage.specs.Kept.{most_calls}
use Rattle.group_stage.specs.Schedules.{ask_by}
use Rattle.group_stage.specs.Seated.{view_of}
use Rattle.group_stage.specs.declared.seat.Seat.{Seat}
use Rattle.group_stage.specs.declared.view.Numbered.{Numbered}
use Rattle.stage_caller.specs.declared.phase.Next.{Next}
use Rattle.stage_caller.specs.declared.phase.Next.TheVariants.{Goes, Ends}
use Rattle.stage_caller.specs.declared.phase.Phase.{Phase}
use Rattle.stage_caller.specs.declared.phase.Phase.TheVariants.{Asks, Waits}

-- whose call it is, for what, and the partition of its key
pub record Wish : Type 0 where
  pub caller : ℕ
  pub op : Asked
  pub home : ℕ

abbrev pub wish_of : Seat → Asked → Wish
wish_of seat op = record { caller = seat.caller; op = op; home = home_of (key_of op.act) (view_of seat).shape.k }

-- where the seat's ask of this number leads that is answered so
abbrev pub asked_to : ℕ → Answer → Next
asked_to n (says.Reply reply) = Ends (ends.Reply reply)
asked_to n (says.Ticket number) = Goes (Waits n)
asked_to n says.NoSpace = Ends ends.NoSpace
asked_to n says.Down = Ends ends.Down
asked_to n _ = Goes Asks

-- where a collect of that ask leads
abbrev pub collected_to : ℕ → Answer → Next
collected_to n (says.Reply reply) = Ends (ends.Reply reply)
collected_to n says.Down = Ends ends.Down
collected_to n _ = Goes (Waits n)

-- where a trace of it leads
abbrev pub traced_to : ℕ → Answer → Next
traced_to n (says.Reply reply) = Ends (ends.Reply reply)
traced_to n says.Down = Ends ends.Down
traced_to n says.Gone = Goes Asks
traced_to n _ = Goes (Waits n)

-- an event of a call at a phase, whose seat asked n times before, its answer, and where it leads
abbrev pub IsOwnEvent : Wish → ℕ → Phase → Event → Answer → Next → Type 0
IsOwnEvent wish n phase (Ask caller op p) answer next = (phase ≡ Asks) × (caller ≡ wish.caller) × (op ≡ wish.op) × (next ≡ asked_to n answer)
IsOwnEvent wish n phase (Collect caller call p) answer next = (phase ≡ Waits call) × (caller ≡ wish.caller) × (next ≡ collected_to call answer)
IsOwnEvent wish n phase (Trace caller call d p) answer next = (phase ≡ Waits call) × (caller ≡ wish.caller) × (d.0 ≡ wish.home) × (next ≡ traced_to call answer)
IsOwnEvent wish n phase (Deliver from to) answer next = next ≡ Goes phase
IsOwnEvent wish n phase (Fail p keep) answer next = ⊥
IsOwnEvent wish n phase (Flush p) answer next = ⊥

-- events of a call bring it further, whose seat asked n times before them
abbrev pub Brings : Wish → ℕ → Next → List Numbered → Next → Type 0
Brings wish n next [] last = last ≡ next
Brings wish n (Goes phase) (x ∷ xs) last = (next : Next) × IsOwnEvent wish n phase x.event x.answer next
    × Brings wish (n + ask_by wish.caller x.event) next xs last
Brings wish n (Ends end) (x ∷ xs) last = ⊥

-- the call is over: its last own event was answered so, or the seat has made all its calls
abbrev pub IsOver : Seat → Next → CallEnd → Type 0
IsOver after (Ends by) end = end ≡ by
IsOver after (Goes phase) end = ((view_of after).calls ≡ most_calls) × (end ≡ ends.Worn)

-- it is the same seat, with the same number
pub record IsSameSeat (before after : Seat) : Type 0 where
  pub table : after.raw.table_id ≡ before.raw.table_id
  pub shape : (view_of after).shape ≡ (view_of before).shape
  pub caller : after.caller ≡ before.caller

-- the seat made no event
pub record MadeNoEvent (before after : Seat) : Type 0 where
  pub same : IsSameSeat before after
  pub made : (view_of after).made ≡ (view_of before).made

-- what a call for an op made of its seat since it stood at a phase
pub record HasMovedSeat (before : Seat) (op : Asked) (phase : Phase) (after : Seat) (last : Next) : Type 0 where
  pub same : IsSameSeat before after
  pub events : List Numbered
  pub made : (view_of after).made ≡ (view_of before).made ++ events
  pub brings : Brings (wish_of before op) before.asks (Goes phase) events last

-- what a call made of its seat since a phase, and ended so
pub record IsCalled (before : Seat) (op : Asked) (phase : Phase) (end : CallEnd) (after : Seat) : Type 0 where
  pub last : Next
  pub come : HasMovedSeat before op phase after last
  pub over : IsOver after last end

-- what a call for an op made of its seat since a phase before want of memory cut it short
pub record IsSeatCutShort (before : Seat) (op : Asked) (phase : Phase) (after : Seat) : Type 0 where
  pub last : Next
  pub come : HasMovedSeat before op phase after last
