-- When a process holds a call, and when no longer.
use Rattle.std.specs.Prelude.{ℕ, ◌≡◌, ◌⊎◌, ◌++◌, List, [], ◌∷◌, Contains}
use Rattle.group_types.specs.Dimensions.{Dimensions}
use Rattle.group_types.specs.Lists.{at}
use Rattle.group_types.specs.Names.{IsProcess}
use Rattle.group_types.specs.declared.process.ProcessId.{ProcessId}
use Rattle.memc_table.specs.Asked.{Asked}
use Rattle.memc_table.specs.declared.reply.Reply as replies
use Rattle.group_message.specs.declared.update.Outcome.{Outcome}
use Rattle.group_calls.specs.declared.event.Answer.{Answer}
use Rattle.group_calls.specs.declared.event.Answer.TheVariants.{Reply, Ticket}
use Rattle.group_calls.specs.declared.event.Event.{Event}
use Rattle.group_calls.specs.declared.event.Event.TheVariants.{Ask, Collect}
use Rattle.group_run.specs.Applying.{held_at}
use Rattle.group_run.specs.Causes.{HoldsCall, home_in}
use Rattle.group_run.specs.Headline.{IsRun, MayCome}
use Rattle.group_run.specs.Meaning.{process_of}
use Rattle.group_run.specs.Process.{Held}
use Rattle.group_run.specs.World.{World, after, step}

-- behind the calls of the op's partition that the process held stands this one, of update n: the caller's next
pub record HoldsTicket (w after : World) (caller : ℕ) (op : Asked) (p : ProcessId) (n : ℕ) : Type 0 where
  pub outcome : Outcome
  pub held : held_at (process_of after p) (home_in w op)
      ≡ held_at (process_of w p) (home_in w op) ++ record { caller = caller; call = at 0 w.asked caller; number = n; outcome = outcome } ∷ []

-- a ticket's call is held
abbrev pub TicketsAreHeld : World → Type 0
TicketsAreHeld w = (caller : ℕ) (op : Asked) (p : ProcessId) (n : ℕ) → MayCome w (Ask caller op p) → (step w (Ask caller op p)).turn.answer ≡ Ticket n
    → HoldsTicket w (step w (Ask caller op p)).world caller op p n

-- a call that a collect replied to is held of no partition
abbrev pub RepliedAreForgotten : World → Type 0
RepliedAreForgotten w = (caller call : ℕ) (p : ProcessId) (reply : replies.Reply) → MayCome w (Collect caller call p)
    → (step w (Collect caller call p)).turn.answer ≡ Reply reply
    → (d : ℕ) (h : Held) → ¬ (HoldsCall (step w (Collect caller call p)).world p caller call d h)

-- the event is a collect of the held call, at the process that holds it, and is replied to
abbrev pub IsCollected : Event → ProcessId → Held → Answer → Type 0
IsCollected (Collect caller call q) p h (Reply reply) = (q ≡ p) × (h.caller ≡ caller) × (h.call ≡ call)
IsCollected _ p h answer = ⊥

-- nothing else takes a call from those that are held
abbrev pub HeldLast : World → Type 0
HeldLast w = (e : Event) (p : ProcessId) (d : ℕ) (h : Held) → MayCome w e → IsProcess w.shape p → Contains (held_at (process_of w p) d) h
    → Contains (held_at (process_of (step w e).world p) d) h ⊎ IsCollected e p h (step w e).turn.answer

-- along every run
abbrev pub TicketsHeldAlways : Type 0
TicketsHeldAlways = (s : Dimensions) (es : List Event) → IsRun s es → TicketsAreHeld (after s es)

abbrev pub HeldLastAlways : Type 0
HeldLastAlways = (s : Dimensions) (es : List Event) → IsRun s es → HeldLast (after s es)

abbrev pub CollectedAlways : Type 0
CollectedAlways = (s : Dimensions) (es : List Event) → IsRun s es → RepliedAreForgotten (after s es)
