-- Where an ask and a collect lead, by their answers and the causes of these.
use Rattle.std.proofs.Common.{ℕ, zero, suc, ◌≡◌, ◌≢◌, ◌<◌, ◌≤◌, ◌+◌, ◌%◌, false, List, [], ◌∷◌, length, ◌⊎◌, inl, inr, refl, ap, arith}
use Rattle.std.specs.Prelude.{Contains}
use Rattle.std.proofs.lemmas.Bool.{cases_lt}
use Rattle.group_types.specs.declared.process.ProcessId.{ProcessId}
use Rattle.memc_table.specs.Asked.{Asked}
use Rattle.group_message.specs.declared.update.Update.{Update}
use Rattle.group_calls.specs.declared.event.Answer.{Answer}
use Rattle.group_calls.specs.declared.event.Answer.TheVariants as says
use Rattle.group_calls.specs.declared.event.Cause.TheVariants as cause
use Rattle.memc_proto.specs.declared.end.CallEnd.TheVariants as ends
use Rattle.group_run.specs.Applying.{replica_of}
use Rattle.group_run.specs.Causes.{AskCause, CollectCause, HoldsCall, IsReady, home_in}
use Rattle.group_run.specs.Fitting.{NumberedFrom}
use Rattle.group_run.specs.Meaning.{Heads, IsDown, is_dead, process_of}
use Rattle.group_run.specs.Process.{Held}
use Rattle.group_run.specs.World.{World}
use Rattle.world_caller.specs.Calling.{next_of_ask, next_of_collect}
use Rattle.world_caller.specs.Laws.{EventLeadsOn, IsTicketed}
use Rattle.world_caller.specs.declared.stage.Next.TheVariants.{Ends, Goes}
use Rattle.world_caller.specs.declared.stage.Stage.TheVariants.{Asks, Collects}

-- a partition has one head
pub one-head : (w : World) (d q r : ℕ) → Heads w d q → Heads w d r → q ≡ r
one-head w d q r a b = by (cases_lt q r) (cases_lt r q) where
  by : (q < r) ⊎ (r ≤ q) → (r < q) ⊎ (q ≤ r) → q ≡ r
  by (inl less) _ = cc (b.lowest q less, a.lives)
  by (inr high) (inl more) = cc (a.lowest r more, b.lives)
  by (inr high) (inr low) = omega (arith, high, low)

pub home-below : (n k : ℕ) → 0 < k → n % k < k
home-below n k some = omega (arith, some)

-- an ask by its answer
module _ (w v : World) (caller call : ℕ) (op : Asked) (p : ProcessId) where
  -- of a group that is down
  pub down-leads : (a : Answer) → IsDown w → AskCause w v p op a → EventLeadsOn caller v (next_of_ask call p a)
  down-leads says.Down down why = record { next = Ends ends.Down; is = refl; stands = tt }
  down-leads says.Lost down why = absurd (why.0 down)
  down-leads says.Moved down why = absurd (why.0.group down)
  down-leads (says.Reply reply) down why = absurd (why.0.group down)
  down-leads (says.Ticket n) down why = absurd (why.0.group down)
  down-leads says.NoSpace down why = absurd (why.0.group down)
  down-leads (says.Retry c) down why = absurd (why.0.group down)
  down-leads says.NotYet down why = absurd (why.0.group down)
  down-leads says.Idle down why = absurd (why.0.group down)
  down-leads says.Stranger down why = absurd (why.0.group down)
  down-leads says.Done down why = absurd (why.0.group down)
  down-leads says.AlreadyDead down why = absurd (why.0.group down)
  down-leads says.Gone down why = absurd (why.0.group down)
  down-leads (says.Stale n) down why = absurd (why.0.group down)

  -- of a drained group, at a head that is ready
  pub ready-leads : (a : Answer) → ¬ (IsDown w) → is_dead w p ≡ false → IsReady w p (home_in w op)
      → ((d : _) (n : ℕ) → a ≢ says.Retry (cause.Pending d n)) → ((n : ℕ) → a ≡ says.Ticket n → IsTicketed v caller call p)
      → AskCause w v p op a → EventLeadsOn caller v (next_of_ask call p a)
  ready-leads says.Down up lives ready waits ticket why = absurd (up why)
  ready-leads says.Lost up lives ready waits ticket why = cc (lives, why.1)
  ready-leads says.Moved up lives ready waits ticket why = absurd (why.1 ready)
  ready-leads (says.Reply reply) up lives ready waits ticket why = record { next = Ends (ends.Reply reply); is = refl; stands = tt }
  ready-leads (says.Ticket n) up lives ready waits ticket why = record { next = Goes (Collects call p); is = refl; stands = ticket n refl }
  ready-leads says.NoSpace up lives ready waits ticket why = record { next = Ends ends.NoSpace; is = refl; stands = tt }
  ready-leads (says.Retry (cause.Block b)) up lives ready waits ticket why = record { next = Goes Asks; is = refl; stands = tt }
  ready-leads (says.Retry (cause.Pending d n)) up lives ready waits ticket why = absurd (waits d n refl)
  ready-leads says.NotYet up lives ready waits ticket why = absurd why.2
  ready-leads says.Idle up lives ready waits ticket why = absurd why.2
  ready-leads says.Stranger up lives ready waits ticket why = absurd why.2
  ready-leads says.Done up lives ready waits ticket why = absurd why.2
  ready-leads says.AlreadyDead up lives ready waits ticket why = absurd why.2
  ready-leads says.Gone up lives ready waits ticket why = absurd why.2
  ready-leads (says.Stale n) up lives ready waits ticket why = absurd why.2

-- of a collect
pub collect-leads : (w v : World) (caller call : ℕ) (p : ProcessId) (a : Answer) → IsTicketed w caller call p → is_dead w p ≡ false
    → ((d : ℕ) (x : Held) → HoldsCall w p caller call d x → x.number ≤ (replica_of (process_of w p) d).applied)
    → CollectCause w p caller call a → EventLeadsOn caller v (next_of_collect a)
collect-leads w v caller call p says.Down t lives low why = absurd (t.up why)
collect-leads w v caller call p says.Lost t lives low why = cc (lives, why.1)
collect-leads w v caller call p (says.Reply reply) t lives low why = record { next = Ends (ends.Reply reply); is = refl; stands = tt }
collect-leads w v caller call p says.NotYet t lives low (up, (d, x, holds, late)) = let less = low d x holds in absurd (omega (arith, less, late))
collect-leads w v caller call p says.Stranger t lives low why = absurd (why.1 t.partition t.held t.holds)
collect-leads w v caller call p (says.Ticket n) t lives low why = absurd why
collect-leads w v caller call p says.NoSpace t lives low why = absurd why
collect-leads w v caller call p (says.Retry c) t lives low why = absurd why
collect-leads w v caller call p says.Moved t lives low why = absurd why
collect-leads w v caller call p says.Idle t lives low why = absurd why
collect-leads w v caller call p says.Done t lives low why = absurd why
collect-leads w v caller call p says.AlreadyDead t lives low why = absurd why
collect-leads w v caller call p says.Gone t lives low why = absurd why
collect-leads w v caller call p (says.Stale n) t lives low why = absurd why

-- numbers from a on stay below the end
pub numbered-below : (a : ℕ) (us : List Update) (u : Update) → NumberedFrom a us → Contains us u → u.number < a + length us
numbered-below a [] u all there = absurd (omega (arith, there.1))
numbered-below a (x ∷ us) u all (zero, low, is) =
    let first : x.number ≡ a = all.0 in let same : x.number ≡ u.number = ap (λ (y : Update). y.number) is in omega (arith, first, same)
numbered-below a (x ∷ us) u all (suc i, low, is) = let rest = numbered-below (suc a) us u all.1 (i, (omega (arith, low)), is) in omega (arith, rest)
