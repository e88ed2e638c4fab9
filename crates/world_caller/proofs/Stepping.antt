-- How often one event of a call asks: once, and only an ask that has to wait for a block leads to another.
use Rattle.std.proofs.Common.{ℕ, suc, ◌≡◌, ◌≤◌, ◌+◌, Bool, true, Option, Some, if◌then◌else◌, sym, ap, subst, ◌∙◌, arith}
use Rattle.group_types.specs.Lists.{at}
use Rattle.group_types.specs.Names.{same_process}
use Rattle.group_types.specs.declared.process.ProcessId.{ProcessId}
use Rattle.group_types.specs.declared.process.ProcessId.TheVariants.{DataNode, ParityNode}
use Rattle.group_types.proofs.Lists.{at-put}
use Rattle.memc_table.specs.Asked.{Asked}
use Rattle.memc_proto.specs.declared.end.CallEnd.{CallEnd}
use Rattle.memc_proto.specs.declared.end.CallEnd.TheVariants as ends
use Rattle.group_calls.specs.declared.event.Answer.{Answer}
use Rattle.group_calls.specs.declared.event.Answer.TheVariants as says
use Rattle.group_calls.specs.declared.event.Cause.TheVariants as cause
use Rattle.group_calls.specs.declared.event.Event.{Event}
use Rattle.group_calls.specs.declared.event.Event.TheVariants.{Ask, Collect, Deliver, Fail, Flush, Trace}
use Rattle.group_run.specs.Causes.{AskCause, IsDelivery, home_in}
use Rattle.group_run.specs.Meaning.{IsDown, IsDrained}
use Rattle.group_run.specs.Progress.{AsksDrained, IsNoFailure, waits_here}
use Rattle.group_run.specs.World.{World, step}
use Rattle.world_caller.specs.Calling.{IsOwnStep, Serves, next_of_ask, next_of_collect}
use Rattle.world_caller.specs.declared.stage.Next.{Next}
use Rattle.world_caller.specs.declared.stage.Next.TheVariants.{Ends, Goes}
use Rattle.world_caller.specs.declared.stage.Stage.{Stage}
use Rattle.world_caller.specs.declared.stage.Stage.TheVariants.{Asks, Collects}
use Rattle.world_caller.proofs.Holding.{equal-self}

-- a call that is to be asked asks once more
abbrev pub still : Next → ℕ
still (Goes Asks) = 1
still (Goes (Collects call p)) = 0
still (Ends end) = 0

same-self : (p : ProcessId) → same_process p p ≡ true
same-self (DataNode d) = equal-self d
same-self (ParityNode i) = equal-self i

still-is : (n m : Next) → ◌≡◌ {A = Option Next} (Some n) (Some m) → still m ≡ still n
still-is n m is = let same : n ≡ m = cc is in ap still (sym same)

-- an ask that leads to another one waits for a block
ask-waits : (caller call : ℕ) (op : Asked) (p : ProcessId) (n : Next) (a : Answer) → next_of_ask call p a ≡ Some n → still n ≤ waits_here p (Ask caller op p) a
ask-waits caller call op p n (says.Reply reply) is = let none = still-is _ n is in omega (arith, none)
ask-waits caller call op p n (says.Ticket number) is = let none = still-is _ n is in omega (arith, none)
ask-waits caller call op p n (says.Retry (cause.Block b)) is =
    let one = still-is (Goes Asks) n is in let here : ◌≡◌ {A = ℕ} (if same_process p p then 1 else 0) 1 =
    ap (λ (c : Bool). if c then 1 else 0) (same-self p) in omega (arith, one, here)
ask-waits caller call op p n (says.Retry (cause.Pending d m)) is = cc is
ask-waits caller call op p n says.NoSpace is = let none = still-is _ n is in omega (arith, none)
ask-waits caller call op p n says.Down is = let none = still-is _ n is in omega (arith, none)
ask-waits caller call op p n says.NotYet is = cc is
ask-waits caller call op p n says.Moved is = cc is
ask-waits caller call op p n says.Lost is = cc is
ask-waits caller call op p n says.Idle is = cc is
ask-waits caller call op p n says.Stranger is = cc is
ask-waits caller call op p n says.Done is = cc is
ask-waits caller call op p n says.AlreadyDead is = cc is
ask-waits caller call op p n says.Gone is = cc is
ask-waits caller call op p n (says.Stale m) is = cc is

collect-ends : (n : Next) (a : Answer) → next_of_collect a ≡ Some n → still n ≡ 0
collect-ends n (says.Reply reply) is = still-is _ n is
collect-ends n (says.Ticket number) is = cc is
collect-ends n (says.Retry c) is = cc is
collect-ends n says.NoSpace is = cc is
collect-ends n says.Down is = cc is
collect-ends n says.NotYet is = cc is
collect-ends n says.Moved is = cc is
collect-ends n says.Lost is = cc is
collect-ends n says.Idle is = cc is
collect-ends n says.Stranger is = cc is
collect-ends n says.Done is = cc is
collect-ends n says.AlreadyDead is = cc is
collect-ends n says.Gone is = cc is
collect-ends n (says.Stale m) is = cc is

-- where the group is down an ask ends the call
pub down-ends : (w v : World) (p : ProcessId) (op : Asked) (call : ℕ) (n : Next) (a : Answer) → IsDown w
    → AskCause w v p op a → next_of_ask call p a ≡ Some n → (end : CallEnd) × (n ≡ Ends end)
down-ends w v p op call n says.Down down why is = let same : Ends ends.Down ≡ n = cc is in (ends.Down, sym same)
down-ends w v p op call n says.Lost down why is = absurd (why.0 down)
down-ends w v p op call n says.Moved down why is = absurd (why.0.group down)
down-ends w v p op call n (says.Reply reply) down why is = absurd (why.0.group down)
down-ends w v p op call n (says.Ticket number) down why is = absurd (why.0.group down)
down-ends w v p op call n (says.Retry c) down why is = absurd (why.0.group down)
down-ends w v p op call n says.NoSpace down why is = absurd (why.0.group down)
down-ends w v p op call n says.NotYet down why is = absurd (why.0.group down)
down-ends w v p op call n says.Idle down why is = absurd (why.0.group down)
down-ends w v p op call n says.Stranger down why is = absurd (why.0.group down)
down-ends w v p op call n says.Done down why is = absurd (why.0.group down)
down-ends w v p op call n says.AlreadyDead down why is = absurd (why.0.group down)
down-ends w v p op call n says.Gone down why is = absurd (why.0.group down)
down-ends w v p op call n (says.Stale m) down why is = absurd (why.0.group down)

module _ (caller : ℕ) (op : Asked) (p : ProcessId) where
  -- one event of a call: no failure, asked where the group is drained
  pub record Counts (w : World) (stage : Stage) (e : Event) (n : Next) : Type 0 where
    pub goes : IsNoFailure e
    pub drained : AsksDrained w e
    pub few : at 0 (step w e).world.asked caller + still n ≤ at 0 w.asked caller + waits_here p e (step w e).turn.answer + still (Goes stage)

  pub delivery-counts : (w : World) (stage : Stage) (e : Event) → IsDelivery e → Counts w stage e (Goes stage)
  delivery-counts w stage (Deliver from to) delivery = record { goes = tt; drained = tt; few = omega arith }
  delivery-counts w stage (Ask who what q) delivery = absurd delivery
  delivery-counts w stage (Collect who call q) delivery = absurd delivery
  delivery-counts w stage (Fail q keep) delivery = absurd delivery
  delivery-counts w stage (Flush q) delivery = absurd delivery
  delivery-counts w stage (Trace who call d q) delivery = absurd delivery

  ask-counts : (w : World) (n : Next) → IsDrained w
      → next_of_ask (at 0 w.asked caller) p (step w (Ask caller op p)).turn.answer ≡ Some n
      → Counts w Asks (Ask caller op p) n
  ask-counts w n drained is = record {
    goes = tt;
    drained = drained;
    few = let one : at 0 (step w (Ask caller op p)).world.asked caller ≡ suc (at 0 w.asked caller) = at-put 0 0 w.asked caller (suc (at 0 w.asked caller)) in
        let more = ask-waits caller (at 0 w.asked caller) op p n (step w (Ask caller op p)).turn.answer is in omega (arith, one, more);
  }

  collect-counts : (w : World) (call : ℕ) (q : ProcessId) (n : Next)
      → next_of_collect (step w (Collect caller call q)).turn.answer ≡ Some n
      → Counts w (Collects call q) (Collect caller call q) n
  collect-counts w call q n is =
      record {
        goes = tt;
        drained = tt;
        few = let none = collect-ends n (step w (Collect caller call q)).turn.answer is
            in omega (arith, none);
      }

  -- only this process is asked
  abbrev pub Fixed : World → Type 0
  Fixed w = (q : ProcessId) → Serves w (home_in w op) q → q ≡ p

  pub own-counts : (w : World) (stage : Stage) (e : Event) (n : Next) → IsDrained w → Fixed w → IsOwnStep caller op w stage e n → Counts w stage e n
  own-counts w Asks e n drained fixed (q, serves, is, leads) =
      let here : e ≡ Ask caller op p = is ∙ ap (Ask caller op) (fixed q serves) in
      subst (λ (x : Event). Counts w Asks x n) (sym here) (ask-counts w n drained
      (ap (λ (x : ProcessId). next_of_ask (at 0 w.asked caller) x (step w (Ask caller op p)).turn.answer) (sym (fixed q serves))
      ∙ ap (λ (x : Event). next_of_ask (at 0 w.asked caller) q (step w x).turn.answer) (sym here) ∙ leads))
  own-counts w (Collects call q) e n drained fixed (is, leads) =
      subst (λ (x : Event). Counts w (Collects call q) x n) (sym is)
      (collect-counts w call q n (ap (λ (x : Event). next_of_collect (step w x).turn.answer) (sym is) ∙ leads))
