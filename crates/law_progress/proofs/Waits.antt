-- At most as many calls as there are blocks have to wait for one, while no process fails and each is asked where the group
-- is drained.
use Rattle.std.proofs.Common.{◌≡◌, ℕ, ◌+◌, ◌<◌, ◌≤◌, Bool, true, false, List, [], ◌∷◌, ◌++◌, length, ◌⊎◌, inl, inr}
use Rattle.std.proofs.Common.{refl, sym, ap, subst, ◌∙◌, if◌then◌else◌, arith}
use Rattle.std.proofs.lemmas.List.Sums.{sum_by-cons}
use Rattle.group_types.specs.Dimensions.{Dimensions}
use Rattle.group_types.specs.Names.{IsProcess, same_process}
use Rattle.group_types.specs.declared.process.ProcessId.{ProcessId}
use Rattle.group_types.proofs.Names.{same-eq}
use Rattle.memc_table.specs.Asked.{Asked}
use Rattle.group_calls.specs.declared.event.Answer.{Answer}
use Rattle.group_calls.specs.declared.event.Answer.TheVariants as says
use Rattle.group_calls.specs.declared.event.Cause.TheVariants as cause
use Rattle.group_calls.specs.declared.event.Event.{Event}
use Rattle.group_calls.specs.declared.event.Event.TheVariants.{Ask, Collect, Deliver, Fail, Flush, Trace}
use Rattle.group_run.specs.Headline.{IsRun, IsRunFrom, MayCome}
use Rattle.group_run.specs.History.{History, history_of, no_history, prolonged}
use Rattle.group_run.specs.Meaning.{IsDrained}
use Rattle.group_run.specs.Progress.{AskedDrained, AsksDrained, IsNoFailure, block_waits, waits_here}
use Rattle.group_run.specs.World.{World, after, step, turns_from}
use Rattle.law_moves.specs.State.{state_of}
use Rattle.law_progress.proofs.Waiting.{Has}
use Rattle.law_progress.proofs.Starting.{NoRepeat}
use Rattle.law_progress.specs.FewWaits.{FewWaitsAlways}
use Rattle.law_progress.proofs.Counting.{few-below}
use Rattle.law_progress.proofs.Serving.{Served}
use Rattle.law_progress.proofs.Steps.{AllKnown, Leaves, drained-known, event-leaves, history-append, inside, lives}
use Rattle.law_progress.proofs.Steps.{not-served, pin, run-append, same-dead, shape-is, then-served, world-is}

-- an answer that a block is waited for, or another one
abbrev IsBlockWait : ProcessId → Event → Answer → Type 0
IsBlockWait p e a = (caller : ℕ) × (op : Asked) × (b : ℕ) × (e ≡ Ask caller op p) × (a ≡ says.Retry (cause.Block b))

no-wait : (p : ProcessId) (e : Event) (a : Answer) → (waits_here p e a ≡ 0) ⊎ ((waits_here p e a ≤ 1) × IsBlockWait p e a)
no-wait p (Ask caller op q) (says.Retry (cause.Block b)) = by (same_process p q) refl where
  by : (c : Bool) → same_process p q ≡ c → (◌≡◌ {A = ℕ} (if c then 1 else 0) 0)
      ⊎ (((if c then 1 else 0) ≤ 1) × IsBlockWait p (Ask caller op q) (says.Retry (cause.Block b)))
  by false is = inl refl
  by true is = inr (omega arith, (caller, op, b, ap (Ask caller op) (sym (same-eq p q is)), refl))
no-wait p (Ask caller op q) (says.Retry (cause.Pending d n)) = inl refl
no-wait p (Ask caller op q) (says.Reply r) = inl refl
no-wait p (Ask caller op q) (says.Ticket n) = inl refl
no-wait p (Ask caller op q) says.NotYet = inl refl
no-wait p (Ask caller op q) says.NoSpace = inl refl
no-wait p (Ask caller op q) says.Moved = inl refl
no-wait p (Ask caller op q) says.Lost = inl refl
no-wait p (Ask caller op q) says.Down = inl refl
no-wait p (Ask caller op q) says.Idle = inl refl
no-wait p (Ask caller op q) says.Stranger = inl refl
no-wait p (Ask caller op q) says.Done = inl refl
no-wait p (Ask caller op q) says.AlreadyDead = inl refl
no-wait p (Ask caller op q) says.Gone = inl refl
no-wait p (Ask caller op q) (says.Stale n) = inl refl
no-wait p (Collect caller call q) a = inl refl
no-wait p (Deliver from to) a = inl refl
no-wait p (Fail q keep) a = inl refl
no-wait p (Flush q) a = inl refl
no-wait p (Trace caller call d q) a = inl refl

-- blocks that were waited for: different ones of the space, which are served now
record Counted (s : Dimensions) (h : History) (p : ProcessId) (bs : List ℕ) : Type 0 where
  pub differ : NoRepeat bs
  pub below : (b : ℕ) → Has (λ i. i ≡ b) bs → b < s.blocks
  pub served : (bs ≡ []) ⊎ (AllKnown s (state_of h) × IsProcess s p × ((state_of h).dead p ≡ false)
      × ((b : ℕ) → Has (λ i. i ≡ b) bs → Served s b ((state_of h).process p)))

module _ (s : Dimensions) (p : ProcessId) (before : List Event) (run : IsRun s before) (e : Event) (bs : List ℕ) (may : MayCome (history_of s before).world e)
    (goes : IsNoFailure e) (count : Counted s (history_of s before) p bs) where
  -- an event leaves what was counted
  leaves-count : Counted s (prolonged (history_of s before) e) p bs
  leaves-count = record { differ = count.differ; below = count.below; served = by count.served } where
    by : (bs ≡ []) ⊎ (AllKnown s (state_of (history_of s before)) × IsProcess s p
        × ((state_of (history_of s before)).dead p ≡ false)
        × ((b : ℕ) → Has (λ i. i ≡ b) bs → Served s b ((state_of (history_of s before)).process p)))
        → (bs ≡ []) ⊎ (AllKnown s (state_of (prolonged (history_of s before) e)) × IsProcess s p
        × ((state_of (prolonged (history_of s before) e)).dead p ≡ false)
        × ((b : ℕ) → Has (λ i. i ≡ b) bs → Served s b ((state_of (prolonged (history_of s before) e)).process p)))
    by (inl none) = inl none
    by (inr (known, pin, lives, all)) =
        let leaves = event-leaves s before run e may goes known in
        inr (leaves.known, pin, same-dead s before run e may goes p pin ∙ lives, λ b has. leaves.served p b pin lives (all b has))

  -- a call that has to wait for a block is one more
  module _ (caller : ℕ) (op : Asked) (b : ℕ) (is : e ≡ Ask caller op p)
      (answered : (step (history_of s before).world e).turn.answer ≡ says.Retry (cause.Block b)) (asked : AsksDrained (history_of s before).world e) where
    drained : IsDrained (history_of s before).world
    drained = subst (AsksDrained (history_of s before).world) is asked

    may-ask : MayCome (history_of s before).world (Ask caller op p)
    may-ask = subst (MayCome (history_of s before).world) is may

    waits : (step (history_of s before).world (Ask caller op p)).turn.answer ≡ says.Retry (cause.Block b)
    waits = ap (λ (x : Event). (step (history_of s before).world x).turn.answer) (sym is) ∙ answered

    here-pin : IsProcess s p
    here-pin = pin s before run caller op p b may-ask drained waits

    here-lives : (state_of (history_of s before)).dead p ≡ false
    here-lives = lives s before run caller op p b may-ask drained waits

    not-yet : Served s b ((state_of (history_of s before)).process p) → ⊥
    not-yet served = not-served s before run caller op p b may-ask drained waits served

    leaves : Leaves s (state_of (history_of s before)) (state_of (prolonged (history_of s before) e))
    leaves = event-leaves s before run e may goes (drained-known s before run drained)

    new-served : Served s b ((state_of (prolonged (history_of s before) e)).process p)
    new-served = subst (λ (x : Event). Served s b ((state_of (prolonged (history_of s before) x)).process p)) (sym is)
        (then-served s before run caller op p b may-ask drained waits)

    one-more : Counted s (prolonged (history_of s before) e) p (b ∷ bs)
    one-more = record {
      differ = (λ has. new has count.served, count.differ);
      below = λ c has. below c has;
      served = inr (leaves.known, here-pin, same-dead s before run e may goes p here-pin ∙ here-lives, λ c has. all c has count.served);
    } where
      new : Has (λ i. i ≡ b) bs
          → (bs ≡ []) ⊎ (AllKnown s (state_of (history_of s before)) × IsProcess s p
          × ((state_of (history_of s before)).dead p ≡ false)
          × ((c : ℕ) → Has (λ i. i ≡ c) bs → Served s c ((state_of (history_of s before)).process p)))
          → ⊥
      new has (inl none) = subst (Has (λ i. i ≡ b)) none has
      new has (inr (known, inside_p, living, served)) = not-yet (served b has)

      below : (c : ℕ) → (b ≡ c) ⊎ Has (λ i. i ≡ c) bs → c < s.blocks
      below c (inl same) = let low = inside s before run caller op p b may-ask drained waits in omega (arith, low, same)
      below c (inr there) = count.below c there

      all : (c : ℕ) → (b ≡ c) ⊎ Has (λ i. i ≡ c) bs
          → (bs ≡ []) ⊎ (AllKnown s (state_of (history_of s before)) × IsProcess s p
          × ((state_of (history_of s before)).dead p ≡ false)
          × ((x : ℕ) → Has (λ i. i ≡ x) bs → Served s x ((state_of (history_of s before)).process p)))
          → Served s c ((state_of (prolonged (history_of s before) e)).process p)
      all c (inl same) _ = subst (λ (x : ℕ). Served s x ((state_of (prolonged (history_of s before) e)).process p)) same new-served
      all c (inr there) (inl none) = absurd (subst (Has (λ i. i ≡ c)) none there)
      all c (inr there) (inr (known, inside_p, living, served)) = leaves.served p c here-pin here-lives (served c there)

module _ (s : Dimensions) (p : ProcessId) where
  -- the count after events
  counted : (es before : List Event) (run : IsRun s before) → IsRunFrom (history_of s before).world es → AskedDrained (history_of s before).world es
      → (bs : List ℕ) → Counted s (history_of s before) p bs → length bs + block_waits p (turns_from (history_of s before).world es) ≤ s.blocks
  counted [] before run comes asked bs count = let few = few-below s.blocks bs count.differ count.below in omega (arith, few)
  counted (e ∷ es) before run comes asked bs count = by (no-wait p e (step (history_of s before).world e).turn.answer)
      (λ more now. subst (λ (x : History). length more + block_waits p (turns_from x.world es) ≤ s.blocks) (history-append (no_history s) before e)
      (counted es (before ++ e ∷ []) (run.0, run-append (no_history s) before e run.1 comes.0)
      (subst (λ (x : History). IsRunFrom x.world es) (sym (history-append (no_history s) before e)) comes.1)
      (subst (λ (x : History). AskedDrained x.world es) (sym (history-append (no_history s) before e)) asked.2) more
      (subst (λ (x : History). Counted s x p more) (sym (history-append (no_history s) before e)) now)))
    where
      split : block_waits p (turns_from (history_of s before).world (e ∷ es))
          ≡ waits_here p e (step (history_of s before).world e).turn.answer + block_waits p
          (turns_from (step (history_of s before).world e).world es)
      split = sum_by-cons (λ turn. waits_here p turn.event turn.answer) (step (history_of s before).world e).turn
          (turns_from (step (history_of s before).world e).world es)

      by : (waits_here p e (step (history_of s before).world e).turn.answer ≡ 0)
          ⊎ ((waits_here p e (step (history_of s before).world e).turn.answer ≤ 1)
          × IsBlockWait p e (step (history_of s before).world e).turn.answer)
          → ((more : List ℕ) → Counted s (prolonged (history_of s before) e) p more → length more + block_waits p
          (turns_from (step (history_of s before).world e).world es) ≤ s.blocks)
          → length bs + block_waits p (turns_from (history_of s before).world (e ∷ es)) ≤ s.blocks
      by (inl none) later = let sum = split in let rest = later bs (leaves-count s p before run e bs comes.0 asked.0 count) in omega (arith, sum, none, rest)
      by (inr (one, (caller, op, b, is, answered))) later =
          let sum = split in
          let rest = later (b ∷ bs) (one-more s p before run e bs comes.0 asked.0 count caller op b is answered asked.1) in
          omega (arith, sum, one, rest)

pub few_waits_always : FewWaitsAlways
few_waits_always s es run later p comes asked =
    let world = world-is s es run in
    let few = counted s p later es run (subst (λ (w : World). IsRunFrom w later) (sym world) comes)
    (subst (λ (w : World). AskedDrained w later) (sym world) asked) [] (record { differ = tt; below = λ b has. absurd has; served = inl refl }) in
    let same : block_waits p (turns_from (history_of s es).world later)
    ≡ block_waits p (turns_from (after s es) later) = ap (λ (w : World). block_waits p (turns_from w later)) world in
    let shape : (after s es).shape.blocks ≡ s.blocks = ap (λ (w : World). w.shape.blocks) (sym world) ∙ ap (λ (t : Dimensions). t.blocks) (shape-is s es run) in
    omega (arith, few, same, shape)
