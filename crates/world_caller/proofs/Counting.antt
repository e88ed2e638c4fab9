-- How often a call is asked: once more than it has to wait for a block.
use Rattle.std.proofs.Common.{ℕ, zero, suc, ◌≡◌, ◌≢◌, ◌<◌, ◌≤◌, ◌+◌, Bool, true, false, List, [], ◌∷◌, ◌++◌, Option}
use Rattle.std.proofs.Common.{Some, None, ◌⊎◌, inl, inr, refl, sym, ap, subst, ◌∙◌, arith}
use Rattle.std.proofs.lemmas.Bool.{cases_eq, cases_lt}
use Rattle.std.proofs.lemmas.List.Sums.{sum_by-cons}
use Rattle.group_types.specs.Dimensions.{Dimensions}
use Rattle.group_types.specs.Lists.{at}
use Rattle.group_types.specs.Names.{of_rank}
use Rattle.group_types.specs.declared.process.ProcessId.{ProcessId}
use Rattle.group_types.specs.declared.process.ProcessId.TheVariants.{DataNode}
use Rattle.group_types.proofs.Lists.{at-put}
use Rattle.memc_table.specs.Asked.{Asked}
use Rattle.memc_proto.specs.declared.end.CallEnd.{CallEnd}
use Rattle.group_calls.specs.declared.event.Event.{Event}
use Rattle.group_calls.specs.declared.event.Event.TheVariants.{Ask}
use Rattle.group_run.specs.Causes.{AnswersHaveCauses, home_in}
use Rattle.group_run.specs.Headline.{IsRun, MayCome}
use Rattle.group_run.specs.History.{History, history_of, no_history}
use Rattle.group_run.specs.Meaning.{Heads, IsDown, IsDrained, is_dead}
use Rattle.group_run.specs.Progress.{AskedDrained, block_waits, waits_here}
use Rattle.group_run.specs.World.{World, after, dead_nodes, step, turns_from, world_after}
use Rattle.law_progress.proofs.Whole.{next-comes}
use Rattle.law_answers.proofs.Answering.{answers_always}
use Rattle.law_progress.proofs.Steps.{history-append, run-append, world-is}
use Rattle.law_progress.proofs.Waits.{few_waits_always}
use Rattle.world_caller.specs.Calling.{EventsBring, IsEvent, IsFirstOrOwn, Serves, due, next_of_ask}
use Rattle.world_caller.specs.Laws.{FewAlways}
use Rattle.world_caller.specs.declared.stage.Next.{Next}
use Rattle.world_caller.specs.declared.stage.Next.TheVariants.{Ends, Goes}
use Rattle.world_caller.specs.declared.stage.Stage.{Stage}
use Rattle.world_caller.specs.declared.stage.Stage.TheVariants.{Asks}
use Rattle.world_caller.proofs.Answering.{home-in}
use Rattle.world_caller.proofs.Leading.{one-head}
use Rattle.world_caller.proofs.Bringing.{brings-run}
use Rattle.world_caller.proofs.Delivering.{due-first, due-none, framed}
use Rattle.world_caller.proofs.Stepping.{Counts, Fixed, delivery-counts, down-ends, own-counts, still}
use Rattle.world_caller.proofs.Standing.{served-before, up-stays}

module _ (caller : ℕ) (op : Asked) (p : ProcessId) where
  module _ (s : Dimensions) where
    event-counts : (before : List Event) → IsRun s before → (stage : Stage) (e : Event) (n : Next)
        → ¬ (IsDown (after s before)) → Fixed caller op p (after s before)
        → IsEvent caller op (after s before) stage e n
        → Counts caller op p (after s before) stage e n
    event-counts before run stage e n up fixed event = by (due (after s before)) refl event.done where
      by : (o : Option Event) → due (after s before) ≡ o → IsFirstOrOwn o caller op (after s before) stage e n → Counts caller op p (after s before) stage e n
      by (Some d) first (is, same) =
          let comes = next-comes s before run up d (due-first (after s before) d first).1 in
          subst (λ (x : Next). Counts caller op p (after s before) stage e x) (sym same)
          (subst (λ (x : Event). Counts caller op p (after s before) stage x (Goes stage)) (sym is)
          (delivery-counts caller op p (after s before) stage d comes.delivery))
      by None none own = drained (due-none (after s before) none) where
        drained : IsDown (after s before) ⊎ ((¬ (IsDown (after s before))) × IsDrained (after s before)) → Counts caller op p (after s before) stage e n
        drained (inl down) = absurd (up down)
        drained (inr both) = own-counts caller op p (after s before) stage e n both.1 fixed own

    -- the events of a call
    record AreCounted (w : World) (next : Next) (es : List Event) : Type 0 where
      drained : AskedDrained w es
      few : at 0 (world_after w es).asked caller ≤ at 0 w.asked caller + block_waits p (turns_from w es) + still next

    counted-more : (w : World) (stage : Stage) (e : Event) (es : List Event) (n : Next) → Counts caller op p w stage e n
        → AreCounted (step w e).world n es → AreCounted w (Goes stage) (e ∷ es)
    counted-more w stage e es n one rest = record {
      drained = (one.goes, one.drained, rest.drained);
      few =
          let split : block_waits p (turns_from w (e ∷ es)) ≡ waits_here p e (step w e).turn.answer + block_waits p (turns_from (step w e).world es)
          = sum_by-cons (λ turn. waits_here p turn.event turn.answer) (step w e).turn (turns_from (step w e).world es) in
          let first = one.few in let later = rest.few in omega (arith, split, first, later);
    }

    counted : (es before : List Event) → (run : IsRun s before) → (next last : Next) → ¬ (IsDown (after s before))
        → Fixed caller op p (after s before) → EventsBring caller op (after s before) next es last
        → AreCounted (after s before) next es
    counted [] before run next last up fixed brings = record { drained = tt; few = omega arith }
    counted (e ∷ es) before run (Ends end) last up fixed brings = absurd brings
    counted (e ∷ es) before run (Goes stage) last up fixed (n, event, brings) =
        counted-more (after s before) stage e es n one (subst (λ (w : World). AreCounted w n es) longer
        (counted es (before ++ e ∷ []) (run.0, run-append (no_history s) before e run.1 may) n last
        (subst (λ (w : World). ¬ (IsDown w)) (sym longer) still-up)
        (subst (Fixed caller op p) (sym longer) still-fixed)
        (subst (λ (w : World). EventsBring caller op w n es last) (sym longer) brings)))
      where
        one : Counts caller op p (after s before) stage e n
        one = event-counts before run stage e n up fixed event

        is : (history_of s before).world ≡ after s before
        is = world-is s before run

        may : MayCome (history_of s before).world e
        may = subst (λ (w : World). MayCome w e) (sym is) event.may

        still-up : ¬ (IsDown (step (after s before) e).world)
        still-up = subst (λ (w : World). ¬ (IsDown (step w e).world)) is
            (up-stays (history_of s before) (framed s before run) e may one.goes (λ down. up (subst IsDown is down)))

        still-fixed : Fixed caller op p (step (after s before) e).world
        still-fixed = subst (λ (w : World). Fixed caller op p (step w e).world) is
            (λ q serves. subst (Fixed caller op p) (sym is) fixed q
            (served-before (history_of s before) (framed s before run) e may one.goes
            (home_in (history_of s before).world op) q (home-in s before run op) serves))

        longer : after s (before ++ e ∷ []) ≡ (step (after s before) e).world
        longer =
            sym (world-is s (before ++ e ∷ []) (run.0, run-append (no_history s) before e run.1 may))
            ∙ ap (λ (h : History). h.world) (history-append (no_history s) before e) ∙ ap (λ (w : World). (step w e).world) is

-- the lowest of some ranks that lives, if one does
lowest : (dead : ℕ → Bool) (n : ℕ) → ((r : ℕ) × (r < n) × (dead r ≡ false) × ((q : ℕ) → q < r → dead q ≡ true)) ⊎ ((q : ℕ) → q < n → dead q ≡ true)
lowest dead zero = inr (λ q low. absurd (omega (arith, low)))
lowest dead (suc n) = by (lowest dead n) (dead n) refl where
  by : ((r : ℕ) × (r < n) × (dead r ≡ false) × ((q : ℕ) → q < r → dead q ≡ true)) ⊎ ((q : ℕ) → q < n → dead q ≡ true) → (b : Bool) → dead n ≡ b
      → ((r : ℕ) × (r < suc n) × (dead r ≡ false) × ((q : ℕ) → q < r → dead q ≡ true)) ⊎ ((q : ℕ) → q < suc n → dead q ≡ true)
  by (inl (r, low, lives, below)) b is = inl (r, (omega (arith, low)), lives, below)
  by (inr all) false is = inl (n, (omega arith), is, all)
  by (inr all) true is = inr (λ q low. last q (cases_eq q n) low) where
    last : (q : ℕ) → (q ≡ n) ⊎ (q ≢ n) → q < suc n → dead q ≡ true
    last q (inl same) low = ap dead same ∙ is
    last q (inr other) low = all q (omega (arith, low, other))

-- one process is asked of a partition
pub one-serves : (w : World) (d : ℕ) → (p : ProcessId) × ((q : ProcessId) → Serves w d q → q ≡ p)
one-serves w d = by (lowest (λ r. is_dead w (of_rank d r)) (suc w.shape.m)) where
  by : ((r : ℕ) × (r < suc w.shape.m) × (is_dead w (of_rank d r) ≡ false)
      × ((q : ℕ) → q < r → is_dead w (of_rank d q) ≡ true))
      ⊎ ((q : ℕ) → q < suc w.shape.m → is_dead w (of_rank d q) ≡ true)
      → (p : ProcessId) × ((q : ProcessId) → Serves w d q → q ≡ p)
  by (inl (r, low, lives, below)) = (of_rank d r, is-it) where
    heads : Heads w d r
    heads = record { within = omega (arith, low); lives = lives; lowest = below }

    is-it : (q : ProcessId) → Serves w d q → q ≡ of_rank d r
    is-it q (inl (its, head, is)) = is ∙ ap (of_rank d) (one-head w d its r head heads)
    is-it q (inr (none, is)) = absurd (none r heads)
  by (inr all) = (DataNode d, is-it) where
    is-it : (q : ProcessId) → Serves w d q → q ≡ DataNode d
    is-it q (inl (its, head, is)) = let high = head.within in cc (sym (all its (omega (arith, high))) ∙ head.lives)
    is-it q (inr (none, is)) = is

-- a call that has ended makes no event
none-behind : (caller : ℕ) (op : Asked) (w : World) (end : CallEnd) (es : List Event) (last : Next) → EventsBring caller op w (Ends end) es last → es ≡ []
none-behind caller op w end [] last brings = refl
none-behind caller op w end (e ∷ es) last brings = absurd brings

-- of a group that is down a call is asked once
down-few : (caller : ℕ) (op : Asked) (w : World) (es : List Event) (last : Next) → IsDown w → AnswersHaveCauses w
    → EventsBring caller op w (Goes Asks) es last → at 0 (world_after w es).asked caller ≤ at 0 w.asked caller + 1
down-few caller op w [] last down causes brings = omega arith
down-few caller op w (e ∷ es) last down causes (n, event, brings) = by (due w) refl event.done where
  by : (o : Option Event) → due w ≡ o → IsFirstOrOwn o caller op w Asks e n → at 0 (world_after w (e ∷ es)).asked caller ≤ at 0 w.asked caller + 1
  by (Some d) first done = absurd ((due-first w d first).0 down)
  by None none (p, serves, is, leads) =
      let over = down-ends w (step w (Ask caller op p)).world p op (at 0 w.asked caller) n (step w (Ask caller op p)).turn.answer down
      (causes (Ask caller op p) (subst (MayCome w) is event.may))
      (ap (λ (x : Event). next_of_ask (at 0 w.asked caller) p (step w x).turn.answer) (sym is) ∙ leads) in
      let nothing : es ≡ [] = none-behind caller op (step w e).world over.0 es last
      (subst (λ (x : Next). EventsBring caller op (step w e).world x es last) over.1 brings) in
      let one : at 0 (step w (Ask caller op p)).world.asked caller ≡ suc (at 0 w.asked caller) = at-put 0 0 w.asked caller (suc (at 0 w.asked caller)) in
      let same : at 0 (world_after w (e ∷ es)).asked caller ≡ at 0 (step w (Ask caller op p)).world.asked caller
      = ap (λ (xs : List Event). at 0 (world_after w (e ∷ xs)).asked caller) nothing ∙ ap (λ (x : Event). at 0 (step w x).world.asked caller) is in
      omega (arith, one, same)

pub few_always : FewAlways
few_always s es run caller op fs last brings = by (cases_lt (after s es).shape.m (dead_nodes (after s es).nodes)) where
  fixed : (p : ProcessId) × ((q : ProcessId) → Serves (after s es) (home_in (after s es) op) q → q ≡ p)
  fixed = one-serves (after s es) (home_in (after s es) op)

  by : (IsDown (after s es)) ⊎ (dead_nodes (after s es).nodes ≤ (after s es).shape.m)
      → at 0 (world_after (after s es) fs).asked caller ≤ at 0 (after s es).asked caller + ((after s es).shape.blocks + 1)
  by (inl down) = let few = down-few caller op (after s es) fs last down (answers_always s es run) brings in omega (arith, few)
  by (inr few) =
      let all = counted caller op fixed.0 s fs es run (Goes Asks) last (λ down. absurd (omega (arith, few, down))) fixed.1 brings in
      let waits : block_waits fixed.0 (turns_from (after s es) fs) ≤ (after s es).shape.blocks
      = few_waits_always s es run fs fixed.0 (brings-run caller op (after s es) (Goes Asks) last fs brings) all.drained in
      let most = all.few in omega (arith, waits, most)
