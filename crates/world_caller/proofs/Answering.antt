-- What a call is answered where nothing is left to deliver.
use Rattle.std.proofs.Common.{ℕ, ◌≡◌, ◌<◌, ◌≤◌, false, List, [], length, take, Option, Some, None, ◌⊎◌, inl, inr, refl, sym, ap, subst, ◌∙◌, arith}
use Rattle.std.specs.Prelude.{Contains}
use Rattle.std.proofs.lemmas.List.{length-append, length-take}
use Rattle.group_types.specs.Dimensions.{Dimensions}
use Rattle.group_types.specs.Hash.{fnv1a}
use Rattle.group_types.specs.Lists.{at}
use Rattle.group_types.specs.Names.{IsProcess, of_rank}
use Rattle.group_types.specs.declared.process.ProcessId.{ProcessId}
use Rattle.memc_table.specs.Act.{key_of}
use Rattle.memc_table.specs.Asked.{Asked}
use Rattle.group_calls.specs.declared.event.Answer.TheVariants as says
use Rattle.group_calls.specs.declared.event.Event.{Event}
use Rattle.group_calls.specs.declared.event.Event.TheVariants.{Ask, Collect}
use Rattle.group_run.specs.Applying.{head_at, held_at, replica_of}
use Rattle.group_run.specs.Causes.{AnswersHaveCauses, AskCause, home_in}
use Rattle.group_run.specs.Headline.{IsRun, MayCome}
use Rattle.group_run.specs.History.{History, history_of, history}
use Rattle.group_run.specs.Meaning.{HasTakenOver, Heads, IsDown, IsDrained, is_dead}
use Rattle.group_run.specs.Process.{Head, Held}
use Rattle.group_run.specs.Progress.{IsQuiet}
use Rattle.group_run.specs.Replica.{Replica}
use Rattle.group_run.specs.World.{after, step}
use Rattle.law_moves.specs.State.{State, state_of}
use Rattle.law_moves.proofs.Members.{Reigns}
use Rattle.law_histories.proofs.Around.{keeper-rank}
use Rattle.law_histories.proofs.Ranks.{head-from}
use Rattle.law_log.proofs.Calls.{each-contained}
use Rattle.law_log.proofs.HeldWords.{HeldFits, IsHeldOf}
use Rattle.law_log.proofs.Held.{held_always}
use Rattle.law_histories.proofs.Finished.{reached-and-told}
use Rattle.law_answers.proofs.Answering.{answers_always}
use Rattle.law_progress.proofs.Quiet.{quiet_always}
use Rattle.law_progress.proofs.Steps.{shape-is, world-is}
use Rattle.world_caller.specs.Calling.{Serves, due, next_of_ask, next_of_collect}
use Rattle.world_caller.specs.Laws.{AsksLeadOn, AsksLeadOnAlways, CollectsLeadOn, CollectsLeadOnAlways, EventLeadsOn, IsTicketed}
use Rattle.world_caller.proofs.Delivering.{due-none, framed}
use Rattle.world_caller.proofs.Leading.{collect-leads, down-leads, home-below, numbered-below, one-head, ready-leads}
use Rattle.world_caller.proofs.Standing.{ask-ticket, heads-stay, up-stays}

module _ (s : Dimensions) (es : List Event) (run : IsRun s es) where
  abbrev h : History
  h = history_of s es

  abbrev v : State
  v = state_of (history_of s es)

  -- what a process holds where its log is empty is settled
  number-low : (p : ProcessId) (d : ℕ) (x : Held) → IsProcess s p → v.dead p ≡ false → d < s.k → Contains (held_at (v.process p) d) x
      → ((hd : Head) → head_at (v.process p) d ≡ Some hd → (replica_of (v.process p) d).log ≡ []) → x.number ≤ (replica_of (v.process p) d).applied
  number-low p d x pin lives below there empty = by (head_at (v.process p) d) refl where
    r : Replica
    r = replica_of (v.process p) d

    fits : HeldFits (v.settled d) d (v.process p)
    fits = (held_always s es run).0 p d pin lives below

    by : (o : Option Head) → head_at (v.process p) d ≡ o → x.number ≤ r.applied
    by None is = absurd (omega (arith, (subst (λ (xs : List Held). Contains xs x) (fits.none is) there).1))
    by (Some hd) is =
        let reached = (reached-and-told s es run).0 in
        let reaches = (reached.1 d below).replicas p pin lives (keeper-rank d hd.rank p (head-from s v d reached.0 below p hd pin lives is).0) in
        let of = each-contained (IsHeldOf (history (v.settled d) r)) (held_at (v.process p) d) x (fits.heads hd is) there in
        let low = numbered-below 1 (history (v.settled d) r) of.update reaches.fine.0 of.there in
        let number = of.number in
        let long = length-append (take r.applied (v.settled d)) r.log in
        let none = ap length (empty hd is) in
        let front = length-take r.applied (v.settled d) in
        omega (arith, low, number, long, none, front)

  here-is : h.world ≡ after s es
  here-is = world-is s es run

  of-shape : (p : ProcessId) → IsProcess h.world.shape p → IsProcess s p
  of-shape p pin = subst (λ (t : Dimensions). IsProcess t p) (shape-is s es run) pin

  quiet : ¬ (IsDown h.world) → IsDrained h.world → IsQuiet h.world
  quiet up drained = subst IsQuiet (sym here-is) (quiet_always s es run (subst IsDrained here-is drained) (λ down. up (subst IsDown (sym here-is) down)))

  causes : AnswersHaveCauses h.world
  causes = subst AnswersHaveCauses (sym here-is) (answers_always s es run)

  pub home-in : (op : Asked) → home_in h.world op < h.world.shape.k
  home-in op = home-below (fnv1a (key_of op.act)) h.world.shape.k (let first = run.0.k in
      let same = ap (λ (t : Dimensions). t.k) (shape-is s es run) in omega (arith, first, same))

  -- where a living process heads a partition of a drained group its log is empty
  head-finished : ¬ (IsDown h.world) → IsDrained h.world → (p : ProcessId) (d : ℕ) (hd : Head)
      → IsProcess h.world.shape p → v.dead p ≡ false → d < h.world.shape.k → head_at (v.process p) d ≡ Some hd
      → (replica_of (v.process p) d).log ≡ []
  head-finished up drained p d hd pin lives below is =
      subst (λ (q : ProcessId). (replica_of (v.process q) d).log ≡ []) (sym from.0) ((quiet up drained).finished d hd.rank below (record {
        within = subst (λ (t : Dimensions). hd.rank ≤ t.m) (sym (shape-is s es run)) from.1.rank;
        lives = ap v.dead (sym from.0) ∙ lives;
        lowest = from.1.below;
      })).2
    where
      low : d < s.k
      low = subst (λ (t : Dimensions). d < t.k) (shape-is s es run) below

      from : (p ≡ of_rank d hd.rank) × Reigns s v d hd.rank
      from = head-from s v d (reached-and-told s es run).0.0 low p hd (of-shape p pin) lives is

  asks-lead : (caller : ℕ) (op : Asked) (p : ProcessId) → due h.world ≡ None → MayCome h.world (Ask caller op p) → Serves h.world (home_in h.world op) p
      → EventLeadsOn caller (step h.world (Ask caller op p)).world (next_of_ask (at 0 h.world.asked caller) p (step h.world (Ask caller op p)).turn.answer)
  asks-lead caller op p none may serves = by (due-none h.world none) where
    why : AskCause h.world (step h.world (Ask caller op p)).world p op (step h.world (Ask caller op p)).turn.answer
    why = causes (Ask caller op p) may

    ticket : ¬ (IsDown h.world) → (r : ℕ) → Heads h.world (home_in h.world op) r → p ≡ of_rank (home_in h.world op) r
        → (n : ℕ) → (step h.world (Ask caller op p)).turn.answer ≡ says.Ticket n
        → IsTicketed (step h.world (Ask caller op p)).world caller (at 0 h.world.asked caller) p
    ticket up r heads name n is =
        let holds = ask-ticket h (framed s es run) caller op p n may is in record {
          up = up-stays h (framed s es run) (Ask caller op p) may tt up;
          partition = home_in h.world op;
          rank = r;
          inside = home-in op;
          named = name;
          heads = heads-stay h (framed s es run) (Ask caller op p) may tt (home_in h.world op) r (home-in op) heads;
          held = holds.0;
          holds = record { partition = home-in op; held = holds.1; named = holds.2 };
        }

    by : IsDown h.world ⊎ ((¬ (IsDown h.world)) × IsDrained h.world)
        → EventLeadsOn caller (step h.world (Ask caller op p)).world (next_of_ask (at 0 h.world.asked caller) p (step h.world (Ask caller op p)).turn.answer)
    by (inl down) = down-leads h.world (step h.world (Ask caller op p)).world caller (at 0 h.world.asked caller) op p
        (step h.world (Ask caller op p)).turn.answer down why
    by (inr (up, drained)) = headed ((quiet up drained).headed (home_in h.world op) (home-in op)) serves where
      headed : ((r : ℕ) × Heads h.world (home_in h.world op) r × HasTakenOver h.world (home_in h.world op) r) → Serves h.world (home_in h.world op) p
          → EventLeadsOn caller (step h.world (Ask caller op p)).world (next_of_ask (at 0 h.world.asked caller) p (step h.world (Ask caller op p)).turn.answer)
      headed (r, heads, over) (inr (without, is)) = absurd (without r heads)
      headed (r, heads, over) (inl (q, its, is)) =
          let name : p ≡ of_rank (home_in h.world op) r = is ∙ ap (of_rank (home_in h.world op)) (one-head h.world (home_in h.world op) q r its heads) in
          ready-leads h.world (step h.world (Ask caller op p)).world caller (at 0 h.world.asked caller) op p
          (step h.world (Ask caller op p)).turn.answer up (ap (is_dead h.world) name ∙ heads.lives)
          (record { rank = r; name = name; heads = heads; taken_over = over })
          (λ d n same. (quiet up drained).asked caller op p may (d, n, same)) (ticket up r heads name) why

  collects-lead : (caller call : ℕ) (p : ProcessId) → due h.world ≡ None → MayCome h.world (Collect caller call p) → IsTicketed h.world caller call p
      → EventLeadsOn caller (step h.world (Collect caller call p)).world (next_of_collect (step h.world (Collect caller call p)).turn.answer)
  collects-lead caller call p none may t = by (due-none h.world none) where
    lives : is_dead h.world p ≡ false
    lives = ap (is_dead h.world) t.named ∙ t.heads.lives

    by : IsDown h.world ⊎ ((¬ (IsDown h.world)) × IsDrained h.world)
        → EventLeadsOn caller (step h.world (Collect caller call p)).world
        (next_of_collect (step h.world (Collect caller call p)).turn.answer)
    by (inl down) = absurd (t.up down)
    by (inr (up, drained)) = collect-leads h.world (step h.world (Collect caller call p)).world caller call p
        (step h.world (Collect caller call p)).turn.answer t lives
        (λ d x holds. number-low p d x (of-shape p may.1) lives (subst (λ (u : Dimensions). d < u.k) (shape-is s es run) holds.partition) holds.held
        (λ hd is. head-finished up drained p d hd may.1 lives holds.partition is))
        (causes (Collect caller call p) may)

pub asks_always : AsksLeadOnAlways
asks_always s es run = subst AsksLeadOn (world-is s es run) (λ caller op p none may serves. asks-lead s es run caller op p none may serves)

pub collects_always : CollectsLeadOnAlways
collects_always s es run = subst CollectsLeadOn (world-is s es run) (λ caller call p none may t. collects-lead s es run caller call p none may t)
