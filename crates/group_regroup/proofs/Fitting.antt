-- No number of an answer is above the number of events, so each fits with a base.
use Rattle.std.proofs.Common.{◌≡◌, ℕ, zero, suc, ◌+◌, ◌<◌, ◌≤◌, Bool, true, false, if◌then◌else◌, List, [], ◌∷◌, length}
use Rattle.std.proofs.Common.{replicate, Option, Some, None, refl, sym, ap, subst, ◌∙◌, arith}
use Rattle.std.specs.Prelude.{All, slice_index}
use Rattle.std.proofs.lemmas.List.{length-replicate}
use Rattle.std.proofs.lemmas.List.Elements.{All-head, All-tail}
use Rattle.std.proofs.lemmas.Option.{none-some}
use Rattle.group_types.specs.Dimensions.{Dimensions}
use Rattle.group_types.specs.Hash.{home_of}
use Rattle.group_types.specs.Lists.{at}
use Rattle.group_types.specs.Names.{of_rank}
use Rattle.group_types.specs.declared.process.ProcessId.{ProcessId}
use Rattle.memc_table.specs.Act.{key_of}
use Rattle.memc_table.specs.Contents.{count_of, empty_table}
use Rattle.memc_table.specs.Expiry.{is_live, live_at}
use Rattle.memc_table.specs.declared.holding.Holding.{Holding}
use Rattle.memc_table.specs.declared.reply.Reply.{Reply}
use Rattle.memc_table.specs.declared.reply.Reply.TheVariants as reply
use Rattle.group_calls.specs.Log.{IsLegal}
use Rattle.group_calls.specs.declared.event.Answer.{Answer}
use Rattle.group_calls.specs.declared.event.Answer.TheVariants as says
use Rattle.group_calls.specs.declared.event.Cause.TheVariants as cause
use Rattle.group_calls.specs.declared.event.Event.{Event}
use Rattle.group_calls.specs.declared.event.Event.TheVariants.{Ask, Collect, Deliver, Fail, Flush, Trace}
use Rattle.group_run.specs.Applying.{replica_of}
use Rattle.group_run.specs.Causes.{AskCause, IsReady, IsUp, home_in, table_now}
use Rattle.group_run.specs.Headline.{IsRun, KeepsAll}
use Rattle.group_run.specs.Meaning.{IsDown, Lives, count_logged, process_of}
use Rattle.group_run.specs.Replica.{Replica, empty_replica, last_of}
use Rattle.group_run.specs.World.{World, after, opening, step}
use Rattle.law_headline.proofs.Headlines.{headline_always}
use Rattle.law_answers.proofs.Answering.{answers_always}
use Rattle.law_causes.proofs.Always.{waits_always}
use Rattle.scenario_run.proofs.Leading.{keeps-shape}
use Rattle.law_answers.proofs.Numbers.{numbers_low_always}
use Rattle.law_causes.specs.Waiting.{AskWaits}
use Rattle.group_eras.specs.Told.{Bases}
use Rattle.group_regroup.specs.Fitting.{AnswerFits, ReplyFits}
use Rattle.group_regroup.specs.Kept.{IsLowBase}
use Rattle.group_regroup.specs.Laws.{NumbersFitAlways}
use Rattle.group_regroup.proofs.Counted.{IsCounted, count-updates, counted-log, length-log}
use Rattle.group_regroup.proofs.Replied.{LiveLow, ShowsLow, shows-low}

base-low : (bases : Bases) (d : ℕ) → All IsLowBase bases → at 0 bases d < 13835058055282163712
base-low [] d low = omega arith
base-low (b ∷ bs) zero low = All-head IsLowBase b bs low
base-low (b ∷ bs) (suc d) low = base-low bs d (All-tail IsLowBase b bs low)

last-low : (rs : List Replica) (n d : ℕ) → All (λ r. last_of r ≤ n) rs → last_of (at empty_replica rs d) ≤ n
last-low [] n d low = omega arith
last-low (r ∷ rs) n zero low = All-head (λ r. last_of r ≤ n) r rs low
last-low (r ∷ rs) n (suc d) low = last-low rs n d (All-tail (λ r. last_of r ≤ n) r rs low)

none-counted : (k : ℕ) → IsCounted (empty_table k)
none-counted k key h there = absurd (none-some h there)

home-inside : (key : List ℕ) (k : ℕ) → 1 ≤ k → home_of key k < k
home-inside key k some = omega (arith, some)

-- each head of a group that isn't down keeps all updates
keeps : (s : Dimensions) (es : List Event) → IsRun s es → ¬ (IsDown (after s es)) → (d r : ℕ) → d < (after s es).shape.k → Lives (after s es) (of_rank d r)
    → KeepsAll (after s es) d (replica_of (process_of (after s es) (of_rank d r)) d)
keeps s es run up d zero low lives = ((headline_always s es run).not_undone up).at_data d lives
keeps s es run up d (suc i) low lives = ((headline_always s es run).not_undone up).at_parity i d low lives

-- an item of the table has a number that its partition's updates reach
item-low : (s : Dimensions) (es : List Event) → IsRun s es → (key : List ℕ) (h : Holding)
    → home_of key (after s es).shape.k < (after s es).shape.k → (table_now (after s es)).items key ≡ Some h
    → h.item.cas ≤ count_logged (after s es) (home_of key (after s es).shape.k)
item-low s es run key h low there =
    let w : World = after s es in
    let k : ℕ = w.shape.k in
    let many : length (empty_table k).counts ≡ k = length-replicate k 0 in
    let whole : length (table_now w).counts ≡ k = length-log (empty_table k) w.log ∙ many in
    let below : h.item.cas ≤ count_of (table_now w) key = counted-log (empty_table k) w.log (omega (arith, many, low)) (none-counted k) key h there in
    let place : count_of (table_now w) key ≡ slice_index (table_now w).counts (home_of key k) =
    ap (λ (n : ℕ). slice_index (table_now w).counts (home_of key n)) whole in
    let zero_at : slice_index (empty_table k).counts (home_of key k) ≡ 0 = none-there k (home_of key k) in
    let count = count-updates k (home_of key k) low (empty_table k) (at [] w.places (home_of key k)) w.log many
    (subst (λ (n : ℕ). IsLegal n w.log) (sym (keeps-k s es)) (headline_always s es run).one_log.legal) in
    omega (arith, below, place, zero_at, count)
  where
    none-there : (k d : ℕ) → slice_index (replicate k 0) d ≡ 0
    none-there zero d = refl
    none-there (suc k) zero = refl
    none-there (suc k) (suc d) = none-there k d

    keeps-k : (s : Dimensions) (es : List Event) → (after s es).shape.k ≡ s.k
    keeps-k s es = ap (λ (x : Dimensions). x.k) (keeps-shape (opening s) es)

pub numbers-fit : NumbersFitAlways
numbers-fit s es run bases (Collect caller call p) all few may = tt
numbers-fit s es run bases (Deliver from to) all few may = tt
numbers-fit s es run bases (Fail p keep) all few may = tt
numbers-fit s es run bases (Flush p) all few may = tt
numbers-fit s es run bases (Trace caller call d p) all few may = tt
numbers-fit s es run bases (Ask caller op p) all few may = by (step w (Ask caller op p)).turn.answer refl (answers_always s es run (Ask caller op p) may) where
  w : World
  w = after s es

  fits : (d n : ℕ) → n ≤ suc (after s es).events → at 0 bases d + n < 18446744073709551616
  fits d n low = let base = base-low bases d all in omega (arith, low, base, few)

  low-at : (q : ProcessId) (d : ℕ) → Lives (after s es) q → last_of (replica_of (process_of (after s es) q) d) ≤ (after s es).events
  low-at q d lives = last-low (process_of (after s es) q).replicas (after s es).events d ((numbers_low_always s es run).updates q lives)

  shown : (r : Reply) → ShowsLow (after s es).events r → ReplyFits (at 0 bases (home_of (key_of op.act) (after s es).shape.k)) r
  shown (reply.Value item) low = fits (home_of (key_of op.act) (after s es).shape.k) item.cas (omega (arith, low))
  shown reply.Miss low = tt
  shown reply.Stored low = tt
  shown reply.NotStored low = tt
  shown reply.Exists low = tt
  shown reply.NotFound low = tt
  shown reply.Deleted low = tt
  shown reply.Touched low = tt
  shown (reply.Number n) low = tt
  shown reply.NotNumber low = tt
  shown reply.TooLarge low = tt

  live : IsUp (after s es) p → IsReady (after s es) p (home_in (after s es) op)
      → LiveLow (after s es).events (live_at op.moment ((table_now (after s es)).items (key_of op.act)))
  live up ready = held ((table_now (after s es)).items (key_of op.act)) refl where
    inside : home_of (key_of op.act) (after s es).shape.k < (after s es).shape.k
    inside = home-inside (key_of op.act) (after s es).shape.k (subst (λ (x : Dimensions). 1 ≤ x.k) (sym (keeps-shape (opening s) es)) (run.0).k.0)

    held : (o : Option Holding) → (table_now (after s es)).items (key_of op.act) ≡ o → LiveLow (after s es).events (live_at op.moment o)
    held None is = tt
    held (Some h) is = within (is_live op.moment h.until) where
      low : h.item.cas ≤ (after s es).events
      low =
          let count = item-low s es run (key_of op.act) h inside is in
          let reached =
          (keeps s es run up.group (home_in (after s es) op) ready.rank inside
          (subst (Lives (after s es)) ready.name (may.1, up.process))).reached in
          let last = low-at (of_rank (home_in (after s es) op) ready.rank) (home_in (after s es) op)
          (subst (Lives (after s es)) ready.name (may.1, up.process)) in
          omega (arith, count, reached, last)

      within : (b : Bool) → LiveLow (after s es).events (if b then Some h else None)
      within true = low
      within false = tt

  by : (a : Answer) → a ≡ (step w (Ask caller op p)).turn.answer
      → AskCause (after s es) (step (after s es) (Ask caller op p)).world p op a
      → AnswerFits bases (home_of (key_of op.act) (after s es).shape.k) a
  by (says.Reply r) is (up, ready, cause) = shown r (subst (ShowsLow (after s es).events) (sym cause)
      (shows-low (after s es).events op.moment (count_of (table_now (after s es)) (key_of op.act) + 1) op.act
      (live_at op.moment ((table_now (after s es)).items (key_of op.act))) (live up ready)))
  by (says.Ticket n) is (up, ready, cause) = fits (home_of (key_of op.act) (after s es).shape.k) n
      (let last = low-at p (home_in (after s es) op) (may.1, up.process) in let next = cause.next in
      omega (arith, last, next))
  by (says.Retry (cause.Pending d n)) is (up, ready, cause) = fits d.0 n
      (let waits : AskWaits (after s es) p op d.0 n = (waits_always s es run).asks caller op p d n may (sym is) in
      let last = low-at p d.0 (may.1, up.process) in let within = waits.unfinished.within in
      omega (arith, last, within))
  by (says.Retry (cause.Block b)) is why = tt
  by says.Lost is why = tt
  by says.Down is why = tt
  by says.Moved is why = tt
  by says.NotYet is why = tt
  by says.NoSpace is why = tt
  by says.Idle is why = tt
  by says.Stranger is why = tt
  by says.Done is why = tt
  by says.AlreadyDead is why = tt
  by says.Gone is why = tt
  by (says.Stale n) is why = tt
