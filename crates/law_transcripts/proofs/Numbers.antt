-- The numbers of what a group answers are within their limits, where its events are few.
use Rattle.std.proofs.Common.{◌≡◌, ◌<◌, ◌≤◌, ◌+◌, ◌^◌, ◌⊎◌, inl, inr, ℕ, zero, suc, false, List, [], ◌∷◌, ◌∙◌, length}
use Rattle.std.proofs.Common.{take, Some, None, refl, sym, ap, subst, arith}
use Rattle.std.proofs.lemmas.List.Elements.{All-head, All-tail, All-take}
use Rattle.std.specs.Prelude.{All}
use Rattle.group_types.specs.Dimensions.{Dimensions, callers, space_of}
use Rattle.group_types.specs.Lists.{at}
use Rattle.group_types.specs.Names.{of_rank}
use Rattle.group_types.specs.declared.process.Partition.{Partition}
use Rattle.group_types.specs.declared.process.ProcessId.{ProcessId}
use Rattle.memc_table.specs.Act.{key_of}
use Rattle.memc_table.specs.Asked.{Asked}
use Rattle.memc_table.specs.Contents.{empty_table}
use Rattle.memc_table.specs.declared.reply.Reply.{Reply}
use Rattle.group_message.specs.declared.kept.Kept.{Kept}
use Rattle.group_calls.specs.Turns.{log_of}
use Rattle.group_calls.specs.declared.event.Answer.{Answer}
use Rattle.group_calls.specs.declared.event.Answer.TheVariants as says
use Rattle.group_calls.specs.declared.event.Cause.TheVariants as cause
use Rattle.group_calls.specs.declared.event.Event.{Event}
use Rattle.group_calls.specs.declared.event.Event.TheVariants.{Ask, Collect, Deliver, Fail, Flush, Trace}
use Rattle.group_run.specs.Applying.{replica_of}
use Rattle.group_run.specs.Causes.{AskCause, FindsWindowFull, IsReady, TraceCause, WaitsForInherited, WaitsForKey, home_in, kept_at}
use Rattle.group_run.specs.Headline.{IsRun, MayCome}
use Rattle.group_run.specs.Keeping.{KeepsLast, last_by}
use Rattle.group_run.specs.Meaning.{Lives, process_of, updates_of}
use Rattle.group_run.specs.Replica.{Replica, empty_replica, last_of}
use Rattle.group_run.specs.World.{World, after, opening, step, turns_from, turns_of, world_after}
use Rattle.law_headline.proofs.Headlines.{calls_always, headline_always}
use Rattle.law_answers.proofs.Answering.{answers_always}
use Rattle.law_answers.proofs.Numbers.{numbers_low_always}
use Rattle.law_causes.proofs.Always.{waits_always}
use Rattle.law_causes.specs.Waiting.{AskWaits}
use Rattle.scenario_run.proofs.Leading.{keeps-shape}
use Rattle.transcript_text.specs.Forms.{FitsAnswer, FitsReply, MayAnswer, can_have}
use Rattle.transcript_text.specs.declared.form.Form.TheVariants as form
use Rattle.transcript_text.specs.declared.kind.Kind.{Kind}
use Rattle.transcript_text.specs.declared.kind.Kind.TheVariants as kind
use Rattle.run_verify.proofs.Logging.{home-in}
use Rattle.law_transcripts.proofs.Answers.{may-answer}
use Rattle.law_transcripts.proofs.Blocks.{block-low}
use Rattle.law_transcripts.proofs.Logs.{calls-few}
use Rattle.law_transcripts.proofs.Latest.{kept-call, last-has, updates-all}

-- ---- how many events

pub turns-long : (w : World) (es : List Event) → length (turns_from w es) ≡ length es
turns-long w [] = refl
turns-long w (e ∷ es) = ap suc (turns-long (step w e).world es)

pub events-long : (w : World) (es : List Event) → (world_after w es).events ≡ w.events + length es
events-long w [] = omega arith
events-long w (e ∷ es) = let rest = events-long (step w e).world es in omega (arith, rest)

last-low : (rs : List Replica) (n d : ℕ) → All (λ r. last_of r ≤ n) rs → last_of (at empty_replica rs d) ≤ n
last-low [] n d low = omega arith
last-low (r ∷ rs) n zero low = All-head (λ r. last_of r ≤ n) r rs low
last-low (r ∷ rs) n (suc d) low = last-low rs n d (All-tail (λ r. last_of r ≤ n) r rs low)

-- ---- of a run of the machine

module _ (s : Dimensions) (es : List Event) (ran : IsRun s es) (few : (after s es).events < 2 ^ 62) where
  shape-is : (after s es).shape ≡ s
  shape-is = keeps-shape (opening s) es

  k-some : 1 ≤ (after s es).shape.k
  k-some = subst (λ (d : Dimensions). 1 ≤ d.k) (sym shape-is) (ran.0).k.0

  k-few : (after s es).shape.k ≤ 16
  k-few = subst (λ (d : Dimensions). d.k ≤ 16) (sym shape-is) (ran.0).k.1

  space-few : space_of (after s es).shape ≤ 67108864
  space-few = subst (λ (d : Dimensions). space_of d ≤ 67108864) (sym shape-is) (ran.0).blocks.1

  low-at : (q : ProcessId) (d : ℕ) → Lives (after s es) q → last_of (replica_of (process_of (after s es) q) d) ≤ (after s es).events
  low-at q d lives = last-low (process_of (after s es) q).replicas (after s es).events d ((numbers_low_always s es ran).updates q lives)

  -- no call of the log has a number above that of the events
  calls-low : All (λ e. e.call ≤ (after s es).events) (after s es).log
  calls-low =
      let one_log = (headline_always s es ran).one_log in
      let many : length (turns_of s es) ≡ (after s es).events = turns-long (opening s) es ∙ (let n = events-long (opening s) es in omega (arith, n)) in
      subst (All (λ e. e.call ≤ (after s es).events)) (sym one_log.kept)
      (subst (λ (n : ℕ). All (λ e. e.call ≤ n) (log_of (turns_of s es))) many (calls-few s.k (turns_of s es) one_log.within))

  keeps-last : (d r : ℕ) → d < (after s es).shape.k → Lives (after s es) (of_rank d r)
      → KeepsLast (after s es) d (replica_of (process_of (after s es) (of_rank d r)) d)
  keeps-last d zero low lives = (calls_always s es ran).0.at_data d lives
  keeps-last d (suc i) low lives = (calls_always s es ran).0.at_parity i d low lives

  -- nor has a call that is kept
  kept-low : (p : ProcessId) (d caller : ℕ) (k : Kept) → IsReady (after s es) p d → d < (after s es).shape.k → Lives (after s es) p → caller < callers
      → kept_at (after s es) p d caller ≡ Some k
      → k.call ≤ (after s es).events
  kept-low p d caller k ready low lives known is =
      let r : Replica = replica_of (process_of (after s es) p) d in
      let keeps : KeepsLast (after s es) d r = subst (λ (q : ProcessId). KeepsLast (after s es) d (replica_of (process_of (after s es) q) d)) (sym ready.name)
      (keeps-last d ready.rank low (subst (Lives (after s es)) ready.name lives)) in
      let all : All (λ u. u.entry.call ≤ (after s es).events) (updates_of (after s es) d)
      = updates-all (λ e. e.call ≤ (after s es).events) (after s es).shape.k d (empty_table (after s es).shape.k) (at [] (after s es).places d)
      (after s es).log calls-low in
      kept-call (last_by caller None (take r.applied (updates_of (after s es) d))) (at None r.kept caller) k (after s es).events (keeps caller known) is
      (λ u there. last-has (λ v. v.entry.call ≤ (after s es).events) caller (take r.applied (updates_of (after s es) d)) None (λ v none. absurd (cc none))
      (All-take (λ v. v.entry.call ≤ (after s es).events) r.applied (updates_of (after s es) d) all) u there)

  abbrev pub Replies : Answer → Type 0
  Replies a = (r : Reply) → a ≡ says.Reply r → FitsReply r

  -- an ask's answer
  module _ (caller : ℕ) (op : Asked) (p : ProcessId) (may : MayCome (after s es) (Ask caller op p)) where
    home-low : home_in (after s es) op < (after s es).shape.k
    home-low = home-in (key_of op.act) (after s es).shape.k k-some

    partition-low : (d n : ℕ) → WaitsForKey (after s es) p op d n ⊎ FindsWindowFull (after s es) p op d n ⊎ WaitsForInherited (after s es) p op d n
        → d < (after s es).shape.k
    partition-low d n (inl waits) = let home = waits.home in let low = home-low in omega (arith, home, low)
    partition-low d n (inr (inl full)) = let home = full.home in let low = home-low in omega (arith, home, low)
    partition-low d n (inr (inr waits)) = waits.partition

    asked-fits : (a : Answer) → a ≡ (step (after s es) (Ask caller op p)).turn.answer
        → AskCause (after s es) (step (after s es) (Ask caller op p)).world p op a → Replies a → FitsAnswer a
    asked-fits (says.Reply r) is why replies = replies r refl
    asked-fits (says.Ticket n) is (up, ready, why) replies = let last = low-at p (home_in (after s es) op) (may.1, up.process) in let next = why.next in omega
        (arith, last, next, few)
    asked-fits (says.Retry (cause.Pending d n)) is (up, ready, why) replies =
        let waits : AskWaits (after s es) p op d.0 n = (waits_always s es ran).asks caller op p d n may (sym is) in
        let last = low-at p d.0 (may.1, up.process) in
        let within = waits.unfinished.within in
        let low = partition-low d.0 n why in
        let most = k-few in
        (omega (arith, low, most), omega (arith, last, within, few))
    asked-fits (says.Retry (cause.Block b)) is (up, ready, why) replies =
        let low = block-low s es ran p op up ready home-low (may.1, up.process) b why.0 in let most = space-few in omega (arith, low, most)
    asked-fits (says.Stale n) is why replies = absurd why.2
    asked-fits answer is why replies = tt

  -- a trace's
  module _ (caller call : ℕ) (d : Partition) (p : ProcessId) (may : MayCome (after s es) (Trace caller call d p)) where
    traced-fits : (a : Answer) → TraceCause (after s es) p caller call d.0 a → Replies a → FitsAnswer a
    traced-fits (says.Reply r) why replies = replies r refl
    traced-fits (says.Stale n) (up, ready, why) replies =
        let kept : Kept = why.1.0 in
        let low = kept-low p d.0 caller kept ready may.2 (may.3, up.process) may.0 why.1.1 in
        let same : kept.call ≡ n = why.1.2 in
        omega (arith, low, same, few)
    traced-fits (says.Ticket n) why replies = absurd why.2
    traced-fits (says.Retry c) why replies = absurd why.2
    traced-fits answer why replies = tt

  -- a kind of event whose answers have no number but a reply's
  plain-fits : (k : Kind) → can_have k form.Ticket ≡ false → can_have k form.Retry ≡ false → can_have k form.Stale ≡ false → (a : Answer) → MayAnswer k a
      → Replies a → FitsAnswer a
  plain-fits k ticket retry stale (says.Reply r) may replies = replies r refl
  plain-fits k ticket retry stale (says.Ticket n) may replies = absurd (cc (sym ticket ∙ may))
  plain-fits k ticket retry stale (says.Retry c) may replies = absurd (cc (sym retry ∙ may))
  plain-fits k ticket retry stale (says.Stale n) may replies = absurd (cc (sym stale ∙ may))
  plain-fits k ticket retry stale answer may replies = tt

  pub answer-fits : (e : Event) → MayCome (after s es) e → Replies (step (after s es) e).turn.answer → FitsAnswer (step (after s es) e).turn.answer
  answer-fits (Ask caller op p) may replies = asked-fits caller op p may (step (after s es) (Ask caller op p)).turn.answer refl
      (answers_always s es ran (Ask caller op p) may) replies
  answer-fits (Trace caller call d p) may replies = traced-fits caller call d p may (step (after s es) (Trace caller call d p)).turn.answer
      (answers_always s es ran (Trace caller call d p) may) replies
  answer-fits (Collect caller call p) may replies = plain-fits kind.Collect refl refl refl (step (after s es) (Collect caller call p)).turn.answer
      (may-answer s es (Collect caller call p) ran may) replies
  answer-fits (Deliver from to) may replies = plain-fits kind.Deliver refl refl refl (step (after s es) (Deliver from to)).turn.answer
      (may-answer s es (Deliver from to) ran may) replies
  answer-fits (Fail p keep) may replies = plain-fits kind.Fail refl refl refl (step (after s es) (Fail p keep)).turn.answer
      (may-answer s es (Fail p keep) ran may) replies
  answer-fits (Flush p) may replies = plain-fits kind.Flush refl refl refl (step (after s es) (Flush p)).turn.answer (may-answer s es (Flush p) ran may) replies
