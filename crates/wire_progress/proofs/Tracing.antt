-- In a drained group the head of its partition tells what became of a call: a reply, or that it is gone.
use Rattle.std.proofs.Common.{ℕ, zero, suc, ◌≡◌, ◌<◌, ◌⊎◌, inl, inr, true, false, List, [], ◌∷◌, ◌++◌, take, Some, None, refl, sym, ap, subst, ◌∙◌, arith}
use Rattle.group_types.specs.Dimensions.{Dimensions}
use Rattle.group_types.specs.Hash.{home_of}
use Rattle.group_types.specs.Names.{IsHead, IsProcess, of_rank}
use Rattle.group_types.specs.declared.process.ProcessId.{ProcessId}
use Rattle.memc_table.specs.Act.{key_of}
use Rattle.memc_table.specs.declared.reply.Reply.{Reply}
use Rattle.group_message.specs.declared.kept.Kept.{Kept}
use Rattle.group_calls.specs.Turns.{name_of}
use Rattle.group_calls.specs.declared.event.Answer.{Answer}
use Rattle.group_calls.specs.declared.event.Answer.TheVariants as says
use Rattle.group_run.specs.Applying.{replica_of}
use Rattle.group_run.specs.Causes.{IsReady, IsUp, TraceCause, kept_at}
use Rattle.group_run.specs.Heading.{partition}
use Rattle.group_run.specs.Keeping.{IsKept, KeepsLast, last_by}
use Rattle.group_run.specs.Meaning.{IsDrained, Lives, process_of, updates_of}
use Rattle.group_run.specs.Progress.{IsQuiet}
use Rattle.group_run.specs.World.{World, step}
use Rattle.law_histories.proofs.Headed.{rank-in}
use Rattle.law_headline.proofs.Headlines.{calls_always}
use Rattle.law_answers.proofs.Traces.{traces_always}
use Rattle.law_progress.proofs.Quiet.{quiet_always}
use Rattle.group_wire.specs.Actions.{Action, Treat}
use Rattle.group_wire.specs.Composed.{AreActions, Composed, composed, events_of}
use Rattle.group_wire.specs.Composition.{machine}
use Rattle.group_wire.specs.GoingOn.{CanBe, IsEnd}
use Rattle.group_wire.specs.Serving.{stage_learned, stage_told, told_of}
use Rattle.group_wire.specs.Sets.{Processes}
use Rattle.group_wire.specs.State.{Request, TraceOf, Told, Unknown, TracedAt, OpenCall, gateway_of}
use Rattle.group_wire.proofs.Compositions.{runs_compose}
use Rattle.group_wire.proofs.GoingOn.{IsOther}
use Rattle.group_wire.proofs.Once.{its-ask}
use Rattle.group_wire.proofs.Positions.{CallFits, StageFits, asked_by, asked_in}
use Rattle.group_wire.proofs.Reaching.{can-be-then}
use Rattle.group_wire.proofs.Requests.{waits}
use Rattle.group_wire.proofs.Whole.{asked-of-logged, whole}
use Rattle.wire_progress.proofs.Ends.{Answers, IsToAsk}
use Rattle.wire_progress.proofs.Fates.{kept-logged}
use Rattle.wire_progress.proofs.Finished.{shape-machine}
use Rattle.wire_progress.proofs.Heading.{is-ready, is-up}
use Rattle.wire_progress.proofs.Learning.{Learned, Loaded, learns}
use Rattle.wire_progress.proofs.Making.{MakesOne}
use Rattle.wire_progress.proofs.Requesting.{answer, made, makes-it, reads, traces, treats-told}
use Rattle.wire_progress.proofs.Serving.{alive, going}
use Rattle.wire_progress.proofs.Tells.{told-or}
use Rattle.wire_progress.proofs.Waits.{answer_to}

module _ (s : Dimensions) (named : Processes) (caller : ℕ) (out : named (gateway_of s caller) ≡ false) (d r : ℕ)
    (below : d < s.k) (head : IsHead s.m named d r) where
  abbrev x : ProcessId
  x = of_rank d r

  xin : IsOther s named (of_rank d r)
  xin = (rank-in s d r below head.within, head.lives)

  module _ (actions : List Action) (run : AreActions s actions) (o : OpenCall)
      (loaded : Loaded s named caller o (of_rank d r) [] (TraceOf caller o.position d ∷ []) [] (composed s actions))
      (drained : IsDrained (machine (composed s actions))) (traced : o.stage ≡ TracedAt (of_rank d r)) where
    abbrev w : World
    w = machine (composed s actions)

    abbrev told : Answer
    told = answer s named caller out actions run (of_rank d r) xin o (TraceOf caller o.position d) loaded

    one : MakesOne (composed s actions) (Treat (of_rank d r) 0) (made s named caller out actions run (of_rank d r) xin o (TraceOf caller o.position d) loaded)
    one = makes-it s named caller out actions run (of_rank d r) xin o (TraceOf caller o.position d) loaded

    up : IsUp w (of_rank d r)
    up = is-up s named caller out actions run loaded.serves d r below head

    ready : IsReady w (of_rank d r) d
    ready = is-ready s named caller out actions run loaded.serves d r below head drained

    member : Lives w (of_rank d r)
    member = (subst (λ (t : Dimensions). IsProcess t (of_rank d r)) (sym (shape-machine s actions run)) xin.0, up.process)

    -- it has asked once more than its last position says
    asked-as : (asked_in (composed s actions) caller ≡ (composed s actions).group.gateways.next caller)
        × (suc o.position ≡ (composed s actions).group.gateways.next caller)
    asked-as = (fits.0, fits.2) where
      wait : ProcessId → ℕ
      wait = waits (composed s actions).group.shape (composed s actions).group.words.cut
          (composed s actions).group.gateways.requests (composed s actions).group.gateways.parked caller

      call_fits : CallFits (composed s actions).group.shape (composed s actions).failed wait
          (asked_in (composed s actions) caller) ((composed s actions).group.gateways.next caller) (Some o)
      call_fits = subst (CallFits (composed s actions).group.shape (composed s actions).failed wait
          (asked_in (composed s actions) caller) ((composed s actions).group.gateways.next caller)) loaded.open_call
          ((whole s actions run).positioned.calls caller
          (alive s named caller out actions run loaded.serves (gateway_of (composed s actions).group.shape caller)
          (subst (λ (t : Dimensions). named (gateway_of t caller) ≡ false) (sym (going s named caller out actions run loaded.serves).shape) out)))

      fits : StageFits (composed s actions).group.shape (composed s actions).failed wait
          (asked_in (composed s actions) caller) ((composed s actions).group.gateways.next caller) o.position
          (TracedAt (of_rank d r))
      fits = subst (StageFits (composed s actions).group.shape (composed s actions).failed wait
          (asked_in (composed s actions) caller) ((composed s actions).group.gateways.next caller) o.position) traced
          call_fits.1

    keeps : KeepsLast w d (replica_of (process_of w (of_rank d r)) d)
    keeps = by r member where
      by : (r : ℕ) → Lives w (of_rank d r) → KeepsLast w d (replica_of (process_of w (of_rank d r)) d)
      by zero member = (calls_always (composed s actions).group.shape (events_of (composed s actions)) (runs_compose s actions run).run).0.at_data d member
      by (suc i) member = (calls_always (composed s actions).group.shape (events_of (composed s actions)) (runs_compose s actions run).run).0.at_parity i d
          (subst (λ (t : Dimensions). d < t.k) (sym (shape-machine s actions run)) below) member

    -- so no later call is kept
    not-stale : (kept : Kept) → kept_at w (of_rank d r) d caller ≡ Some kept → o.position < kept.call → ⊥
    not-stale kept is later =
        let found = kept-logged w d (replica_of (process_of w (of_rank d r)) d) caller kept
        (subst (IsKept
        (last_by caller None (take (replica_of (process_of w (of_rank d r)) d).applied (updates_of w d)))) is
        (keeps caller loaded.serves.mine.low)) in
        let ask = its-ask (composed s actions).group.shape (composed s actions).made
        (runs_compose s actions run).headline.one_log (runs_compose s actions run).answers found.0 found.1 found.2 in
        let low = asked-of-logged (composed s actions).group.shape (composed s actions).made
        (whole s actions run).composes.makes (name_of found.1) found.1.op ask.0 ask.1 ask.2 in
        let same : asked_by (composed s actions).made found.1.caller ≡ asked_by (composed s actions).made caller =
        ap (asked_by (composed s actions).made) found.3 in
        let call = found.4 in
        let counts = asked-as.0 in
        let next = asked-as.1 in
        omega (arith, low, same, call, counts, next, later)

    quiet : IsQuiet w
    quiet = quiet_always (composed s actions).group.shape (events_of (composed s actions))
        (runs_compose s actions run).run drained (runs_compose s actions run).up

    outcome : ((reply : Reply) × (told ≡ says.Reply reply)) ⊎ (told ≡ says.Gone)
    outcome = by told refl (subst (TraceCause w (of_rank d r) caller o.position d) one.answer
        (traces_always (composed s actions).group.shape (events_of (composed s actions))
        (runs_compose s actions run).run caller o.position (partition d) (of_rank d r) one.may)) where
          by : (a : Answer) → told ≡ a → TraceCause w (of_rank d r) caller o.position d a → ((reply : Reply) × (told ≡ says.Reply reply)) ⊎ (told ≡ says.Gone)
          by (says.Reply reply) is why = inl (reply, is)
          by says.Gone is why = inr is
          by says.NotYet is why = absurd (quiet.traced caller o.position (partition d) (of_rank d r) one.may (one.answer ∙ is))
          by (says.Stale n) is why =
              absurd (let fate = why.2.1 in not-stale fate.0 fate.1 (let call = fate.2 in let later = fate.3 in
              omega (arith, call, later)))
          by says.Moved is why = absurd (why.1 ready)
          by says.Down is why = absurd (up.group why)
          by says.Lost is why = cc (why.1, up.process)
          by (says.Ticket n) is why = absurd why.2
          by says.NoSpace is why = absurd why.2
          by (says.Retry reason) is why = absurd why.2
          by says.Idle is why = absurd why.2
          by says.Stranger is why = absurd why.2
          by says.Done is why = absurd why.2
          by says.AlreadyDead is why = absurd why.2

    abbrev t : Told
    t = answer_to (TraceOf caller o.position d) told

    -- and the gateway learns it
    fated : CanBe s actions (λ c. Answers named caller o.op c ⊎ IsToAsk named caller o.op c)
    fated = can-be-then (λ c. Loaded s named caller o (of_rank d r) [] [] (t ∷ []) c
        × (machine c ≡ (step w (made s named caller out actions run (of_rank d r) xin o (TraceOf caller o.position d)
        loaded).event).world))
        (λ c. Answers named caller o.op c ⊎ IsToAsk named caller o.op c) s actions
        (treats-told s named caller out actions run (of_rank d r) xin o (TraceOf caller o.position d) loaded
        (one-told (told-or (TraceOf caller o.position d) told)) refl)
        (λ more longer l. learned (actions ++ more) (learns s named caller out (actions ++ more) longer o (of_rank d r)
        xin t l.0 refl refl (λ n. ap (stage_learned t n) traced)))
      where
        one-told : ((n : ℕ) × (told ≡ says.Ticket n)) ⊎ (told_of (TraceOf caller o.position d) told ≡ t ∷ [])
            → told_of (TraceOf caller o.position d) told ≡ t ∷ []
        one-told (inr is) = is
        one-told (inl (n, is)) = absurd (by outcome) where
          by : ((reply : Reply) × (told ≡ says.Reply reply)) ⊎ (told ≡ says.Gone) → ⊥
          by (inl (reply, same)) = cc (is, same)
          by (inr same) = cc (is, same)

        learned : (longer : List Action)
            → CanBe s longer (Learned s named caller o (of_rank d r) t (machine (composed s longer)))
            → CanBe s longer (λ c. Answers named caller o.op c ⊎ IsToAsk named caller o.op c)
        learned longer l = (l.0, l.1, by outcome, l.3) where
          by : ((reply : Reply) × (told ≡ says.Reply reply)) ⊎ (told ≡ says.Gone)
              → Answers named caller o.op (composed s (longer ++ l.0))
              ⊎ IsToAsk named caller o.op (composed s (longer ++ l.0))
          by (inl (reply, is)) = inl (record {
            serves = l.2.loaded.serves;
            call = record o { stage = stage_told t l.2.pinged told true };
            open_call = l.2.loaded.open_call;
            same_op = refl;
            told = t;
            pinged = l.2.pinged;
            stage = ap (λ (a : Answer). stage_told t l.2.pinged a true) is;
            ends = subst IsEnd (sym is) tt;
          })
          by (inr is) = inr (record {
            serves = l.2.loaded.serves;
            call = record o { stage = stage_told t l.2.pinged told true };
            open_call = l.2.loaded.open_call;
            same_op = refl;
            stage = ap (λ (a : Answer). stage_told t l.2.pinged a true) is;
          })

  -- from the start
  pub traces-fate : (actions : List Action) (run : AreActions s actions) (o : OpenCall)
      → Loaded s named caller o (of_rank d r) [] [] [] (composed s actions) → IsDrained (machine (composed s actions))
      → o.stage ≡ Unknown
      → home_of (key_of o.op.act) s.k ≡ d → CanBe s actions (λ c. Answers named caller o.op c ⊎ IsToAsk named caller o.op c)
  traces-fate actions run o loaded drained unknown home =
      can-be-then Sent End s actions
      (subst (λ (e : ℕ). CanBe s actions
      (λ c. Loaded s named caller now (of_rank d r) (TraceOf caller o.position e ∷ []) [] [] c
      × (machine c ≡ machine (composed s actions)))) home
      (traces s named caller out actions run (of_rank d r) xin o loaded unknown))
      (λ more longer sent. can-be-then (λ c. Loaded s named caller now (of_rank d r) [] (request ∷ []) [] c
      × (machine c ≡ machine (composed s (actions ++ more)))) End s (actions ++ more)
      (reads s named caller out (actions ++ more) longer (of_rank d r) xin now request sent.0)
      (λ again later read. fated (actions ++ more ++ again) later now read.0 (subst IsDrained (sym (read.1 ∙ sent.1)) drained) refl))
    where
      now : OpenCall
      now = record o { stage = TracedAt (of_rank d r) }

      request : Request
      request = TraceOf caller o.position d

      Sent : Composed → Type 0
      Sent c = Loaded s named caller now (of_rank d r) (request ∷ []) [] [] c × (machine c ≡ machine (composed s actions))

      End : Composed → Type 0
      End c = Answers named caller o.op c ⊎ IsToAsk named caller o.op c
