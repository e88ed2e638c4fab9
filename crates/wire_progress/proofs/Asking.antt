-- In a drained group the head of its partition answers a call by a reply, want of space or a ticket, or has to rebuild a block.
use Rattle.std.proofs.Common.{ℕ, ◌≡◌, ◌<◌, ◌⊎◌, inl, inr, Bool, false, List, [], ◌∷◌, ◌++◌, refl, sym, ap, subst, ◌∙◌}
use Rattle.group_types.specs.Dimensions.{Dimensions}
use Rattle.group_types.specs.Hash.{home_of}
use Rattle.group_types.specs.Names.{IsHead, of_rank}
use Rattle.group_types.specs.declared.process.ProcessId.{ProcessId}
use Rattle.memc_table.specs.Act.{key_of}
use Rattle.memc_table.specs.Asked.{Asked}
use Rattle.group_calls.specs.declared.event.Answer.{Answer}
use Rattle.group_calls.specs.declared.event.Answer.TheVariants as says
use Rattle.group_calls.specs.declared.event.Cause.TheVariants as cause
use Rattle.group_calls.specs.declared.event.Event.TheVariants as event
use Rattle.group_run.specs.Causes.{AskCause, IsReady, IsUp, home_in}
use Rattle.group_run.specs.Headline.{MayCome}
use Rattle.group_run.specs.Meaning.{IsDrained}
use Rattle.group_run.specs.Progress.{IsQuiet}
use Rattle.group_run.specs.World.{World, step}
use Rattle.law_histories.proofs.Headed.{rank-in}
use Rattle.law_answers.proofs.Asks.{asks_always}
use Rattle.law_progress.proofs.Quiet.{quiet_always}
use Rattle.group_wire.specs.Actions.{Action, Treat}
use Rattle.group_wire.specs.Composed.{AreActions, Composed, composed, events_of}
use Rattle.group_wire.specs.Composition.{machine}
use Rattle.group_wire.specs.GoingOn.{CanBe, IsEnd}
use Rattle.group_wire.specs.Serving.{stage_learned, stage_told, told_of}
use Rattle.group_wire.specs.Sets.{Processes}
use Rattle.group_wire.specs.State.{AskFor, Told, Unasked, AskedOf, Answered, OpenCall, gateway_of}
use Rattle.group_wire.proofs.Compositions.{runs_compose}
use Rattle.group_wire.proofs.GoingOn.{IsOther}
use Rattle.group_wire.proofs.Reaching.{can-be-then}
use Rattle.wire_progress.proofs.Ends.{Answers, AwaitsUpdate}
use Rattle.wire_progress.proofs.Finished.{shape-machine}
use Rattle.wire_progress.proofs.Heading.{is-ready, is-up}
use Rattle.wire_progress.proofs.Learning.{Learned, Loaded, learns}
use Rattle.wire_progress.proofs.Making.{MakesOne}
use Rattle.wire_progress.proofs.Requesting.{answer, asks, made, makes-it, reads, treats-ticket, treats-told}
use Rattle.wire_progress.proofs.Tells.{told-or}
use Rattle.wire_progress.proofs.Waits.{IsHeld, answer_to}

-- what an ask may be answered there
pub data AskOutcome (a : Answer) : Type 0 where
  Ends : IsEnd a → AskOutcome a
  Waits : (n : ℕ) → a ≡ says.Ticket n → AskOutcome a
  Needs : (b : ℕ) → a ≡ says.Retry (cause.Block b) → AskOutcome a

-- a block has to be rebuilt, and the call is to be asked again
pub record AsksAgain (s : Dimensions) (named : Processes) (caller : ℕ) (x : ProcessId) (op : Asked) (w : World) (c : Composed) : Type 0 where
  pub call : OpenCall
  pub loaded : Loaded s named caller call x [] [] [] c
  pub same_op : call.op ≡ op
  pub stage : call.stage ≡ Unasked
  pub block : ℕ
  pub may : MayCome w (event.Ask caller op x)
  pub waits : (step w (event.Ask caller op x)).turn.answer ≡ says.Retry (cause.Block block)
  pub world : machine c ≡ (step w (event.Ask caller op x)).world

-- an answer that ends a call
end-stage : (t : Told) (n : ℕ) (a : Answer) (b : Bool) → IsEnd a → stage_told t n a b ≡ Answered t n
end-stage t n (says.Reply reply) b end = refl
end-stage t n says.NoSpace b end = refl
end-stage t n (says.Ticket i) b end = absurd end
end-stage t n says.NotYet b end = absurd end
end-stage t n (says.Retry reason) b end = absurd end
end-stage t n says.Moved b end = absurd end
end-stage t n says.Lost b end = absurd end
end-stage t n says.Down b end = absurd end
end-stage t n says.Idle b end = absurd end
end-stage t n says.Stranger b end = absurd end
end-stage t n says.Done b end = absurd end
end-stage t n says.AlreadyDead b end = absurd end
end-stage t n says.Gone b end = absurd end
end-stage t n (says.Stale i) b end = absurd end

module _ (s : Dimensions) (named : Processes) (caller : ℕ) (out : named (gateway_of s caller) ≡ false) (d r : ℕ)
    (below : d < s.k) (head : IsHead s.m named d r) where
  xin : IsOther s named (of_rank d r)
  xin = (rank-in s d r below head.within, head.lives)

  abbrev pub IsAsked : Asked → World → Composed → Type 0
  IsAsked op w c = Answers named caller op c ⊎ AwaitsUpdate s named caller op c ⊎ AsksAgain s named caller (of_rank d r) op w c

  module _ (actions : List Action) (run : AreActions s actions) (o : OpenCall)
      (loaded : Loaded s named caller o (of_rank d r) [] (AskFor caller o.position o.op ∷ []) [] (composed s actions))
      (drained : IsDrained (machine (composed s actions))) (asked : o.stage ≡ AskedOf (of_rank d r)) (home : home_of (key_of o.op.act) s.k ≡ d) where
    abbrev w : World
    w = machine (composed s actions)

    abbrev told : Answer
    told = answer s named caller out actions run (of_rank d r) xin o (AskFor caller o.position o.op) loaded

    one : MakesOne (composed s actions) (Treat (of_rank d r) 0) (made s named caller out actions run (of_rank d r) xin o (AskFor caller o.position o.op) loaded)
    one = makes-it s named caller out actions run (of_rank d r) xin o (AskFor caller o.position o.op) loaded

    up : IsUp w (of_rank d r)
    up = is-up s named caller out actions run loaded.serves d r below head

    ready : IsReady w (of_rank d r) (home_in w o.op)
    ready = subst (λ (t : Dimensions). IsReady w (of_rank d r) (home_of (key_of o.op.act) t.k)) (sym (shape-machine s actions run))
        (subst (IsReady w (of_rank d r)) (sym home) (is-ready s named caller out actions run loaded.serves d r below head drained))

    quiet : IsQuiet w
    quiet = quiet_always (composed s actions).group.shape (events_of (composed s actions))
        (runs_compose s actions run).run drained (runs_compose s actions run).up

    outcome : AskOutcome told
    outcome = by told refl (subst (AskCause w (step w (event.Ask caller o.op (of_rank d r))).world (of_rank d r) o.op) one.answer
        (asks_always (composed s actions).group.shape (events_of (composed s actions)) (runs_compose s actions run).run
        caller o.op (of_rank d r) one.may)) where
          by : (a : Answer) → told ≡ a → AskCause w (step w (event.Ask caller o.op (of_rank d r))).world (of_rank d r) o.op a → AskOutcome told
          by (says.Reply reply) is why = Ends (subst IsEnd (sym is) tt)
          by says.NoSpace is why = Ends (subst IsEnd (sym is) tt)
          by (says.Ticket n) is why = Waits n is
          by (says.Retry (cause.Block b)) is why = Needs b is
          by (says.Retry (cause.Pending e n)) is why = absurd (quiet.asked caller o.op (of_rank d r) one.may (e, n, one.answer ∙ is))
          by says.Moved is why = absurd (why.1 ready)
          by says.Down is why = absurd (up.group why)
          by says.Lost is why = cc (why.1, up.process)
          by says.NotYet is why = absurd why.2
          by says.Gone is why = absurd why.2
          by (says.Stale n) is why = absurd why.2
          by says.Idle is why = absurd why.2
          by says.Stranger is why = absurd why.2
          by says.Done is why = absurd why.2
          by says.AlreadyDead is why = absurd why.2

    abbrev t : Told
    t = answer_to (AskFor caller o.position o.op) told

    abbrev End : Composed → Type 0
    End c = IsAsked o.op w c

    -- an answer is learned, and ends the call, or tells to ask again
    learned : told_of (AskFor caller o.position o.op) told ≡ t ∷ [] → AskOutcome told → CanBe s actions End
    learned one-told which = can-be-then (λ c. Loaded s named caller o (of_rank d r) [] [] (t ∷ []) c
        × (machine c ≡ (step w (event.Ask caller o.op (of_rank d r))).world)) End s actions
        (treats-told s named caller out actions run (of_rank d r) xin o (AskFor caller o.position o.op) loaded one-told refl)
        (λ more longer l. by which more l.1 (learns s named caller out (actions ++ more) longer o (of_rank d r) xin t
        l.0 refl refl (λ n. ap (stage_learned t n) asked)))
      where
        by : AskOutcome told → (more : List Action) → machine (composed s (actions ++ more)) ≡ (step w (event.Ask caller o.op (of_rank d r))).world
            → CanBe s (actions ++ more) (Learned s named caller o (of_rank d r) t (machine (composed s (actions ++ more)))) → CanBe s (actions ++ more) End
        by (Ends end) more world l = (
          l.0,
          l.1,
          inl (record {
            serves = l.2.loaded.serves;
            call = record o { stage = stage_told t l.2.pinged told false };
            open_call = l.2.loaded.open_call;
            same_op = refl;
            told = t;
            pinged = l.2.pinged;
            stage = end-stage t l.2.pinged told false end;
            ends = end;
          }),
          l.3,
        )
        by (Waits n is) more world l = absurd (cc (one-told, ap (told_of (AskFor caller o.position o.op)) is))
        by (Needs b is) more world l = (
          l.0,
          l.1,
          inr (inr (record {
            call = record o { stage = stage_told t l.2.pinged told false };
            loaded = l.2.loaded;
            same_op = refl;
            stage = ap (λ (a : Answer). stage_told t l.2.pinged a false) is;
            block = b;
            may = one.may;
            waits = one.answer ∙ is;
            world = l.2.world ∙ world;
          })),
          l.3,
        )

    -- a ticket's call is held
    ticket : (n : ℕ) → told ≡ says.Ticket n → CanBe s actions End
    ticket n is = by (treats-ticket s named caller out actions run (of_rank d r) xin o (AskFor caller o.position o.op) loaded n is) where
      by : CanBe s actions (λ c. Loaded s named caller o (of_rank d r) [] [] [] c
          × IsHeld s (c.group.works.process (of_rank d r)) (AskFor caller o.position o.op)) → CanBe s actions End
      by c = (
        c.0,
        c.1,
        inr (inl (record {
          serves = c.2.0.serves;
          call = o;
          open_call = c.2.0.open_call;
          same_op = refl;
          holder = of_rank d r;
          other = xin;
          stage = asked;
          held = c.2.1;
          between = (c.2.0.told, c.2.0.kept, c.2.0.asked);
        })),
        c.3,
      )

    asked-end : CanBe s actions End
    asked-end = by (told-or (AskFor caller o.position o.op) told) where
      by : ((n : ℕ) × (told ≡ says.Ticket n)) ⊎ (told_of (AskFor caller o.position o.op) told ≡ t ∷ []) → CanBe s actions End
      by (inl (n, is)) = ticket n is
      by (inr one-told) = learned one-told outcome

  -- from the start
  pub asks-head : (actions : List Action) (run : AreActions s actions) (o : OpenCall)
      → Loaded s named caller o (of_rank d r) [] [] [] (composed s actions) → IsDrained (machine (composed s actions))
      → o.stage ≡ Unasked
      → home_of (key_of o.op.act) s.k ≡ d → CanBe s actions (IsAsked o.op (machine (composed s actions)))
  asks-head actions run o loaded drained unasked home =
      can-be-then Sent End s actions (asks s named caller out actions run (of_rank d r) xin o loaded unasked)
      (λ more longer sent.
      can-be-then (λ c. Loaded s named caller (now sent.0) (of_rank d r) [] (AskFor caller sent.0 o.op ∷ []) [] c
      × (machine c ≡ machine (composed s (actions ++ more)))) End s (actions ++ more)
      (reads s named caller out (actions ++ more) longer (of_rank d r) xin (now sent.0) (AskFor caller sent.0 o.op) sent.1)
      (λ again later read. subst (λ (w : World). CanBe s (actions ++ more ++ again) (IsAsked o.op w)) (read.1 ∙ sent.2)
      (asked-end (actions ++ more ++ again) later (now sent.0) read.0 (subst IsDrained (sym (read.1 ∙ sent.2)) drained) refl home)))
    where
      now : ℕ → OpenCall
      now position = record o { position = position; stage = AskedOf (of_rank d r) }

      Sent : Composed → Type 0
      Sent c = (position : ℕ) × Loaded s named caller (now position) (of_rank d r) (AskFor caller position o.op ∷ []) []
          [] c × (machine c ≡ machine (composed s actions))

      End : Composed → Type 0
      End c = IsAsked o.op (machine (composed s actions)) c
