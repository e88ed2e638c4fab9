-- In a drained group a held call is handed out, and its gateway learns the reply.
use Rattle.std.proofs.Common.{ℕ, ◌≡◌, ◌<◌, ◌==◌, ◌&&◌, Bool, true, false, List, [], ◌∷◌, ◌++◌, length, Some, Contains, refl, sym, ap, subst, ◌∙◌, arith}
use Rattle.std.proofs.lemmas.Bool.{eq-eqb}
use Rattle.std.specs.List.{range_with_len}
use Rattle.group_types.specs.Dimensions.{Dimensions}
use Rattle.group_types.specs.Hash.{home_of}
use Rattle.group_types.specs.Names.{IsProcess}
use Rattle.group_types.specs.declared.process.ProcessId.{ProcessId}
use Rattle.memc_table.specs.Act.{key_of}
use Rattle.memc_table.specs.declared.reply.Reply.{Reply}
use Rattle.group_message.specs.declared.update.Update.{Update}
use Rattle.group_calls.specs.declared.event.Answer.{Answer}
use Rattle.group_calls.specs.declared.event.Answer.TheVariants as says
use Rattle.group_calls.specs.declared.event.Event.TheVariants as event
use Rattle.group_run.specs.Applying.{held_at, replica_of}
use Rattle.group_run.specs.Asking.{CallStep, collect_from, is_call}
use Rattle.group_run.specs.Causes.{CollectCause, HoldsCall}
use Rattle.group_run.specs.Meaning.{IsDrained, is_dead, process_of}
use Rattle.group_run.specs.Process.{Held, Process}
use Rattle.group_run.specs.World.{World}
use Rattle.law_answers.proofs.Walks.{collects_always}
use Rattle.law_causes.specs.Waiting.{CollectWaits}
use Rattle.law_causes.proofs.Always.{waits_always}
use Rattle.group_wire.specs.Actions.{Action, Collect}
use Rattle.group_wire.specs.Composed.{AreActions, Made, composed, events_of, stands_if}
use Rattle.group_wire.specs.Composition.{machine}
use Rattle.group_wire.specs.GoingOn.{CanBe}
use Rattle.group_wire.specs.Serving.{handed_to, stage_learned, tell}
use Rattle.group_wire.specs.Sets.{Processes}
use Rattle.group_wire.specs.State.{AskFor, Told, AskedOf, Answered, OpenCall, Gateways, gateway_of}
use Rattle.group_wire.specs.Sending.{sent_on, stepped}
use Rattle.group_wire.proofs.AtOnce.{sent-here}
use Rattle.group_wire.proofs.Compositions.{runs_compose}
use Rattle.group_wire.proofs.GoingOn.{IsOther, here-other, uncut}
use Rattle.group_wire.proofs.Reaching.{can-be-then}
use Rattle.group_wire.proofs.Whole.{whole}
use Rattle.wire_progress.proofs.Ends.{Answers}
use Rattle.wire_progress.proofs.Finished.{home-below, logs-empty, shape-machine}
use Rattle.wire_progress.proofs.Learning.{Learned, Loaded, learns}
use Rattle.wire_progress.proofs.Making.{MakesOne, makes-one}
use Rattle.wire_progress.proofs.Serving.{Between, CanServe, acts, alive, few, going, same-process, serves-still}
use Rattle.wire_progress.proofs.Waits.{IsHeld, answer_to}

named-call : (caller call : ℕ) (x : Held) → x.caller ≡ caller → x.call ≡ call → is_call caller call x ≡ true
named-call caller call x whose which = ap (λ (b : Bool). b && (x.call == call)) (eq-eqb x.caller caller whose) ∙ eq-eqb x.call call which

module _ (s : Dimensions) (named : Processes) (caller : ℕ) (out : named (gateway_of s caller) ≡ false) where
  module _ (actions : List Action) (run : AreActions s actions)
      (serves : CanServe named caller (composed s actions).group) (drained : IsDrained (machine (composed s actions)))
      (o : OpenCall) (call : (composed s actions).group.gateways.call caller ≡ Some o) (x : ProcessId) (xin : IsOther s named x)
      (held : IsHeld s ((composed s actions).group.works.process x) (AskFor caller o.position o.op))
      (between : Between (gateway_of s caller) x (composed s actions).group.gateways) where
    abbrev handed : CallStep
    handed = collect_from caller o.position ((composed s actions).group.works.process x) (range_with_len 0 (composed s actions).group.shape.k)

    abbrev m : Made
    m = record { event = event.Collect caller o.position x; answer = handed.answer }

    shape : (composed s actions).group.shape ≡ s
    shape = (going s named caller out actions run serves).shape

    x-process : IsProcess (composed s actions).group.shape x
    x-process = subst (λ (t : Dimensions). IsProcess t x) (sym shape) xin.0

    one : MakesOne (composed s actions) (Collect caller o.position x) m
    one = makes-one (composed s actions) (whole s actions run) (Collect caller o.position x) (
      serves.mine.low,
      here-other s named (few s named caller out actions run serves) (composed s actions).group
          (going s named caller out actions run serves) x xin,
    ) m
        (ap (λ (b : Bool). stands_if b (m ∷ [])) (alive s named caller out actions run serves x xin.1))

    w : World
    w = machine (composed s actions)

    cause : CollectCause (machine (composed s actions)) x caller o.position handed.answer
    cause = subst (CollectCause (machine (composed s actions)) x caller o.position) one.answer
        (collects_always (composed s actions).group.shape (events_of (composed s actions)) (runs_compose s actions run).run caller o.position x one.may)

    lives : is_dead (machine (composed s actions)) x ≡ false
    lives = (runs_compose s actions run).dead x x-process ∙ alive s named caller out actions run serves x xin.1

    -- the held call
    holds : (d : ℕ) × (h : Held) × HoldsCall (machine (composed s actions)) x caller o.position d h
    holds = (
      home_of (key_of o.op.act) s.k,
      held.0,
      record {
        partition = low;
        held = subst (λ (p : Process). Contains (held_at p (home_of (key_of o.op.act) s.k)) held.0)
            (sym (same-process s named caller out actions run serves x xin)) held.1;
        named = named-call caller o.position held.0 held.2 held.3;
      },
    ) where
      low : home_of (key_of o.op.act) s.k < (machine (composed s actions)).shape.k
      low = subst (λ (t : Dimensions). home_of (key_of o.op.act) s.k < t.k) (sym (shape-machine s actions run)) (home-below (key_of o.op.act) s.k run.0.k.0)

    -- it doesn't wait
    waits-not : CollectWaits (machine (composed s actions)) x caller o.position → ⊥
    waits-not cw =
        let none : (replica_of (process_of (machine (composed s actions)) x) cw.partition).log ≡ [] =
        logs-empty (composed s actions).group.shape (events_of (composed s actions)) (runs_compose s actions run).run drained x cw.partition cw.head
        (subst (λ (t : Dimensions). IsProcess t x) (sym (shape-machine s actions run)) xin.0, lives) cw.holds.partition cw.unfinished.heads in
        let long : length (replica_of (process_of (machine (composed s actions)) x) cw.partition).log ≡ 0 = ap (λ (us : List Update). length us) none in
        let above = cw.unfinished.above in
        let within = cw.unfinished.within in
        omega (arith, long, above, within)

    pub replied : (reply : Reply) × (handed.answer ≡ says.Reply reply)
    replied = by handed.answer refl cause where
      by : (a : Answer) → handed.answer ≡ a → CollectCause (machine (composed s actions)) x caller o.position a
          → (reply : Reply) × (handed.answer ≡ says.Reply reply)
      by (says.Reply reply) is why = (reply, is)
      by says.NotYet is why =
          absurd (waits-not
          ((waits_always (composed s actions).group.shape (events_of (composed s actions))
          (runs_compose s actions run).run).collects caller o.position x one.may (one.answer ∙ is)))
      by says.Stranger is why = absurd (why.1 holds.0 holds.1 holds.2)
      by says.Down is why = absurd ((runs_compose s actions run).up why)
      by says.Lost is why = cc (why.1, lives)
      by (says.Ticket n) is why = absurd why
      by says.NoSpace is why = absurd why
      by (says.Retry reason) is why = absurd why
      by says.Moved is why = absurd why
      by says.Idle is why = absurd why
      by says.Done is why = absurd why
      by says.AlreadyDead is why = absurd why
      by says.Gone is why = absurd why
      by (says.Stale n) is why = absurd why

    abbrev pub reply_told : Told
    reply_told = answer_to (AskFor caller o.position o.op) (says.Reply replied.0)

    abbrev Is : Gateways → Type 0
    Is gw = (gw.call caller ≡ Some o) × (gw.requests (gateway_of s caller) x ≡ []) × (gw.parked x ≡ []) × (gw.answers x (gateway_of s caller) ≡ reply_told ∷ [])

    sent : Is (tell (composed s actions).group x (handed_to caller o.position handed.answer) (composed s actions).group.gateways)
    sent = subst (λ (a : Answer).
        Is (tell (composed s actions).group x (handed_to caller o.position a) (composed s actions).group.gateways))
        (sym replied.1) (call, between.2, between.1, there) where
          there : sent_on (composed s actions).group.words.cut (composed s actions).group.gateways.answers x
              (gateway_of (composed s actions).group.shape caller) reply_told x (gateway_of s caller) ≡ reply_told ∷ []
          there = subst (λ (e : Dimensions). sent_on (composed s actions).group.words.cut
              (composed s actions).group.gateways.answers x (gateway_of e caller) reply_told x (gateway_of s caller)
              ≡ reply_told ∷ []) (sym shape)
              (sent-here (composed s actions).group.words.cut (composed s actions).group.gateways.answers x (gateway_of s caller) reply_told
              (uncut s named (few s named caller out actions run serves) (composed s actions).group
              (going s named caller out actions run serves) x (gateway_of s caller) out)
              ∙ ap (λ (ts : List Told). ts ++ reply_told ∷ []) between.0)

    pub collects : CanBe s actions (Loaded s named caller o x [] [] (reply_told ∷ []))
    collects = acts s named caller out actions run serves (Collect caller o.position x) (Loaded s named caller o x [] [] (reply_told ∷ [])) tt (
      serves.mine.low,
      here-other s named (few s named caller out actions run serves) (composed s actions).group
          (going s named caller out actions run serves) x xin,
    )
        (record {
          serves = serves-still named caller (composed s actions).group
              (stepped (composed s actions).group.words.cut x handed.step (composed s actions).group.works)
              (tell (composed s actions).group x (handed_to caller o.position handed.answer) (composed s actions).group.gateways) serves;
          open_call = sent.0;
          asked = sent.1;
          kept = sent.2;
          told = sent.3;
        })

  -- so it is answered
  pub handed-out : (actions : List Action) (run : AreActions s actions)
      (serves : CanServe named caller (composed s actions).group) → IsDrained (machine (composed s actions))
      → (o : OpenCall) → (composed s actions).group.gateways.call caller ≡ Some o → (x : ProcessId) → IsOther s named x → o.stage ≡ AskedOf x
      → IsHeld s ((composed s actions).group.works.process x) (AskFor caller o.position o.op)
      → Between (gateway_of s caller) x (composed s actions).group.gateways
      → CanBe s actions (Answers named caller o.op)
  handed-out actions run serves drained o call x xin asked held between =
      can-be-then (Loaded s named caller o x [] [] (told ∷ [])) (Answers named caller o.op) s actions
      (collects actions run serves drained o call x xin held between)
      (λ more longer loaded. learned (actions ++ more) (learns s named caller out (actions ++ more) longer o x xin told
      loaded refl refl (λ n. ap (stage_learned told n) asked)))
    where
      told : Told
      told = reply_told actions run serves drained o call x xin held between

      learned : (longer : List Action) → CanBe s longer (Learned s named caller o x told (machine (composed s longer)))
          → CanBe s longer (Answers named caller o.op)
      learned longer r = (
        r.0,
        r.1,
        record {
          serves = r.2.loaded.serves;
          call = record o { stage = Answered told r.2.pinged };
          open_call = r.2.loaded.open_call;
          same_op = refl;
          told = told;
          pinged = r.2.pinged;
          stage = refl;
          ends = tt;
        },
        r.3,
      )
