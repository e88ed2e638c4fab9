-- A gateway sends a member a request, where nothing stands between the two, and the member reads it and treats it.
use Rattle.std.proofs.Common.{ℕ, ◌≡◌, Bool, false, List, [], ◌∷◌, ◌++◌, Option, Some, refl, sym, ap, subst, ◌∙◌}
use Rattle.group_types.specs.Dimensions.{Dimensions}
use Rattle.group_types.specs.Hash.{home_of}
use Rattle.group_types.specs.Names.{IsProcess}
use Rattle.group_types.specs.declared.process.ProcessId.{ProcessId}
use Rattle.memc_table.specs.Act.{key_of}
use Rattle.group_calls.specs.declared.event.Answer.{Answer}
use Rattle.group_calls.specs.declared.event.Answer.TheVariants as says
use Rattle.group_run.specs.Process.{Process}
use Rattle.group_run.specs.World.{step}
use Rattle.group_wire.specs.Actions.{Action, Send, Read, Treat}
use Rattle.group_wire.specs.Composed.{AreActions, Composed, Made, composed, composed_with, request_event, request_made, stands_if}
use Rattle.group_wire.specs.Composition.{machine}
use Rattle.group_wire.specs.GoingOn.{CanBe}
use Rattle.group_wire.specs.Serving.{gateways_after, if_open, read_first, request_treated, sends_by, tell, told_of}
use Rattle.group_wire.specs.Sets.{Processes, changed, entry_at, without_nth}
use Rattle.group_wire.specs.State.{Request, AskFor, TraceOf, Told, Stage, Unasked, AskedOf, Unknown, TracedAt, OpenCall, Gateways, gateway_of}
use Rattle.group_wire.specs.Sending.{parked_at, sent_on, treating, works_treated}
use Rattle.group_wire.proofs.AtOnce.{may-read, pair-here, sent-here}
use Rattle.group_wire.proofs.Changes.{changed-here, changed_at-here}
use Rattle.group_wire.proofs.GoingOn.{IsOther, here-other, uncut}
use Rattle.group_wire.proofs.Whole.{whole}
use Rattle.wire_progress.proofs.Learning.{Loaded}
use Rattle.wire_progress.proofs.Making.{MakesOne, makes-none, makes-one}
use Rattle.wire_progress.proofs.Serving.{acts, alive, few, gateway-other, going, serves-still}
use Rattle.wire_progress.proofs.Tells.{tell-call, tell-parked, tell-requests, ticket-held}
use Rattle.wire_progress.proofs.Waits.{IsHeld, answer_to}

module _ (s : Dimensions) (named : Processes) (caller : ℕ) (out : named (gateway_of s caller) ≡ false)
    (actions : List Action) (run : AreActions s actions) (x : ProcessId) (xin : IsOther s named x) where
  module _ (o : OpenCall) (loaded : Loaded s named caller o x [] [] [] (composed s actions)) where
    -- the wire then
    there : (r : Request) → sent_on (composed s actions).group.words.cut (composed s actions).group.gateways.requests
        (gateway_of (composed s actions).group.shape caller) x r (gateway_of s caller) x ≡ r ∷ []
    there r = subst (λ (t : Dimensions). sent_on (composed s actions).group.words.cut
        (composed s actions).group.gateways.requests (gateway_of t caller) x r (gateway_of s caller) x ≡ r ∷ [])
        (sym (going s named caller out actions run loaded.serves).shape)
        (sent-here (composed s actions).group.words.cut (composed s actions).group.gateways.requests (gateway_of s caller) x r
        (uncut s named (few s named caller out actions run loaded.serves) (composed s actions).group
        (going s named caller out actions run loaded.serves) (gateway_of s caller) x xin.1)
        ∙ ap (λ (rs : List Request). rs ++ r ∷ []) loaded.asked)

    abbrev Is : OpenCall → Request → Gateways → Type 0
    Is now r gw = (gw.call caller ≡ Some now) × (gw.requests (gateway_of s caller) x ≡ r ∷ []) × (gw.parked x ≡ []) × (gw.answers x (gateway_of s caller) ≡ [])

    sends : (now : OpenCall) (r : Request) → Is now r (gateways_after (composed s actions).group (Send caller x))
        → CanBe s actions (λ d. Loaded s named caller now x (r ∷ []) [] [] d
        × (machine d ≡ machine (composed s actions)))
    sends now r is = acts s named caller out actions run loaded.serves (Send caller x)
        (λ d. Loaded s named caller now x (r ∷ []) [] [] d × (machine d ≡ machine (composed s actions))) tt
        (loaded.serves.mine, subst (λ (t : Dimensions). IsProcess t x) (sym (going s named caller out actions run loaded.serves).shape) xin.0) (
          record {
            serves = serves-still named caller (composed s actions).group (composed s actions).group.works
                (gateways_after (composed s actions).group (Send caller x)) loaded.serves;
            open_call = is.0;
            asked = is.1;
            kept = is.2;
            told = is.3;
          },
          makes-none (composed s actions) (Send caller x) refl,
        )

    sent-as : (now : OpenCall) (r : Request) (stage : Stage) → o.stage ≡ stage
        → Is now r (sends_by (composed s actions).group caller x o stage)
        → Is now r (gateways_after (composed s actions).group (Send caller x))
    sent-as now r stage is now_is =
        subst (λ (call : Option OpenCall).
        Is now r (if_open call (composed s actions).group.gateways
        (λ o. sends_by (composed s actions).group caller x o o.stage))) (sym loaded.open_call)
        (subst (λ (stage : Stage). Is now r (sends_by (composed s actions).group caller x o stage)) (sym is) now_is)

    -- a call that is to be asked
    pub asks : o.stage ≡ Unasked
        → CanBe s actions
        (λ d. (position : ℕ) × Loaded s named caller (record o { position = position; stage = AskedOf x }) x
        (AskFor caller position o.op ∷ []) [] [] d × (machine d ≡ machine (composed s actions)))
    asks is = by (sends now r
        (sent-as now r Unasked is (
          changed_at-here (composed s actions).group.gateways.call caller (Some now),
          there r,
          loaded.kept,
          loaded.told,
        ))) where
          next : ℕ
          next = (composed s actions).group.gateways.next caller

          now : OpenCall
          now = record o { position = (composed s actions).group.gateways.next caller; stage = AskedOf x }

          r : Request
          r = AskFor caller ((composed s actions).group.gateways.next caller) o.op

          by : CanBe s actions (λ d. Loaded s named caller now x (r ∷ []) [] [] d × (machine d ≡ machine (composed s actions)))
              → CanBe s actions
              (λ d. (position : ℕ) × Loaded s named caller (record o { position = position; stage = AskedOf x }) x
              (AskFor caller position o.op ∷ []) [] [] d × (machine d ≡ machine (composed s actions)))
          by c = (c.0, c.1, (next, c.2.0, c.2.1), c.3)

    -- one of unknown fate is traced
    pub traces : o.stage ≡ Unknown
        → CanBe s actions (λ d. Loaded s named caller (record o { stage = TracedAt x }) x
        (TraceOf caller o.position (home_of (key_of o.op.act) s.k) ∷ []) [] [] d
        × (machine d ≡ machine (composed s actions)))
    traces is = sends now r (sent-as now r Unknown is
        (subst (λ (t : Dimensions). Is now (TraceOf caller o.position (home_of (key_of o.op.act) t.k))
        (sends_by (composed s actions).group caller x o Unknown))
        (going s named caller out actions run loaded.serves).shape (
          changed_at-here (composed s actions).group.gateways.call caller (Some now),
          there (TraceOf caller o.position (home_of (key_of o.op.act) (composed s actions).group.shape.k)),
          loaded.kept,
          loaded.told,
        )))
      where
        now : OpenCall
        now = record o { stage = TracedAt x }

        r : Request
        r = TraceOf caller o.position (home_of (key_of o.op.act) s.k)

  module _ (o : OpenCall) (r : Request) where
    -- the request is read
    pub reads : Loaded s named caller o x (r ∷ []) [] [] (composed s actions)
        → CanBe s actions (λ d. Loaded s named caller o x [] (r ∷ []) [] d × (machine d ≡ machine (composed s actions)))
    reads loaded = acts s named caller out actions run loaded.serves (Read (gateway_of s caller) x)
        (λ d. Loaded s named caller o x [] (r ∷ []) [] d × (machine d ≡ machine (composed s actions))) tt
        (may-read s named (few s named caller out actions run loaded.serves) (composed s actions)
        (going s named caller out actions run loaded.serves) (gateway_of s caller) x
        (gateway-other s named caller out actions run loaded.serves) xin) (
          record {
            serves = serves-still named caller (composed s actions).group (composed s actions).group.works
                (gateways_after (composed s actions).group (Read (gateway_of s caller) x)) loaded.serves;
            open_call = after.0;
            asked = after.1;
            kept = after.2;
            told = after.3;
          },
          makes-none (composed s actions) (Read (gateway_of s caller) x) refl,
        )
      where
        Then : Gateways → Type 0
        Then gw = (gw.call caller ≡ Some o) × (gw.requests (gateway_of s caller) x ≡ []) × (gw.parked x ≡ r ∷ []) × (gw.answers x (gateway_of s caller) ≡ [])

        after : Then (gateways_after (composed s actions).group (Read (gateway_of s caller) x))
        after = subst (λ (rs : List Request). Then (read_first (gateway_of s caller) x rs (composed s actions).group.gateways)) (sym loaded.asked) (
          loaded.open_call,
          pair-here (composed s actions).group.gateways.requests (gateway_of s caller) x [],
          changed-here (composed s actions).group.gateways.parked x ((composed s actions).group.gateways.parked x
              ++ r ∷ []) ∙ ap (λ (rs : List Request). rs ++ r ∷ []) loaded.kept,
          loaded.told,
        )

    -- and treated
    module _ (loaded : Loaded s named caller o x [] (r ∷ []) [] (composed s actions)) where
      abbrev pub answer : Answer
      answer = (treating (composed s actions).group.shape r ((composed s actions).group.works.process x)).answer

      abbrev pub made : Made
      made = record { event = request_event r x; answer = answer }

      abbrev left : Gateways
      left = record (composed s actions).group.gateways {
        parked = changed (composed s actions).group.gateways.parked x
            (without_nth ((composed s actions).group.gateways.parked x) 0);
      }

      first : parked_at (composed s actions).group x 0 ≡ Some r
      first = ap (λ (rs : List Request). entry_at rs 0) loaded.kept

      pub makes-it : MakesOne (composed s actions) (Treat x 0) made
      makes-it = makes-one (composed s actions) (whole s actions run) (Treat x 0)
          (here-other s named (few s named caller out actions run loaded.serves) (composed s actions).group
          (going s named caller out actions run loaded.serves) x xin) made
          (ap (λ (b : Bool).
          stands_if b (request_made (composed s actions).group x (parked_at (composed s actions).group x 0)))
          (alive s named caller out actions run loaded.serves x xin.1)
          ∙ ap (request_made (composed s actions).group x) first)

      abbrev Now : List Told → Gateways → Type 0
      Now ts gw = (gw.call caller ≡ Some o) × (gw.requests (gateway_of s caller) x ≡ []) × (gw.parked x ≡ []) × (gw.answers x (gateway_of s caller) ≡ ts)

      -- what it tells
      told-now : (ts us : List Told) → told_of r answer ≡ ts → (tell (composed s actions).group x ts left).answers x
          (gateway_of s caller) ≡ us → Now us (gateways_after (composed s actions).group (Treat x 0))
      told-now ts us same told = subst (λ (q : Option Request). Now us (request_treated (composed s actions).group x 0 q)) (sym first)
          (subst (λ (ts : List Told). Now us (tell (composed s actions).group x ts left)) (sym same) (
            ap (λ (calls : ℕ → Option OpenCall). calls caller) (tell-call (composed s actions).group x ts left) ∙ loaded.open_call,
            ap (λ (w : ProcessId → ProcessId → List Request). w (gateway_of s caller) x) (tell-requests (composed s actions).group x ts left) ∙ loaded.asked,
            ap (λ (w : ProcessId → List Request). w x) (tell-parked (composed s actions).group x ts left)
                ∙ changed-here (composed s actions).group.gateways.parked x
                (without_nth ((composed s actions).group.gateways.parked x) 0) ∙ ap (λ (rs : List Request). without_nth rs 0)
                loaded.kept,
            told,
          ))

      treats : (us : List Told) (P : Composed → Type 0) → Now us (gateways_after (composed s actions).group (Treat x 0))
          → P (composed_with (composed s actions) (Treat x 0)) → CanBe s actions (λ d. Loaded s named caller o x [] [] us d × P d)
      treats us P is holds = acts s named caller out actions run loaded.serves (Treat x 0) (λ d. Loaded s named caller o x [] [] us d × P d) tt
          (here-other s named (few s named caller out actions run loaded.serves) (composed s actions).group
          (going s named caller out actions run loaded.serves) x xin) (
            record {
              serves = serves-still named caller (composed s actions).group
                  (works_treated (composed s actions).group.shape (composed s actions).group.words.cut x
                  (parked_at (composed s actions).group x 0) (composed s actions).group.works)
                  (gateways_after (composed s actions).group (Treat x 0)) loaded.serves;
              open_call = is.0;
              asked = is.1;
              kept = is.2;
              told = is.3;
            },
            holds,
          )

      -- it is answered
      pub treats-told : told_of r answer ≡ answer_to r answer ∷ [] → (answer_to r answer).caller ≡ caller
          → CanBe s actions (λ d. Loaded s named caller o x [] [] (answer_to r answer ∷ []) d
          × (machine d ≡ (step (machine (composed s actions)) made.event).world))
      treats-told same its =
          treats (answer_to r answer ∷ []) (λ d. machine d ≡ (step (machine (composed s actions)) made.event).world)
          (told-now (answer_to r answer ∷ []) (answer_to r answer ∷ []) same on-wire) makes-it.world where
            on-wire : sent_on (composed s actions).group.words.cut (composed s actions).group.gateways.answers x
                (gateway_of (composed s actions).group.shape (answer_to r answer).caller) (answer_to r answer) x
                (gateway_of s caller) ≡ answer_to r answer ∷ []
            on-wire = subst
                (λ (n : ℕ). sent_on (composed s actions).group.words.cut (composed s actions).group.gateways.answers x
                (gateway_of (composed s actions).group.shape n) (answer_to r answer) x (gateway_of s caller)
                ≡ answer_to r answer ∷ []) (sym its)
                (subst (λ (t : Dimensions). sent_on (composed s actions).group.words.cut
                (composed s actions).group.gateways.answers x (gateway_of t caller) (answer_to r answer) x
                (gateway_of s caller) ≡ answer_to r answer ∷ [])
                (sym (going s named caller out actions run loaded.serves).shape)
                (sent-here (composed s actions).group.words.cut (composed s actions).group.gateways.answers x (gateway_of s caller) (answer_to r answer)
                (uncut s named (few s named caller out actions run loaded.serves) (composed s actions).group
                (going s named caller out actions run loaded.serves) x (gateway_of s caller) out)
                ∙ ap (λ (ts : List Told). ts ++ answer_to r answer ∷ []) loaded.told))

      -- or gets a ticket
      pub treats-ticket : (n : ℕ) → answer ≡ says.Ticket n → CanBe s actions (λ d. Loaded s named caller o x [] [] [] d × IsHeld s (d.group.works.process x) r)
      treats-ticket n ticket = treats [] (λ d. IsHeld s (d.group.works.process x) r) (told-now [] [] (ap (told_of r) ticket) loaded.told) held where
        held : IsHeld s
            ((works_treated (composed s actions).group.shape (composed s actions).group.words.cut x
            (parked_at (composed s actions).group x 0) (composed s actions).group.works).process x) r
        held = subst (λ (q : Option Request).
            IsHeld s ((works_treated (composed s actions).group.shape (composed s actions).group.words.cut x q
            (composed s actions).group.works).process x) r) (sym first)
            (subst (λ (p : Process). IsHeld s p r)
            (sym (changed-here (composed s actions).group.works.process x
            (treating (composed s actions).group.shape r ((composed s actions).group.works.process x)).step.process))
            (subst (λ (t : Dimensions).
            IsHeld t (treating (composed s actions).group.shape r
            ((composed s actions).group.works.process x)).step.process r)
            (going s named caller out actions run loaded.serves).shape
            (ticket-held (composed s actions).group.shape n r ((composed s actions).group.works.process x) ticket)))
