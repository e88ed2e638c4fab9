-- Calls can end: what a gateway was told can be shown, and what a member answers at once can be told.
use Rattle.std.proofs.Common.{ℕ, ◌≡◌, ◌<◌, ◌≤◌, ◌⊎◌, inl, inr, Bool, true, false, List, Some, refl, sym, ap, subst, ◌∙◌, arith, ◌++◌}
use Rattle.group_types.specs.Dimensions.{Dimensions}
use Rattle.group_types.specs.Each.{Each}
use Rattle.group_types.specs.Names.{IsProcess}
use Rattle.group_types.specs.declared.process.ProcessId.{ProcessId}
use Rattle.group_types.proofs.Eaches.{each-weaker}
use Rattle.group_calls.specs.declared.event.Answer.{Answer}
use Rattle.group_wire.specs.Actions.{Action}
use Rattle.group_wire.specs.Composed.{AreActions, Composed, composed, opening_composed}
use Rattle.group_wire.specs.GoingOn.{AnsweredCanBeShown, AnswersAtOnce, CanBeShown, IsShownAs, NamedAreTaken, OthersAreHere, TakesNamed, ToldCanBeShown}
use Rattle.group_wire.specs.May.{IsCaller}
use Rattle.group_wire.specs.Sets.{IsSubset, Processes, size_of}
use Rattle.group_wire.specs.Shown.{Shows}
use Rattle.group_wire.specs.State.{Answered, Gateways, OpenCall, Signs, Told, Unasked, Words, gateway_of}
use Rattle.group_wire.proofs.Answering.{SolidCall, SolidStage}
use Rattle.group_wire.proofs.AtOnce.{IsOld, Serves, at-once}
use Rattle.group_wire.proofs.Barrier.{Deposed}
use Rattle.group_wire.proofs.GoingOn.{Going, IsOther, few-of, going-of, here-other, named_can_be_taken}
use Rattle.group_wire.proofs.Honest.{shape-from}
use Rattle.group_wire.proofs.Pinging.{Pings, can-show}
use Rattle.group_wire.proofs.Positions.{CallFits, StageFits, asked_in}
use Rattle.group_wire.proofs.Reaching.{Reaches, can-be, can-be-then, reaches-kept, reaches-then, reaches-weaker}
use Rattle.group_wire.proofs.Requests.{waits}
use Rattle.group_wire.proofs.Telling.{learned}
use Rattle.group_wire.proofs.Whole.{whole}

-- what is had of a run, of those who go on, and of a caller of one of them
module _ (s : Dimensions) (actions : List Action) (named : Processes) (run : AreActions s actions)
    (others : OthersAreHere (composed s actions).group named) where
  abbrev c : Composed
  c = composed s actions

  going : Going s named c.group
  going = going-of s actions named run others

  few : size_of s named ≤ s.m
  few = few-of s actions named others

  gateway-in : (caller : ℕ) → IsCaller c.group caller → named (gateway_of s caller) ≡ false → IsOther s named (gateway_of s caller)
  gateway-in caller mine out = (subst (λ (t : Dimensions). IsProcess t (gateway_of t caller)) going.shape mine.gateway.member, out)

  -- whoever isn't named hasn't failed
  named-failed : IsSubset c.failed named
  named-failed x lost = by (whole s actions run).barred.deposed where
    by : ((x : ProcessId) → c.failed x ≡ false) ⊎ Deposed c.group.shape c.group.words c.failed → named x ≡ true
    by (inl none) = cc (none x, lost)
    by (inr d) = others.cut d.by x ((whole s actions run).barred.permitted d.by x (d.permitted x lost))

  lives : (x : ProcessId) → named x ≡ false → c.failed x ≡ false
  lives x out = by (c.failed x) refl where
    by : (b : Bool) → c.failed x ≡ b → c.failed x ≡ false
    by false is = is
    by true is = cc (named-failed x is, out)

  -- an answer was told by a ping's time
  told-by : (caller : ℕ) (o : OpenCall) (t : Told) (n : ℕ) → c.group.gateways.call caller ≡ Some o
      → o.stage ≡ Answered t n → n ≤ c.group.signs.pinged (gateway_of s caller)
  told-by caller o t n call stage = subst (λ (t : Dimensions). n ≤ c.group.signs.pinged (gateway_of t caller)) going.shape solid.0 where
    solid : SolidStage c.made c.begun (c.failed (gateway_of c.group.shape caller))
        (c.lived (gateway_of c.group.shape caller)) (c.group.signs.pinged (gateway_of c.group.shape caller)) caller
        o.position (Answered t n)
    solid = subst (SolidStage c.made c.begun (c.failed (gateway_of c.group.shape caller))
        (c.lived (gateway_of c.group.shape caller)) (c.group.signs.pinged (gateway_of c.group.shape caller)) caller
        o.position) stage
        (subst (SolidCall c.made c.begun (c.failed (gateway_of c.group.shape caller))
        (c.lived (gateway_of c.group.shape caller)) (c.group.signs.pinged (gateway_of c.group.shape caller)) caller)
        call ((learned s actions run).solid caller))

  -- answers on a wire are to positions before the next
  old : (caller : ℕ) (o : OpenCall) (x : ProcessId) → named (gateway_of s caller) ≡ false → IsOther s named x
      → c.group.gateways.call caller ≡ Some o → o.stage ≡ Unasked
      → Each (IsOld s named few caller (c.group.gateways.next caller)) (c.group.gateways.answers x (gateway_of s caller))
  old caller o x out xin call stage = each-weaker (λ (t : Told). t.call < asked_in c t.caller) (IsOld s named few caller (c.group.gateways.next caller))
      (λ t low same is. absurd (let at : asked_in c t.caller ≡ asked_in c caller = ap (asked_in c) same in
      let next = fits.0 in omega (arith, low, at, next, is)))
      (c.group.gateways.answers x (gateway_of s caller)) ((whole s actions run).positioned.told x (gateway_of s caller)
      (subst (λ (t : Dimensions). IsProcess t x) (sym going.shape) xin.0, lives x xin.1))
    where
      wait : ProcessId → ℕ
      wait = waits c.group.shape c.group.words.cut c.group.gateways.requests c.group.gateways.parked caller

      call_fits : CallFits c.group.shape c.failed (waits c.group.shape c.group.words.cut c.group.gateways.requests
          c.group.gateways.parked caller) (asked_in c caller) (c.group.gateways.next caller) (Some o)
      call_fits = subst
          (CallFits c.group.shape c.failed (waits c.group.shape c.group.words.cut c.group.gateways.requests
          c.group.gateways.parked caller) (asked_in c caller) (c.group.gateways.next caller)) call
          ((whole s actions run).positioned.calls caller
          (lives (gateway_of c.group.shape caller) (subst (λ (t : Dimensions). named (gateway_of t caller) ≡ false)
          (sym going.shape) out)))

      fits : StageFits c.group.shape c.failed (waits c.group.shape c.group.words.cut c.group.gateways.requests
          c.group.gateways.parked caller) (asked_in c caller) (c.group.gateways.next caller) o.position Unasked
      fits = subst (StageFits c.group.shape c.failed (waits c.group.shape c.group.words.cut c.group.gateways.requests
          c.group.gateways.parked caller) (asked_in c caller) (c.group.gateways.next caller) o.position) stage
          call_fits.1

  -- where all named deaths are taken, what was told can be shown
  told-shown : NamedAreTaken c.group named → (caller : ℕ) → IsCaller c.group caller → named (gateway_of s caller)
      ≡ false → (o : OpenCall) (t : Told) → Shows c caller o t → Reaches (Pings s named) c (CanBeShown caller o)
  told-shown taken caller mine out o t shows =
      can-show s named few run.0.k.0 caller (gateway-in caller mine out) c going mine (took taken caller mine out) o t
      shows.pinged shows.call shows.stage (told-by caller o t shows.pinged shows.call shows.stage)
    where
      took : NamedAreTaken c.group named → (caller : ℕ) → IsCaller c.group caller → named (gateway_of s caller) ≡ false
          → (x : ProcessId) → IsProcess s x → named x ≡ true → c.group.words.taken (gateway_of s caller) x ≡ true
      took taken caller mine out x xin inside =
          taken (gateway_of s caller) x (subst (λ (t : Dimensions). IsProcess t (gateway_of s caller)) (sym going.shape)
          (gateway-in caller mine out).0) out (subst (λ (t : Dimensions). IsProcess t x) (sym going.shape) xin) inside

  -- a call that is answered at once can be shown
  answered-shown : NamedAreTaken c.group named → (caller : ℕ) → IsCaller c.group caller → named (gateway_of s caller)
      ≡ false → (o : OpenCall) (x : ProcessId) (answer : Answer) → IsOther s named x
      → c.group.gateways.call caller ≡ Some o → o.stage ≡ Unasked → AnswersAtOnce c.group caller o x answer
      → Reaches (λ _ d. Going s named d.group) c (IsShownAs caller o answer)
  answered-shown taken caller mine out o x answer xin call stage now =
      reaches-then (λ _ d. Going s named d.group) (λ a b d one two. two) c Answers (IsShownAs caller o answer)
      (reaches-kept (Serves s named) (λ _ d. Going s named d.group) c Answers (λ d kept. kept.going)
      (reaches-weaker (Serves s named) c Done Answers (λ d kept done. (done, kept.words, kept.signs))
      (at-once s named few caller gin x xin o answer now.ends c going mine call stage now
      (old caller o x out xin call stage))))
      (λ d goes there. reaches-kept (Pings s named) (λ _ e. Going s named e.group) d (IsShownAs caller o answer) (λ e kept. kept.going)
      (reaches-weaker (Pings s named) d (CanBeShown caller call_answered) (IsShownAs caller o answer)
      (λ e kept shown. record {
        call = call_answered;
        told = answer_told;
        op = refl;
        tells = refl;
        shows = record { pinged = n; call = shown.0; stage = refl };
        ping = shown.1.0;
        may = shown.1.1;
      })
      (can-show s named few run.0.k.0 caller gin d goes (caller-at d goes)
      (λ y yin inside. ap (λ (w : Words). w.taken (gateway_of s caller) y) there.1
      ∙ taken (gateway_of s caller) y gateway_process out
      (subst (λ (t : Dimensions). IsProcess t y) (sym going.shape) yin) inside)
      call_answered answer_told n there.0 refl (let same : d.group.signs.pinged (gateway_of s caller)
      ≡ n = ap (λ (signs : Signs). signs.pinged (gateway_of s caller)) there.2 in omega (arith, same)))))
    where
      gin : IsOther s named (gateway_of s caller)
      gin = gateway-in caller mine out

      n : ℕ
      n = c.group.signs.pinged (gateway_of s caller)

      answer_told : Told
      answer_told = record { caller = caller; call = c.group.gateways.next caller; traced = false; answer = answer }

      call_answered : OpenCall
      call_answered = record {
        op = o.op;
        position = c.group.gateways.next caller;
        stage = Answered
            (record { caller = caller; call = c.group.gateways.next caller; traced = false; answer = answer })
            (c.group.signs.pinged (gateway_of s caller));
      }

      Done : Composed → Type 0
      Done d = d.group.gateways.call caller ≡ Some call_answered

      Answers : Composed → Type 0
      Answers d = (d.group.gateways.call caller ≡ Some call_answered) × (d.group.words ≡ c.group.words) × (d.group.signs ≡ c.group.signs)

      gateway_process : IsProcess c.group.shape (gateway_of s caller)
      gateway_process = subst (λ (t : Dimensions). IsProcess t (gateway_of s caller)) (sym going.shape) gin.0

      caller-at : (d : Composed) → Going s named d.group → IsCaller d.group caller
      caller-at d goes =
          record {
            low = mine.low;
            gateway = here-other s named few d.group goes (gateway_of d.group.shape caller)
                (subst (λ (t : Dimensions). IsOther s named (gateway_of t caller)) (sym goes.shape) gin);
          }

-- a caller of one that goes on stays one
caller-again : (s : Dimensions) (actions longer : List Action) (named : Processes)
    → OthersAreHere (composed s longer).group named → (caller : ℕ) → IsCaller (composed s actions).group caller
    → named (gateway_of s caller) ≡ false → IsCaller (composed s longer).group caller
caller-again s actions longer named later caller mine out = record {
  low = mine.low;
  gateway = later.here (gateway_of (composed s longer).group.shape caller)
      (subst (λ (t : Dimensions). IsProcess t (gateway_of t caller)) (shape-from (opening_composed s) actions
      ∙ sym (shape-from (opening_composed s) longer)) mine.gateway.member)
      (subst (λ (t : Dimensions). named (gateway_of t caller) ≡ false) (sym (shape-from (opening_composed s) longer)) out);
}

pub told_can_be_shown : ToldCanBeShown
told_can_be_shown s actions named caller o t run others mine out shows =
    can-be-then (λ d. TakesNamed (composed s actions).group d.group named) (CanBeShown caller o) s actions (named_can_be_taken s actions named run others)
    (λ more longer takes. can-be (Pings s named) (CanBeShown caller o) s (actions ++ more) longer
    (told-shown s (actions ++ more) named longer takes.others takes.taken caller
    (caller-again s actions (actions ++ more) named takes.others caller mine out) out o t
    (record { pinged = shows.pinged; call = ap (λ (gw : Gateways). gw.call caller) takes.gateways ∙ shows.call; stage = shows.stage })))

pub answered_can_be_shown : AnsweredCanBeShown
answered_can_be_shown s actions named caller o x answer run others taken mine out xin x_out call stage now =
    can-be (λ _ d. Going s named d.group) (IsShownAs caller o answer) s actions run
    (answered-shown s actions named run others taken caller mine out o x answer (xin, x_out) call stage now)
