-- What gateways are told along runs: answers of members' events, of calls that were asked since they began.
use Rattle.std.proofs.Common.{ℕ, ◌≡◌, ◌≢◌, ◌<◌, ◌≤◌, ◌==◌, ◌⊎◌, inl, inr, Bool, true, false, List, [], ◌∷◌, ◌++◌}
use Rattle.std.proofs.Common.{Option, Some, None, length, take, map, refl, sym, ap, subst, ◌∙◌, arith}
use Rattle.std.proofs.lemmas.Bool.{cases_eq, eq-eqb, ne_eqb}
use Rattle.std.proofs.lemmas.List.{append-nil, length-append, take-append-le}
use Rattle.std.proofs.lemmas.Option.{slice_get_within}
use Rattle.group_types.specs.Dimensions.{Dimensions}
use Rattle.group_types.specs.Each.{Each}
use Rattle.group_types.specs.declared.process.ProcessId.{ProcessId}
use Rattle.group_types.proofs.Eaches.{each-append, each-weaker}
use Rattle.memc_table.specs.Asked.{Asked}
use Rattle.group_calls.specs.declared.event.Answer.{Answer}
use Rattle.group_calls.specs.declared.event.Answer.TheVariants as says
use Rattle.law_log.proofs.Turnings.{get-last, get-left}
use Rattle.group_run.specs.Causes.{asks_among}
use Rattle.group_wire.specs.Composed.{Made}
use Rattle.group_wire.specs.Sets.{Processes, changed_at, changed_from, one_or}
use Rattle.group_wire.specs.Shown.{IsOfCall, WasMade}
use Rattle.group_wire.specs.State.{Request, Told, Stage, Unasked, AskedOf, Unknown, TracedAt, Answered, OpenCall, Gateways, gateway_of}
use Rattle.group_wire.specs.Sending.{sent_on}
use Rattle.group_wire.specs.Serving.{call_learned, stage_learned, stage_told}
use Rattle.group_wire.proofs.Changes.{changed-pairs, changed_at-each, changed_at-here, one_or-is}
use Rattle.group_wire.proofs.Positions.{asked_by}
use Rattle.group_wire.proofs.Requests.{Living}

pub take-front : {X : Type 0} (n : ℕ) (xs ys : List X) → n ≤ length xs → take n (xs ++ ys) ≡ take n xs
take-front n xs ys within = take-append-le n xs ys within

-- what was made is so still when more is made
pub made-still : (made more : List Made) (t : Told) → WasMade made t → WasMade (made ++ more) t
made-still made more t w = record {
  place = w.place;
  event = w.event;
  there = get-left made more w.place w.event w.there;
  answer = w.answer;
  of_call = subst (λ (ms : List Made). IsOfCall w.event.event t (asks_among t.caller (map (λ x. x.event) ms)))
      (sym (take-front w.place made more (let low = slice_get_within made w.place w.event w.there in omega (arith, low)))) w.of_call;
}

pub take-all : {X : Type 0} (xs ys : List X) → take (length xs) (xs ++ ys) ≡ xs
take-all [] ys = refl
take-all (x ∷ xs) ys = ap (λ (rest : List _). x ∷ rest) (take-all xs ys)

-- the event that is made last
pub made-last : (made : List Made) (x : Made) (t : Told) → x.answer ≡ t.answer → IsOfCall x.event t (asked_by made t.caller) → WasMade (made ++ x ∷ []) t
made-last made x t answer of_call = record {
  place = length made;
  event = x;
  there = get-last made x;
  answer = answer;
  of_call = subst (λ (ms : List Made). IsOfCall x.event t (asks_among t.caller (map (λ x. x.event) ms))) (sym (take-all made (x ∷ []))) of_call;
}

-- how often a caller had asked when its call began
abbrev pub asked_before : List Made → (ℕ → ℕ) → ℕ → ℕ
asked_before made begun caller = asked_by (take (begun caller) made) caller

-- it is at most the position of the call
abbrev pub BegunStage : ℕ → ℕ → ℕ → Stage → Type 0
BegunStage before next position Unasked = before ≤ next
BegunStage before next position (AskedOf x) = (before ≤ position) × (position ≤ next)
BegunStage before next position Unknown = (before ≤ position) × (position ≤ next)
BegunStage before next position (TracedAt x) = (before ≤ position) × (position ≤ next)
BegunStage before next position (Answered t n) = (before ≤ position) × (position ≤ next)

abbrev pub BegunCall : ℕ → ℕ → Option OpenCall → Type 0
BegunCall before next None = Unit {0}
BegunCall before next (Some o) = BegunStage before next o.position o.stage

-- an answer that was told to a gateway before it failed
pub record Solid (made : List Made) (begun : ℕ → ℕ) (caller position : ℕ) (t : Told) : Type 0 where
  pub made_it : WasMade made t
  pub caller_is : t.caller ≡ caller
  pub call_is : t.call ≡ position
  pub since : asked_before made begun caller ≤ position

abbrev pub SolidStage : List Made → (ℕ → ℕ) → Bool → ℕ → ℕ → ℕ → ℕ → Stage → Type 0
SolidStage made begun lost lived pinged caller position (Answered t n) = (n ≤ pinged) × ((lost ≡ false) ⊎ (n < lived) → Solid made begun caller position t)
SolidStage made begun lost lived pinged caller position _ = Unit {0}

abbrev pub SolidCall : List Made → (ℕ → ℕ) → Bool → ℕ → ℕ → ℕ → Option OpenCall → Type 0
SolidCall made begun lost lived pinged caller None = Unit {0}
SolidCall made begun lost lived pinged caller (Some o) = SolidStage made begun lost lived pinged caller o.position o.stage

-- what holds of answers
pub record Learned (s : Dimensions) (failed : Processes) (lived : ProcessId → ℕ) (pinged : ProcessId → ℕ)
    (gw : Gateways) (made : List Made) (begun : ℕ → ℕ) : Type 0 where
  pub lanes : (x g : ProcessId) → Living s failed x → Each (WasMade made) (gw.answers x g)
  pub past : (caller : ℕ) → begun caller ≤ length made
  pub lively : (p : ProcessId) → lived p ≤ pinged p
  pub opened : (caller : ℕ) → failed (gateway_of s caller) ≡ false → BegunCall (asked_before made begun caller) (gw.next caller) (gw.call caller)
  pub solid : (caller : ℕ) → SolidCall made begun (failed (gateway_of s caller)) (lived (gateway_of s caller))
      (pinged (gateway_of s caller)) caller (gw.call caller)

before-same : (made more : List Made) (begun : ℕ → ℕ) (caller : ℕ) → begun caller ≤ length made
    → asked_before (made ++ more) begun caller ≡ asked_before made begun caller
before-same made more begun caller within = ap (λ (ms : List Made). asked_by ms caller) (take-front (begun caller) made more within)

solid-still : (made more : List Made) (begun : ℕ → ℕ) (caller position : ℕ) (t : Told) → begun caller ≤ length made
    → Solid made begun caller position t → Solid (made ++ more) begun caller position t
solid-still made more begun caller position t within sol = record {
  made_it = made-still made more t sol.made_it;
  caller_is = sol.caller_is;
  call_is = sol.call_is;
  since = let same = before-same made more begun caller within in let low = sol.since in omega (arith, same, low);
}

-- a stage that is solid is so with more events, where whoever now counts as living did before, and more pings
solid-kept : (made more : List Made) (begun : ℕ → ℕ) (lost now : Bool)
    (lived later pinged more_pinged caller position : ℕ) (stage : Stage) → begun caller ≤ length made
    → pinged ≤ more_pinged
    → ((n : ℕ) → n ≤ pinged → (now ≡ false) ⊎ (n < later) → (lost ≡ false) ⊎ (n < lived))
    → SolidStage made begun lost lived pinged caller position stage → SolidStage (made ++ more) begun now later more_pinged caller position stage
solid-kept made more begun lost now lived later pinged more_pinged caller position (Answered t n) within rises was sol =
    (let low = sol.0 in omega (arith, low, rises), λ alive. solid-still made more begun caller position t within (sol.1 (was n sol.0 alive)))
solid-kept made more begun lost now lived later pinged more_pinged caller position Unasked within rises was sol = tt
solid-kept made more begun lost now lived later pinged more_pinged caller position (AskedOf x) within rises was sol = tt
solid-kept made more begun lost now lived later pinged more_pinged caller position Unknown within rises was sol = tt
solid-kept made more begun lost now lived later pinged more_pinged caller position (TracedAt x) within rises was sol = tt

solid-call : (made more : List Made) (begun : ℕ → ℕ) (lost now : Bool) (lived later pinged more_pinged caller : ℕ)
    (call : Option OpenCall) → begun caller ≤ length made → pinged ≤ more_pinged
    → ((n : ℕ) → n ≤ pinged → (now ≡ false) ⊎ (n < later) → (lost ≡ false) ⊎ (n < lived))
    → SolidCall made begun lost lived pinged caller call → SolidCall (made ++ more) begun now later more_pinged caller call
solid-call made more begun lost now lived later pinged more_pinged caller None within rises was sol = tt
solid-call made more begun lost now lived later pinged more_pinged caller (Some o) within rises was sol =
    solid-kept made more begun lost now lived later pinged more_pinged caller o.position o.stage within rises was sol

-- a stage from which a call goes on: it is asked again, or of unknown fate
abbrev pub goes_on : Stage → Bool
goes_on Unasked = true
goes_on Unknown = true
goes_on _ = false

pub on-which : (stage : Stage) → goes_on stage ≡ true → (stage ≡ Unasked) ⊎ (stage ≡ Unknown)
on-which Unasked is = inl refl
on-which Unknown is = inr refl
on-which (AskedOf x) is = cc is
on-which (TracedAt x) is = cc is
on-which (Answered t n) is = cc is

-- a call that is told an answer is answered, or goes on
pub told-which : (t : Told) (n : ℕ) (answer : Answer) (traced : Bool) → (stage_told t n answer traced ≡ Answered t n)
    ⊎ (stage_told t n answer traced ≡ Unasked) ⊎ (stage_told t n answer traced ≡ Unknown)
told-which t n (says.Reply reply) traced = inl refl
told-which t n says.NoSpace traced = inl refl
told-which t n says.Gone true = inr (on-which (stage_told t n says.Gone true) refl)
told-which t n says.Gone false = inr (on-which (stage_told t n says.Gone false) refl)
told-which t n (says.Ticket m) true = inr (on-which (stage_told t n (says.Ticket m) true) refl)
told-which t n (says.Ticket m) false = inr (on-which (stage_told t n (says.Ticket m) false) refl)
told-which t n (says.Retry cause) true = inr (on-which (stage_told t n (says.Retry cause) true) refl)
told-which t n (says.Retry cause) false = inr (on-which (stage_told t n (says.Retry cause) false) refl)
told-which t n (says.Stale m) true = inr (on-which (stage_told t n (says.Stale m) true) refl)
told-which t n (says.Stale m) false = inr (on-which (stage_told t n (says.Stale m) false) refl)
told-which t n says.NotYet true = inr (on-which (stage_told t n says.NotYet true) refl)
told-which t n says.NotYet false = inr (on-which (stage_told t n says.NotYet false) refl)
told-which t n says.Moved true = inr (on-which (stage_told t n says.Moved true) refl)
told-which t n says.Moved false = inr (on-which (stage_told t n says.Moved false) refl)
told-which t n says.Lost true = inr (on-which (stage_told t n says.Lost true) refl)
told-which t n says.Lost false = inr (on-which (stage_told t n says.Lost false) refl)
told-which t n says.Down true = inr (on-which (stage_told t n says.Down true) refl)
told-which t n says.Down false = inr (on-which (stage_told t n says.Down false) refl)
told-which t n says.Idle true = inr (on-which (stage_told t n says.Idle true) refl)
told-which t n says.Idle false = inr (on-which (stage_told t n says.Idle false) refl)
told-which t n says.Stranger true = inr (on-which (stage_told t n says.Stranger true) refl)
told-which t n says.Stranger false = inr (on-which (stage_told t n says.Stranger false) refl)
told-which t n says.Done true = inr (on-which (stage_told t n says.Done true) refl)
told-which t n says.Done false = inr (on-which (stage_told t n says.Done false) refl)
told-which t n says.AlreadyDead true = inr (on-which (stage_told t n says.AlreadyDead true) refl)
told-which t n says.AlreadyDead false = inr (on-which (stage_told t n says.AlreadyDead false) refl)

begun-told : (before next position : ℕ) (t : Told) (n : ℕ) (answer : Answer) (traced : Bool) → (before ≤ position)
    × (position ≤ next) → BegunStage before next position (stage_told t n answer traced)
begun-told before next position t n answer traced low = by (told-which t n answer traced) where
  by : (stage_told t n answer traced ≡ Answered t n) ⊎ (stage_told t n answer traced ≡ Unasked)
      ⊎ (stage_told t n answer traced ≡ Unknown) → BegunStage before next position (stage_told t n answer traced)
  by (inl is) = subst (BegunStage before next position) (sym is) low
  by (inr (inl is)) = subst (BegunStage before next position) (sym is) (let one = low.0 in let two = low.1 in omega (arith, one, two))
  by (inr (inr is)) = subst (BegunStage before next position) (sym is) low

begun-stage : (before next position : ℕ) (t : Told) (n : ℕ) (stage : Stage) → BegunStage before next position stage
    → BegunStage before next position (stage_learned t n stage)
begun-stage before next position t n Unasked low = low
begun-stage before next position t n Unknown low = low
begun-stage before next position t n (Answered u m) low = low
begun-stage before next position t n (AskedOf x) low = by t.traced where
  by : (traced : Bool) → BegunStage before next position (one_or traced (AskedOf x) (stage_told t n t.answer traced))
  by true = low
  by false = begun-told before next position t n t.answer false low
begun-stage before next position t n (TracedAt x) low = by t.traced where
  by : (traced : Bool) → BegunStage before next position (one_or traced (stage_told t n t.answer traced) (TracedAt x))
  by true = begun-told before next position t n t.answer true low
  by false = low

begun-learned : (before next : ℕ) (t : Told) (n : ℕ) (call : Option OpenCall) → BegunCall before next call → BegunCall before next (call_learned t n call)
begun-learned before next t n None low = tt
begun-learned before next t n (Some o) low = by (o.position == t.call) where
  by : (same : Bool) → BegunStage before next o.position (one_or same (stage_learned t n o.stage) o.stage)
  by true = begun-stage before next o.position t n o.stage low
  by false = low

module _ (s : Dimensions) (failed : Processes) (lived : ProcessId → ℕ) (pinged : ProcessId → ℕ) (gw : Gateways)
    (made : List Made) (begun : ℕ → ℕ) (b : Learned s failed lived pinged gw made begun) where
  -- more events are made, and more members fail or send pings
  pub learned-more : (more : List Made) (now : Processes) (later : ProcessId → ℕ) (more_pinged : ProcessId → ℕ)
      → ((x : ProcessId) → now x ≡ false → failed x ≡ false) → ((p : ProcessId) → pinged p ≤ more_pinged p)
      → ((p : ProcessId) (n : ℕ) → n ≤ pinged p → (now p ≡ false) ⊎ (n < later p) → (failed p ≡ false) ⊎ (n < lived p))
      → ((p : ProcessId) → later p ≤ more_pinged p) → Learned s now later more_pinged gw (made ++ more) begun
  learned-more more now later more_pinged lives rises was lively = record {
    lively = lively;
    lanes = λ x g xl. each-weaker (WasMade made) (WasMade (made ++ more)) (λ t w. made-still made more t w) (gw.answers x g) (b.lanes x g (xl.0, lives x xl.1));
    past = λ caller. let low = b.past caller in let long = length-append made more in omega (arith, low, long);
    opened = λ caller gl. subst (λ (n : ℕ). BegunCall n (gw.next caller) (gw.call caller))
        (sym (before-same made more begun caller (b.past caller))) (b.opened caller (lives (gateway_of s caller) gl));
    solid = λ caller. solid-call made more begun (failed (gateway_of s caller)) (now (gateway_of s caller))
        (lived (gateway_of s caller)) (later (gateway_of s caller)) (pinged (gateway_of s caller))
        (more_pinged (gateway_of s caller)) caller (gw.call caller)
        (b.past caller) (rises (gateway_of s caller)) (was (gateway_of s caller)) (b.solid caller);
  }

  pub learned-made : (more : List Made) → Learned s failed lived pinged gw (made ++ more) begun
  learned-made more = learned-more more failed lived pinged (λ x is. is) (λ p. omega arith) (λ p n low is. is) b.lively

  -- a caller's call becomes another
  pub learned-call : (caller : ℕ) (now : Option OpenCall)
      → (failed (gateway_of s caller) ≡ false → BegunCall (asked_before made begun caller) (gw.next caller) now)
      → SolidCall made begun (failed (gateway_of s caller)) (lived (gateway_of s caller)) (pinged (gateway_of s caller))
      caller now → Learned s failed lived pinged (record gw { call = changed_at gw.call caller now }) made begun
  learned-call caller now fits sol = record {
    lanes = b.lanes;
    past = b.past;
    lively = b.lively;
    opened = changed_at-each (λ c call. failed (gateway_of s c) ≡ false → BegunCall (asked_before made begun c)
        (gw.next c) call) gw.call caller now fits (λ c _. b.opened c);
    solid = changed_at-each (λ c call. SolidCall made begun (failed (gateway_of s c)) (lived (gateway_of s c))
        (pinged (gateway_of s c)) c call) gw.call caller now sol (λ c _. b.solid c);
  }

  -- requests go elsewhere
  pub learned-requests : (requests : ProcessId → ProcessId → List Request) (parked : ProcessId → List Request)
      → Learned s failed lived pinged (record gw { requests = requests; parked = parked }) made begun
  learned-requests requests parked = record { lanes = b.lanes; past = b.past; lively = b.lively; opened = b.opened; solid = b.solid }

  -- what a member tells goes to a gateway
  pub learned-told : (cut : ProcessId → Processes) (p : ProcessId) (t : Told) → (Living s failed p → WasMade made t)
      → Learned s failed lived pinged (record gw { answers = sent_on cut gw.answers p (gateway_of s t.caller) t }) made
      begun
  learned-told cut p t was = record {
    lanes = changed-pairs (λ x g ts. Living s failed x → Each (WasMade made) ts) gw.answers p (gateway_of s t.caller)
        (one_or (cut p (gateway_of s t.caller)) (gw.answers p (gateway_of s t.caller))
        (gw.answers p (gateway_of s t.caller) ++ t ∷ []))
        (λ lives. one_or-is (Each (WasMade made)) (cut p (gateway_of s t.caller)) (gw.answers p (gateway_of s t.caller))
        (gw.answers p (gateway_of s t.caller) ++ t ∷ []) (λ _. b.lanes p (gateway_of s t.caller) lives)
        (λ _. each-append (WasMade made) (gw.answers p (gateway_of s t.caller)) (t ∷ []) (b.lanes p (gateway_of s t.caller) lives) (was lives, tt))) b.lanes;
    past = b.past;
    lively = b.lively;
    opened = b.opened;
    solid = b.solid;
  }

  -- a gateway learns an answer
  pub learned-learns : (x p : ProcessId) (t : Told) (rest : List Told) → gw.answers x p ≡ t ∷ rest
      → gateway_of s t.caller ≡ p → (failed p ≡ false → Living s failed x)
      → Learned s failed lived pinged
      (record gw {
        answers = changed_from gw.answers x p rest;
        call = changed_at gw.call t.caller (call_learned t (pinged p) (gw.call t.caller));
      }) made begun
  learned-learns x p t rest is mine lives = record {
    lanes = changed-pairs (λ x g ts. Living s failed x → Each (WasMade made) ts) gw.answers x p rest (λ xl. (all xl).1) b.lanes;
    past = b.past;
    lively = b.lively;
    opened = changed_at-each (λ c call. failed (gateway_of s c) ≡ false → BegunCall (asked_before made begun c)
        (gw.next c) call) gw.call t.caller (call_learned t (pinged p) (gw.call t.caller))
        (λ gl. begun-learned (asked_before made begun t.caller) (gw.next t.caller) t (pinged p) (gw.call t.caller) (b.opened t.caller gl)) (λ c _. b.opened c);
    solid = changed_at-each (λ c call. SolidCall made begun (failed (gateway_of s c)) (lived (gateway_of s c))
        (pinged (gateway_of s c)) c call) gw.call t.caller (call_learned t (pinged p) (gw.call t.caller))
        (solids (gw.call t.caller) (b.opened t.caller) (b.solid t.caller)) (λ c _. b.solid c);
  } where
    all : Living s failed x → Each (WasMade made) (t ∷ rest)
    all xl = subst (Each (WasMade made)) is (b.lanes x p xl)

    fresh : (position : ℕ) → position ≡ t.call → (failed (gateway_of s t.caller) ≡ false → asked_before made begun t.caller ≤ position)
        → SolidStage made begun (failed (gateway_of s t.caller)) (lived (gateway_of s t.caller))
        (pinged (gateway_of s t.caller)) t.caller position (Answered t (pinged p))
    fresh position same since = (
      (let at_p : pinged (gateway_of s t.caller) ≡ pinged p = ap pinged mine in omega (arith, at_p)),
      λ alive. by (failed (gateway_of s t.caller)) refl alive,
    ) where
      by : (lost : Bool) → failed (gateway_of s t.caller) ≡ lost → (lost ≡ false)
          ⊎ (pinged p < lived (gateway_of s t.caller)) → Solid made begun t.caller position t
      by false gl alive = record { made_it = (all (lives (ap failed (sym mine) ∙ gl))).0; caller_is = refl; call_is = sym same; since = since gl }
      by true gl (inl never) = cc never
      by true gl (inr early) = let at_p : pinged (gateway_of s t.caller) ≡ pinged p = ap pinged mine in let low =
          b.lively (gateway_of s t.caller) in absurd (omega (arith, at_p, low, early))

    solids : (call : Option OpenCall) → (failed (gateway_of s t.caller) ≡ false → BegunCall (asked_before made begun t.caller) (gw.next t.caller) call)
        → SolidCall made begun (failed (gateway_of s t.caller)) (lived (gateway_of s t.caller)) (pinged (gateway_of s t.caller)) t.caller call
        → SolidCall made begun (failed (gateway_of s t.caller)) (lived (gateway_of s t.caller))
        (pinged (gateway_of s t.caller)) t.caller (call_learned t (pinged p) call)
    solids None begins sol = tt
    solids (Some o) begins sol = which (cases_eq o.position t.call) where
      told : o.position ≡ t.call → (failed (gateway_of s t.caller) ≡ false → asked_before made begun t.caller ≤ o.position) → (answer : Answer) (traced : Bool)
          → SolidStage made begun (failed (gateway_of s t.caller)) (lived (gateway_of s t.caller))
          (pinged (gateway_of s t.caller)) t.caller o.position (stage_told t (pinged p) answer traced)
      told same since answer traced = by (told-which t (pinged p) answer traced) where
        by : (stage_told t (pinged p) answer traced ≡ Answered t (pinged p))
            ⊎ (stage_told t (pinged p) answer traced ≡ Unasked) ⊎ (stage_told t (pinged p) answer traced ≡ Unknown)
            → SolidStage made begun (failed (gateway_of s t.caller)) (lived (gateway_of s t.caller))
            (pinged (gateway_of s t.caller)) t.caller o.position (stage_told t (pinged p) answer traced)
        by (inl is) =
            subst (SolidStage made begun (failed (gateway_of s t.caller)) (lived (gateway_of s t.caller))
            (pinged (gateway_of s t.caller)) t.caller o.position) (sym is) (fresh o.position same since)
        by (inr (inl is)) =
            subst (SolidStage made begun (failed (gateway_of s t.caller)) (lived (gateway_of s t.caller))
            (pinged (gateway_of s t.caller)) t.caller o.position) (sym is) tt
        by (inr (inr is)) =
            subst (SolidStage made begun (failed (gateway_of s t.caller)) (lived (gateway_of s t.caller))
            (pinged (gateway_of s t.caller)) t.caller o.position) (sym is) tt

      staged-at : o.position ≡ t.call → (stage : Stage)
          → (failed (gateway_of s t.caller) ≡ false → BegunStage (asked_before made begun t.caller) (gw.next t.caller)
          o.position stage)
          → SolidStage made begun (failed (gateway_of s t.caller)) (lived (gateway_of s t.caller)) (pinged (gateway_of s t.caller)) t.caller o.position stage
          → SolidStage made begun (failed (gateway_of s t.caller)) (lived (gateway_of s t.caller))
          (pinged (gateway_of s t.caller)) t.caller o.position (stage_learned t (pinged p) stage)
      staged-at same Unasked begins sol = sol
      staged-at same Unknown begins sol = sol
      staged-at same (Answered u n) begins sol = sol
      staged-at same (AskedOf y) begins sol = by t.traced where
        by : (traced : Bool) → SolidStage made begun (failed (gateway_of s t.caller)) (lived (gateway_of s t.caller))
            (pinged (gateway_of s t.caller)) t.caller o.position
            (one_or traced (AskedOf y) (stage_told t (pinged p) t.answer traced))
        by true = tt
        by false = told same (λ gl. (begins gl).0) t.answer false
      staged-at same (TracedAt y) begins sol = by t.traced where
        by : (traced : Bool) → SolidStage made begun (failed (gateway_of s t.caller)) (lived (gateway_of s t.caller))
            (pinged (gateway_of s t.caller)) t.caller o.position
            (one_or traced (stage_told t (pinged p) t.answer traced) (TracedAt y))
        by true = told same (λ gl. (begins gl).0) t.answer true
        by false = tt

      which : (o.position ≡ t.call) ⊎ (o.position ≢ t.call) → SolidCall made begun (failed (gateway_of s t.caller))
          (lived (gateway_of s t.caller)) (pinged (gateway_of s t.caller)) t.caller (call_learned t (pinged p) (Some o))
      which (inl same) =
          subst (λ (b : Bool). SolidStage made begun (failed (gateway_of s t.caller)) (lived (gateway_of s t.caller))
          (pinged (gateway_of s t.caller)) t.caller o.position (one_or b (stage_learned t (pinged p) o.stage) o.stage))
          (sym (eq-eqb o.position t.call same))
          (staged-at same o.stage begins sol)
      which (inr other) =
          subst (λ (b : Bool). SolidStage made begun (failed (gateway_of s t.caller)) (lived (gateway_of s t.caller))
          (pinged (gateway_of s t.caller)) t.caller o.position (one_or b (stage_learned t (pinged p) o.stage) o.stage))
          (sym (ne_eqb o.position t.call other)) sol

  -- a call begins
  pub learned-begins : (caller : ℕ) (op : Asked) → (failed (gateway_of s caller) ≡ false → asked_by made caller ≤ gw.next caller)
      → Learned s failed lived pinged
      (record gw { call = changed_at gw.call caller (Some (record { op = op; position = 0; stage = Unasked })) }) made
      (changed_at begun caller (length made))
  learned-begins caller op asks = record {
    lanes = b.lanes;
    past = changed_at-each (λ c n. n ≤ length made) begun caller (length made) (omega arith) (λ c _. b.past c);
    lively = b.lively;
    opened = changed_at-each (λ c call. failed (gateway_of s c) ≡ false
        → BegunCall (asked_before made (changed_at begun caller (length made)) c) (gw.next c) call) gw.call caller
        (Some (record { op = op; position = 0; stage = Unasked }))
        (λ gl. let now : asked_before made (changed_at begun caller (length made)) caller ≡ asked_by made caller = ap
        (λ (n : ℕ). asked_by (take n made) caller) (changed_at-here begun caller (length made))
        ∙ ap (λ (ms : List Made). asked_by ms caller) whole in let low = asks gl in omega (arith, now, low))
        (λ c other gl. subst (λ (n : ℕ). BegunCall (asked_by (take n made) c) (gw.next c) (gw.call c))
        (sym (ap (λ (d : Bool). one_or d (length made) (begun c)) (ne_eqb c caller other))) (b.opened c gl));
    solid = changed_at-each (λ c call. SolidCall made (changed_at begun caller (length made)) (failed (gateway_of s c))
        (lived (gateway_of s c)) (pinged (gateway_of s c)) c call) gw.call caller
        (Some (record { op = op; position = 0; stage = Unasked })) tt
        (λ c other. moved c (sym (ap (λ (d : Bool). one_or d (length made) (begun c)) (ne_eqb c caller other))) (gw.call c) (b.solid c));
  } where
    whole : take (length made) made ≡ made
    whole = ap (take (length made)) (sym (append-nil made)) ∙ take-all made []

    -- a caller that began before began then
    moved : (c : ℕ) → begun c ≡ changed_at begun caller (length made) c → (call : Option OpenCall)
        → SolidCall made begun (failed (gateway_of s c)) (lived (gateway_of s c)) (pinged (gateway_of s c)) c call
        → SolidCall made (changed_at begun caller (length made)) (failed (gateway_of s c)) (lived (gateway_of s c)) (pinged (gateway_of s c)) c call
    moved c same None sol = tt
    moved c same (Some o) sol = by o.stage sol where
      by : (stage : Stage) → SolidStage made begun (failed (gateway_of s c)) (lived (gateway_of s c)) (pinged (gateway_of s c)) c o.position stage
          → SolidStage made (changed_at begun caller (length made)) (failed (gateway_of s c)) (lived (gateway_of s c))
          (pinged (gateway_of s c)) c o.position stage
      by Unasked sol = tt
      by (AskedOf x) sol = tt
      by Unknown sol = tt
      by (TracedAt x) sol = tt
      by (Answered t n) sol = (
        sol.0,
        λ alive. let old = sol.1 alive in record {
          made_it = old.made_it;
          caller_is = old.caller_is;
          call_is = old.call_is;
          since = subst (λ (n : ℕ). asked_by (take n made) c ≤ o.position) same old.since;
        },
      )
