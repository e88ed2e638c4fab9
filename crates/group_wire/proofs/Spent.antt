-- What holds of the positions under which open calls were asked: all but the last are void, and a call that is asked again
-- has none that isn't.
use Rattle.std.proofs.Common.{ℕ, suc, ◌≡◌, ◌≢◌, ◌<◌, ◌≤◌, ◌==◌, ◌⊎◌, inl, inr, Bool, true, false, List, [], ◌∷◌, ◌++◌}
use Rattle.std.proofs.Common.{Option, Some, None, refl, sym, ap, subst, ◌∙◌, arith}
use Rattle.std.proofs.lemmas.Bool.{cases_eq, cases_lt, eq-eqb, ne_eqb}
use Rattle.group_types.specs.Dimensions.{Dimensions}
use Rattle.group_types.specs.Each.{Each}
use Rattle.group_types.specs.declared.process.ProcessId.{ProcessId}
use Rattle.group_types.proofs.Eaches.{each-append, each-weaker}
use Rattle.memc_table.specs.declared.reply.Reply.{Reply}
use Rattle.group_calls.specs.declared.event.Answer.{Answer}
use Rattle.group_calls.specs.declared.event.Answer.TheVariants as says
use Rattle.group_wire.specs.Composed.{Made}
use Rattle.group_wire.specs.Sets.{Processes, changed, changed_at, changed_from, one_or, without_nth}
use Rattle.group_wire.specs.State.{Request, AskFor, TraceOf, Told, Stage, Unasked, AskedOf, Unknown, TracedAt, Answered, OpenCall, Gateways, gateway_of}
use Rattle.group_wire.specs.Sending.{sent_on}
use Rattle.group_wire.specs.Serving.{call_learned, stage_learned, stage_told}
use Rattle.group_wire.proofs.Answering.{told-which}
use Rattle.group_wire.proofs.Changes.{changed-each, changed-pairs, changed_at-each, one_or-is}
use Rattle.group_wire.proofs.Positions.{asked_by}
use Rattle.group_wire.proofs.Requests.{Living, each-without}
use Rattle.group_wire.proofs.Voids.{AllVoid, Fated, Outcome, Traced, Void, fated-more, traced-more, void-more}

-- a request: an ask has a position that its gateway has passed, and a trace is at its key's home
abbrev pub Sound : Dimensions → Processes → List Made → (ℕ → ℕ) → Request → Type 0
Sound s failed made next (AskFor who call op) = call < next who
Sound s failed made next (TraceOf who call d) = failed (gateway_of s who) ≡ false → Traced s.k made who call d

pub sound-more : (s : Dimensions) (failed now : Processes) (made more : List Made) (next later : ℕ → ℕ)
    → ((x : ProcessId) → now x ≡ false → failed x ≡ false) → ((caller : ℕ) → next caller ≤ later caller)
    → (r : Request) → Sound s failed made next r → Sound s now (made ++ more) later r
sound-more s failed now made more next later lives rises (AskFor who call op) sound = let up = rises who in omega (arith, sound, up)
sound-more s failed now made more next later lives rises (TraceOf who call d) sound =
    λ gl. traced-more s.k made more who call d (sound (lives (gateway_of s who) gl))

-- an answer is a reply, or its position is void
abbrev pub Settles : ℕ → List Made → ℕ → ℕ → Answer → Type 0
Settles k made caller position answer = ((reply : Reply) × (answer ≡ says.Reply reply)) ⊎ Void k made caller position

-- the positions before that of a call are void, at a gateway that hasn't failed, or hadn't when it was told the answer
abbrev pub VoidStage : ℕ → List Made → ℕ → Bool → ℕ → ℕ → ℕ → ℕ → Stage → Type 0
VoidStage k made caller lost lived first next position Unasked = lost ≡ false → AllVoid k made caller first next
VoidStage k made caller lost lived first next position (Answered t n) = (lost ≡ false) ⊎ (n < lived)
    → AllVoid k made caller first position × Settles k made caller position t.answer
VoidStage k made caller lost lived first next position (AskedOf x) = lost ≡ false → AllVoid k made caller first position
VoidStage k made caller lost lived first next position Unknown = lost ≡ false → AllVoid k made caller first position
VoidStage k made caller lost lived first next position (TracedAt x) = lost ≡ false → AllVoid k made caller first position

-- a call that isn't to be asked has the last position
abbrev pub LastStage : ℕ → ℕ → Stage → Type 0
LastStage next position Unasked = Unit {0}
LastStage next position (Answered t n) = suc position ≡ next
LastStage next position (AskedOf x) = suc position ≡ next
LastStage next position Unknown = suc position ≡ next
LastStage next position (TracedAt x) = suc position ≡ next

abbrev pub VoidCall : ℕ → List Made → ℕ → Bool → ℕ → ℕ → ℕ → Option OpenCall → Type 0
VoidCall k made caller lost lived first next None = lost ≡ false → (n : ℕ) → first ≤ n → suc n < next → Void k made caller n
VoidCall k made caller lost lived first next (Some o) = VoidStage k made caller lost lived first next o.position o.stage × LastStage next o.position o.stage

abbrev HoldsAt : ℕ → List Made → ℕ → Bool → ℕ → ℕ → ℕ → ℕ → Stage → Type 0
HoldsAt k made caller lost lived first next position stage = VoidStage k made caller lost lived first next position stage × LastStage next position stage

-- all that holds of positions
pub record Spent (s : Dimensions) (failed : Processes) (lived : ProcessId → ℕ) (gw : Gateways) (made : List Made) (first : ℕ → ℕ) : Type 0 where
  pub lanes : (g x : ProcessId) → Each (Sound s failed made gw.next) (gw.requests g x)
  pub parks : (x : ProcessId) → Each (Sound s failed made gw.next) (gw.parked x)
  pub told : (x g : ProcessId) → Living s failed x → Each (Fated s failed made) (gw.answers x g)
  pub asked : (caller : ℕ) → asked_by made caller ≤ gw.next caller
  pub calls : (caller : ℕ) → VoidCall s.k made caller (failed (gateway_of s caller)) (lived (gateway_of s caller))
      (first caller) (gw.next caller) (gw.call caller)

all-more : (k : ℕ) (made more : List Made) (caller from to : ℕ) → AllVoid k made caller from to → AllVoid k (made ++ more) caller from to
all-more k made more caller from to all n low high = void-more k made more caller n (all n low high)

settles-more : (k : ℕ) (made more : List Made) (caller position : ℕ) (answer : Answer)
    → Settles k made caller position answer → Settles k (made ++ more) caller position answer
settles-more k made more caller position answer (inl reply) = inl reply
settles-more k made more caller position answer (inr void) = inr (void-more k made more caller position void)

-- a stage with more events, where whoever counts as living now did before
stage-more : (k : ℕ) (made more : List Made) (caller : ℕ) (lost now : Bool) (lived later first next position : ℕ) (stage : Stage) → (now ≡ false → lost ≡ false)
    → ((t : Told) (n : ℕ) → stage ≡ Answered t n → (now ≡ false) ⊎ (n < later) → (lost ≡ false) ⊎ (n < lived))
    → VoidStage k made caller lost lived first next position stage → VoidStage k (made ++ more) caller now later first next position stage
stage-more k made more caller lost now lived later first next position Unasked lives was v = λ gl. all-more k made more caller first next (v (lives gl))
stage-more k made more caller lost now lived later first next position (AskedOf x) lives was v = λ gl. all-more k made more caller first position (v (lives gl))
stage-more k made more caller lost now lived later first next position Unknown lives was v = λ gl. all-more k made more caller first position (v (lives gl))
stage-more k made more caller lost now lived later first next position (TracedAt x) lives was v =
    λ gl. all-more k made more caller first position (v (lives gl))
stage-more k made more caller lost now lived later first next position (Answered t n) lives was v = λ alive.
    let old = v (was t n refl alive) in (all-more k made more caller first position old.0, settles-more k made more caller position t.answer old.1)

call-more : (k : ℕ) (made more : List Made) (caller : ℕ) (lost now : Bool) (lived later first next : ℕ) (call : Option OpenCall) → (now ≡ false → lost ≡ false)
    → ((o : OpenCall) (t : Told) (n : ℕ) → call ≡ Some o → o.stage ≡ Answered t n → (now ≡ false) ⊎ (n < later) → (lost ≡ false) ⊎ (n < lived))
    → VoidCall k made caller lost lived first next call → VoidCall k (made ++ more) caller now later first next call
call-more k made more caller lost now lived later first next None lives was v = λ gl n low high. void-more k made more caller n (v (lives gl) n low high)
call-more k made more caller lost now lived later first next (Some o) lives was v =
    (stage-more k made more caller lost now lived later first next o.position o.stage lives (λ t n is. was o t n refl is) v.0, v.1)

-- all of a call's positions but the last are void, also where it has ended
pub call-ends : (k : ℕ) (made : List Made) (caller : ℕ) (lost : Bool) (lived first next : ℕ) (call : Option OpenCall)
    → VoidCall k made caller lost lived first next call → VoidCall k made caller lost lived first next None
call-ends k made caller lost lived first next None v = v
call-ends k made caller lost lived first next (Some o) v = by o.stage v.0 v.1 where
  by : (stage : Stage) → VoidStage k made caller lost lived first next o.position stage
      → LastStage next o.position stage → lost ≡ false → (n : ℕ) → first ≤ n → suc n < next → Void k made caller n
  by Unasked v last gl n low high = v gl n low (omega (arith, high))
  by (AskedOf x) v last gl n low high = v gl n low (omega (arith, high, last))
  by Unknown v last gl n low high = v gl n low (omega (arith, high, last))
  by (TracedAt x) v last gl n low high = v gl n low (omega (arith, high, last))
  by (Answered t m) v last gl n low high = (v (inl gl)).0 n low (omega (arith, high, last))

-- with its last position all are void
pub all-last : (k : ℕ) (made : List Made) (caller first next position : ℕ) → suc position ≡ next
    → AllVoid k made caller first position → Void k made caller position → AllVoid k made caller first next
all-last k made caller first next position last all void n low high = by (cases_lt n position) where
  by : (n < position) ⊎ (position ≤ n) → Void k made caller n
  by (inl below) = all n low below
  by (inr above) = let same : position ≡ n = omega (arith, above, high, last) in subst (λ (m : ℕ). Void k made caller m) same void

module _ (s : Dimensions) (failed : Processes) (lived : ProcessId → ℕ) (gw : Gateways) (made : List Made)
    (first : ℕ → ℕ) (b : Spent s failed lived gw made first) where
  -- more events, and more that fail
  pub spent-more : (more : List Made) (now : Processes) (later : ProcessId → ℕ) → ((x : ProcessId) → now x ≡ false → failed x ≡ false)
      → ((caller : ℕ) (o : OpenCall) (t : Told) (n : ℕ) → gw.call caller ≡ Some o → o.stage ≡ Answered t n
      → (now (gateway_of s caller) ≡ false) ⊎ (n < later (gateway_of s caller))
      → (failed (gateway_of s caller) ≡ false) ⊎ (n < lived (gateway_of s caller)))
      → ((caller : ℕ) → asked_by (made ++ more) caller ≤ gw.next caller) → Spent s now later gw (made ++ more) first
  spent-more more now later lives was low = record {
    lanes = λ g x. each-weaker (Sound s failed made gw.next) (Sound s now (made ++ more) gw.next)
        (sound-more s failed now made more gw.next gw.next lives (λ caller. omega arith)) (gw.requests g x)
        (b.lanes g x);
    parks = λ x. each-weaker (Sound s failed made gw.next) (Sound s now (made ++ more) gw.next)
        (sound-more s failed now made more gw.next gw.next lives (λ caller. omega arith)) (gw.parked x) (b.parks x);
    told = λ x g xl. each-weaker (Fated s failed made) (Fated s now (made ++ more))
        (fated-more s failed now made more lives) (gw.answers x g) (b.told x g (xl.0, lives x xl.1));
    asked = low;
    calls = λ caller. call-more s.k made more caller (failed (gateway_of s caller)) (now (gateway_of s caller))
        (lived (gateway_of s caller)) (later (gateway_of s caller)) (first caller) (gw.next caller) (gw.call caller)
        (lives (gateway_of s caller)) (was caller) (b.calls caller);
  }

  -- a caller's call becomes another
  pub spent-call : (caller : ℕ) (now : Option OpenCall) → VoidCall s.k made caller (failed (gateway_of s caller))
      (lived (gateway_of s caller)) (first caller) (gw.next caller) now
      → Spent s failed lived (record gw { call = changed_at gw.call caller now }) made first
  spent-call caller now v = record {
    lanes = b.lanes;
    parks = b.parks;
    told = b.told;
    asked = b.asked;
    calls = changed_at-each (λ c call. VoidCall s.k made c (failed (gateway_of s c)) (lived (gateway_of s c)) (first c)
        (gw.next c) call) gw.call caller now v (λ c _. b.calls c);
  }

  -- what a member tells goes to a gateway
  pub spent-told : (cut : ProcessId → Processes) (p : ProcessId) (t : Told)
      → (Living s failed p → Fated s failed made t)
      → Spent s failed lived (record gw { answers = sent_on cut gw.answers p (gateway_of s t.caller) t }) made first
  spent-told cut p t fated = record {
    lanes = b.lanes;
    parks = b.parks;
    told = changed-pairs (λ x g ts. Living s failed x → Each (Fated s failed made) ts) gw.answers p
        (gateway_of s t.caller) (one_or (cut p (gateway_of s t.caller)) (gw.answers p (gateway_of s t.caller))
        (gw.answers p (gateway_of s t.caller) ++ t ∷ []))
        (λ lives. one_or-is (Each (Fated s failed made)) (cut p (gateway_of s t.caller))
        (gw.answers p (gateway_of s t.caller)) (gw.answers p (gateway_of s t.caller) ++ t ∷ [])
        (λ _. b.told p (gateway_of s t.caller) lives)
        (λ _. each-append (Fated s failed made) (gw.answers p (gateway_of s t.caller)) (t ∷ [])
        (b.told p (gateway_of s t.caller) lives) (fated lives, tt))) b.told;
    asked = b.asked;
    calls = b.calls;
  }

  -- a gateway sends a request
  pub spent-sent : (cut : ProcessId → Processes) (g x : ProcessId) (r : Request) → Sound s failed made gw.next r
      → Spent s failed lived (record gw { requests = sent_on cut gw.requests g x r }) made first
  spent-sent cut g x r sound = record {
    lanes = changed-pairs (λ y z rs. Each (Sound s failed made gw.next) rs) gw.requests g x (one_or (cut g x) (gw.requests g x) (gw.requests g x ++ r ∷ []))
        (one_or-is (Each (Sound s failed made gw.next)) (cut g x) (gw.requests g x) (gw.requests g x ++ r ∷ []) (λ _. b.lanes g x)
        (λ _. each-append (Sound s failed made gw.next) (gw.requests g x) (r ∷ []) (b.lanes g x) (sound, tt))) b.lanes;
    parks = b.parks;
    told = b.told;
    asked = b.asked;
    calls = b.calls;
  }

  -- a member reads the first request of a wire
  pub spent-read : (g p : ProcessId) (r : Request) (rest : List Request) → gw.requests g p ≡ r ∷ rest
      → Spent s failed lived
      (record gw { requests = changed_from gw.requests g p rest; parked = changed gw.parked p (gw.parked p ++ r ∷ []) })
      made first
  spent-read g p r rest is = record {
    lanes = changed-pairs (λ y z rs. Each (Sound s failed made gw.next) rs) gw.requests g p rest all.1 b.lanes;
    parks = changed-each (λ x rs. Each (Sound s failed made gw.next) rs) gw.parked p (gw.parked p ++ r ∷ [])
        (each-append (Sound s failed made gw.next) (gw.parked p) (r ∷ []) (b.parks p) (all.0, tt)) (λ x _. b.parks x);
    told = b.told;
    asked = b.asked;
    calls = b.calls;
  } where
    all : Each (Sound s failed made gw.next) (r ∷ rest)
    all = subst (Each (Sound s failed made gw.next)) is (b.lanes g p)

  -- it takes one that it has read
  pub spent-taken : (p : ProcessId) (place : ℕ) → Spent s failed lived (record gw { parked = changed gw.parked p (without_nth (gw.parked p) place) }) made first
  spent-taken p place = record {
    lanes = b.lanes;
    parks = changed-each (λ x rs. Each (Sound s failed made gw.next) rs) gw.parked p (without_nth (gw.parked p) place)
        (each-without (Sound s failed made gw.next) (gw.parked p) place (b.parks p)) (λ x _. b.parks x);
    told = b.told;
    asked = b.asked;
    calls = b.calls;
  }

  -- a gateway learns an answer
  pub spent-learns : (x p : ProcessId) (pinged : ℕ) (t : Told) (rest : List Told) → gw.answers x p ≡ t ∷ rest
      → (failed (gateway_of s t.caller) ≡ false → Living s failed x)
      → ((failed (gateway_of s t.caller) ≡ false) ⊎ (pinged < lived (gateway_of s t.caller)) → failed (gateway_of s t.caller) ≡ false)
      → Spent s failed lived
      (record gw {
        answers = changed_from gw.answers x p rest;
        call = changed_at gw.call t.caller (call_learned t pinged (gw.call t.caller));
      }) made first
  spent-learns x p pinged t rest is lives alive = record {
    lanes = b.lanes;
    parks = b.parks;
    told = changed-pairs (λ x g ts. Living s failed x → Each (Fated s failed made) ts) gw.answers x p rest (λ xl. (all xl).1) b.told;
    asked = b.asked;
    calls = changed_at-each (λ c call. VoidCall s.k made c (failed (gateway_of s c)) (lived (gateway_of s c)) (first c)
        (gw.next c) call) gw.call t.caller (call_learned t pinged (gw.call t.caller))
        (learns (gw.call t.caller) (b.calls t.caller)) (λ c _. b.calls c);
  } where
    all : Living s failed x → Each (Fated s failed made) (t ∷ rest)
    all xl = subst (Each (Fated s failed made)) is (b.told x p xl)

    outcome : failed (gateway_of s t.caller) ≡ false → Outcome s.k made t
    outcome gl = (all (lives gl)).0 gl

    -- what the answer makes of the stage
    after : (position : ℕ) → position ≡ t.call → suc position ≡ gw.next t.caller
        → (failed (gateway_of s t.caller) ≡ false → AllVoid s.k made t.caller (first t.caller) position)
        → (stage : Stage) → stage_told t pinged t.answer t.traced ≡ stage → (stage ≡ Answered t pinged) ⊎ (stage ≡ Unasked) ⊎ (stage ≡ Unknown)
        → VoidStage s.k made t.caller (failed (gateway_of s t.caller)) (lived (gateway_of s t.caller)) (first t.caller)
        (gw.next t.caller) position stage × LastStage (gw.next t.caller) position stage
    after position same last v (Answered u n) told which = ((λ now. (v (alive (early now)), settled (outcome (alive (early now))))), last) where
      answered : Answered u n ≡ Answered t pinged
      answered = by which where
        by : (Answered u n ≡ Answered t pinged) ⊎ (Answered u n ≡ Unasked) ⊎ (Answered u n ≡ Unknown) → Answered u n ≡ Answered t pinged
        by (inl is) = is
        by (inr (inl is)) = cc is
        by (inr (inr is)) = cc is

      early : (failed (gateway_of s t.caller) ≡ false) ⊎ (n < lived (gateway_of s t.caller))
          → (failed (gateway_of s t.caller) ≡ false) ⊎ (pinged < lived (gateway_of s t.caller))
      early now = subst (λ (m : ℕ). (failed (gateway_of s t.caller) ≡ false) ⊎ (m < lived (gateway_of s t.caller))) (ap number answered) now where
        number : Stage → ℕ
        number (Answered w m) = m
        number _ = n

      settled : Outcome s.k made t → Settles s.k made t.caller position u.answer
      settled (inl (reply, is)) = inl (reply, ap answer answered ∙ is) where
        answer : Stage → Answer
        answer (Answered w m) = w.answer
        answer _ = u.answer
      settled (inr (inl void)) = inr (subst (λ (m : ℕ). Void s.k made t.caller m) (sym same) void)
      settled (inr (inr unknown)) = let none = unknown pinged in cc (none, told)
    after position same last v Unasked told which = (
      (λ gl. all-last s.k made t.caller (first t.caller) (gw.next t.caller) position last (v gl)
          (void (outcome gl))),
      tt,
    ) where
      void : Outcome s.k made t → Void s.k made t.caller position
      void (inl (reply, is)) = let never : Answered t pinged ≡ Unasked = sym (ap (λ (a : Answer). stage_told t pinged a t.traced) is) ∙ told in cc never
      void (inr (inl is)) = subst (λ (m : ℕ). Void s.k made t.caller m) (sym same) is
      void (inr (inr unknown)) = let none = unknown pinged in cc (none, told)
    after position same last v Unknown told which = (v, last)
    after position same last v (AskedOf y) told which = absurd (by which) where
      by : (AskedOf y ≡ Answered t pinged) ⊎ (AskedOf y ≡ Unasked) ⊎ (AskedOf y ≡ Unknown) → ⊥
      by (inl is) = cc is
      by (inr (inl is)) = cc is
      by (inr (inr is)) = cc is
    after position same last v (TracedAt y) told which = absurd (by which) where
      by : (TracedAt y ≡ Answered t pinged) ⊎ (TracedAt y ≡ Unasked) ⊎ (TracedAt y ≡ Unknown) → ⊥
      by (inl is) = cc is
      by (inr (inl is)) = cc is
      by (inr (inr is)) = cc is

    staged : (position : ℕ) (stage : Stage) → position ≡ t.call
        → HoldsAt s.k made t.caller (failed (gateway_of s t.caller)) (lived (gateway_of s t.caller)) (first t.caller)
        (gw.next t.caller) position stage → HoldsAt s.k made t.caller (failed (gateway_of s t.caller))
        (lived (gateway_of s t.caller)) (first t.caller) (gw.next t.caller) position (stage_learned t pinged stage)
    staged position Unasked same v = v
    staged position Unknown same v = v
    staged position (Answered u n) same v = v
    staged position (AskedOf y) same v = by t.traced where
      by : (traced : Bool) → HoldsAt s.k made t.caller (failed (gateway_of s t.caller)) (lived (gateway_of s t.caller))
          (first t.caller) (gw.next t.caller) position
          (one_or traced (AskedOf y) (stage_told t pinged t.answer t.traced))
      by true = v
      by false = after position same v.1 v.0 (stage_told t pinged t.answer t.traced) refl (told-which t pinged t.answer t.traced)
    staged position (TracedAt y) same v = by t.traced where
      by : (traced : Bool) → HoldsAt s.k made t.caller (failed (gateway_of s t.caller)) (lived (gateway_of s t.caller))
          (first t.caller) (gw.next t.caller) position
          (one_or traced (stage_told t pinged t.answer t.traced) (TracedAt y))
      by true = after position same v.1 v.0 (stage_told t pinged t.answer t.traced) refl (told-which t pinged t.answer t.traced)
      by false = v

    learns : (call : Option OpenCall) → VoidCall s.k made t.caller (failed (gateway_of s t.caller))
        (lived (gateway_of s t.caller)) (first t.caller) (gw.next t.caller) call
        → VoidCall s.k made t.caller (failed (gateway_of s t.caller)) (lived (gateway_of s t.caller)) (first t.caller)
        (gw.next t.caller) (call_learned t pinged call)
    learns None v = v
    learns (Some o) v = which (cases_eq o.position t.call) where
      which : (o.position ≡ t.call) ⊎ (o.position ≢ t.call) → HoldsAt s.k made t.caller (failed (gateway_of s t.caller))
          (lived (gateway_of s t.caller)) (first t.caller) (gw.next t.caller) o.position
          (one_or (o.position == t.call) (stage_learned t pinged o.stage) o.stage)
      which (inl same) =
          subst (λ (b : Bool). HoldsAt s.k made t.caller (failed (gateway_of s t.caller))
          (lived (gateway_of s t.caller)) (first t.caller) (gw.next t.caller) o.position
          (one_or b (stage_learned t pinged o.stage) o.stage)) (sym (eq-eqb o.position t.call same))
          (staged o.position o.stage same v)
      which (inr other) =
          subst (λ (b : Bool). HoldsAt s.k made t.caller (failed (gateway_of s t.caller))
          (lived (gateway_of s t.caller)) (first t.caller) (gw.next t.caller) o.position
          (one_or b (stage_learned t pinged o.stage) o.stage)) (sym (ne_eqb o.position t.call other)) v
