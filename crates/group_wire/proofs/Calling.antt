-- What gateways do keeps positions.
use Rattle.std.proofs.Common.{ℕ, suc, ◌≡◌, ◌≢◌, ◌<◌, ◌≤◌, ◌+◌, ◌⊎◌, inl, inr, Bool, true, false, List, ◌∷◌, Option}
use Rattle.std.proofs.Common.{Some, None, refl, sym, ap, subst, ◌∙◌, arith, All}
use Rattle.std.proofs.lemmas.Bool.{cases_eq, eq-eqb, ne_eqb}
use Rattle.group_types.specs.Dimensions.{Dimensions, callers}
use Rattle.group_types.specs.Each.{Each}
use Rattle.group_types.specs.Names.{IsProcess}
use Rattle.group_types.specs.declared.process.ProcessId.{ProcessId}
use Rattle.memc_table.specs.Act.{act_value}
use Rattle.memc_table.specs.declared.act.Act.{Act}
use Rattle.memc_table.specs.declared.act.Act.TheVariants as act
use Rattle.group_calls.specs.declared.event.Answer.{Answer}
use Rattle.group_wire.specs.Sets.{Processes, changed_at, changed_from, one_or}
use Rattle.group_wire.specs.State.{Request, AskFor, TraceOf, Told, Stage, Unasked, AskedOf, Unknown, TracedAt, Answered, OpenCall, Gateways, gateway_of}
use Rattle.group_wire.specs.Sending.{sent_on}
use Rattle.group_wire.specs.Serving.{again, call_learned, stage_learned, stage_told}
use Rattle.group_wire.proofs.Answering.{goes_on, on-which, told-which}
use Rattle.group_wire.proofs.Changes.{changed-pairs, changed_at-each, changed_at-here}
use Rattle.group_wire.proofs.Positions.{CallFits, NoneWait, Positioned, StageFits, call-kept}
use Rattle.group_wire.proofs.Requests.{FitsAsked, Living, caller_in, is_ask, placed-sent, sent-which, waits, with_sent}

-- what is told of a call that was asked as often as its gateway says
told-fits : (s : Dimensions) (failed : Processes) (wait : ProcessId → ℕ) (asked next position : ℕ) (t : Told) (pinged : ℕ) (answer : Answer) (traced : Bool)
    → (asked ≡ next) × NoneWait s failed wait × (t.call ≡ position) × (suc position ≡ next)
    → StageFits s failed wait asked next position (stage_told t pinged answer traced)
told-fits s failed wait asked next position t pinged answer traced f = by (told-which t pinged answer traced) where
  by : (stage_told t pinged answer traced ≡ Answered t pinged) ⊎ (stage_told t pinged answer traced ≡ Unasked)
      ⊎ (stage_told t pinged answer traced ≡ Unknown)
      → StageFits s failed wait asked next position (stage_told t pinged answer traced)
  by (inl is) = subst (StageFits s failed wait asked next position) (sym is) f
  by (inr (inl is)) = subst (StageFits s failed wait asked next position) (sym is) (f.0, f.1)
  by (inr (inr is)) = subst (StageFits s failed wait asked next position) (sym is) (f.0, f.1, f.3)

-- a call that waits for an answer learns it
learned-fits : (s : Dimensions) (failed : Processes) (wait : ProcessId → ℕ) (asked next position : ℕ) (t : Told)
    (pinged : ℕ) (stage : Stage) → t.call ≡ position → t.call < asked
    → StageFits s failed wait asked next position stage → StageFits s failed wait asked next position (stage_learned t pinged stage)
learned-fits s failed wait asked next position t pinged (AskedOf x) same low f = by t.traced f.2 where
  by : (traced : Bool) → (asked ≡ position) ⊎ ((asked ≡ next) × NoneWait s failed wait)
      → StageFits s failed wait asked next position (one_or traced (AskedOf x) (stage_told t pinged t.answer traced))
  by true which = f
  by false (inl is) = absurd (omega (arith, low, same, is))
  by false (inr which) = told-fits s failed wait asked next position t pinged t.answer false (which.0, which.1, same, f.1)
learned-fits s failed wait asked next position t pinged (TracedAt x) same low f = by t.traced where
  by : (traced : Bool) → StageFits s failed wait asked next position (one_or traced (stage_told t pinged t.answer traced) (TracedAt x))
  by true = told-fits s failed wait asked next position t pinged t.answer true (f.0, f.1, same, f.2)
  by false = f
learned-fits s failed wait asked next position t pinged Unasked same low f = f
learned-fits s failed wait asked next position t pinged Unknown same low f = f
learned-fits s failed wait asked next position t pinged (Answered u n) same low f = f

call-learns : (s : Dimensions) (failed : Processes) (wait : ProcessId → ℕ) (asked next : ℕ) (t : Told) (pinged : ℕ) (call : Option OpenCall) → t.call < asked
    → CallFits s failed wait asked next call → CallFits s failed wait asked next (call_learned t pinged call)
call-learns s failed wait asked next t pinged None low f = f
call-learns s failed wait asked next t pinged (Some o) low f = by (cases_eq o.position t.call) where
  by : (o.position ≡ t.call) ⊎ (o.position ≢ t.call) → CallFits s failed wait asked next (call_learned t pinged (Some o))
  by (inl same) = (
    f.0,
    subst (λ (b : Bool). StageFits s failed wait asked next o.position
        (one_or b (stage_learned t pinged o.stage) o.stage)) (sym (eq-eqb o.position t.call same))
        (learned-fits s failed wait asked next o.position t pinged o.stage (sym same) low f.1),
  )
  by (inr other) = (
    f.0,
    subst (λ (b : Bool). StageFits s failed wait asked next o.position
        (one_or b (stage_learned t pinged o.stage) o.stage)) (sym (ne_eqb o.position t.call other)) f.1,
  )

-- a call that is given up goes on
again-goes : (a : Act) → goes_on (again a) ≡ true
again-goes (act.Get key) = refl
again-goes (act.Set key flags expiry value) = refl
again-goes (act.Add key flags expiry value) = refl
again-goes (act.Replace key flags expiry value) = refl
again-goes (act.Cas key flags expiry cas value) = refl
again-goes (act.Delete key) = refl
again-goes (act.Touch key expiry) = refl
again-goes (act.Append key value) = refl
again-goes (act.Prepend key value) = refl
again-goes (act.Incr key by) = refl
again-goes (act.Decr key by) = refl

pub again-which : (a : Act) → (again a ≡ Unasked) ⊎ (again a ≡ Unknown)
again-which a = on-which (again a) (again-goes a)

-- once it was asked
pub given-up-fits : (s : Dimensions) (failed : Processes) (wait : ProcessId → ℕ) (asked next position : ℕ) (a : Act)
    → (asked ≡ next) × NoneWait s failed wait × (suc position ≡ next)
    → StageFits s failed wait asked next position (again a)
given-up-fits s failed wait asked next position a f = by (again-which a) where
  by : (again a ≡ Unasked) ⊎ (again a ≡ Unknown) → StageFits s failed wait asked next position (again a)
  by (inl is) = subst (StageFits s failed wait asked next position) (sym is) (f.0, f.1)
  by (inr is) = subst (StageFits s failed wait asked next position) (sym is) f

module _ (s : Dimensions) (cut : ProcessId → Processes) (failed : Processes) (gw : Gateways) (asked : ℕ → ℕ) (b : Positioned s cut failed gw asked) where
  -- a gateway asks under the next position
  pub positioned-asks : (caller : ℕ) (x : ProcessId) (o : OpenCall) → gw.call caller ≡ Some o → o.stage ≡ Unasked → caller < callers → IsProcess s x
      → (Living s failed x → failed (gateway_of s caller) ≡ true → cut x (gateway_of s caller) ≡ true)
      → Positioned s cut failed (record gw {
        call = changed_at gw.call caller (Some (record o { position = gw.next caller; stage = AskedOf x }));
        next = changed_at gw.next caller (suc (gw.next caller));
        requests = sent_on cut gw.requests (gateway_of s caller) x (AskFor caller (gw.next caller) o.op);
      }) asked
  positioned-asks who x o call stage low xin shut = record {
    placed = placed-sent s cut failed gw.requests gw.parked asked b.placed (gateway_of s who) x r refl may;
    calls = changed_at-each (λ c call. failed (gateway_of s c) ≡ false
        → CallFits s failed
        (waits s cut (with_sent s cut failed gw.requests gw.parked asked b.placed (gateway_of s who) x r) gw.parked c)
        (asked c) (changed_at gw.next who (suc (gw.next who)) c) call) gw.call who _ mine others;
    told = b.told;
    theirs = b.theirs;
  } where
    r : Request
    r = AskFor who (gw.next who) o.op

    fits : failed (gateway_of s who) ≡ false → All (λ b. b < 256) (act_value o.op.act) × (asked who ≡ gw.next who)
        × NoneWait s failed (waits s cut gw.requests gw.parked who)
    fits lives =
        let f : CallFits s failed (waits s cut gw.requests gw.parked who) (asked who) (gw.next who) (Some o) =
        subst (CallFits s failed (waits s cut gw.requests gw.parked who) (asked who) (gw.next who)) call
        (b.calls who lives) in
        let g : StageFits s failed (waits s cut gw.requests gw.parked who) (asked who) (gw.next who) o.position
        Unasked = subst (StageFits s failed (waits s cut gw.requests gw.parked who) (asked who) (gw.next who)
        o.position) stage f.1 in
        (f.0, g.0, g.1)

    may : Living s failed x → cut x (gateway_of s who) ≡ false → FitsAsked s asked r
        × (0 < is_ask who r → (z : ProcessId) → Living s failed z → waits s cut gw.requests gw.parked who z ≡ 0)
    may lives uncut = by (failed (gateway_of s who)) refl where
      by : (lost : Bool) → failed (gateway_of s who) ≡ lost → FitsAsked s asked r
          × (0 < is_ask who r → (z : ProcessId) → Living s failed z → waits s cut gw.requests gw.parked who z ≡ 0)
      by true is = cc (shut lives is, uncut)
      by false is = let f = fits is in ((low, sym f.1, f.0), λ _. f.2)

    mine : failed (gateway_of s who) ≡ false
        → CallFits s failed
        (waits s cut (with_sent s cut failed gw.requests gw.parked asked b.placed (gateway_of s who) x r) gw.parked
        who) (asked who) (changed_at gw.next who (suc (gw.next who)) who)
        (Some (record o { position = gw.next who; stage = AskedOf x }))
    mine lives = let f = fits lives in (
      f.0,
      (
        xin,
        sym (changed_at-here gw.next who (suc (gw.next who))),
        inl f.1,
        λ z zl some. at_x z zl some (sent-which s cut failed gw.requests gw.parked asked b.placed (gateway_of s who) x r
            who z),
      ),
    ) where
      at_x : (z : ProcessId) → Living s failed z
          → 0 < waits s cut (with_sent s cut failed gw.requests gw.parked asked b.placed (gateway_of s who) x r)
          gw.parked who z
          → (waits s cut (with_sent s cut failed gw.requests gw.parked asked b.placed (gateway_of s who) x r) gw.parked
          who z ≤ waits s cut gw.requests gw.parked who z)
          ⊎ ((z ≡ x) × (gateway_of s who ≡ gateway_of s who) × (who ≡ caller_in r) × (cut x (gateway_of s who) ≡ false)
          × (0 < is_ask who r)
          × (waits s cut (with_sent s cut failed gw.requests gw.parked asked b.placed (gateway_of s who) x r)
          gw.parked who z ≤ waits s cut gw.requests gw.parked who z + 1)) → z ≡ x
      at_x z zl some (inl less) = let n = (fits lives).2 z zl in absurd (omega (arith, n, less, some))
      at_x z zl some (inr which) = which.0

    others : (c : ℕ) → c ≢ who → failed (gateway_of s c) ≡ false
        → CallFits s failed
        (waits s cut (with_sent s cut failed gw.requests gw.parked asked b.placed (gateway_of s who) x r) gw.parked c)
        (asked c) (changed_at gw.next who (suc (gw.next who)) c) (gw.call c)
    others c other lives =
        subst (λ (n : ℕ). CallFits s failed
        (waits s cut (with_sent s cut failed gw.requests gw.parked asked b.placed (gateway_of s who) x r) gw.parked c)
        (asked c) n (gw.call c))
        (sym (ap (λ (d : Bool). one_or d (suc (gw.next who)) (gw.next c)) (ne_eqb c who other)))
        (call-kept s failed failed (waits s cut gw.requests gw.parked c)
        (waits s cut (with_sent s cut failed gw.requests gw.parked asked b.placed (gateway_of s who) x r) gw.parked c)
        (asked c) (gw.next c) (gw.call c)
        (λ z zl. (zl, less z (sent-which s cut failed gw.requests gw.parked asked b.placed (gateway_of s who) x r c z))) (b.calls c lives))
      where
        less : (z : ProcessId)
            → (waits s cut (with_sent s cut failed gw.requests gw.parked asked b.placed (gateway_of s who) x r)
            gw.parked c z ≤ waits s cut gw.requests gw.parked c z)
            ⊎ ((z ≡ x) × (gateway_of s c ≡ gateway_of s who) × (c ≡ caller_in r) × (cut x (gateway_of s who) ≡ false)
            × (0 < is_ask c r)
            × (waits s cut (with_sent s cut failed gw.requests gw.parked asked b.placed (gateway_of s who) x r)
            gw.parked c z ≤ waits s cut gw.requests gw.parked c z + 1))
            → waits s cut (with_sent s cut failed gw.requests gw.parked asked b.placed (gateway_of s who) x r) gw.parked
            c z ≤ waits s cut gw.requests gw.parked c z
        less z (inl fewer) = fewer
        less z (inr which) = absurd (other which.2)

  -- a gateway traces a call of unknown fate
  pub positioned-traces : (caller : ℕ) (x : ProcessId) (o : OpenCall) (d : ℕ) → gw.call caller ≡ Some o → o.stage ≡ Unknown → caller < callers → d < s.k
      → (Living s failed x → failed (gateway_of s caller) ≡ true → cut x (gateway_of s caller) ≡ true)
      → Positioned s cut failed (record gw {
        call = changed_at gw.call caller (Some (record o { stage = TracedAt x }));
        requests = sent_on cut gw.requests (gateway_of s caller) x (TraceOf caller o.position d);
      }) asked
  positioned-traces who x o d call stage low below shut = record {
    placed = placed-sent s cut failed gw.requests gw.parked asked b.placed (gateway_of s who) x r refl may;
    calls = changed_at-each (λ c call. failed (gateway_of s c) ≡ false
        → CallFits s failed
        (waits s cut (with_sent s cut failed gw.requests gw.parked asked b.placed (gateway_of s who) x r) gw.parked c)
        (asked c) (gw.next c) call) gw.call who _
        (λ lives. kept who (Some (record o { stage = TracedAt x })) (traced lives)) (λ c _ lives. kept c (gw.call c) (b.calls c lives));
    told = b.told;
    theirs = b.theirs;
  } where
    r : Request
    r = TraceOf who o.position d

    fits : failed (gateway_of s who) ≡ false → CallFits s failed (waits s cut gw.requests gw.parked who) (asked who) (gw.next who) (Some o)
    fits lives = subst (CallFits s failed (waits s cut gw.requests gw.parked who) (asked who) (gw.next who)) call (b.calls who lives)

    traced : failed (gateway_of s who) ≡ false → CallFits s failed (waits s cut gw.requests gw.parked who) (asked who)
        (gw.next who) (Some (record o { stage = TracedAt x }))
    traced lives = (
      (fits lives).0,
      subst (StageFits s failed (waits s cut gw.requests gw.parked who) (asked who) (gw.next who) o.position) stage
          (fits lives).1,
    )

    may : Living s failed x → cut x (gateway_of s who) ≡ false → FitsAsked s asked r
        × (0 < is_ask who r → (z : ProcessId) → Living s failed z → waits s cut gw.requests gw.parked who z ≡ 0)
    may lives uncut = by (failed (gateway_of s who)) refl where
      by : (lost : Bool) → failed (gateway_of s who) ≡ lost → FitsAsked s asked r
          × (0 < is_ask who r → (z : ProcessId) → Living s failed z → waits s cut gw.requests gw.parked who z ≡ 0)
      by true is = cc (shut lives is, uncut)
      by false is =
          let f : StageFits s failed (waits s cut gw.requests gw.parked who) (asked who) (gw.next who) o.position (TracedAt x) = (traced is).1 in
          let one = f.0 in let two = f.2 in
          ((low, omega (arith, one, two), below), λ none. absurd (omega (arith, none)))

    kept : (c : ℕ) (call : Option OpenCall) → CallFits s failed (waits s cut gw.requests gw.parked c) (asked c) (gw.next c) call
        → CallFits s failed
        (waits s cut (with_sent s cut failed gw.requests gw.parked asked b.placed (gateway_of s who) x r) gw.parked c)
        (asked c) (gw.next c) call
    kept c call f = call-kept s failed failed (waits s cut gw.requests gw.parked c)
        (waits s cut (with_sent s cut failed gw.requests gw.parked asked b.placed (gateway_of s who) x r) gw.parked c)
        (asked c) (gw.next c) call
        (λ z zl. (zl, less z (sent-which s cut failed gw.requests gw.parked asked b.placed (gateway_of s who) x r c z))) f
      where
        less : (z : ProcessId)
            → (waits s cut (with_sent s cut failed gw.requests gw.parked asked b.placed (gateway_of s who) x r)
            gw.parked c z ≤ waits s cut gw.requests gw.parked c z)
            ⊎ ((z ≡ x) × (gateway_of s c ≡ gateway_of s who) × (c ≡ caller_in r) × (cut x (gateway_of s who) ≡ false)
            × (0 < is_ask c r)
            × (waits s cut (with_sent s cut failed gw.requests gw.parked asked b.placed (gateway_of s who) x r)
            gw.parked c z ≤ waits s cut gw.requests gw.parked c z + 1))
            → waits s cut (with_sent s cut failed gw.requests gw.parked asked b.placed (gateway_of s who) x r) gw.parked
            c z ≤ waits s cut gw.requests gw.parked c z
        less z (inl fewer) = fewer
        less z (inr which) = let none = which.4 in absurd (omega (arith, none))

  -- a gateway learns an answer
  pub positioned-learns : (x p : ProcessId) (pinged : ℕ) (t : Told) (rest : List Told) → gw.answers x p ≡ t ∷ rest → (failed p ≡ false → Living s failed x)
      → Positioned s cut failed
      (record gw {
        answers = changed_from gw.answers x p rest;
        call = changed_at gw.call t.caller (call_learned t pinged (gw.call t.caller));
      }) asked
  positioned-learns x p pinged t rest is lives = record {
    placed = b.placed;
    calls = changed_at-each (λ c call. failed (gateway_of s c) ≡ false
        → CallFits s failed (waits s cut gw.requests gw.parked c) (asked c) (gw.next c) call) gw.call t.caller
        (call_learned t pinged (gw.call t.caller))
        (λ gl. call-learns s failed (waits s cut gw.requests gw.parked t.caller) (asked t.caller) (gw.next t.caller) t
        pinged (gw.call t.caller) (low (sym (ap failed theirs.0) ∙ gl)) (b.calls t.caller gl)) (λ c _. b.calls c);
    told = changed-pairs (λ x g ts. Living s failed x → Each (λ (t : Told). t.call < asked t.caller) ts) gw.answers x p
        rest (λ xl. (subst (Each (λ (t : Told). t.call < asked t.caller)) is (b.told x p xl)).1) b.told;
    theirs = changed-pairs (λ x g ts. Each (λ (t : Told). gateway_of s t.caller ≡ g) ts) gw.answers x p rest theirs.1 b.theirs;
  } where
    theirs : Each (λ (t : Told). gateway_of s t.caller ≡ p) (t ∷ rest)
    theirs = subst (Each (λ (t : Told). gateway_of s t.caller ≡ p)) is (b.theirs x p)

    low : failed p ≡ false → t.call < asked t.caller
    low pl = (subst (Each (λ (t : Told). t.call < asked t.caller)) is (b.told x p (lives pl))).0
