-- Callers' positions along runs: a caller whose gateway hasn't failed has asked as often as its gateway says, but for an
-- ask that is on its way, is kept, or is lost.
use Rattle.std.proofs.Common.{ℕ, suc, ◌≡◌, ◌≢◌, ◌<◌, ◌≤◌, ◌+◌, ◌==◌, ◌⊎◌, inl, inr, Bool, true, false, List, [], ◌∷◌}
use Rattle.std.proofs.Common.{◌++◌, Option, Some, None, map, refl, sym, ap, subst, if◌then◌else◌, arith, All}
use Rattle.std.proofs.lemmas.Bool.{cases_eq, eq-eqb, ne_eqb}
use Rattle.group_types.specs.Dimensions.{Dimensions}
use Rattle.group_types.specs.Each.{Each}
use Rattle.group_types.specs.Names.{IsProcess}
use Rattle.group_types.specs.declared.process.ProcessId.{ProcessId}
use Rattle.group_types.proofs.Eaches.{each-append, each-weaker}
use Rattle.memc_table.specs.Act.{act_value}
use Rattle.memc_table.specs.Asked.{Asked}
use Rattle.group_calls.specs.Turns.{asks_in}
use Rattle.group_calls.specs.declared.event.Event.{Event}
use Rattle.group_calls.specs.declared.event.Event.TheVariants as event
use Rattle.group_wire.specs.Sets.{Processes, changed, changed_at, changed_from, entry_at, one_or, without_nth}
use Rattle.group_wire.specs.State.{Request, AskFor, Told, Stage, Unasked, AskedOf, Unknown, TracedAt, Answered, OpenCall, Gateways, gateway_of}
use Rattle.group_wire.specs.Sending.{sent_on}
use Rattle.group_run.specs.Causes.{asks_among}
use Rattle.group_wire.specs.Composed.{Composed, Made}
use Rattle.group_wire.proofs.Changes.{changed-pairs, changed_at-each, changed_at-here, one_or-is}
use Rattle.group_wire.proofs.Requests.{Living, Placed, asked_once, cut-fewer, none-left, one-waiting, placed-cut}
use Rattle.group_wire.proofs.Requests.{placed-fail, placed-once, placed-read, placed-taken, read-fewer, taken-fewer}
use Rattle.group_wire.proofs.Requests.{waits}

-- no member that hasn't failed waits for it
abbrev pub NoneWait : Dimensions → Processes → (ProcessId → ℕ) → Type 0
NoneWait s failed wait = (z : ProcessId) → Living s failed z → wait z ≡ 0

-- a call's stage, with how often its caller has asked, its next position, and who waits for it
abbrev pub StageFits : Dimensions → Processes → (ProcessId → ℕ) → ℕ → ℕ → ℕ → Stage → Type 0
StageFits s failed wait asked next position (AskedOf x) =
    IsProcess s x × (suc position ≡ next) × ((asked ≡ position) ⊎ ((asked ≡ next) × NoneWait s failed wait))
    × ((z : ProcessId) → Living s failed z → 0 < wait z → z ≡ x)
StageFits s failed wait asked next position Unasked = (asked ≡ next) × NoneWait s failed wait
StageFits s failed wait asked next position Unknown = (asked ≡ next) × NoneWait s failed wait × (suc position ≡ next)
StageFits s failed wait asked next position (TracedAt x) = (asked ≡ next) × NoneWait s failed wait × (suc position ≡ next)
StageFits s failed wait asked next position (Answered t pinged) = (asked ≡ next) × NoneWait s failed wait × (t.call ≡ position) × (suc position ≡ next)

-- a caller's call, if it has one
abbrev pub CallFits : Dimensions → Processes → (ProcessId → ℕ) → ℕ → ℕ → Option OpenCall → Type 0
CallFits s failed wait asked next None = (asked ≡ next) × NoneWait s failed wait
CallFits s failed wait asked next (Some o) = All (λ b. b < 256) (act_value o.op.act) × StageFits s failed wait asked next o.position o.stage

-- whoever waits has waited
abbrev pub Waited : Dimensions → Processes → Processes → (ProcessId → ℕ) → (ProcessId → ℕ) → Type 0
Waited s failed now old new = (z : ProcessId) → Living s now z → Living s failed z × (new z ≤ old z)

none-kept : (s : Dimensions) (failed now : Processes) (old new : ProcessId → ℕ) → Waited s failed now old new → NoneWait s failed old → NoneWait s now new
none-kept s failed now old new waited none z lives = let w = (waited z lives).1 in let n = none z (waited z lives).0 in omega (arith, w, n)

stage-kept : (s : Dimensions) (failed now : Processes) (old new : ProcessId → ℕ) (asked next position : ℕ)
    (stage : Stage) → Waited s failed now old new → StageFits s failed old asked next position stage
    → StageFits s now new asked next position stage
stage-kept s failed now old new asked next position (AskedOf x) waited (xin, is, which, there) =
    (xin, is, by which, λ z lives some. there z (waited z lives).0 (let w = (waited z lives).1 in omega (arith, w, some)))
  where
    by : (asked ≡ position) ⊎ ((asked ≡ next) × NoneWait s failed old) → (asked ≡ position) ⊎ ((asked ≡ next) × NoneWait s now new)
    by (inl same) = inl same
    by (inr (same, none)) = inr (same, none-kept s failed now old new waited none)
stage-kept s failed now old new asked next position Unasked waited (is, none) = (is, none-kept s failed now old new waited none)
stage-kept s failed now old new asked next position Unknown waited (is, none, p) = (is, none-kept s failed now old new waited none, p)
stage-kept s failed now old new asked next position (TracedAt x) waited (is, none, p) = (is, none-kept s failed now old new waited none, p)
stage-kept s failed now old new asked next position (Answered t pinged) waited (is, none, same, p) = (is, none-kept s failed now old new waited none, same, p)

pub call-kept : (s : Dimensions) (failed now : Processes) (old new : ProcessId → ℕ) (asked next : ℕ)
    (call : Option OpenCall) → Waited s failed now old new → CallFits s failed old asked next call
    → CallFits s now new asked next call
call-kept s failed now old new asked next None waited (is, none) = (is, none-kept s failed now old new waited none)
call-kept s failed now old new asked next (Some o) waited (bytes, fits) = (bytes, stage-kept s failed now old new asked next o.position o.stage waited fits)

-- an ask that waited is treated: it was the last that was sent
stage-treated : (s : Dimensions) (failed : Processes) (old new : ProcessId → ℕ) (asked next position : ℕ)
    (stage : Stage) (p : ProcessId) → Living s failed p → 0 < old p → NoneWait s failed new
    → StageFits s failed old asked next position stage → StageFits s failed new (suc asked) next position stage
stage-treated s failed old new asked next position (AskedOf x) p lives some none (xin, is, inl same, there) =
    (xin, is, inr ((let s0 = same in let i0 = is in omega (arith, s0, i0)), none), λ z zl more. let n = none z zl in absurd (omega (arith, n, more)))
stage-treated s failed old new asked next position (AskedOf x) p lives some none (xin, is, inr (same, before), there) =
    let n = before p lives in absurd (omega (arith, n, some))
stage-treated s failed old new asked next position Unasked p lives some none (is, before) = let n = before p lives in absurd (omega (arith, n, some))
stage-treated s failed old new asked next position Unknown p lives some none (is, before, q) = let n = before p lives in absurd (omega (arith, n, some))
stage-treated s failed old new asked next position (TracedAt x) p lives some none (is, before, q) = let n = before p lives in absurd (omega (arith, n, some))
stage-treated s failed old new asked next position (Answered t pinged) p lives some none (is, before, q, r) = let n =
    before p lives in absurd (omega (arith, n, some))

call-treated : (s : Dimensions) (failed : Processes) (old new : ProcessId → ℕ) (asked next : ℕ) (call : Option OpenCall)
    (p : ProcessId) → Living s failed p → 0 < old p → NoneWait s failed new
    → CallFits s failed old asked next call → CallFits s failed new (suc asked) next call
call-treated s failed old new asked next None p lives some none (is, before) = let n = before p lives in absurd (omega (arith, n, some))
call-treated s failed old new asked next (Some o) p lives some none (bytes, fits) =
    (bytes, stage-treated s failed old new asked next o.position o.stage p lives some none fits)

-- what holds of the callers' calls, the requests and the answers
pub record Positioned (s : Dimensions) (cut : ProcessId → Processes) (failed : Processes) (gw : Gateways) (asked : ℕ → ℕ) : Type 0 where
  pub placed : Placed s cut failed gw.requests gw.parked asked
  pub calls : (caller : ℕ) → failed (gateway_of s caller) ≡ false
      → CallFits s failed (waits s cut gw.requests gw.parked caller) (asked caller) (gw.next caller) (gw.call caller)
  pub told : (x g : ProcessId) → Living s failed x → Each (λ (t : Told). t.call < asked t.caller) (gw.answers x g)
  pub theirs : (x g : ProcessId) → Each (λ (t : Told). gateway_of s t.caller ≡ g) (gw.answers x g)

asks-append : (caller : ℕ) (es fs : List Event) → asks_among caller (es ++ fs) ≡ asks_among caller es + asks_among caller fs
asks-append caller [] fs = omega arith
asks-append caller (e ∷ es) fs = let rest = asks-append caller es fs in omega (arith, rest)

pub asks-made : (caller : ℕ) (made more : List Made) → asks_among caller (map (λ x. x.event) (made ++ more))
    ≡ asks_among caller (map (λ x. x.event) made) + asks_among caller (map (λ x. x.event) more)
asks-made caller [] more = omega arith
asks-made caller (x ∷ made) more = let rest = asks-made caller made more in omega (arith, rest)

-- functions that have the same values are the same
same-function : {X Y : Type 0} (f g : X → Y) → ((x : X) → f x ≡ g x) → f ≡ g
same-function f g all = λ i. λ x. all x i

abbrev pub asked_by : List Made → ℕ → ℕ
asked_by made caller = asks_among caller (map (λ x. x.event) made)

-- how often callers have asked among the events
abbrev pub asked_in : Composed → ℕ → ℕ
asked_in c = asked_by c.made

-- events without an ask leave it
pub asks-quiet : (made more : List Made) → ((caller : ℕ) → asks_among caller (map (λ x. x.event) more) ≡ 0) → asked_by made ≡ asked_by (made ++ more)
asks-quiet made more quiet = same-function (asked_by made) (asked_by (made ++ more))
    (λ caller. let all = asks-made caller made more in let none = quiet caller in omega (arith, all, none))

-- an ask raises that of its caller
pub asks-once : (made : List Made) (x : Made) (who : ℕ) (op : Asked) (p : ProcessId) → x.event ≡ event.Ask who op p
    → asked_once (asked_by made) who ≡ asked_by (made ++ x ∷ [])
asks-once made x who op p is = same-function (asked_once (asked_by made) who) (asked_by (made ++ x ∷ [])) (λ caller.
    let all = asks-made caller made (x ∷ []) in
    let this : asks_in caller x.event ≡ (if who == caller then 1 else 0) = ap (asks_in caller) is in by caller all this (cases_eq caller who))
  where
    by : (caller : ℕ) → asks_among caller (map (λ x. x.event) (made ++ x ∷ [])) ≡ asks_among caller (map (λ x. x.event) made) + (asks_in caller x.event + 0)
        → asks_in caller x.event ≡ (if who == caller then 1 else 0) → (caller ≡ who) ⊎ (caller ≢ who)
        → asked_once (asked_by made) who caller ≡ asks_among caller (map (λ x. x.event) (made ++ x ∷ []))
    by caller all this (inl same) =
        let one : ◌≡◌ {A = ℕ} (if who == caller then 1 else 0) 1 = ap (λ (b : Bool). if b then 1 else 0) (eq-eqb who caller (sym same)) in
        let value : asked_once (asked_by made) who caller ≡ suc (asks_among who (map (λ x. x.event) made)) =
        ap (λ (b : Bool). one_or b (suc (asks_among who (map (λ x. x.event) made))) (asks_among caller (map (λ x. x.event) made))) (eq-eqb caller who same) in
        let moved : asks_among who (map (λ x. x.event) made) ≡ asks_among caller (map (λ x. x.event) made) =
        ap (λ (c : ℕ). asks_among c (map (λ x. x.event) made)) (sym same) in
        omega (arith, all, this, one, value, moved)
    by caller all this (inr other) =
        let none : ◌≡◌ {A = ℕ} (if who == caller then 1 else 0) 0 = ap (λ (b : Bool). if b then 1 else 0) (ne_eqb who caller (λ same. other (sym same))) in
        let value : asked_once (asked_by made) who caller ≡ asks_among caller (map (λ x. x.event) made) =
        ap (λ (b : Bool). one_or b (suc (asks_among who (map (λ x. x.event) made))) (asks_among caller (map (λ x. x.event) made))) (ne_eqb caller who other) in
        omega (arith, all, this, none, value)

-- the same with as many asks
pub positioned-as : (s : Dimensions) (cut : ProcessId → Processes) (failed : Processes) (gw : Gateways)
    (asked now : ℕ → ℕ) → asked ≡ now → Positioned s cut failed gw asked → Positioned s cut failed gw now
positioned-as s cut failed gw asked now same b = subst (Positioned s cut failed gw) same b

module _ (s : Dimensions) (cut : ProcessId → Processes) (failed : Processes) (gw : Gateways) (asked : ℕ → ℕ) (b : Positioned s cut failed gw asked) where
  -- a caller's call becomes another
  pub positioned-call : (caller : ℕ) (now : Option OpenCall)
      → (failed (gateway_of s caller) ≡ false → CallFits s failed (waits s cut gw.requests gw.parked caller)
      (asked caller) (gw.next caller) now)
      → Positioned s cut failed (record gw { call = changed_at gw.call caller now }) asked
  positioned-call caller now fits = record {
    placed = b.placed;
    calls = changed_at-each (λ c call. failed (gateway_of s c) ≡ false
        → CallFits s failed (waits s cut gw.requests gw.parked c) (asked c) (gw.next c) call) gw.call caller now fits
        (λ c _. b.calls c);
    told = b.told;
    theirs = b.theirs;
  }

  -- what a member tells goes to the callers' gateways
  pub positioned-told : (p : ProcessId) (t : Told) → (Living s failed p → t.call < asked t.caller)
      → Positioned s cut failed (record gw { answers = sent_on cut gw.answers p (gateway_of s t.caller) t }) asked
  positioned-told p t low = record {
    placed = b.placed;
    calls = b.calls;
    told = changed-pairs (λ x g ts. Living s failed x → Each (λ (t : Told). t.call < asked t.caller) ts) gw.answers p
        (gateway_of s t.caller) (one_or (cut p (gateway_of s t.caller)) (gw.answers p (gateway_of s t.caller))
        (gw.answers p (gateway_of s t.caller) ++ t ∷ []))
        (λ lives. one_or-is (Each (λ (t : Told). t.call < asked t.caller)) (cut p (gateway_of s t.caller))
        (gw.answers p (gateway_of s t.caller)) (gw.answers p (gateway_of s t.caller) ++ t ∷ [])
        (λ _. b.told p (gateway_of s t.caller) lives)
        (λ _. each-append (λ (t : Told). t.call < asked t.caller) (gw.answers p (gateway_of s t.caller)) (t ∷ [])
        (b.told p (gateway_of s t.caller) lives) (low lives, tt))) b.told;
    theirs = changed-pairs (λ x g ts. Each (λ (t : Told). gateway_of s t.caller ≡ g) ts) gw.answers p
        (gateway_of s t.caller) (one_or (cut p (gateway_of s t.caller)) (gw.answers p (gateway_of s t.caller))
        (gw.answers p (gateway_of s t.caller) ++ t ∷ []))
        (one_or-is (Each (λ (u : Told). gateway_of s u.caller ≡ gateway_of s t.caller)) (cut p (gateway_of s t.caller))
        (gw.answers p (gateway_of s t.caller)) (gw.answers p (gateway_of s t.caller) ++ t ∷ [])
        (λ _. b.theirs p (gateway_of s t.caller))
        (λ _. each-append (λ (u : Told). gateway_of s u.caller ≡ gateway_of s t.caller)
        (gw.answers p (gateway_of s t.caller)) (t ∷ []) (b.theirs p (gateway_of s t.caller)) (refl, tt))) b.theirs;
  }

  -- a member cuts others
  pub positioned-cut : (now : ProcessId → Processes) → ((x g : ProcessId) → cut x g ≡ true → now x g ≡ true) → Positioned s now failed gw asked
  positioned-cut now grows = record {
    placed = placed-cut s cut failed gw.requests gw.parked asked b.placed now grows;
    calls = λ caller lives. call-kept s failed failed (waits s cut gw.requests gw.parked caller)
        (waits s now gw.requests gw.parked caller) (asked caller) (gw.next caller) (gw.call caller)
        (λ z zl. (zl, cut-fewer s cut failed gw.requests gw.parked asked b.placed now grows caller z)) (b.calls caller lives);
    told = b.told;
    theirs = b.theirs;
  }

  -- more fail
  pub positioned-fail : (now : Processes) → ((x : ProcessId) → now x ≡ false → failed x ≡ false) → Positioned s cut now gw asked
  positioned-fail now lived = record {
    placed = placed-fail s cut failed gw.requests gw.parked asked b.placed now lived;
    calls = λ caller lives. call-kept s failed now (waits s cut gw.requests gw.parked caller)
        (waits s cut gw.requests gw.parked caller) (asked caller) (gw.next caller) (gw.call caller)
        (λ z zl. ((zl.0, lived z zl.1), omega arith)) (b.calls caller (lived (gateway_of s caller) lives));
    told = λ x g xl. b.told x g (xl.0, lived x xl.1);
    theirs = b.theirs;
  }

  -- a member reads the first request of a wire
  pub positioned-read : (g p : ProcessId) (r : Request) (rest : List Request) → gw.requests g p ≡ r ∷ rest → cut p g ≡ false
      → Positioned s cut failed (record gw { requests = changed_from gw.requests g p rest; parked = changed gw.parked p (gw.parked p ++ r ∷ []) }) asked
  positioned-read g p r rest is uncut = record {
    placed = placed-read s cut failed gw.requests gw.parked asked b.placed g p r rest is uncut;
    calls = λ caller lives. call-kept s failed failed (waits s cut gw.requests gw.parked caller)
        (waits s cut (changed_from gw.requests g p rest) (changed gw.parked p (gw.parked p ++ r ∷ [])) caller)
        (asked caller) (gw.next caller) (gw.call caller)
        (λ z zl. (zl, read-fewer s cut failed gw.requests gw.parked asked b.placed g p r rest is uncut caller z)) (b.calls caller lives);
    told = b.told;
    theirs = b.theirs;
  }

  -- a member takes a request that isn't an ask in E
  pub positioned-taken : (p : ProcessId) (place : ℕ)
      → Positioned s cut failed (record gw { parked = changed gw.parked p (without_nth (gw.parked p) place) }) asked
  positioned-taken p place = record {
    placed = placed-taken s cut failed gw.requests gw.parked asked b.placed p place;
    calls = λ caller lives. call-kept s failed failed (waits s cut gw.requests gw.parked caller)
        (waits s cut gw.requests (changed gw.parked p (without_nth (gw.parked p) place)) caller) (asked caller)
        (gw.next caller) (gw.call caller)
        (λ z zl. (zl, taken-fewer s cut failed gw.requests gw.parked asked b.placed p place caller z)) (b.calls caller lives);
    told = b.told;
    theirs = b.theirs;
  }

  -- how often callers have asked, after one asked once more
  once-same : (who caller : ℕ) → caller ≢ who → asked_once asked who caller ≡ asked caller
  once-same who caller other = ap (λ (c : Bool). one_or c (suc (asked who)) (asked caller)) (ne_eqb caller who other)

  pub once-rises : (who caller : ℕ) → asked caller ≤ asked_once asked who caller
  once-rises who = changed_at-each (λ c n. asked c ≤ n) asked who (suc (asked who)) (omega arith) (λ c _. omega arith)

  told-once : (who : ℕ) (x g : ProcessId) → Living s failed x → Each (λ (t : Told). t.call < asked_once asked who t.caller) (gw.answers x g)
  told-once who x g lives = each-weaker (λ (t : Told). t.call < asked t.caller)
      (λ (t : Told). t.call < asked_once asked who t.caller) (λ t low. let up = once-rises who t.caller in
      omega (arith, low, up)) (gw.answers x g) (b.told x g lives)

  -- a member that hasn't failed treats an ask
  pub positioned-treated : (p : ProcessId) (place caller call : ℕ) (op : Asked) → Living s failed p
      → entry_at (gw.parked p) place ≡ Some (AskFor caller call op)
      → Positioned s cut failed (record gw { parked = changed gw.parked p (without_nth (gw.parked p) place) }) (asked_once asked caller)
  positioned-treated p place who call op lives is = record {
    placed = placed-once s cut failed gw.requests (changed gw.parked p (without_nth (gw.parked p) place)) asked
        (placed-taken s cut failed gw.requests gw.parked asked b.placed p place) who none;
    calls = λ caller gl. by caller gl (cases_eq caller who);
    told = told-once who;
    theirs = b.theirs;
  } where
    none : (z : ProcessId) → Living s failed z → waits s cut gw.requests (changed gw.parked p (without_nth (gw.parked p) place)) who z ≡ 0
    none = none-left s cut failed gw.requests gw.parked asked b.placed p place who call op lives is

    some : 0 < waits s cut gw.requests gw.parked who p
    some = one-waiting s cut failed gw.requests gw.parked asked b.placed p place who call op is

    by : (caller : ℕ) → failed (gateway_of s caller) ≡ false → (caller ≡ who) ⊎ (caller ≢ who)
        → CallFits s failed (waits s cut gw.requests (changed gw.parked p (without_nth (gw.parked p) place)) caller)
        (asked_once asked who caller) (gw.next caller) (gw.call caller)
    by caller gl (inr other) =
        subst (λ (n : ℕ). CallFits s failed (waits s cut gw.requests (changed gw.parked p (without_nth (gw.parked p) place))
        caller) n (gw.next caller) (gw.call caller)) (sym (once-same who caller other))
        (call-kept s failed failed (waits s cut gw.requests gw.parked caller)
        (waits s cut gw.requests (changed gw.parked p (without_nth (gw.parked p) place)) caller) (asked caller)
        (gw.next caller) (gw.call caller)
        (λ z zl. (zl, taken-fewer s cut failed gw.requests gw.parked asked b.placed p place caller z)) (b.calls caller gl))
    by caller gl (inl same) =
        subst (λ (c : ℕ). CallFits s failed (waits s cut gw.requests (changed gw.parked p (without_nth (gw.parked p) place))
        c) (asked_once asked who c) (gw.next c) (gw.call c)) (sym same)
        (subst (λ (n : ℕ). CallFits s failed
        (waits s cut gw.requests (changed gw.parked p (without_nth (gw.parked p) place)) who) n (gw.next who)
        (gw.call who)) (sym (changed_at-here asked who (suc (asked who))))
        (call-treated s failed (waits s cut gw.requests gw.parked who)
        (waits s cut gw.requests (changed gw.parked p (without_nth (gw.parked p) place)) who) (asked who) (gw.next who)
        (gw.call who) p lives some none
        (b.calls who (subst (λ (c : ℕ). failed (gateway_of s c) ≡ false) same gl))))

  -- a caller asks once more where none of its asks waits, and its call becomes another
  pub positioned-once : (who : ℕ) (now : Option OpenCall) → NoneWait s failed (waits s cut gw.requests gw.parked who)
      → CallFits s failed (waits s cut gw.requests gw.parked who) (suc (asked who)) (gw.next who) now
      → Positioned s cut failed (record gw { call = changed_at gw.call who now }) (asked_once asked who)
  positioned-once who now none fits = record {
    placed = placed-once s cut failed gw.requests gw.parked asked b.placed who none;
    calls = changed_at-each (λ c call. failed (gateway_of s c) ≡ false
        → CallFits s failed (waits s cut gw.requests gw.parked c) (asked_once asked who c) (gw.next c) call) gw.call who
        now
        (λ _. subst (λ (n : ℕ). CallFits s failed (waits s cut gw.requests gw.parked who) n (gw.next who) now)
        (sym (changed_at-here asked who (suc (asked who)))) fits)
        (λ c other gl. subst (λ (n : ℕ). CallFits s failed (waits s cut gw.requests gw.parked c) n (gw.next c)
        (gw.call c)) (sym (once-same who c other)) (b.calls c gl));
    told = told-once who;
    theirs = b.theirs;
  }
