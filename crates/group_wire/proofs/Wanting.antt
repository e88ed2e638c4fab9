-- The asks of open calls are for what their clients asked.
use Rattle.std.proofs.Common.{ℕ, zero, suc, ◌≡◌, ◌≢◌, ◌<◌, ◌≤◌, ◌+◌, ◌⊎◌, inl, inr, Bool, true, false, List, [], ◌∷◌}
use Rattle.std.proofs.Common.{◌++◌, Option, Some, None, IfSome, length, take, map, refl, sym, ap, subst, ◌∙◌, arith}
use Rattle.std.proofs.lemmas.Bool.{cases_eq, cases_lt}
use Rattle.std.specs.Prelude.{slice_get}
use Rattle.group_types.specs.Dimensions.{Dimensions}
use Rattle.group_types.specs.Each.{Each}
use Rattle.group_types.specs.declared.process.ProcessId.{ProcessId}
use Rattle.group_types.proofs.Eaches.{each-append, each-weaker}
use Rattle.memc_table.specs.Asked.{Asked}
use Rattle.group_calls.specs.Turns.{asks_in}
use Rattle.group_calls.specs.declared.event.Event.TheVariants as event
use Rattle.law_log.proofs.Turnings.{asks-self}
use Rattle.group_run.specs.Causes.{asks_among}
use Rattle.group_wire.specs.Composed.{Made}
use Rattle.group_wire.specs.Sets.{Processes, changed, changed_from, one_or, without_nth}
use Rattle.group_wire.specs.Shown.{events_before}
use Rattle.group_wire.specs.State.{Request, AskFor, TraceOf, OpenCall, Gateways, gateway_of}
use Rattle.group_wire.proofs.Answering.{take-all, take-front}
use Rattle.group_wire.proofs.Changes.{changed-each, changed-pairs, one_or-is}
use Rattle.group_wire.proofs.Positions.{asked_by}
use Rattle.group_wire.proofs.Requests.{Living, count_asks, each-without, is_ask, is_ask-own}

-- each ask of this position that members made was for this
abbrev pub AskIs : List Made → ℕ → ℕ → Asked → Type 0
AskIs made caller position op = (i : ℕ) (x : Made) (other : Asked) (p : ProcessId) → slice_get made i ≡ Some x → x.event ≡ event.Ask caller other p
    → asks_among caller (events_before made i) ≡ position → other ≡ op

get-front : {X : Type 0} (xs ys : List X) (i : ℕ) → i < length xs → slice_get (xs ++ ys) i ≡ slice_get xs i
get-front [] ys i low = absurd (omega (arith, low))
get-front (x ∷ xs) ys zero low = refl
get-front (x ∷ xs) ys (suc i) low = get-front xs ys i (omega (arith, low))

asked-rises : (caller : ℕ) (made : List Made) (i j : ℕ) → i ≤ j → asked_by (take i made) caller ≤ asked_by (take j made) caller
asked-rises caller made zero j low = omega arith
asked-rises caller [] (suc i) j low = omega arith
asked-rises caller (x ∷ made) (suc i) zero low = absurd (omega (arith, low))
asked-rises caller (x ∷ made) (suc i) (suc j) low = let rest = asked-rises caller made i j (omega (arith, low)) in omega (arith, rest)

asked-past : (caller : ℕ) (made : List Made) (i : ℕ) (x : Made) → slice_get made i ≡ Some x
    → asked_by (take i made) caller + asks_in caller x.event ≤ asked_by made caller
asked-past caller [] i x is = absurd (cc is)
asked-past caller (y ∷ made) zero x is = let same : asks_in caller y.event ≡ asks_in caller x.event =
    ap (λ (o : Option Made). elim o [ None ↦ asks_in caller y.event | Some z ↦ asks_in caller z.event ]) is in
    omega (arith, same)
asked-past caller (y ∷ made) (suc i) x is = let rest = asked-past caller made i x is in omega (arith, rest)

-- where the caller has not asked so often yet
pub ask-none : (made : List Made) (caller position : ℕ) (op : Asked) → asked_by made caller ≤ position → AskIs made caller position op
ask-none made caller position op low i x other p there is place =
    let past = asked-past caller made i x there in
    let one : asks_in caller x.event ≡ 1 = ap (asks_in caller) is ∙ asks-self caller other p in
    absurd (omega (arith, past, one, place, low))

-- where it has asked more often, more events change nothing
pub ask-past : (made more : List Made) (caller position : ℕ) (op : Asked) → position < asked_by made caller
    → AskIs made caller position op → AskIs (made ++ more) caller position op
ask-past made more caller position op high asks i x other p there is place = by (cases_lt i (length made)) where
  by : (i < length made) ⊎ (length made ≤ i) → other ≡ op
  by (inl low) = asks i x other p (sym (get-front made more i low) ∙ there) is
      (ap (λ (ms : List Made). asks_among caller (map (λ x. x.event) ms))
      (sym (take-front i made more (omega (arith, low)))) ∙ place)
  by (inr late) =
      let rise = asked-rises caller (made ++ more) (length made) i late in
      let whole : asked_by (take (length made) (made ++ more)) caller ≡ asked_by made caller =
      ap (λ (ms : List Made). asked_by ms caller) (take-all made more) in
      absurd (omega (arith, rise, whole, place, high))

-- where this is its ask
pub ask-one : (made : List Made) (x : Made) (caller position : ℕ) (op : Asked) → asked_by made caller ≡ position
    → ((other : Asked) (p : ProcessId) → x.event ≡ event.Ask caller other p → other ≡ op)
    → AskIs (made ++ x ∷ []) caller position op
ask-one made x caller position op same fits i y other p there is place = by (cases_lt i (length made)) where
  last : (xs : List Made) (i : ℕ) → length xs ≤ i → slice_get (xs ++ x ∷ []) i ≡ Some y → x ≡ y
  last [] zero low is = ap (λ (o : Option Made). elim o [ None ↦ x | Some z ↦ z ]) is
  last [] (suc i) low is = absurd (cc is)
  last (z ∷ xs) zero low is = absurd (omega (arith, low))
  last (z ∷ xs) (suc i) low is = last xs i (omega (arith, low)) is

  by : (i < length made) ⊎ (length made ≤ i) → other ≡ op
  by (inr late) = fits other p (ap (λ (m : Made). m.event) (last made i late there) ∙ is)
  by (inl low) =
      let old : slice_get made i ≡ Some y = sym (get-front made (x ∷ []) i low) ∙ there in
      let past = asked-past caller made i y old in
      let one : asks_in caller y.event ≡ 1 = ap (asks_in caller) is ∙ asks-self caller other p in
      let front : asked_by (take i made) caller ≡ position =
      ap (λ (ms : List Made). asks_among caller (map (λ x. x.event) ms))
      (sym (take-front i made (x ∷ []) (omega (arith, low)))) ∙ place in
      absurd (omega (arith, past, one, front, same))

-- the op of an open call
abbrev pub op_of : Option OpenCall → Option Asked
op_of None = None
op_of (Some o) = Some o.op

-- an ask of a caller whose gateway hasn't failed is for its call
abbrev pub Right : Dimensions → Processes → (ℕ → Option Asked) → Request → Type 0
Right s failed want (AskFor who call op) = failed (gateway_of s who) ≡ false → IfSome (want who) (λ w. op ≡ w)
Right s failed want (TraceOf who call d) = Unit {0}

abbrev pub wants : Gateways → ℕ → Option Asked
wants gw caller = op_of (gw.call caller)

-- where the requests that can still be treated are right
pub record Rights (s : Dimensions) (cut : ProcessId → Processes) (failed : Processes)
    (requests : ProcessId → ProcessId → List Request) (parked : ProcessId → List Request)
    (want : ℕ → Option Asked) : Type 0 where
  pub lanes : (g x : ProcessId) → Living s failed x → cut x g ≡ false → Each (Right s failed want) (requests g x)
  pub parks : (x : ProcessId) → Living s failed x → Each (Right s failed want) (parked x)

-- a caller wants something else, where it has no ask
right-new : (s : Dimensions) (failed : Processes) (want now : ℕ → Option Asked) (who : ℕ) (rs : List Request)
    → ((caller : ℕ) → caller ≢ who → now caller ≡ want caller)
    → (failed (gateway_of s who) ≡ false → count_asks who rs ≡ 0)
    → Each (Right s failed want) rs → Each (Right s failed now) rs
right-new s failed want now who [] same none all = tt
right-new s failed want now who (TraceOf caller call d ∷ rs) same none all =
    (tt, right-new s failed want now who rs same (λ lives. let n = none lives in omega (arith, n)) all.1)
right-new s failed want now who (AskFor caller call op ∷ rs) same none all = (
  by (cases_eq caller who),
  right-new s failed want now who rs same (λ lives. let n = none lives in omega (arith, n))
      all.1,
) where
  by : (caller ≡ who) ⊎ (caller ≢ who) → failed (gateway_of s caller) ≡ false → IfSome (now caller) (λ w. op ≡ w)
  by (inl is) lives =
      let n = none (ap (λ (c : ℕ). failed (gateway_of s c)) (sym is) ∙ lives) in
      let one : is_ask who (AskFor caller call op) ≡ 1 = ap (λ (c : ℕ). is_ask c (AskFor caller call op)) (sym is) ∙ is_ask-own caller call op in
      absurd (omega (arith, n, one))
  by (inr other) lives = subst (λ (w : Option Asked). IfSome w (λ w. op ≡ w)) (sym (same caller other)) (all.0 lives)

-- a caller wants nothing
right-none : (s : Dimensions) (failed : Processes) (want now : ℕ → Option Asked) (who : ℕ) (rs : List Request)
    → ((caller : ℕ) → caller ≢ who → now caller ≡ want caller) → now who ≡ None → Each (Right s failed want) rs
    → Each (Right s failed now) rs
right-none s failed want now who [] same none all = tt
right-none s failed want now who (TraceOf caller call d ∷ rs) same none all = (tt, right-none s failed want now who rs same none all.1)
right-none s failed want now who (AskFor caller call op ∷ rs) same none all =
    (by (cases_eq caller who), right-none s failed want now who rs same none all.1) where
      by : (caller ≡ who) ⊎ (caller ≢ who) → failed (gateway_of s caller) ≡ false → IfSome (now caller) (λ w. op ≡ w)
      by (inl is) lives = subst (λ (w : Option Asked). IfSome w (λ w. op ≡ w)) (sym (ap now is ∙ none)) tt
      by (inr other) lives = subst (λ (w : Option Asked). IfSome w (λ w. op ≡ w)) (sym (same caller other)) (all.0 lives)

right-fail : (s : Dimensions) (failed now : Processes) (want : ℕ → Option Asked)
    → ((x : ProcessId) → now x ≡ false → failed x ≡ false) → (r : Request) → Right s failed want r → Right s now want r
right-fail s failed now want lived (AskFor who call op) right = λ lives. right (lived (gateway_of s who) lives)
right-fail s failed now want lived (TraceOf who call d) right = tt

module _ (s : Dimensions) (cut : ProcessId → Processes) (failed : Processes)
    (requests : ProcessId → ProcessId → List Request) (parked : ProcessId → List Request) (want : ℕ → Option Asked)
    (b : Rights s cut failed requests parked want) where
  pub rights-sent : (g x : ProcessId) (r : Request) → (Living s failed x → cut x g ≡ false → Right s failed want r)
      → Rights s cut failed (changed_from requests g x (one_or (cut g x) (requests g x) (requests g x ++ r ∷ [])))
      parked want
  rights-sent g x r right = record {
    lanes = changed-pairs (λ y x rs. Living s failed x → cut x y ≡ false → Each (Right s failed want) rs) requests g x
        (one_or (cut g x) (requests g x) (requests g x ++ r ∷ []))
        (λ lives uncut. one_or-is (Each (Right s failed want)) (cut g x) (requests g x) (requests g x ++ r ∷ []) (λ _. b.lanes g x lives uncut)
        (λ _. each-append (Right s failed want) (requests g x) (r ∷ []) (b.lanes g x lives uncut) (right lives uncut, tt))) b.lanes;
    parks = b.parks;
  }

  pub rights-read : (g p : ProcessId) (r : Request) (rest : List Request) → requests g p ≡ r ∷ rest → cut p g ≡ false
      → Rights s cut failed (changed_from requests g p rest) (changed parked p (parked p ++ r ∷ [])) want
  rights-read g p r rest is uncut = record {
    lanes = changed-pairs (λ y x rs. Living s failed x → cut x y ≡ false → Each (Right s failed want) rs) requests g p rest (λ lives _. (all lives).1) b.lanes;
    parks = changed-each (λ x rs. Living s failed x → Each (Right s failed want) rs) parked p (parked p ++ r ∷ [])
        (λ lives. each-append (Right s failed want) (parked p) (r ∷ []) (b.parks p lives) ((all lives).0, tt))
        (λ x _. b.parks x);
  } where
    all : Living s failed p → Each (Right s failed want) (r ∷ rest)
    all lives = subst (Each (Right s failed want)) is (b.lanes g p lives uncut)

  pub rights-taken : (p : ProcessId) (place : ℕ) → Rights s cut failed requests (changed parked p (without_nth (parked p) place)) want
  rights-taken p place = record {
    lanes = b.lanes;
    parks = changed-each (λ x rs. Living s failed x → Each (Right s failed want) rs) parked p (without_nth (parked p) place)
        (λ lives. each-without (Right s failed want) (parked p) place (b.parks p lives)) (λ x _. b.parks x);
  }

  pub rights-cut : (now : ProcessId → Processes) → ((x g : ProcessId) → cut x g ≡ true → now x g ≡ true) → Rights s now failed requests parked want
  rights-cut now grows = record { lanes = λ g x lives uncut. b.lanes g x lives (was (cut x g) (grows x g) uncut); parks = b.parks } where
    was : {a : Bool} (c : Bool) → (c ≡ true → a ≡ true) → a ≡ false → c ≡ false
    was true there is = cc (there refl, is)
    was false there is = refl

  pub rights-fail : (now : Processes) → ((x : ProcessId) → now x ≡ false → failed x ≡ false) → Rights s cut now requests parked want
  rights-fail now lived = record {
    lanes = λ g x lives uncut. each-weaker (Right s failed want) (Right s now want) (right-fail s failed now want lived)
        (requests g x) (b.lanes g x (lives.0, lived x lives.1) uncut);
    parks = λ x lives. each-weaker (Right s failed want) (Right s now want) (right-fail s failed now want lived)
        (parked x) (b.parks x (lives.0, lived x lives.1));
  }

  pub rights-new : (now : ℕ → Option Asked) (who : ℕ) → ((caller : ℕ) → caller ≢ who → now caller ≡ want caller)
      → ((g x : ProcessId) → failed (gateway_of s who) ≡ false → Living s failed x → cut x g ≡ false
      → count_asks who (requests g x) ≡ 0) → ((x : ProcessId) → failed (gateway_of s who) ≡ false → Living s failed x
      → count_asks who (parked x) ≡ 0)
      → Rights s cut failed requests parked now
  rights-new now who same none-lane none-park = record {
    lanes = λ g x lives uncut. right-new s failed want now who (requests g x) same (λ gl. none-lane g x gl lives uncut) (b.lanes g x lives uncut);
    parks = λ x lives. right-new s failed want now who (parked x) same (λ gl. none-park x gl lives) (b.parks x lives);
  }

  pub rights-none : (now : ℕ → Option Asked) (who : ℕ) → ((caller : ℕ) → caller ≢ who → now caller ≡ want caller)
      → now who ≡ None → Rights s cut failed requests parked now
  rights-none now who same none = record {
    lanes = λ g x lives uncut. right-none s failed want now who (requests g x) same none (b.lanes g x lives uncut);
    parks = λ x lives. right-none s failed want now who (parked x) same none (b.parks x lives);
  }

  pub rights-as : (now : ℕ → Option Asked) → ((caller : ℕ) → want caller ≡ now caller) → Rights s cut failed requests parked now
  rights-as now same = subst (Rights s cut failed requests parked) (λ i. λ c. same c i) b
