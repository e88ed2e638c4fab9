-- Requests on the wires and at members: each has the position that its caller comes to, and no caller has two.
use Rattle.std.proofs.Common.{ℕ, zero, suc, ◌≡◌, ◌≢◌, ◌<◌, ◌≤◌, ◌+◌, ◌==◌, ◌⊎◌, inl, inr, Bool, true, false, List, []}
use Rattle.std.proofs.Common.{◌∷◌, ◌++◌, Option, Some, None, IfSome, refl, sym, ap, subst, ◌∙◌, if◌then◌else◌, arith}
use Rattle.std.proofs.Common.{All}
use Rattle.std.proofs.lemmas.Bool.{cases_eq, eq-eqb, ne_eqb}
use Rattle.group_types.specs.Dimensions.{Dimensions, callers}
use Rattle.group_types.specs.Each.{Each}
use Rattle.group_types.specs.Names.{IsProcess}
use Rattle.group_types.specs.declared.process.ProcessId.{ProcessId}
use Rattle.group_types.proofs.Eaches.{each-append}
use Rattle.group_types.proofs.Names.{same-cases}
use Rattle.memc_table.specs.Act.{act_value}
use Rattle.memc_table.specs.Asked.{Asked}
use Rattle.group_wire.specs.Sets.{Processes, changed, changed_at, changed_from, entry_at, one_or, without_nth}
use Rattle.group_wire.specs.State.{Request, AskFor, TraceOf, gateway_of}
use Rattle.group_wire.proofs.Changes.{changed-each, changed-here, changed-other, changed-pairs, changed_at-each, one_or-is}

abbrev pub caller_in : Request → ℕ
caller_in (AskFor caller call op) = caller
caller_in (TraceOf caller call d) = caller

-- 1 for an ask of this caller
abbrev pub is_ask : ℕ → Request → ℕ
is_ask caller (AskFor who call op) = if who == caller then 1 else 0
is_ask caller (TraceOf who call d) = 0

-- how many asks of a caller there are
abbrev pub count_asks : ℕ → List Request → ℕ
count_asks caller [] = 0
count_asks caller (r ∷ rs) = is_ask caller r + count_asks caller rs

-- a request fits how often callers have asked: an ask has the next position, and what is traced was asked
abbrev pub FitsAsked : Dimensions → (ℕ → ℕ) → Request → Type 0
FitsAsked s asked (AskFor caller call op) = (caller < callers) × (call ≡ asked caller) × All (λ b. b < 256) (act_value op.act)
FitsAsked s asked (TraceOf caller call d) = (caller < callers) × (call < asked caller) × (d < s.k)

-- a member of the group that hasn't failed
abbrev pub Living : Dimensions → Processes → ProcessId → Type 0
Living s failed p = IsProcess s p × (failed p ≡ false)

-- the asks of a caller that a member has read, or can still read
abbrev pub waits : Dimensions → (ProcessId → Processes) → (ProcessId → ProcessId → List Request) → (ProcessId → List Request) → ℕ → ProcessId → ℕ
waits s cut requests parked caller x =
    one_or (cut x (gateway_of s caller)) 0 (count_asks caller (requests (gateway_of s caller) x)) + count_asks caller
    (parked x)

-- no caller has two
pub record AtMostOne (s : Dimensions) (failed : Processes) (wait : ℕ → ProcessId → ℕ) : Type 0 where
  pub here : (caller : ℕ) (x : ProcessId) → Living s failed x → wait caller x ≤ 1
  pub there : (caller : ℕ) (x y : ProcessId) → Living s failed x → Living s failed y → 0 < wait caller x → 0 < wait caller y → x ≡ y

pub fewer-wait : (s : Dimensions) (failed : Processes) (old new : ℕ → ProcessId → ℕ)
    → ((caller : ℕ) (x : ProcessId) → Living s failed x → new caller x ≤ old caller x) → AtMostOne s failed old
    → AtMostOne s failed new
fewer-wait s failed old new fewer m = record {
  here = λ caller x lives. let a = fewer caller x lives in let b = m.here caller x lives in omega (arith, a, b);
  there = λ caller x y xl yl some more. m.there caller x y xl yl (let a = fewer caller x xl in omega (arith, a, some))
      (let a = fewer caller y yl in omega (arith, a, more));
}

-- a caller that has none gets one, at x
pub one-waits : (s : Dimensions) (failed : Processes) (old new : ℕ → ProcessId → ℕ) (x : ProcessId)
    → ((caller : ℕ) (y : ProcessId) → Living s failed y → (new caller y ≤ old caller y)
    ⊎ ((y ≡ x) × (new caller y ≤ 1) × ((z : ProcessId) → Living s failed z → old caller z ≡ 0)))
    → AtMostOne s failed old → AtMostOne s failed new
one-waits s failed old new x which m = record {
  here = λ caller y lives. few caller y lives (which caller y lives);
  there = λ caller y z yl zl some more. joined caller y z yl zl some more (which caller y yl) (which caller z zl);
} where
  New : ℕ → ProcessId → Type 0
  New caller y = (new caller y ≤ old caller y) ⊎ ((y ≡ x) × (new caller y ≤ 1) × ((z : ProcessId) → Living s failed z → old caller z ≡ 0))

  few : (caller : ℕ) (y : ProcessId) → Living s failed y → New caller y → new caller y ≤ 1
  few caller y lives (inl less) = let b = m.here caller y lives in omega (arith, less, b)
  few caller y lives (inr n) = n.1

  joined : (caller : ℕ) (y z : ProcessId) → Living s failed y → Living s failed z → 0 < new caller y → 0 < new caller z → New caller y → New caller z → y ≡ z
  joined caller y z yl zl some more (inl a) (inl b) = m.there caller y z yl zl (omega (arith, a, some)) (omega (arith, b, more))
  joined caller y z yl zl some more (inr a) (inr b) = a.0 ∙ sym b.0
  joined caller y z yl zl some more (inl a) (inr b) = let is = b.2 y yl in absurd (omega (arith, a, some, is))
  joined caller y z yl zl some more (inr a) (inl b) = let is = a.2 z zl in absurd (omega (arith, b, more, is))

-- counts
pub count-append : (caller : ℕ) (xs ys : List Request) → count_asks caller (xs ++ ys) ≡ count_asks caller xs + count_asks caller ys
count-append caller [] ys = omega arith
count-append caller (x ∷ xs) ys = let rest = count-append caller xs ys in omega (arith, rest)

pub count-without : (caller : ℕ) (xs : List Request) (place : ℕ) (r : Request) → entry_at xs place ≡ Some r
    → count_asks caller xs ≡ is_ask caller r + count_asks caller (without_nth xs place)
count-without caller [] place r is = cc is
count-without caller (x ∷ xs) zero r is =
    ap (λ (o : Option Request). elim o [
      | None ↦ is_ask caller x + count_asks caller xs
      | Some y ↦ is_ask caller
          y + count_asks caller xs
    ]) is
count-without caller (x ∷ xs) (suc place) r is = let rest = count-without caller xs place r is in omega (arith, rest)

pub each-entry : (P : Request → Type 0) (xs : List Request) (place : ℕ) (r : Request) → entry_at xs place ≡ Some r → Each P xs → P r
each-entry P [] place r is all = cc is
each-entry P (x ∷ xs) zero r is all = subst (λ (o : Option Request). IfSome o P) is all.0
each-entry P (x ∷ xs) (suc place) r is all = each-entry P xs place r is all.1

pub each-without : (P : Request → Type 0) (xs : List Request) (place : ℕ) → Each P xs → Each P (without_nth xs place)
each-without P [] place all = tt
each-without P (x ∷ xs) zero all = all.1
each-without P (x ∷ xs) (suc place) all = (all.0, each-without P xs place all.1)

-- a caller has asked once more
abbrev pub asked_once : (ℕ → ℕ) → ℕ → ℕ → ℕ
asked_once asked caller = changed_at asked caller (suc (asked caller))

pub is_ask-own : (caller call : ℕ) (op : Asked) → is_ask caller (AskFor caller call op) ≡ 1
is_ask-own caller call op = ap (λ (b : Bool). if b then 1 else 0) (eq-eqb caller caller refl)

pub is_ask-other : (caller who call : ℕ) (op : Asked) → caller ≢ who → is_ask caller (AskFor who call op) ≡ 0
is_ask-other caller who call op other = ap (λ (b : Bool). if b then 1 else 0) (ne_eqb who caller (λ same. other (sym same)))

pub is_ask-one : (caller : ℕ) (r : Request) → is_ask caller r ≤ 1
is_ask-one caller (AskFor who call op) = by (who == caller) where
  by : (b : Bool) → (if b then 1 else 0) ≤ 1
  by true = omega arith
  by false = omega arith
is_ask-one caller (TraceOf who call d) = omega arith

-- the caller whose ask it is
pub asker : (caller : ℕ) (r : Request) (n : ℕ) → is_ask caller r ≡ suc n → caller ≡ caller_in r
asker caller (AskFor who call op) n asks = by (cases_eq who caller) where
  by : (who ≡ caller) ⊎ (who ≢ caller) → caller ≡ who
  by (inl same) = sym same
  by (inr other) = let none : ◌≡◌ {A = ℕ} (if who == caller then 1 else 0) 0 =
      ap (λ (b : Bool). if b then 1 else 0) (ne_eqb who caller other) in absurd (omega (arith, asks, none))
asker caller (TraceOf who call d) n asks = absurd (omega (arith, asks))

-- requests among which the caller has none still fit
pub fits-once : (s : Dimensions) (asked : ℕ → ℕ) (who : ℕ) (rs : List Request) → count_asks who rs ≡ 0
    → Each (FitsAsked s asked) rs → Each (FitsAsked s (asked_once asked who)) rs
fits-once s asked who [] none all = tt
fits-once s asked who (AskFor caller call op ∷ rs) none all =
    (by (cases_eq caller who), fits-once s asked who rs (omega (arith, none)) all.1)
  where
    by : (caller ≡ who) ⊎ (caller ≢ who) → FitsAsked s (asked_once asked who) (AskFor caller call op)
    by (inl same) = let one : is_ask who (AskFor caller call op) ≡ 1 =
        ap (λ (b : Bool). if b then 1 else 0) (eq-eqb caller who same) in absurd (omega (arith, none, one))
    by (inr other) = (all.0.0, all.0.1 ∙ sym (ap (λ (b : Bool). one_or b (suc (asked who)) (asked caller)) (ne_eqb caller who other)), all.0.2)
fits-once s asked who (TraceOf caller call d ∷ rs) none all = (
  (all.0.0, (let up = rises in let low : call < asked caller = all.0.1 in omega (arith, low, up)), all.0.2),
  fits-once s asked who rs (omega (arith, none)) all.1,
)
  where
    rises : asked caller ≤ asked_once asked who caller
    rises = changed_at-each (λ c n. asked c ≤ n) asked who (suc (asked who)) (omega arith) (λ c _. omega arith) caller

-- where requests stand
pub record Placed (s : Dimensions) (cut : ProcessId → Processes) (failed : Processes)
    (requests : ProcessId → ProcessId → List Request) (parked : ProcessId → List Request) (asked : ℕ → ℕ) : Type 0 where
  pub owned : (y x : ProcessId) → Each (λ r. gateway_of s (caller_in r) ≡ y) (requests y x)
  pub lanes : (g x : ProcessId) → Living s failed x → cut x g ≡ false → Each (FitsAsked s asked) (requests g x)
  pub parks : (x : ProcessId) → Living s failed x → Each (FitsAsked s asked) (parked x)
  pub one : AtMostOne s failed (waits s cut requests parked)

module _ (s : Dimensions) (cut : ProcessId → Processes) (failed : Processes)
    (requests : ProcessId → ProcessId → List Request) (parked : ProcessId → List Request) (asked : ℕ → ℕ)
    (b : Placed s cut failed requests parked asked) where
  -- a gateway sends a request: only its caller waits for more, and only at the member that it is sent to
  module _ (g x : ProcessId) (r : Request) where
    abbrev pub with_sent : ProcessId → ProcessId → List Request
    with_sent = changed_from requests g x (one_or (cut g x) (requests g x) (requests g x ++ r ∷ []))

    Lane : ℕ → ProcessId → ProcessId → List Request → Type 0
    Lane caller y z rs = (count_asks caller rs ≡ count_asks caller (requests y z))
        ⊎ ((y ≡ g) × (z ≡ x) × (count_asks caller rs ≡ count_asks caller (requests y z) + is_ask caller r))

    lane : (caller : ℕ) (y z : ProcessId) → Lane caller y z (with_sent y z)
    unfolding Lane
    lane caller = changed-pairs (Lane caller) requests g x (one_or (cut g x) (requests g x) (requests g x ++ r ∷ []))
        (one_or-is (Lane caller g x) (cut g x) (requests g x) (requests g x ++ r ∷ []) (λ _. inl refl)
        (λ _. inr (refl, refl, count-append caller (requests g x) (r ∷ []) ∙ last caller))) (λ y z. inl refl)
      where
        last : (caller : ℕ) → count_asks caller (requests g x) + (is_ask caller r + 0) ≡ count_asks caller (requests g x) + is_ask caller r
        last caller = omega arith

    pub sent-which : (caller : ℕ) (y : ProcessId) → (waits s cut with_sent parked caller y ≤ waits s cut requests parked caller y)
        ⊎ ((y ≡ x) × (gateway_of s caller ≡ g) × (caller ≡ caller_in r) × (cut x g ≡ false) × (0 < is_ask caller r)
        × (waits s cut with_sent parked caller y ≤ waits s cut requests parked caller y + 1))
    unfolding Lane
    sent-which caller y = by (cut y (gateway_of s caller)) refl (lane caller (gateway_of s caller) y) (is_ask caller r) refl where
      by : (shut : Bool) → cut y (gateway_of s caller) ≡ shut
          → Lane caller (gateway_of s caller) y (with_sent (gateway_of s caller) y) → (n : ℕ) → is_ask caller r ≡ n
          → (one_or shut 0 (count_asks caller (with_sent (gateway_of s caller) y)) + count_asks caller (parked y)
          ≤ one_or shut 0 (count_asks caller (requests (gateway_of s caller) y)) + count_asks caller (parked y))
          ⊎ ((y ≡ x) × (gateway_of s caller ≡ g) × (caller ≡ caller_in r) × (cut x g ≡ false) × (0 < is_ask caller r)
          × (one_or shut 0 (count_asks caller (with_sent (gateway_of s caller) y)) + count_asks caller (parked y)
          ≤ one_or shut 0 (count_asks caller (requests (gateway_of s caller) y)) + count_asks caller (parked y) + 1))
      by true is same n asks = inl (omega arith)
      by false is (inl same) n asks = inl (omega (arith, same))
      by false is (inr (at_g, at_x, more)) zero asks = inl (omega (arith, more, asks))
      by false is (inr (at_g, at_x, more)) (suc n) asks =
          let uncut : cut x g ≡ false = sym (λ i. cut (at_x i) (at_g i)) ∙ is in
          let one : is_ask caller r ≤ 1 = is_ask-one caller r in
          inr (at_x, at_g, asker caller r n asks, uncut, omega (arith, asks), omega (arith, more, one))

  -- of a caller that it asks for there is no other
  pub placed-sent : (g x : ProcessId) (r : Request) → gateway_of s (caller_in r) ≡ g
      → (Living s failed x → cut x g ≡ false → FitsAsked s asked r
      × (0 < is_ask (caller_in r) r → (z : ProcessId) → Living s failed z → waits s cut requests parked (caller_in r)
      z ≡ 0))
      → Placed s cut failed (with_sent g x r) parked asked
  placed-sent g x r mine may = record {
    owned = changed-pairs (λ y x rs. Each (λ r. gateway_of s (caller_in r) ≡ y) rs) requests g x row
        (one_or-is (Each (λ r. gateway_of s (caller_in r) ≡ g)) (cut g x) (requests g x) (requests g x ++ r ∷ []) (λ _. b.owned g x)
        (λ _. each-append (λ r. gateway_of s (caller_in r) ≡ g) (requests g x) (r ∷ []) (b.owned g x) (mine, tt))) b.owned;
    lanes = changed-pairs (λ y x rs. Living s failed x → cut x y ≡ false → Each (FitsAsked s asked) rs) requests g x row
        (λ lives uncut. one_or-is (Each (FitsAsked s asked)) (cut g x) (requests g x) (requests g x ++ r ∷ []) (λ _. b.lanes g x lives uncut)
        (λ _. each-append (FitsAsked s asked) (requests g x) (r ∷ []) (b.lanes g x lives uncut) ((may lives uncut).0, tt))) b.lanes;
    parks = b.parks;
    one = one-waits s failed (waits s cut requests parked) (waits s cut (with_sent g x r) parked) x
        (λ caller y lives. which caller y lives (sent-which g x r caller y)) b.one;
  } where
    row : List Request
    row = one_or (cut g x) (requests g x) (requests g x ++ r ∷ [])

    which : (caller : ℕ) (y : ProcessId) → Living s failed y
        → (waits s cut (with_sent g x r) parked caller y ≤ waits s cut requests parked caller y)
        ⊎ ((y ≡ x) × (gateway_of s caller ≡ g) × (caller ≡ caller_in r) × (cut x g ≡ false) × (0 < is_ask caller r)
        × (waits s cut (with_sent g x r) parked caller y ≤ waits s cut requests parked caller y + 1))
        → (waits s cut (with_sent g x r) parked caller y ≤ waits s cut requests parked caller y)
        ⊎ ((y ≡ x) × (waits s cut (with_sent g x r) parked caller y ≤ 1)
        × ((z : ProcessId) → Living s failed z → waits s cut requests parked caller z ≡ 0))
    which caller y lives (inl less) = inl less
    which caller y lives (inr (at_x, at_g, its, uncut, asks, more)) =
        let none : (z : ProcessId) → Living s failed z → waits s cut requests parked caller z ≡ 0 =
        subst (λ (c : ℕ). (z : ProcessId) → Living s failed z → waits s cut requests parked c z ≡ 0) (sym its)
        ((may (subst (Living s failed) at_x lives) uncut).1 (subst (λ (c : ℕ). 0 < is_ask c r) its asks)) in
        let before = none y lives in
        inr (at_x, omega (arith, more, before), none)

  -- what is read was waiting before
  pub read-fewer : (g p : ProcessId) (r : Request) (rest : List Request) → requests g p ≡ r ∷ rest → cut p g ≡ false
      → (caller : ℕ) (x : ProcessId)
      → waits s cut (changed_from requests g p rest) (changed parked p (parked p ++ r ∷ [])) caller x
      ≤ waits s cut requests parked caller x
  read-fewer g p r rest is uncut = fewer where
    mine : Each (λ r. gateway_of s (caller_in r) ≡ g) (r ∷ rest)
    mine = subst (Each (λ r. gateway_of s (caller_in r) ≡ g)) is (b.owned g p)

    Lane : ℕ → ProcessId → ProcessId → List Request → Type 0
    Lane caller y z rs = ((y ≢ g) ⊎ (z ≢ p)) × (count_asks caller rs ≡ count_asks caller (requests y z))
        ⊎ ((y ≡ g) × (z ≡ p) × (count_asks caller (requests y z) ≡ is_ask caller r + count_asks caller rs))

    lane : (caller : ℕ) (y z : ProcessId) → (y ≡ g) ⊎ (y ≢ g) → (z ≡ p) ⊎ (z ≢ p) → Lane caller y z (changed_from requests g p rest y z)
    lane caller y z (inl yg) (inl zp) = inr (
      yg,
      zp,
      ap (λ (a : ProcessId). count_asks caller (requests a z)) yg ∙ ap (λ (a : ProcessId). count_asks caller (requests g a)) zp ∙ ap (count_asks caller) is
          ∙ sym (ap (λ (rs : List Request). is_ask caller r + count_asks caller rs)
          (ap (λ (a : ProcessId). changed_from requests g p rest a z) yg ∙ ap (λ (a : ProcessId). changed_from requests g p rest g a) zp
          ∙ ap (λ (f : ProcessId → List Request). f p) (changed-here requests g (changed (requests g) p rest)) ∙ changed-here (requests g) p rest)),
    )
    lane caller y z (inr other) w =
        inl (
          inl other,
          ap (λ (f : ProcessId → List Request). count_asks caller (f z))
              (changed-other requests g y (changed (requests g) p rest) other),
        )
    lane caller y z (inl yg) (inr other) = inl (
      inr other,
      ap (λ (a : ProcessId). count_asks caller (changed_from requests g p rest a z)) yg
          ∙ ap (λ (f : ProcessId → List Request). count_asks caller (f z)) (changed-here requests g (changed (requests g) p rest))
          ∙ ap (count_asks caller) (changed-other (requests g) p z rest other)
          ∙ ap (λ (a : ProcessId). count_asks caller (requests a z)) (sym yg),
    )

    Park : ℕ → ProcessId → List Request → Type 0
    Park caller z rs = (count_asks caller rs ≡ count_asks caller (parked z))
        ⊎ ((z ≡ p) × (count_asks caller rs ≡ count_asks caller (parked z) + is_ask caller r))

    park : (caller : ℕ) (z : ProcessId) → Park caller z (changed parked p (parked p ++ r ∷ []) z)
    park caller = changed-each (Park caller) parked p (parked p ++ r ∷ []) (inr (refl, count-append caller (parked p) (r ∷ []) ∙ last)) (λ z _. inl refl) where
      last : count_asks caller (parked p) + (is_ask caller r + 0) ≡ count_asks caller (parked p) + is_ask caller r
      last = omega arith

    fewer : (caller : ℕ) (x : ProcessId)
        → waits s cut (changed_from requests g p rest) (changed parked p (parked p ++ r ∷ [])) caller x
        ≤ waits s cut requests parked caller x
    fewer caller x =
        by (cut x (gateway_of s caller)) refl (lane caller (gateway_of s caller) x (same-cases (gateway_of s caller) g)
        (same-cases x p)) (park caller x) (is_ask caller r) refl where
          owner : (n : ℕ) → is_ask caller r ≡ suc n → gateway_of s caller ≡ g
          owner n asks = ap (gateway_of s) (asker caller r n asks) ∙ mine.0

          by : (shut : Bool) → cut x (gateway_of s caller) ≡ shut
              → Lane caller (gateway_of s caller) x (changed_from requests g p rest (gateway_of s caller) x)
              → Park caller x (changed parked p (parked p ++ r ∷ []) x)
              → (n : ℕ) → is_ask caller r ≡ n
              → one_or shut 0 (count_asks caller (changed_from requests g p rest (gateway_of s caller) x)) + count_asks
              caller (changed parked p (parked p ++ r ∷ []) x)
              ≤ one_or shut 0 (count_asks caller (requests (gateway_of s caller) x)) + count_asks caller (parked x)
          by true shut l (inl same) n asks = omega (arith, same)
          by true shut l (inr (at_p, more)) zero asks = omega (arith, more, asks)
          by true shut l (inr (at_p, more)) (suc n) asks =
              let there : cut x (gateway_of s caller) ≡ cut p g = λ i. cut (at_p i) (owner n asks i) in cc (shut, uncut, there)
          by false shut (inl (far, same)) (inl kept) n asks = omega (arith, same, kept)
          by false shut (inl (far, same)) (inr (at_p, more)) zero asks = omega (arith, same, more, asks)
          by false shut (inl (inl far, same)) (inr (at_p, more)) (suc n) asks = absurd (far (owner n asks))
          by false shut (inl (inr far, same)) (inr (at_p, more)) (suc n) asks = absurd (far at_p)
          by false shut (inr (at_g, at_p, less)) (inl kept) n asks = omega (arith, less, kept)
          by false shut (inr (at_g, at_p, less)) (inr (_, more)) n asks = omega (arith, less, more)

  -- a member reads the first request of a wire
  pub placed-read : (g p : ProcessId) (r : Request) (rest : List Request) → requests g p ≡ r ∷ rest → cut p g ≡ false
      → Placed s cut failed (changed_from requests g p rest) (changed parked p (parked p ++ r ∷ [])) asked
  placed-read g p r rest is uncut = record {
    owned = changed-pairs (λ y x rs. Each (λ r. gateway_of s (caller_in r) ≡ y) rs) requests g p rest mine.1 b.owned;
    lanes = changed-pairs (λ y x rs. Living s failed x → cut x y ≡ false → Each (FitsAsked s asked) rs) requests g p rest (λ lives _. (fit lives).1) b.lanes;
    parks = changed-each (λ x rs. Living s failed x → Each (FitsAsked s asked) rs) parked p (parked p ++ r ∷ [])
        (λ lives. each-append (FitsAsked s asked) (parked p) (r ∷ []) (b.parks p lives) ((fit lives).0, tt)) (λ x _. b.parks x);
    one = fewer-wait s failed (waits s cut requests parked)
        (waits s cut (changed_from requests g p rest) (changed parked p (parked p ++ r ∷ [])))
        (λ caller x _. read-fewer g p r rest is uncut caller x) b.one;
  } where
    mine : Each (λ r. gateway_of s (caller_in r) ≡ g) (r ∷ rest)
    mine = subst (Each (λ r. gateway_of s (caller_in r) ≡ g)) is (b.owned g p)

    fit : Living s failed p → Each (FitsAsked s asked) (r ∷ rest)
    fit lives = subst (Each (FitsAsked s asked)) is (b.lanes g p lives uncut)

  -- what is left was waiting before
  pub taken-fewer : (p : ProcessId) (place caller : ℕ) (x : ProcessId)
      → waits s cut requests (changed parked p (without_nth (parked p) place)) caller x ≤ waits s cut requests parked caller
      x
  taken-fewer p place caller x = fewer caller x where
    less : (caller : ℕ) (rs : List Request) (place : ℕ) → count_asks caller (without_nth rs place) ≤ count_asks caller rs
    less caller [] place = omega arith
    less caller (r ∷ rs) zero = omega arith
    less caller (r ∷ rs) (suc place) = let rest = less caller rs place in omega (arith, rest)

    park : (caller : ℕ) (z : ProcessId) → count_asks caller (changed parked p (without_nth (parked p) place) z) ≤ count_asks caller (parked z)
    park caller = changed-each (λ z rs. count_asks caller rs ≤ count_asks caller (parked z)) parked p
        (without_nth (parked p) place) (less caller (parked p) place) (λ z _. omega arith)

    fewer : (caller : ℕ) (x : ProcessId)
        → waits s cut requests (changed parked p (without_nth (parked p) place)) caller x ≤ waits s cut requests parked caller x
    fewer caller x = let l = park caller x in omega (arith, l)

  -- a member takes one of the requests that it has read
  pub placed-taken : (p : ProcessId) (place : ℕ) → Placed s cut failed requests (changed parked p (without_nth (parked p) place)) asked
  placed-taken p place = record {
    owned = b.owned;
    lanes = b.lanes;
    parks = changed-each (λ x rs. Living s failed x → Each (FitsAsked s asked) rs) parked p (without_nth (parked p) place)
        (λ lives. each-without (FitsAsked s asked) (parked p) place (b.parks p lives)) (λ x _. b.parks x);
    one = fewer-wait s failed (waits s cut requests parked)
        (waits s cut requests (changed parked p (without_nth (parked p) place)))
        (λ caller x _. taken-fewer p place caller x) b.one;
  }

  -- it waited
  pub one-waiting : (p : ProcessId) (place caller call : ℕ) (op : Asked) → entry_at (parked p) place
      ≡ Some (AskFor caller call op) → 0 < waits s cut requests parked caller p
  one-waiting p place caller call op is =
      let all = count-without caller (parked p) place (AskFor caller call op) is in
      let own = is_ask-own caller call op in
      omega (arith, all, own)

  -- where it is an ask, the caller has none left
  pub none-left : (p : ProcessId) (place caller call : ℕ) (op : Asked) → Living s failed p → entry_at (parked p) place ≡ Some (AskFor caller call op)
      → (z : ProcessId) → Living s failed z → waits s cut requests (changed parked p (without_nth (parked p) place)) caller z ≡ 0
  none-left p place caller call op lives is z zl = by (same-cases z p) where
    some : 0 < waits s cut requests parked caller p
    some =
        let all = count-without caller (parked p) place (AskFor caller call op) is in
        let own = is_ask-own caller call op in
        omega (arith, all, own)

    by : (z ≡ p) ⊎ (z ≢ p) → waits s cut requests (changed parked p (without_nth (parked p) place)) caller z ≡ 0
    by (inl same) =
        let all = count-without caller (parked p) place (AskFor caller call op) is in
        let own = is_ask-own caller call op in
        let few = b.one.here caller p lives in
        let here : count_asks caller (changed parked p (without_nth (parked p) place) p)
        ≡ count_asks caller (without_nth (parked p) place) =
        ap (count_asks caller) (changed-here parked p (without_nth (parked p) place)) in
        ap (λ (y : ProcessId). waits s cut requests (changed parked p (without_nth (parked p) place)) caller y) same ∙ omega (arith, all, own, few, here)
    by (inr other) =
        let same : count_asks caller (changed parked p (without_nth (parked p) place) z) ≡ count_asks caller (parked z) =
        ap (count_asks caller) (changed-other parked p z (without_nth (parked p) place) other) in
        omega (arith, same, nothing)
      where
        nothing : waits s cut requests parked caller z ≤ 0
        nothing = which (waits s cut requests parked caller z) refl where
          which : (n : ℕ) → waits s cut requests parked caller z ≡ n → n ≤ 0
          which zero is = omega arith
          which (suc n) is = absurd (other (b.one.there caller z p zl lives (omega (arith, is)) some))

  -- what a cut leaves was waiting before
  pub cut-fewer : (now : ProcessId → Processes) → ((x g : ProcessId) → cut x g ≡ true → now x g ≡ true)
      → (caller : ℕ) (x : ProcessId) → waits s now requests parked caller x ≤ waits s cut requests parked caller x
  cut-fewer now grows caller x = less (cut x (gateway_of s caller)) (now x (gateway_of s caller)) caller x (grows x (gateway_of s caller)) where
    less : (c d : Bool) (caller : ℕ) (x : ProcessId) → (c ≡ true → d ≡ true)
        → one_or d 0 (count_asks caller (requests (gateway_of s caller) x)) + count_asks caller (parked x)
        ≤ one_or c 0 (count_asks caller (requests (gateway_of s caller) x)) + count_asks caller (parked x)
    less true true caller x there = omega arith
    less false true caller x there = omega arith
    less false false caller x there = omega arith
    less true false caller x there = cc (there refl)

  -- a member cuts others
  pub placed-cut : (now : ProcessId → Processes) → ((x g : ProcessId) → cut x g ≡ true → now x g ≡ true) → Placed s now failed requests parked asked
  placed-cut now grows = record {
    owned = b.owned;
    lanes = λ g x lives uncut. b.lanes g x lives (was (cut x g) (grows x g) uncut);
    parks = b.parks;
    one = fewer-wait s failed (waits s cut requests parked) (waits s now requests parked) (λ caller x _. cut-fewer now grows caller x) b.one;
  } where
    was : {a : Bool} (c : Bool) → (c ≡ true → a ≡ true) → a ≡ false → c ≡ false
    was true there is = cc (there refl, is)
    was false there is = refl

  -- more fail
  pub placed-fail : (now : Processes) → ((x : ProcessId) → now x ≡ false → failed x ≡ false) → Placed s cut now requests parked asked
  placed-fail now lived = record {
    owned = b.owned;
    lanes = λ g x lives uncut. b.lanes g x (lives.0, lived x lives.1) uncut;
    parks = λ x lives. b.parks x (lives.0, lived x lives.1);
    one = record {
      here = λ caller x lives. b.one.here caller x (lives.0, lived x lives.1);
      there = λ caller x y xl yl some more. b.one.there caller x y (xl.0, lived x xl.1) (yl.0, lived y yl.1) some more;
    };
  }

  -- a caller that has none waiting has asked once more
  pub placed-once : (who : ℕ) → ((z : ProcessId) → Living s failed z → waits s cut requests parked who z ≡ 0)
      → Placed s cut failed requests parked (asked_once asked who)
  placed-once who none = record {
    owned = b.owned;
    lanes = λ g x lives uncut. lane g x lives uncut (same-cases (gateway_of s who) g);
    parks = λ x lives. fits-once s asked who (parked x) (let nothing = none x lives in omega (arith, nothing)) (b.parks x lives);
    one = b.one;
  } where
    unasked : (g : ProcessId) (rs : List Request) → gateway_of s who ≢ g → Each (λ r. gateway_of s (caller_in r) ≡ g) rs → count_asks who rs ≡ 0
    unasked g [] other all = refl
    unasked g (r ∷ rs) other all = let rest = unasked g rs other all.1 in by (is_ask who r) refl rest where
      by : (n : ℕ) → is_ask who r ≡ n → count_asks who rs ≡ 0 → is_ask who r + count_asks who rs ≡ 0
      by zero is rest = omega (arith, is, rest)
      by (suc n) is rest = absurd (other (ap (gateway_of s) (asker who r n is) ∙ all.0))

    lane : (g x : ProcessId) → Living s failed x → cut x g ≡ false → (gateway_of s who ≡ g) ⊎ (gateway_of s who ≢ g)
        → Each (FitsAsked s (asked_once asked who)) (requests g x)
    lane g x lives uncut (inr other) = fits-once s asked who (requests g x) (unasked g (requests g x) other (b.owned g x)) (b.lanes g x lives uncut)
    lane g x lives uncut (inl same) = fits-once s asked who (requests g x) none-here (b.lanes g x lives uncut) where
      none-here : count_asks who (requests g x) ≡ 0
      none-here =
          let open_to : cut x (gateway_of s who) ≡ false = ap (cut x) same ∙ uncut in
          let all : one_or false 0 (count_asks who (requests (gateway_of s who) x)) + count_asks who (parked x) ≡ 0 =
          ap (λ (c : Bool). one_or c 0 (count_asks who (requests (gateway_of s who) x)) + count_asks who (parked x)) (sym open_to) ∙ none x lives in
          let here : count_asks who (requests g x) ≡ count_asks who (requests (gateway_of s who) x) =
          ap (λ (a : ProcessId). count_asks who (requests a x)) (sym same) in
          omega (arith, all, here)

  -- where none of a caller's asks waits, there is none in a wire that can still be read, nor among those that were read
  pub lane-none : (who : ℕ) → ((z : ProcessId) → Living s failed z → waits s cut requests parked who z ≡ 0)
      → (g x : ProcessId) → Living s failed x → cut x g ≡ false → count_asks who (requests g x) ≡ 0
  lane-none who none g x lives uncut = by (same-cases (gateway_of s who) g) where
    unasked : (rs : List Request) → gateway_of s who ≢ g → Each (λ r. gateway_of s (caller_in r) ≡ g) rs → count_asks who rs ≡ 0
    unasked [] other all = refl
    unasked (r ∷ rs) other all = which (is_ask who r) refl (unasked rs other all.1) where
      which : (n : ℕ) → is_ask who r ≡ n → count_asks who rs ≡ 0 → is_ask who r + count_asks who rs ≡ 0
      which zero is rest = omega (arith, is, rest)
      which (suc n) is rest = absurd (other (ap (gateway_of s) (asker who r n is) ∙ all.0))

    by : (gateway_of s who ≡ g) ⊎ (gateway_of s who ≢ g) → count_asks who (requests g x) ≡ 0
    by (inr other) = unasked (requests g x) other (b.owned g x)
    by (inl same) =
        let open_to : cut x (gateway_of s who) ≡ false = ap (cut x) same ∙ uncut in
        let all : one_or false 0 (count_asks who (requests (gateway_of s who) x)) + count_asks who (parked x) ≡ 0 =
        ap (λ (c : Bool). one_or c 0 (count_asks who (requests (gateway_of s who) x)) + count_asks who (parked x)) (sym open_to) ∙ none x lives in
        let here : count_asks who (requests g x) ≡ count_asks who (requests (gateway_of s who) x) =
        ap (λ (a : ProcessId). count_asks who (requests a x)) (sym same) in
        omega (arith, all, here)

  pub park-none : (who : ℕ) → ((z : ProcessId) → Living s failed z → waits s cut requests parked who z ≡ 0)
      → (x : ProcessId) → Living s failed x → count_asks who (parked x) ≡ 0
  park-none who none x lives = let all = none x lives in omega (arith, all)
