-- The events and answers of turns, with the length of the log at which each began.
use Rattle.std.proofs.Common.{◌≡◌, ◌⊎◌, inl, inr, ◌<◌, ◌≤◌, ◌+◌, ℕ, zero, suc, List, [], ◌∷◌, ◌++◌, ◌∙◌, take, length, slice_get, Some, refl, sym, ap, arith}
use Rattle.std.proofs.lemmas.List.{length-append}
use Rattle.memc_table.specs.Asked.{Asked}
use Rattle.group_types.specs.declared.process.ProcessId.{ProcessId}
use Rattle.group_calls.specs.Turns.{CallName, Turn, asks_in, asks_of, log_of}
use Rattle.group_calls.specs.Within.{IsAsk}
use Rattle.group_calls.specs.declared.event.Answer.{Answer}
use Rattle.group_calls.specs.declared.event.Event.{Event}
use Rattle.group_calls.specs.declared.event.Event.TheVariants.{Ask}

pub record Head : Type 0 where
  pub event : Event
  pub answer : Answer
  pub start : ℕ

-- the heads of turns, where the log has so many entries before them
abbrev pub heads_of : ℕ → List Turn → List Head
heads_of n [] = []
heads_of n (t ∷ ts) = record { event = t.event; answer = t.answer; start = n } ∷ heads_of (n + length t.logged) ts

-- how often a caller asks
abbrev pub asks_by : ℕ → List Head → ℕ
asks_by caller [] = 0
asks_by caller (h ∷ hs) = asks_in caller h.event + asks_by caller hs

-- head j is the ask of this name for this op
pub record IsAsked (hs : List Head) (j : ℕ) (h : Head) (name : CallName) (op : Asked) : Type 0 where
  pub there : slice_get hs j ≡ Some h
  pub at : ProcessId
  pub event : h.event ≡ Ask name.caller op at
  pub place : asks_by name.caller (take j hs) ≡ name.call

pub asks-heads : (caller n : ℕ) (ts : List Turn) → asks_by caller (heads_of n ts) ≡ asks_of caller ts
asks-heads caller n [] = refl
asks-heads caller n (t ∷ ts) = ap (λ (m : ℕ). asks_in caller t.event + m) (asks-heads caller (n + length t.logged) ts)

pub take-heads : (j n : ℕ) (ts : List Turn) → take j (heads_of n ts) ≡ heads_of n (take j ts)
take-heads zero n ts = refl
take-heads (suc j) n [] = refl
take-heads (suc j) n (t ∷ ts) = ap (λ (hs : List Head). record { event = t.event; answer = t.answer; start = n } ∷ hs) (take-heads j (n + length t.logged) ts)

-- the turn of a head
pub record TurnOf (ts : List Turn) (n j : ℕ) (h : Head) : Type 0 where
  pub turn : Turn
  pub there : slice_get ts j ≡ Some turn
  pub event : turn.event ≡ h.event
  pub answer : turn.answer ≡ h.answer
  pub start : h.start ≡ n + length (log_of (take j ts))

pub turn-of : (ts : List Turn) (n j : ℕ) (h : Head) → slice_get (heads_of n ts) j ≡ Some h → TurnOf ts n j h
turn-of [] n j h is = cc is
turn-of (t ∷ ts) n zero h is =
    let same : record { event = t.event; answer = t.answer; start = n } ≡ h = cc is in
    record {
      turn = t;
      there = refl;
      event = ap (λ (x : Head). x.event) same;
      answer = ap (λ (x : Head). x.answer) same;
      start = sym (ap (λ (x : Head). x.start) same) ∙ omega arith;
    }
turn-of (t ∷ ts) n (suc j) h is =
    let rest = turn-of ts (n + length t.logged) j h is in
    let start = rest.start in
    record {
      turn = rest.turn;
      there = rest.there;
      event = rest.event;
      answer = rest.answer;
      start = start
          ∙ omega (arith, length-append t.logged (log_of (take j ts)));
    }

-- the head of a turn
pub head-of : (ts : List Turn) (n j : ℕ) (t : Turn) → slice_get ts j ≡ Some t → (h : Head)
    × (slice_get (heads_of n ts) j ≡ Some h) × (h.event ≡ t.event) × (h.answer ≡ t.answer)
head-of [] n j t is = cc is
head-of (u ∷ ts) n zero t is =
    let same : u ≡ t = cc is in
    (record { event = u.event; answer = u.answer; start = n }, refl, ap (λ (x : Turn). x.event) same, ap (λ (x : Turn). x.answer) same)
head-of (u ∷ ts) n (suc j) t is = head-of ts (n + length u.logged) j t is

-- an ask of turns is one of their heads, and the other way round
pub ask-head : (ts : List Turn) (j : ℕ) (t : Turn) (name : CallName) (op : Asked) → IsAsk ts j t name op → (h : Head)
    × IsAsked (heads_of 0 ts) j h name op × (h.answer ≡ t.answer)
ask-head ts j t name op ask =
    let h = head-of ts 0 j t ask.there in
    (h.0, record { there = h.1; at = ask.at; event = h.2 ∙ ask.event; place = rw (take-heads j 0 ts) (asks-heads name.caller 0 (take j ts) ∙ ask.place) }, h.3)

pub head-ask : (ts : List Turn) (j : ℕ) (h : Head) (name : CallName) (op : Asked) → IsAsked (heads_of 0 ts) j h name op
    → (t : Turn) × IsAsk ts j t name op × (t.answer ≡ h.answer) × (h.start ≡ length (log_of (take j ts)))
head-ask ts j h name op ask =
    let t = turn-of ts 0 j h ask.there in (
      t.turn,
      record {
        there = t.there;
        at = ask.at;
        event = t.event ∙ ask.event;
        place = sym (asks-heads name.caller 0 (take j ts)) ∙ rw (take-heads j 0 ts) at ask.place;
      },
      t.answer,
      t.start
          ∙ omega arith,
    )

-- ---- appending

pub heads-push : (n : ℕ) (ts : List Turn) (t : Turn) → heads_of n (ts ++ t ∷ []) ≡ heads_of n ts
    ++ record { event = t.event; answer = t.answer; start = n + length (log_of ts) } ∷ []
heads-push n [] t = let e : n + 0 ≡ n = omega arith in rw e refl
heads-push n (u ∷ ts) t =
    let e : n + length u.logged + length (log_of ts) ≡ n + length (u.logged ++ log_of ts) = omega (arith, length-append u.logged (log_of ts)) in
    ap (λ (hs : List Head). record { event = u.event; answer = u.answer; start = n } ∷ hs) (rw e at (heads-push (n + length u.logged) ts t))

pub asks-push : (caller : ℕ) (hs : List Head) (h : Head) → asks_by caller (hs ++ h ∷ []) ≡ asks_by caller hs + asks_in caller h.event
asks-push caller [] h = omega arith
asks-push caller (g ∷ hs) h = let e = asks-push caller hs h in omega (arith, e)

pub get-push : {A : Type 0} (xs : List A) (y : A) (j : ℕ) (x : A) → slice_get xs j ≡ Some x → slice_get (xs ++ y ∷ []) j ≡ Some x
get-push [] y j x is = cc is
get-push (z ∷ xs) y zero x is = is
get-push (z ∷ xs) y (suc j) x is = get-push xs y j x is

pub get-within : {A : Type 0} (xs : List A) (j : ℕ) (x : A) → slice_get xs j ≡ Some x → j < length xs
get-within [] j x is = cc is
get-within (z ∷ xs) zero x is = omega arith
get-within (z ∷ xs) (suc j) x is = let e = get-within xs j x is in omega (arith, e)

pub get-last : {A : Type 0} (xs : List A) (y : A) → slice_get (xs ++ y ∷ []) (length xs) ≡ Some y
get-last [] y = refl
get-last (z ∷ xs) y = get-last xs y

-- what stands in a list with one more stands there before, or is the last
pub get-cases : {A : Type 0} (xs : List A) (y : A) (j : ℕ) (x : A) → slice_get (xs ++ y ∷ []) j ≡ Some x
    → (slice_get xs j ≡ Some x) ⊎ ((j ≡ length xs) × (x ≡ y))
get-cases [] y zero x is = inr (refl, sym (let e : y ≡ x = cc is in e))
get-cases [] y (suc j) x is = cc is
get-cases (z ∷ xs) y zero x is = inl is
get-cases (z ∷ xs) y (suc j) x is = elim (get-cases xs y j x is) [ inl before ↦ inl before | inr last ↦ let e = last.0 in inr (cc e, last.1) ]

pub take-push : {A : Type 0} (xs : List A) (y : A) (j : ℕ) → j ≤ length xs → take j (xs ++ y ∷ []) ≡ take j xs
take-push xs y zero below = refl
take-push [] y (suc j) below = absurd (omega (arith, below))
take-push (x ∷ xs) y (suc j) below = ap (λ (zs : List _). x ∷ zs) (take-push xs y j (omega (arith, below)))

pub asked-push : (hs : List Head) (g : Head) (j : ℕ) (h : Head) (name : CallName) (op : Asked) → IsAsked hs j h name op → IsAsked (hs ++ g ∷ []) j h name op
asked-push hs g j h name op ask =
    let within = get-within hs j h ask.there in
    record { there = get-push hs g j h ask.there; at = ask.at; event = ask.event; place = rw (take-push hs g j (omega (arith, within))) ask.place }
