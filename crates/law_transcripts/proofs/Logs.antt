-- What the log of fine turns is: its ops are fine, its replies are within their limits, and it has no more entries than turns.
use Rattle.std.proofs.Common.{◌≡◌, ◌<◌, ◌≤◌, ◌+◌, ◌^◌, ℕ, zero, suc, List, [], ◌∷◌, ◌∙◌, length, take, slice_get}
use Rattle.std.proofs.Common.{slice_index_or, Some, refl, sym, ap, subst, arith}
use Rattle.std.proofs.lemmas.Bool.Decides.{nat_tests}
use Rattle.std.proofs.lemmas.List.Elements.{All-append, All-cons, All-contains_itself, All-head, All-nil, All-tail}
use Rattle.std.proofs.lemmas.List.Elements.{All-weaker, Contains-append_left, Contains-append_right}
use Rattle.std.specs.Prelude.{All, Contains}
use Rattle.group_types.specs.Each.{Each}
use Rattle.memc_table.specs.Asked.{Asked}
use Rattle.memc_table.specs.Contents.{Contents, empty_table, table_after}
use Rattle.group_calls.specs.Log.{IsLegal, IsLegalFrom}
use Rattle.group_calls.specs.Turns.{CallName, Turn, asks_in, asks_of, log_of, name_of}
use Rattle.group_calls.specs.Within.{AnswersWithin, IsAsk}
use Rattle.group_calls.specs.declared.entry.Entry.{Entry}
use Rattle.group_calls.specs.declared.event.Event.{Event}
use Rattle.group_calls.specs.declared.event.Event.TheVariants as happens
use Rattle.law_progress.proofs.Differing.{differ-below}
use Rattle.transcript_text.specs.Forms.{FitsReply}
use Rattle.run_verify.proofs.ExactFits.{FitsAct, FitsTable, empty-fits, reply-fits, table-fits}
use Rattle.law_transcripts.proofs.Asks.{FineTurn, IsFine}
use Rattle.law_transcripts.proofs.Lines.{PlainKey}

-- ---- members

pub all-get : {X : Type 0} (P : X → Type 0) (xs : List X) (i : ℕ) (x : X) → All P xs → slice_get xs i ≡ Some x → P x
all-get P [] i x all is = absurd (cc is)
all-get P (y ∷ xs) zero x all is = let same : y ≡ x = cc is in subst P same (All-head P y xs all)
all-get P (y ∷ xs) (suc i) x all is = all-get P xs i x (All-tail P y xs all) is

pub all-each : {X : Type 0} (P : X → Type 0) (xs : List X) → ((i : ℕ) (x : X) → slice_get xs i ≡ Some x → P x) → All P xs
all-each P [] each = All-nil P
all-each P (x ∷ xs) each = All-cons P x xs (each 0 x refl) (all-each P xs (λ i y is. each (suc i) y is))

logged-all : (P : Entry → Type 0) (ts : List Turn) → ((i : ℕ) (t : Turn) → slice_get ts i ≡ Some t → (e : Entry) → Contains t.logged e → P e)
    → All P (log_of ts)
logged-all P [] each = All-nil P
logged-all P (t ∷ ts) each = All-append P t.logged (log_of ts) (All-weaker (Contains t.logged) P (each 0 t refl) t.logged (All-contains_itself t.logged))
    (logged-all P ts (λ i u is. each (suc i) u is))

pub logged-there : (ts : List Turn) (i : ℕ) (t : Turn) (e : Entry) → slice_get ts i ≡ Some t → Contains t.logged e → Contains (log_of ts) e
logged-there [] i t e is there = absurd (cc is)
logged-there (u ∷ ts) zero t e is there = let same : t ≡ u = cc is in Contains-append_left u.logged (log_of ts) e
    (subst (λ (v : Turn). Contains v.logged e) same there)
logged-there (u ∷ ts) (suc i) t e is there = Contains-append_right u.logged (log_of ts) e (logged-there ts i t e is there)

-- ---- ops and replies

abbrev pub FineEntry : Entry → Type 0
FineEntry e = FitsAct e.op.act × PlainKey e

abbrev pub FitsLogged : Entry → Type 0
FitsLogged e = FitsReply e.reply

pub ops-fine : (k : ℕ) (ts : List Turn) → AnswersWithin k ts → All FineTurn ts → All FineEntry (log_of ts)
ops-fine k ts within fine = logged-all FineEntry ts (λ i t is e there. by i e (within.asked i t e is there))
  where
    by : (i : ℕ) (e : Entry) → (j : ℕ) × (ask : Turn) × (j ≤ i) × IsAsk ts j ask (name_of e) e.op → FineEntry e
    by i e (j, ask, low, asked) = subst IsFine asked.event (all-get FineTurn ts j ask fine asked.there)

replies-from : (m : ℕ) (t : Contents) (es : List Entry) → FitsTable m t → m + length es + 1 < 2 ^ 64 → IsLegalFrom t es → All FineEntry es → All FitsLogged es
replies-from m t [] fits short legal fine = All-nil FitsLogged
replies-from m t (e ∷ es) fits short legal fine =
    let one = (All-head FineEntry e es fine).0 in
    All-cons FitsLogged e es (subst FitsReply (sym legal.0) (reply-fits m t e.op fits (omega (arith, short)) one))
    (replies-from (m + 1) (table_after t e.op) es (table-fits m t e.op fits (omega (arith, short)) one) (omega (arith, short)) legal.1
    (All-tail FineEntry e es fine))

pub replies-fit : (k : ℕ) (es : List Entry) → length es + 1 < 2 ^ 64 → IsLegal k es → All FineEntry es → All FitsLogged es
replies-fit k es short legal fine = replies-from 0 (empty_table k) es (empty-fits k) (omega (arith, short)) legal fine

-- ---- how many entries

module _ (k : ℕ) (ts : List Turn) (within : AnswersWithin k ts) where
  -- the ask of an entry
  abbrev AskOf : Entry → Type 0
  AskOf e = (j : ℕ) × (ask : Turn) × IsAsk ts j ask (name_of e) e.op

  asks-all : All AskOf (log_of ts)
  asks-all = logged-all AskOf ts (λ i t is e there. let a = within.asked i t e is there in (a.0, a.1, a.3))

  each-from : (es : List Entry) → All AskOf es → Each AskOf es
  each-from [] all = tt
  each-from (e ∷ es) all = (All-head AskOf e es all, each-from es (All-tail AskOf e es all))

  abbrev numbers : (es : List Entry) → Each AskOf es → List ℕ
  numbers [] asks = []
  numbers (e ∷ es) (ask, asks) = ask.0 ∷ numbers es asks

  numbers-long : (es : List Entry) (asks : Each AskOf es) → length (numbers es asks) ≡ length es
  numbers-long [] asks = refl
  numbers-long (e ∷ es) (ask, asks) = ap suc (numbers-long es asks)

  there-low : {X : Type 0} (xs : List X) (i : ℕ) (x : X) → slice_get xs i ≡ Some x → i < length xs
  there-low [] i x is = absurd (cc is)
  there-low (y ∷ xs) zero x is = omega arith
  there-low (y ∷ xs) (suc i) x is = let low = there-low xs i x is in omega (arith, low)

  numbers-low : (es : List Entry) (asks : Each AskOf es) → All (λ j. j < length ts) (numbers es asks)
  numbers-low [] asks = All-nil (λ j. j < length ts)
  numbers-low (e ∷ es) (ask, asks) = All-cons (λ j. j < length ts) ask.0 (numbers es asks) (there-low ts ask.0 ask.1 ask.2.there) (numbers-low es asks)

  -- the entry at a place, and its ask
  placed : (es : List Entry) (asks : Each AskOf es) (i d : ℕ) → i < length es
      → (e : Entry) × (slice_get es i ≡ Some e) × ((ask : Turn) × IsAsk ts (slice_index_or (numbers es asks) i d) ask (name_of e) e.op)
  placed [] asks i d low = absurd (omega (arith, low))
  placed (e ∷ es) (ask, asks) zero d low = (e, refl, (ask.1, ask.2))
  placed (e ∷ es) (ask, asks) (suc i) d low = placed es asks i d (omega (arith, low))

  -- one ask has one name
  one-name : (n : ℕ) (a b : Turn) (x y : CallName) (o q : Asked) → IsAsk ts n a x o → IsAsk ts n b y q → x ≡ y
  one-name n a b x y o q one other =
      let same : a ≡ b = (let both = sym one.there ∙ other.there in let s : a ≡ b = cc both in s) in
      let event : happens.Ask x.caller o one.at ≡ happens.Ask y.caller q other.at = sym one.event ∙ ap (λ (t : Turn). t.event) same ∙ other.event in
      let caller : x.caller ≡ y.caller = cc event in
      let call : x.call ≡ y.call = sym one.place ∙ ap (λ (c : ℕ). asks_of c (take n ts)) caller ∙ other.place in
      λ i. record { caller = caller i; call = call i }

  pub log-short : length (log_of ts) ≤ length ts
  log-short =
      let asks : Each AskOf (log_of ts) = each-from (log_of ts) asks-all in
      let long = numbers-long (log_of ts) asks in
      let most = differ-below (length ts) (numbers (log_of ts) asks) (numbers-low (log_of ts) asks) (λ i j d before below same.
      let high : j < length (log_of ts) = omega (arith, below, long) in
      let first = placed (log_of ts) asks i d (omega (arith, before, high)) in
      let last = placed (log_of ts) asks j d high in
      within.once i j first.0 last.0 before first.1 last.1
      (one-name (slice_index_or (numbers (log_of ts) asks) j d) first.2.0 last.2.0 (name_of first.0) (name_of last.0) first.0.op last.0.op
      (subst (λ (n : ℕ). IsAsk ts n first.2.0 (name_of first.0) first.0.op) same first.2.1) last.2.1)) in
      omega (arith, long, most)

-- ---- calls

asks-one : (caller : ℕ) (event : Event) → asks_in caller event ≤ 1
asks-one caller (happens.Ask who op p) = grind (arith, nat_tests)
asks-one caller event = omega arith

asks-few : (caller n : ℕ) (ts : List Turn) → asks_of caller (take n ts) ≤ length ts
asks-few caller zero ts = omega arith
asks-few caller (suc n) [] = omega arith
asks-few caller (suc n) (t ∷ ts) = let one = asks-one caller t.event in let rest = asks-few caller n ts in omega (arith, one, rest)

-- no call of the log has a number above that of the turns
pub calls-few : (k : ℕ) (ts : List Turn) → AnswersWithin k ts → All (λ e. e.call ≤ length ts) (log_of ts)
calls-few k ts within = logged-all (λ e. e.call ≤ length ts) ts (λ i t is e there. by i e (within.asked i t e is there))
  where
    by : (i : ℕ) (e : Entry) → (j : ℕ) × (ask : Turn) × (j ≤ i) × IsAsk ts j ask (name_of e) e.op → e.call ≤ length ts
    by i e (j, ask, low, asked) = let few = asks-few e.caller j ts in let is = asked.place in omega (arith, few, is)
