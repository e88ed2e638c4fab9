-- A turn that passes is answered within its time.
use Rattle.std.proofs.Common.{◌≡◌, ◌≢◌, ◌<◌, ◌≤◌, ◌+◌, ◌^◌, ℕ, zero, suc, List, [], ◌∷◌, ◌++◌, ◌∙◌, map, take, length}
use Rattle.std.proofs.Common.{slice_get, slice_index_or, Option, Some, None, option_and_then, append_assoc, refl, sym}
use Rattle.std.proofs.Common.{ap, subst, arith}
use Rattle.std.proofs.lemmas.List.{append-nil, take_all}
use Rattle.std.proofs.lemmas.Bool.Decides.{nat_tests}
use Rattle.std.specs.Prelude.{Contains}
use Rattle.group_types.specs.Dimensions.{callers}
use Rattle.group_types.specs.Lists.{at}
use Rattle.group_types.specs.declared.process.ProcessId.{ProcessId}
use Rattle.memc_table.specs.Asked.{Asked}
use Rattle.memc_table.specs.declared.reply.Reply.{Reply}
use Rattle.group_calls.specs.Turns.{CallName, Turn, asks_in, asks_of, call_entry, log_of, name_of}
use Rattle.group_calls.specs.Within.{Fetches, IsAsk}
use Rattle.group_calls.specs.declared.entry.Entry.{Entry}
use Rattle.group_calls.specs.declared.event.Answer.{Answer}
use Rattle.group_calls.specs.declared.event.Answer.TheVariants as answered
use Rattle.group_calls.specs.declared.event.Event.{Event}
use Rattle.group_calls.specs.declared.event.Event.TheVariants as happens
use Rattle.scenario_text.specs.Texts.{entry_text, reply_words}
use Rattle.transcript_text.specs.Forms.{FitsAnswer, FitsReply}
use Rattle.run_verify.specs.Passing.{Account, IsAnswerRight, IsEntryThere, IsReplyTo, LogsAhead, account_after_entry, after_answer, call_named, entry_front}
use Rattle.run_verify.specs.Passing.{logged_reply, next_call_name}
use Rattle.run_verify.specs.Plain.{IsEventInRange}
use Rattle.run_verify.specs.Sheet.{Sheet}
use Rattle.run_verify.specs.declared.call.Call.{Call}
use Rattle.run_verify.proofs.ImpliedCourse.{LogsTo, NoEntry}
use Rattle.run_verify.proofs.ImpliedSteps.{MadeBy}
use Rattle.run_verify.proofs.ImpliedHeads.{Head, ask-head, asks-heads, get-last, get-within, head-ask, heads-push, heads_of, take-push}
use Rattle.run_verify.proofs.ImpliedAccount.{Stands, call_with, entry-other}
use Rattle.run_verify.proofs.ImpliedStands.{some_same, stands-entry, stands-event}
use Rattle.run_verify.proofs.ImpliedAhead.{AllFit, IsAmong, ahead_is}

-- the entry of a call stands in the log, behind its ask, at the end of a turn
pub record LoggedSince (before : List Turn) (t : Turn) (name : CallName) (reply : Reply) : Type 0 where
  pub op : Asked
  pub j : ℕ
  pub ask : Turn
  pub asked : IsAsk (before ++ t ∷ []) j ask name op
  pub place : ℕ
  pub entry : slice_get (log_of (before ++ t ∷ [])) place ≡ Some (call_entry name op reply)
  pub since : length (log_of (take j (before ++ t ∷ []))) ≤ place

-- a turn behind others is right
pub record TurnRight (before : List Turn) (t : Turn) : Type 0 where
  pub asked : (e : Entry) → Contains t.logged e → (j : ℕ) × (ask : Turn) × IsAsk (before ++ t ∷ []) j ask (name_of e) e.op
  pub at_once : (name : CallName) (op : Asked) (p : ProcessId) (reply : Reply) → t.event ≡ happens.Ask name.caller op p
      → asks_of name.caller before ≡ name.call → t.answer ≡ answered.Reply reply
      → Contains t.logged (call_entry name op reply)
  pub later : (name : CallName) (reply : Reply) → Fetches t.event name → t.answer ≡ answered.Reply reply → LoggedSince before t name reply

-- the account says what it says of turns
abbrev pub StandsFor : Account → List Turn → Type 0
StandsFor a turns = Stands a (heads_of 0 turns) (log_of turns)

pub log-push : (before : List Turn) (t : Turn) → log_of (before ++ t ∷ []) ≡ log_of before ++ t.logged
log-push [] t = append-nil t.logged
log-push (u ∷ before) t = ap (λ (es : List Entry). u.logged ++ es) (log-push before t) ∙ sym (append_assoc u.logged (log_of before) t.logged)

stands-logs : (sheet : Sheet) (es : List Entry) (a b : Account) (hs : List Head) (log : List Entry)
    → LogsTo sheet a es b → Stands a hs log → Stands b hs (log ++ es)
stands-logs sheet [] a b hs log same s = subst (λ (c : Account). Stands c hs (log ++ [])) same (rw (append-nil log) s)
stands-logs sheet (e ∷ es) a b hs log (run, tells, logs) s =
    subst (Stands b hs) (append_assoc log (e ∷ []) es)
    (stands-logs sheet es (account_after_entry sheet a e run) b hs (log ++ e ∷ []) logs
    (stands-entry sheet a hs log (entry_text e) e run s tells))

-- behind a turn the account says it of one turn more
pub stands-turn : (sheet : Sheet) (a : Account) (event : Event) (answer : Answer) (es : List Entry) (next : Account) (before : List Turn)
    → StandsFor a before → LogsTo sheet (after_answer a event answer) es next
    → StandsFor next (before ++ record { event = event; answer = answer; logged = es } ∷ [])
stands-turn sheet a event answer es next before s logs =
    let t : Turn = record { event = event; answer = answer; logged = es } in
    let start : 0 + length (log_of before) ≡ length (log_of before) = omega arith in
    let heads = rw start at (heads-push 0 before t) in
    let behind = stands-logs sheet es (after_answer a event answer) next
    (heads_of 0 before ++ record { event = event; answer = answer; start = length (log_of before) } ∷ [])
    (log_of before) logs (stands-event a (heads_of 0 before) (log_of before) event answer s) in
    subst (λ (hs : List Head). Stands next hs (log_of (before ++ t ∷ []))) (sym heads)
    (subst (Stands next
    (heads_of 0 before ++ record { event = event; answer = answer; start = length (log_of before) } ∷ []))
    (sym (log-push before t)) behind)

pub fits-logs : (sheet : Sheet) (es : List Entry) (a b : Account) → LogsTo sheet a es b → AllFit es
fits-logs sheet [] a b logs = tt
fits-logs sheet (e ∷ es) a b (run, tells, logs) = (
  record { caller = tells.named.0; call = tells.named.1; reply = tells.fits },
  fits-logs sheet es (account_after_entry sheet a e run) b logs,
)

-- a reply that was logged stays
kept-logs : (sheet : Sheet) (es : List Entry) (a b : Account) (name : CallName) (call : Call) (reply : Reply)
    → LogsTo sheet a es b → call_named a name ≡ Some call → call.reply ≡ Some reply → call_named b name ≡ Some call
kept-logs sheet [] a b name call reply same is replied = subst (λ (c : Account). call_named c name ≡ Some call) same is
kept-logs sheet (e ∷ es) a b name call reply (run, tells, logs) is replied =
    kept-logs sheet es (account_after_entry sheet a e run) b name call reply logs (entry-other sheet a e run name other ∙ is) replied
  where
    other : name ≢ name_of e
    other same =
        let old : call_named a name ≡ Some (call_with e None) = subst (λ (n : CallName). call_named a n ≡ Some (call_with e None)) (sym same) tells.call in
        let replies : call.reply ≡ None = ap (λ (c : Call). c.reply) (some_same call (call_with e None) (sym is ∙ old)) in
        cc (sym replied ∙ replies)

pub get-append : {A : Type 0} (xs ys : List A) (i : ℕ) (y : A) → slice_get ys i ≡ Some y → slice_get (xs ++ ys) (length xs + i) ≡ Some y
get-append [] ys i y is = let e : 0 + i ≡ i = omega arith in rw e is
get-append (x ∷ xs) ys i y is = let e : suc (length xs) + i ≡ suc (length xs + i) = omega arith in rw e (get-append xs ys i y is)

pub contains-get : {A : Type 0} (xs : List A) (i : ℕ) (x : A) → slice_get xs i ≡ Some x → Contains xs x
contains-get xs i x is = (i, get-within xs i x is, index-get xs i x is)
  where
    index-get : {A : Type 0} (xs : List A) (i : ℕ) (x : A) → slice_get xs i ≡ Some x → slice_index_or xs i x ≡ x
    index-get [] i x is = cc is
    index-get (y ∷ xs) zero x is = cc is
    index-get (y ∷ xs) (suc i) x is = index-get xs i x is

-- the call of an entry that a turn logged
among-call : (b : Account) (before : List Turn) (t : Turn) (name : CallName) (reply : Reply) → StandsFor b (before ++ t ∷ []) → IsAmong t.logged name reply
    → (e : Entry) × (name_of e ≡ name) × (e.reply ≡ reply) × Contains t.logged e × (call_named b name ≡ Some (call_with e (Some reply)))
among-call b before t name reply s among =
    let e : Entry = among.entry in
    let place = get-append (log_of before) t.logged among.i e among.there in
    let logged = s.logged (length (log_of before) + among.i) e (rw (log-push before t) place) in (
      e,
      among.name_is,
      among.reply_is,
      contains-get t.logged among.i e among.there,
      subst (λ (n : CallName). call_named b n ≡ Some (call_with e (Some reply))) among.name_is (rw among.reply_is at logged),
    )

-- a call that was logged with a reply is logged since its ask
since-call : (b : Account) (before : List Turn) (t : Turn) (name : CallName) (call : Call) (reply : Reply)
    → StandsFor b (before ++ t ∷ []) → call_named b name ≡ Some call → call.reply ≡ Some reply
    → LoggedSince before t name reply
since-call b before t name call reply s is replied =
    let by = s.asked name call is in
    let ask = head-ask (before ++ t ∷ []) by.j by.head name call.op by.ask in
    let behind = by.logged reply replied in
    let start = ask.3 in
    record { op = call.op; j = by.j; ask = ask.0; asked = ask.1; place = behind.0; entry = behind.1; since = subst (λ (n : ℕ). n ≤ behind.0) start behind.2 }

pub get-contains : {A : Type 0} (xs : List A) (x : A) → Contains xs x → (i : ℕ) × (slice_get xs i ≡ Some x)
get-contains [] x (k, below, is) = absurd (omega (arith, below))
get-contains (y ∷ xs) x (zero, below, is) = (0, ap (λ (z : _). Some z) is)
get-contains (y ∷ xs) x (suc k, below, is) = let rest = get-contains xs x (k, omega (arith, below), is) in (suc rest.0, rest.1)

asks-le : (caller : ℕ) (turns : List Turn) → asks_of caller turns ≤ length turns
asks-le caller [] = omega arith
asks-le caller (t ∷ turns) = let e = asks-le caller turns in let one = asks-one caller t.event in omega (arith, e, one)
  where
    asks-one : (caller : ℕ) (event : Event) → asks_in caller event ≤ 1
    asks-one caller (happens.Ask who op p) = grind (arith, nat_tests)
    asks-one caller event = omega arith

-- the call of a reply that is there
pub record Replied (b : Account) (name : CallName) (reply : Reply) : Type 0 where
  pub call : Call
  pub is : call_named b name ≡ Some call
  pub replied : call.reply ≡ Some reply

there-call : (sheet : Sheet) (a b : Account) (before : List Turn) (t : Turn) (name : CallName) (reply : Reply)
    (rest : List (List ℕ)) → LogsTo sheet a t.logged b → StandsFor b (before ++ t ∷ [])
    → name.caller < callers → name.call < 2 ^ 64 → FitsReply reply → NoEntry rest
    → IsEntryThere (logged_reply a name) name reply (map entry_text t.logged ++ rest) → Replied b name reply
there-call sheet a b before t name reply rest logs s fc fn fr plain there = by (call_named a name) refl there
  where
    ahead : IsEntryThere None name reply (map entry_text t.logged ++ rest) → Replied b name reply
    ahead found =
        let among = ahead_is t.logged rest name reply (fits-logs sheet t.logged a b logs) fc fn fr plain found in
        let all = among-call b before t name reply s among in
        record { call = call_with all.0 (Some reply); is = all.4; replied = refl }

    replied : (call : Call) → call_named a name ≡ Some call → (r : Option Reply) → call.reply ≡ r
        → IsEntryThere r name reply (map entry_text t.logged ++ rest) → Replied b name reply
    replied call is (Some logged) has same =
        record {
          call = call;
          is = kept-logs sheet t.logged a b name call logged logs is has;
          replied = has
              ∙ ap (λ (r : Reply). Some r) same;
        }
    replied call is None has found = ahead found

    by : (o : Option Call) → call_named a name ≡ o → IsEntryThere (option_and_then (λ call. call.reply) o) name reply
        (map entry_text t.logged ++ rest) → Replied b name reply
    by (Some call) is there' = replied call is call.reply refl there'
    by None is found = ahead found

pub turn-right : (sheet : Sheet) (a : Account) (t : Turn) (next : Account) (before : List Turn) → IsEventInRange t.event
    → length before < 2 ^ 64 → StandsFor a before → MadeBy sheet a t.event t next → TurnRight before t
turn-right sheet a t next before fits few s by = record {
  asked = λ e within.
      let at = get-contains t.logged e within in
      let place = get-append (log_of before) t.logged at.0 e at.1 in
      let logged = stands.logged (length (log_of before) + at.0) e (rw (log-push before t) place) in
      let asked = stands.asked (name_of e) (call_with e (Some e.reply)) logged in
      let ask = head-ask (before ++ t ∷ []) asked.j asked.head (name_of e) e.op asked.ask in
      (asked.j, ask.0, ask.1);
  at_once = λ name op p reply event_is place answer_is.
      let right : IsAnswerRight a (happens.Ask name.caller op p) (answered.Reply reply) (map entry_text t.logged ++ by.rest) =
      subst (λ (x : Answer). IsAnswerRight a (happens.Ask name.caller op p) x (map entry_text t.logged ++ by.rest)) answer_is
      (subst (λ (x : Event). IsAnswerRight a x t.answer (map entry_text t.logged ++ by.rest)) event_is by.right) in
      let many : length (at [] a.calls name.caller) ≡ name.call = s.many name.caller ∙ asks-heads name.caller 0 before ∙ place in
      let next_is : next_call_name a name.caller ≡ name =
      (let eq : record { caller = name.caller; call = length (at [] a.calls name.caller) }
      ≡ record { caller = name.caller; call = name.call } = cc many in eq) in
      let found = subst (λ (n : CallName). LogsAhead (entry_front n) (reply_words reply) (map entry_text t.logged ++ by.rest)) next_is right in
      let below = asks-le name.caller before in
      let among = ahead_is t.logged by.rest name reply (fits-logs sheet t.logged (after_answer a t.event t.answer) next
      by.logs) (subst IsEventInRange event_is fits) (omega (arith, few, place, below)) (subst FitsAnswer answer_is by.fits)
      by.plain found in
      let all = among-call next before t name reply stands among in
      let last : take (length before) (before ++ t ∷ []) ≡ before = take-push before t (length before) (omega arith)
      ∙ take_all (length before) before (omega arith) in
      let ask : IsAsk (before ++ t ∷ []) (length before) t name op = record { there = get-last before t; at = p; event = event_is; place = rw last place } in
      let head = ask-head (before ++ t ∷ []) (length before) t name op ask in
      let called = stands.called (length before) head.0 name op head.1 in
      let same : call_with all.0 (Some reply) ≡ called.call = some_same (call_with all.0 (Some reply)) called.call (sym all.4 ∙ called.is) in
      let op_is : all.0.op ≡ op = ap (λ (c : Call). c.op) same ∙ called.op_is in
      subst (Contains t.logged) (entry-is all.0 name op reply all.1 op_is all.2) all.3;
  later = λ name reply fetches answer_is. later name reply t.event refl fetches answer_is;
}
  where
    stands : StandsFor next (before ++ t ∷ [])
    stands = stands-turn sheet a t.event t.answer t.logged next before s by.logs

    entry-is : (e : Entry) (name : CallName) (op : Asked) (reply : Reply) → name_of e ≡ name → e.op ≡ op → e.reply ≡ reply → e ≡ call_entry name op reply
    entry-is e name op reply n o r =
        let caller = ap (λ (x : CallName). x.caller) n in
        let call = ap (λ (x : CallName). x.call) n in
        let eq : record { caller = e.caller; call = e.call; op = e.op; reply = e.reply } ≡ call_entry name op reply = cc (caller, call, o, r) in
        eq

    answer-right : (event : Event) (reply : Reply) → t.event ≡ event → t.answer ≡ answered.Reply reply
        → IsReplyTo a event reply (map entry_text t.logged ++ by.rest)
    answer-right event reply event_is answer_is =
        subst (λ (x : Answer). IsAnswerRight a event x (map entry_text t.logged ++ by.rest)) answer_is
        (subst (λ (x : Event). IsAnswerRight a x t.answer (map entry_text t.logged ++ by.rest)) event_is by.right)

    there : (name : CallName) (reply : Reply) → after_answer a t.event t.answer ≡ a → t.answer ≡ answered.Reply reply
        → name.caller < callers → name.call < 2 ^ 64
        → IsEntryThere (logged_reply a name) name reply (map entry_text t.logged ++ by.rest) → LoggedSince before t name reply
    there name reply same answer_is fc fn found =
        let r = there-call sheet a next before t name reply by.rest
        (subst (λ (x : Account). LogsTo sheet x t.logged next) same by.logs) stands fc fn
        (subst FitsAnswer answer_is by.fits) by.plain found in
        since-call next before t name r.call reply stands r.is r.replied

    later : (name : CallName) (reply : Reply) (event : Event) → t.event ≡ event → Fetches event name
        → t.answer ≡ answered.Reply reply → LoggedSince before t name reply
    later name reply (happens.Collect caller call p) is (c, k) answer_is =
        let same : record { caller = caller; call = call } ≡ record { caller = name.caller; call = name.call } = cc (c, k) in
        let f = subst IsEventInRange is fits in
        subst (λ (n : CallName). LoggedSince before t n reply) same
        (there (record { caller = caller; call = call }) reply (ap (λ (e : Event). after_answer a e t.answer) is)
        answer_is f.0 f.1 (answer-right (happens.Collect caller call p) reply is answer_is))
    later name reply (happens.Trace caller call d p) is (c, k) answer_is =
        let same : record { caller = caller; call = call } ≡ record { caller = name.caller; call = name.call } = cc (c, k) in
        let f = subst IsEventInRange is fits in
        subst (λ (n : CallName). LoggedSince before t n reply) same
        (there (record { caller = caller; call = call }) reply (ap (λ (e : Event). after_answer a e t.answer) is)
        answer_is f.0 f.1 (answer-right (happens.Trace caller call d p) reply is answer_is))
    later name reply e is fetches answer_is = absurd fetches
