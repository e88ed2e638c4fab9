-- A turn of a checked transcript passes: its answer is right, and its entries follow.
use Rattle.std.proofs.Common.{◌≡◌, ◌⊎◌, inl, inr, ◌<◌, ◌≤◌, ◌+◌, ◌^◌, ℕ, zero, suc, List, [], ◌∷◌, ◌++◌, ◌∙◌, map, take}
use Rattle.std.proofs.Common.{length, slice_get, Option, Some, None, option_and_then, append_assoc, refl, sym, ap}
use Rattle.std.proofs.Common.{subst, arith}
use Rattle.std.proofs.lemmas.List.{append-nil, length-append}
use Rattle.std.specs.Prelude.{Contains}
use Rattle.group_types.specs.Dimensions.{callers}
use Rattle.group_types.specs.declared.process.ProcessId.{ProcessId}
use Rattle.group_types.specs.declared.run.Run.{Run}
use Rattle.memc_table.specs.Asked.{Asked}
use Rattle.memc_table.specs.declared.reply.Reply.{Reply}
use Rattle.group_calls.specs.Turns.{CallName, Turn, accepts, asks_of, call_entry, log_of, name_of}
use Rattle.group_calls.specs.Within.{Fetches, IsAsk, IsLoggedSince}
use Rattle.group_calls.specs.declared.entry.Entry.{Entry}
use Rattle.group_calls.specs.declared.event.Answer.{Answer}
use Rattle.group_calls.specs.declared.event.Answer.TheVariants as answered
use Rattle.group_calls.specs.declared.event.Event.{Event}
use Rattle.group_calls.specs.declared.event.Event.TheVariants as happens
use Rattle.scenario_text.specs.Texts.{entry_text, reply_words}
use Rattle.transcript_text.specs.Forms.{MayAnswer, kind_of_event}
use Rattle.run_verify.specs.Passing.{Account, IsAnswerRight, IsEntryThere, IsReplyTo, IsToldRun, JudgingState, LogsAhead, MayLog, PassAll}
use Rattle.run_verify.specs.Passing.{LineTellsEntry, account_after_entry, after_answer, call_named, entry_front, logged_reply, next_call_name}
use Rattle.run_verify.specs.Passing.{with_account}
use Rattle.run_verify.specs.Sheet.{Sheet}
use Rattle.run_verify.specs.declared.call.Call.{Call}
use Rattle.run_verify.proofs.ExactAhead.{AreNamedApart, logs-ahead}
use Rattle.run_verify.proofs.ExactEntries.{Checks, FitsAsk, Now, entry_passes, get-front}
use Rattle.run_verify.proofs.ImpliedAccount.{Stands}
use Rattle.run_verify.proofs.ImpliedAhead.{AllFit}
use Rattle.run_verify.proofs.ImpliedHeads.{Head, ask-head, asks-heads, get-within, heads_of, heads-push}
use Rattle.run_verify.proofs.ImpliedStands.{stands-event}
use Rattle.run_verify.proofs.ImpliedTurn.{contains-get, get-append, get-contains, log-push}
use Rattle.run_verify.proofs.ImpliedShadow.{log-append}

-- entries pass one after the other
abbrev pub LogsGo : Sheet → Account → List Entry → Account → Type 0
LogsGo sheet a [] b = a ≡ b
LogsGo sheet a (e ∷ es) b = (run : Option Run) × LineTellsEntry a (entry_text e) e × IsToldRun (accepts e.reply) sheet a e
    run × LogsGo sheet (account_after_entry sheet a e run) es b

pub go-append : (sheet : Sheet) (es fs : List Entry) (a b c : Account) → LogsGo sheet a es b → LogsGo sheet b fs c → LogsGo sheet a (es ++ fs) c
go-append sheet [] fs a b c same go = subst (λ (x : Account). LogsGo sheet x fs c) (sym same) go
go-append sheet (e ∷ es) fs a b c (run, tells, told, rest) go = (run, tells, told, go-append sheet es fs (account_after_entry sheet a e run) b c rest go)

-- so do their lines
pub logs-pass : (sheet : Sheet) (es : List Entry) (s : JudgingState) (b final : Account) (rest : List (List ℕ)) → MayLog s
    → LogsGo sheet s.account es b → PassAll sheet (with_account s b) rest final
    → PassAll sheet s (map entry_text es ++ rest) final
logs-pass sheet [] s b final rest may same passes = subst (λ (x : Account). PassAll sheet (with_account s x) rest final) (sym same) passes
logs-pass sheet (e ∷ es) s b final rest may (run, tells, told, go) passes = (
  with_account s (account_after_entry sheet s.account e run),
  (may, e, run, tells, told, refl),
  logs-pass sheet es (with_account s (account_after_entry sheet s.account e run)) b final rest may go passes,
)

pub fits-go : (sheet : Sheet) (es : List Entry) (a b : Account) → LogsGo sheet a es b → AllFit es
fits-go sheet [] a b go = tt
fits-go sheet (e ∷ es) a b (run, tells, told, go) = (
  record { caller = tells.named.0; call = tells.named.1; reply = tells.fits },
  fits-go sheet es (account_after_entry sheet a e run) b go,
)

take-front : {A : Type 0} (xs ys : List A) → take (length xs) (xs ++ ys) ≡ xs
take-front [] ys = refl
take-front (x ∷ xs) ys = ap (λ (zs : List _). x ∷ zs) (take-front xs ys)

take-both : {A : Type 0} (xs ys : List A) (j : ℕ) → j ≤ length xs → take j (xs ++ ys) ≡ take j xs
take-both xs ys zero below = refl
take-both [] ys (suc j) below = absurd (omega (arith, below))
take-both (x ∷ xs) ys (suc j) below = ap (λ (zs : List _). x ∷ zs) (take-both xs ys j (omega (arith, below)))

get-both : {A : Type 0} (xs ys : List A) (j : ℕ) (x : A) → j < length xs → slice_get (xs ++ ys) j ≡ Some x → slice_get xs j ≡ Some x
get-both [] ys j x below is = absurd (omega (arith, below))
get-both (z ∷ xs) ys zero x below is = is
get-both (z ∷ xs) ys (suc j) x below is = get-both xs ys j x (omega (arith, below)) is

contains-middle : {A : Type 0} (xs ys : List A) (x : A) → Contains (xs ++ x ∷ ys) x
contains-middle xs ys x = contains-get (xs ++ x ∷ ys) (length xs + 0) x (get-append xs (x ∷ ys) 0 x refl)

-- where an element of two lists stands
get-parts : {A : Type 0} (xs ys : List A) (i : ℕ) (x : A) → slice_get (xs ++ ys) i ≡ Some x → (slice_get xs i ≡ Some x) ⊎ ((j : ℕ) × (slice_get ys j ≡ Some x))
get-parts [] ys i x is = inr (i, is)
get-parts (z ∷ xs) ys zero x is = inl is
get-parts (z ∷ xs) ys (suc i) x is = get-parts xs ys i x is

module _ (sheet : Sheet) (turns : List Turn) (runs : List (List (Option Run))) (c : Checks sheet turns runs)
    (before : List Turn) (t : Turn) (after : List Turn) (turns_are : turns ≡ before ++ t ∷ after) where
  abbrev hs : List Head
  hs = heads_of 0 (before ++ t ∷ [])

  turn-there : slice_get turns (length before) ≡ Some t
  turn-there = rw turns_are (let last : length before + 0 ≡ length before = omega arith in
      subst (λ (n : ℕ). slice_get (before ++ t ∷ after) n ≡ Some t) last (get-append before (t ∷ after) 0 t refl))

  turns-assoc : turns ≡ (before ++ t ∷ []) ++ after
  turns-assoc = turns_are ∙ sym (append_assoc before (t ∷ []) after)

  log-parts : log_of turns ≡ log_of before ++ (t.logged ++ log_of after)
  log-parts = ap log_of turns_are ∙ log-append before (t ∷ after)

  -- an ask up to this turn is one among the turns up to it
  ask-within : (j : ℕ) (ask : Turn) (name : CallName) (op : Asked) → j ≤ length before → IsAsk turns j ask name op → IsAsk (before ++ t ∷ []) j ask name op
  ask-within j ask name op below is =
      let many : length (before ++ t ∷ []) ≡ length before + 1 = length-append before (t ∷ []) in
      let inside : j < length (before ++ t ∷ []) = omega (arith, below, many) in
      record {
        there = get-both (before ++ t ∷ []) after j ask inside (subst (λ (ts : List Turn). slice_get ts j ≡ Some ask) turns-assoc is.there);
        at = is.at;
        event = is.event;
        place = ap (asks_of name.caller) (sym (ap (take j) turns-assoc ∙ take-both (before ++ t ∷ []) after j (omega (arith, inside)))) ∙ is.place;
      }

  entry-passes : (done more : List Entry) (e : Entry) (a : Account) → t.logged ≡ done ++ e ∷ more → Now sheet runs a hs (log_of before ++ done)
      → (run : Option Run) × LineTellsEntry a (entry_text e) e × IsToldRun (accepts e.reply) sheet a e run
      × Now sheet runs (account_after_entry sheet a e run) hs ((log_of before ++ done) ++ e ∷ [])
  entry-passes done more e a logged now =
      let inside : Contains t.logged e = subst (λ (es : List Entry). Contains es e) (sym logged) (contains-middle done more e) in
      let asked = c.within.asked (length before) t e turn-there inside in
      let head = ask-head (before ++ t ∷ []) asked.0 asked.1 (name_of e) e.op (ask-within asked.0 asked.1 (name_of e) e.op asked.2 asked.3) in
      let log_is : log_of turns ≡ (log_of before ++ done) ++ e ∷ (more ++ log_of after) =
      log-parts ∙ ap (λ (es : List Entry). log_of before ++ (es ++ log_of after)) logged
      ∙ ap (λ (es : List Entry). log_of before ++ es) (append_assoc done (e ∷ more) (log_of after))
      ∙ sym (append_assoc (log_of before) done (e ∷ (more ++ log_of after))) in
      entry_passes sheet turns runs c (log_of before ++ done) (more ++ log_of after) e log_is hs a now asked.0 asked.1 asked.3 head.0 head.1 head.2

  -- the entries pass
  pub logs_go : (more done : List Entry) (a : Account) → t.logged ≡ done ++ more
      → Now sheet runs a hs (log_of before ++ done) → (b : Account) × LogsGo sheet a more b
      × Now sheet runs b hs (log_of before ++ t.logged)
  logs_go [] done a logged now = (a, refl, subst (λ (es : List Entry). Now sheet runs a hs (log_of before ++ es)) (sym (logged ∙ append-nil done)) now)
  logs_go (e ∷ more) done a logged now =
      let one = entry-passes done more e a logged now in
      let rest = logs_go more (done ++ e ∷ []) (account_after_entry sheet a e one.0) (logged ∙ sym (append_assoc done (e ∷ []) more))
      (subst (λ (es : List Entry). Now sheet runs (account_after_entry sheet a e one.0) hs es) (append_assoc (log_of before) done (e ∷ [])) one.3) in
      (rest.0, (one.0, one.1, one.2, rest.1), rest.2)

  -- ---- the answer

  named-apart : AreNamedApart t.logged
  named-apart i j d e less at_i at_j = c.within.once (length (log_of before) + i) (length (log_of before) + j) d e
      (omega (arith, less)) (there i d at_i) (there j e at_j)
    where
      there : (i : ℕ) (x : Entry) → slice_get t.logged i ≡ Some x → slice_get (log_of turns) (length (log_of before) + i) ≡ Some x
      there i x is = rw log-parts (get-append (log_of before) (t.logged ++ log_of after) i x (get-front t.logged (log_of after) i x is))

  module _ (a : Account) (now : Now sheet runs a (heads_of 0 before) (log_of before)) (fit : AllFit t.logged) (rest : List (List ℕ)) where
    abbrev ahead : List (List ℕ)
    ahead = map entry_text t.logged ++ rest

    -- an entry that this turn logged is found ahead
    found-ahead : (i : ℕ) (name : CallName) (op : Asked) (reply : Reply)
        → slice_get t.logged i ≡ Some (call_entry name op reply) → name.caller < callers → name.call < 2 ^ 64
        → LogsAhead (entry_front name) (reply_words reply) ahead
    found-ahead i name op reply is fc fn = logs-ahead t.logged rest i (call_entry name op reply) fit named-apart fc fn is

    at-once : (caller : ℕ) (op : Asked) (p : ProcessId) (reply : Reply) → t.event ≡ happens.Ask caller op p
        → t.answer ≡ answered.Reply reply → LogsAhead (entry_front (next_call_name a caller)) (reply_words reply) ahead
    at-once caller op p reply event answer =
        let name : CallName = next_call_name a caller in
        let front = ap (take (length before)) turns_are ∙ take-front before (t ∷ after) in
        let ask : IsAsk turns (length before) t name op =
        record {
          there = turn-there;
          at = p;
          event = event;
          place = ap (asks_of caller) front
              ∙ sym (asks-heads caller 0 before) ∙ sym (now.stands.many caller);
        } in
        let entry = get-contains t.logged (call_entry name op reply) (c.within.at_once (length before) t name op reply ask answer) in
        let fits : FitsAsk (happens.Ask caller op p) = subst FitsAsk event (c.fits (length before) t turn-there) in
        found-ahead entry.0 name op reply entry.1 fits.0 (c.few caller (length before) t name op ask)

    -- the log up to this turn
    log-next : log_of (take (length before + 1) turns) ≡ log_of before ++ t.logged
    log-next =
        let many : length (before ++ t ∷ []) ≡ length before + 1 = length-append before (t ∷ []) in
        ap (λ (n : ℕ). log_of (take n turns)) (sym many)
        ∙ ap (λ (ts : List Turn). log_of (take (length (before ++ t ∷ [])) ts)) turns-assoc
        ∙ ap log_of (take-front (before ++ t ∷ []) after) ∙ log-push before t

    later : (name : CallName) (reply : Reply) → Fetches t.event name → t.answer ≡ answered.Reply reply
        → name.caller < callers → name.call < 2 ^ 64 → IsEntryThere (logged_reply a name) name reply ahead
    later name reply fetches answer fc fn =
        by (get-parts (log_of before) t.logged since.place (call_entry name since.op reply)
        (subst (λ (es : List Entry). slice_get es since.place ≡ Some (call_entry name since.op reply)) log-next
        since.entry))
      where
        since : IsLoggedSince turns (length before) name reply
        since = c.within.later (length before) t name reply turn-there fetches answer

        -- it was logged before, or isn't logged yet
        not-yet : (j : ℕ) → slice_get t.logged j ≡ Some (call_entry name since.op reply) → (o : Option Call)
            → call_named a name ≡ o → IsEntryThere (option_and_then (λ call. call.reply) o) name reply ahead
        not-yet j there None is = found-ahead j name since.op reply there fc fn
        not-yet j there (Some call) is = replies call.reply refl
          where
            replies : (r : Option Reply) → call.reply ≡ r → IsEntryThere r name reply ahead
            replies None none = found-ahead j name since.op reply there fc fn
            replies (Some logged) some =
                let behind = (now.stands.asked name call is).logged logged some in
                let inside = get-within (log_of before) behind.0 (call_entry name call.op logged) behind.1 in
                let first : slice_get (log_of turns) behind.0 ≡ Some (call_entry name call.op logged) =
                rw log-parts (get-front (log_of before) (t.logged ++ log_of after) behind.0 _ behind.1) in
                let second : slice_get (log_of turns) (length (log_of before) + j)
                ≡ Some (call_entry name since.op reply) =
                rw log-parts (get-append (log_of before) (t.logged ++ log_of after) j _
                (get-front t.logged (log_of after) j _ there)) in
                absurd (c.within.once behind.0 (length (log_of before) + j) (call_entry name call.op logged)
                (call_entry name since.op reply) (omega (arith, inside)) first second refl)

        by : (slice_get (log_of before) since.place ≡ Some (call_entry name since.op reply))
            ⊎ ((j : ℕ) × (slice_get t.logged j ≡ Some (call_entry name since.op reply)))
            → IsEntryThere (logged_reply a name) name reply ahead
        by (inl before_is) =
            let logged = now.stands.logged since.place (call_entry name since.op reply) before_is in
            let reply_is : logged_reply a name ≡ Some reply = ap (λ (o : Option Call). option_and_then (λ call. call.reply) o) logged in
            rw reply_is refl
        by (inr (j, there)) = not-yet j there (call_named a name) refl

    reply-right : (event : Event) (reply : Reply) → t.event ≡ event → t.answer ≡ answered.Reply reply
        → MayAnswer (kind_of_event event) (answered.Reply reply) → IsReplyTo a event reply ahead
    reply-right (happens.Ask caller op p) reply event answer may = at-once caller op p reply event answer
    reply-right (happens.Collect caller call p) reply event answer may =
        let fits : FitsAsk (happens.Collect caller call p) = subst FitsAsk event (c.fits (length before) t turn-there) in
        later (record { caller = caller; call = call }) reply
        (subst (λ (e : Event). Fetches e (record { caller = caller; call = call })) (sym event) (refl, refl)) answer
        fits.0 fits.1
    reply-right (happens.Trace caller call d p) reply event answer may =
        let fits : FitsAsk (happens.Trace caller call d p) = subst FitsAsk event (c.fits (length before) t turn-there) in
        later (record { caller = caller; call = call }) reply
        (subst (λ (e : Event). Fetches e (record { caller = caller; call = call })) (sym event) (refl, refl)) answer
        fits.0 fits.1
    reply-right e reply event answer may = cc may

    pub answer_right : (event : Event) (answer : Answer) → t.event ≡ event → t.answer ≡ answer → MayAnswer (kind_of_event event) answer
        → IsAnswerRight a event answer ahead
    answer_right event (answered.Reply reply) event_is answer_is may = reply-right event reply event_is answer_is may
    answer_right event answer event_is answer_is may = tt

  -- behind the answer
  answered-for : (a : Account) (event : Event) (answer : Answer) (gs : List Head)
      → Now sheet runs a (heads_of 0 before) (log_of before) → Stands (after_answer a event answer) gs (log_of before)
      → Now sheet runs (after_answer a event answer) gs (log_of before)
  answered-for a (happens.Ask caller op p) answer gs now stands =
      record { stands = stands; table = now.table; changes = now.changes; fits = now.fits; placed = now.placed }
  answered-for a (happens.Collect caller call p) answer gs now stands =
      record { stands = stands; table = now.table; changes = now.changes; fits = now.fits; placed = now.placed }
  answered-for a (happens.Deliver from to) answer gs now stands =
      record { stands = stands; table = now.table; changes = now.changes; fits = now.fits; placed = now.placed }
  answered-for a (happens.Fail p keep) answer gs now stands =
      record { stands = stands; table = now.table; changes = now.changes; fits = now.fits; placed = now.placed }
  answered-for a (happens.Flush p) answer gs now stands =
      record { stands = stands; table = now.table; changes = now.changes; fits = now.fits; placed = now.placed }
  answered-for a (happens.Trace caller call d p) answer gs now stands =
      record { stands = stands; table = now.table; changes = now.changes; fits = now.fits; placed = now.placed }

  pub now_answered : (a : Account) → Now sheet runs a (heads_of 0 before) (log_of before)
      → Now sheet runs (after_answer a t.event t.answer) hs (log_of before ++ [])
  now_answered a now =
      let start : 0 + length (log_of before) ≡ length (log_of before) = omega arith in
      let heads = rw start at (heads-push 0 before t) in
      let stands = stands-event a (heads_of 0 before) (log_of before) t.event t.answer now.stands in
      rw (append-nil (log_of before))
      (answered-for a t.event t.answer hs now
      (subst (λ (gs : List Head). Stands (after_answer a t.event t.answer) gs (log_of before)) (sym heads) stands))
