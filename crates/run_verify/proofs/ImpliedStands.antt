-- The account keeps saying what it says of the turns, behind each answer and each entry.
use Rattle.std.proofs.Common.{◌≡◌, ◌≢◌, ◌⊎◌, inl, inr, ◌≤◌, ℕ, List, [], ◌∷◌, ◌++◌, ◌∙◌, length, slice_get, Option, Some, None, refl, sym, ap, subst, arith}
use Rattle.std.proofs.lemmas.Bool.Decides.{nat_tests}
use Rattle.std.proofs.lemmas.List.{length-append, take_all}
use Rattle.group_types.proofs.Lists.{at-replicate}
use Rattle.group_types.specs.Dimensions.{callers}
use Rattle.group_types.specs.declared.process.ProcessId.{ProcessId}
use Rattle.group_types.specs.declared.run.Run.{Run}
use Rattle.memc_table.specs.Asked.{Asked}
use Rattle.memc_table.specs.declared.reply.Reply.{Reply}
use Rattle.group_calls.specs.Turns.{CallName, asks_in, call_entry, name_of}
use Rattle.group_calls.specs.declared.entry.Entry.{Entry}
use Rattle.group_calls.specs.declared.event.Answer.{Answer}
use Rattle.group_calls.specs.declared.event.Event.{Event}
use Rattle.group_calls.specs.declared.event.Event.TheVariants as happens
use Rattle.run_verify.specs.Passing.{Account, LineTellsEntry, account_after_entry, after_answer, call_named, first_account, takes_effect}
use Rattle.run_verify.specs.Sheet.{Sheet}
use Rattle.run_verify.specs.declared.call.Call.{Call}
use Rattle.run_verify.proofs.ImpliedHeads.{Head, IsAsked, asked-push, asks-push, asks_by, get-cases, get-last, get-push, get-within, take-push}
use Rattle.run_verify.proofs.ImpliedAccount.{AskedBy, LoggedBehind, Stands, call-cases, call-kept, call-new, call_with}
use Rattle.run_verify.proofs.ImpliedAccount.{entry-other, entry-there, many-call, many-entry, same_name}

no_call : (name : CallName) (call : Call) → call_named (first_account 0) name ≢ Some call
no_call name call is = cc (sym (ap (λ (calls : List Call). slice_get calls name.call) (at-replicate [] callers name.caller)) ∙ is)

-- at first nothing is asked
pub stands-first : (k : ℕ) → Stands (first_account k) [] []
stands-first k = record {
  many = λ c. rw (at-replicate {X = List Call} [] callers c) refl;
  starts = λ j h is. cc is;
  asked = λ name call is. absurd (no_call name call is);
  called = λ j h name op ask. absurd (let e = ask.there in cc e);
  logged = λ i e is. cc is;
  once = λ i j d e less is. cc is;
}

-- a head more
abbrev head : Event → Answer → List Entry → Head
head event answer log = record { event = event; answer = answer; start = length log }

starts-more : (hs : List Head) (event : Event) (answer : Answer) (log : List Entry) → ((j : ℕ) (h : Head) → slice_get hs j ≡ Some h → h.start ≤ length log)
    → (j : ℕ) (h : Head) → slice_get (hs ++ head event answer log ∷ []) j ≡ Some h → h.start ≤ length log
starts-more hs event answer log starts j h is = elim (get-cases hs (head event answer log) j h is) [
  | inl before ↦ starts j h before
  | inr last ↦ rw (ap (λ (x : Head). x.start) last.1) (omega arith)
]

asked-more : (hs : List Head) (g : Head) (log : List Entry) (name : CallName) (call : Call) → AskedBy hs log name call → AskedBy (hs ++ g ∷ []) log name call
asked-more hs g log name call by =
    record {
      j = by.j;
      head = by.head;
      ask = asked-push hs g by.j by.head name call.op by.ask;
      taken = by.taken;
      logged = by.logged;
    }

-- an ask among one head more is one of those before, or the last
asked-cases : (hs : List Head) (g : Head) (j : ℕ) (h : Head) (name : CallName) (op : Asked) → IsAsked (hs ++ g ∷ []) j h name op
    → IsAsked hs j h name op ⊎ ((h ≡ g) × (asks_by name.caller hs ≡ name.call))
asked-cases hs g j h name op ask = elim (get-cases hs g j h ask.there) [
  | inl before ↦ inl
      (record {
        there = before;
        at = ask.at;
        event = ask.event;
        place = let within = get-within hs j h before in
            sym (ap (λ (xs : List Head). asks_by name.caller xs) (take-push hs g j (omega (arith, within)))) ∙ ask.place;
      })
  | inr last ↦
      let over = last.0 in
      inr (
        last.1,
        sym (ap (λ (xs : List Head). asks_by name.caller xs) (take-push hs g j (omega (arith, over))
            ∙ take_all j hs (omega (arith, over)))) ∙ ask.place,
      )
]

-- an event that is no ask
abbrev IsNoAsk : Event → Type 0
IsNoAsk event = (caller : ℕ) → asks_in caller event ≡ 0

stands-other : (a : Account) (hs : List Head) (log : List Entry) (event : Event) (answer : Answer) → IsNoAsk event
    → Stands a hs log → Stands a (hs ++ head event answer log ∷ []) log
stands-other a hs log event answer none s = record {
  many = λ c. s.many c ∙ (let e = asks-push c hs (head event answer log) in let z = none c in omega (arith, e, z));
  starts = starts-more hs event answer log s.starts;
  asked = λ name call is. asked-more hs (head event answer log) log name call (s.asked name call is);
  called = λ j h name op ask. elim (asked-cases hs (head event answer log) j h name op ask) [
    | inl before ↦ s.called j h name op before
    | inr last ↦ absurd (no_ask name (sym (ap (λ (x : Head). x.event) last.0) ∙ ask.event) (none name.caller))
  ];
  logged = s.logged;
  once = s.once;
}
  where
    no_ask : (name : CallName) {op : Asked} {at : ProcessId} → event ≡ happens.Ask name.caller op at → asks_in name.caller event ≢ 0
    no_ask name is zero_is = absurd (let e = sym (ap (λ (x : Event). asks_in name.caller x) is) ∙ zero_is in grind (arith, nat_tests, e))

stands-ask : (a : Account) (hs : List Head) (log : List Entry) (caller : ℕ) (op : Asked) (p : ProcessId) (answer : Answer) → Stands a hs log
    → Stands (after_answer a (happens.Ask caller op p) answer) (hs ++ head (happens.Ask caller op p) answer log ∷ []) log
stands-ask a hs log caller op p answer s = record {
  many = λ c. many-call a caller new c ∙ (let m = s.many c in let e = asks-push c hs g in omega (arith, m, e));
  starts = starts-more hs (happens.Ask caller op p) answer log s.starts;
  asked = λ name call is. elim (call-cases a caller new name call is) [
    | inl before ↦ asked-more hs g log name call (s.asked name call before)
    | inr (same, last, new_is) ↦ subst (AskedBy (hs ++ g ∷ []) log name) (sym new_is) (record {
      j = length hs;
      head = g;
      ask = record {
        there = get-last hs g;
        at = p;
        event = rw same refl;
        place = rw (take-push hs g (length hs) (omega arith))
            (rw (take_all (length hs) hs (omega arith)) (sym (s.many name.caller) ∙ rw same (sym last)));
      };
      taken = refl;
      logged = λ reply none. cc none;
    })
  ];
  called = λ j h name other ask. elim (asked-cases hs g j h name other ask) [
    | inl before ↦ let c = s.called j h name other before in
        record { call = c.call; is = call-kept a caller new name c.call c.is; op_is = c.op_is; taken = c.taken }
    | inr (last, place) ↦
        let event : happens.Ask caller op p ≡ happens.Ask name.caller other ask.at = sym (ap (λ (x : Head). x.event) last) ∙ ask.event in
        let same : name.caller ≡ caller = cc event in
        record {
          call = new;
          is = call-new a caller new name same (sym place ∙ sym (s.many name.caller) ∙ rw same refl);
          op_is = cc event;
          taken = ap (λ (x : Head). takes_effect x.answer) (sym last);
        }
  ];
  logged = λ i e is. call-kept a caller new (name_of e) (call_with e (Some e.reply)) (s.logged i e is);
  once = s.once;
}
  where
    new : Call
    new = record { op = op; taken = takes_effect answer; reply = None }

    g : Head
    g = head (happens.Ask caller op p) answer log

pub stands-event : (a : Account) (hs : List Head) (log : List Entry) (event : Event) (answer : Answer) → Stands a hs log
    → Stands (after_answer a event answer) (hs ++ record { event = event; answer = answer; start = length log } ∷ []) log
stands-event a hs log (happens.Ask caller op p) answer s = stands-ask a hs log caller op p answer s
stands-event a hs log (happens.Collect caller call p) answer s = stands-other a hs log (happens.Collect caller call p) answer (λ c. refl) s
stands-event a hs log (happens.Deliver from to) answer s = stands-other a hs log (happens.Deliver from to) answer (λ c. refl) s
stands-event a hs log (happens.Fail p keep) answer s = stands-other a hs log (happens.Fail p keep) answer (λ c. refl) s
stands-event a hs log (happens.Flush p) answer s = stands-other a hs log (happens.Flush p) answer (λ c. refl) s
stands-event a hs log (happens.Trace caller call d p) answer s = stands-other a hs log (happens.Trace caller call d p) answer (λ c. refl) s

pub some_same : {A : Type 0} (x y : A) → Some x ≡ Some y → x ≡ y
some_same x y same = cc same

-- ---- an entry more

logged-more : (h : Head) (log : List Entry) (e : Entry) (name : CallName) (call : Call) → LoggedBehind h log name call
    → LoggedBehind h (log ++ e ∷ []) name call
logged-more h log e name call behind reply is = let b = behind reply is in (b.0, get-push log e b.0 (call_entry name call.op reply) b.1, b.2)

pub stands-entry : (sheet : Sheet) (a : Account) (hs : List Head) (log : List Entry) (line : List ℕ) (e : Entry)
    (run : Option Run) → Stands a hs log → LineTellsEntry a line e
    → Stands (account_after_entry sheet a e run) hs (log ++ e ∷ [])
stands-entry sheet a hs log line e run s tells = record {
  many = λ c. many-entry sheet a e run c ∙ s.many c;
  starts = λ j h is. let before = s.starts j h is in omega (arith, before, length-append log (e ∷ []));
  asked = λ name call is. elim (same_name name (name_of e)) [
    | inl same ↦ subst (λ (n : CallName). AskedBy hs (log ++ e ∷ []) n call) (sym same)
        (asked-here call (cc (sym (entry-there sheet a e run tells.call) ∙ rw same at is)))
    | inr other ↦
        let by = s.asked name call (sym (entry-other sheet a e run name other) ∙ is) in
        record { j = by.j; head = by.head; ask = by.ask; taken = by.taken; logged = logged-more by.head log e name call by.logged }
  ];
  called = λ j h name op ask. elim (same_name name (name_of e)) [
    | inl same ↦
        let c = s.called j h name op ask in
        let old : call_named a name ≡ Some (call_with e None) = subst (λ (n : CallName). call_named a n ≡ Some (call_with e None)) (sym same) tells.call in
        let before : c.call ≡ call_with e None = cc (sym c.is ∙ old) in
        record {
          call = call_with e (Some e.reply);
          is = subst (λ (n : CallName). call_named (account_after_entry sheet a e run) n ≡ Some (call_with e (Some e.reply)))
              (sym same) (entry-there sheet a e run tells.call);
          op_is = sym (ap (λ (x : Call). x.op) before) ∙ c.op_is;
          taken = sym (ap (λ (x : Call). x.taken) before) ∙ c.taken;
        }
    | inr other ↦ let c = s.called j h name op ask in
        record { call = c.call; is = entry-other sheet a e run name other ∙ c.is; op_is = c.op_is; taken = c.taken }
  ];
  logged = λ i d is. elim (get-cases log e i d is) [
    | inl before ↦ entry-other sheet a e run (name_of d) (fresh i d before) ∙ s.logged i d before
    | inr last ↦ rw last.1 (entry-there sheet a e run tells.call)
  ];
  once = λ i j d f less at_i at_j. elim (get-cases log e j f at_j) [
    | inl before ↦ elim (get-cases log e i d at_i) [
      | inl earlier ↦ s.once i j d f less earlier before
      | inr last ↦ absurd (let w = get-within log j f before in let l = last.0 in omega (arith, less, w, l))
    ]
    | inr last ↦ elim (get-cases log e i d at_i) [
      | inl earlier ↦ rw last.1 (fresh i d earlier)
      | inr both ↦ absurd (let l = last.0 in let b = both.0 in omega (arith, less, l, b))
    ]
  ];
}
  where
    -- an entry that was logged has another name
    fresh : (i : ℕ) (d : Entry) → slice_get log i ≡ Some d → name_of d ≢ name_of e
    fresh i d is same =
        let old : call_named a (name_of d) ≡ Some (call_with e None) =
        subst (λ (n : CallName). call_named a n ≡ Some (call_with e None)) (sym same) tells.call in
        let replies : Some d.reply ≡ None =
        ap (λ (c : Call). c.reply)
        (some_same (call_with d (Some d.reply)) (call_with e None) (sym (s.logged i d is) ∙ old)) in
        cc replies

    asked-here : (call : Call) → call ≡ call_with e (Some e.reply) → AskedBy hs (log ++ e ∷ []) (name_of e) call
    asked-here call is =
        let by = s.asked (name_of e) (call_with e None) tells.call in
        subst (AskedBy hs (log ++ e ∷ []) (name_of e)) (sym is) (record {
          j = by.j;
          head = by.head;
          ask = by.ask;
          taken = by.taken;
          logged = λ reply some. (
            length log,
            get-last log e ∙ ap (λ (r : Reply). Some (call_entry (name_of e) e.op r))
                (let r : e.reply ≡ reply = cc some in r),
            s.starts by.j by.head by.ask.there,
          );
        })
