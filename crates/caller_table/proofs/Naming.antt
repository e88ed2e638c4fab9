-- The entry of a call that is replied to is logged by its event, or stands in the log, and no other entry has its name.
use Rattle.std.proofs.Common.{ℕ, suc, ◌≡◌, ◌≢◌, ◌+◌, ◌<◌, List, [], ◌∷◌, ◌++◌, length, take, ◌⊎◌, inl, inr, Some, refl}
use Rattle.std.proofs.Common.{sym, ap, subst, ◌∙◌, append-nil, length-append, arith}
use Rattle.std.specs.Prelude.{Contains, slice_get}
use Rattle.std.proofs.lemmas.List.{take_at, take_all}
use Rattle.group_types.specs.Dimensions.{Dimensions}
use Rattle.group_types.specs.Lists.{at}
use Rattle.group_types.specs.declared.process.ProcessId.{ProcessId}
use Rattle.memc_table.specs.Asked.{Asked}
use Rattle.memc_table.specs.Contents.{Contents, empty_table, reply_of, table_after}
use Rattle.memc_table.specs.declared.reply.Reply.{Reply}
use Rattle.group_calls.specs.Log.{IsLegal, IsLegalFrom, table_of}
use Rattle.group_calls.specs.Turns.{CallName, Turn, asks_of, call_entry, log_of, name_of}
use Rattle.group_calls.specs.Within.{AnswersWithin, IsAsk, IsLoggedSince}
use Rattle.group_calls.specs.declared.entry.Entry.{Entry}
use Rattle.group_calls.specs.declared.event.Answer.TheVariants as says
use Rattle.group_calls.specs.declared.event.Event.{Event}
use Rattle.group_calls.specs.declared.event.Event.TheVariants.{Ask, Collect}
use Rattle.group_run.specs.Headline.{IsRun, IsRunFrom, MayCome, OneLog}
use Rattle.group_run.specs.World.{World, after, next_name, opening, step, turns_from, turns_of, world_after}
use Rattle.law_headline.proofs.All.{whole-always}
use Rattle.law_headline.proofs.Headlines.{headline_always}
use Rattle.law_headline.proofs.Promises.{stands-always}
use Rattle.law_log.specs.Book.{book_of, no_book}
use Rattle.law_log.proofs.Laws.{LogTies}
use Rattle.law_log.proofs.Ties.{NamesDiffer}
use Rattle.law_log.proofs.Books.{book-turns, book-world}
use Rattle.law_log.proofs.Calls.{each-contained}
use Rattle.law_log.proofs.Logging.{LogsOf, logs_always}
use Rattle.law_log.proofs.Logs.{EntriesAsked}
use Rattle.law_log.proofs.Ones.{log_is_tied}
use Rattle.law_log.proofs.Turnings.{asks_counted, get-contained, get-last}
use Rattle.group_types.specs.Each.{Each, EachTwo}
use Rattle.group_types.proofs.Eaches.{each-append, each-weaker}
use Rattle.caller_table.proofs.Entering.{IsOf}
use Rattle.caller_table.proofs.Placing.{after-append}

-- a run led to the group
pub record IsLed (s : Dimensions) (w : World) : Type 0 where
  pub events : List Event
  pub run : IsRun s events
  pub is : w ≡ after s events

run-push : (w : World) (es : List Event) (e : Event) → IsRunFrom w es → MayCome (world_after w es) e → IsRunFrom w (es ++ e ∷ [])
run-push w [] e run may = (may, tt)
run-push w (x ∷ es) e run may = (run.0, run-push (step w x).world es e run.1 may)

turns-push : (w : World) (es : List Event) (e : Event) → turns_from w (es ++ e ∷ []) ≡ turns_from w es ++ (step (world_after w es) e).turn ∷ []
turns-push w [] e = refl
turns-push w (x ∷ es) e = ap (λ (ts : List Turn). (step w x).turn ∷ ts) (turns-push (step w x).world es e)

pub led-step : (s : Dimensions) (w : World) (e : Event) → IsLed s w → MayCome w e → IsLed s (step w e).world
led-step s w e led may = record {
  events = led.events ++ e ∷ [];
  run = (led.run.0, run-push (opening s) led.events e led.run.1 (subst (λ (x : World). MayCome x e) led.is may));
  is = ap (λ (x : World). (step x e).world) led.is ∙ sym (after-append (opening s) led.events (e ∷ []));
}

-- what stands of the log after a run
pub ties : (s : Dimensions) (es : List Event) → IsRun s es → LogTies s es
ties s es run = log_is_tied s (stands-always s (whole-always s)) es run

pub led-once : (s : Dimensions) (w : World) → IsLed s w → EachTwo NamesDiffer w.log
led-once s w led = subst (λ (x : World). EachTwo NamesDiffer x.log) (sym led.is) (ties s led.events led.run).stands.once

pub led-legal : (s : Dimensions) (w : World) → IsLed s w → IsLegal s.k w.log
led-legal s w led = subst (λ (x : World). IsLegal s.k x.log) (sym led.is) (headline_always s led.events led.run).one_log.legal

-- no entry has the name of a caller's next call
pub led-fresh : (s : Dimensions) (w : World) (caller : ℕ) → IsLed s w → Each (λ e. name_of e ≢ next_name w caller) w.log
led-fresh s w caller led = each-weaker (λ e. e.call < at 0 w.asked e.caller) (λ e. name_of e ≢ next_name w caller) other w.log asked where
  logs : LogsOf (book_of s led.events)
  logs = logs_always s (stands-always s (whole-always s)) led.events led.run

  asked : EntriesAsked w.asked w.log
  asked = subst (λ (x : World). EntriesAsked x.asked x.log) (book-world s led.events ∙ sym led.is) logs.entries_asked

  other : (e : Entry) → e.call < at 0 w.asked e.caller → name_of e ≢ next_name w caller
  other e below same =
      let who : at 0 w.asked e.caller ≡ at 0 w.asked caller = ap (λ (n : CallName). at 0 w.asked n.caller) same in
      let call : e.call ≡ at 0 w.asked caller = ap (λ (n : CallName). n.call) same in omega (arith, below, who, call)

-- an event after a run
module _ (s : Dimensions) (es : List Event) (run : IsRun s es) (e : Event) (may : MayCome (after s es) e) where
  turn : Turn
  turn = (step (after s es) e).turn

  one : OneLog s (es ++ e ∷ [])
  one = (headline_always s (es ++ e ∷ []) (run.0, run-push (opening s) es e run.1 may)).one_log

  within : AnswersWithin s.k (turns_of s es ++ turn ∷ [])
  unfolding turn
  within = subst (AnswersWithin s.k) (turns-push (opening s) es e) one.within

  kept : (step (after s es) e).world.log ≡ log_of (turns_of s es ++ turn ∷ [])
  unfolding turn
  kept = ap (λ (w : World). w.log) (sym (after-append (opening s) es (e ∷ []))) ∙ one.kept ∙ ap log_of (turns-push (opening s) es e)

-- an ask that is replied to at once logs its entry
at-once-after : (s : Dimensions) (es : List Event) → IsRun s es → (caller : ℕ) (op : Asked) (p : ProcessId)
    → MayCome (after s es) (Ask caller op p) → (reply : Reply)
    → (step (after s es) (Ask caller op p)).turn.answer ≡ says.Reply reply
    → Contains (step (after s es) (Ask caller op p)).turn.logged (call_entry (next_name (after s es) caller) op reply)
unfolding turn
at-once-after s es run caller op p may reply answered =
    (within s es run (Ask caller op p) may).at_once (length (turns_of s es)) (step (after s es) (Ask caller op p)).turn
    (next_name (after s es) caller) op reply (record {
      there = get-last (turns_of s es) (step (after s es) (Ask caller op p)).turn;
      at = p;
      event = refl;
      place = ap (asks_of caller) (take_at (turns_of s es) ((step (after s es) (Ask caller op p)).turn ∷ []) (length (turns_of s es)) refl) ∙ counted;
    }) answered
  where
    counted : asks_of caller (turns_of s es) ≡ at 0 (after s es).asked caller
    counted = ap (asks_of caller) (sym (book-turns (no_book s) es)) ∙ asks_counted s es run caller ∙ ap (λ (w : World). at 0 w.asked caller) (book-world s es)

pub at-once : (s : Dimensions) (w : World) → IsLed s w → (caller : ℕ) (op : Asked) (p : ProcessId) → MayCome w (Ask caller op p) → (reply : Reply)
    → (step w (Ask caller op p)).turn.answer ≡ says.Reply reply → Contains (step w (Ask caller op p)).turn.logged (call_entry (next_name w caller) op reply)
at-once s w led caller op p = subst (λ (x : World). MayCome x (Ask caller op p) → (reply : Reply) → (step x (Ask caller op p)).turn.answer ≡ says.Reply reply
    → Contains (step x (Ask caller op p)).turn.logged (call_entry (next_name x caller) op reply)) (sym led.is) (at-once-after s led.events led.run caller op p)

-- a call that is collected with a reply has its entry in the log
collected-after : (s : Dimensions) (es : List Event) → IsRun s es → (caller call : ℕ) (p : ProcessId)
    → MayCome (after s es) (Collect caller call p) → (reply : Reply)
    → (step (after s es) (Collect caller call p)).turn.answer ≡ says.Reply reply
    → (op : Asked) × Contains (step (after s es) (Collect caller call p)).world.log (call_entry (record { caller = caller; call = call }) op reply)
unfolding turn
collected-after s es run caller call p may reply answered = (since.op, there) where
  turns : List Turn
  turns = turns_of s es ++ (step (after s es) (Collect caller call p)).turn ∷ []

  since : IsLoggedSince turns (length (turns_of s es)) (record { caller = caller; call = call }) reply
  since = (within s es run (Collect caller call p) may).later (length (turns_of s es))
      (step (after s es) (Collect caller call p)).turn (record { caller = caller; call = call }) reply
      (get-last (turns_of s es) (step (after s es) (Collect caller call p)).turn) (refl, refl) answered

  there : Contains (step (after s es) (Collect caller call p)).world.log (call_entry (record { caller = caller; call = call }) since.op reply)
  there = subst (λ (log : List Entry). Contains log (call_entry (record { caller = caller; call = call }) since.op reply))
      (sym (kept s es run (Collect caller call p) may))
      (get-contained (log_of turns) since.place (call_entry (record { caller = caller; call = call }) since.op reply)
      (ap (λ (ts : List Turn). slice_get (log_of ts) since.place) (sym whole) ∙ since.entry)) where
        whole : take (length (turns_of s es) + 1) turns ≡ turns
        whole = take_all (length (turns_of s es) + 1) turns
            (let all = length-append (turns_of s es) ((step (after s es) (Collect caller call p)).turn ∷ []) in
            omega (arith, all))

pub collected : (s : Dimensions) (w : World) → IsLed s w → (caller call : ℕ) (p : ProcessId)
    → MayCome w (Collect caller call p) → (reply : Reply) → (step w (Collect caller call p)).turn.answer
    ≡ says.Reply reply
    → (op : Asked) × Contains (step w (Collect caller call p)).world.log (call_entry (record { caller = caller; call = call }) op reply)
collected s w led caller call p =
    subst (λ (x : World). MayCome x (Collect caller call p) → (reply : Reply)
    → (step x (Collect caller call p)).turn.answer ≡ says.Reply reply
    → (op : Asked) × Contains (step x (Collect caller call p)).world.log
    (call_entry (record { caller = caller; call = call }) op reply)) (sym led.is)
    (collected-after s led.events led.run caller call p)

-- entries of one call, where no two are of one
two-suffix : (xs ys : List Entry) → EachTwo NamesDiffer (xs ++ ys) → EachTwo NamesDiffer ys
two-suffix [] ys two = two
two-suffix (x ∷ xs) ys two = two-suffix xs ys two.1

no-two : (n : CallName) (op : Asked) (x y : Entry) (rest : List Entry) → EachTwo NamesDiffer (x ∷ y ∷ rest) → Each (IsOf n op) (x ∷ y ∷ rest) → ⊥
no-two n op x y rest two all = two.0.0 (all.0.0 ∙ sym all.1.0.0)

pub single : (log : List Entry) (n : CallName) (op : Asked) (xs : List Entry) (e : Entry)
    → EachTwo NamesDiffer (log ++ xs) → Each (IsOf n op) xs → Contains xs e → xs ≡ e ∷ []
single log n op [] e two all there = absurd (each-contained (λ _. ⊥) [] e tt there)
single log n op (x ∷ []) e two all there = ap (λ (y : Entry). y ∷ []) (sym (each-contained (λ y. y ≡ x) (x ∷ []) e (refl, tt) there))
single log n op (x ∷ y ∷ rest) e two all there = absurd (no-two n op x y rest (two-suffix log (x ∷ y ∷ rest) two) all)

pub single-behind : (log : List Entry) (n : CallName) (op : Asked) (xs : List Entry) (e : Entry)
    → EachTwo NamesDiffer (log ++ xs) → Each (IsOf n op) xs → Each (λ y. name_of y ≢ n) log → name_of e ≡ n
    → Contains (log ++ xs) e → xs ≡ e ∷ []
single-behind log n op [] e two all others named there =
    absurd (each-contained (λ y. name_of y ≢ n) log e others (subst (λ (es : List Entry). Contains es e) (append-nil log) there) named)
single-behind log n op (x ∷ []) e two all others named there = by
    (each-contained (λ y. (name_of y ≢ n) ⊎ (y ≡ x)) (log ++ x ∷ []) e
    (each-append (λ y. (name_of y ≢ n) ⊎ (y ≡ x)) log (x ∷ [])
    (each-weaker (λ y. name_of y ≢ n) (λ y. (name_of y ≢ n) ⊎ (y ≡ x)) (λ y other. inl other) log others)
    (inr refl, tt)) there)
  where
    by : (name_of e ≢ n) ⊎ (e ≡ x) → x ∷ [] ≡ e ∷ []
    by (inl other) = absurd (other named)
    by (inr same) = ap (λ (y : Entry). y ∷ []) (sym same)
single-behind log n op (x ∷ y ∷ rest) e two all others named there = absurd (no-two n op x y rest (two-suffix log (x ∷ y ∷ rest) two) all)

-- the last entry of a legal log has the reply of the table before it
pub last-legal : (t : Contents) (log : List Entry) (e : Entry) → IsLegalFrom t (log ++ e ∷ []) → e.reply ≡ reply_of (table_of t log) e.op
last-legal t [] e legal = legal.0
last-legal t (x ∷ xs) e legal = last-legal (table_after t x.op) xs e legal.1
