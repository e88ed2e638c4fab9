-- What a get of a group at rest is told is what its table has.
use Rattle.std.proofs.Common.{ℕ, zero, suc, ◌≡◌, ◌≤◌, ◌+◌, ◌==◌, Bool, true, false, List, [], ◌∷◌, ◌++◌, length, map}
use Rattle.std.proofs.Common.{take, Option, Some, None, if◌then◌else◌, refl, sym, ap, subst, ◌∙◌, arith}
use Rattle.std.proofs.lemmas.List.{length-append, length-map}
use Rattle.group_types.specs.Dimensions.{Dimensions}
use Rattle.group_types.specs.Each.{Each}
use Rattle.group_types.proofs.Eaches.{each-take}
use Rattle.memc_table.specs.Act.{key_of}
use Rattle.memc_table.specs.Contents.{Contents, after_ruling, count_of, empty_table, reply_in, reply_of, ruling_on, table_after}
use Rattle.memc_table.specs.Expiry.{is_live, live_at}
use Rattle.memc_table.specs.Ruling.{ruling_of}
use Rattle.memc_table.specs.declared.act.Act.TheVariants.{Get}
use Rattle.memc_table.specs.declared.holding.Holding.{Holding}
use Rattle.memc_table.specs.declared.reply.Item.{Item}
use Rattle.memc_table.specs.declared.reply.Reply.{Reply}
use Rattle.memc_table.specs.declared.reply.Reply.TheVariants as reply
use Rattle.memc_table.specs.declared.ruling.Ruling.{Ruling}
use Rattle.memc_table.specs.declared.ruling.Ruling.TheVariants.{Accepted, Refused}
use Rattle.group_calls.specs.Log.{IsLegalFrom, table_of}
use Rattle.group_calls.specs.Turns.{accepts, call_entry, log_of}
use Rattle.group_calls.specs.declared.entry.Entry.{Entry}
use Rattle.group_calls.specs.declared.event.Event.{Event}
use Rattle.group_run.specs.World.{World, after, opening, step, turns_from, turns_of}
use Rattle.law_headline.proofs.Headlines.{headline_always}
use Rattle.law_log.proofs.Tables.{table-append}
use Rattle.law_updates.proofs.Rules.{RulesWell, rules-well}
use Rattle.group_eras.proofs.Standing.{legal-behind}
use Rattle.group_wire.specs.Actions.{Action, Begin, Send, Read, Treat, Collect, Flush, Learn, Receive, GiveUp, Cut, Say}
use Rattle.group_wire.specs.Actions.{Hear, Permit, Take, Ping, Pong, Count, Show, LetGo, Stop}
use Rattle.group_wire.specs.Composed.{Composed, Made, begun_after, composed, composed_from, composed_with, events_of, opening_composed}
use Rattle.group_wire.specs.Sets.{changed_at}
use Rattle.group_wire.specs.Shown.{IsLoggedSinceBegun}
use Rattle.group_wire.specs.State.{OpenCall}
use Rattle.group_wire.proofs.Changes.{changed_at-here, one_or-is}
use Rattle.group_wire.proofs.Honest as honest
use Rattle.group_wire.proofs.Showing.{shown_is_logged}
use Rattle.wire_eras.specs.Laws.{log_made}
use Rattle.wire_eras.specs.Reading.{GetsTellTable, MissesHaveEnded, ShowsBehind, TableHoldsItem, ValuesAreHeld}
use Rattle.wire_eras.specs.Told.{table_left}
use Rattle.wire_eras.proofs.Answering.{reply-at}
use Rattle.wire_eras.proofs.Closed.{no-change}
use Rattle.wire_eras.proofs.Legal.{first_log_is_legal}
use Rattle.wire_eras.proofs.Logged.{events-more, front, joined, log-is, made-grows, run-is}

-- a get of a table
module _ (t : Contents) (moment : ℕ) (key : List ℕ) where
  abbrev given : Option Holding → Reply
  given x = reply_in (ruling_of moment (count_of t key + 1) (Get key) x)

  holds : (item : Item) (x : Option Holding) → t.items key ≡ x → given (live_at moment x) ≡ reply.Value item → TableHoldsItem t key item
  holds item None there is = absurd (cc is)
  holds item (Some h) there is = by (is_live moment h.until) is where
    item_in : Reply → Item
    item_in (reply.Value i) = i
    item_in _ = item

    by : (b : Bool) → given (if b then Some h else None) ≡ reply.Value item → TableHoldsItem t key item
    by true is = record { holding = h; held = there; same = ap item_in is }
    by false is = absurd (cc is)

  missed : (h : Holding) → given (live_at moment (Some h)) ≡ reply.Miss → is_live moment h.until ≡ false
  missed h is = by (is_live moment h.until) refl is where
    by : (b : Bool) → is_live moment h.until ≡ b → given (if b then Some h else None) ≡ reply.Miss → is_live moment h.until ≡ false
    by true live is = absurd (cc is)
    by false dead is = dead

pub values_are_held : ValuesAreHeld
values_are_held t moment key item is = holds t moment key item (t.items key) refl is

pub misses_have_ended : MissesHaveEnded
misses_have_ended t moment key h is there = missed t moment key h (ap (λ (x : Option Holding). given t moment key (live_at moment x)) (sym there) ∙ is)

-- a call that begins behind is logged behind
begun-step : (n : ℕ) (c : Composed) (a : Action) (caller : ℕ) → n ≤ length c.made → n ≤ c.begun caller → n ≤ begun_after c a caller
begun-step n c (Begin x op) caller long old = one_or-is (λ (v : ℕ). n ≤ v) (caller == x) (length c.made) (c.begun caller) (λ _. long) (λ _. old)
begun-step n c (Send x p) caller long old = old
begun-step n c (Read x p) caller long old = old
begun-step n c (Treat p place) caller long old = old
begun-step n c (Collect x call p) caller long old = old
begun-step n c (Flush p) caller long old = old
begun-step n c (Learn x p) caller long old = old
begun-step n c (Receive x p) caller long old = old
begun-step n c (GiveUp x) caller long old = old
begun-step n c (Cut x p) caller long old = old
begun-step n c (Say p) caller long old = old
begun-step n c (Hear x p) caller long old = old
begun-step n c (Permit p) caller long old = old
begun-step n c (Take x p) caller long old = old
begun-step n c (Ping to p) caller long old = old
begun-step n c (Pong x p) caller long old = old
begun-step n c (Count x p) caller long old = old
begun-step n c (Show x ping) caller long old = old
begun-step n c (LetGo x) caller long old = old
begun-step n c (Stop p) caller long old = old

long-more : (c : Composed) (actions : List Action) → length c.made ≤ length (composed_from c actions).made
long-more c actions =
    let grown = made-grows c actions in
    let same : length (composed_from c actions).made ≡ length (c.made ++ grown.0) = ap length grown.1 in
    let both = length-append c.made grown.0 in
    omega (arith, same, both)

begun-from : (n : ℕ) (c : Composed) (actions : List Action) (caller : ℕ) → n ≤ length c.made → n ≤ c.begun caller → n ≤ (composed_from c actions).begun caller
begun-from n c [] caller long old = old
begun-from n c (a ∷ rest) caller long old =
    begun-from n (composed_with c a) rest caller (let more = long-more c (a ∷ []) in omega (arith, long, more)) (begun-step n c a caller long old)

-- the log at a turn is a front of the log
take-turns : (w : World) (es fs : List Event) (n : ℕ) → length es ≤ n → length (log_of (turns_from w es)) ≤ length (log_of (take n (turns_from w (es ++ fs))))
take-turns w [] fs n long = omega arith
take-turns w (e ∷ es) fs zero long = absurd (omega (arith, long))
take-turns w (e ∷ es) fs (suc n) long =
    let rest = take-turns (step w e).world es fs n (omega (arith, long)) in
    let one = length-append (step w e).turn.logged (log_of (turns_from (step w e).world es)) in
    let two = length-append (step w e).turn.logged (log_of (take n (turns_from (step w e).world (es ++ fs)))) in
    omega (arith, rest, one, two)

take-behind : {X : Type 0} (xs ys : List X) (n : ℕ) → length xs ≤ n → (m : ℕ) × (take n (xs ++ ys) ≡ xs ++ take m ys)
take-behind [] ys n long = (n, refl)
take-behind (x ∷ xs) ys zero long = absurd (omega (arith, long))
take-behind (x ∷ xs) ys (suc n) long = let rest = take-behind xs ys n (omega (arith, long)) in (rest.0, ap (λ (zs : List _). x ∷ zs) rest.1)

-- refused entries leave the table
refused-stays : (t : Contents) (log : List Entry) → IsLegalFrom t log → Each (λ e. accepts e.reply ≡ false) log → table_of t log ≡ t
refused-stays t [] legal refused = refl
refused-stays t (e ∷ es) legal refused =
    by (ruling_on t e.op) refl (rules-well e.op.moment (count_of t (key_of e.op.act) + 1) e.op.act
    (live_at e.op.moment (t.items (key_of e.op.act)))) (refused-stays (table_after t e.op) es legal.1 refused.1)
  where
    by : (r : Ruling) → ruling_on t e.op ≡ r → RulesWell (count_of t (key_of e.op.act) + 1) e.op.act (live_at e.op.moment (t.items (key_of e.op.act))) r
        → table_of (table_after t e.op) es ≡ table_after t e.op → table_of (table_after t e.op) es ≡ t
    by (Refused reply) is well rest = rest ∙ ap (after_ruling t (key_of e.op.act)) is
    by (Accepted reply leaves) is well rest = absurd (cc (sym refused.0 ∙ ap accepts (legal.0 ∙ ap reply_in is) ∙ well.0))

legal-take : (t : Contents) (log : List Entry) (n : ℕ) → IsLegalFrom t log → IsLegalFrom t (take n log)
legal-take t log zero legal = tt
legal-take t [] (suc n) legal = tt
legal-take t (e ∷ es) (suc n) legal = (legal.0, legal-take (table_after t e.op) es n legal.1)

module _ (s : Dimensions) (actions more : List Action) (caller : ℕ) (o : OpenCall) (shown : Reply) (b : ShowsBehind s actions more caller o shown) where
  logged : IsLoggedSinceBegun (composed s (actions ++ more)) caller o shown
  logged = shown_is_logged s (actions ++ more) caller b.ping o b.told shown b.closed.run b.apart b.may b.shows b.answer

  last-is : composed s (actions ++ more) ≡ composed_from (composed_with (composed_from (composed s actions) b.before) (Begin caller b.op)) b.after
  last-is = joined (opening_composed s) actions more ∙ ap (composed_from (composed s actions)) b.begins
      ∙ joined (composed s actions) b.before (Begin caller b.op ∷ b.after)

  begun : length (composed s actions).made ≤ (composed s (actions ++ more)).begun caller
  begun = subst (λ (d : Composed). length (composed s actions).made ≤ d.begun caller) (sym last-is)
      (begun-from (length (composed s actions).made) (composed_with c0 (Begin caller b.op)) b.after caller
      (let one = long-more (composed s actions) b.before in let two = long-more c0 (Begin caller b.op ∷ []) in omega (arith, one, two))
      (let here : changed_at c0.begun caller (length c0.made) caller ≡ length c0.made = changed_at-here c0.begun caller
      (length c0.made) in let one = long-more (composed s actions) b.before in omega (arith, here, one)))
    where
      c0 : Composed
      c0 = composed_from (composed s actions) b.before

  grown : (rest : List Made) × ((composed s (actions ++ more)).made ≡ (composed s actions).made ++ rest)
  grown = let g = made-grows (composed s actions) more in (g.0, ap (λ (d : Composed). d.made) (joined (opening_composed s) actions more) ∙ g.1)

  events-are : events_of (composed s (actions ++ more)) ≡ events_of (composed s actions) ++ map (λ x. x.event) grown.0
  events-are = events-more s (composed s actions) grown.0 (composed s (actions ++ more)) grown.1

  -- the call was logged behind the first log
  low : length (log_made s actions) ≤ logged.place
  low =
      let since : length
      (log_of (take ((composed s (actions ++ more)).begun caller)
      (turns_of s (events_of (composed s actions) ++ map (λ x. x.event) grown.0)))) ≤ logged.place
      = subst (λ (es : List Event). length (log_of (take ((composed s (actions ++ more)).begun caller) (turns_of s es))) ≤ logged.place) events-are
      (subst (λ (t : Dimensions).
      length (log_of
      (take ((composed s (actions ++ more)).begun caller) (turns_of t (events_of (composed s (actions ++ more))))))
      ≤ logged.place)
      (honest.shape-from (opening_composed s) (actions ++ more)) logged.since) in
      let long = length-map (composed s actions).made (λ (x : Made). x.event) in
      let after-begun = begun in
      let turns = take-turns (opening s) (events_of (composed s actions)) (map (λ x. x.event) grown.0)
      ((composed s (actions ++ more)).begun caller) (omega (arith, long, after-begun)) in
      let kept : length (log_made s actions) ≡ length (log_of (turns_of s (events_of (composed s actions))))
      = ap length (log-is s actions
      ∙ (headline_always s (events_of (composed s actions))
      (run-is s actions (front s actions more b.closed.run))).one_log.kept) in
      omega (arith, since, turns, kept)

  tells : shown ≡ reply_of (table_left s.k (log_made s actions)) o.op
  tells =
      let none = no-change s actions more b.closed in
      let legal : IsLegalFrom (empty_table s.k) (log_made s (actions ++ more)) = first_log_is_legal s (actions ++ more) b.closed.run in
      let behind : IsLegalFrom (table_left s.k (log_made s actions)) none.later =
      legal-behind (empty_table s.k) (log_made s actions) none.later
      (subst (IsLegalFrom (empty_table s.k)) none.log legal) in
      let front = take-behind (log_made s actions) none.later logged.place low in
      reply-at (empty_table s.k) (log_made s (actions ++ more)) logged.place
      (call_entry (record { caller = caller; call = o.position }) o.op shown) legal logged.entry
      ∙ ap (λ (log : List Entry). reply_of (table_of (empty_table s.k) log) o.op) (ap (take logged.place) none.log ∙ front.1)
      ∙ ap (λ (t : Contents). reply_of t o.op) (table-append (empty_table s.k) (log_made s actions) (take front.0 none.later)
      ∙ refused-stays (table_left s.k (log_made s actions)) (take front.0 none.later)
      (legal-take (table_left s.k (log_made s actions)) none.later front.0 behind)
      (each-take (λ e. accepts e.reply ≡ false) front.0 none.later none.refused))

pub gets_tell_table : GetsTellTable
gets_tell_table s actions more caller o shown b = tells s actions more caller o shown b
