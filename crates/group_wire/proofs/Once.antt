-- A call changes the table at most once: no entry of a void position is accepted, and all of a call's positions but the last
-- are void.
use Rattle.std.proofs.Common.{ℕ, zero, suc, ◌≡◌, ◌≢◌, ◌<◌, ◌≤◌, ◌+◌, ◌⊎◌, inl, inr, Bool, true, false, List, [], ◌∷◌}
use Rattle.std.proofs.Common.{◌++◌, Option, Some, None, map, refl, sym, ap, subst, ◌∙◌, arith}
use Rattle.std.proofs.lemmas.Bool.{cases_lt}
use Rattle.std.proofs.lemmas.List.{append-nil, append_assoc}
use Rattle.std.proofs.lemmas.List.Elements.{Contains-append_cases}
use Rattle.std.specs.Prelude.{Contains, slice_get}
use Rattle.group_types.specs.Dimensions.{Dimensions}
use Rattle.group_types.specs.Hash.{home_of}
use Rattle.group_types.specs.declared.process.ProcessId.{ProcessId}
use Rattle.memc_table.specs.Act.{key_of}
use Rattle.memc_table.specs.Asked.{Asked}
use Rattle.memc_table.specs.Contents.{Contents, count_of, empty_table, reply_in, reply_of, table_after}
use Rattle.memc_table.specs.Expiry.{live_at}
use Rattle.memc_table.specs.Ruling.{ruling_of}
use Rattle.memc_table.specs.declared.act.Act.{Act}
use Rattle.memc_table.specs.declared.act.Act.TheVariants as act
use Rattle.memc_table.specs.declared.holding.Holding.{Holding}
use Rattle.memc_table.specs.declared.reply.Reply.{Reply}
use Rattle.group_calls.specs.Log.{IsLegalFrom}
use Rattle.group_calls.specs.Turns.{Turn, accepts, call_entry, log_of, name_of}
use Rattle.group_calls.specs.Within.{IsAsk, IsTaken, Traces}
use Rattle.group_calls.specs.declared.entry.Entry.{Entry}
use Rattle.group_calls.specs.declared.event.Answer.{Answer}
use Rattle.group_calls.specs.declared.event.Answer.TheVariants as says
use Rattle.group_calls.specs.declared.event.Event.{Event}
use Rattle.group_run.specs.Headline.{OneLog}
use Rattle.group_run.specs.World.{World, after, opening, step, turns_from, turns_of}
use Rattle.law_log.proofs.Turnings.{get-contained, get-left}
use Rattle.law_headline.proofs.Headlines.{headline_always}
use Rattle.group_wire.specs.Actions.{Action, Permit}
use Rattle.group_wire.specs.Composed.{AreActionsFrom, Composed, Made, composed, composed_from, composed_with, events_of}
use Rattle.group_wire.specs.Composed.{failed_after, made_by, opening_composed}
use Rattle.group_wire.specs.Composition.{machine}
use Rattle.group_wire.specs.Once.{AskedOnce, ChangesOnce, IsChange, IsChangeBy, IsShownChange, ShownOnce}
use Rattle.group_wire.specs.Sets.{either, one_or}
use Rattle.group_wire.specs.Shown.{IsLoggedSinceBegun, Shows}
use Rattle.group_wire.specs.State.{Told, Stage, Unasked, AskedOf, Unknown, TracedAt, Answered, OpenCall, gateway_of}
use Rattle.group_wire.proofs.Changes.{either-not}
use Rattle.group_wire.proofs.Extending.{events_in}
use Rattle.group_wire.proofs.Honest.{honest, shape-from, shown-alive}
use Rattle.group_wire.proofs.Positions.{asked_by}
use Rattle.group_wire.proofs.Showing.{asks-front, made-turn, shown_is_logged, told-alive, turn-made}
use Rattle.group_wire.proofs.Spending.{Carries, carries, carries-from}
use Rattle.group_wire.proofs.Spent.{LastStage, VoidCall, VoidStage, call-ends}
use Rattle.group_wire.proofs.Voids.{AllVoid, Void, void-more}
use Rattle.group_wire.proofs.Wanting.{AskIs}
use Rattle.group_wire.proofs.Whole.{asked-of-logged}

-- the turn that logged an entry
logged-in : (turns : List Turn) (e : Entry) → Contains (log_of turns) e → (i : ℕ) × (t : Turn) × (slice_get turns i ≡ Some t) × Contains t.logged e
logged-in [] e there = let low = there.1 in absurd (omega (arith, low))
logged-in (t ∷ turns) e there = by (Contains-append_cases t.logged (log_of turns) e there) (λ later. logged-in turns e later) where
  by : Contains t.logged e ⊎ Contains (log_of turns) e → (Contains (log_of turns) e → (i : ℕ) × (u : Turn) × (slice_get turns i ≡ Some u) × Contains u.logged e)
      → (i : ℕ) × (u : Turn) × (slice_get (t ∷ turns) i ≡ Some u) × Contains u.logged e
  by (inl here) deeper = (0, t, refl, here)
  by (inr later) deeper = let rest = deeper later in (suc rest.0, rest.1, rest.2, rest.3)

-- the table that an entry's reply is of
legal-at : (t : Contents) (log : List Entry) (place : ℕ) (e : Entry) → IsLegalFrom t log → slice_get log place ≡ Some e
    → (u : Contents) × (e.reply ≡ reply_of u e.op)
legal-at t [] place e legal is = absurd (cc is)
legal-at t (x ∷ log) zero e legal is = (
  t,
  subst (λ (o : Option Entry). elim o as (λ _. Type 0) [ None ↦ Unit {0} | Some y ↦ y.reply ≡ reply_of t y.op ])
      is legal.0,
)
legal-at t (x ∷ log) (suc place) e legal is = legal-at (table_after t x.op) log place e legal.1 is

-- no get is accepted
get-refused : (t : Contents) (op : Asked) (key : List ℕ) → op.act ≡ act.Get key → accepts (reply_of t op) ≡ false
get-refused t op key same =
    subst (λ (a : Act).
    accepts (reply_in
    (ruling_of op.moment (count_of t (key_of op.act) + 1) a (live_at op.moment (t.items (key_of op.act))))) ≡ false)
    (sym same) (by (live_at op.moment (t.items (key_of op.act)))) where
      by : (live : Option Holding) → accepts (reply_in (ruling_of op.moment (count_of t (key_of op.act) + 1) (act.Get key) live)) ≡ false
      by None = refl
      by (Some h) = refl

module _ (s : Dimensions) (made : List Made) (log : OneLog s (events_in made))
    (answers : map (λ (t : Turn). t.answer) (turns_of s (events_in made)) ≡ map (λ x. x.answer) made) where
  contains : (place : ℕ) (e : Entry) → slice_get (after s (events_in made)).log place ≡ Some e → Contains (log_of (turns_of s (events_in made))) e
  contains place e is = get-contained (log_of (turns_of s (events_in made))) place e (ap (λ (l : List Entry). slice_get l place) (sym log.kept) ∙ is)

  pub its-ask : (place : ℕ) (e : Entry) → slice_get (after s (events_in made)).log place ≡ Some e
      → (j : ℕ) × (ask : Turn) × IsAsk (turns_of s (events_in made)) j ask (name_of e) e.op
  its-ask place e is =
      let f = logged-in (turns_of s (events_in made)) e (contains place e is) in
      let a = log.within.asked f.0 f.1 e f.2 f.3 in (a.0, a.1, a.3)

  -- an entry is for what its call asked
  entry-op : (place : ℕ) (e : Entry) (op : Asked) → slice_get (after s (events_in made)).log place ≡ Some e → AskIs made e.caller e.call op → e.op ≡ op
  entry-op place e op is asks =
      let a = its-ask place e is in
      let y = turn-made (opening s) made a.0 a.1 a.2.there in
      asks a.0 y.0 e.op a.2.at y.1 (y.2 ∙ a.2.event) (sym (asks-front (opening s) made a.0 e.caller) ∙ a.2.place)

  -- no entry of a void position is accepted
  bars : (place : ℕ) (e : Entry) → slice_get (after s (events_in made)).log place ≡ Some e → accepts e.reply ≡ true → Void s.k made e.caller e.call → ⊥
  bars place e is accepted (inl r) =
      let t = made-turn (opening s) made r.place r.it r.there answers in
      log.within.refused r.place t.0 (name_of e) r.op e
      (record {
        there = t.1;
        at = r.process;
        event = t.2 ∙ r.asks;
        place = asks-front (opening s) made r.place
            e.caller ∙ r.before;
      })
      (subst (λ (a : Answer). ¬ (IsTaken a)) (sym t.3) r.refused) (contains place e is) refl
  bars place e is accepted (inr (inl v)) =
      let t = made-turn (opening s) made v.place v.it v.there answers in
      log.within.gone v.place t.0 (name_of e) v.d e t.1
      (subst (λ (x : Event). Traces x (name_of e) v.d) (sym (t.2 ∙ v.traces)) (refl, refl, refl)) (t.3 ∙ v.gone)
      (contains place e is) accepted
      (ap (λ (o : Asked). home_of (key_of o.act) s.k) (entry-op place e v.op is v.asks) ∙ v.home) refl
  bars place e is accepted (inr (inr r)) =
      let u = legal-at (empty_table s.k) (after s (events_in made)).log place e log.legal is in
      let none = get-refused u.0 e.op r.key (ap (λ (o : Asked). o.act) (entry-op place e r.op is r.asks) ∙ r.reads) in
      let same : accepts e.reply ≡ accepts (reply_of u.0 e.op) = ap accepts u.1 in cc (none, same, accepted)

  -- two entries of one name are one
  one-place : (i j : ℕ) (e f : Entry) → slice_get (after s (events_in made)).log i ≡ Some e
      → slice_get (after s (events_in made)).log j ≡ Some f → e.caller ≡ f.caller → e.call ≡ f.call → i ≡ j
  one-place i j e f is it callers calls = by (cases_lt i j) (cases_lt j i) where
    same : name_of e ≡ name_of f
    same = λ x. record { caller = callers x; call = calls x }

    in-turns : (n : ℕ) (x : Entry) → slice_get (after s (events_in made)).log n ≡ Some x → slice_get (log_of (turns_of s (events_in made))) n ≡ Some x
    in-turns n x there = ap (λ (l : List Entry). slice_get l n) (sym log.kept) ∙ there

    by : (i < j) ⊎ (j ≤ i) → (j < i) ⊎ (i ≤ j) → i ≡ j
    by (inl low) other = absurd (log.within.once i j e f low (in-turns i e is) (in-turns j f it) same)
    by (inr high) (inl low) = absurd (log.within.once j i f e low (in-turns j f it) (in-turns i e is) (sym same))
    by (inr high) (inr low) = omega (arith, high, low)

module _ (c : Composed) (b : Carries c) where
  log : OneLog c.group.shape (events_of c)
  log = (headline_always c.group.shape (events_of c) b.all.composes.makes.run).one_log

  -- a void position has no change
  no-change : (caller from place : ℕ) (e : Entry) → IsChange (machine c).log caller from place e → Void c.group.shape.k c.made caller e.call → ⊥
  no-change caller from place e ch void =
      bars c.group.shape c.made log b.all.composes.makes.answers place e ch.there ch.accepted
      (subst (λ (n : ℕ). Void c.group.shape.k c.made n e.call) (sym ch.caller_is) void)

  -- a change is of a position that was asked
  change-low : (caller from place : ℕ) (e : Entry) → IsChange (machine c).log caller from place e → e.call < c.group.gateways.next caller
  change-low caller from place e ch =
      let a = its-ask c.group.shape c.made log b.all.composes.makes.answers place e ch.there in
      let low = asked-of-logged c.group.shape c.made b.all.composes.makes (name_of e) e.op a.0 a.1 a.2 in
      let same : asked_by c.made e.caller ≡ asked_by c.made caller = ap (asked_by c.made) ch.caller_is in
      let most = b.spent.asked caller in omega (arith, low, same, most)

  one-change : (caller from place j : ℕ) (e f : Entry) → IsChange (machine c).log caller from place e
      → IsChange (machine c).log caller from j f → e.call ≡ f.call → place ≡ j
  one-change caller from place j e f ch dh same = one-place c.group.shape c.made log b.all.composes.makes.answers place
      j e f ch.there dh.there (ch.caller_is ∙ sym dh.caller_is) same

  -- where all positions but the last are void a change is of the last
  last-change : (caller place position : ℕ) (e : Entry) → IsChange (machine c).log caller (c.first caller) place e
      → AllVoid c.group.shape.k c.made caller (c.first caller) position → suc position ≡ c.group.gateways.next caller
      → e.call ≡ position
  last-change caller place position e ch all last = by (cases_lt e.call position) where
    by : (e.call < position) ⊎ (position ≤ e.call) → e.call ≡ position
    by (inl early) = absurd (no-change caller (c.first caller) place e ch (all e.call ch.since early))
    by (inr late) = let low = change-low caller (c.first caller) place e ch in omega (arith, late, low, last)

  once-at : (caller place : ℕ) (o : OpenCall) (e : Entry) → c.failed (gateway_of c.group.shape caller) ≡ false
      → c.group.gateways.call caller ≡ Some o → IsChange (machine c).log caller (c.first caller) place e
      → (o.stage ≢ Unasked) × (e.call ≡ o.position)
  once-at caller place o e gl is ch = by o.stage refl holds.0 holds.1 where
    holds : VoidCall c.group.shape.k c.made caller (c.failed (gateway_of c.group.shape caller))
        (c.lived (gateway_of c.group.shape caller)) (c.first caller) (c.group.gateways.next caller) (Some o)
    holds = subst (VoidCall c.group.shape.k c.made caller (c.failed (gateway_of c.group.shape caller))
        (c.lived (gateway_of c.group.shape caller)) (c.first caller) (c.group.gateways.next caller)) is
        (b.spent.calls caller)

    by : (stage : Stage) → o.stage ≡ stage
        → VoidStage c.group.shape.k c.made caller (c.failed (gateway_of c.group.shape caller))
        (c.lived (gateway_of c.group.shape caller)) (c.first caller) (c.group.gateways.next caller) o.position stage
        → LastStage (c.group.gateways.next caller) o.position stage → (o.stage ≢ Unasked) × (e.call ≡ o.position)
    by Unasked at_it v last = absurd (no-change caller (c.first caller) place e ch (v gl e.call ch.since (change-low caller (c.first caller) place e ch)))
    by (AskedOf x) at_it v last = ((λ same. cc (at_it, same)), last-change caller place o.position e ch (v gl) last)
    by Unknown at_it v last = ((λ same. cc (at_it, same)), last-change caller place o.position e ch (v gl) last)
    by (TracedAt x) at_it v last = ((λ same. cc (at_it, same)), last-change caller place o.position e ch (v gl) last)
    by (Answered t n) at_it v last = ((λ same. cc (at_it, same)), last-change caller place o.position e ch (v (inl gl)).0 last)

pub asked_once : AskedOnce
asked_once s actions caller place o e run lives is ch = once-at (composed s actions) (carries s actions run) caller place o e
    (subst (λ (t : Dimensions). (composed s actions).failed (gateway_of t caller) ≡ false) (sym (shape-from (opening_composed s) actions)) lives) is ch

-- a run and what comes after
parts : (c : Composed) (actions more : List Action) → AreActionsFrom c (actions ++ more) → AreActionsFrom c actions
    × AreActionsFrom (composed_from c actions) more
parts c [] more run = (tt, run)
parts c (a ∷ actions) more run = let rest = parts (composed_with c a) actions more run.1 in ((run.0, rest.0), rest.1)

joined : (c : Composed) (actions more : List Action) → composed_from c (actions ++ more) ≡ composed_from (composed_from c actions) more
joined c [] more = refl
joined c (a ∷ actions) more = joined (composed_with c a) actions more

made-grows : (c : Composed) (actions : List Action) → (rest : List Made) × ((composed_from c actions).made ≡ c.made ++ rest)
made-grows c [] = ([], sym (append-nil c.made))
made-grows c (a ∷ actions) = let rest = made-grows (composed_with c a) actions in (made_by c a ++ rest.0, rest.1 ∙ append_assoc c.made (made_by c a) rest.0)

lived-before : (c : Composed) (actions : List Action) (p : ProcessId) → (composed_from c actions).failed p ≡ false → c.failed p ≡ false
lived-before c [] p lives = lives
lived-before c (a ∷ actions) p lives = by a (lived-before (composed_with c a) actions p lives) where
  by : (a : Action) → failed_after c a p ≡ false → c.failed p ≡ false
  by (Permit q) now = which (c.failed q) now where
    which : (lost : Bool) → one_or lost c.failed (either c.failed (c.group.words.cut q)) p ≡ false → c.failed p ≡ false
    which true now = now
    which false now = (either-not c.failed (c.group.words.cut q) p now).0
  by _ now = now

-- the log of more events prolongs that of fewer
logged-more : (w : World) (made more : List Made) → (rest : List Entry)
    × (log_of (turns_from w (events_in (made ++ more))) ≡ log_of (turns_from w (events_in made)) ++ rest)
logged-more w [] more = (log_of (turns_from w (events_in more)), refl)
logged-more w (x ∷ made) more =
    let rest = logged-more (step w x.event).world made more in (
      rest.0,
      ap (λ (l : List Entry). (step w x.event).turn.logged ++ l) rest.1
          ∙ sym (append_assoc (step w x.event).turn.logged (log_of (turns_from (step w x.event).world (events_in made)))
          rest.0),
    )

module _ (c : Composed) (b : Carries c) (more : List Action) (run : AreActionsFrom c more) (caller : ℕ) where
  carried : Carries (composed_from c more)
  carried = carries-from c more run b

  grown : (rest : List Made) × ((composed_from c more).made ≡ c.made ++ rest)
  grown = made-grows c more

  shape : (composed_from c more).group.shape ≡ c.group.shape
  shape = shape-from c more

  -- a void position has no change later
  none-later : (from place : ℕ) (e : Entry) → IsChange (machine (composed_from c more)).log caller from place e → Void c.group.shape.k c.made caller e.call → ⊥
  none-later from place e ch void =
      no-change (composed_from c more) carried caller from place e ch
      (subst (λ (t : Dimensions). Void t.k (composed_from c more).made caller e.call) (sym shape)
      (subst (λ (ms : List Made). Void c.group.shape.k ms caller e.call) (sym grown.1) (void-more c.group.shape.k c.made grown.0 caller e.call void)))

  -- entries stay where they are
  stays : (place : ℕ) (e : Entry) → slice_get (machine c).log place ≡ Some e → slice_get (machine (composed_from c more)).log place ≡ Some e
  stays place e is =
      ap (λ (l : List Entry). slice_get l place) ((log (composed_from c more) carried).kept
      ∙ ap (λ (t : Dimensions). log_of (turns_of t (events_of (composed_from c more)))) shape
      ∙ ap (λ (ms : List Made). log_of (turns_of c.group.shape (events_in ms))) grown.1 ∙ all.1)
      ∙ get-left (log_of (turns_of c.group.shape (events_of c))) all.0 place e (ap (λ (l : List Entry). slice_get l place) (sym (log c b).kept) ∙ is)
    where
      all : (rest : List Entry) × (log_of (turns_from (opening c.group.shape) (events_in (c.made ++ grown.0)))
          ≡ log_of (turns_from (opening c.group.shape) (events_in c.made)) ++ rest)
      all = logged-more (opening c.group.shape) c.made grown.0

  -- a change under a position of the call that began last is of the last of these
  of-last : (place : ℕ) (e : Entry) → (composed_from c more).failed (gateway_of c.group.shape caller) ≡ false
      → IsChangeBy c (composed_from c more) caller place e → suc e.call ≡ c.group.gateways.next caller
  of-last place e lives by = which (cases_lt (suc e.call) (c.group.gateways.next caller)) where
    which : (suc e.call < c.group.gateways.next caller) ⊎ (c.group.gateways.next caller ≤ suc e.call) → suc e.call ≡ c.group.gateways.next caller
    which (inr late) = let until = by.until in omega (arith, late, until)
    which (inl early) = absurd (none-later (c.first caller) place e by.change
        (call-ends c.group.shape.k c.made caller (c.failed (gateway_of c.group.shape caller))
        (c.lived (gateway_of c.group.shape caller)) (c.first caller) (c.group.gateways.next caller)
        (c.group.gateways.call caller) (b.spent.calls caller)
        (lived-before c more (gateway_of c.group.shape caller) lives) e.call by.change.since early))

  once-by : (i j : ℕ) (e f : Entry) → (composed_from c more).failed (gateway_of c.group.shape caller) ≡ false
      → IsChangeBy c (composed_from c more) caller i e → IsChangeBy c (composed_from c more) caller j f → i ≡ j
  once-by i j e f lives by other =
      let one = of-last i e lives by in let two = of-last j f lives other in
      one-change (composed_from c more) carried caller (c.first caller) i j e f by.change other.change (omega (arith, one, two))

  -- a call that is shown
  module _ (o : OpenCall) (t : Told) (shows : Shows c caller o t)
      (early : (c.failed (gateway_of c.group.shape caller) ≡ false)
      ⊎ (shows.pinged < c.lived (gateway_of c.group.shape caller))) where
    holds : VoidStage c.group.shape.k c.made caller (c.failed (gateway_of c.group.shape caller))
        (c.lived (gateway_of c.group.shape caller)) (c.first caller) (c.group.gateways.next caller) o.position
        (Answered t shows.pinged)
        × LastStage (c.group.gateways.next caller) o.position (Answered t shows.pinged)
    holds = subst
        (λ (stage : Stage). VoidStage c.group.shape.k c.made caller (c.failed (gateway_of c.group.shape caller))
        (c.lived (gateway_of c.group.shape caller)) (c.first caller) (c.group.gateways.next caller) o.position stage
        × LastStage (c.group.gateways.next caller) o.position stage) shows.stage
        (subst (VoidCall c.group.shape.k c.made caller (c.failed (gateway_of c.group.shape caller))
        (c.lived (gateway_of c.group.shape caller)) (c.first caller) (c.group.gateways.next caller)) shows.call
        (b.spent.calls caller))

    last-shown : (j : ℕ) (f : Entry) → IsChangeBy c (composed_from c more) caller j f → f.call ≡ o.position
    last-shown j f by = which (cases_lt f.call o.position) where
      which : (f.call < o.position) ⊎ (o.position ≤ f.call) → f.call ≡ o.position
      which (inl low) = absurd (none-later (c.first caller) j f by.change ((holds.0 early).0 f.call by.change.since low))
      which (inr high) = let until = by.until in let last = holds.1 in omega (arith, high, until, last)

    -- its reply, where a reply is shown that is logged
    reply-shown : (place : ℕ) (e : Entry)
        → ((reply : Reply) → t.answer ≡ says.Reply reply → IsLoggedSinceBegun c caller o reply)
        → IsChangeBy c (composed_from c more) caller place e → t.answer ≡ says.Reply e.reply
    reply-shown place e logs by = which (holds.0 early).1 where
      which : ((reply : Reply) × (t.answer ≡ says.Reply reply)) ⊎ Void c.group.shape.k c.made caller o.position → t.answer ≡ says.Reply e.reply
      which (inr void) =
          absurd (none-later (c.first caller) place e by.change
          (subst (λ (n : ℕ). Void c.group.shape.k c.made caller n) (sym (last-shown place e by)) void))
      which (inl (reply, is)) = is ∙ ap (λ (r : Reply). says.Reply r) (sym (of-entry (logs reply is))) where
        of-entry : IsLoggedSinceBegun c caller o reply → e.reply ≡ reply
        of-entry logged = ap (λ (x : Option Entry). elim x [ None ↦ e.reply | Some y ↦ y.reply ])
            (sym by.change.there ∙ ap (slice_get (machine (composed_from c more)).log) places ∙ there) where
              there : slice_get (machine (composed_from c more)).log logged.place ≡ Some (call_entry (record { caller = caller; call = o.position }) o.op reply)
              there = stays logged.place (call_entry (record { caller = caller; call = o.position }) o.op reply) logged.entry

              places : place ≡ logged.place
              places = one-place (composed_from c more).group.shape (composed_from c more).made
                  (log (composed_from c more) carried) carried.all.composes.makes.answers place logged.place e
                  (call_entry (record { caller = caller; call = o.position }) o.op reply) by.change.there
                  (stays logged.place (call_entry (record { caller = caller; call = o.position }) o.op reply) logged.entry)
                  by.change.caller_is (last-shown place e by)

    shown-by : (place : ℕ) (e : Entry)
        → ((reply : Reply) → t.answer ≡ says.Reply reply → IsLoggedSinceBegun c caller o reply)
        → IsChangeBy c (composed_from c more) caller place e → IsShownChange c (composed_from c more) caller place o t e
    shown-by place e logs by = record {
      last = last-shown place e by;
      shown = reply-shown place e logs by;
      only = λ j f other. one-change (composed_from c more) carried caller (c.first caller) j place f e other.change
          by.change (last-shown j f other ∙ sym (last-shown place e by));
    }

pub changes_once : ChangesOnce
changes_once s actions more caller i j e f run lives by other =
    let both = parts (opening_composed s) actions more run.1 in
    let same : composed s (actions ++ more) ≡ composed_from (composed s actions) more = joined (opening_composed s) actions more in
    let gl : (composed_from (composed s actions) more).failed (gateway_of (composed s actions).group.shape caller) ≡ false =
    subst (λ (t : Dimensions). (composed_from (composed s actions) more).failed (gateway_of t caller) ≡ false)
    (sym (shape-from (opening_composed s) actions))
    (subst (λ (d : Composed). d.failed (gateway_of s caller) ≡ false) same lives) in
    once-by (composed s actions) (carries s actions (run.0, both.0)) more both.1 caller i j e f gl
    (subst (λ (d : Composed). IsChangeBy (composed s actions) d caller i e) same by)
    (subst (λ (d : Composed). IsChangeBy (composed s actions) d caller j f) same other)

pub shown_once : ShownOnce
shown_once s actions more caller ping place o t e run apart may shows by =
    let both = parts (opening_composed s) actions more run.1 in
    let same : composed s (actions ++ more) ≡ composed_from (composed s actions) more = joined (opening_composed s) actions more in
    subst (λ (d : Composed). IsShownChange (composed s actions) d caller place o t e) (sym same)
    (shown-by (composed s actions) (carries s actions (run.0, both.0)) more both.1 caller o t shows
    (told-alive (composed s actions) caller ping o t
    (shown-alive (composed s actions) (honest s actions (run.0, both.0)) apart caller ping may) may shows) place e
    (λ reply told. shown_is_logged s actions caller ping o t reply (run.0, both.0) apart may shows told)
    (subst (λ (d : Composed). IsChangeBy (composed s actions) d caller place e) same by))
