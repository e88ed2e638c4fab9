-- The log that members' actions made: it only grows, and each entry has an op that was asked.
use Rattle.std.proofs.Common.{◌≡◌, List, [], ◌∷◌, ◌++◌, map, refl, sym, ap, subst, ◌∙◌, Some}
use Rattle.std.specs.Prelude.{Contains, slice_get}
use Rattle.std.proofs.lemmas.List.{append_assoc, append-nil}
use Rattle.group_types.specs.Dimensions.{Dimensions}
use Rattle.group_types.specs.Each.{Each}
use Rattle.group_types.proofs.Eaches.{each-map, each-weaker}
use Rattle.memc_table.specs.Asked.{Asked}
use Rattle.group_calls.specs.declared.entry.Entry.{Entry}
use Rattle.group_calls.specs.declared.event.Event.{Event}
use Rattle.group_calls.specs.declared.event.Event.TheVariants.{Ask}
use Rattle.group_run.specs.Headline.{IsRun}
use Rattle.group_run.specs.World.{World, after, opening, step, turns_of, world_after}
use Rattle.law_moves.proofs.Reading.{grown-is}
use Rattle.law_log.proofs.Calls.{each-contained}
use Rattle.law_log.proofs.Turnings.{get-contained}
use Rattle.law_headline.proofs.Headlines.{headline_always}
use Rattle.group_eras.proofs.Asking.{turn-event}
use Rattle.group_eras.proofs.Draining.{after-is}
use Rattle.group_eras.proofs.Lists.{each-self, map-both}
use Rattle.group_eras.proofs.Naming.{logged-turn}
use Rattle.group_wire.specs.Actions.{Action}
use Rattle.group_wire.specs.Composed.{AreActions, AreActionsFrom, Composed, Made, composed, composed_from, composed_with, events_of, made_by, opening_composed}
use Rattle.group_wire.proofs.Compositions.{runs_compose}
use Rattle.group_wire.proofs.Honest as honest
use Rattle.wire_eras.specs.Begun.{BeginsOnly}
use Rattle.wire_eras.specs.Laws.{log_made}
use Rattle.wire_eras.proofs.Begun.{EventAsks, MadeOnly, only-from, open-start}

pub joined : (c : Composed) (actions more : List Action) → composed_from c (actions ++ more) ≡ composed_from (composed_from c actions) more
joined c [] more = refl
joined c (a ∷ rest) more = joined (composed_with c a) rest more

front-from : (c : Composed) (actions more : List Action) → AreActionsFrom c (actions ++ more) → AreActionsFrom c actions
front-from c [] more run = tt
front-from c (a ∷ rest) more run = (run.0, front-from (composed_with c a) rest more run.1)

pub front : (s : Dimensions) (actions more : List Action) → AreActions s (actions ++ more) → AreActions s actions
front s actions more run = (run.0, front-from (opening_composed s) actions more run.1)

behind-from : (c : Composed) (actions more : List Action) → AreActionsFrom c (actions ++ more) → AreActionsFrom (composed_from c actions) more
behind-from c [] more run = run
behind-from c (a ∷ rest) more run = behind-from (composed_with c a) rest more run.1

pub behind : (s : Dimensions) (actions more : List Action) → AreActions s (actions ++ more) → AreActionsFrom (composed s actions) more
behind s actions more run = behind-from (opening_composed s) actions more run.1

pub made-grows : (c : Composed) (actions : List Action) → (rest : List Made) × ((composed_from c actions).made ≡ c.made ++ rest)
made-grows c [] = ([], sym (append-nil c.made))
made-grows c (a ∷ rest) =
    let later = made-grows (composed_with c a) rest in
    (made_by c a ++ later.0, later.1 ∙ append_assoc c.made (made_by c a) later.0)

log-more : (w : World) (es : List Event) → (more : List Entry) × ((world_after w es).log ≡ w.log ++ more)
log-more w [] = ([], sym (append-nil w.log))
log-more w (e ∷ es) =
    let later = log-more (step w e).world es in
    let new : List Entry = (step w e).turn.logged in
    (new ++ later.0, later.1 ∙ ap (λ (log : List Entry). log ++ later.0) (grown-is w.log new) ∙ append_assoc w.log new later.0)

module _ (s : Dimensions) where
  -- the machine is that of the shape
  pub log-is : (actions : List Action) → log_made s actions ≡ (after s (events_of (composed s actions))).log
  log-is actions = ap (λ (t : Dimensions). (after t (events_of (composed s actions))).log) (honest.shape-from (opening_composed s) actions)

  pub run-is : (actions : List Action) → AreActions s actions → IsRun s (events_of (composed s actions))
  run-is actions run = subst (λ (t : Dimensions). IsRun t (events_of (composed s actions)))
      (honest.shape-from (opening_composed s) actions) (runs_compose s actions run).run

  pub events-more : (c : Composed) (made : List Made) (d : Composed) → d.made ≡ c.made ++ made → events_of d ≡ events_of c ++ map (λ x. x.event) made
  events-more c made d is = ap (map (λ (x : Made). x.event)) is ∙ map-both (λ (x : Made). x.event) c.made made

  pub log-split : (actions more : List Action) → (later : List Entry) × (log_made s (actions ++ more) ≡ log_made s actions ++ later)
  log-split actions more =
      let c : Composed = composed s actions in
      let grown = made-grows c more in
      let made : (composed s (actions ++ more)).made ≡ (composed s actions).made ++ grown.0 =
      ap (λ (d : Composed). d.made) (joined (opening_composed s) actions more) ∙ grown.1 in
      let es : List Event = map (λ x. x.event) grown.0 in
      let later = log-more (after s (events_of c)) es in (
        later.0,
        log-is (actions ++ more) ∙ ap (λ (xs : List Event). (after s xs).log) (events-more c grown.0 (composed s (actions ++ more)) made)
            ∙ ap (λ (w : World). w.log) (after-is s (events_of c) es) ∙ later.1 ∙ ap (λ (log : List Entry). log ++ later.0) (sym (log-is actions)),
      )

module _ (P : Asked → Type 0) (s : Dimensions) where
  -- an entry has the op of an ask
  pub entry-asked : (es : List Event) → IsRun s es → Each (EventAsks P) es → (entry : Entry) → Contains (after s es).log entry → P entry.op
  entry-asked es run asks entry there =
      let h = headline_always s es run in
      let found = logged-turn (turns_of s es) entry (subst (λ (log : List Entry). Contains log entry) h.one_log.kept there) in
      let ask = h.one_log.within.asked found.0 found.1 entry found.2 found.3 in
      let event : slice_get es ask.0 ≡ Some (Ask entry.caller entry.op ask.3.at) = turn-event (opening s) es ask.0 ask.1 ask.3.there ∙ ap Some ask.3.event in
      each-contained (EventAsks P) es (Ask entry.caller entry.op ask.3.at) asks (get-contained es ask.0 (Ask entry.caller entry.op ask.3.at) event)

  -- where clients begin calls of some ops alone, all entries are of these
  pub log-only : (actions : List Action) → AreActions s actions → Each (BeginsOnly P) actions → Each (λ e. P e.op) (log_made s actions)
  log-only actions run begins =
      let made : MadeOnly P (opening_composed s) (composed s actions) = only-from P (opening_composed s) actions begins (open-start P s) in
      let asks : Each (EventAsks P) (events_of (composed s actions)) =
      each-map (EventAsks P) (λ x. x.event) (composed s actions).made
      (subst (Each (λ (x : Made). EventAsks P x.event)) (sym made.is) made.asks) in
      subst (Each (λ (e : Entry). P e.op)) (sym (log-is s actions))
      (each-weaker (Contains (after s (events_of (composed s actions))).log) (λ e. P e.op)
      (entry-asked (events_of (composed s actions)) (run-is s actions run) asks)
      (after s (events_of (composed s actions))).log (each-self (after s (events_of (composed s actions))).log))
