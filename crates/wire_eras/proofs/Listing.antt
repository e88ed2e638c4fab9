-- The head of each partition of a group at rest lists the items of the table.
use Rattle.std.proofs.Common.{ℕ, zero, suc, ◌≡◌, ◌<◌, false, List, length, Some, refl, sym, ap, subst, ◌∙◌, arith}
use Rattle.std.specs.Prelude.{Contains, slice_index}
use Rattle.group_types.specs.Dimensions.{Dimensions}
use Rattle.group_types.specs.Hash.{home_of}
use Rattle.group_types.specs.Lists.{at}
use Rattle.group_types.specs.Names.{IsProcess, of_rank}
use Rattle.group_types.specs.declared.process.ProcessId.{ProcessId}
use Rattle.item_index.specs.declared.slot.Slot.{Slot}
use Rattle.memc_table.specs.Contents.{Contents}
use Rattle.memc_table.specs.declared.holding.Holding.{Holding}
use Rattle.group_calls.specs.declared.event.Event.{Event}
use Rattle.erasure_code.specs.Spaces.{bytes_at}
use Rattle.group_run.specs.Applying.{replica_of}
use Rattle.group_run.specs.Deciding.{held_as}
use Rattle.group_run.specs.Headline.{KeepsAll}
use Rattle.group_run.specs.Meaning.{is_dead, process_of, updates_of}
use Rattle.group_run.specs.Process.{Process}
use Rattle.group_run.specs.Replica.{Items, Replica}
use Rattle.group_run.specs.World.{World, after, opening}
use Rattle.law_headline.proofs.All.{whole-always}
use Rattle.law_headline.proofs.Headlines.{headline_always}
use Rattle.law_headline.proofs.Promises.{stands-always}
use Rattle.law_log.proofs.Values.{shown-long}
use Rattle.law_log.proofs.Written.{log_shows_settled}
use Rattle.law_progress.proofs.Quiet.{quiet_always}
use Rattle.law_updates.specs.Store.{no_store}
use Rattle.group_eras.specs.Items.{head_of, settled_items}
use Rattle.group_eras.proofs.Draining.{shape-after}
use Rattle.group_eras.proofs.Finding as finding
use Rattle.group_eras.proofs.Resting.{Rests, settled_of, table_after_run, ties-of}
use Rattle.group_wire.specs.Actions.{Action}
use Rattle.group_wire.specs.Composed.{AreActions, composed, events_of, opening_composed}
use Rattle.group_wire.specs.Composition.{HasNotFailed, machine}
use Rattle.group_wire.proofs.Compositions.{runs_compose}
use Rattle.group_wire.proofs.Honest as honest
use Rattle.wire_progress.proofs.Finished.{shape-machine}
use Rattle.wire_eras.specs.Closed.{AreMembersAtRest}
use Rattle.wire_eras.specs.Laws.{log_made}
use Rattle.wire_eras.specs.Reading.{HeadListsItems, HeadsListItems, TellsItem, head_replica}
use Rattle.wire_eras.specs.Told.{bases_of, table_left}
use Rattle.wire_eras.proofs.Closed.{rests}
use Rattle.wire_eras.proofs.Joining.{index-at}
use Rattle.wire_eras.proofs.Logged.{log-is}

-- the head of a partition of a group at rest
module _ (s : Dimensions) (actions : List Action) (run : AreActions s actions) (rest : AreMembersAtRest (composed s actions).group) (d : ℕ)
    (below : d < s.k) where
  abbrev es : List Event
  es = events_of (composed s actions)

  abbrev w : World
  w = after s (events_of (composed s actions))

  at-rest : Rests s (events_of (composed s actions))
  at-rest = rests s actions run rest

  same-world : machine (composed s actions) ≡ after s (events_of (composed s actions))
  same-world = ap (λ (t : Dimensions). after t (events_of (composed s actions))) (honest.shape-from (opening_composed s) actions)

  head-lives : IsProcess (machine (composed s actions)).shape (head_of (machine (composed s actions)) d)
      × (is_dead (machine (composed s actions)) (head_of (machine (composed s actions)) d) ≡ false)
  head-lives = subst (λ (v : World). IsProcess v.shape (head_of v d) × (is_dead v (head_of v d) ≡ false)) (sym same-world)
      (subst (λ (p : ProcessId). IsProcess w.shape p × (is_dead w p ≡ false)) (sym (finding.head s es at-rest d below))
      (finding.head-in s es at-rest d below, (finding.heads s es at-rest d below).lives))

  stands : HasNotFailed (composed s actions) (head_of (machine (composed s actions)) d)
  stands =
      let member : IsProcess (composed s actions).group.shape (head_of (machine (composed s actions)) d)
      = subst (λ (t : Dimensions). IsProcess t (head_of (machine (composed s actions)) d)) (shape-machine s actions run
      ∙ sym (honest.shape-from (opening_composed s) actions)) head-lives.0 in
      record { member = member; lives = sym ((runs_compose s actions run).dead (head_of (machine (composed s actions)) d) member) ∙ head-lives.1 }

  same-replica : head_replica (composed s actions) d ≡ replica_of (process_of w (head_of w d)) d
  same-replica = ap (λ (p : Process). replica_of p d) (sym ((runs_compose s actions run).processes (head_of (machine (composed s actions)) d) stands))
      ∙ ap (λ (v : World). replica_of (process_of v (head_of v d)) d) same-world

  same-items : (head_replica (composed s actions) d).items ≡ settled_items w d
  same-items = ap (λ (r : Replica). r.items) same-replica

  same-table : table_left s.k (log_made s actions) ≡ table_after_run s (events_of (composed s actions))
  same-table = ap (table_left s.k) (log-is s actions)

  keeps : KeepsAll w d (replica_of (process_of w (of_rank d (finding.rank s es at-rest d below))) d)
  keeps = by (finding.rank s es at-rest d below) (finding.head-in s es at-rest d below) (finding.heads s es at-rest d below).lives where
    by : (r : ℕ) → IsProcess (after s (events_of (composed s actions))).shape (of_rank d r)
        → is_dead (after s (events_of (composed s actions))) (of_rank d r) ≡ false
        → KeepsAll (after s (events_of (composed s actions))) d (replica_of (process_of (after s (events_of (composed s actions))) (of_rank d r)) d)
    by zero pin lives = ((headline_always s es at-rest.run).not_undone at-rest.up).at_data d (pin, lives)
    by (suc i) pin lives = ((headline_always s es at-rest.run).not_undone at-rest.up).at_parity i d
        (subst (λ (t : Dimensions). d < t.k) (sym (shape-after (opening s) es)) below) (pin, lives)

  applied-is : (replica_of (process_of w (of_rank d (finding.rank s es at-rest d below))) d).applied ≡ at 0 (bases_of s.k (log_made s actions)) d
  applied-is =
      let quiet = quiet_always s es at-rest.run at-rest.drained at-rest.up in
      let empty = (quiet.finished d (finding.rank s es at-rest d below)
      (subst (λ (t : Dimensions). d < t.k) (sym (shape-after (opening s) es)) below)
      (finding.heads s es at-rest d below)).2 in
      let none : length (replica_of (process_of w (of_rank d (finding.rank s es at-rest d below))) d).log ≡ 0 = ap length empty in
      let ties = (ties-of s es at-rest.run).counts d below in
      let shown = shown-long s d (no_store s) (settled_of s es d) (updates_of (after s es) d)
      (log_shows_settled s (stands-always s (whole-always s)) es at-rest.run d below).updates in
      let low = keeps.applied in
      let high = keeps.reached in
      let index = index-at (bases_of s.k (log_made s actions)) d in
      let counts : slice_index (bases_of s.k (log_made s actions)) d ≡ slice_index (table_after_run s es).counts d =
      ap (λ (t : Contents). slice_index t.counts d) same-table in
      omega (arith, none, ties, shown, low, high, index, counts)

  lists : HeadListsItems s actions d
  lists = record {
    listed = λ key slot there. listed key slot (subst (λ (items : Items). Contains items (key, slot)) same-items there);
    all = λ key h home is. all key h home (ap (λ (t : Contents). t.items key) (sym same-table) ∙ is);
    base = ap (λ (r : Replica). r.applied) same-replica
        ∙ ap (λ (p : ProcessId). (replica_of (process_of w p) d).applied) (finding.head s es at-rest d below)
        ∙ applied-is;
  } where
    listed : (key : List ℕ) (slot : Slot) → Contains (settled_items (after s (events_of (composed s actions))) d) (key, slot)
        → (h : Holding) × ((table_left s.k (log_made s actions)).items key ≡ Some h) × TellsItem slot h
    listed key slot there =
        let found = finding.in-table s es at-rest d below (key, slot) there in (
          held_as slot (bytes_at slot.at slot.len (finding.space s es at-rest d below)),
          ap (λ (t : Contents). t.items key) same-table ∙ found.there,
          record { flags = refl; until = refl; long = sym found.long },
        )

    all : (key : List ℕ) (h : Holding) → home_of key s.k ≡ d → (table_after_run s (events_of (composed s actions))).items key ≡ Some h
        → (slot : Slot) × Contains (head_replica (composed s actions) d).items (key, slot) × TellsItem slot h
    all key h home is =
        let found = finding.in-items s es at-rest d below key h home is in
        let long = (finding.in-table s es at-rest d below (key, found.0) found.1).long in (
          found.0,
          subst (λ (items : Items). Contains items (key, found.0)) (sym same-items) found.1,
          record {
            flags = sym (ap (λ (y : Holding). y.item.flags) found.2);
            until = sym (ap (λ (y : Holding). y.until) found.2);
            long = sym long ∙ sym (ap (λ (y : Holding). length y.item.value) found.2);
          },
        )

pub heads_list_items : HeadsListItems
heads_list_items s actions d run rest below = lists s actions run rest d below
