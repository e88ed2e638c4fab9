-- A block that has to be rebuilt first has a number below that of the addresses of a space.
use Rattle.std.proofs.Common.{◌≡◌, ◌<◌, ◌≤◌, ◌+◌, ◌-◌, ◌/◌, ◌==◌, ◌&&◌, ◌⊎◌, inl, inr, ℕ, zero, suc, Bool, true, false}
use Rattle.std.proofs.Common.{cond, nat_lt, not, is_some, find, List, [], ◌∷◌, ◌∙◌, drop, length, take, slice_get}
use Rattle.std.proofs.Common.{Option, Some, None, if◌then◌else◌, refl, sym, ap, subst, arith}
use Rattle.std.proofs.Math.Nat.{div-le_self}
use Rattle.std.proofs.lemmas.List.{take-append-drop}
use Rattle.std.specs.List.{range_with_len}
use Rattle.group_types.specs.Dimensions.{Dimensions, space_of}
use Rattle.group_types.specs.Lists.{same_key}
use Rattle.group_types.specs.Names.{of_rank}
use Rattle.group_types.specs.declared.process.ProcessId.{ProcessId}
use Rattle.group_types.specs.declared.run.Run.{Run}
use Rattle.item_index.specs.declared.slot.Slot.{Slot}
use Rattle.memc_table.specs.Act.{key_of}
use Rattle.memc_table.specs.Asked.{Asked}
use Rattle.memc_table.specs.Expiry.{is_live}
use Rattle.memc_table.specs.declared.holding.Holding.{Holding}
use Rattle.group_calls.specs.declared.event.Event.{Event}
use Rattle.group_run.specs.Applying.{replica_of}
use Rattle.group_run.specs.Causes.{IsReady, IsUp, NeedsBlock, NeedsItem, NeedsPlace, home_in, replica_for}
use Rattle.group_run.specs.Deciding.{reads_bytes, run_needed}
use Rattle.group_run.specs.Headline.{IsItem, IsRun, KeepsAll}
use Rattle.group_run.specs.Leaders.{blocks_met, rebuilt_block}
use Rattle.group_run.specs.Meaning.{IsDown, Lives, Logged, item_run_after, process_of, run_on, run_unless, table_at, updates_of}
use Rattle.group_run.specs.Replica.{Replica, run_in, slot_in}
use Rattle.group_run.specs.World.{after}
use Rattle.law_headline.proofs.Headlines.{headline_always}
use Rattle.law_updates.proofs.Decides.{place-free}
use Rattle.scenario_text.proofs.Read.{passed}
use Rattle.law_transcripts.proofs.Parts.{get-front}

-- ---- the blocks that a run meets

found-low : (test : ℕ → Bool) (n a b : ℕ) → find test (range_with_len a n) ≡ Some b → b < a + n
found-low test zero a b is = absurd (cc is)
found-low test (suc n) a b is = by (test a) is (λ there. found-low test n (a + 1) b there)
  where
    by : (c : Bool) → cond c (Some a) (find test (range_with_len (a + 1) n)) ≡ Some b → (find test (range_with_len (a + 1) n) ≡ Some b → b < a + 1 + n)
        → b < a + suc n
    by true here later = let same : a ≡ b = cc here in omega (arith, same)
    by false there later = let low = later there in omega (arith, low)

met-low : (s : Dimensions) (run : Run) (test : ℕ → Bool) (b : ℕ) → find test (blocks_met s run) ≡ Some b → b ≤ run.at + run.len
met-low s run test b is = by (run.len == 0) is
  where
    by : (c : Bool) → find test (if c then [] else range_with_len (run.at / s.block) ((run.at + run.len - 1) / s.block - run.at / s.block + 1)) ≡ Some b
        → b ≤ run.at + run.len
    by true none = absurd (cc none)
    by false some =
        let low = found-low test ((run.at + run.len - 1) / s.block - run.at / s.block + 1) (run.at / s.block) b some in
        let first = div-le_self run.at s.block in
        let last = div-le_self (run.at + run.len - 1) s.block in
        omega (arith, low, first, last)

-- ---- the run of an item

-- the run of a key is that of an update
run-from : (key : List ℕ) (us : List Logged) (old : Option Run) (run : Run) → run_on key old us ≡ Some run
    → (old ≡ Some run) ⊎ ((i : ℕ) × (u : Logged) × (slice_get us i ≡ Some u) × (u.run ≡ Some run))
run-from key [] old run is = inl is
run-from key (u ∷ us) old run is = by (run-from key us (run_unless (same_key (key_of u.entry.op.act) key) u old) run is)
  where
    own : (item : Option Holding) (r : Option Run) → u.run ≡ r → item_run_after item r old ≡ Some run → (old ≡ Some run) ⊎ (u.run ≡ Some run)
    own None r has here = absurd (cc here)
    own (Some h) None has here = inl here
    own (Some h) (Some r) has here = inr (has ∙ here)

    first : (b : Bool) → run_unless b u old ≡ Some run → (old ≡ Some run) ⊎ (u.run ≡ Some run)
    first true here = own u.item u.run refl here
    first false here = inl here

    here-or : (old ≡ Some run) ⊎ (u.run ≡ Some run) → (old ≡ Some run) ⊎ ((i : ℕ) × (v : Logged) × (slice_get (u ∷ us) i ≡ Some v) × (v.run ≡ Some run))
    here-or (inl before) = inl before
    here-or (inr own) = inr (0, u, refl, own)

    by : (run_unless (same_key (key_of u.entry.op.act) key) u old ≡ Some run) ⊎ ((i : ℕ) × (v : Logged) × (slice_get us i ≡ Some v) × (v.run ≡ Some run))
        → (old ≡ Some run) ⊎ ((i : ℕ) × (v : Logged) × (slice_get (u ∷ us) i ≡ Some v) × (v.run ≡ Some run))
    by (inl here) = here-or (first (same_key (key_of u.entry.op.act) key) here)
    by (inr (i, v, there, has)) = inr (suc i, v, there, has)

of-item : (o : Option Slot) (h : Option Holding) (r : Option Run) (x : Slot) → IsItem o h r → o ≡ Some x → r ≡ Some (run_in x)
of-item None None r x item is = absurd (cc is)
of-item None (Some h) r x item is = absurd item
of-item (Some y) None r x item is = absurd item
of-item (Some y) (Some h) r x item is = let same : y ≡ x = cc is in item.0 ∙ ap (λ (z : Slot). Some (run_in z)) same

needed-slot : (op : Asked) (o : Option Slot) (run : Run) → run_needed op o ≡ Some run → (x : Slot) × (o ≡ Some x) × (run_in x ≡ run)
needed-slot op None run is = absurd (cc is)
needed-slot op (Some x) run is =
    let read = passed (reads_bytes op.act && is_live op.moment x.until && nat_lt 0 x.len) (Some (run_in x)) run is in
    (x, refl, let same : run_in x ≡ run = cc (read.1) in same)

-- ---- of a run of the machine

module _ (s : Dimensions) (es : List Event) (ran : IsRun s es) where
  keeps : (d r : ℕ) → ¬ (IsDown (after s es)) → d < (after s es).shape.k → Lives (after s es) (of_rank d r)
      → KeepsAll (after s es) d (replica_of (process_of (after s es) (of_rank d r)) d)
  keeps d zero up low lives = ((headline_always s es ran).not_undone up).at_data d lives
  keeps d (suc i) up low lives = ((headline_always s es ran).not_undone up).at_parity i d low lives

  module _ (p : ProcessId) (op : Asked) (up : IsUp (after s es) p) (ready : IsReady (after s es) p (home_in (after s es) op))
      (low : home_in (after s es) op < (after s es).shape.k) (lives : Lives (after s es) p) where
    item-inside : (run : Run) → NeedsItem (after s es) p op run → run.at + run.len ≤ space_of (after s es).shape
    item-inside run needs = by (run-from key (take r.applied (updates_of (after s es) d)) None run (on ∙ ap (λ (x : Run). Some x) slot.2))
      where
        d : ℕ
        d = home_in (after s es) op

        key : List ℕ
        key = key_of op.act

        r : Replica
        r = replica_for (after s es) p op

        kept : KeepsAll (after s es) d r
        kept = subst (λ (q : ProcessId). KeepsAll (after s es) d (replica_of (process_of (after s es) q) d)) (sym ready.name)
            (keeps d ready.rank up.group low (subst (Lives (after s es)) ready.name lives))

        slot : (x : Slot) × (slot_in r.items key ≡ Some x) × (run_in x ≡ run)
        slot = needed-slot op (slot_in r.items key) run needs

        on : run_on key None (take r.applied (updates_of (after s es) d)) ≡ Some (run_in slot.0)
        on = of-item (slot_in r.items key) ((table_at (after s es) d r.applied).items key) (run_on key None (take r.applied (updates_of (after s es) d)))
            slot.0 (kept.settled.items key refl) slot.1

        by : (None ≡ Some run) ⊎ ((i : ℕ) × (u : Logged) × (slice_get (take r.applied (updates_of (after s es) d)) i ≡ Some u) × (u.run ≡ Some run))
            → run.at + run.len ≤ space_of (after s es).shape
        by (inl none) = absurd (cc none)
        by (inr (i, u, there, has)) =
            let us : List Logged = updates_of (after s es) d in
            let get : slice_get us i ≡ Some u = subst (λ (vs : List Logged). slice_get vs i ≡ Some u) (take-append-drop r.applied us)
            (get-front (take r.applied us) (drop r.applied us) i u there) in
            ((headline_always s es ran).values.runs d i u run low get has).2.inside

    place-inside : (run : Run) → NeedsPlace (after s es) p op run → run.at + run.len ≤ space_of (after s es).shape
    place-inside run needs = (place-free (space_of (after s es).shape) (replica_for (after s es) p op) (length needs.value.item.value)
        run needs.place).fits.inside

    pub block-low : (b : ℕ) → NeedsBlock (after s es) p op b → b ≤ space_of (after s es).shape
    block-low b needs = by needs.needed
      where
        met : b ≤ needs.run.at + needs.run.len
        met = met-low (after s es).shape needs.run (λ x. not (is_some (rebuilt_block (process_of (after s es) p).as_leader (home_in (after s es) op) x)))
            b needs.misses.missing

        by : NeedsItem (after s es) p op needs.run ⊎ NeedsPlace (after s es) p op needs.run → b ≤ space_of (after s es).shape
        by (inl item) = let inside = item-inside needs.run item in let m = met in omega (arith, m, inside)
        by (inr place) = let inside = place-inside needs.run place in let m = met in omega (arith, m, inside)
