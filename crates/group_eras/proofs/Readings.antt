-- All items of a group at rest are read, one after the other, and nothing more is settled.
use Rattle.std.proofs.Common.{ℕ, zero, suc, ◌≡◌, ◌<◌, ◌≤◌, ◌+◌, ◌*◌, Bool, true, false, cond, List, [], ◌∷◌, ◌++◌}
use Rattle.std.proofs.Common.{length, map, Some, ◌⊎◌, inl, inr, refl, sym, ap, ap₂, subst, ◌∙◌, arith}
use Rattle.group_types.proofs.Eaches.{each-append}
use Rattle.std.specs.Prelude.{Contains, filter}
use Rattle.std.specs.List.{range_with_len}
use Rattle.std.proofs.lemmas.Bool.{cases_lt}
use Rattle.std.proofs.lemmas.List.{append_assoc, append-nil, length-append}
use Rattle.group_types.specs.Dimensions.{Dimensions}
use Rattle.group_types.specs.Each.{Each}
use Rattle.group_types.specs.Names.{IsProcess, index_of, of_rank, process_at}
use Rattle.group_types.specs.declared.process.ProcessId.{ProcessId}
use Rattle.group_types.proofs.Names.{index-below, process_at-index}
use Rattle.group_calls.specs.Turns.{Turn}
use Rattle.item_index.specs.declared.slot.Slot.{Slot}
use Rattle.memc_table.specs.Expiry.{is_live}
use Rattle.memc_table.specs.declared.act.Act.TheVariants.{Get}
use Rattle.memc_table.specs.declared.holding.Holding.{Holding}
use Rattle.group_calls.specs.declared.event.Event.{Event}
use Rattle.group_calls.specs.declared.event.Event.TheVariants.{Ask}
use Rattle.erasure_code.specs.Spaces.{bytes_at}
use Rattle.group_run.specs.Deciding.{held_as}
use Rattle.group_run.specs.Meaning.{Heads}
use Rattle.group_run.specs.Replica.{Items}
use Rattle.group_run.specs.Progress.{AskedDrained, block_waits}
use Rattle.group_run.specs.World.{World, after, opening, step, turns_from, world_after}
use Rattle.law_updates.specs.Store.{store_after}
use Rattle.group_eras.specs.Carry.{Getting, Parcel, Reading, get_with, got, parcel_of, read_all, reading}
use Rattle.group_eras.specs.Eras.{carrier}
use Rattle.group_eras.specs.Items.{Load, load_of_slot, loads, loads_in, loads_of, settled_items}
use Rattle.group_eras.specs.Moments.{AreGot, HasItem}
use Rattle.group_eras.proofs.Draining.{after-is, shape-after}
use Rattle.group_eras.proofs.Finding as finding
use Rattle.group_eras.proofs.Resting.{IsStill, Rests, same-items, settled_of, still-settled, table_after_run}
use Rattle.group_eras.proofs.Trying as trying

-- how often calls wait for a block, at the first processes of the order
abbrev pub total : Dimensions → ℕ → List Turn → ℕ
total s zero turns = 0
total s (suc n) turns = block_waits (process_at s n) turns + total s n turns

pub total-both : (s : Dimensions) (n : ℕ) (w : World) (es fs : List Event) → total s n (turns_from w (es ++ fs))
    ≡ total s n (turns_from w es) + total s n (turns_from (world_after w es) fs)
total-both s zero w es fs = omega arith
total-both s (suc n) w es fs = let one = trying.waits-both (process_at s n) w es fs in let rest = total-both s n w es fs in omega (arith, one, rest)

pub total-has : (s : Dimensions) (n x : ℕ) (turns : List Turn) → x < n → block_waits (process_at s x) turns ≤ total s n turns
total-has s zero x turns low = absurd (omega (arith, low))
total-has s (suc n) x turns low = by (cases_lt x n) (λ less. total-has s n x turns less) where
  by : (x < n) ⊎ (n ≤ x) → (x < n → block_waits (process_at s x) turns ≤ total s n turns)
      → block_waits (process_at s x) turns ≤ block_waits (process_at s n) turns + total s n turns
  by (inl less) later = let rest = later less in omega (arith, rest)
  by (inr most) later = let same : x ≡ n = omega (arith, low, most) in let here : block_waits (process_at s x) turns
      ≡ block_waits (process_at s n) turns = ap (λ (y : ℕ). block_waits (process_at s y) turns) same in
      omega (arith, here)

-- an item that is carried
pub record IsLoad (s : Dimensions) (w : World) (x : Load) : Type 0 where
  pub below : x.partition < s.k
  pub there : Contains (settled_items w x.partition) (x.key, x.slot)
  pub live : is_live 0 x.slot.until ≡ true

module _ (s : Dimensions) (w : World) where
  pub some-loads : (d : ℕ) → d < s.k → (items : Items)
      → ((x : List ℕ × Slot) → Contains items x → Contains (settled_items w d) x)
      → Each (IsLoad s w) (map (load_of_slot d) (filter (λ x. is_live 0 x.1.until) items))
  some-loads d below [] within = tt
  some-loads d below (x ∷ xs) within =
      by (is_live 0 x.1.until) refl (some-loads d below xs (λ y there. within y (suc there.0, (let low = there.1 in omega (arith, low)), there.2))) where
        by : (b : Bool) → is_live 0 x.1.until ≡ b → Each (IsLoad s w) (map (load_of_slot d) (filter (λ y. is_live 0 y.1.until) xs))
            → Each (IsLoad s w) (map (load_of_slot d) (cond b (x ∷ filter (λ y. is_live 0 y.1.until) xs) (filter (λ y. is_live 0 y.1.until) xs)))
        by true live rest = (record { below = below; there = within x (0, omega arith, refl); live = live }, rest)
        by false live rest = rest

  all-loads : (n a : ℕ) → a + n ≤ s.k → Each (IsLoad s w) (loads_of w (range_with_len a n))
  all-loads zero a low = tt
  all-loads (suc n) a low = each-append (IsLoad s w) (loads_in w a) (loads_of w (range_with_len (a + 1) n))
      (some-loads a (omega (arith, low)) (settled_items w a) (λ x there. there))
      (all-loads n (a + 1) (omega (arith, low)))

  pub are-loads : w.shape ≡ s → Each (IsLoad s w) (loads w)
  are-loads shape = subst (λ (k : ℕ). Each (IsLoad s w) (loads_of w (range_with_len 0 k)))
      (sym (ap (λ (t : Dimensions). t.k) shape)) (all-loads s.k 0 (omega arith))

module _ (s : Dimensions) (es : List Event) (rests : Rests s es) where
  abbrev pub space_in : ℕ → List ℕ
  space_in d = (store_after s d (settled_of s es d)).space

  -- an item that is carried, with the value that the log tells
  abbrev pub item_of : Load → Holding
  item_of x = held_as x.slot (bytes_at x.slot.at x.slot.len (space_in x.partition))

  abbrev pub parcel_for : Load → Parcel
  parcel_for x = record { partition = x.partition; key = x.key; flags = x.slot.flags; until = x.slot.until; value = (item_of x).item.value }

  pub record ReadWell (fs : List Event) (xs : List Load) (r : Reading) : Type 0 where
    pub rests_then : Rests s (fs ++ r.events)
    pub still : Each IsStill r.events
    pub world : r.world ≡ after s (fs ++ r.events)
    pub parcels : r.parcels ≡ map parcel_for xs
    pub are_got : AreGot (after s fs) xs
    pub asked : AskedDrained (after s fs) r.events
    pub few : length r.events ≤ length xs + total s (s.k + s.m) (turns_from (after s fs) r.events) * 131073

  module _ (gs : List Event) (still : Each IsStill gs) (now : Rests s (es ++ gs)) (x : Load) (load : IsLoad s (after s es) x) where
    abbrev pub fs : List Event
    fs = es ++ gs

    abbrev pub r : ℕ
    r = finding.rank s fs now x.partition load.below

    pub in-table : finding.InTable s es rests x.partition load.below (x.key, x.slot)
    in-table = finding.in-table s es rests x.partition load.below (x.key, x.slot) load.there

    pub there-now : (table_after_run s fs).items x.key ≡ Some (item_of x)
    there-now = same-items s es fs rests.run now.run (still-settled s es gs rests now.run still) x.key ∙ in-table.there

    pub heads-now : Heads (after s fs) x.partition r
    heads-now = finding.heads s fs now x.partition load.below

    pub pin-now : IsProcess (after s fs).shape (of_rank x.partition r)
    pin-now = finding.head-in s fs now x.partition load.below

    pub came-load : trying.Came s fs now x.partition load.below r heads-now pin-now x.key in-table.home (item_of x) there-now load.live fs (got (after s fs) x)
    came-load = subst (λ (p : ProcessId). trying.Came s fs now x.partition load.below r heads-now pin-now x.key in-table.home (item_of x) there-now load.live fs
        (get_with (after s fs).shape.blocks (Ask carrier (record { moment = 0; act = Get x.key }) p)
        (step (after s fs) (Ask carrier (record { moment = 0; act = Get x.key }) p))))
        (sym (finding.head s fs now x.partition load.below))
        (trying.came s fs now x.partition load.below r heads-now pin-now x.key in-table.home (item_of x) there-now load.live)

    -- the get of one load
    pub one-rests : Rests s (es ++ (gs ++ (got (after s (es ++ gs)) x).events))
    one-rests = subst (Rests s) (append_assoc es gs (got (after s fs) x).events) came-load.rests_then

    pub one-still : Each IsStill (gs ++ (got (after s (es ++ gs)) x).events)
    one-still = each-append IsStill gs (got (after s fs) x).events still came-load.still

    pub one-world : (got (after s (es ++ gs)) x).world ≡ after s (es ++ (gs ++ (got (after s (es ++ gs)) x).events))
    one-world = came-load.world ∙ ap (after s) (append_assoc es gs (got (after s fs) x).events)

    -- its waits are among all
    pub one-few : length (got (after s (es ++ gs)) x).events ≤ 1 + total s (s.k + s.m)
        (turns_from (after s (es ++ gs)) (got (after s (es ++ gs)) x).events) * 131073
    one-few =
        let p : ProcessId = of_rank x.partition r in
        let pin : IsProcess s p = subst (λ (t : Dimensions). IsProcess t p) (shape-after (opening s) fs) pin-now in
        let few = came-load.few in
        let has = total-has s (s.k + s.m) (index_of s p) (turns_from (after s fs) (got (after s fs) x).events) (let low = index-below s p pin in omega arith) in
        let same : block_waits (process_at s (index_of s p)) (turns_from (after s fs) (got (after s fs) x).events)
        ≡ block_waits p (turns_from (after s fs) (got (after s fs) x).events)
        = ap (λ (q : ProcessId). block_waits q (turns_from (after s fs) (got (after s fs) x).events)) (process_at-index s p pin) in
        omega (arith, few, has, same)

    pub one-got : HasItem x (got (after s (es ++ gs)) x).answer
    one-got = subst (HasItem x) (sym came-load.answer) (refl, in-table.long)

    pub one-parcel : parcel_of x (got (after s (es ++ gs)) x).answer ≡ parcel_for x
    one-parcel = ap (parcel_of x) came-load.answer

  pub read-well : (gs : List Event) (still : Each IsStill gs) (now : Rests s (es ++ gs)) (xs : List Load)
      → Each (IsLoad s (after s es)) xs → ReadWell (es ++ gs) xs (read_all (after s (es ++ gs)) xs)
  read-well gs still now [] all = record {
    rests_then = subst (Rests s) (sym (append-nil (es ++ gs))) now;
    still = tt;
    world = sym (ap (after s) (append-nil (es ++ gs)));
    parcels = refl;
    are_got = tt;
    asked = tt;
    few = omega arith;
  }
  read-well gs still now (x ∷ xs) all =
      let g : Getting = got (after s (es ++ gs)) x in
      let hs : List Event = gs ++ (got (after s (es ++ gs)) x).events in
      let world : (got (after s (es ++ gs)) x).world ≡ after s (es ++ (gs ++ (got (after s (es ++ gs)) x).events)) = one-world gs still now x all.0 in
      let later : ReadWell (es ++ (gs ++ (got (after s (es ++ gs)) x).events)) xs (read_all (after s (es ++ (gs ++ (got (after s (es ++ gs)) x).events))) xs)
      = read-well hs (one-still gs still now x all.0) (one-rests gs still now x all.0) xs all.1 in
      let rest : ReadWell (es ++ (gs ++ (got (after s (es ++ gs)) x).events)) xs (read_all (got (after s (es ++ gs)) x).world xs)
      = subst (λ (w : World). ReadWell (es ++ (gs ++ (got (after s (es ++ gs)) x).events)) xs (read_all w xs)) (sym world) later in
      let more : List Event = (read_all (got (after s (es ++ gs)) x).world xs).events in
      let passed : after s (es ++ (gs ++ (got (after s (es ++ gs)) x).events)) ≡ world_after (after s (es ++ gs)) (got (after s (es ++ gs)) x).events
      = ap (after s) (sym (append_assoc es gs g.events)) ∙ after-is s (es ++ gs) g.events in
      let events : (es ++ hs) ++ more ≡ (es ++ gs) ++ (g.events ++ more) = append_assoc es hs more
      ∙ ap (λ (ys : List Event). es ++ ys) (append_assoc gs g.events more)
      ∙ sym (append_assoc es gs (g.events ++ more)) in
      record {
        rests_then = subst (Rests s) events rest.rests_then;
        still = each-append IsStill g.events more (trying.Came.still (came-load gs still now x all.0)) rest.still;
        world = rest.world ∙ ap (after s) events;
        parcels = ap₂ (λ (p : Parcel) (ps : List Parcel). p ∷ ps) (one-parcel gs still now x all.0) rest.parcels;
        are_got = (one-got gs still now x all.0, subst (λ (w : World). AreGot w xs) (sym world) later.are_got);
        asked = trying.asked-both (after s (es ++ gs)) g.events more
            (trying.Came.asked (came-load gs still now x all.0))
            (subst (λ (w : World). AskedDrained w more) passed rest.asked);
        few =
            let one = one-few gs still now x all.0 in
            let few-rest = rest.few in
            let long = length-append g.events more in
            let both = total-both s (s.k + s.m) (after s (es ++ gs)) g.events more in
            let same : total s (s.k + s.m) (turns_from (after s (es ++ (gs ++ (got (after s (es ++ gs)) x).events)))
            more) ≡ total s (s.k + s.m) (turns_from (world_after (after s (es ++ gs)) g.events) more)
            = ap (λ (w : World). total s (s.k + s.m) (turns_from w more)) passed in
            omega (arith, one, few-rest, long, both, same);
      }

  -- so all are read
  pub reads : ReadWell es (loads (after s es)) (reading (after s es))
  reads =
      let none : es ++ [] ≡ es = append-nil es in
      subst (λ (xs : List Event). ReadWell xs (loads (after s es)) (read_all (after s xs) (loads (after s es)))) none
      (read-well [] tt (subst (Rests s) (sym none) rests) (loads (after s es)) (are-loads s (after s es) (shape-after (opening s) es)))
