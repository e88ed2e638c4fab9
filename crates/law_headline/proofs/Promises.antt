-- The headline, where all stands that should at every moment.
use Rattle.std.proofs.Common.{ℕ, zero, suc, ◌≡◌, ◌<◌, ◌≤◌, ◌+◌, false, List, [], ◌∷◌, length, take, map, Some, ◌⊎◌, inl, inr, refl, sym, ap, subst, ◌∙◌, arith}
use Rattle.std.specs.Prelude.{Contains, slice_get}
use Rattle.std.specs.List.{range_with_len}
use Rattle.std.proofs.lemmas.Option.{slice_get_within}
use Rattle.group_types.specs.Dimensions.{Dimensions, space_of}
use Rattle.group_types.specs.Lists.{at}
use Rattle.group_types.specs.Names.{IsProcess}
use Rattle.group_types.specs.Shape.{IsShape}
use Rattle.group_types.specs.declared.process.ProcessId.{ProcessId}
use Rattle.group_types.specs.declared.process.ProcessId.TheVariants.{DataNode, ParityNode}
use Rattle.group_types.specs.Each.{Each}
use Rattle.group_types.proofs.Eaches.{each-take}
use Rattle.group_message.specs.declared.update.Update.{Update}
use Rattle.group_calls.specs.declared.event.Event.{Event}
use Rattle.erasure_code.specs.Code.{coded}
use Rattle.group_run.specs.Applying.{head_at, replica_of}
use Rattle.group_run.specs.Headline.{AgreeOnStamp, DecodesExactly, FitsHeld, Headline, IsRun, KeepsAll, NotUndone}
use Rattle.group_run.specs.History.{History}
use Rattle.group_run.specs.Meaning.{AgreesOn, AgreeingSurvivors, Lives, process_of, spaces_at, updates_of, values_after}
use Rattle.group_run.specs.Process.{Head}
use Rattle.group_run.specs.Replica.{Replica}
use Rattle.group_run.specs.World.{AskedCall, World, after}
use Rattle.law_moves.specs.State.{State, state_of}
use Rattle.law_histories.proofs.Histories.{length-history}
use Rattle.law_histories.proofs.Reach.{IsKeeper, ReplicaReaches}
use Rattle.law_histories.proofs.Numbers.{data-applied}
use Rattle.law_updates.specs.Store.{no_store}
use Rattle.law_log.specs.Book.{book_of, no_book}
use Rattle.law_log.specs.Stands.{HeadStands, Stands, StandsAlways}
use Rattle.law_log.proofs.Books.{book-history, book-shape, book-world}
use Rattle.law_log.proofs.Ones.{log_is_one}
use Rattle.law_log.proofs.ReplicaWords.{ReplicaStands}
use Rattle.law_log.proofs.Shown.{LogShows}
use Rattle.law_log.proofs.Values.{shown-long}
use Rattle.law_log.proofs.Keeping.{replicas_keep_all}
use Rattle.law_log.proofs.Written.{log_shows_settled, values_are_written}
use Rattle.law_log.proofs.Gone.{gone_is_kept}
use Rattle.law_log.proofs.Held.{held_always}
use Rattle.law_log.proofs.HeldWords.{HeldIsSettled}
use Rattle.law_bytes.specs.Decoding.{AreSpaces, SpaceIs, columns, values}
use Rattle.law_bytes.specs.Held.{stand}
use Rattle.law_bytes.proofs.Decode.{AreAreas, areas-bytes, areas-long, columns-areas, spaces_stand}
use Rattle.law_bytes.proofs.Survivors.{spaces_determine}
use Rattle.law_bytes.proofs.Values.{value-byte}
use Rattle.law_bytes.specs.Areas.{WritesBytes, value, SettledWrite}
use Rattle.law_headline.proofs.Issues.{FineIn, column-at, fine-writes, fits, head-reads}
use Rattle.law_headline.proofs.Joint.{Whole}
use Rattle.law_headline.proofs.Reading.{store-values}

-- what the laws of the log ask
pub stands : (s : Dimensions) (calls : List AskedCall) (v : State) → IsShape s → Whole s calls v → HeldIsSettled s v → Stands s calls v
stands s calls v shaped whole held = record {
  settled = whole.settled;
  heads = λ up p d h pin lives below heads. head p d h pin lives below heads;
  held = λ up p d x pin lives below there low. held p d x pin lives below there low;
} where
  write : SettledWrite s v.settled
  write d below = fine-writes s calls d (length (v.settled d)) (v.settled d) (whole.settled d below)

  head : (p : ProcessId) (d : ℕ) (h : Head) → IsProcess s p → v.dead p ≡ false → d < s.k → head_at (v.process p) d
      ≡ Some h → HeadStands s calls (v.settled d) d (v.process p) h
  head p d h pin lives below heads = record {
    within = reached.applied;
    reached = let long = length-history (v.settled d) (replica_of (v.process p) d) reached.applied in let reach =
        reached.prolongs.reaches in omega (arith, long, reach);
    prolongs = reached.prolongs.front;
    fine = reached.fine.1;
    items = reached.holds.items;
    kept = reached.holds.kept;
    reads = head-reads s shaped calls v whole.carried.members whole.reach write whole.bytes p pin lives d below h heads;
    inherits = λ waits. short waits (reached.heads h heads).all_or;
    applied = λ all. full all (reached.heads h heads).all_or;
  } where
    reached : ReplicaReaches (FineIn s calls) d (v.settled d) (v.process p)
    reached = fits s shaped calls v whole.carried.members whole.reach write whole.bytes p pin lives d below h heads

    short : (replica_of (v.process p) d).applied < h.inherited
        → ((replica_of (v.process p) d).applied ≡ length (v.settled d))
        ⊎ (((replica_of (v.process p) d).applied < h.inherited) × (length (v.settled d) ≤ h.inherited))
        → length (v.settled d) ≤ h.inherited
    short waits (inl same) = omega (arith, waits, same)
    short waits (inr both) = both.1

    full : h.inherited ≤ (replica_of (v.process p) d).applied
        → ((replica_of (v.process p) d).applied ≡ length (v.settled d))
        ⊎ (((replica_of (v.process p) d).applied < h.inherited) × (length (v.settled d) ≤ h.inherited))
        → (replica_of (v.process p) d).applied ≡ length (v.settled d)
    full all (inl same) = same
    full all (inr both) = let less = both.0 in absurd (omega (arith, all, less))

-- the values of partitions, one after the other
spaces-are : (s : Dimensions) (w : World) (us : ℕ → List Update) (stamp : List ℕ) (a : ℕ)
    → ((j n : ℕ) → slice_get stamp j ≡ Some n → values s (a + j) (us (a + j)) ≡ values_after w (a + j) n)
    → map (λ d. values s d (us d)) (range_with_len a (length stamp)) ≡ spaces_at w a stamp
spaces-are s w us [] a each = refl
spaces-are s w us (n ∷ ns) a each =
    let here : values s a (us a) ≡ values_after w a n = subst (λ (x : ℕ). values s x (us x) ≡ values_after w x n) (omega arith) (each 0 n refl) in
    let next : a + 1 ≡ suc a = omega arith in
    ap (λ (x : List ℕ). x ∷ map (λ d. values s d (us d)) (range_with_len (a + 1) (length ns))) here
    ∙ ap (λ (xs : List (List ℕ)). values_after w a n ∷ xs)
    (ap (λ (x : ℕ). map (λ d. values s d (us d)) (range_with_len x (length ns))) next
    ∙ spaces-are s w us ns (suc a) (λ j m is. subst (λ (x : ℕ). values s x (us x) ≡ values_after w x m) (omega arith) (each (suc j) m is)))

space-at : (w : World) (stamp : List ℕ) (a d n : ℕ) → slice_get stamp d ≡ Some n → slice_get (spaces_at w a stamp) d ≡ Some (values_after w (a + d) n)
space-at w [] a d n is = absurd (cc is)
space-at w (x ∷ xs) a zero n is = let same : x ≡ n = cc is in ap (λ (y : ℕ). Some (values_after w a y)) same
    ∙ ap (λ (y : ℕ). Some (values_after w y n)) (omega arith)
space-at w (x ∷ xs) a (suc d) n is = space-at w xs (suc a) d n is ∙ ap (λ (y : ℕ). Some (values_after w y n)) (omega arith)

pub number-of : (stamp : List ℕ) (d n : ℕ) → slice_get stamp d ≡ Some n → at 0 stamp d ≡ n
number-of [] d n is = absurd (cc is)
number-of (x ∷ xs) zero n is = cc is
number-of (x ∷ xs) (suc d) n is = number-of xs d n is

each-of : {X : Type 0} (P : X → Type 0) (xs : List X) → ((x : X) → Contains xs x → P x) → Each P xs
each-of P [] every = tt
each-of P (x ∷ xs) every = (every x (0, omega arith, refl), each-of P xs (λ y there. every y (suc there.0, (let low = there.1 in omega (arith, low)), there.2)))

-- of a group beside the issued calls, in the group's own words
module _ (h : History) (calls : List AskedCall) (shaped : IsShape h.world.shape) (whole : Whole h.world.shape calls (state_of h))
    (shows : (d : ℕ) → d < h.world.shape.k → LogShows h.world.shape h.world d (at [] h.settled d))
    (keeps : (d : ℕ) → d < h.world.shape.k → (r : Replica) → ReplicaStands h.world.shape calls (at [] h.settled d) d r → KeepsAll h.world d r) where
  abbrev s : Dimensions
  s = h.world.shape

  pub write : SettledWrite h.world.shape (λ d. at [] h.settled d)
  write d below = fine-writes h.world.shape calls d (length (at [] h.settled d)) (at [] h.settled d) (whole.settled d below)

  replica-keeps : (p : ProcessId) (d : ℕ) → d < h.world.shape.k → Lives h.world p → IsKeeper d p → KeepsAll h.world d (replica_of (process_of h.world p) d)
  replica-keeps p d below lives keeper =
      let reached : ReplicaReaches (FineIn h.world.shape calls) d (at [] h.settled d) (process_of h.world p) =
      (whole.reach d below).replicas p lives.0 lives.1 keeper in
      keeps d below (replica_of (process_of h.world p) d) (record {
        within = reached.applied;
        reached = let long = length-history (at [] h.settled d) (replica_of (process_of h.world p) d) reached.applied in
            let reach = reached.prolongs.reaches in omega (arith, long, reach);
        prolongs = reached.prolongs.front;
        fine = reached.fine.1;
        items = reached.holds.items;
      })

  pub not-undone : NotUndone h.world
  not-undone = record {
    at_data = λ d lives. replica-keeps (DataNode d) d lives.0 lives refl;
    all_applied = λ d lives.
        data-applied (FineIn h.world.shape calls) h.world.shape (state_of h) whole.carried.members whole.reach d lives.0 lives.1
        ∙ sym (shown-long h.world.shape d (no_store h.world.shape) (at [] h.settled d) (updates_of h.world d) (shows d lives.0).updates);
    at_parity = λ i d below lives. replica-keeps (ParityNode i) d below lives tt;
  }

  pub values-are : (d n : ℕ) → d < h.world.shape.k → values h.world.shape d (take n (at [] h.settled d)) ≡ values_after h.world d n
  values-are d n below = sym (store-values h.world.shape d (take n (at [] h.settled d))) ∙ sym ((shows d below).values n)

  -- what a living process holds
  space-of : (p : ProcessId) → Lives h.world p
      → SpaceIs h.world.shape (columns h.world.shape (stand (λ d. at [] h.settled d) (process_of h.world p))) p
      (process_of h.world p).space
  space-of p lives = spaces_stand h.world.shape (λ d. at [] h.settled d) (process_of h.world p) p
      (whole.carried.members.named p lives.0) lives.0 write (whole.bytes p lives.0 lives.1)

  data-holds : (d : ℕ) → Lives h.world (DataNode d) → (process_of h.world (DataNode d)).space ≡ values_after h.world d
      (replica_of (process_of h.world (DataNode d)) d).applied
  data-holds d lives =
      column-at h.world.shape (stand (λ e. at [] h.settled e) (process_of h.world (DataNode d))) d
      (process_of h.world (DataNode d)).space lives.0 (space-of (DataNode d) lives)
      ∙ values-are d (replica_of (process_of h.world (DataNode d)) d).applied lives.0

  pub stamp-columns : (us : ℕ → List Update) (stamp : List ℕ) → length stamp ≡ h.world.shape.k
      → ((d n : ℕ) → d < h.world.shape.k → slice_get stamp d ≡ Some n → us d ≡ take n (at [] h.settled d))
      → columns h.world.shape us ≡ spaces_at h.world 0 stamp
  stamp-columns us stamp many each =
      ap (λ (n : ℕ). map (λ d. values h.world.shape d (us d)) (range_with_len 0 n)) (sym many)
      ∙ spaces-are h.world.shape h.world us stamp 0 (λ j n is.
      let same : 0 + j ≡ j = omega arith in
      let below : j < h.world.shape.k = subst (λ (x : ℕ). j < x) many (slice_get_within stamp j n is) in
      subst (λ (x : ℕ). values h.world.shape x (us x) ≡ values_after h.world x n) (sym same)
      (ap (values h.world.shape j) (each j n below is) ∙ values-are j n below))

  parity-holds : (i : ℕ) (stamp : List ℕ) → Lives h.world (ParityNode i) → length stamp ≡ h.world.shape.k → AgreesOn h.world stamp (ParityNode i)
      → (process_of h.world (ParityNode i)).space ≡ coded h.world.shape.m i (space_of h.world.shape) (spaces_at h.world 0 stamp)
  parity-holds i stamp lives many agrees =
      space-of (ParityNode i) lives
      ∙ ap (coded h.world.shape.m i (space_of h.world.shape)) (stamp-columns (stand (λ d. at [] h.settled d) (process_of h.world (ParityNode i))) stamp many
      (λ d n below is. let same : (replica_of (process_of h.world (ParityNode i)) d).applied
      ≡ n = cc (agrees d below, is) in ap (λ (x : ℕ). take x (at [] h.settled d)) same))

  pub agree-on-stamp : AgreeOnStamp h.world
  agree-on-stamp = record { data_holds = data-holds; parity_holds = parity-holds }

  -- columns of a stamp
  upto : List ℕ → ℕ → List Update
  upto stamp d = take (at 0 stamp d) (at [] h.settled d)

  stamp-spaces : (stamp : List ℕ) → length stamp ≡ h.world.shape.k → AreSpaces h.world.shape (spaces_at h.world 0 stamp)
  unfolding upto
  stamp-spaces stamp many =
      subst (AreSpaces h.world.shape)
      (stamp-columns (upto stamp) stamp many
      (λ d n below is. ap (λ (x : ℕ). take x (at [] h.settled d)) (number-of stamp d n is))) (record {
        many = areas.many;
        long = areas-long h.world.shape.k 0 (space_of h.world.shape) (λ d. value (upto stamp d)) (columns h.world.shape (upto stamp)) areas;
        bytes =
            areas-bytes h.world.shape.k 0 (space_of h.world.shape) (λ d. value (upto stamp d)) (columns h.world.shape (upto stamp)) areas
            (λ d x below. value-byte h.world.shape (upto stamp d) x (writes d below));
      }) where
        writes : SettledWrite h.world.shape (upto stamp)
        writes d below = each-take (WritesBytes h.world.shape) (at 0 stamp d) (at [] h.settled d) (write d below)

        areas : AreAreas h.world.shape.k 0 (space_of h.world.shape) (λ d. value (upto stamp d)) (columns h.world.shape (upto stamp))
        areas = columns-areas h.world.shape (upto stamp) writes

  survivor-fits : (p : ProcessId) (stamp : List ℕ) → Lives h.world p → length stamp ≡ h.world.shape.k
      → AgreesOn h.world stamp p → FitsHeld h.world (spaces_at h.world 0 stamp) p
  survivor-fits (DataNode d) stamp lives many agrees =
      let n : ℕ = (replica_of (process_of h.world (DataNode d)) d).applied in
      space-at h.world stamp 0 d n agrees ∙ ap (λ (x : ℕ). Some (values_after h.world x n)) (omega arith) ∙ ap Some (sym (data-holds d lives))
  survivor-fits (ParityNode i) stamp lives many agrees = parity-holds i stamp lives many agrees

  pub decodes : (ps : List ProcessId) (stamp : List ℕ) → AgreeingSurvivors h.world ps stamp → DecodesExactly h.world ps stamp
  decodes ps stamp survive = record {
    fit = λ p there. survivor-fits p stamp (survive.living p there) survive.stamp (survive.agree p there);
    only = λ cs are fit.
        spaces_determine h.world.shape ps (λ p. (process_of h.world p).space) (spaces_at h.world 0 stamp) cs shaped survive.many survive.distinct
        (each-of (IsProcess h.world.shape) ps (λ p there. (survive.living p there).0))
        (stamp-spaces stamp survive.stamp) (record { many = are.many; long = are.long; bytes = are.bytes })
        (each-of (λ p. SpaceIs h.world.shape (spaces_at h.world 0 stamp) p (process_of h.world p).space) ps (λ p there. held p there))
        (each-of (λ p. SpaceIs h.world.shape cs p (process_of h.world p).space) ps (λ p there. other cs p (fit p there)));
  } where
    other : (cs : List (List ℕ)) (p : ProcessId) → FitsHeld h.world cs p → SpaceIs h.world.shape cs p (process_of h.world p).space
    other cs (DataNode d) is = is
    other cs (ParityNode i) is = is

    held : (p : ProcessId) → Contains ps p → SpaceIs h.world.shape (spaces_at h.world 0 stamp) p (process_of h.world p).space
    held p there = other (spaces_at h.world 0 stamp) p (survivor-fits p stamp (survive.living p there) survive.stamp (survive.agree p there))

-- all stands along a run, beside the calls that were issued in it
abbrev pub WholeAlways : Dimensions → Type 0
WholeAlways s = (es : List Event) → IsRun s es → Whole s (book_of s es).issued (state_of (book_of s es).history)

module _ (s : Dimensions) (always : WholeAlways s) where
  pub stands-always : StandsAlways s
  stands-always es run = stands s (book_of s es).issued (state_of (book_of s es).history) run.0 (always es run) held where
    held : HeldIsSettled s (state_of (book_of s es).history)
    held = subst (λ (h : History). HeldIsSettled s (state_of h)) (sym (book-history (no_book s) es)) (held_always s es run).1

  module _ (es : List Event) (run : IsRun s es) where
    abbrev pub h : History
    h = (book_of s es).history

    pub shape-is : h.world.shape ≡ s
    shape-is = book-shape s es

    pub shaped : IsShape h.world.shape
    shaped = subst IsShape (sym shape-is) run.0

    pub whole : Whole h.world.shape (book_of s es).issued (state_of h)
    whole = subst (λ (t : Dimensions). Whole t (book_of s es).issued (state_of h)) (sym shape-is) (always es run)

    pub shown : (d : ℕ) → d < h.world.shape.k → LogShows h.world.shape h.world d (at [] h.settled d)
    shown d below = subst (λ (w : World). LogShows h.world.shape w d (at [] h.settled d)) (sym (book-world s es))
        (subst (λ (t : Dimensions). LogShows t (after s es) d (at [] h.settled d)) (sym shape-is)
        (log_shows_settled s stands-always es run d (subst (λ (t : Dimensions). d < t.k) shape-is below)))

    pub keeps : (d : ℕ) → d < h.world.shape.k → (r : Replica) → ReplicaStands h.world.shape (book_of s es).issued (at [] h.settled d) d r → KeepsAll h.world d r
    keeps d below r replica = subst (λ (w : World). KeepsAll w d r) (sym (book-world s es))
        (replicas_keep_all s stands-always es run d (subst (λ (t : Dimensions). d < t.k) shape-is below) r
        (subst (λ (t : Dimensions). ReplicaStands t (book_of s es).issued (at [] h.settled d) d r) shape-is replica))

    pub headline : Headline s es
    headline = record {
      one_log = log_is_one s stands-always (gone_is_kept s stands-always) es run;
      not_undone = λ up. subst NotUndone (book-world s es) (not-undone h (book_of s es).issued shaped whole shown keeps);
      agree = λ up. subst AgreeOnStamp (book-world s es) (agree-on-stamp h (book_of s es).issued shaped whole shown keeps);
      decode = λ up ps stamp survive. subst (λ (w : World). DecodesExactly w ps stamp) (book-world s es)
          (decodes h (book_of s es).issued shaped whole shown keeps ps stamp
          (subst (λ (w : World). AgreeingSurvivors w ps stamp) (sym (book-world s es)) survive));
      values = values_are_written s stands-always es run;
    }
