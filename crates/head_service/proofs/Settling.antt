-- Settling one update after the other is settling them at once.
use Rattle.std.proofs.Common.{ℕ, zero, suc, ◌≡◌, ◌+◌, ◌-◌, ◌<◌, ◌≤◌, Bool, ◌||◌, true, false, List, [], ◌∷◌, ◌++◌}
use Rattle.std.proofs.Common.{length, map, take, drop, Option, Some, None, is_some, if◌then◌else◌, refl, sym, ap, ◌∙◌}
use Rattle.std.proofs.Common.{subst, All, arith}
use Rattle.std.specs.List.{slice_get}
use Rattle.std.proofs.lemmas.List.{append-nil}
use Rattle.group_types.specs.Dimensions.{Dimensions}
use Rattle.std.proofs.Math.Bool.{or-true}
use Rattle.group_types.specs.Lists.{at, put, same_key}
use Rattle.group_types.specs.declared.process.ProcessId.TheVariants.{DataNode}
use Rattle.group_types.proofs.Lists.{at-put, length-put, put-at, put-put}
use Rattle.group_message.specs.declared.kept.Kept.{Kept}
use Rattle.group_message.specs.declared.update.Update.{Update}
use Rattle.group_run.specs.Applying.{Settlement, block_after, bytes_after, copy_after, rebuilt_after, space_after}
use Rattle.group_run.specs.Heading.{settlements}
use Rattle.group_run.specs.Process.{Copy, Process}
use Rattle.partition_replica.specs.State.{is_touched}
use Rattle.group_run.specs.Replica.{Items, Replica, applied_to, items_after, kept_after, up_to}
use Rattle.head_service.specs.Settling.{HasSettled}
use Rattle.head_service.specs.Storage.{Storage}

-- the first update of a log that isn't empty
first-is : {X : Type 0} (xs : List X) (x : X) → slice_get xs 0 ≡ Some x → xs ≡ x ∷ drop 1 xs
first-is [] x is = absurd (cc is)
first-is (y ∷ xs) x is = ap (λ (z : Option _). elim z [ None ↦ y ∷ xs | Some w ↦ w ∷ xs ]) is

module _ (n : ℕ) (r : Replica) (u : Update) (first : slice_get r.log 0 ≡ Some u) (below : r.applied < n) where
  abbrev pub one : Replica
  one = applied_to (r.applied + 1) r

  rest : List Update
  rest = drop 1 r.log

  one-step : up_to (r.applied + 1) r ≡ u ∷ []
  one-step = let e : (r.applied + 1) - r.applied ≡ 1 = omega arith in ap (λ (k : ℕ). take k r.log) e ∙ ap (take 1) (first-is r.log u first)

  pub one-applied : one.applied ≡ r.applied + 1
  one-applied = ap (λ (us : List Update). r.applied + length us) one-step

  one-log : one.log ≡ rest
  unfolding rest
  one-log = let e : (r.applied + 1) - r.applied ≡ 1 = omega arith in ap (λ (k : ℕ). drop k r.log) e

  pub next-up : up_to n r ≡ u ∷ up_to n one
  unfolding rest
  next-up =
      let e : n - r.applied ≡ suc (n - (r.applied + 1)) = omega arith in
      ap (take (n - r.applied)) (first-is r.log u first)
      ∙ ap (λ (k : ℕ). take k (u ∷ rest)) e
      ∙ ap (λ (us : List Update). u ∷ us) (ap (λ (k : ℕ). take (n - k) rest) (sym one-applied) ∙ ap (take (n - one.applied)) (sym one-log))

  pub next-log : r.log ≡ u ∷ one.log
  unfolding rest
  next-log = first-is r.log u first ∙ ap (λ (us : List Update). u ∷ us) (sym one-log)

  items-next : items_after one.items (up_to n one) ≡ items_after r.items (up_to n r)
  items-next = ap (λ (us : List Update). items_after (items_after r.items us) (up_to n one)) one-step ∙ ap (items_after r.items) (sym next-up)

  kept-next : kept_after one.kept (up_to n one) ≡ kept_after r.kept (up_to n r)
  kept-next = ap (λ (us : List Update). kept_after (kept_after r.kept us) (up_to n one)) one-step ∙ ap (kept_after r.kept) (sym next-up)

  applied-next : one.applied + length (up_to n one) ≡ r.applied + length (up_to n r)
  applied-next = omega (arith, one-applied, ap length next-up)

  log-next : drop (n - one.applied) one.log ≡ drop (n - r.applied) r.log
  unfolding rest
  log-next =
      let e : n - r.applied ≡ suc (n - (r.applied + 1)) = omega arith in
      ap (λ (k : ℕ). drop (n - k) one.log) one-applied ∙ ap (drop (n - (r.applied + 1))) one-log
      ∙ sym (ap (drop (n - r.applied)) (first-is r.log u first) ∙ ap (λ (k : ℕ). drop k (u ∷ rest)) e)

  pub next-applied : applied_to n one ≡ applied_to n r
  next-applied =
      ap (λ (x : Items). record {
        items = x;
        applied = one.applied + length (up_to n one);
        log = drop (n - one.applied) one.log;
        kept = kept_after one.kept (up_to n one);
      }) items-next
      ∙ ap (λ (x : ℕ). record {
        items = items_after r.items (up_to n r);
        applied = x;
        log = drop (n - one.applied) one.log;
        kept = kept_after one.kept (up_to n one);
      }) applied-next
      ∙ ap (λ (x : List Update). record {
        items = items_after r.items (up_to n r);
        applied = r.applied + length (up_to n r);
        log = x;
        kept = kept_after one.kept (up_to n one);
      }) log-next
      ∙ ap (λ (x : List (Option Kept)). record {
        items = items_after r.items (up_to n r);
        applied = r.applied + length (up_to n r);
        log = drop (n - r.applied) r.log;
        kept = x;
      }) kept-next

-- nothing is left to apply
take-none : {X : Type 0} (k : ℕ) (xs : List X) → take k xs ≡ [] → drop k xs ≡ xs
take-none zero xs none = refl
take-none (suc k) [] none = refl
take-none (suc k) (x ∷ xs) none = absurd (cc none)

pub applied-none : (n : ℕ) (r : Replica) → up_to n r ≡ [] → applied_to n r ≡ r
applied-none n r none =
    ap (λ (us : List Update). record {
      items = items_after r.items us;
      applied = r.applied + length us;
      log = drop (n - r.applied) r.log;
      kept = kept_after r.kept us;
    }) none
    ∙ ap (λ (x : ℕ). record { items = r.items; applied = x; log = drop (n - r.applied) r.log; kept = r.kept }) (omega arith)
    ∙ ap (λ (us : List Update). record { items = r.items; applied = r.applied; log = us; kept = r.kept }) (take-none (n - r.applied) r.log none)

-- an empty log
pub up-empty : (n : ℕ) (r : Replica) → slice_get r.log 0 ≡ None → up_to n r ≡ []
up-empty n r none = by r.log (n - r.applied) none where
  by : (us : List Update) (k : ℕ) → slice_get us 0 ≡ None → take k us ≡ []
  by [] zero none = refl
  by [] (suc k) none = refl
  by (u ∷ us) k none = absurd (cc none)

-- a number that is reached
pub up-reached : (n : ℕ) (r : Replica) → n ≤ r.applied → up_to n r ≡ []
up-reached n r reached = let e : n - r.applied ≡ 0 = omega arith in ap (λ (k : ℕ). take k r.log) e

module _ (s : Dimensions) (d : ℕ) (u : Update) (us : List Update) where
  copies-next : (p : Process) (copies : List Copy) → map (copy_after s p.name d (u ∷ us)) copies
      ≡ map (copy_after s p.name d us) (map (copy_after s p.name d (u ∷ [])) copies)
  copies-next p [] = refl
  copies-next p (c ∷ copies) = ap (λ (x : Copy). x ∷ map (copy_after s p.name d (u ∷ us)) copies) (by (is_some (at None c.marks d)) refl)
      ∙ ap (λ (xs : List Copy). copy_after s p.name d us (copy_after s p.name d (u ∷ []) c) ∷ xs) (copies-next p copies) where
        by : (marked : Bool) → is_some (at None c.marks d) ≡ marked → copy_after s p.name d (u ∷ us) c
            ≡ copy_after s p.name d us (copy_after s p.name d (u ∷ []) c)
        by true marked =
            ap (λ (b : Bool). if b then c else record c { bytes = block_after s p.name d c.block (u ∷ us) c.bytes }) marked
            ∙ sym (ap (λ (b : Bool). copy_after s p.name d us (if b then c else record c { bytes = block_after s p.name d c.block (u ∷ []) c.bytes })) marked
            ∙ ap (λ (b : Bool). if b then c else record c { bytes = block_after s p.name d c.block us c.bytes }) marked)
        by false marked =
            ap (λ (b : Bool). if b then c else record c { bytes = block_after s p.name d c.block (u ∷ us) c.bytes }) marked
            ∙ sym (ap (λ (b : Bool). copy_after s p.name d us (if b then c else record c { bytes = block_after s p.name d c.block (u ∷ []) c.bytes })) marked
            ∙ ap (λ (b : Bool). if b then record c { bytes = block_after s p.name d c.block (u ∷ []) c.bytes } else
            record c { bytes = block_after s p.name d c.block us (block_after s p.name d c.block (u ∷ []) c.bytes) })
            marked)

  rebuilt-next : (b : ℕ) (blocks : List (Option (List ℕ))) → rebuilt_after s d (u ∷ us) b blocks ≡ rebuilt_after s d us b (rebuilt_after s d (u ∷ []) b blocks)
  rebuilt-next b [] = refl
  rebuilt-next b (None ∷ blocks) = ap (λ (xs : List (Option (List ℕ))). None ∷ xs) (rebuilt-next (suc b) blocks)
  rebuilt-next b (Some bytes ∷ blocks) =
      ap (λ (xs : List (Option (List ℕ))). Some (block_after s (DataNode d) d b (u ∷ us) bytes) ∷ xs)
      (rebuilt-next (suc b) blocks)

  rebuilt-put : (rebuilt : List (List (Option (List ℕ)))) → put [] (put [] rebuilt d (rebuilt_after s d (u ∷ []) 0 (at [] rebuilt d))) d
      (rebuilt_after s d us 0 (at [] (put [] rebuilt d (rebuilt_after s d (u ∷ []) 0 (at [] rebuilt d))) d))
      ≡ put [] rebuilt d (rebuilt_after s d (u ∷ us) 0 (at [] rebuilt d))
  rebuilt-put rebuilt =
      let once : List (Option (List ℕ)) = rebuilt_after s d (u ∷ []) 0 (at [] rebuilt d) in
      put-put [] rebuilt d once (rebuilt_after s d us 0 (at [] (put [] rebuilt d once) d))
      ∙ ap (λ (blocks : List (Option (List ℕ))). put [] rebuilt d (rebuilt_after s d us 0 blocks)) (at-put [] [] rebuilt d once)
      ∙ ap (put [] rebuilt d) (sym (rebuilt-next 0 (at [] rebuilt d)))

  pub bytes-next : (p : Process) → bytes_after s d us (bytes_after s d (u ∷ []) p) ≡ bytes_after s d (u ∷ us) p
  bytes-next p =
      ap (λ (copies : List Copy). record p {
        space = space_after s p.name d (u ∷ us) p.space;
        as_row = record p.as_row { copies = copies };
        as_leader = (bytes_after s d us (bytes_after s d (u ∷ []) p)).as_leader;
      }) (sym (copies-next p p.as_row.copies))
      ∙ ap (λ (rebuilt : List (List (Option (List ℕ)))). record p {
        space = space_after s p.name d (u ∷ us) p.space;
        as_row = (bytes_after s d (u ∷ us) p).as_row;
        as_leader = record p.as_leader { rebuilt = rebuilt };
      }) (rebuilt-put p.as_leader.rebuilt)

-- no updates leave a process as it is, where it has blocks of the partition
module _ (s : Dimensions) (d : ℕ) where
  copies-none : (p : Process) (copies : List Copy) → map (copy_after s p.name d []) copies ≡ copies
  copies-none p [] = refl
  copies-none p (c ∷ copies) = ap (λ (x : Copy). x ∷ map (copy_after s p.name d []) copies)
      (by (is_some (at None c.marks d))) ∙ ap (λ (xs : List Copy). c ∷ xs) (copies-none p copies) where
        by : (marked : Bool) → (if marked then c else record c { bytes = c.bytes }) ≡ c
        by true = refl
        by false = refl

  rebuilt-none : (b : ℕ) (blocks : List (Option (List ℕ))) → rebuilt_after s d [] b blocks ≡ blocks
  rebuilt-none b [] = refl
  rebuilt-none b (None ∷ blocks) = ap (λ (xs : List (Option (List ℕ))). None ∷ xs) (rebuilt-none (suc b) blocks)
  rebuilt-none b (Some bytes ∷ blocks) = ap (λ (xs : List (Option (List ℕ))). Some bytes ∷ xs) (rebuilt-none (suc b) blocks)

  pub bytes-none : (p : Process) → d < length p.as_leader.rebuilt → bytes_after s d [] p ≡ p
  bytes-none p within =
      ap (λ (copies : List Copy). record p {
        as_row = record p.as_row { copies = copies };
        as_leader = (bytes_after s d [] p).as_leader;
      }) (copies-none p p.as_row.copies)
      ∙ ap (λ (rebuilt : List (List (Option (List ℕ)))). record p { as_leader = record p.as_leader { rebuilt = rebuilt } })
      (ap (put [] p.as_leader.rebuilt d) (rebuilt-none 0 (at [] p.as_leader.rebuilt d)) ∙ put-at [] [] p.as_leader.rebuilt d within)

  -- updates leave the number of partitions that it has blocks of
  pub blocks-kept : (us : List Update) (p : Process) → d < length p.as_leader.rebuilt
      → length (bytes_after s d us p).as_leader.rebuilt ≡ length p.as_leader.rebuilt
  blocks-kept us p within = length-put [] p.as_leader.rebuilt d (rebuilt_after s d us 0 (at [] p.as_leader.rebuilt d)) within

-- what is owed once one update more is settled
pub owed-next : (needed owed touched key : Bool) → (key ≡ true → touched ≡ true)
    → (needed || ((owed || touched) || (key || false))) ≡ true → (needed || (owed || touched)) ≡ true
owed-next true owed touched key within is = refl
owed-next false true touched key within is = refl
owed-next false false true key within is = refl
owed-next false false false true within is = within refl
owed-next false false false false within is = is

-- the key of the first update, and those of the others
pub touched-behind : (u : Update) (us : List Update) (q : List ℕ) → is_touched us q ≡ true → is_touched (u ∷ us) q ≡ true
touched-behind u us q is = ap (λ (b : Bool). same_key u.key q || b) is ∙ or-true (same_key u.key q)

pub touched-front : (u : Update) (us : List Update) (q : List ℕ) → same_key u.key q ≡ true → is_touched (u ∷ us) q ≡ true
touched-front u us q is = ap (λ (b : Bool). b || is_touched us q) is

-- what holds of all holds behind the first
pub all-behind : {X : Type 0} (P : X → Type 0) (x : X) (xs ys : List X) → ys ≡ x ∷ xs → All P ys → All P xs
all-behind P x xs ys is all = let whole : All P (x ∷ xs) = subst (All P) is all in λ k d lt. whole (suc k) d (omega (arith, lt))

-- where nothing is left that could be settled, all of it is
pub nothing-left : (d n : ℕ) (r first : Replica) (b c : Storage) (before now : List Settlement) → up_to n r ≡ [] → d < length c.process.as_leader.rebuilt
    → applied_to n r ≡ applied_to n first → bytes_after b.shape d (up_to n r) c.process ≡ bytes_after b.shape d (up_to n first) b.process
    → now ++ settlements d (up_to n r) ≡ before ++ settlements d (up_to n first) → HasSettled d n first r b c before now
nothing-left d n r first b c before now none blocks replica bytes settled = record {
  applied = record {
    replica = sym (applied-none n r none) ∙ replica;
    process = sym (ap (λ (us : List Update). bytes_after b.shape d us c.process) none ∙ bytes-none b.shape d c.process blocks) ∙ bytes;
  };
  settled = sym (ap (λ (us : List Update). now ++ settlements d us) none ∙ append-nil now) ∙ settled;
}
