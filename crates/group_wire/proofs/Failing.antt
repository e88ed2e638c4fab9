-- A permitted set fails, one process after the other.
use Rattle.std.proofs.Common.{ℕ, zero, suc, ◌≡◌, ◌≢◌, ◌<◌, ◌≤◌, ◌+◌, ◌⊎◌, ◌&&◌, ◌||◌, inl, inr, nat_lt, not, Bool, true}
use Rattle.std.proofs.Common.{false, List, [], ◌∷◌, ◌++◌, refl, sym, ap, subst, ◌∙◌, arith}
use Rattle.std.proofs.lemmas.Bool.{cases_lt}
use Rattle.std.proofs.lemmas.Grind.{common_steps}
use Rattle.std.proofs.lemmas.List.{append-nil, append_assoc}
use Rattle.std.specs.List.{range_with_len}
use Rattle.group_types.specs.Dimensions.{Dimensions}
use Rattle.group_types.specs.Names.{IsProcess, index_of, process_at}
use Rattle.group_types.specs.declared.process.ProcessId.{ProcessId}
use Rattle.group_types.proofs.Names.{index-below, index-process_at, process_at-in, process_at-index, same-cases}
use Rattle.group_calls.specs.declared.event.Answer.TheVariants as says
use Rattle.group_calls.specs.declared.event.Event.TheVariants as event
use Rattle.group_run.specs.Process.{Node}
use Rattle.group_run.specs.World.{World, after, all_change, front_if, node_in, process_node}
use Rattle.group_wire.specs.Composed.{Made, failures_at}
use Rattle.group_wire.specs.Sets.{Processes, either, with_one}
use Rattle.group_wire.specs.State.{Works}
use Rattle.group_wire.proofs.Changes.{changed-here, changed-other}
use Rattle.group_wire.proofs.Composing.{Composes}
use Rattle.group_wire.proofs.Extending.{after-made, events_in, makes-more, nodes-many, shape-after}
use Rattle.group_wire.proofs.Mirrors.{Mirrors, mirrors-as, mirrors-failed}
use Rattle.group_wire.proofs.Requests.{Living}

module _ (s : Dimensions) (cut : ProcessId → Processes) (taken : ProcessId → Processes) (works : Works) where
  -- one process fails
  fails-one : (failed : Processes) (made : List Made) (x : ProcessId) → Composes s cut failed taken works made
      → IsProcess s x → failed x ≡ false → ((q : ProcessId) → Living s failed q → taken q x ≡ false)
      → Composes s cut (with_one failed x) taken works (made ++ record { event = event.Fail x 0; answer = says.Done } ∷ [])
  fails-one failed made x c xin lives fresh = record {
    makes = makes-more s made (record { event = event.Fail x 0; answer = says.Done }) c.makes
        (subst (λ (t : Dimensions). IsProcess t x) (sym shape) xin) (λ i. (change i).answer);
    mirrors = subst (λ (ns : List Node). Mirrors s ns cut (with_one failed x) taken works)
        (sym (ap (λ (w : World). w.nodes) (after-made s made (record { event = event.Fail x 0; answer = says.Done })) ∙ (λ i. (change i).nodes)))
        (mirrors-failed s w.nodes (nodes-many s (events_in made) c.makes.run) cut failed taken works c.mirrors [] x xin lives fresh);
  } where
    w : World
    w = after s (events_in made)

    shape : (after s (events_in made)).shape ≡ s
    shape = shape-after s (events_in made) c.makes.run

    change : all_change (process_node (after s (events_in made)) x).dead (after s (events_in made)).shape
        (after s (events_in made)).nodes x 0 ≡ all_change false s (after s (events_in made)).nodes x 0
    change =
        (λ i. all_change (node_in (shape i) (after s (events_in made)).nodes x).dead (shape i) (after s (events_in made)).nodes x 0)
        ∙ (λ i. all_change ((c.mirrors.dead x xin ∙ lives) i) s (after s (events_in made)).nodes x 0)

  composes-as : (failed now : Processes) (made : List Made) → ((p : ProcessId) → IsProcess s p → failed p ≡ now p)
      → Composes s cut failed taken works made → Composes s cut now taken works made
  composes-as failed now made same c = record {
    makes = c.makes;
    mirrors = mirrors-as s (after s (events_in made)).nodes (nodes-many s (events_in made) c.makes.run) cut failed taken works c.mirrors now same;
  }

  lt-true : (i a : ℕ) → i < a → nat_lt i a ≡ true
  lt-true i a low = grind (arith, common_steps)

  lt-false : (i a : ℕ) → a ≤ i → nat_lt i a ≡ false
  lt-false i a high = grind (arith, common_steps)

  lt-next : (i a : ℕ) → i ≢ a → nat_lt i a ≡ nat_lt i (a + 1)
  lt-next i a other = by (cases_lt i a) where
    by : (i < a) ⊎ (a ≤ i) → nat_lt i a ≡ nat_lt i (a + 1)
    by (inl low) = lt-true i a low ∙ sym (lt-true i (a + 1) (omega (arith, low)))
    by (inr high) = lt-false i a high ∙ sym (lt-false i (a + 1) (omega (arith, high, other)))

  module _ (failed set : Processes) (taken-failed : (q x : ProcessId) → Living s failed q → taken q x ≡ true → failed x ≡ true) where
    -- who has failed once those before index a have
    abbrev so_far : ℕ → Processes
    so_far a p = failed p || (set p && nat_lt (index_of s p) a)

    later-same : (a : ℕ) (p : ProcessId) → IsProcess s p → index_of s p ≢ a → so_far a p ≡ so_far (a + 1) p
    later-same a p pin other = ap (λ (b : Bool). failed p || (set p && b)) (lt-next (index_of s p) a other)

    index-other : (a : ℕ) (p : ProcessId) → IsProcess s p → p ≢ process_at s a → index_of s p ≢ a
    index-other a p pin other same = other (sym (process_at-index s p pin) ∙ ap (process_at s) same)

    fails-from : (n a : ℕ) (made : List Made) → a + n ≡ s.k + s.m → Composes s cut (so_far a) taken works made
        → Composes s cut (so_far (a + n)) taken works (made ++ failures_at s failed set (range_with_len a n))
    fails-from zero a made end c =
        subst (λ (m : List Made). Composes s cut (so_far (a + 0)) taken works m) (sym (append-nil made))
        (subst (λ (b : ℕ). Composes s cut (so_far b) taken works made) (omega arith) c)
    fails-from (suc n) a made end c =
        subst (λ (b : ℕ). Composes s cut (so_far b) taken works (made ++ failures_at s failed set (range_with_len a (suc n)))) next
        (by (set (process_at s a) && not (failed (process_at s a))) refl (λ m d. fails-from n (a + 1) m (omega (arith, end)) d))
      where
        next : a + 1 + n ≡ a + suc n
        next = omega arith

        x : ProcessId
        x = process_at s a

        xin : IsProcess s (process_at s a)
        xin = process_at-in s a (omega (arith, end))

        at_a : index_of s (process_at s a) ≡ a
        at_a = index-process_at s a

        by : (b : Bool) → (set (process_at s a) && not (failed (process_at s a))) ≡ b
            → ((m : List Made) → Composes s cut (so_far (a + 1)) taken works m → Composes s cut (so_far (a + 1 + n))
            taken works (m ++ failures_at s failed set (range_with_len (a + 1) n)))
            → Composes s cut (so_far (a + 1 + n)) taken works
            (made ++ front_if b (record { event = event.Fail (process_at s a) 0; answer = says.Done })
            (failures_at s failed set (range_with_len (a + 1) n)))
        by true is later =
            subst (λ (m : List Made). Composes s cut (so_far (a + 1 + n)) taken works m)
            (append_assoc made (record { event = event.Fail (process_at s a) 0; answer = says.Done } ∷ [])
            (failures_at s failed set (range_with_len (a + 1) n)))
            (later (made ++ record { event = event.Fail (process_at s a) 0; answer = says.Done } ∷ [])
            (composes-as (with_one (so_far a) (process_at s a)) (so_far (a + 1)) _ same
            (fails-one (so_far a) made (process_at s a) c xin not_yet fresh)))
          where
            both : (b c : Bool) → (b && not c) ≡ true → (b ≡ true) × (c ≡ false)
            both true false is = (refl, refl)
            both true true is = cc is
            both false c is = cc is

            parts : (set (process_at s a) ≡ true) × (failed (process_at s a) ≡ false)
            parts = both (set (process_at s a)) (failed (process_at s a)) is

            not_yet : so_far a (process_at s a) ≡ false
            not_yet = (λ i. parts.1 i || (parts.0 i && lt-false (index_of s (process_at s a)) a (omega (arith, at_a)) i))

            untaken : (q : ProcessId) (b : Bool) → taken q (process_at s a) ≡ b → Living s failed q → taken q (process_at s a) ≡ false
            untaken q false is ql = is
            untaken q true is ql = cc (taken-failed q (process_at s a) ql is, parts.1)

            lived : (f g : Bool) → (f || g) ≡ false → f ≡ false
            lived true g is = cc is
            lived false g is = refl

            fresh : (q : ProcessId) → Living s (so_far a) q → taken q (process_at s a) ≡ false
            fresh q ql = untaken q (taken q (process_at s a)) refl (ql.0, lived (failed q) (set q && nat_lt (index_of s q) a) ql.1)

            now : so_far (a + 1) (process_at s a) ≡ true
            now = (λ i. parts.1 i || (parts.0 i && lt-true (index_of s (process_at s a)) (a + 1) (omega (arith, at_a)) i))

            same : (p : ProcessId) → IsProcess s p → with_one (so_far a) (process_at s a) p ≡ so_far (a + 1) p
            same p pin = which (same-cases p (process_at s a)) where
              which : (p ≡ process_at s a) ⊎ (p ≢ process_at s a) → with_one (so_far a) (process_at s a) p ≡ so_far (a + 1) p
              which (inl here) = ap (with_one (so_far a) (process_at s a)) here
                  ∙ changed-here (so_far a) (process_at s a) true ∙ sym now ∙ ap (so_far (a + 1)) (sym here)
              which (inr other) = changed-other (so_far a) (process_at s a) p true other ∙ later-same a p pin (index-other a p pin other)
        by false is later = later made (composes-as (so_far a) (so_far (a + 1)) made same c) where
          still : (f b c d : Bool) → (b && not f) ≡ false → (f || (b && c)) ≡ (f || (b && d))
          still true b c d is = refl
          still false true c d is = cc is
          still false false c d is = refl

          same : (p : ProcessId) → IsProcess s p → so_far a p ≡ so_far (a + 1) p
          same p pin = which (same-cases p (process_at s a)) where
            which : (p ≡ process_at s a) ⊎ (p ≢ process_at s a) → so_far a p ≡ so_far (a + 1) p
            which (inl here) = still (failed p) (set p) (nat_lt (index_of s p) a) (nat_lt (index_of s p) (a + 1))
                ((λ i. set (here i) && not (failed (here i))) ∙ is)
            which (inr other) = later-same a p pin (index-other a p pin other)

    -- all of a set fail
    pub composes-permit : (made : List Made) → Composes s cut failed taken works made
        → Composes s cut (either failed set) taken works (made ++ failures_at s failed set (range_with_len 0 (s.k + s.m)))
    composes-permit made c =
        composes-as (so_far (0 + (s.k + s.m))) (either failed set) _ last
        (fails-from (s.k + s.m) 0 made (omega arith) (composes-as failed (so_far 0) made first c))
      where
        none : (f b c : Bool) → c ≡ false → f ≡ (f || (b && c))
        none true b c is = refl
        none false true c is = sym is
        none false false c is = refl

        first : (p : ProcessId) → IsProcess s p → failed p ≡ so_far 0 p
        first p pin = none (failed p) (set p) (nat_lt (index_of s p) 0) (lt-false (index_of s p) 0 (omega arith))

        all : (f b c : Bool) → c ≡ true → (f || (b && c)) ≡ (f || b)
        all true b c is = refl
        all false true c is = is
        all false false c is = refl

        last : (p : ProcessId) → IsProcess s p → so_far (0 + (s.k + s.m)) p ≡ either failed set p
        last p pin = all (failed p) (set p) (nat_lt (index_of s p) (0 + (s.k + s.m)))
            (lt-true (index_of s p) (0 + (s.k + s.m)) (let low = index-below s p pin in omega (arith, low)))
