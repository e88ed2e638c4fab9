-- No head keeps a later call of a caller than its last, so no trace of it is told that it is stale.
use Rattle.std.proofs.Common.{ℕ, zero, suc, ◌≡◌, ◌==◌, ◌⊎◌, inl, inr, Bool, true, false, List, [], ◌∷◌, take, Option}
use Rattle.std.proofs.Common.{Some, None, Contains, refl, sym, ap, ◌∙◌, if◌then◌else◌, arith}
use Rattle.std.proofs.lemmas.Grind.{common_steps}
use Rattle.std.specs.Prelude.{slice_get}
use Rattle.group_types.specs.Lists.{at}
use Rattle.group_types.specs.declared.run.Run.{Run}
use Rattle.memc_table.specs.Act.{key_of}
use Rattle.memc_table.specs.Contents.{Contents, empty_table, table_after}
use Rattle.group_calls.specs.declared.entry.Entry.{Entry}
use Rattle.group_run.specs.Keeping.{IsKept, last_by}
use Rattle.group_run.specs.Meaning.{Logged, is_update_of, next_run, runs_left, updates_from, updates_of}
use Rattle.group_run.specs.Replica.{Replica}
use Rattle.group_run.specs.World.{World, front_if}
use Rattle.group_message.specs.declared.kept.Kept.{Kept}
use Rattle.law_log.proofs.Turnings.{contained-get, get-contained, get-taken}

-- the last update of a caller's is one of its
last-there : (caller : ℕ) (us : List Logged) (before : Option Logged) (u : Logged) → last_by caller before us ≡ Some u
    → (before ≡ Some u) ⊎ (Contains us u × (u.entry.caller ≡ caller))
last-there caller [] before u is = inl is
last-there caller (v ∷ us) before u is =
    by (v.entry.caller == caller) refl (last-there caller us (if v.entry.caller == caller then Some v else before) u
    is) where
      later : Contains us u × (u.entry.caller ≡ caller) → Contains (v ∷ us) u × (u.entry.caller ≡ caller)
      later ((k, low, there), its) = ((suc k, omega (arith, low), there), its)

      by : (b : Bool) → (v.entry.caller == caller) ≡ b → ((if v.entry.caller == caller then Some v else before) ≡ Some u)
          ⊎ (Contains us u × (u.entry.caller ≡ caller))
          → (before ≡ Some u) ⊎ (Contains (v ∷ us) u × (u.entry.caller ≡ caller))
      by b test (inr there) = inr (later there)
      by false test (inl is) = inl (sym (ap (λ (b : Bool). if b then Some v else before) test) ∙ is)
      by true test (inl is) =
          let same : v ≡ u = ap (λ (o : Option Logged). elim o [ None ↦ v | Some y ↦ y ]) (sym (ap (λ (b : Bool). if b then Some v else before) test) ∙ is) in
          let its : v.entry.caller ≡ caller = grind (arith, common_steps) in
          inr ((0, omega arith, same), ap (λ (y : Logged). y.entry.caller) (sym same) ∙ its)

-- the entry of an update stands in the log
update-logged : (k d : ℕ) (t : Contents) (runs : List (Option Run)) (es : List Entry) (u : Logged)
    → Contains (updates_from k d t runs es) u → (place : ℕ) × (slice_get es place ≡ Some u.entry)
update-logged k d t runs [] u (n, low, is) = absurd (omega (arith, low))
update-logged k d t runs (e ∷ es) u there =
    by (is_update_of k d e) there (λ more. update-logged k d (table_after t e.op) (runs_left (is_update_of k d e) runs)
    es u more) where
      x : Logged
      x = record { entry = e; run = next_run runs; item = (table_after t e.op).items (key_of e.op.act) }

      rest : List Logged
      rest = updates_from k d (table_after t e.op) (runs_left (is_update_of k d e) runs) es

      later : (place : ℕ) × (slice_get es place ≡ Some u.entry) → (place : ℕ) × (slice_get (e ∷ es) place ≡ Some u.entry)
      later (place, is) = (suc place, is)

      by : (b : Bool) → Contains (front_if b x rest) u
          → (Contains rest u → (place : ℕ) × (slice_get es place ≡ Some u.entry)) → (place : ℕ)
          × (slice_get (e ∷ es) place ≡ Some u.entry)
      by false more deeper = later (deeper more)
      by true (zero, low, is) deeper = (0, ap (λ (y : Logged). Some y.entry) is)
      by true (suc n, low, is) deeper = later (deeper (n, omega (arith, low), is))

taken-there : (n : ℕ) (us : List Logged) (u : Logged) → Contains (take n us) u → Contains us u
taken-there n us u there = let found = contained-get (take n us) u there in get-contained us found.0 u (get-taken n us found.0 u found.1)

-- so what is kept of a caller is of an entry of its
pub kept-logged : (w : World) (d : ℕ) (r : Replica) (caller : ℕ) (kept : Kept) → IsKept (last_by caller None (take r.applied (updates_of w d))) (Some kept)
    → (place : ℕ) × (e : Entry) × (slice_get w.log place ≡ Some e) × (e.caller ≡ caller) × (e.call ≡ kept.call)
kept-logged w d r caller kept is = by (last_by caller None (take r.applied (updates_of w d))) refl is where
  by : (o : Option Logged) → last_by caller None (take r.applied (updates_of w d)) ≡ o → IsKept o (Some kept)
      → (place : ℕ) × (e : Entry) × (slice_get w.log place ≡ Some e) × (e.caller ≡ caller) × (e.call ≡ kept.call)
  by None same none = absurd none
  by (Some u) same fits = which (last-there caller (take r.applied (updates_of w d)) None u same) where
    which : (◌≡◌ {A = Option Logged} None (Some u))
        ⊎ (Contains (take r.applied (updates_of w d)) u × (u.entry.caller ≡ caller)) → (place : ℕ) × (e : Entry)
        × (slice_get w.log place ≡ Some e) × (e.caller ≡ caller) × (e.call ≡ kept.call)
    which (inl none) = cc none
    which (inr (there, its)) =
        let logged = update-logged w.shape.k d (empty_table w.shape.k) (at [] w.places d) w.log u (taken-there r.applied (updates_of w d) u there) in
        (logged.0, u.entry, logged.1, its, sym fits.0)
