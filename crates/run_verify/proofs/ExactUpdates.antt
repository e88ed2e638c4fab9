-- The updates of a log that has an entry more.
use Rattle.std.proofs.Common.{◌≡◌, ◌<◌, ℕ, suc, Bool, true, false, List, [], ◌∷◌, ◌++◌, ◌∙◌, map, drop, length, Option, append_assoc, refl, sym, ap, subst}
use Rattle.std.proofs.Math.Seq.{drop-nil}
use Rattle.std.proofs.lemmas.List.{append-nil, map-append}
use Rattle.group_types.specs.Dimensions.{Dimensions}
use Rattle.group_types.specs.Lists.{at}
use Rattle.group_types.specs.declared.run.Run.{Run}
use Rattle.memc_table.specs.Act.{key_of}
use Rattle.memc_table.specs.Contents.{Contents, empty_table, table_after}
use Rattle.group_calls.specs.Log.{table_of}
use Rattle.group_calls.specs.declared.entry.Entry.{Entry}
use Rattle.group_run.specs.Meaning.{Logged, is_update_of, next_run, runs_left, updates_from}
use Rattle.group_run.specs.World.{front_if}
use Rattle.run_verify.specs.Checked.{ArePlaced}
use Rattle.run_verify.specs.Updates.{StandRight, StandsRight, brings_value, updates_by}

drop-one : {A : Type 0} (n : ℕ) (xs : List A) → drop n (drop 1 xs) ≡ drop (suc n) xs
drop-one n [] = drop-nil n ∙ sym (drop-nil (suc n))
drop-one n (x ∷ xs) = refl

pub drop-none : {A : Type 0} (xs : List A) → xs ≡ drop 0 xs
drop-none [] = refl
drop-none (x ∷ xs) = refl

-- the update that an entry is
abbrev pub update_by : Contents → List (Option Run) → Entry → Logged
update_by t runs e = record { entry = e; run = next_run runs; item = (table_after t e.op).items (key_of e.op.act) }

pub updates-append : (k d : ℕ) (xs ys : List Entry) (t : Contents) (runs : List (Option Run))
    → updates_from k d t runs (xs ++ ys) ≡ updates_from k d t runs xs ++ updates_from k d (table_of t xs) (drop (length (updates_from k d t runs xs)) runs) ys
updates-append k d [] ys t runs = ap (λ (r : List (Option Run)). updates_from k d t r ys) (drop-none runs)
updates-append k d (e ∷ xs) ys t runs = by (is_update_of k d e) (λ r. updates-append k d xs ys (table_after t e.op) r)
  where
    u : Contents
    u = table_after t e.op

    by : (b : Bool) → ((r : List (Option Run)) → updates_from k d u r (xs ++ ys) ≡ updates_from k d u r xs
        ++ updates_from k d (table_of u xs) (drop (length (updates_from k d u r xs)) r) ys)
        → front_if b (update_by t runs e) (updates_from k d u (runs_left b runs) (xs ++ ys))
        ≡ front_if b (update_by t runs e) (updates_from k d u (runs_left b runs) xs)
        ++ updates_from k d (table_of u xs)
        (drop (length (front_if b (update_by t runs e) (updates_from k d u (runs_left b runs) xs))) runs) ys
    by true onward =
        let rest = onward (drop 1 runs) in
        let same = ap (λ (r : List (Option Run)). updates_from k d (table_of u xs) r ys) (drop-one (length (updates_from k d u (drop 1 runs) xs)) runs) in
        ap (λ (us : List Logged). update_by t runs e ∷ us) (rest ∙ ap (λ (us : List Logged). updates_from k d u (drop 1 runs) xs ++ us) same)
    by false onward = onward runs

pub stand-at : (s : Dimensions) (before us more : List Logged) (u : Logged) → StandRight s before (us ++ u ∷ more)
    → StandsRight s (before ++ us) u (brings_value u.entry.op.act)
stand-at s before [] more u stand = rw (append-nil before) stand.0
stand-at s before (v ∷ us) more u stand = subst (λ (b : List Logged). StandsRight s b u (brings_value u.entry.op.act))
    (append_assoc before (v ∷ []) us) (stand-at s (before ++ v ∷ []) us more u stand.1)

-- an entry of a log that is an update of a partition, behind those before
pub record Update (s : Dimensions) (runs : List (List (Option Run))) (d : ℕ) (before : List Entry) (e : Entry) (u : Logged) : Type 0 where
  pub back : List (Option Run)
  pub push : updates_by s runs (before ++ e ∷ []) d ≡ updates_by s runs before d ++ u ∷ []
  pub runs_are : at [] runs d ≡ map (λ v. v.run) (updates_by s runs before d) ++ u.run ∷ back
  pub right : StandsRight s (updates_by s runs before d) u (brings_value e.op.act)

-- the run that is next for an entry's partition
abbrev pub runs_behind : Dimensions → List (List (Option Run)) → ℕ → List Entry → List (Option Run)
runs_behind s runs d before = drop (length (updates_by s runs before d)) (at [] runs d)

pub next-update : (s : Dimensions) (runs : List (List (Option Run))) (log before more : List Entry) (e : Entry) (d : ℕ)
    → ArePlaced s log runs → d < s.k → log ≡ before ++ e ∷ more → is_update_of s.k d e ≡ true
    → Update s runs d before e (update_by (table_of (empty_table s.k) before) (runs_behind s runs d before) e)
next-update s runs log before more e d placed low is update = record {
  back = map (λ v. v.run) behind;
  push = updates-append s.k d before (e ∷ []) (empty_table s.k) (at [] runs d)
      ∙ ap (λ (us : List Logged). updates_by s runs before d ++ us)
      (ap (λ (b : Bool). front_if b u (updates_from s.k d (table_after t e.op) (runs_left b left) [])) update);
  runs_are = sym (placed.numbers d low) ∙ ap (map (λ v. v.run)) whole ∙ map-append (λ v. v.run) (updates_by s runs before d) (u ∷ behind);
  right = stand-at s [] (updates_by s runs before d) behind u (subst (StandRight s []) whole (placed.right d low));
}
  where
    t : Contents
    t = table_of (empty_table s.k) before

    left : List (Option Run)
    left = runs_behind s runs d before

    u : Logged
    u = update_by t left e

    behind : List Logged
    behind = updates_from s.k d (table_after t e.op) (drop 1 left) more

    whole : updates_by s runs log d ≡ updates_by s runs before d ++ u ∷ behind
    whole = ap (λ (es : List Entry). updates_by s runs es d) is ∙ updates-append s.k d before (e ∷ more) (empty_table s.k) (at [] runs d)
        ∙ ap (λ (us : List Logged). updates_by s runs before d ++ us)
        (ap (λ (b : Bool). front_if b u (updates_from s.k d (table_after t e.op) (runs_left b left) more)) update)

-- one that is none
pub no-update : (s : Dimensions) (runs : List (List (Option Run))) (before : List Entry) (e : Entry) (d : ℕ)
    → is_update_of s.k d e ≡ false → updates_by s runs (before ++ e ∷ []) d ≡ updates_by s runs before d
no-update s runs before e d other =
    updates-append s.k d before (e ∷ []) (empty_table s.k) (at [] runs d)
    ∙ ap (λ (us : List Logged). updates_by s runs before d ++ us)
    (ap (λ (b : Bool). front_if b (update_by (table_of (empty_table s.k) before) (runs_behind s runs d before) e)
    (updates_from s.k d (table_after (table_of (empty_table s.k) before) e.op)
    (runs_left b (runs_behind s runs d before)) [])) other)
    ∙ append-nil (updates_by s runs before d)
