-- The updates of a partition in a log, and the log up to one of them, as the log grows.
use Rattle.std.proofs.Common.{ℕ, zero, suc, ◌≡◌, ◌<◌, ◌≤◌, Bool, true, false, List, [], ◌∷◌, ◌++◌, length, drop, Option, refl, ap, ◌∙◌, arith}
use Rattle.group_types.specs.declared.run.Run.{Run}
use Rattle.memc_table.specs.Act.{key_of}
use Rattle.memc_table.specs.Contents.{Contents, table_after}
use Rattle.group_calls.specs.Log.{table_of}
use Rattle.group_calls.specs.declared.entry.Entry.{Entry}
use Rattle.group_run.specs.Meaning.{Logged, cut_after, is_update_of, left_after, next_run, runs_left, updates_from}
use Rattle.group_run.specs.World.{front_if}

-- one more where an entry is an update
abbrev pub one_if : Bool → ℕ → ℕ
one_if true n = suc n
one_if false n = n

-- how many updates of partition d a log has
abbrev pub count_in : ℕ → ℕ → List Entry → ℕ
count_in k d [] = 0
count_in k d (e ∷ es) = one_if (is_update_of k d e) (count_in k d es)

module _ (k d : ℕ) where
  pub count-push : (es : List Entry) (e : Entry) → count_in k d (es ++ e ∷ []) ≡ one_if (is_update_of k d e) (count_in k d es)
  count-push [] e = refl
  count-push (x ∷ xs) e = ap (one_if (is_update_of k d x)) (count-push xs e) ∙ swap (is_update_of k d x) (is_update_of k d e) where
    swap : (a b : Bool) → one_if a (one_if b (count_in k d xs)) ≡ one_if b (one_if a (count_in k d xs))
    swap true true = refl
    swap true false = refl
    swap false true = refl
    swap false false = refl

  -- more runs than there are updates change nothing
  pub updates-runs : (t : Contents) (runs more : List (Option Run)) (es : List Entry) → count_in k d es ≤ length runs
      → updates_from k d t (runs ++ more) es ≡ updates_from k d t runs es
  updates-runs t runs more [] within = refl
  updates-runs t runs more (e ∷ es) within = by (is_update_of k d e) runs within (λ rest low. updates-runs (table_after t e.op) rest more es low) where
    by : (b : Bool) (runs : List (Option Run)) → one_if b (count_in k d es) ≤ length runs
        → ((rest : List (Option Run)) → count_in k d es ≤ length rest → updates_from k d (table_after t e.op)
        (rest ++ more) es ≡ updates_from k d (table_after t e.op) rest es)
        → front_if b (record {
          entry = e;
          run = next_run (runs ++ more);
          item = (table_after t e.op).items (key_of e.op.act);
        })
        (updates_from k d (table_after t e.op) (runs_left b (runs ++ more)) es)
        ≡ front_if b (record { entry = e; run = next_run runs; item = (table_after t e.op).items (key_of e.op.act) })
        (updates_from k d (table_after t e.op) (runs_left b runs) es)
    by false runs low later = later runs low
    by true [] low later = absurd (omega arith)
    by true (r ∷ rs) low later =
        ap (λ (us : List Logged). record { entry = e; run = r; item = (table_after t e.op).items (key_of e.op.act) }
        ∷ us) (later rs (omega arith))

  -- one more entry
  pub updates-push : (t : Contents) (runs : List (Option Run)) (es : List Entry) (e : Entry) → updates_from k d t runs (es ++ e ∷ [])
      ≡ updates_from k d t runs es ++ front_if (is_update_of k d e)
      (record { entry = e; run = next_run (drop (count_in k d es) runs); item = (table_after (table_of t es) e.op).items (key_of e.op.act) }) []
  updates-push t runs [] e = refl
  updates-push t runs (x ∷ xs) e = by (is_update_of k d x) (λ rest. updates-push (table_after t x.op) rest xs e) where
    by : (b : Bool) → ((rest : List (Option Run)) → updates_from k d (table_after t x.op) rest (xs ++ e ∷ [])
        ≡ updates_from k d (table_after t x.op) rest xs
        ++ front_if (is_update_of k d e)
        (record {
          entry = e;
          run = next_run (drop (count_in k d xs) rest);
          item = (table_after (table_of (table_after t x.op) xs) e.op).items (key_of e.op.act);
        }) [])
        → front_if b (record { entry = x; run = next_run runs; item = (table_after t x.op).items (key_of x.op.act) })
        (updates_from k d (table_after t x.op) (runs_left b runs) (xs ++ e ∷ []))
        ≡ front_if b (record { entry = x; run = next_run runs; item = (table_after t x.op).items (key_of x.op.act) })
        (updates_from k d (table_after t x.op) (runs_left b runs) xs)
        ++ front_if (is_update_of k d e)
        (record {
          entry = e;
          run = next_run (drop (one_if b (count_in k d xs)) runs);
          item = (table_after (table_of (table_after t x.op) xs) e.op).items (key_of e.op.act);
        }) []
    by false later = later runs
    by true later = ap (λ (us : List Logged). record { entry = x; run = next_run runs; item = (table_after t x.op).items (key_of x.op.act) } ∷ us)
        (later (drop 1 runs) ∙ ap (λ (rest : List (Option Run)). updates_from k d (table_after t x.op) (drop 1 runs) xs
        ++ front_if (is_update_of k d e)
        (record {
          entry = e;
          run = next_run rest;
          item = (table_after (table_of (table_after t x.op) xs) e.op).items
              (key_of e.op.act);
        }) []) (drop-one runs (count_in k d xs)))
      where
        drop-one : (xs : List (Option Run)) (n : ℕ) → drop n (drop 1 xs) ≡ drop (suc n) xs
        drop-one [] zero = refl
        drop-one [] (suc n) = refl
        drop-one (x ∷ xs) n = refl

  -- the log up to an update that it has
  pub cut-append : (n : ℕ) (es more : List Entry) → n ≤ count_in k d es → cut_after k d n (es ++ more) ≡ cut_after k d n es
  cut-append zero [] more within = nothing more where
    nothing : (xs : List Entry) → cut_after k d zero xs ≡ []
    nothing [] = refl
    nothing (x ∷ xs) = refl
  cut-append (suc n) [] more within = absurd (omega arith)
  cut-append zero (e ∷ es) more within = refl
  cut-append (suc n) (e ∷ es) more within = ap (λ (rest : List Entry). e ∷ rest) (by (is_update_of k d e) within (λ m low. cut-append m es more low)) where
    by : (b : Bool) → suc n ≤ one_if b (count_in k d es) → ((m : ℕ) → m ≤ count_in k d es → cut_after k d m (es ++ more) ≡ cut_after k d m es)
        → cut_after k d (left_after b n) (es ++ more) ≡ cut_after k d (left_after b n) es
    by true low later = later n (omega arith)
    by false low later = later (suc n) (omega arith)

  -- the log up to one more update than it has is all of it
  pub cut-all : (es : List Entry) (n : ℕ) → count_in k d es < n → cut_after k d n es ≡ es
  cut-all [] zero above = absurd (omega arith)
  cut-all [] (suc n) above = refl
  cut-all (e ∷ es) zero above = absurd (omega arith)
  cut-all (e ∷ es) (suc n) above = ap (λ (rest : List Entry). e ∷ rest) (by (is_update_of k d e) above (λ m low. cut-all es m low)) where
    by : (b : Bool) → one_if b (count_in k d es) < suc n → ((m : ℕ) → count_in k d es < m → cut_after k d m es ≡ es) → cut_after k d (left_after b n) es ≡ es
    by true low later = later n (omega arith)
    by false low later = later (suc n) (omega arith)

  -- the log up to its last update and that entry
  pub cut-last : (es : List Entry) (e : Entry) → is_update_of k d e ≡ true → cut_after k d (suc (count_in k d es)) (es ++ e ∷ []) ≡ es ++ e ∷ []
  cut-last [] e update = ap (λ (rest : List Entry). e ∷ rest) (none (left_after (is_update_of k d e) 0)) where
    none : (n : ℕ) → cut_after k d n [] ≡ []
    none zero = refl
    none (suc n) = refl
  cut-last (x ∷ xs) e update = ap (λ (rest : List Entry). x ∷ rest) (by (is_update_of k d x) (cut-last xs e update)) where
    by : (b : Bool) → cut_after k d (suc (count_in k d xs)) (xs ++ e ∷ []) ≡ xs ++ e ∷ []
        → cut_after k d (left_after b (one_if b (count_in k d xs))) (xs ++ e ∷ []) ≡ xs ++ e ∷ []
    by true later = later
    by false later = later
