-- What all entries of a log have, the last update of a caller has, and so what is kept of it.
use Rattle.std.proofs.Common.{◌≡◌, ◌≤◌, ◌==◌, ℕ, Bool, true, false, List, [], ◌∷◌, Option, Some, None, if◌then◌else◌, refl, ap, subst, arith}
use Rattle.std.proofs.lemmas.List.Elements.{All-cons, All-head, All-nil, All-tail}
use Rattle.std.specs.Prelude.{All}
use Rattle.group_types.specs.declared.run.Run.{Run}
use Rattle.memc_table.specs.Act.{key_of}
use Rattle.memc_table.specs.Contents.{Contents, table_after}
use Rattle.group_message.specs.declared.kept.Kept.{Kept}
use Rattle.group_calls.specs.declared.entry.Entry.{Entry}
use Rattle.group_run.specs.Keeping.{IsKept, last_by}
use Rattle.group_run.specs.Meaning.{Logged, is_update_of, next_run, runs_left, updates_from}
use Rattle.group_run.specs.World.{front_if}

pub updates-all : (P : Entry → Type 0) (k d : ℕ) (t : Contents) (runs : List (Option Run)) (es : List Entry) → All P es
    → All (λ u. P u.entry) (updates_from k d t runs es)
updates-all P k d t runs [] all = All-nil (λ (u : Logged). P u.entry)
updates-all P k d t runs (e ∷ es) all = by (is_update_of k d e)
    (updates-all P k d (table_after t e.op) (runs_left (is_update_of k d e) runs) es (All-tail P e es all))
  where
    u : Logged
    u = record { entry = e; run = next_run runs; item = (table_after t e.op).items (key_of e.op.act) }

    by : (b : Bool) → All (λ v. P v.entry) (updates_from k d (table_after t e.op) (runs_left (is_update_of k d e) runs) es)
        → All (λ v. P v.entry) (front_if b u (updates_from k d (table_after t e.op) (runs_left (is_update_of k d e) runs) es))
    by true rest = All-cons (λ v. P v.entry) u (updates_from k d (table_after t e.op) (runs_left (is_update_of k d e) runs) es) (All-head P e es all) rest
    by false rest = rest

pub last-has : (P : Logged → Type 0) (caller : ℕ) (us : List Logged) (old : Option Logged) → ((u : Logged) → old ≡ Some u → P u) → All P us → (u : Logged)
    → last_by caller old us ≡ Some u → P u
last-has P caller [] old has all u is = has u is
last-has P caller (v ∷ us) old has all u is =
    last-has P caller us (if v.entry.caller == caller then Some v else old) (by (v.entry.caller == caller)) (All-tail P v us all) u is
  where
    by : (b : Bool) (x : Logged) → (if b then Some v else old) ≡ Some x → P x
    by true x here = let same : v ≡ x = cc here in subst P same (All-head P v us all)
    by false x before = has x before

pub kept-call : (o : Option Logged) (k : Option Kept) (x : Kept) (n : ℕ) → IsKept o k → k ≡ Some x → ((u : Logged) → o ≡ Some u → u.entry.call ≤ n) → x.call ≤ n
kept-call None None x n is same low = absurd (cc same)
kept-call None (Some y) x n is same low = absurd is
kept-call (Some u) None x n is same low = absurd is
kept-call (Some u) (Some y) x n is same low =
    let one : y ≡ x = cc same in
    let call : y.call ≡ x.call = ap (λ (k : Kept). k.call) one in
    let of = is.0 in
    let most = low u refl in
    omega (arith, call, of, most)
