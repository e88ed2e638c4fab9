-- An item's cas number is at most the count of its partition, and the count of a log's table is how many updates the log has.
use Rattle.std.proofs.Common.{◌≡◌, ◌≢◌, ℕ, zero, suc, ◌+◌, ◌<◌, ◌≤◌, ◌==◌, Bool, true, false, List, [], ◌∷◌, length}
use Rattle.std.proofs.Common.{Option, Some, None, if◌then◌else◌, refl, sym, ap, subst, ◌∙◌, arith, slice_set}
use mathlib.Core.Bool.{false≢true}
use Rattle.std.specs.Prelude.{slice_index}
use Rattle.std.specs.Option.{unwrap_or}
use Rattle.std.specs.Cmp.Lexicographic.{slice_cmp}
use Rattle.std.specs.Ordering.{is_eq, nat_cmp}
use Rattle.std.proofs.lemmas.Bool.Decides.{nat_tests}
use Rattle.std.proofs.lemmas.List.{get_or-set_same, get_or-set_other, length-set}
use Rattle.std.proofs.lemmas.Option.{none-some}
use Rattle.std.specs.FinMap as map
use Rattle.std.specs.Cmp.{Equal-is}
use Rattle.group_types.specs.Hash.{home_of}
use Rattle.group_types.specs.declared.run.Run.{Run}
use Rattle.memc_table.specs.Act.{key_of}
use Rattle.memc_table.specs.Asked.{Asked}
use Rattle.memc_table.specs.Contents.{Contents, after_ruling, count_of, partition_of, reply_in, reply_of, ruling_on, table_after}
use Rattle.memc_table.specs.Expiry.{is_live, live_at}
use Rattle.memc_table.specs.declared.holding.Holding.{Holding}
use Rattle.memc_table.specs.declared.ruling.Ruling.{Ruling}
use Rattle.memc_table.specs.declared.ruling.Ruling.TheVariants.{Accepted, Refused}
use Rattle.group_calls.specs.Log.{IsLegalFrom, table_of}
use Rattle.group_calls.specs.Turns.{accepts}
use Rattle.group_calls.specs.declared.entry.Entry.{Entry}
use Rattle.group_run.specs.Deciding.{is_touch}
use Rattle.group_run.specs.Meaning.{Logged, is_update_of, updates_from, runs_left, next_run}
use Rattle.group_run.specs.World.{front_if}
use Rattle.law_updates.proofs.Rules.{LeavesWell, RulesWell, rules-well}

-- no item's number is above the count of its partition
abbrev pub IsCounted : Contents → Type 0
IsCounted t = (key : List ℕ) (h : Holding) → t.items key ≡ Some h → h.item.cas ≤ count_of t key

same_some : {X : Type 0} (x y : X) → Some x ≡ Some y → x ≡ y
same_some x y e = ap (λ o. unwrap_or o x) e

rises : (xs : List ℕ) (i j : ℕ) → slice_index xs j ≤ slice_index (slice_set xs i (slice_index xs i + 1)) j
rises [] i j = omega arith
rises (x ∷ xs) zero zero = omega arith
rises (x ∷ xs) zero (suc j) = omega arith
rises (x ∷ xs) (suc i) zero = omega arith
rises (x ∷ xs) (suc i) (suc j) = rises xs i j

module _ (t : Contents) (op : Asked) (counted : IsCounted t) (some : 0 < length t.counts) where
  abbrev at : ℕ
  at = partition_of t (key_of op.act)

  live-low : (h : Holding) → live_at op.moment (t.items (key_of op.act)) ≡ Some h → h.item.cas ≤ count_of t (key_of op.act)
  live-low h is = by (t.items (key_of op.act)) refl where
    by : (o : Option Holding) → t.items (key_of op.act) ≡ o → h.item.cas ≤ count_of t (key_of op.act)
    by None none = absurd (none-some h (sym (ap (live_at op.moment) none) ∙ is))
    by (Some g) there = within (is_live op.moment g.until) (sym (ap (live_at op.moment) there) ∙ is) where
      within : (b : Bool) → (if b then Some g else None) ≡ Some h → h.item.cas ≤ count_of t (key_of op.act)
      within true same = subst (λ (x : Holding). x.item.cas ≤ count_of t (key_of op.act)) (same_some g h same) (counted (key_of op.act) g there)
      within false same = absurd (none-some h same)

  leaves-low : (touch : Bool) (h : Holding) → LeavesWell (count_of t (key_of op.act) + 1) touch
      (live_at op.moment (t.items (key_of op.act))) (Some h) → h.item.cas ≤ count_of t (key_of op.act) + 1
  leaves-low true h (old, live, same) = let low = live-low old live in let is = ap (λ i. i.cas) same in omega (arith, low, is)
  leaves-low false h is = omega (arith, is)

  own-high : (n : ℕ) → slice_index (slice_set t.counts at n) at ≡ n
  own-high n = get_or-set_same t.counts at n 0 (inside (length t.counts) some) where
    inside : (k : ℕ) → 0 < k → home_of (key_of op.act) k < k
    inside k more = omega (arith, more)

  -- and so it is after an op
  pub counted-after : IsCounted (table_after t op)
  counted-after = by (ruling_on t op) (rules-well op.moment (count_of t (key_of op.act) + 1) op.act (live_at op.moment (t.items (key_of op.act)))) where
    by : (r : Ruling) → RulesWell (count_of t (key_of op.act) + 1) op.act (live_at op.moment (t.items (key_of op.act)))
        r → IsCounted (after_ruling t (key_of op.act) r)
    by (Refused reply) well key h there = counted key h there
    by (Accepted reply leaves) (_, _, _, well) key h there = own (is_eq (slice_cmp nat_cmp (key_of op.act) key)) refl there where
      place-same : partition_of (after_ruling t (key_of op.act) (Accepted reply leaves)) key ≡ partition_of t key
      place-same = ap (home_of key) (length-set t.counts at (count_of t (key_of op.act) + 1))

      later : count_of t key ≤ count_of (after_ruling t (key_of op.act) (Accepted reply leaves)) key
      later = subst (λ (j : ℕ). count_of t key ≤ slice_index (slice_set t.counts at (count_of t (key_of op.act) + 1)) j)
          (sym place-same) (rises t.counts at (partition_of t key))

      own : (b : Bool) → is_eq (slice_cmp nat_cmp (key_of op.act) key) ≡ b → (if b then leaves else t.items key)
          ≡ Some h → h.item.cas ≤ count_of (after_ruling t (key_of op.act) (Accepted reply leaves)) key
      own true tied is =
          let same : key_of op.act ≡ key = map.slice_cmp-IsAntisymmetric map.nat_cmp-IsAntisymmetric (key_of op.act) key
          ((Equal-is (slice_cmp nat_cmp (key_of op.act) key)).0 tied) in
          let low : h.item.cas ≤ count_of t (key_of op.act) + 1 =
          leaves-low (is_touch op.act) h
          (subst (LeavesWell (count_of t (key_of op.act) + 1) (is_touch op.act)
          (live_at op.moment (t.items (key_of op.act)))) is well) in
          let high : count_of (after_ruling t (key_of op.act) (Accepted reply leaves)) key ≡ count_of t (key_of op.act) + 1
          = ap (slice_index (slice_set t.counts at (count_of t (key_of op.act) + 1)))
          (place-same ∙ ap (partition_of t) (sym same)) ∙ own-high (count_of t (key_of op.act) + 1) in
          omega (arith, low, high)
      own false apart is = let low : h.item.cas ≤ count_of t key = counted key h is in omega (arith, low, later)

length-after : (t : Contents) (op : Asked) → length (table_after t op).counts ≡ length t.counts
length-after t op = by (ruling_on t op) where
  by : (r : Ruling) → length (after_ruling t (key_of op.act) r).counts ≡ length t.counts
  by (Refused reply) = refl
  by (Accepted reply leaves) = length-set t.counts (partition_of t (key_of op.act)) (count_of t (key_of op.act) + 1)

pub length-log : (t : Contents) (es : List Entry) → length (table_of t es).counts ≡ length t.counts
length-log t [] = refl
length-log t (e ∷ es) = length-log (table_after t e.op) es ∙ length-after t e.op

pub counted-log : (t : Contents) (es : List Entry) → 0 < length t.counts → IsCounted t → IsCounted (table_of t es)
counted-log t [] some counted = counted
counted-log t (e ∷ es) some counted = counted-log (table_after t e.op) es (let same = length-after t e.op in
    omega (arith, some, same)) (counted-after t e.op counted some)

-- 1 for an update of partition d
abbrev more_at : Bool → ℕ
more_at true = 1
more_at false = 0

module _ (k d : ℕ) (low : d < k) where
  raised : (t : Contents) (e : Entry) → length t.counts ≡ k → e.reply ≡ reply_of t e.op
      → slice_index (table_after t e.op).counts d ≡ slice_index t.counts d + more_at (is_update_of k d e)
  raised t e many legal =
      by (ruling_on t e.op) (rules-well e.op.moment (count_of t (key_of e.op.act) + 1) e.op.act
      (live_at e.op.moment (t.items (key_of e.op.act)))) (ap accepts legal) where
        home : partition_of t (key_of e.op.act) ≡ home_of (key_of e.op.act) k
        home = ap (home_of (key_of e.op.act)) many

        by : (r : Ruling) → RulesWell (count_of t (key_of e.op.act) + 1) e.op.act
            (live_at e.op.moment (t.items (key_of e.op.act))) r → accepts e.reply ≡ accepts (reply_in r)
            → slice_index (after_ruling t (key_of e.op.act) r).counts d ≡ slice_index t.counts d + more_at (is_update_of k d e)
        by (Refused reply) well is =
            let none : more_at (is_update_of k d e) ≡ 0 =
            ap (λ (b : Bool). more_at (if b then home_of (key_of e.op.act) k == d else false)) (is ∙ well) in
            omega (arith, none)
        by (Accepted reply leaves) (accepted, _, _, _) is = at_home (home_of (key_of e.op.act) k == d) refl where
          at_home : (b : Bool) → (home_of (key_of e.op.act) k == d) ≡ b
              → slice_index (slice_set t.counts (partition_of t (key_of e.op.act)) (count_of t (key_of e.op.act) + 1)) d
              ≡ slice_index t.counts d + more_at (is_update_of k d e)
          at_home true here =
              let same : home_of (key_of e.op.act) k ≡ d = grind (arith, nat_tests) in
              let place : partition_of t (key_of e.op.act) ≡ d = home ∙ same in
              let one : more_at (is_update_of k d e) ≡ 1 =
              ap (λ (b : Bool). more_at (if b then home_of (key_of e.op.act) k == d else false)) (is ∙ accepted)
              ∙ ap more_at here in
              let new = ap (λ (i : ℕ). slice_index (slice_set t.counts i (slice_index t.counts i + 1)) d) place
              ∙ get_or-set_same t.counts d (slice_index t.counts d + 1) 0 (omega (arith, low, many)) in
              omega (arith, one, new)
          at_home false away =
              let differ : d ≢ partition_of t (key_of e.op.act) = λ same. false≢true (sym away ∙ equal (sym home ∙ sym same)) in
              let none : more_at (is_update_of k d e) ≡ 0 =
              ap (λ (b : Bool). more_at (if b then home_of (key_of e.op.act) k == d else false)) (is ∙ accepted)
              ∙ ap more_at away in
              let old = get_or-set_other t.counts (partition_of t (key_of e.op.act)) d (count_of t (key_of e.op.act) + 1) 0 differ in
              omega (arith, none, old)
            where
              equal : home_of (key_of e.op.act) k ≡ d → (home_of (key_of e.op.act) k == d) ≡ true
              equal same = grind (arith, nat_tests)

  -- the count of the table is how many updates the log has
  pub count-updates : (t : Contents) (runs : List (Option Run)) (es : List Entry) → length t.counts ≡ k → IsLegalFrom t es
      → slice_index (table_of t es).counts d ≡ slice_index t.counts d + length (updates_from k d t runs es)
  count-updates t runs [] many legal = omega arith
  count-updates t runs (e ∷ es) many (legal, rest) =
      let later = count-updates (table_after t e.op) (runs_left (is_update_of k d e) runs) es (length-after t e.op ∙ many) rest in
      let here = raised t e many legal in
      let front = longer (is_update_of k d e)
      (record { entry = e; run = next_run runs; item = (table_after t e.op).items (key_of e.op.act) })
      (updates_from k d (table_after t e.op) (runs_left (is_update_of k d e) runs) es) in
      omega (arith, later, here, front)
    where
      longer : (b : Bool) (x : Logged) (xs : List Logged) → length (front_if b x xs) ≡ length xs + more_at b
      longer true x xs = omega arith
      longer false x xs = omega arith
