-- The table of a legal log counts its accepted updates.
use Rattle.std.proofs.Common.{ℕ, ◌≡◌, ◌≢◌, ◌<◌, ◌≤◌, ◌+◌, ◌==◌, Bool, false, List, [], ◌∷◌, ◌++◌, length, if◌then◌else◌}
use Rattle.std.proofs.Common.{◌⊎◌, inl, inr, refl, sym, ap, subst, ◌∙◌, arith}
use Rattle.std.specs.Prelude.{slice_index, slice_set}
use Rattle.std.proofs.lemmas.Bool.{cases_eq, eq-eqb, ne_eqb}
use Rattle.std.proofs.lemmas.List.{get_or-set_other, get_or-set_same, length-set}
use Rattle.group_types.specs.Hash.{home_of}
use Rattle.memc_table.specs.Act.{key_of}
use Rattle.memc_table.specs.Asked.{Asked}
use Rattle.memc_table.specs.Contents.{Contents, after_ruling, count_of, partition_of, reply_in, ruling_on, table_after}
use Rattle.memc_table.specs.Expiry.{live_at}
use Rattle.memc_table.specs.declared.reply.Reply.{Reply}
use Rattle.memc_table.specs.declared.ruling.Ruling.{Ruling}
use Rattle.memc_table.specs.declared.ruling.Ruling.TheVariants.{Accepted, Refused}
use Rattle.group_calls.specs.Log.{IsLegalFrom, table_of}
use Rattle.group_calls.specs.Turns.{accepts}
use Rattle.group_calls.specs.declared.entry.Entry.{Entry}
use Rattle.law_updates.proofs.Rules.{RulesWell, rules-well}
use Rattle.law_told.specs.Eras.{updates_among}

abbrev pub one_if : Bool → ℕ
one_if b = if b then 1 else 0

module _ (k : ℕ) (some : 1 ≤ k) where
  abbrev update_if : Bool → ℕ → ℕ → Bool
  update_if accepted home d = if accepted then home == d else false

  record Counted (t u : Contents) (op : Asked) (reply : Reply) (d : ℕ) : Type 0 where
    pub many : length u.counts ≡ k
    pub count : slice_index u.counts d ≡ one_if (update_if (accepts reply) (home_of (key_of op.act) k) d) + slice_index t.counts d

  counted-one : (t : Contents) (op : Asked) (d : ℕ) → length t.counts ≡ k → d < k → Counted t (table_after t op) op (reply_in (ruling_on t op)) d
  counted-one t op d many below = by (ruling_on t op) (rules-well op.moment (count_of t key + 1) op.act (live_at op.moment (t.items key))) where
    key : List ℕ
    key = key_of op.act

    home : ℕ
    home = home_of (key_of op.act) k

    same-home : partition_of t key ≡ home
    same-home = ap (home_of key) many

    by : (r : Ruling) → RulesWell (count_of t key + 1) op.act (live_at op.moment (t.items key)) r → Counted t (after_ruling t key r) op (reply_in r) d
    by (Refused reply) well = record {
      many = many;
      count = (let none : one_if (update_if (accepts reply) home d) ≡ 0 = ap (λ (b : Bool). one_if (update_if b home d)) well in omega (arith, none));
    }
    by (Accepted reply leaves) well = record {
      many = length-set t.counts (partition_of t key) (count_of t key + 1) ∙ many;
      count = which (cases_eq home d) ∙ ap (λ (b : Bool). one_if (update_if b home d) + slice_index t.counts d) (sym well.0);
    } where
      which : (home ≡ d) ⊎ (home ≢ d) → slice_index (slice_set t.counts (partition_of t key) (count_of t key + 1)) d
          ≡ one_if (home == d) + slice_index t.counts d
      which (inl here) =
          let place : partition_of t key ≡ d = same-home ∙ here in
          ap (λ (i : ℕ). slice_index (slice_set t.counts i (slice_index t.counts i + 1)) d) place
          ∙ get_or-set_same t.counts d (slice_index t.counts d + 1) 0 (omega (arith, many, below))
          ∙ (let one : one_if (home == d) ≡ 1 = ap one_if (eq-eqb home d here) in omega (arith, one))
      which (inr apart) =
          get_or-set_other t.counts (partition_of t key) d (count_of t key + 1) 0 (λ same. apart (sym same-home ∙ sym same))
          ∙ (let none : one_if (home == d) ≡ 0 = ap one_if (ne_eqb home d apart) in omega (arith, none))

  pub counted : (t : Contents) (es : List Entry) (d : ℕ) → IsLegalFrom t es → length t.counts ≡ k → d < k
      → slice_index (table_of t es).counts d ≡ updates_among k d es + slice_index t.counts d
  counted t [] d legal many below = let none : updates_among k d [] ≡ 0 = refl in omega (arith, none)
  counted t (e ∷ es) d legal many below =
      let one : Counted t (table_after t e.op) e.op e.reply d =
      subst (λ (r : Reply). Counted t (table_after t e.op) e.op r d) (sym legal.0)
      (counted-one t e.op d many below) in
      let rest = counted (table_after t e.op) es d legal.1 one.many below in
      let here = one.count in
      omega (arith, rest, here)

pub among-append : (k d : ℕ) (es fs : List Entry) → updates_among k d (es ++ fs) ≡ updates_among k d es + updates_among k d fs
among-append k d [] fs = let none : updates_among k d [] ≡ 0 = refl in omega (arith, none)
among-append k d (e ∷ es) fs = let rest = among-append k d es fs in omega (arith, rest)
