-- Legal logs of groups that have no key in common are one legal log.
use Rattle.std.proofs.Common.{ℕ, ◌≡◌, ◌≢◌, ◌==◌, Bool, List, [], ◌∷◌, inl, inr, Option, if◌then◌else◌, refl, sym, ap, subst, ◌∙◌}
use Rattle.group_types.specs.Each.{Each}
use Rattle.memc_table.specs.Act.{key_of}
use Rattle.memc_table.specs.Asked.{Asked}
use Rattle.memc_table.specs.Contents.{Contents, after_ruling, reply_in, reply_of, ruling_on, table_after}
use Rattle.memc_table.specs.declared.holding.Holding.{Holding}
use Rattle.memc_table.specs.declared.ruling.Ruling.{Ruling}
use Rattle.memc_table.specs.declared.ruling.Ruling.TheVariants.{Accepted, Refused}
use Rattle.group_calls.specs.Log.{IsLegalFrom}
use Rattle.group_run.specs.World.{front_if}
use Rattle.law_updates.proofs.Keys.{key-ne}
use Rattle.group_layout.specs.Cluster.{ClusterEntry}
use Rattle.group_layout.specs.Layout.{group_of}
use Rattle.group_layout.specs.Legal.{ClusterTable, IsClusterLegalFrom, after_entry, seen_by}
use Rattle.group_layout.specs.Promise.{IsOwn, entries_in}
use Rattle.group_layout.proofs.Moves.{IsOrNot, is-or-not}

-- an op comes to the same on tables that have one count and one item at its key
ruling-same : (u v : Contents) (op : Asked) → u.counts ≡ v.counts → u.items (key_of op.act) ≡ v.items (key_of op.act) → ruling_on u op ≡ ruling_on v op
ruling-same u v op counts item =
    ap (λ (c : List ℕ). ruling_on (record { items = u.items; counts = c }) op) counts
    ∙ ap (λ (h : Option Holding). ruling_on (record { items = λ _. h; counts = v.counts }) op) item

counts-same : (u v : Contents) (key : List ℕ) (r : Ruling) → u.counts ≡ v.counts → (after_ruling u key r).counts ≡ (after_ruling v key r).counts
counts-same u v key (Refused reply) same = same
counts-same u v key (Accepted reply leaves) same =
    ap (λ (c : List ℕ). (after_ruling (record { items = u.items; counts = c }) key (Accepted reply leaves)).counts) same

item-same : (u v : Contents) (key other : List ℕ) (r : Ruling) → u.items other ≡ v.items other
    → (after_ruling u key r).items other ≡ (after_ruling v key r).items other
item-same u v key other (Refused reply) same = same
item-same u v key other (Accepted reply leaves) same =
    ap (λ (h : Option Holding).
    (after_ruling (record { items = λ _. h; counts = u.counts }) key (Accepted reply leaves)).items other) same

item-apart : (u : Contents) (key other : List ℕ) (r : Ruling) → key ≢ other → (after_ruling u key r).items other ≡ u.items other
item-apart u key other (Refused reply) apart = refl
item-apart u key other (Accepted reply leaves) apart = ap (λ (b : Bool). if b then leaves else u.items other) (key-ne key other apart)

module _ (k count : ℕ) where
  -- one table for tables of groups, of which each holds its group's keys
  pub record Joins (t : ClusterTable) (tables : ℕ → Contents) : Type 0 where
    pub counts : (j : ℕ) → t.counts j ≡ (tables j).counts
    pub items : (key : List ℕ) → t.items key ≡ (tables (group_of key k count)).items key

  -- the tables of groups after an entry
  abbrev pub next : (ℕ → Contents) → ClusterEntry → ℕ → Contents
  next tables e i = if i == e.0 then table_after (tables i) e.1.op else tables i

  module _ (t : ClusterTable) (tables : ℕ → Contents) (e : ClusterEntry) (joins : Joins t tables) (own : IsOwn k count e) where
    abbrev op : Asked
    op = e.1.op

    abbrev key : List ℕ
    key = key_of op.act

    item-here : t.items key ≡ (tables e.0).items key
    item-here = joins.items key ∙ ap (λ (j : ℕ). (tables j).items key) own

    same-ruling : ruling_on (seen_by t e.0) op ≡ ruling_on (tables e.0) op
    same-ruling = ruling-same (seen_by t e.0) (tables e.0) op (joins.counts e.0) item-here

    same-reply : reply_of (seen_by t e.0) op ≡ reply_of (tables e.0) op
    same-reply = ap reply_in same-ruling

    counts-next : (i : ℕ) → (after_entry t e).counts i ≡ (next tables e i).counts
    counts-next i = by (is-or-not i e.0) where
      by : IsOrNot i e.0 → (if i == e.0 then (table_after (seen_by t e.0) op).counts else t.counts i)
          ≡ (if i == e.0 then table_after (tables i) op else tables i).counts
      by (inl (word, is)) =
          ap (λ (b : Bool). if b then (table_after (seen_by t e.0) op).counts else t.counts i) word
          ∙ ap (λ (r : Ruling). (after_ruling (seen_by t e.0) key r).counts) same-ruling
          ∙ counts-same (seen_by t e.0) (tables e.0) key (ruling_on (tables e.0) op) (joins.counts e.0)
          ∙ ap (λ (j : ℕ). (table_after (tables j) op).counts) (sym is)
          ∙ ap (λ (b : Bool). (if b then table_after (tables i) op else tables i).counts) (sym word)
      by (inr (word, other)) =
          ap (λ (b : Bool). if b then (table_after (seen_by t e.0) op).counts else t.counts i) word
          ∙ joins.counts i
          ∙ ap (λ (b : Bool). (if b then table_after (tables i) op else tables i).counts) (sym word)

    items-next : (q : List ℕ) → (after_entry t e).items q ≡ (next tables e (group_of q k count)).items q
    items-next q = by (group_of q k count) (joins.items q) (λ same. same ∙ sym own) (is-or-not (group_of q k count) e.0) where
      by : (g : ℕ) → t.items q ≡ (tables g).items q → (group_of q k count ≡ e.0 → group_of q k count ≡ group_of key k count) → IsOrNot (group_of q k count) e.0
          → (after_entry t e).items q
          ≡ (if group_of q k count == e.0 then table_after (tables (group_of q k count)) op else tables
          (group_of q k count)).items q
      by g held one (inl (word, is)) =
          ap (λ (r : Ruling). (after_ruling (seen_by t e.0) key r).items q) same-ruling
          ∙ item-same (seen_by t e.0) (tables e.0) key q (ruling_on (tables e.0) op) (joins.items q ∙ ap (λ (j : ℕ). (tables j).items q) is)
          ∙ ap (λ (j : ℕ). (table_after (tables j) op).items q) (sym is)
          ∙ ap (λ (b : Bool). (if b then table_after (tables (group_of q k count)) op else tables (group_of q k count)).items q) (sym word)
      by g held one (inr (word, other)) =
          item-apart (seen_by t e.0) key q (ruling_on (seen_by t e.0) op) (λ same. other (ap (λ (x : List ℕ). group_of x k count) (sym same) ∙ own))
          ∙ joins.items q
          ∙ ap (λ (b : Bool). (if b then table_after (tables (group_of q k count)) op else tables (group_of q k count)).items q) (sym word)

    joins-next : Joins (after_entry t e) (next tables e)
    joins-next = record { counts = counts-next; items = items-next }

  pub legal-from : (t : ClusterTable) (tables : ℕ → Contents) (log : List ClusterEntry) → Joins t tables → Each (IsOwn k count) log
      → ((j : ℕ) → IsLegalFrom (tables j) (entries_in j log)) → IsClusterLegalFrom t log
  legal-from t tables [] joins own legal = tt
  legal-from t tables (e ∷ es) joins own legal = (
    here.0 ∙ sym (same-reply t tables e joins own.0),
    legal-from (after_entry t e) (next tables e) es
        (joins-next t tables e joins own.0) own.1 (λ j. on j (is-or-not e.0 j) (legal j)),
  )
    where
      here : IsLegalFrom (tables e.0) (e.1 ∷ entries_in e.0 es)
      here = by (is-or-not e.0 e.0) (legal e.0) where
        by : IsOrNot e.0 e.0 → IsLegalFrom (tables e.0) (front_if (e.0 == e.0) e.1 (entries_in e.0 es)) → IsLegalFrom (tables e.0) (e.1 ∷ entries_in e.0 es)
        by (inl (word, is)) ok = subst (λ (b : Bool). IsLegalFrom (tables e.0) (front_if b e.1 (entries_in e.0 es))) word ok
        by (inr (word, other)) ok = absurd (other refl)

      on : (j : ℕ) → IsOrNot e.0 j → IsLegalFrom (tables j) (front_if (e.0 == j) e.1 (entries_in j es)) → IsLegalFrom (next tables e j) (entries_in j es)
      on j (inl (word, is)) ok = by (is-or-not j e.0) (subst (λ (b : Bool). IsLegalFrom (tables j) (front_if b e.1 (entries_in j es))) word ok) where
        by : IsOrNot j e.0 → IsLegalFrom (tables j) (e.1 ∷ entries_in j es)
            → IsLegalFrom (if j == e.0 then table_after (tables j) e.1.op else tables j) (entries_in j es)
        by (inl (same, back)) rest =
            subst (λ (b : Bool). IsLegalFrom (if b then table_after (tables j) e.1.op else tables j) (entries_in j es))
            (sym same) rest.1
        by (inr (same, apart)) rest = absurd (apart (sym is))
      on j (inr (word, other)) ok = by (is-or-not j e.0) (subst (λ (b : Bool). IsLegalFrom (tables j) (front_if b e.1 (entries_in j es))) word ok) where
        by : IsOrNot j e.0 → IsLegalFrom (tables j) (entries_in j es)
            → IsLegalFrom (if j == e.0 then table_after (tables j) e.1.op else tables j) (entries_in j es)
        by (inl (same, back)) rest = absurd (other (sym back))
        by (inr (same, apart)) rest =
            subst (λ (b : Bool). IsLegalFrom (if b then table_after (tables j) e.1.op else tables j) (entries_in j es))
            (sym same) rest
