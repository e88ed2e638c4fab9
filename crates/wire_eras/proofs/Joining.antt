-- A later log that is told behind an earlier one stays legal, entry by entry.
use Rattle.std.proofs.Common.{ℕ, zero, suc, ◌≡◌, ◌≤◌, ◌+◌, List, [], ◌∷◌, length, inr, refl, sym, ap, subst, ◌∙◌, arith}
use Rattle.std.specs.Prelude.{slice_index, ⊤}
use Rattle.std.proofs.lemmas.List.{length-set, length-replicate}
use Rattle.erasure_code.proofs.Lists.{get_or-zeros}
use Rattle.group_types.specs.Each.{Each}
use Rattle.group_types.specs.Hash.{home_of}
use Rattle.group_types.specs.Lists.{at}
use Rattle.memc_table.specs.Act.{key_of}
use Rattle.memc_table.specs.Asked.{Asked}
use Rattle.memc_table.specs.Contents.{Contents, after_ruling, count_of, empty_table, partition_of, reply_of, ruling_on, table_after}
use Rattle.memc_table.specs.declared.ruling.Ruling.{Ruling}
use Rattle.memc_table.specs.declared.ruling.Ruling.TheVariants.{Accepted, Refused}
use Rattle.group_calls.specs.Log.{IsLegalFrom, table_of}
use Rattle.group_calls.specs.declared.entry.Entry.{Entry}
use Rattle.group_eras.specs.Told.{Bases, based_reply}
use Rattle.group_eras.proofs.Joins.{Joined, SetsFree, after-joined, reply-joined}
use Rattle.wire_eras.specs.Told.{AreToldAs, bases_of, table_left}

-- a number for each partition
pub many-after : (k : ℕ) (t : Contents) (op : Asked) → length t.counts ≡ k → length (table_after t op).counts ≡ k
many-after k t op many = by (ruling_on t op) where
  by : (r : Ruling) → length (after_ruling t (key_of op.act) r).counts ≡ k
  by (Refused reply) = many
  by (Accepted reply leaves) = length-set t.counts (partition_of t (key_of op.act)) (count_of t (key_of op.act) + 1) ∙ many

pub many-of : (k : ℕ) (t : Contents) (log : List Entry) → length t.counts ≡ k → length (table_of t log).counts ≡ k
many-of k t [] many = many
many-of k t (e ∷ es) many = many-of k (table_after t e.op) es (many-after k t e.op many)

pub many-left : (k : ℕ) (log : List Entry) → length (table_left k log).counts ≡ k
many-left k log = many-of k (empty_table k) log (length-replicate k 0)

pub index-at : (xs : List ℕ) (i : ℕ) → slice_index xs i ≡ at 0 xs i
index-at [] i = refl
index-at (x ∷ xs) zero = refl
index-at (x ∷ xs) (suc i) = index-at xs i

module _ (bases : Bases) (k : ℕ) (some : 1 ≤ k) (Free : List ℕ → Type 0) where
  -- the later log is told behind the table over all
  pub legal-on : (all own : Contents) (entries told : List Entry) → Joined bases k some Free all own → IsLegalFrom own entries → AreToldAs bases k entries told
      → Each (λ y. SetsFree bases k some Free y.op) told → IsLegalFrom all told × Joined bases k some Free (table_of all told) (table_of own entries)
  legal-on all own [] [] joined legal are sets = (tt, joined)
  legal-on all own [] (y ∷ ys) joined legal are sets = absurd are
  legal-on all own (x ∷ xs) [] joined legal are sets = absurd are
  legal-on all own (x ∷ xs) (y ∷ ys) joined legal are sets =
      let told = are.0 in
      let next : Joined bases k some Free (table_after all y.op) (table_after own x.op)
      = subst (λ (o : Asked). Joined bases k some Free (table_after all y.op) (table_after own o)) (sym told.op)
      (after-joined bases k some Free all own joined y.op sets.0) in
      let rest = legal-on (table_after all y.op) (table_after own x.op) xs ys next legal.1 are.1 sets.1 in (
        (
          told.reply ∙ ap (based_reply bases (home_of (key_of y.op.act) k)) (legal.0 ∙ ap (reply_of own) told.op)
              ∙ sym (reply-joined bases k some Free all own joined y.op sets.0),
          rest.0,
        ),
        rest.1,
      )

-- any key
abbrev pub Anywhere : List ℕ → Type 0
Anywhere key = ⊤

-- at its start, where all that is done is sets
pub joined-start : (k : ℕ) (some : 1 ≤ k) (earlier : List Entry) → Joined (bases_of k earlier) k some Anywhere (table_left k earlier) (empty_table k)
joined-start k some earlier = record {
  many_all = many-left k earlier;
  many_own = length-replicate k 0;
  counts = λ d below. (let one = index-at (bases_of k earlier) d in let none = get_or-zeros k d in omega (arith, one, none));
  items = λ key. inr (tt, refl);
}
