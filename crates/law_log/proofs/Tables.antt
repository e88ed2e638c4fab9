-- The table and the settled stores, entry by entry.
use Rattle.std.proofs.Common.{ℕ, suc, ◌≡◌, ◌≢◌, ◌+◌, ◌<◌, ◌≤◌, Bool, List, [], ◌∷◌, ◌++◌, length, replicate, ◌⊎◌, inl}
use Rattle.std.proofs.Common.{inr, Option, if◌then◌else◌, refl, sym, ap, ap₂, subst, ◌∙◌, arith}
use Rattle.std.specs.Prelude.{slice_index, slice_set}
use Rattle.std.proofs.lemmas.Bool.{cases_eq}
use Rattle.std.proofs.lemmas.List.{get_or-set_other, get_or-set_same, length-append, length-set, length-replicate}
use Rattle.group_types.specs.Dimensions.{Dimensions}
use Rattle.group_types.specs.Hash.{home_of}
use Rattle.group_types.specs.Lists.{at, put, same_key}
use Rattle.group_types.proofs.Lists.{at-put, at-put-other, at-replicate}
use Rattle.erasure_code.proofs.Lists.{get_or-zeros}
use Rattle.memc_table.specs.Act.{key_of}
use Rattle.memc_table.specs.Asked.{Asked}
use Rattle.memc_table.specs.Contents.{Contents, after_ruling, count_of, empty_table, holding_at, partition_of, reply_in, reply_of, ruling_on, table_after}
use Rattle.memc_table.specs.Expiry.{live_at}
use Rattle.memc_table.specs.Ruling.{ruling_of}
use Rattle.memc_table.specs.declared.holding.Holding.{Holding}
use Rattle.memc_table.specs.declared.reply.Reply.{Reply}
use Rattle.memc_table.specs.declared.ruling.Ruling.TheVariants.{Accepted, Refused}
use Rattle.group_message.specs.declared.update.Update.{Update}
use Rattle.group_calls.specs.Log.{IsLegalFrom, table_of}
use Rattle.group_calls.specs.declared.entry.Entry.{Entry}
use Rattle.group_run.specs.Asking.{reply_from}
use Rattle.law_updates.specs.Right.{IsRight, ruling_in}
use Rattle.law_updates.specs.Store.{Store, StoreFits, held, no_store, store_after}
use Rattle.law_updates.proofs.Histories.{store-append}
use Rattle.law_updates.proofs.Keys.{key-ne}
use Rattle.law_updates.proofs.Steps.{right_updates_leave}
use Rattle.law_log.proofs.Ties.{Ties}

-- the home of a key is a partition
pub home-below : (key : List ℕ) (k : ℕ) → 1 ≤ k → home_of key k < k
home-below key k some = omega arith

module _ (s : Dimensions) (some : 1 ≤ s.k) (settled : List (List Update)) (t : Contents) (ties : Ties s settled t) where
  home-is : (key : List ℕ) → partition_of t key ≡ home_of key s.k
  home-is key = ap (home_of key) ties.many

  count-is : (key : List ℕ) → count_of t key ≡ length (at [] settled (home_of key s.k))
  count-is key = ap (slice_index t.counts) (home-is key) ∙ ties.counts (home_of key s.k) (home-below key s.k some)

  -- the table's ruling is the one on the settled store
  pub ruling-is : (op : Asked) → let d : ℕ = home_of (key_of op.act) s.k in
      ruling_on t op ≡ ruling_in (store_after s d (at [] settled d)) (suc (length (at [] settled d))) op
  ruling-is op =
      let number : count_of t (key_of op.act) + 1 ≡ suc (length (at [] settled (home_of (key_of op.act) s.k))) = let e =
      count-is (key_of op.act) in omega arith in
      ap₂ (λ (n : ℕ) (x : Option Holding). ruling_of op.moment n op.act (live_at op.moment x)) number (ties.items (key_of op.act))

  -- a refusal changes nothing
  pub refusal-ties : (op : Asked) (reply : Reply) → let d : ℕ = home_of (key_of op.act) s.k in
      ruling_in (store_after s d (at [] settled d)) (suc (length (at [] settled d))) op ≡ Refused reply
      → (reply ≡ reply_of t op) × Ties s settled (table_after t op)
  refusal-ties op reply refused =
      let is : ruling_on t op ≡ Refused reply = ruling-is op ∙ refused in
      (sym (ap reply_in is), subst (Ties s settled) (sym (ap (after_ruling t (key_of op.act)) is)) ties)

  -- a right update makes its reply, and the table has what it leaves
  module _ (d : ℕ) (u : Update) (op : Asked) (home : home_of (key_of op.act) s.k ≡ d) (fits : StoreFits s (store_after s d (at [] settled d)))
      (right : IsRight s (store_after s d (at [] settled d)) (suc (length (at [] settled d))) op u) (low : d < s.k) where
    ruled : ruling_on t op ≡ Accepted right.reply right.leaves
    ruled = ruling-is op ∙ ap (λ (e : ℕ). ruling_in (store_after s e (at [] settled e)) (suc (length (at [] settled e))) op) home ∙ right.ruled

    pub update-reply : reply_from u.outcome ≡ reply_of t op
    update-reply =
        (right_updates_leave s d (suc (length (at [] settled d))) (store_after s d (at [] settled d)) op u fits
        right).replies ∙ sym (ap reply_in ruled)

    abbrev more : List Update
    more = at [] settled d ++ u ∷ []

    table-is : table_after t op ≡ after_ruling t (key_of op.act) (Accepted right.reply right.leaves)
    table-is = ap (after_ruling t (key_of op.act)) ruled

    part : partition_of t (key_of op.act) ≡ d
    part = home-is (key_of op.act) ∙ home

    count : count_of t (key_of op.act) + 1 ≡ length (at [] settled d ++ u ∷ [])
    count = let e = ap (slice_index t.counts) part ∙ ties.counts d low in omega (arith, length-append (at [] settled d) (u ∷ []))

    counted : (e : ℕ) → e < s.k → (e ≡ d) ⊎ (e ≢ d)
        → slice_index (slice_set t.counts (partition_of t (key_of op.act)) (count_of t (key_of op.act) + 1)) e ≡ length (at [] (put [] settled d more) e)
    counted e below (inl same) =
        ap (λ (i : ℕ). slice_index (slice_set t.counts i (count_of t (key_of op.act) + 1)) e) part
        ∙ ap (slice_index (slice_set t.counts d (count_of t (key_of op.act) + 1))) same
        ∙ get_or-set_same t.counts d (count_of t (key_of op.act) + 1) 0 (omega (arith, ties.many, low))
        ∙ count ∙ ap length (sym (at-put [] [] settled d more)) ∙ ap (λ (i : ℕ). length (at [] (put [] settled d more) i)) (sym same)
    counted e below (inr other) =
        ap (λ (i : ℕ). slice_index (slice_set t.counts i (count_of t (key_of op.act) + 1)) e) part
        ∙ get_or-set_other t.counts d e (count_of t (key_of op.act) + 1) 0 other ∙ ties.counts e below
        ∙ ap length (sym (at-put-other [] settled d e more other))

    item : (key : List ℕ) (e : ℕ) → home_of key s.k ≡ e → (e ≡ d) ⊎ (e ≢ d)
        → holding_at (key_of op.act) right.leaves t.items key ≡ held (store_after s e (at [] (put [] settled d more) e)) key
    item key e its (inr other) =
        let differ : key_of op.act ≢ key = λ same. other (sym its ∙ sym (ap (λ (x : List ℕ). home_of x s.k) same) ∙ home) in
        ap (λ (b : Bool). if b then right.leaves else t.items key) (key-ne (key_of op.act) key differ)
        ∙ ties.items key ∙ ap (λ (i : ℕ). held (store_after s i (at [] settled i)) key) its
        ∙ ap (λ (us : List Update). held (store_after s e us) key) (sym (at-put-other [] settled d e more other))
    item key e its (inl same) =
        let leaves = right_updates_leave s d (suc (length (at [] settled d))) (store_after s d (at [] settled d)) op u fits right in
        let old : t.items key ≡ held (store_after s d (at [] settled d)) key = ties.items key
        ∙ ap (λ (i : ℕ). held (store_after s i (at [] settled i)) key) (its ∙ same) in
        ap (λ (x : Option Holding). if same_key (key_of op.act) key then right.leaves else x) old
        ∙ ap (λ (k : List ℕ). holding_at k right.leaves (held (store_after s d (at [] settled d))) key) (sym right.key)
        ∙ sym (leaves.holds key)
        ∙ ap (λ (x : Store). held x key) (sym (store-append s d (no_store s) (at [] settled d) (u ∷ [])))
        ∙ ap (λ (us : List Update). held (store_after s d us) key) (sym (at-put [] [] settled d more))
        ∙ ap (λ (i : ℕ). held (store_after s i (at [] (put [] settled d more) i)) key) (sym same)

    pub update-ties : Ties s (put [] settled d (at [] settled d ++ u ∷ [])) (table_after t op)
    update-ties = subst (Ties s (put [] settled d (at [] settled d ++ u ∷ []))) (sym table-is) (record {
      many = length-set t.counts (partition_of t (key_of op.act)) (count_of t (key_of op.act) + 1) ∙ ties.many;
      counts = λ e below. counted e below (cases_eq e d);
      items = λ key. item key (home_of key s.k) refl (cases_eq (home_of key s.k) d);
    })

-- at the start both are empty
pub ties-opening : (s : Dimensions) → Ties s (replicate s.k []) (empty_table s.k)
ties-opening s = record {
  many = length-replicate s.k 0;
  counts = λ d low. get_or-zeros s.k d ∙ sym (ap length (at-replicate [] s.k d));
  items = λ key. sym (ap (λ (us : List Update). held (store_after s (home_of key s.k) us) key) (at-replicate [] s.k (home_of key s.k)));
}

-- entries behind others
pub table-append : (t : Contents) (es others : List Entry) → table_of t (es ++ others) ≡ table_of (table_of t es) others
table-append t [] others = refl
table-append t (e ∷ es) others = table-append (table_after t e.op) es others

pub legal-append : (t : Contents) (es others : List Entry) → IsLegalFrom t es → IsLegalFrom (table_of t es) others → IsLegalFrom t (es ++ others)
legal-append t [] others a b = b
legal-append t (e ∷ es) others a b = (a.0, legal-append (table_after t e.op) es others a.1 b)
