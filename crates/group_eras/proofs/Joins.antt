-- The table over all eras and that of the current one, op by op.
use Rattle.std.proofs.Common.{ℕ, ◌≡◌, ◌≢◌, ◌<◌, ◌≤◌, ◌+◌, ◌==◌, nat_le, Bool, true, false, List, [], ◌∷◌, ◌++◌, length}
use Rattle.std.proofs.Common.{map, Option, Some, None, if◌then◌else◌, ◌⊎◌, inl, inr, refl, sym, ap, subst, ◌∙◌, arith}
use Rattle.std.specs.Prelude.{slice_index, slice_set}
use Rattle.std.proofs.lemmas.Bool.{cases_eq}
use Rattle.std.proofs.lemmas.List.{get_or-set_other, get_or-set_same, length-set}
use Rattle.group_types.specs.Each.{Each}
use Rattle.group_types.specs.Hash.{home_of}
use Rattle.group_types.specs.Lists.{at, same_key}
use Rattle.memc_table.specs.Act.{key_of}
use Rattle.memc_table.specs.Asked.{Asked}
use Rattle.memc_table.specs.Contents.{Contents, after_ruling, count_of, partition_of, reply_in, reply_of, ruling_on, table_after}
use Rattle.memc_table.specs.Expiry.{live_at}
use Rattle.memc_table.specs.Numeral.{number_of}
use Rattle.memc_table.specs.Ruling.{changed, joined, longest_value, lowered, raised, ruling_of}
use Rattle.memc_table.specs.declared.act.Act.{Act}
use Rattle.memc_table.specs.declared.act.Act.TheVariants.{Add, Append, Cas, Decr, Delete, Get, Incr, Prepend, Replace, Set, Touch}
use Rattle.memc_table.specs.declared.holding.Holding.{Holding}
use Rattle.memc_table.specs.declared.reply.Reply.TheVariants as reply
use Rattle.memc_table.specs.declared.ruling.Ruling.{Ruling}
use Rattle.memc_table.specs.declared.ruling.Ruling.TheVariants.{Accepted, Refused}
use Rattle.group_calls.specs.Log.{IsLegalFrom, table_of}
use Rattle.group_calls.specs.declared.entry.Entry.{Entry}
use Rattle.group_calls.specs.declared.event.Event.{Event}
use Rattle.law_updates.proofs.Keys.{key-eq}
use Rattle.law_log.proofs.Tables.{home-below}
use Rattle.group_eras.specs.Eras.{EraEntry}
use Rattle.group_eras.specs.Promise.{AreTold}
use Rattle.group_eras.specs.Told.{Bases, based_reply, op_for_era, with_base, with_cas, without_base}
use Rattle.group_eras.proofs.Shifts.{Alike, Gone, HasCas, IsSet, LeavesCas, Same, cas-live, ruling-cas, ruling-shift, same-live, set-shift, shift, shift_ruling}

pub key-cas : (f : ℕ → ℕ) (act : Act) → key_of (with_cas f act) ≡ key_of act
key-cas f (Get key) = refl
key-cas f (Set key flags expiry value) = refl
key-cas f (Add key flags expiry value) = refl
key-cas f (Replace key flags expiry value) = refl
key-cas f (Cas key flags expiry cas value) = refl
key-cas f (Delete key) = refl
key-cas f (Touch key expiry) = refl
key-cas f (Append key value) = refl
key-cas f (Prepend key value) = refl
key-cas f (Incr key by) = refl
key-cas f (Decr key by) = refl

-- a reply that accepts an op has no number of a partition
abbrev pub Tells : Ruling → Type 0
Tells (Refused reply) = Unit {0}
Tells (Accepted reply leaves) = (bases : Bases) (d : ℕ) → based_reply bases d reply ≡ reply

joined-tells : (n : ℕ) (h : Holding) (value : List ℕ) → Tells (joined n h value)
joined-tells n h value = by (nat_le (length value) longest_value) where
  by : (b : Bool) → Tells (if b then Accepted reply.Stored (changed n h value) else Refused reply.TooLarge)
  by true = λ bases d. refl
  by false = tt

raised-tells : (n : ℕ) (h : Holding) (by : ℕ) (o : Option ℕ) → Tells (raised n h by o)
raised-tells n h by None = tt
raised-tells n h by (Some v) = λ bases d. refl

lowered-tells : (n : ℕ) (h : Holding) (by : ℕ) (o : Option ℕ) → Tells (lowered n h by o)
lowered-tells n h by None = tt
lowered-tells n h by (Some v) = λ bases d. refl

tells : (t n : ℕ) (act : Act) (y : Option Holding) → Tells (ruling_of t n act y)
tells t n (Get key) None = tt
tells t n (Get key) (Some h) = tt
tells t n (Set key flags expiry value) None = λ bases d. refl
tells t n (Set key flags expiry value) (Some h) = λ bases d. refl
tells t n (Add key flags expiry value) None = λ bases d. refl
tells t n (Add key flags expiry value) (Some h) = tt
tells t n (Replace key flags expiry value) None = tt
tells t n (Replace key flags expiry value) (Some h) = λ bases d. refl
tells t n (Cas key flags expiry cas value) None = tt
tells t n (Cas key flags expiry cas value) (Some h) = by (h.item.cas == cas) where
  by : (b : Bool) → Tells (if b then ruling_of t n (Set key flags expiry value) None else Refused reply.Exists)
  by true = λ bases d. refl
  by false = tt
tells t n (Delete key) None = tt
tells t n (Delete key) (Some h) = λ bases d. refl
tells t n (Touch key expiry) None = tt
tells t n (Touch key expiry) (Some h) = λ bases d. refl
tells t n (Append key value) None = tt
tells t n (Append key value) (Some h) = joined-tells n h (h.item.value ++ value)
tells t n (Prepend key value) None = tt
tells t n (Prepend key value) (Some h) = joined-tells n h (value ++ h.item.value)
tells t n (Incr key by) None = tt
tells t n (Incr key by) (Some h) = raised-tells n h by (number_of h.item.value)
tells t n (Decr key by) None = tt
tells t n (Decr key by) (Some h) = lowered-tells n h by (number_of h.item.value)

module _ (bases : Bases) (k : ℕ) (some : 1 ≤ k) (Free : List ℕ → Type 0) where
  abbrev pub home : List ℕ → ℕ
  home key = home_of key k

  -- an item over all eras is that of the current one, or its key is free and has none yet
  abbrev pub Meets : List ℕ → Option Holding → Option Holding → Type 0
  Meets key x y = Same bases (home key) x y ⊎ (Free key × (y ≡ None))

  -- the table over all eras, and the era's
  pub record Joined (all own : Contents) : Type 0 where
    pub many_all : length all.counts ≡ k
    pub many_own : length own.counts ≡ k
    pub counts : (d : ℕ) → d < k → slice_index all.counts d ≡ with_base bases d (slice_index own.counts d)
    pub items : (key : List ℕ) → Meets key (all.items key) (own.items key)

  -- an op that may be done on free keys is a set
  abbrev pub SetsFree : Asked → Type 0
  SetsFree op = Free (key_of op.act) → IsSet op.act

  count-is : (t : Contents) (key : List ℕ) → length t.counts ≡ k → count_of t key ≡ slice_index t.counts (home key)
  count-is t key many = ap (λ (n : ℕ). slice_index t.counts (home_of key n)) many

  module _ (all own : Contents) (joined : Joined all own) where
    module _ (op : Asked) (sets : SetsFree op) where
      abbrev key : List ℕ
      key = key_of op.act

      abbrev act : Act
      act = with_cas (without_base bases (home key)) op.act

      number : count_of all key + 1 ≡ with_base bases (home key) (count_of own key + 1)
      number =
          let a = count-is all key joined.many_all in
          let o = count-is own key joined.many_own in
          let c = joined.counts (home key) (home-below key k some) in
          omega (arith, a, o, c)

      meets : ruling_of op.moment (with_base bases (home key) (count_of own key + 1)) op.act (live_at op.moment (all.items key))
          ≡ shift_ruling bases (home key) (ruling_of op.moment (count_of own key + 1) act (live_at op.moment (own.items key)))
      meets = by (joined.items key) where
        of-same : (y : Option Holding) → HasCas y → Same bases (home key) (all.items key) y
            → ruling_of op.moment (with_base bases (home key) (count_of own key + 1)) op.act (live_at op.moment (all.items key))
            ≡ shift_ruling bases (home key) (ruling_of op.moment (count_of own key + 1) act (live_at op.moment y))
        of-same y has same =
            ap (ruling_of op.moment (with_base bases (home key) (count_of own key + 1)) op.act) (same-live bases (home key) op.moment (all.items key) y same)
            ∙ ruling-shift bases (home key) op.moment (count_of own key + 1) op.act (live_at op.moment y) (cas-live bases (home key) op.moment y has)

        by : Meets key (all.items key) (own.items key)
            → ruling_of op.moment (with_base bases (home key) (count_of own key + 1)) op.act
            (live_at op.moment (all.items key))
            ≡ shift_ruling bases (home key) (ruling_of op.moment (count_of own key + 1) act (live_at op.moment (own.items key)))
        by (inl (Alike is has)) = of-same (own.items key) has (Alike is has)
        by (inl (Gone h is ends none)) = of-same (own.items key) (subst HasCas (sym none) tt) (Gone h is ends none)
        by (inr both) = set-shift bases (home key) op.moment (count_of own key + 1) op.act
            (live_at op.moment (all.items key)) (live_at op.moment (own.items key)) (sets both.0)

      own-ruling : ruling_on own (op_for_era bases k op) ≡ ruling_of op.moment (count_of own key + 1) act (live_at op.moment (own.items key))
      own-ruling = ap (λ (x : List ℕ). ruling_of op.moment (count_of own x + 1) act (live_at op.moment (own.items x)))
          (key-cas (without_base bases (home key)) op.act)

      -- what comes of the op is what comes of it in the era
      pub ruling-joined : ruling_on all op ≡ shift_ruling bases (home key) (ruling_on own (op_for_era bases k op))
      ruling-joined =
          ap (λ (n : ℕ). ruling_of op.moment n op.act (live_at op.moment (all.items key))) number
          ∙ meets ∙ ap (shift_ruling bases (home key)) (sym own-ruling)

      own-cas : HasCas (own.items key)
      own-cas = by (joined.items key) where
        by : Meets key (all.items key) (own.items key) → HasCas (own.items key)
        by (inl (Alike is has)) = has
        by (inl (Gone h is ends none)) = subst HasCas (sym none) tt
        by (inr both) = subst HasCas (sym both.1) tt

      leaves : LeavesCas (ruling_on own (op_for_era bases k op))
      leaves = subst LeavesCas (sym own-ruling)
          (ruling-cas op.moment (count_of own key + 1) act (live_at op.moment (own.items key)) (omega arith)
          (cas-live bases (home key) op.moment (own.items key) own-cas))

      pub reply-joined : reply_of all op ≡ based_reply bases (home key) (reply_of own (op_for_era bases k op))
      reply-joined = ap reply_in ruling-joined ∙ by (ruling_on own (op_for_era bases k op)) (accepting own) where
        -- a reply that accepts has no number
        accepting : (t : Contents) → Tells (ruling_on t (op_for_era bases k op))
        accepting t = tells op.moment (count_of t (key_of (op_for_era bases k op).act) + 1) (op_for_era bases k op).act
            (live_at op.moment (t.items (key_of (op_for_era bases k op).act)))

        by : (r : Ruling) → Tells r → reply_in (shift_ruling bases (home key) r) ≡ based_reply bases (home key) (reply_in r)
        by (Refused reply) tells = refl
        by (Accepted reply left) tells = sym (tells bases (home key))

    after : (key : List ℕ) (r : Ruling) → LeavesCas r → Joined (after_ruling all key (shift_ruling bases (home key) r)) (after_ruling own key r)
    after key (Refused reply) has = joined
    after key (Accepted reply left) has = record {
      many_all = length-set all.counts (partition_of all key) (count_of all key + 1) ∙ joined.many_all;
      many_own = length-set own.counts (partition_of own key) (count_of own key + 1) ∙ joined.many_own;
      counts = λ d below. counted d below (cases_eq d (home key));
      items = λ other. item other (same_key key other) refl;
    } where
      place : (t : Contents) → length t.counts ≡ k → partition_of t key ≡ home key
      place t many = ap (home_of key) many

      at-place : (t : Contents) (d : ℕ) → length t.counts ≡ k
          → slice_index (slice_set t.counts (partition_of t key) (count_of t key + 1)) d ≡ slice_index (slice_set t.counts (home key) (count_of t key + 1)) d
      at-place t d many = ap (λ (i : ℕ). slice_index (slice_set t.counts i (count_of t key + 1)) d) (place t many)

      counted : (d : ℕ) → d < k → (d ≡ home key) ⊎ (d ≢ home key)
          → slice_index (slice_set all.counts (partition_of all key) (count_of all key + 1)) d
          ≡ with_base bases d (slice_index (slice_set own.counts (partition_of own key) (count_of own key + 1)) d)
      counted d below (inl same) =
          let a = at-place all d joined.many_all ∙ ap (slice_index (slice_set all.counts (home key) (count_of all key + 1))) same
          ∙ get_or-set_same all.counts (home key) (count_of all key + 1) 0 (let low = home-below key k some in omega (arith, joined.many_all, low)) in
          let o = at-place own d joined.many_own ∙ ap (slice_index (slice_set own.counts (home key) (count_of own key + 1))) same
          ∙ get_or-set_same own.counts (home key) (count_of own key + 1) 0 (let low = home-below key k some in omega (arith, joined.many_own, low)) in
          let ca = count-is all key joined.many_all in
          let co = count-is own key joined.many_own in
          let c = joined.counts (home key) (home-below key k some) in
          let b : at 0 bases d ≡ at 0 bases (home key) = ap (at 0 bases) same in
          omega (arith, a, o, ca, co, c, b)
      counted d below (inr other) =
          let a = at-place all d joined.many_all ∙ get_or-set_other all.counts (home key) d (count_of all key + 1) 0 other in
          let o = at-place own d joined.many_own ∙ get_or-set_other own.counts (home key) d (count_of own key + 1) 0 other in
          let c = joined.counts d below in
          omega (arith, a, o, c)

      item : (other : List ℕ) (b : Bool) → same_key key other ≡ b
          → Meets other (if same_key key other then shift bases (home key) left else all.items other)
          (if same_key key other then left else own.items other)
      item other true is =
          let here : key ≡ other = key-eq key other is in
          inl (Alike (ap (λ (t : Bool). if t then shift bases (home key) left else all.items other) is
          ∙ ap (λ (q : List ℕ). shift bases (home q) left) here ∙ ap (λ (t : Bool). shift bases (home other) (if t then left else own.items other)) (sym is))
          (subst (λ (t : Bool). HasCas (if t then left else own.items other)) (sym is) has))
      item other false is =
          subst (λ (t : Bool). Meets other (if t then shift bases (home key) left else all.items other)
          (if t then left else own.items other)) (sym is) (joined.items other)

    -- so they are joined after it
    pub after-joined : (op : Asked) → SetsFree op → Joined (table_after all op) (table_after own (op_for_era bases k op))
    after-joined op sets =
        let r : Ruling = ruling_on own (op_for_era bases k op) in
        let next : Joined (after_ruling all (key_of op.act) (shift_ruling bases (home (key_of op.act)) r))
        (after_ruling own (key_of op.act) r) = after (key_of op.act) r (leaves op sets) in
        subst (λ (x : Ruling). Joined (after_ruling all (key_of op.act) x) (table_after own (op_for_era bases k op))) (sym (ruling-joined op sets))
        (subst (λ (q : List ℕ). Joined (after_ruling all (key_of op.act) (shift_ruling bases (home (key_of op.act)) r))
        (after_ruling own q r)) (sym (key-cas (without_base bases (home (key_of op.act))) op.act)) next)

  -- a log of the era, as it is told, is legal behind that of the eras before
  pub told-legal : (asked : List Event) (era : ℕ) (all own : Contents) (entries : List Entry) (told : List EraEntry) → Joined all own → IsLegalFrom own entries
      → AreTold bases k asked era entries told → Each (λ y. SetsFree y.1.op) told
      → IsLegalFrom all (map (λ y. y.1) told) × Joined (table_of all (map (λ y. y.1) told)) (table_of own entries)
  told-legal asked era all own [] [] joined legal are sets = (tt, joined)
  told-legal asked era all own [] (y ∷ ys) joined legal are sets = absurd are
  told-legal asked era all own (x ∷ xs) [] joined legal are sets = absurd are
  told-legal asked era all own (x ∷ xs) (y ∷ ys) joined legal are sets =
      let told = are.1 in
      let op : Asked = y.1.op in
      let is : x.op ≡ op_for_era bases k op = told.op in
      let next : Joined (table_after all op) (table_after own x.op) =
      subst (λ (o : Asked). Joined (table_after all op) (table_after own o)) (sym is)
      (after-joined all own joined op sets.0) in
      let rest = told-legal asked era (table_after all op) (table_after own x.op) xs ys next legal.1 are.2 sets.1 in (
        (
          told.reply ∙ ap (based_reply bases (home (key_of op.act))) (legal.0 ∙ ap (reply_of own) is)
              ∙ sym (reply-joined all own joined op sets.0),
          rest.0,
        ),
        rest.1,
      )
