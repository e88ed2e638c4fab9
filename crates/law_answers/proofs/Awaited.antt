-- A block that a call has to wait for is awaited after the step, or rebuilt where there is one partition.
use Rattle.std.proofs.Common.{ℕ, zero, suc, ◌≡◌, ◌≢◌, ◌<◌, ◌≤◌, ◌+◌, ◌==◌, Bool, true, false, not, ◌&&◌, ◌||◌, List, []}
use Rattle.std.proofs.Common.{◌∷◌, ◌++◌, length, slice_index_or, is_some, map, filter, Option, Some, None, option_map}
use Rattle.std.proofs.Common.{◌⊎◌, inl, inr, sym, ap, subst, ◌∙◌, refl, arith, if◌then◌else◌}
use Rattle.std.specs.Prelude.{Contains}
use Rattle.std.specs.List.{list_all, list_any, range_with_len}
use Rattle.std.proofs.lemmas.Bool.{cases_eq, cases_lt, eq-eqb}
use Rattle.std.proofs.lemmas.Grind.{common_steps}
use Rattle.group_types.specs.Dimensions.{Dimensions}
use Rattle.group_types.specs.Lists.{at, put}
use Rattle.group_types.specs.Names.{same_process}
use Rattle.group_types.specs.declared.process.ProcessId.{ProcessId}
use Rattle.group_types.specs.declared.process.ProcessId.TheVariants.{DataNode, ParityNode}
use Rattle.group_types.proofs.Lists.{at-put, at-put-other, at-replicate}
use Rattle.group_message.specs.declared.update.Update.{Update}
use Rattle.group_run.specs.Applying.{apply_to, block_after, for_each, rebuilt_after, replica_of, when}
use Rattle.group_run.specs.Asking.{retry_block}
use Rattle.group_run.specs.Causes.{ComesToBe, IsAwaited}
use Rattle.group_run.specs.Leaders.{blocks_met, missing_block, copy_kept, copy_marked, decoded_of, gathered_when}
use Rattle.group_run.specs.Leaders.{is_complete, lost_of, mark_comes, mark_taken, new_session, open_session, own_mark}
use Rattle.group_run.specs.Leaders.{rebuilt_block, rebuilt_unless, row_comes, row_finished, row_gathered, rows_of}
use Rattle.group_run.specs.Leaders.{session_opened, start_session, with_decoded}
use Rattle.group_run.specs.Meaning.{process_of}
use Rattle.group_run.specs.Process.{Copy, Gathering, LeaderState, Process}
use Rattle.group_run.specs.Replica.{up_to}
use Rattle.group_run.specs.Rows.{accepts_mark, begin_copy, copy_begun, copy_in, is_copy, is_marked, marked, parity_number, with_copies, without_copy}
use Rattle.group_run.specs.World.{World}
use Rattle.law_bytes.specs.Decoding.{Rising}
use Rattle.law_bytes.proofs.Copies.{stays-decoded}
use Rattle.law_bytes.proofs.Applying.{at-rebuilt}
use Rattle.law_bytes.proofs.Rising.{rising-filtered}
use Rattle.law_bytes.proofs.Finds.{rising-take}
use Rattle.membership.specs.Members.{knows_dead}
use Rattle.group_types.specs.declared.run.Run.{Run}
use Rattle.group_types.specs.Each.{Each, EachTwo}
use Rattle.law_answers.proofs.Distinct.{Differ, IsDistinct, mark-still, opened-distinct, start-still}
use Rattle.law_answers.proofs.Walks.{found-there}

-- one of those that pass
pub any-there : {X : Type 0} (test : X → Bool) (xs : List X) → list_any test xs ≡ true → (x : X) × Contains xs x × (test x ≡ true)
any-there test [] some = absurd (cc some)
any-there test (x ∷ xs) some = by (test x) refl some (any-there test xs) where
  by : (b : Bool) → test x ≡ b → (b || list_any test xs) ≡ true
      → (list_any test xs ≡ true → (y : _) × Contains xs y × (test y ≡ true)) → (y : _) × Contains (x ∷ xs) y
      × (test y ≡ true)
  by true passes some later = (x, (0, omega arith, refl), passes)
  by false fails some later = behind (later some) where
    behind : (y : _) × Contains xs y × (test y ≡ true) → (y : _) × Contains (x ∷ xs) y × (test y ≡ true)
    behind (y, (k, low, is), passes) = (y, (suc k, omega (arith, low), is), passes)

each-there : (P : Gathering → Type 0) (gs : List Gathering) (g : Gathering) → Each P gs → Contains gs g → P g
each-there P [] g all (k, low, is) = absurd (omega (arith, low))
each-there P (x ∷ xs) g all (k, low, is) = by k low is (each-there P xs g all.1) where
  by : (k : ℕ) → k < length (x ∷ xs) → slice_index_or (x ∷ xs) k g ≡ g → (Contains xs g → P g) → P g
  by zero low is later = subst P is all.0
  by (suc k) low is later = later (k, omega (arith, low), is)

-- of sessions that differ no two have one number, or one block
same-session : (gs : List Gathering) (a b : Gathering) → EachTwo Differ gs → Contains gs a → Contains gs b → (a.number ≡ b.number) ⊎ (a.block ≡ b.block) → a ≡ b
same-session [] a b differ (k, low, is) there same = absurd (omega (arith, low))
same-session (x ∷ xs) a b differ (i, low, is) (j, high, it) same = by i j low high is it (λ here there. same-session xs a b differ.1 here there same) where
  apart : (y z : Gathering) → Differ y z → (y.number ≡ z.number) ⊎ (y.block ≡ z.block) → ⊥
  apart y z other (inl number) = other.0 number
  apart y z other (inr block) = other.1 block

  turned : (a.number ≡ b.number) ⊎ (a.block ≡ b.block) → (b.number ≡ a.number) ⊎ (b.block ≡ a.block)
  turned (inl number) = inl (sym number)
  turned (inr block) = inr (sym block)

  by : (i j : ℕ) → i < length (x ∷ xs) → j < length (x ∷ xs) → slice_index_or (x ∷ xs) i a ≡ a
      → slice_index_or (x ∷ xs) j b ≡ b → (Contains xs a → Contains xs b → a ≡ b) → a ≡ b
  by zero zero low high is it later = sym is ∙ it
  by zero (suc j) low high is it later =
      absurd (apart a b
      (subst (λ (y : Gathering). Differ y b) is (each-there (Differ x) xs b differ.0 (j, omega (arith, high), it)))
      same)
  by (suc i) zero low high is it later =
      absurd (apart b a
      (subst (λ (y : Gathering). Differ y a) it (each-there (Differ x) xs a differ.0 (i, omega (arith, low), is)))
      (turned same))
  by (suc i) (suc j) low high is it later = later (i, omega (arith, low), is) (j, omega (arith, high), it)

-- what a member becomes
contains-mapped : (f : Gathering → Gathering) (gs : List Gathering) (a b : Gathering) → Contains gs a → f a ≡ b → Contains (map f gs) b
contains-mapped f [] a b (k, low, is) to = absurd (omega (arith, low))
contains-mapped f (x ∷ xs) a b (k, low, is) to = by k low is (λ there. contains-mapped f xs a b there to) where
  behind : Contains (map f xs) b → Contains (f x ∷ map f xs) b
  behind (k, low, is) = (suc k, omega (arith, low), is)

  by : (k : ℕ) → k < length (x ∷ xs) → slice_index_or (x ∷ xs) k a ≡ a → (Contains xs a → Contains (map f xs) b) → Contains (f x ∷ map f xs) b
  by zero low is later = (0, omega arith, ap f is ∙ to)
  by (suc k) low is later = behind (later (k, omega (arith, low), is))

contains-end : (gs : List Gathering) (g : Gathering) → Contains (gs ++ g ∷ []) g
contains-end [] g = (0, omega arith, refl)
contains-end (x ∷ xs) g = let rest = contains-end xs g in let low = rest.1 in (suc rest.0, omega (arith, low), rest.2)

-- rebuilt blocks stay so
some-unless : (c : Bool) (s : Dimensions) (g : Gathering) (l : ℕ) (state : LeaderState) (d : ℕ) → is_some (rebuilt_block state d g.block) ≡ true
    → is_some (rebuilt_block (rebuilt_unless c s g l state) d g.block) ≡ true
some-unless true s g l state d some = some
some-unless false s g l state d some = by (cases_eq d l) where
  blocks : List (Option (List ℕ))
  blocks = put None (at [] state.rebuilt l) g.block (Some (decoded_of s g l))

  by : (d ≡ l) ⊎ (d ≢ l) → is_some (at None (at [] (put [] state.rebuilt l blocks) d) g.block) ≡ true
  by (inl same) =
      ap (λ (j : ℕ). is_some (at None (at [] (put [] state.rebuilt l blocks) j) g.block)) same
      ∙ ap (λ (bs : List (Option (List ℕ))). is_some (at None bs g.block)) (at-put [] [] state.rebuilt l blocks)
      ∙ ap is_some (at-put None None (at [] state.rebuilt l) g.block (Some (decoded_of s g l)))
  by (inr other) = ap (λ (bs : List (Option (List ℕ))). is_some (at None bs g.block)) (at-put-other [] state.rebuilt l d blocks other) ∙ some

now-some : (c : Bool) (s : Dimensions) (g : Gathering) (l : ℕ) (state : LeaderState) → is_some (rebuilt_block state l g.block) ≡ c
    → is_some (rebuilt_block (rebuilt_unless c s g l state) l g.block) ≡ true
now-some true s g l state is = is
now-some false s g l state is =
    ap (λ (bs : List (Option (List ℕ))). is_some (at None bs g.block))
    (at-put [] [] state.rebuilt l (put None (at [] state.rebuilt l) g.block (Some (decoded_of s g l))))
    ∙ ap is_some (at-put None None (at [] state.rebuilt l) g.block (Some (decoded_of s g l)))

some-decoded : (s : Dimensions) (g : Gathering) (ls : List ℕ) (state : LeaderState) (d : ℕ) → is_some (rebuilt_block state d g.block) ≡ true
    → is_some (rebuilt_block (with_decoded s g ls state) d g.block) ≡ true
some-decoded s g [] state d some = some
some-decoded s g (l ∷ ls) state d some = some-decoded s g ls _ d (some-unless (is_some (rebuilt_block state l g.block)) s g l state d some)

-- a session that is decoded rebuilds its block of each lost partition
pub decoded-some : (s : Dimensions) (g : Gathering) (ls : List ℕ) (state : LeaderState) (d : ℕ) → list_any (λ l. l == d) ls ≡ true
    → is_some (rebuilt_block (with_decoded s g ls state) d g.block) ≡ true
decoded-some s g [] state d lost = absurd (cc lost)
decoded-some s g (l ∷ ls) state d lost =
    by (l == d) refl lost (decoded-some s g ls (rebuilt_unless (is_some (rebuilt_block state l g.block)) s g l state)
    d) where
      by : (b : Bool) → (l == d) ≡ b → (b || list_any (λ l. l == d) ls) ≡ true
          → (list_any (λ l. l == d) ls ≡ true
          → is_some (rebuilt_block
          (with_decoded s g ls (rebuilt_unless (is_some (rebuilt_block state l g.block)) s g l state)) d g.block) ≡ true)
          → is_some (rebuilt_block (with_decoded s g ls (rebuilt_unless (is_some (rebuilt_block state l g.block)) s g l state)) d g.block) ≡ true
      by true test lost later =
          let same : l ≡ d = grind (arith, common_steps) in
          some-decoded s g ls (rebuilt_unless (is_some (rebuilt_block state l g.block)) s g l state) d
          (subst (λ (e : ℕ). is_some (rebuilt_block (rebuilt_unless (is_some (rebuilt_block state l g.block)) s g l state) e
          g.block) ≡ true) same (now-some (is_some (rebuilt_block state l g.block)) s g l state refl))
      by false test lost later = later lost

-- a partition that is applied further has the same blocks rebuilt
pub kept-apply : (s : Dimensions) (e n : ℕ) (p : Process) (d b : ℕ)
    → is_some (rebuilt_block (apply_to s e n p).as_leader d b) ≡ is_some (rebuilt_block p.as_leader d b)
kept-apply s e n p d b = by (cases_eq d e) where
  us : List Update
  us = up_to n (replica_of p e)

  kept : (f : List ℕ → List ℕ) (o : Option (List ℕ)) → is_some (option_map f o) ≡ is_some o
  kept f None = refl
  kept f (Some x) = refl

  by : (d ≡ e) ⊎ (d ≢ e)
      → is_some (at None
      (at [] (put [] p.as_leader.rebuilt e
      (rebuilt_after s e (up_to n (replica_of p e)) 0 (at [] p.as_leader.rebuilt e))) d) b)
      ≡ is_some (rebuilt_block p.as_leader d b)
  by (inl same) =
      ap (λ (j : ℕ).
      is_some (at None
      (at [] (put [] p.as_leader.rebuilt e
      (rebuilt_after s e (up_to n (replica_of p e)) 0 (at [] p.as_leader.rebuilt e))) j) b)) same
      ∙ ap (λ (bs : List (Option (List ℕ))). is_some (at None bs b))
      (at-put [] [] p.as_leader.rebuilt e
      (rebuilt_after s e (up_to n (replica_of p e)) 0 (at [] p.as_leader.rebuilt e)))
      ∙ ap is_some (at-rebuilt s e (up_to n (replica_of p e)) 0 (at [] p.as_leader.rebuilt e) b)
      ∙ kept (block_after s (DataNode e) e (0 + b) (up_to n (replica_of p e))) (at None (at [] p.as_leader.rebuilt e) b)
      ∙ ap (λ (j : ℕ). is_some (rebuilt_block p.as_leader j b)) (sym same)
  by (inr other) =
      ap (λ (bs : List (Option (List ℕ))). is_some (at None bs b))
      (at-put-other [] p.as_leader.rebuilt e d (rebuilt_after s e (up_to n (replica_of p e)) 0 (at [] p.as_leader.rebuilt e)) other)

pub both-true : (a b : Bool) → (a && b) ≡ true → (a ≡ true) × (b ≡ true)
both-true true b is = (refl, is)
both-true false b is = cc is

-- each number of a range passes
range-passes : (f : ℕ → Bool) (n a i : ℕ) → list_all f (range_with_len a n) ≡ true → a ≤ i → i < a + n → f i ≡ true
range-passes f zero a i all low high = absurd (omega (arith, low, high))
range-passes f (suc n) a i all low high =
    by (cases_eq i a)
    (λ above. range-passes f n (a + 1) i (both-true (f a) (list_all f (range_with_len (a + 1) n)) all).1 above
    (omega (arith, high))) where
      by : (i ≡ a) ⊎ (i ≢ a) → (a + 1 ≤ i → f i ≡ true) → f i ≡ true
      by (inl same) later = ap f same ∙ (both-true (f a) (list_all f (range_with_len (a + 1) n)) all).0
      by (inr other) later = later (omega (arith, low, other))

-- two numbers that a list has
two-there : (xs : List ℕ) → list_any (λ l. l == 0) xs ≡ true → list_any (λ l. l == 1) xs ≡ true → 2 ≤ length xs
two-there [] zero_in one_in = absurd (cc zero_in)
two-there (x ∷ []) zero_in one_in = by (x == 0) (x == 1) refl refl zero_in one_in where
  by : (a b : Bool) → (x == 0) ≡ a → (x == 1) ≡ b → (a || false) ≡ true → (b || false) ≡ true → 2 ≤ length (x ∷ [])
  by true true first second e f = let none : x ≡ 0 = grind (arith, common_steps) in let one : x ≡ 1 =
      grind (arith, common_steps) in absurd (omega (arith, none, one))
  by true false first second e f = absurd (cc f)
  by false b first second e f = absurd (cc e)
two-there (x ∷ y ∷ zs) zero_in one_in = omega arith

-- two rows that differ can't both be the leader's
rows-apart : (rows_in : List (Option (List ℕ))) (l : ℕ) (rows : List ℕ) → ((i : ℕ) → i ≢ l → at None rows_in i ≡ None) → Rising rows
    → list_all (λ i. is_some (at None rows_in i)) rows ≡ true → length rows < 2
rows-apart rows_in l [] none rising all = omega arith
rows-apart rows_in l (x ∷ []) none rising all = omega arith
rows-apart rows_in l (x ∷ y ∷ zs) none rising all = by (cases_eq x l) where
  first : is_some (at None rows_in x) ≡ true
  first = (both-true (is_some (at None rows_in x)) (list_all (λ i. is_some (at None rows_in i)) (y ∷ zs)) all).0

  second : is_some (at None rows_in y) ≡ true
  second = (both-true (is_some (at None rows_in y)) (list_all (λ i. is_some (at None rows_in i)) zs)
      (both-true (is_some (at None rows_in x)) (list_all (λ i. is_some (at None rows_in i)) (y ∷ zs)) all).1).0

  by : (x ≡ l) ⊎ (x ≢ l) → length (x ∷ y ∷ zs) < 2
  by (inr other) = absurd (let gone = ap is_some (none x other) in cc (gone, first))
  by (inl same) = let less = rising.0.0 in absurd (let gone = ap is_some (none y (λ e. omega (arith, less, same, e))) in cc (gone, second))

-- a session that a leader has just opened: no block is in, and of the rows at most its own
record Waits (s : Dimensions) (p : Process) (l b number : ℕ) (g : Gathering) : Type 0 where
  number_is : g.number ≡ number
  block : g.block ≡ b
  lost : g.lost ≡ lost_of s p
  rows : g.rows ≡ rows_of s p
  blocks : (d : ℕ) → at None g.blocks_in d ≡ None
  others : (i : ℕ) → i ≢ l → at None g.rows_in i ≡ None

module _ (s : Dimensions) (p : Process) (l b number d : ℕ) (low : d < s.k) (rising : Rising (rows_of s p))
    (many : length (rows_of s p) ≡ length (lost_of s p)) where
  -- the session waits, or its block is rebuilt
  abbrev Comes : LeaderState → Type 0
  Comes state = ((g : Gathering) × Waits s p l b number g × Contains state.sessions g
      × (is_some (rebuilt_block state d b) ≡ false)) ⊎ ((s.k ≡ 1) × (is_some (rebuilt_block state d b) ≡ true))

  -- the same sessions and the same blocks
  comes-same : (old new : LeaderState) → new.sessions ≡ old.sessions → is_some (rebuilt_block new d b) ≡ is_some (rebuilt_block old d b) → Comes old → Comes new
  comes-same old new sessions blocks (inl (g, waits, there, none)) =
      inl (g, waits, subst (λ (gs : List Gathering). Contains gs g) (sym sessions) there, blocks ∙ none)
  comes-same old new sessions blocks (inr (one, some)) = inr (one, blocks ∙ some)

  or-left : (x y : Bool) → (x || y) ≡ true → y ≡ false → x ≡ true
  or-left true y either none = refl
  or-left false y either none = cc (either, none)

  -- a session that is complete has lost all, so there is one partition
  module _ (g : Gathering) (waits : Waits s p l b number g) (complete : is_complete s g ≡ true) where
    parts : (list_all (λ e. list_any (λ x. x == e) g.lost || is_some (at None g.blocks_in e)) (range_with_len 0 s.k)
        ≡ true) × (list_all (λ i. is_some (at None g.rows_in i)) g.rows ≡ true)
    parts = both-true (list_all (λ e. list_any (λ x. x == e) g.lost || is_some (at None g.blocks_in e))
        (range_with_len 0 s.k)) (list_all (λ i. is_some (at None g.rows_in i)) g.rows) complete

    is-lost : (e : ℕ) → e < s.k → list_any (λ x. x == e) g.lost ≡ true
    is-lost e below = or-left (list_any (λ x. x == e) g.lost) (is_some (at None g.blocks_in e))
        (range-passes (λ e. list_any (λ x. x == e) g.lost || is_some (at None g.blocks_in e)) s.k 0 e parts.0
        (omega arith) (omega (arith, below))) (ap is_some (waits.blocks e))

    one-partition : s.k ≡ 1
    one-partition = by (cases_lt 1 s.k) where
      by : (1 < s.k) ⊎ (s.k ≤ 1) → s.k ≡ 1
      by (inr few) = omega (arith, few, low)
      by (inl more) =
          let two : 2 ≤ length g.lost = two-there g.lost (is-lost 0 (omega (arith, more))) (is-lost 1 more) in
          let short : length g.rows < 2 = rows-apart g.rows_in l g.rows waits.others (subst Rising (sym waits.rows) rising) parts.1 in
          let long : length g.lost ≡ length (lost_of s p) = ap length waits.lost in
          let wide : length g.rows ≡ length (rows_of s p) = ap length waits.rows in
          absurd (omega (arith, two, short, long, wide, many))

  with-row : (bytes : List ℕ) (g : Gathering) → Waits s p l b number g → Waits s p l b number (record g { rows_in = put None g.rows_in l (Some bytes) })
  with-row bytes g waits = record {
    number_is = waits.number_is;
    block = waits.block;
    lost = waits.lost;
    rows = waits.rows;
    blocks = waits.blocks;
    others = λ i other. at-put-other None g.rows_in l i (Some bytes) other ∙ waits.others i other;
  }

  -- the own row comes in
  row-comes : (bytes : List ℕ) (z : Process) → IsDistinct z → Comes z.as_leader → Comes (row_comes s number l bytes z).as_leader
  row-comes bytes z distinct comes = by (open_session z.as_leader number) refl where
    gathers : (g : Gathering) → Contains z.as_leader.sessions g
        → Waits s p l b number (record g { rows_in = put None g.rows_in l (Some bytes) })
        → is_some (rebuilt_block z.as_leader d b) ≡ false
        → (c : Bool) → is_complete s (record g { rows_in = put None g.rows_in l (Some bytes) }) ≡ c
        → Comes (gathered_when c s (record g { rows_in = put None g.rows_in l (Some bytes) }) z.as_leader)
    gathers g there waits none true complete =
        let more : Gathering = record g { rows_in = put None g.rows_in l (Some bytes) } in
        inr (
          one-partition more waits complete,
          subst (λ (c : ℕ). is_some (rebuilt_block (gathered_when true s more z.as_leader) d c) ≡ true) waits.block
              (decoded-some s more more.lost _ d (is-lost more waits complete d low)),
        )
    gathers g there waits none false complete =
        let more : Gathering = record g { rows_in = put None g.rows_in l (Some bytes) } in
        inl (
          more,
          waits,
          contains-mapped (λ x. if x.number == more.number then more else x) z.as_leader.sessions g more
              there (ap (λ (c : Bool). if c then more else g) (eq-eqb g.number g.number refl)),
          none,
        )

    stays : (g : Gathering) → is_some (rebuilt_block z.as_leader d b) ≡ true → (c : Bool) → is_some (rebuilt_block (gathered_when c s g z.as_leader) d b) ≡ true
    stays g some true = ap is_some (stays-decoded s g g.lost _ d b some) ∙ some
    stays g some false = some

    found-one : (g : Gathering) → open_session z.as_leader number ≡ Some g → Comes z.as_leader
        → Comes (gathered_when (is_complete s (record g { rows_in = put None g.rows_in l (Some bytes) })) s
        (record g { rows_in = put None g.rows_in l (Some bytes) }) z.as_leader)
    found-one g found (inr (one, some)) =
        inr (
          one,
          stays (record g { rows_in = put None g.rows_in l (Some bytes) }) some
              (is_complete s (record g { rows_in = put None g.rows_in l (Some bytes) })),
        )
    found-one g found (inl (own, waits, there, none)) =
        let here = found-there (λ x. x.number == number) z.as_leader.sessions g found in
        let numbered : g.number ≡ number = number-of g here.1 in
        let same : g ≡ own = same-session z.as_leader.sessions g own distinct.0 here.0 there (inl (numbered ∙ sym waits.number_is)) in
        gathers g here.0 (with-row bytes g (subst (Waits s p l b number) (sym same) waits)) none
        (is_complete s (record g { rows_in = put None g.rows_in l (Some bytes) })) refl
      where
        number-of : (g : Gathering) → (g.number == number) ≡ true → g.number ≡ number
        number-of g test = grind (arith, common_steps)

    by : (o : Option Gathering) → open_session z.as_leader number ≡ o → Comes (row_gathered s l bytes o z.as_leader)
    by None found = comes
    by (Some g) found = found-one g found comes

  -- a mark in the own row
  mark-comes : (r e n : ℕ) (q : Process) → IsDistinct q → Comes q.as_leader → Comes (mark_comes s l number r b e n q).process.as_leader
  mark-comes r e n q distinct comes = accepted (accepts_mark q l number r e) where
    begun : Process
    begun = begin_copy s l number b q

    applied : Process
    applied = apply_to s e n (begin_copy s l number b q)

    at_begun : (c : Bool) → Comes (copy_begun c s l number b q).as_leader × IsDistinct (copy_begun c s l number b q)
    at_begun true = (comes, distinct)
    at_begun false = (comes, distinct)

    finished : (same : Bool) (c : Copy) (z : Process) → c.leader ≡ l → c.number ≡ number → IsDistinct z
        → Comes z.as_leader → Comes (row_finished same s c z).process.as_leader
    finished true c z leader numbered distinct comes =
        subst (λ (x : ℕ). Comes (row_comes s x c.leader c.bytes z).as_leader) (sym numbered)
        (subst (λ (x : ℕ). Comes (row_comes s number x c.bytes z).as_leader) (sym leader) (row-comes c.bytes z distinct comes))
    finished false c z leader numbered distinct comes = comes

    kept : (c : Copy) → c.leader ≡ l → c.number ≡ number → IsDistinct (apply_to s e n (begin_copy s l number b q))
        → Comes (apply_to s e n (begin_copy s l number b q)).as_leader → (all : Bool)
        → Comes (copy_kept all s c (apply_to s e n (begin_copy s l number b q))).process.as_leader
    kept c leader numbered distinct comes true =
        let z : Process =
        with_copies (without_copy c.leader c.number (apply_to s e n (begin_copy s l number b q)).as_row.copies)
        (apply_to s e n (begin_copy s l number b q)) in
        finished (same_process z.name (ParityNode c.leader)) c z leader numbered distinct comes
    kept c leader numbered distinct comes false = comes

    named : (c : Copy) → (c.leader == l && c.number == number) ≡ true → (c.leader ≡ l) × (c.number ≡ number)
    named c test = let both = both-true (c.leader == l) (c.number == number) test in (eqb-eq' c.leader l both.0, eqb-eq' c.number number both.1) where
      eqb-eq' : (x y : ℕ) → (x == y) ≡ true → x ≡ y
      eqb-eq' x y is = grind (arith, common_steps)

    found : IsDistinct (apply_to s e n (begin_copy s l number b q)) → Comes (apply_to s e n (begin_copy s l number b q)).as_leader
        → (o : Option Copy) → copy_in (apply_to s e n (begin_copy s l number b q)).as_row.copies l number ≡ o
        → Comes (copy_marked s e n o (apply_to s e n (begin_copy s l number b q))).process.as_leader
    found distinct comes None is = comes
    found distinct comes (Some c) is =
        let both = named c (found-there (is_copy l number) (apply_to s e n (begin_copy s l number b q)).as_row.copies c is).1 in
        kept (marked e n c) both.0 both.1 distinct comes (is_marked s (marked e n c))

    accepted : (c : Bool) → Comes (when c q (mark_taken s l number b e n q)).process.as_leader
    accepted false = comes
    accepted true =
        let start = at_begun (is_some (copy_in q.as_row.copies l number)) in
        found start.1
        (comes-same (begin_copy s l number b q).as_leader (apply_to s e n (begin_copy s l number b q)).as_leader refl
        (kept-apply s e n (begin_copy s l number b q) d b) start.0)
        (copy_in (apply_to s e n (begin_copy s l number b q)).as_row.copies l number) refl

  marks-come : (xs : List ℕ) (q : Process) → IsDistinct q → Comes q.as_leader → Comes (for_each xs (own_mark s l number b) q).process.as_leader
  marks-come [] q distinct comes = comes
  marks-come (x ∷ xs) q distinct comes =
      marks-come xs (own_mark s l number b x q).process (mark-still s l number (at 0 q.ranks x) b x (replica_of q x).applied q distinct)
      (mark-comes (at 0 q.ranks x) x (replica_of q x).applied q distinct comes)

none-of : (o : Option (List ℕ)) → is_some o ≡ false → o ≡ None
none-of None none = refl
none-of (Some x) none = cc none

-- a number of a range that passes
passes-there : (test : ℕ → Bool) (n a d : ℕ) → a ≤ d → d < a + n → test d ≡ true → Contains (filter test (range_with_len a n)) d
passes-there test zero a d low high passes = absurd (omega (arith, low, high))
passes-there test (suc n) a d low high passes =
    by (cases_eq a d) (test a) refl (λ above. passes-there test n (a + 1) d above (omega (arith, high)) passes) where
      behind : Contains (filter test (range_with_len (a + 1) n)) d → Contains (a ∷ filter test (range_with_len (a + 1) n)) d
      behind (k, within, is) = (suc k, omega (arith, within), is)

      by : (a ≡ d) ⊎ (a ≢ d) → (b : Bool) → test a ≡ b → (a + 1 ≤ d → Contains (filter test (range_with_len (a + 1) n)) d)
          → Contains (if b then a ∷ filter test (range_with_len (a + 1) n) else filter test (range_with_len (a + 1) n)) d
      by (inl same) true here later = (0, omega arith, same)
      by (inl same) false here later = absurd (cc (here, passes, ap test same))
      by (inr other) true here later = behind (later (omega (arith, low, other)))
      by (inr other) false here later = later (omega (arith, low, other))

-- a partition whose data process is known to be dead is lost
pub lost-there : (s : Dimensions) (p : Process) (d : ℕ) → d < s.k → knows_dead p.known (DataNode d) ≡ true → Contains (lost_of s p) d
lost-there s p d low dead = passes-there (λ e. knows_dead p.known (DataNode e)) s.k 0 d (omega arith) (omega (arith, low)) dead

-- a call that has to wait for a block
module _ (s : Dimensions) (p : Process) (b d : ℕ) (low : d < s.k) (missing : is_some (rebuilt_block p.as_leader d b) ≡ false) (rising : Rising (rows_of s p))
    (many : length (rows_of s p) ≡ length (lost_of s p)) (distinct : IsDistinct p) (lost : Contains (lost_of s p) d)
    (fit : Each (λ g. g.lost ≡ lost_of s p) p.as_leader.sessions) where
  ends : (after : World) (y : ProcessId) (q : Process) → process_of after y ≡ q → s.k ≡ after.shape.k → IsDistinct q
      → ((g : Gathering) × (g.block ≡ b) × (g.lost ≡ lost_of s p) × Contains q.as_leader.sessions g × (is_some (rebuilt_block q.as_leader d b) ≡ false))
      ⊎ ((s.k ≡ 1) × (is_some (rebuilt_block q.as_leader d b) ≡ true))
      → ComesToBe after y b
  ends after y q is same apart (inl (g, block, for_lost, there, none)) = inl (subst (λ (x : Process). IsAwaited x b) (sym is) (record {
    session = g;
    opened = there;
    d = d;
    lost = subst (λ (ds : List ℕ). Contains ds d) (sym for_lost) lost;
    missing = none-of (rebuilt_block q.as_leader d b) none;
    of_block = block;
    alone = λ other among its. same-session q.as_leader.sessions other g apart.0 among there (inr (its ∙ sym block));
  }))
  ends after y q is same apart (inr (one, some)) =
      let first : d ≡ 0 = omega (arith, low, one) in
      inr (
        sym same ∙ one,
        λ none.
            let here : rebuilt_block q.as_leader d b ≡ None = ap (λ (e : ℕ). rebuilt_block q.as_leader e b) first
            ∙ ap (λ (x : Process). rebuilt_block x.as_leader 0 b) (sym is) ∙ none in
            let gone = ap is_some here in absurd (cc (gone, some)),
      )

  opened : (after : World) (y : ProcessId) → list_any (λ g. g.block == b) p.as_leader.sessions ≡ false
      → process_of after y ≡ (start_session s b p).process → s.k ≡ after.shape.k → ComesToBe after y b
  opened after y none is same = ends after y (start_session s b p).process is same (start-still s b p none distinct) (told
      (marks-come s p (parity_number p.name) b (suc p.as_leader.last_session) d low rising many (lost_of s p)
      (session_opened s (suc p.as_leader.last_session) b p) (opened-distinct s b p distinct none)
      (inl (
        new_session s (suc p.as_leader.last_session) b p,
        record {
          number_is = refl;
          block = refl;
          lost = refl;
          rows = refl;
          blocks = λ e. at-replicate None s.k e;
          others = λ i other. at-replicate None s.m i;
        },
        contains-end p.as_leader.sessions (new_session s (suc p.as_leader.last_session) b p),
        missing,
      ))))
    where
      told : ((g : Gathering) × Waits s p (parity_number p.name) b (suc p.as_leader.last_session) g
          × Contains (start_session s b p).process.as_leader.sessions g
          × (is_some (rebuilt_block (start_session s b p).process.as_leader d b) ≡ false))
          ⊎ ((s.k ≡ 1) × (is_some (rebuilt_block (start_session s b p).process.as_leader d b) ≡ true))
          → ((g : Gathering) × (g.block ≡ b) × (g.lost ≡ lost_of s p) × Contains (start_session s b p).process.as_leader.sessions g
          × (is_some (rebuilt_block (start_session s b p).process.as_leader d b) ≡ false)) ⊎
          ((s.k ≡ 1) × (is_some (rebuilt_block (start_session s b p).process.as_leader d b) ≡ true))
      told (inl (g, waits, there, none)) = inl (g, waits.block, waits.lost, there, none)
      told (inr both) = inr both

  pub comes-to-be : (after : World) (y : ProcessId) → process_of after y ≡ (retry_block s b None p).step.process → s.k ≡ after.shape.k → ComesToBe after y b
  comes-to-be after y is same = by (list_any (λ g. g.block == b) p.as_leader.sessions) refl is where
    there-is : (g : Gathering) × Contains p.as_leader.sessions g × ((g.block == b) ≡ true) → process_of after y ≡ p → ComesToBe after y b
    there-is (g, there, test) is = let block : g.block ≡ b = grind (arith, common_steps) in
        ends after y p is same distinct (inl (g, block, each-there (λ g. g.lost ≡ lost_of s p) p.as_leader.sessions g fit there, there, missing))

    by : (c : Bool) → list_any (λ g. g.block == b) p.as_leader.sessions ≡ c
        → process_of after y ≡ (when (not c) p (start_session s b p)).process → ComesToBe after y b
    by true some is = there-is (any-there (λ g. g.block == b) p.as_leader.sessions some) is
    by false none is = opened after y none is same

-- the rows of a session are in order
pub rows-rise : (s : Dimensions) (p : Process) → Rising (rows_of s p)
rows-rise s p =
    rising-take (length (lost_of s p)) (filter (λ i. not (knows_dead p.known (ParityNode i))) (range_with_len 0 s.m))
    (rising-filtered (λ i. not (knows_dead p.known (ParityNode i))) s.m)

-- a block that is missing isn't rebuilt
pub not-rebuilt : (s : Dimensions) (d : ℕ) (run : Run) (l : LeaderState) (b : ℕ) → missing_block s d run l ≡ Some b → is_some (rebuilt_block l d b) ≡ false
not-rebuilt s d run l b is = by (is_some (rebuilt_block l d b)) refl (found-there (λ c. not (is_some (rebuilt_block l d c))) (blocks_met s run) b is).1 where
  by : (c : Bool) → is_some (rebuilt_block l d b) ≡ c → not c ≡ true → is_some (rebuilt_block l d b) ≡ false
  by true some test = cc test
  by false none test = none
