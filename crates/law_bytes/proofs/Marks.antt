-- Marks, rows and blocks that a process takes: a session's tokens pass through it.
use Rattle.std.proofs.Common.{◌≡◌, ◌≢◌, ℕ, ◌+◌, ◌≤◌, ◌==◌, ◌&&◌, Bool, true, false, not, List, [], ◌∷◌, find, is_some}
use Rattle.std.proofs.Common.{Option, Some, None, ◌⊎◌, inl, inr, sym, ap, ◌∙◌, refl, arith, if◌then◌else◌}
use Rattle.std.proofs.lemmas.Bool.{cases_eq, eq-eqb, ne_eqb}
use Rattle.std.proofs.lemmas.Grind.{common_steps}
use Rattle.group_types.specs.Dimensions.{Dimensions}
use Rattle.group_types.specs.Lists.{at, put}
use Rattle.group_types.proofs.Lists.{at-put-other}
use Rattle.group_run.specs.Leaders.{block_gathered, gathered_when, is_complete, open_session, rebuilt_unless}
use Rattle.group_run.specs.Leaders.{rebuilt_block, row_gathered, with_decoded, with_session, without_session}
use Rattle.group_run.specs.Process.{Gathering, LeaderState}
use Rattle.law_bytes.proofs.Tokens.{Own, Row, Token, Way, is_kept_in, one_if}
use Rattle.law_bytes.proofs.Finding.{and-join, and-split, found-apart, found-exchanged, found-filter, found-passes}
use Rattle.law_bytes.proofs.Local.{bit-le, bit-or, number-is}

-- the session is the token's, by its leader's number
abbrev pub same_session : Token → ℕ → ℕ → Bool
same_session t l n = l == t.leader && n == t.number

pub session-true : (t : Token) (l n : ℕ) → same_session t l n ≡ true → (l ≡ t.leader) × (n ≡ t.number)
session-true t l n is = let both = and-split (l == t.leader) (n == t.number) is in let a = both.0 in let b = both.1 in
    (grind (arith, common_steps), grind (arith, common_steps))

pub session-is : (t : Token) (l n : ℕ) → l ≡ t.leader → n ≡ t.number → same_session t l n ≡ true
session-is t l n a b = and-join (l == t.leader) (n == t.number) (eq-eqb l t.leader a) (eq-eqb n t.number b)

pub session-cases : (t : Token) (l n : ℕ) → ((l ≡ t.leader) × (n ≡ t.number)) ⊎ (same_session t l n ≡ false)
session-cases t l n = by (same_session t l n) refl where
  by : (b : Bool) → same_session t l n ≡ b → ((l ≡ t.leader) × (n ≡ t.number)) ⊎ (same_session t l n ≡ false)
  by true is = inl (session-true t l n is)
  by false is = inr is

-- the tokens of a row, or of the own block, that a number of bits stand for
pub bits-pass : (a' k' a k m z : Bool) → (a' ≡ true → a ≡ true) → (k' ≡ true → k ≡ true) → (z ≡ true → (a' ≡ false) × ((a ≡ true) ⊎ (m ≡ true)))
    → one_if a' + one_if k' + one_if z ≤ one_if a + one_if k + one_if m
bits-pass a' k' a k m false la lk lz = let x = bit-le a' a la in let y = bit-le k' k lk in omega (arith, x, y)
bits-pass a' k' a k m true la lk lz =
    let none : one_if a' ≡ 0 = ap one_if (lz refl).0 in
    let some = bit-or a m (lz refl).1 in
    let y = bit-le k' k lk in
    omega (arith, none, some, y)

pub bits-kept : (a' k' a k m : Bool) → (a' ≡ true → a ≡ true)
    → (k' ≡ true → (k ≡ true) ⊎ ((a' ≡ false) × ((a ≡ true) ⊎ (m ≡ true))))
    → one_if a' + one_if k' ≤ one_if a + one_if k + one_if m
bits-kept a' false a k m la lk = let x = bit-le a' a la in omega (arith, x)
bits-kept a' true a k m la lk = by (lk refl) where
  by : (k ≡ true) ⊎ ((a' ≡ false) × ((a ≡ true) ⊎ (m ≡ true))) → one_if a' + one_if true ≤ one_if a + one_if k + one_if m
  by (inl is) = let one : one_if k ≡ 1 = ap one_if is in let x = bit-le a' a la in omega (arith, one, x)
  by (inr both) = let none : one_if a' ≡ 0 = ap one_if both.0 in let some = bit-or a m both.1 in omega (arith, none, some)

pub bits-marked : (a' k a m : Bool) → (a' ≡ true → (a ≡ true) ⊎ (m ≡ true)) → one_if a' + one_if k ≤ one_if a + one_if k + one_if m
bits-marked false k a m turns = omega arith
bits-marked true k a m turns = let some = bit-or a m (turns refl) in omega (arith, some)

module _ (s : Dimensions) where
  -- decoding changes neither the sessions nor the last number
  pub decoded-same : (g : Gathering) (ls : List ℕ) (state : LeaderState)
      → ((with_decoded s g ls state).sessions ≡ state.sessions)
      × ((with_decoded s g ls state).last_session ≡ state.last_session)
  decoded-same g [] state = (refl, refl)
  decoded-same g (l ∷ ls) state =
      let rest = decoded-same g ls (rebuilt_unless (is_some (rebuilt_block state l g.block)) s g l state) in
      let one = unless (is_some (rebuilt_block state l g.block)) in
      (rest.0 ∙ one.0, rest.1 ∙ one.1)
    where
      unless : (b : Bool) → ((rebuilt_unless b s g l state).sessions ≡ state.sessions) × ((rebuilt_unless b s g l state).last_session ≡ state.last_session)
      unless true = (refl, refl)
      unless false = (refl, refl)

  -- what a leader keeps once something came in for a session
  gathered-opens : (complete : Bool) (g h : Gathering) (state : LeaderState) (n number : ℕ) → open_session state number
      ≡ Some h → g.number ≡ number → (P : Option Gathering → Bool) → P None ≡ false
      → P (open_session (gathered_when complete s g state) n) ≡ true → (P (open_session state n) ≡ true) ⊎ ((n ≡ number) × (P (Some g) ≡ true))
  gathered-opens true g h state n number opens is P none kept =
      by (not (n == g.number))
      (found-filter (λ x. x.number == n) (λ x. not (x.number == g.number)) (not (n == g.number)) state.sessions
      (λ x passes. ap (λ (a : ℕ). not (a == g.number)) (number-is x n passes))) where
        same : P (open_session (gathered_when true s g state) n) ≡ P (find (λ x. x.number == n) (without_session g.number state.sessions))
        same = ap (λ (gs : List Gathering). P (find (λ x. x.number == n) gs))
            (decoded-same g g.lost (record state { sessions = without_session g.number state.sessions })).0

        by : (b : Bool) → find (λ x. x.number == n) (without_session g.number state.sessions) ≡ (if b then open_session state n else None)
            → (P (open_session state n) ≡ true) ⊎ ((n ≡ number) × (P (Some g) ≡ true))
        by true found = inl (ap P (sym found) ∙ sym same ∙ kept)
        by false found = absurd (cc (sym kept ∙ same ∙ ap P found ∙ none))
  gathered-opens false g h state n number opens is P none kept = by (cases_eq n number) where
    by : (n ≡ number) ⊎ (n ≢ number) → (P (open_session state n) ≡ true) ⊎ ((n ≡ number) × (P (Some g) ≡ true))
    by (inl here) =
        let found : find (λ x. x.number == g.number) (with_session g state.sessions) ≡ Some g =
        found-exchanged (λ x. x.number == g.number) g h state.sessions (eq-eqb g.number g.number refl)
        (ap (λ (k : ℕ). find (λ x. x.number == k) state.sessions) is ∙ opens) in
        inr (here, ap P (sym found) ∙ ap (λ (k : ℕ). P (find (λ x. x.number == k) (with_session g state.sessions))) (is ∙ sym here) ∙ kept)
    by (inr other) =
        let apart = found-apart (λ x. x.number == n) (λ x. x.number == g.number) g state.sessions (ne_eqb g.number n (λ same. other (sym (sym is ∙ same))))
        (λ x swap. ap (λ (k : ℕ). k == n) (number-is x g.number swap) ∙ ne_eqb g.number n (λ same. other (sym (sym is ∙ same)))) in
        inl (ap P (sym apart) ∙ kept)

  gathered-last : (complete : Bool) (g : Gathering) (state : LeaderState) → (gathered_when complete s g state).last_session ≡ state.last_session
  gathered-last true g state = (decoded-same g g.lost (record state { sessions = without_session g.number state.sessions })).1
  gathered-last false g state = refl

  pub row-last : (i : ℕ) (bytes : List ℕ) (o : Option Gathering) (state : LeaderState) → (row_gathered s i bytes o state).last_session ≡ state.last_session
  row-last i bytes None state = refl
  row-last i bytes (Some g) state =
      gathered-last (is_complete s (record g { rows_in = put None g.rows_in i (Some bytes) }))
      (record g { rows_in = put None g.rows_in i (Some bytes) }) state

  pub block-last : (e : ℕ) (bytes : List ℕ) (o : Option Gathering) (state : LeaderState) → (block_gathered s e bytes o state).last_session ≡ state.last_session
  block-last e bytes None state = refl
  block-last e bytes (Some g) state =
      gathered-last (is_complete s (record g { blocks_in = put None g.blocks_in e (Some bytes) }))
      (record g { blocks_in = put None g.blocks_in e (Some bytes) }) state

  kept-none : (w : Way) (d : ℕ) → is_kept_in w d None ≡ false
  kept-none (Row r) d = refl
  kept-none Own d = refl

  put-there : (parts : List (Option (List ℕ))) (i r : ℕ) (bytes : List ℕ)
      → is_some (at None (put None parts i (Some bytes)) r) ≡ true → (is_some (at None parts r) ≡ true) ⊎ (r ≡ i)
  put-there parts i r bytes is = by (cases_eq r i) where
    by : (r ≡ i) ⊎ (r ≢ i) → (is_some (at None parts r) ≡ true) ⊎ (r ≡ i)
    by (inl same) = inr same
    by (inr other) = inl (ap is_some (sym (at-put-other None parts i r (Some bytes) other)) ∙ is)

  -- a row that comes in, kept or not
  pub row-kept : (w : Way) (d n number i : ℕ) (bytes : List ℕ) (state : LeaderState)
      → is_kept_in w d (open_session (row_gathered s i bytes (open_session state number) state) n) ≡ true
      → (is_kept_in w d (open_session state n) ≡ true) ⊎ ((n ≡ number) × (w ≡ Row i))
  row-kept w d n number i bytes state kept = by (open_session state number) refl kept where
    after : (w' : Way) (g : Gathering)
        → is_kept_in w' d (Some (record g { rows_in = put None g.rows_in i (Some bytes) })) ≡ true
        → (is_kept_in w' d (Some g) ≡ true) ⊎ (w' ≡ Row i)
    after (Row r) g is = turn (put-there g.rows_in i r bytes is) where
      turn : (is_some (at None g.rows_in r) ≡ true) ⊎ (r ≡ i) → (is_some (at None g.rows_in r) ≡ true) ⊎ (Row r ≡ Row i)
      turn (inl was) = inl was
      turn (inr same) = inr (ap Row same)
    after Own g is = inl is

    by : (o : Option Gathering) → open_session state number ≡ o → is_kept_in w d (open_session (row_gathered s i bytes o state) n) ≡ true
        → (is_kept_in w d (open_session state n) ≡ true) ⊎ ((n ≡ number) × (w ≡ Row i))
    by None opens is = inl is
    by (Some g) opens is =
        turn (gathered-opens (is_complete s (record g { rows_in = put None g.rows_in i (Some bytes) }))
        (record g { rows_in = put None g.rows_in i (Some bytes) }) g state n number opens
        (number-is g number (found-passes (λ x. x.number == number) state.sessions g opens)) (is_kept_in w d) (kept-none w d) is) where
          turn : (is_kept_in w d (open_session state n) ≡ true)
              ⊎ ((n ≡ number) × (is_kept_in w d (Some (record g { rows_in = put None g.rows_in i (Some bytes) }))
              ≡ true))
              → (is_kept_in w d (open_session state n) ≡ true) ⊎ ((n ≡ number) × (w ≡ Row i))
          turn (inl was) = inl was
          turn (inr both) = deeper (after w g both.1) where
            deeper : (is_kept_in w d (Some g) ≡ true) ⊎ (w ≡ Row i) → (is_kept_in w d (open_session state n) ≡ true) ⊎ ((n ≡ number) × (w ≡ Row i))
            deeper (inl was) = inl (ap (is_kept_in w d) (ap (open_session state) both.0 ∙ opens) ∙ was)
            deeper (inr is_row) = inr (both.0, is_row)

  pub block-kept : (w : Way) (d n number e : ℕ) (bytes : List ℕ) (state : LeaderState)
      → is_kept_in w d (open_session (block_gathered s e bytes (open_session state number) state) n) ≡ true
      → (is_kept_in w d (open_session state n) ≡ true) ⊎ ((n ≡ number) × (w ≡ Own) × (d ≡ e))
  block-kept w d n number e bytes state kept = by (open_session state number) refl kept where
    after : (w' : Way) (g : Gathering)
        → is_kept_in w' d (Some (record g { blocks_in = put None g.blocks_in e (Some bytes) })) ≡ true
        → (is_kept_in w' d (Some g) ≡ true) ⊎ ((w' ≡ Own) × (d ≡ e))
    after (Row r) g is = inl is
    after Own g is = turn (put-there g.blocks_in e d bytes is) where
      turn : (is_some (at None g.blocks_in d) ≡ true) ⊎ (d ≡ e) → (is_some (at None g.blocks_in d) ≡ true) ⊎ ((Own ≡ Own) × (d ≡ e))
      turn (inl was) = inl was
      turn (inr same) = inr (refl, same)

    by : (o : Option Gathering) → open_session state number ≡ o → is_kept_in w d (open_session (block_gathered s e bytes o state) n) ≡ true
        → (is_kept_in w d (open_session state n) ≡ true) ⊎ ((n ≡ number) × (w ≡ Own) × (d ≡ e))
    by None opens is = inl is
    by (Some g) opens is =
        turn (gathered-opens (is_complete s (record g { blocks_in = put None g.blocks_in e (Some bytes) }))
        (record g { blocks_in = put None g.blocks_in e (Some bytes) }) g state n number opens
        (number-is g number (found-passes (λ x. x.number == number) state.sessions g opens)) (is_kept_in w d) (kept-none w d) is) where
          turn : (is_kept_in w d (open_session state n) ≡ true)
              ⊎ ((n ≡ number) × (is_kept_in w d (Some (record g { blocks_in = put None g.blocks_in e (Some bytes) }))
              ≡ true))
              → (is_kept_in w d (open_session state n) ≡ true) ⊎ ((n ≡ number) × (w ≡ Own) × (d ≡ e))
          turn (inl was) = inl was
          turn (inr both) = deeper (after w g both.1) where
            deeper : (is_kept_in w d (Some g) ≡ true) ⊎ ((w ≡ Own) × (d ≡ e))
                → (is_kept_in w d (open_session state n) ≡ true) ⊎ ((n ≡ number) × (w ≡ Own) × (d ≡ e))
            deeper (inl was) = inl (ap (is_kept_in w d) (ap (open_session state) both.0 ∙ opens) ∙ was)
            deeper (inr own) = inr (both.0, own.0, own.1)
