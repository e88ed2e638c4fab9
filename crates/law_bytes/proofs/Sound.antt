-- While at most m processes are dead, there are as many rows as partitions are lost.
use Rattle.std.proofs.Common.{◌≡◌, ◌≢◌, ℕ, zero, suc, ◌+◌, ◌<◌, ◌≤◌, Bool, true, false, not, List, ◌∷◌, length, map}
use Rattle.std.proofs.Common.{filter, cond, ◌⊎◌, inl, inr, sym, ap, subst, ◌∙◌, refl, arith, if◌then◌else◌}
use Rattle.std.proofs.lemmas.List.{length-take-le}
use Rattle.std.proofs.lemmas.List.FromFn.{length-range_with_len}
use Rattle.std.specs.List.{range_with_len}
use Rattle.group_types.specs.Dimensions.{Dimensions}
use Rattle.group_types.specs.Names.{IsProcess, process_at}
use Rattle.group_types.specs.declared.process.ProcessId.{ProcessId}
use Rattle.group_types.specs.declared.process.ProcessId.TheVariants.{DataNode, ParityNode}
use Rattle.group_types.proofs.Names.{process_at-index, same-cases}
use Rattle.group_types.specs.Each.{Each}
use Rattle.group_types.proofs.Eaches.{each-take, each-weaker, each-filter}
use Rattle.membership.specs.Members.{Membership, count_dead_words, knows_dead}
use Rattle.group_run.specs.Process.{Gathering}
use Rattle.law_moves.specs.State.{IsGroupUp, State, lost_in}
use Rattle.law_moves.proofs.Members.{Members}
use Rattle.law_moves.proofs.Keeping as members
use Rattle.law_moves.proofs.Calls.{each-below}
use Rattle.law_bytes.specs.Decoding.{Rising}
use Rattle.law_bytes.proofs.Rising.{among-filter, contains-among, rising-filtered}
use Rattle.erasure_code.proofs.Nodes.{Among}
use Rattle.law_bytes.proofs.Survivors.{count-both}
use Rattle.law_bytes.specs.Leading.{IsSoundSession, SessionsAlwaysSound}
use Rattle.law_bytes.proofs.LeadingWords.{IsFor, left_by, lost_by}
use Rattle.law_bytes.proofs.Leading.{sessions_always_fit}
use Rattle.law_bytes.proofs.Finds.{rising-take}

-- the dead of a range, counted
count-filter : (f : ℕ → Bool) (a n : ℕ) → count_dead_words (map f (range_with_len a n)) ≡ length (filter f (range_with_len a n))
count-filter f a zero = refl
count-filter f a (suc n) = by (f a) (count-filter f (a + 1) n) where
  by : (b : Bool) → count_dead_words (map f (range_with_len (a + 1) n)) ≡ length (filter f (range_with_len (a + 1) n))
      → (if b then 1 else 0) + count_dead_words (map f (range_with_len (a + 1) n))
      ≡ length (cond b (a ∷ filter f (range_with_len (a + 1) n)) (filter f (range_with_len (a + 1) n)))
  by true rest = omega (arith, rest)
  by false rest = omega (arith, rest)

filter-two : (f : ℕ → Bool) (a n m : ℕ) → length (filter f (range_with_len a (n + m)))
    ≡ length (filter f (range_with_len a n)) + length (filter f (range_with_len (a + n) m))
filter-two f a zero m =
    let start : zero + m ≡ m = omega arith in
    let place : a ≡ a + zero = omega arith in
    let one = ap (λ (k : ℕ). length (filter f (range_with_len a k))) start in
    let two = ap (λ (k : ℕ). length (filter f (range_with_len k m))) place in
    omega (arith, one, two)
filter-two f a (suc n) m = by (f a) (filter-two f (a + 1) n m) where
  longer : range_with_len a (suc n + m) ≡ a ∷ range_with_len (a + 1) (n + m)
  longer = let is : suc n + m ≡ suc (n + m) = omega arith in ap (range_with_len a) is

  place : range_with_len (a + 1 + n) m ≡ range_with_len (a + suc n) m
  place = let is : a + 1 + n ≡ a + suc n = omega arith in ap (λ (k : ℕ). range_with_len k m) is

  by : (b : Bool) → length (filter f (range_with_len (a + 1) (n + m)))
      ≡ length (filter f (range_with_len (a + 1) n)) + length (filter f (range_with_len (a + 1 + n) m))
      → length (filter f (range_with_len a (suc n + m))) ≡ length (filter f (range_with_len a (suc n))) + length (filter f (range_with_len (a + suc n) m))
  by b rest =
      let whole = ap (λ (xs : List ℕ). length (filter f xs)) longer in
      let moved = ap (λ (xs : List ℕ). length (filter f xs)) place in
      head (f a) whole moved rest
    where
      head : (c : Bool) → length (filter f (range_with_len a (suc n + m)))
          ≡ length (cond c (a ∷ filter f (range_with_len (a + 1) (n + m))) (filter f (range_with_len (a + 1) (n + m))))
          → length (filter f (range_with_len (a + 1 + n) m)) ≡ length (filter f (range_with_len (a + suc n) m))
          → length (filter f (range_with_len (a + 1) (n + m))) ≡ length (filter f (range_with_len (a + 1) n)) + length (filter f (range_with_len (a + 1 + n) m))
          → length (filter f (range_with_len a (suc n + m))) ≡ length
          (cond c (a ∷ filter f (range_with_len (a + 1) n)) (filter f (range_with_len (a + 1) n))) + length (filter f (range_with_len (a + suc n) m))
      head true whole moved rest = omega (arith, whole, moved, rest)
      head false whole moved rest = omega (arith, whole, moved, rest)

-- who passes one test passes the other, some places on
filter-less : (test f : ℕ → Bool) (c a b n : ℕ) → b ≡ c + a → ((x : ℕ) → a ≤ x → x < a + n → test x ≡ true → f (c + x) ≡ true)
    → length (filter test (range_with_len a n)) ≤ length (filter f (range_with_len b n))
filter-less test f c a b zero place turns = omega arith
filter-less test f c a b (suc n) place turns =
    by (test a) (f b) refl refl (filter-less test f c (a + 1) (b + 1) n (omega (arith, place))
    (λ x low high. turns x (omega (arith, low)) (omega (arith, high)))) where
      here : test a ≡ true → f b ≡ true
      here passes = ap f place ∙ turns a (omega arith) (omega arith) passes

      by : (d e : Bool) → test a ≡ d → f b ≡ e → length (filter test (range_with_len (a + 1) n)) ≤ length (filter f (range_with_len (b + 1) n))
          → length (cond d (a ∷ filter test (range_with_len (a + 1) n)) (filter test (range_with_len (a + 1) n))) ≤ length
          (cond e (b ∷ filter f (range_with_len (b + 1) n)) (filter f (range_with_len (b + 1) n)))
      by true true is it rest = omega (arith, rest)
      by true false is it rest = absurd (cc (it, here is))
      by false true is it rest = omega (arith, rest)
      by false false is it rest = rest

module _ (s : Dimensions) (v : State) (held : Members s v) (up : IsGroupUp s v) (p : ProcessId) (pin : IsProcess s p) (lives : v.dead p ≡ false) where
  known : Membership
  known = (v.process p).known

  -- who is known dead is dead
  dead-known : (q : ProcessId) → IsProcess s q → knows_dead (v.process p).known q ≡ true → v.dead q ≡ true
  dead-known q qin knows = by (same-cases q p) where
    by : (q ≡ p) ⊎ (q ≢ p) → v.dead q ≡ true
    by (inl is) = absurd (cc (sym knows ∙ ap (knows_dead (v.process p).known) is ∙ held.not_self p pin lives))
    by (inr other) = members.known-is-dead q (v.dead q) (knows_dead (v.process p).known q) (v.link q p) (held.stands q p qin pin other lives) knows

  dead-at : ℕ → Bool
  dead-at x = v.dead (process_at s x)

  pub enough : length (lost_by s (v.process p).known) ≤ length (left_by s (v.process p).known)
  unfolding dead-at
  enough =
      let of_data = filter-less (λ d. knows_dead (v.process p).known (DataNode d)) dead-at 0 0 0 s.k (omega arith)
      (λ x low high knows. let inside : x < s.k = omega (arith, high) in let place : x ≡ 0 + x = omega arith in
      ap v.dead (ap (process_at s) (sym place) ∙ process_at-index s (DataNode x) inside)
      ∙ dead-known (DataNode x) inside knows) in
      let parity = filter-less (λ i. knows_dead (v.process p).known (ParityNode i)) dead-at s.k 0 (0 + s.k) s.m (omega arith)
      (λ x low high knows. let inside : x < s.m = omega (arith, high) in
      ap v.dead (process_at-index s (ParityNode x) inside) ∙ dead-known (ParityNode x) inside knows) in
      let both = filter-two dead-at 0 s.k s.m in
      let counted = count-filter dead-at 0 (s.k + s.m) in
      let split = count-both (λ i. knows_dead (v.process p).known (ParityNode i)) (range_with_len 0 s.m) in
      let all = length-range_with_len 0 s.m in
      let most : lost_in s v ≤ s.m = up in
      omega (arith, of_data, parity, both, counted, split, all, most)

  sound : (g : Gathering) → IsFor s (v.process p).known g → IsSoundSession s g
  sound g is = record {
    lost = subst Rising (sym is.lost) (rising-filtered (λ d. knows_dead (v.process p).known (DataNode d)) s.k);
    lost_in = subst (Each (λ d. d < s.k)) (sym is.lost)
        (each-filter (λ d. d < s.k) (λ d. knows_dead (v.process p).known (DataNode d)) (range_with_len 0 s.k)
        (each-below s.k));
    rows =
        subst Rising (sym is.rows)
        (rising-take (length (lost_by s (v.process p).known)) (left_by s (v.process p).known)
        (rising-filtered (λ i. not (knows_dead (v.process p).known (ParityNode i))) s.m));
    rows_in = subst (Each (λ i. i < s.m)) (sym is.rows) (each-take (λ i. i < s.m) (length (lost_by s (v.process p).known)) (left_by s (v.process p).known)
        (each-filter (λ i. i < s.m) (λ i. not (knows_dead (v.process p).known (ParityNode i))) (range_with_len 0 s.m) (each-below s.m)));
    as_many = ap length is.rows ∙ length-take-le (length (lost_by s (v.process p).known)) (left_by s (v.process p).known) enough ∙ sym (ap length is.lost);
    blocks =
        λ d bytes there. let known_living = is.blocks d bytes there in (
          known_living.0,
          λ lost. cc (
            known_living.1,
            (among-filter (λ e. knows_dead (v.process p).known (DataNode e)) d (range_with_len 0 s.k)
                (subst (Among d) is.lost (contains-among g.lost d lost))).1,
          ),
        );
  }

pub sessions_always_sound : SessionsAlwaysSound
sessions_always_sound s es run up p pin lives =
    let held : Members s _ = members.members_always s es run in
    each-weaker (IsFor s _) (IsSoundSession s) (λ g is. sound s _ held up p pin lives g is) _ (sessions_always_fit s es run p pin lives)
