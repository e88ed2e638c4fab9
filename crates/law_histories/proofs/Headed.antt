-- While at most m processes are dead some process of each partition lives, and the lowest of them heads it.
use Rattle.std.proofs.Common.{ℕ, zero, suc, ◌≡◌, ◌≢◌, ◌<◌, ◌≤◌, ◌+◌, ◌-◌, Bool, true, false, [], length, map, ◌⊎◌, inl}
use Rattle.std.proofs.Common.{inr, refl, sym, ap, subst, ◌∙◌, if◌then◌else◌, arith}
use Rattle.std.proofs.lemmas.Bool.{cases_eq, cases_lt}
use Rattle.std.specs.Prelude.{Contains}
use Rattle.std.specs.List.{range_with_len}
use Rattle.group_types.specs.Dimensions.{Dimensions}
use Rattle.group_types.specs.Names.{IsProcess, of_rank, process_at}
use Rattle.group_types.specs.declared.process.ProcessId.{ProcessId}
use Rattle.group_types.specs.declared.process.ProcessId.TheVariants.{DataNode, ParityNode}
use Rattle.group_types.proofs.Names.{process_at-index}
use Rattle.membership.specs.Members.{count_dead_words}
use Rattle.group_message.specs.declared.message.Message.TheVariants as tells
use Rattle.group_run.specs.History.{History, history_of, no_history}
use Rattle.group_run.specs.Meaning.{HasTakenOver, Heads, IsDown, IsDrained, is_dead, link}
use Rattle.group_run.specs.World.{after, dead_nodes}
use Rattle.law_moves.specs.State.{lost_in, state_of}
use Rattle.law_moves.proofs.Events.{FramedHistory, lost-nodes}
use Rattle.law_moves.proofs.Runs.{framed-from, framed-opening, world-from}
use Rattle.law_histories.specs.Laws.{HeadedAlways, IsHeaded}

-- the dead of a range are those of its parts
count-parts : (f : ℕ → Bool) (a m n : ℕ) → count_dead_words (map f (range_with_len a (n + m)))
    ≡ count_dead_words (map f (range_with_len a n)) + count_dead_words (map f (range_with_len (a + n) m))
count-parts f a m zero =
    let shorter : 0 + m ≡ m = omega arith in
    let here : a + 0 ≡ a = omega arith in
    let whole : count_dead_words (map f (range_with_len a (0 + m))) ≡ count_dead_words (map f (range_with_len a m)) =
    ap (λ (x : ℕ). count_dead_words (map f (range_with_len a x))) shorter in
    let there : count_dead_words (map f (range_with_len (a + 0) m)) ≡ count_dead_words (map f (range_with_len a m)) =
    ap (λ (x : ℕ). count_dead_words (map f (range_with_len x m))) here in
    omega (arith, whole, there)
count-parts f a m (suc n) =
    let rest = count-parts f (a + 1) m n in
    let longer : suc n + m ≡ suc (n + m) = omega arith in
    let next : a + 1 + n ≡ a + suc n = omega arith in
    let whole : count_dead_words (map f (range_with_len a (suc n + m)))
    ≡ count_dead_words (map f (range_with_len a (suc (n + m)))) = ap (λ (x : ℕ). count_dead_words (map f (range_with_len a x)))
    longer in
    let there : count_dead_words (map f (range_with_len (a + 1 + n) m)) ≡ count_dead_words (map f (range_with_len (a + suc n) m)) =
    ap (λ (x : ℕ). count_dead_words (map f (range_with_len x m))) next in
    omega (arith, rest, whole, there)

-- where all of a range are dead they are as many
count-all : (f : ℕ → Bool) (a n : ℕ) → ((j : ℕ) → a ≤ j → j < a + n → f j ≡ true) → n ≤ count_dead_words (map f (range_with_len a n))
count-all f a zero all = omega arith
count-all f a (suc n) all =
    let rest = count-all f (a + 1) n (λ j low high. all j (omega (arith, low)) (omega (arith, high))) in
    let one : ◌≡◌ {A = ℕ} (if f a then 1 else 0) 1 = ap (λ (b : Bool). if b then 1 else 0) (all a (omega arith) (omega arith)) in
    omega (arith, rest, one)

-- where one of a range is dead there is one at least
count-one : (f : ℕ → Bool) (a n j : ℕ) → a ≤ j → j < a + n → f j ≡ true → 1 ≤ count_dead_words (map f (range_with_len a n))
count-one f a zero j low high dead = absurd (omega (arith, low, high))
count-one f a (suc n) j low high dead = by (cases_eq j a) (λ above. count-one f (a + 1) n j above (omega (arith, high)) dead) where
  by : (j ≡ a) ⊎ (j ≢ a) → (a + 1 ≤ j → 1 ≤ count_dead_words (map f (range_with_len (a + 1) n))) → 1 ≤ count_dead_words (map f (range_with_len a (suc n)))
  by (inl same) later = let one : ◌≡◌ {A = ℕ} (if f a then 1 else 0) 1 = ap (λ (b : Bool). if b then 1 else 0) (ap f (sym same) ∙ dead) in omega (arith, one)
  by (inr other) later = let rest = later (omega (arith, low, other)) in omega (arith, rest)

-- the lowest of some ranks that isn't dead, if there is one
lowest : (dead : ℕ → Bool) (n : ℕ) → ((r : ℕ) × (r < n) × (dead r ≡ false) × ((q : ℕ) → q < r → dead q ≡ true)) ⊎ ((q : ℕ) → q < n → dead q ≡ true)
lowest dead zero = inr (λ q low. absurd (omega (arith, low)))
lowest dead (suc n) = by (lowest dead n) (dead n) refl where
  by : ((r : ℕ) × (r < n) × (dead r ≡ false) × ((q : ℕ) → q < r → dead q ≡ true)) ⊎ ((q : ℕ) → q < n → dead q ≡ true) → (b : Bool) → dead n ≡ b
      → ((r : ℕ) × (r < suc n) × (dead r ≡ false) × ((q : ℕ) → q < r → dead q ≡ true)) ⊎ ((q : ℕ) → q < suc n → dead q ≡ true)
  by (inl found) b is = let low = found.1 in inl (found.0, omega (arith, low), found.2, found.3)
  by (inr all) false is = inl (n, omega arith, is, all)
  by (inr all) true is = inr (λ q low. each q low (cases_eq q n)) where
    each : (q : ℕ) → q < suc n → (q ≡ n) ⊎ (q ≢ n) → dead q ≡ true
    each q low (inl same) = ap dead same ∙ is
    each q low (inr other) = all q (omega (arith, low, other))

-- not all of a partition are dead
some-lives : (s : Dimensions) (dead : ProcessId → Bool) (d : ℕ) → d < s.k
    → count_dead_words (map (λ x. dead (process_at s x)) (range_with_len 0 (s.k + s.m))) ≤ s.m
    → ((q : ℕ) → q < suc s.m → dead (of_rank d q) ≡ true) → ⊥
some-lives s dead d below few all =
    let parts = count-parts f 0 s.m s.k in
    let one = count-one f 0 s.k d (omega arith) (omega (arith, below)) (ap dead (process_at-index s (DataNode d) below) ∙ all 0 (omega arith)) in
    let parity = count-all f (0 + s.k) s.m parity_dead in
    omega (arith, parts, one, parity, few)
  where
    f : ℕ → Bool
    f x = dead (process_at s x)

    parity_dead : (j : ℕ) → 0 + s.k ≤ j → j < 0 + s.k + s.m → dead (process_at s j) ≡ true
    parity_dead j low high =
        let i : ℕ = j - s.k in
        let inside : i < s.m = omega (arith, low, high) in
        let same : s.k + i ≡ j = omega (arith, low) in
        ap (λ (x : ℕ). dead (process_at s x)) (sym same) ∙ ap dead (process_at-index s (ParityNode i) inside) ∙ all (suc i) (omega (arith, inside))

-- the processes of a partition are of the group
pub rank-in : (s : Dimensions) (d r : ℕ) → d < s.k → r ≤ s.m → IsProcess s (of_rank d r)
rank-in s d zero below low = below
rank-in s d (suc i) below low = omega (arith, low)

-- in a group that isn't down each partition has a head, which knows its lower ranks to be dead once all links
-- into it are empty
pub headed : (h : History) → FramedHistory h → IsDrained h.world → ¬ (IsDown h.world) → IsHeaded h.world
headed h framed drained up d below = by (lowest (λ r. is_dead h.world (of_rank d r)) (suc h.world.shape.m)) where
  few : lost_in h.world.shape (state_of h) ≤ h.world.shape.m
  few = let same = lost-nodes h.world.shape h.world.nodes h.settled framed.nodes_many in
      not_more (cases_lt h.world.shape.m (dead_nodes h.world.nodes)) same where
        not_more : (h.world.shape.m < dead_nodes h.world.nodes) ⊎ (dead_nodes h.world.nodes ≤ h.world.shape.m)
            → lost_in h.world.shape (state_of h) ≡ dead_nodes h.world.nodes → lost_in h.world.shape (state_of h) ≤ h.world.shape.m
        not_more (inl more) same = absurd (up more)
        not_more (inr low) same = omega (arith, low, same)

  by : ((r : ℕ) × (r < suc h.world.shape.m) × (is_dead h.world (of_rank d r) ≡ false)
      × ((q : ℕ) → q < r → is_dead h.world (of_rank d q) ≡ true))
      ⊎ ((q : ℕ) → q < suc h.world.shape.m → is_dead h.world (of_rank d q) ≡ true)
      → (r : ℕ) × Heads h.world d r × HasTakenOver h.world d r
  by (inr all) = absurd (some-lives h.world.shape (is_dead h.world) d below few all)
  by (inl found) =
      let low = found.1 in
      let within : found.0 ≤ h.world.shape.m = omega (arith, low) in
      (found.0, record { within = within; lives = found.2; lowest = found.3 }, λ q from lower fin other has. none q from fin other within has)
    where
      none : (q : ℕ) (from : ProcessId) → IsProcess h.world.shape from → from ≢ of_rank d found.0 → found.0 ≤ h.world.shape.m
          → ¬ (Contains (link h.world from (of_rank d found.0)) (tells.Notice (of_rank d q)))
      none q from fin other within has =
          let empty : link h.world from (of_rank d found.0) ≡ [] =
          drained from (of_rank d found.0) fin (rank-in h.world.shape d found.0 below within, found.2) other in
          let low = has.1 in let zero_long : length (link h.world from (of_rank d found.0)) ≡ 0 = ap length empty in absurd (omega (arith, low, zero_long))

pub headed_always : HeadedAlways
headed_always s es run drained up =
    let h : History = history_of s es in
    let same : h.world ≡ after s es = world-from (no_history s) es in
    subst IsHeaded same (headed h (framed-from (no_history s) es (framed-opening s) run.1)
    (subst IsDrained (sym same) drained) (λ down. up (subst IsDown same down)))
