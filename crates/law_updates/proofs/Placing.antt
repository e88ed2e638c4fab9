use Rattle.std.proofs.Common.{ℕ, zero, suc, ◌≡◌, ◌+◌, ◌-◌, ◌<◌, ◌≤◌, nat_lt, Bool, true, false, ◌⊎◌, inl, inr, Option}
use Rattle.std.proofs.Common.{Some, None, if◌then◌else◌, refl, sym, ap, subst, ◌∙◌, arith}
use Rattle.std.proofs.lemmas.Grind.{common_steps}
use Rattle.std.proofs.lemmas.Bool.{cases_lt, ltb-true, ltb-false}
use Rattle.group_types.specs.declared.run.Run.{Run}
use Rattle.run_alloc.specs.Free.{IsFreeRun}
use Rattle.group_run.specs.Free.{is_free, walk, closed, shorter, counted, best_so_far, front_of, place_for}
use Rattle.group_run.specs.Replica.{Replica}
use Rattle.law_updates.specs.Placing.{IsPlaced, PlacesAreBest}
use Rattle.law_updates.proofs.Walking.{IsChosen, WalkFindsBest}

not_both : (b : Bool) → b ≡ true → b ≡ false → ⊥
not_both b one other = let e : true ≡ false = sym one ∙ other in cc

module _ (size : ℕ) (free : ℕ → Bool) (want : ℕ) where
  -- the c addresses from s on are free, and the one before isn't
  record Open (s c : ℕ) : Type 0 where
    pub all : (x : ℕ) → s ≤ x → x < s + c → free x ≡ true
    pub start : (x : ℕ) → suc x ≡ s → free x ≡ false
    pub inside : s + c ≤ size

  -- the first run is better than the second: shorter, or as long and not higher
  abbrev Better : Run → ℕ → ℕ → Type 0
  Better r b l = (r.len < l) ⊎ ((r.len ≡ l) × (r.at ≤ b))

  -- the best of the free runs that end at s or before
  abbrev BestTo : ℕ → Option Run → Type 0
  BestTo s None = (b l : ℕ) → IsFreeRun size free b l → b + l ≤ s → l < want
  BestTo s (Some r) = IsFreeRun size free r.at r.len × (want ≤ r.len) × (r.at + r.len ≤ s)
      × ((b l : ℕ) → IsFreeRun size free b l → b + l ≤ s → want ≤ l → Better r b l)

  -- a free run that ends behind s is the one from s on, where that has ended
  only_run : (s c b l : ℕ) → Open s c → (s + c < size → free (s + c) ≡ false) → IsFreeRun size free b l → s < b + l → b + l ≤ s + c + 1 → (b ≡ s) × (l ≡ c)
  only_run s c b l o ended q behind within =
      let not_longer : s + c < b + l → ⊥ = λ h. not_both (free (s + c)) (q.all_free (s + c) (omega (arith, q.some)) h) (ended (omega (arith, q.inside))) in
      let not_shorter : b + l < s + c → ⊥ = λ h. not_both (free (b + l)) (o.all (b + l) (omega arith) h) (q.above (omega (arith, o.inside))) in
      let not_before : b < s → ⊥ = λ h. not_both (free (s - 1)) (q.all_free (s - 1) (omega arith) (omega arith)) (o.start (s - 1) (omega arith)) in
      let not_behind : s < b
      → ⊥ = λ h. not_both (free (b - 1)) (o.all (b - 1) (omega arith) (omega (arith, q.some, not_longer)))
      (q.below (b - 1) (omega arith)) in
      (omega (arith, not_before, not_behind), omega (arith, not_before, not_behind, not_longer, not_shorter))

  -- the run from s on, where it has ended
  ended_run : (s c : ℕ) → Open s c → 0 < c → (s + c < size → free (s + c) ≡ false) → IsFreeRun size free s c
  ended_run s c o some ended = record {
    some = some;
    inside = o.inside;
    all_free = o.all;
    below = o.start;
    above = ended;
  }

  -- a run that ends within reach of the open one ends at s or before, or is it
  reach : (s c b l : ℕ) → Open s c → (s + c < size → free (s + c) ≡ false) → IsFreeRun size free b l → b + l ≤ s + c + 1 → (b + l ≤ s) ⊎ ((b ≡ s) × (l ≡ c))
  reach s c b l o ended q within = split (cases_lt s (b + l)) where
    split : (s < b + l) ⊎ (b + l ≤ s) → (b + l ≤ s) ⊎ ((b ≡ s) × (l ≡ c))
    split (inl behind) = inr (only_run s c b l o ended q behind within)
    split (inr before) = inl before

  -- the run from s on, as the walk notes it
  abbrev found : ℕ → ℕ → Run
  found s c = record { at = s; len = c }

  -- where a free run stands that ends within reach: at s or before, or it is the open one
  abbrev Stands : ℕ → ℕ → ℕ → ℕ → Type 0
  Stands s c b l = (b + l ≤ s) ⊎ ((b ≡ s) × (l ≡ c))

  short_none : (s c b l : ℕ) → c < want → BestTo s None → IsFreeRun size free b l → Stands s c b l → l < want
  short_none s c b l short to q (inl before) = to b l q before
  short_none s c b l short to q (inr is) = omega (arith, is.1)

  short_some : (s c b l : ℕ) (r : Run) → c < want → BestTo s (Some r) → IsFreeRun size free b l → want ≤ l → Stands s c b l → Better r b l
  short_some s c b l r short to q fits (inl before) = to.3 b l q before fits
  short_some s c b l r short to q fits (inr is) = absurd (omega (arith, is.1))

  found_first : (s c b l : ℕ) → BestTo s None → IsFreeRun size free b l → want ≤ l → Stands s c b l → Better (found s c) b l
  found_first s c b l to q fits (inl before) = let less = to b l q before in absurd (omega arith)
  found_first s c b l to q fits (inr is) = inr (sym is.1, omega (arith, is.0))

  shorter_still : (s c b l : ℕ) (r : Run) → c < r.len → Better r b l → Better (found s c) b l
  shorter_still s c b l r less (inl longer) = inl (omega arith)
  shorter_still s c b l r less (inr same) = inl (omega (arith, same.0))

  found_shorter : (s c b l : ℕ) (r : Run) → c < r.len → BestTo s (Some r) → IsFreeRun size free b l → want ≤ l → Stands s c b l → Better (found s c) b l
  found_shorter s c b l r less to q fits (inl before) = shorter_still s c b l r less (to.3 b l q before fits)
  found_shorter s c b l r less to q fits (inr is) = inr (sym is.1, omega (arith, is.0))

  not_worse : (s c b l : ℕ) (r : Run) → r.len ≤ c → r.at + r.len ≤ s → (b ≡ s) × (l ≡ c) → (r.len < l) ⊎ (l ≤ r.len) → Better r b l
  not_worse s c b l r most ends is (inl longer) = inl longer
  not_worse s c b l r most ends is (inr same) = inr (omega (arith, is.1), omega (arith, is.0))

  kept_best : (s c b l : ℕ) (r : Run) → r.len ≤ c → BestTo s (Some r) → IsFreeRun size free b l → want ≤ l → Stands s c b l → Better r b l
  kept_best s c b l r most to q fits (inl before) = to.3 b l q before fits
  kept_best s c b l r most to q fits (inr is) = not_worse s c b l r most to.2 is (cases_lt r.len l)

  -- a run that is too short changes nothing
  keep_short : (s c : ℕ) (best : Option Run) → Open s c → (s + c < size → free (s + c) ≡ false) → c < want → BestTo s best → BestTo (s + c + 1) best
  keep_short s c None o ended short to = λ b l q within. short_none s c b l short to q (reach s c b l o ended q within)
  keep_short s c (Some r) o ended short to = (
    to.0,
    to.1,
    omega (arith, to.2),
    λ b l q within fits. short_some s c b l r short to q fits
        (reach s c b l o ended q within),
  )

  -- a run that is long enough is taken where it is shorter
  take_found : (s c : ℕ) → Open s c → (s + c < size → free (s + c) ≡ false) → 1 ≤ want → want ≤ c
      → ((b l : ℕ) → IsFreeRun size free b l → want ≤ l → Stands s c b l → Better (found s c) b l) → BestTo (s + c + 1) (Some (found s c))
  take_found s c o ended one fits better = (
    ended_run s c o (omega arith) ended,
    fits,
    omega arith,
    λ b l q within long. better b l q long
        (reach s c b l o ended q within),
  )

  shorter_best : (s c : ℕ) (r : Run) → Open s c → (s + c < size → free (s + c) ≡ false) → 1 ≤ want → want ≤ c → BestTo s (Some r) → (t : Bool)
      → nat_lt c r.len ≡ t → BestTo (s + c + 1) (if t then Some (found s c) else Some r)
  shorter_best s c r o ended one fits to true less =
      take_found s c o ended one fits (λ b l q long stands. found_shorter s c b l r (ltb-true c r.len less) to q long
      stands)
  shorter_best s c r o ended one fits to false more = (
    to.0,
    to.1,
    omega (arith, to.2),
    λ b l q within long. kept_best s c b l r (ltb-false c r.len more) to q long
        (reach s c b l o ended q within),
  )

  shorter_is_best : (s c : ℕ) (best : Option Run) → Open s c → (s + c < size → free (s + c) ≡ false) → 1 ≤ want
      → want ≤ c → BestTo s best → BestTo (s + c + 1) (shorter best (found s c))
  shorter_is_best s c None o ended one fits to = take_found s c o ended one fits (λ b l q long stands. found_first s c b l to q long stands)
  shorter_is_best s c (Some r) o ended one fits to = shorter_best s c r o ended one fits to (nat_lt c r.len) refl

  -- what the walk notes where a run of c addresses ends before a
  closed-short : (a c : ℕ) (best : Option Run) → 1 ≤ want → c < want → closed want a c best ≡ best
  closed-short a c best one short = grind (arith, common_steps)

  closed-long : (a c : ℕ) (best : Option Run) → 1 ≤ want → want ≤ c → closed want a c best ≡ shorter best (record { at = a - c; len = c })
  closed-long a c best one fits = grind (arith, common_steps)

  closed_is_best : (a s c : ℕ) (best : Option Run) → a ≡ s + c → Open s c → (s + c < size → free (s + c) ≡ false) → 1 ≤ want → BestTo s best
      → (c < want) ⊎ (want ≤ c) → BestTo (s + c + 1) (closed want a c best)
  closed_is_best a s c best here o ended one to (inl short) =
      subst (BestTo (s + c + 1)) (sym (closed-short a c best one short)) (keep_short s c best o ended short to)
  closed_is_best a s c best here o ended one to (inr fits) =
      let from : s ≡ a - c = omega arith in
      let noted : shorter best (found s c) ≡ closed want a c best =
      ap (λ (x : ℕ). shorter best (record { at = x; len = c })) from ∙ sym (closed-long a c best one fits) in
      subst (BestTo (s + c + 1)) noted (shorter_is_best s c best o ended one fits to)

  -- a walk over n addresses more, from wherever it stands, ends with the best run of all
  abbrev WalksOn : ℕ → Type 0
  WalksOn n = (a s c : ℕ) (best : Option Run) → a ≡ s + c → a + n ≡ size → Open s c → BestTo s best → BestTo (size + 1) (walk free want n a c best)

  opened : (a s c : ℕ) → free a ≡ true → a ≡ s + c → a < size → Open s c → Open s (suc c)
  opened a s c f here within o = record {
    all = λ x low high. longer x low high (cases_lt x a);
    start = o.start;
    inside = omega (arith, o.inside);
  } where
    longer : (x : ℕ) → s ≤ x → x < s + suc c → (x < a) ⊎ (a ≤ x) → free x ≡ true
    longer x low high (inl before) = o.all x low (omega arith)
    longer x low high (inr behind) = let is : x ≡ a = omega arith in ap free is ∙ f

  none_open : (a : ℕ) → free a ≡ false → a < size → Open (suc a) 0
  none_open a f within = record {
    all = λ x low high. absurd (omega arith);
    start = λ x is. (let same : x ≡ a = omega arith in ap free same ∙ f);
    inside = omega arith;
  }

  walk_step : (n a s c : ℕ) (best : Option Run) (f : Bool) → WalksOn n → free a ≡ f → 1 ≤ want → a ≡ s + c → a + suc n ≡ size → Open s c → BestTo s best
      → BestTo (size + 1) (walk free want n (suc a) (counted f c) (best_so_far f want a c best))
  walk_step n a s c best true on f one here size_is o to = on (suc a) s (suc c) best (omega arith) (omega arith) (opened a s c f here (omega arith) o) to
  walk_step n a s c best false on f one here size_is o to =
      let before : BestTo (s + c + 1) (closed want a c best) = closed_is_best a s c best here o (λ more. ap free (sym here) ∙ f) one to (cases_lt c want) in
      let end : s + c + 1 ≡ suc a = omega arith in
      on (suc a) (suc a) 0 (closed want a c best) (omega arith) (omega arith) (none_open a f (omega arith))
      (subst (λ (x : ℕ). BestTo x (closed want a c best)) end before)

  walk_best : (n : ℕ) → 1 ≤ want → WalksOn n
  walk_best zero one a s c best here size_is o to =
      let end : s + c + 1 ≡ size + 1 = omega arith in
      subst (λ (x : ℕ). BestTo x (closed want a c best)) end (closed_is_best a s c best here o (λ more. absurd (omega arith)) one to (cases_lt c want))
  walk_best (suc n) one a s c best here size_is o to = walk_step n a s c best (free a) (walk_best n one) refl one here size_is o to

  lowest_of : (r : Run) (b : ℕ) → Better r b r.len → r.at ≤ b
  lowest_of r b (inl less) = absurd (omega arith)
  lowest_of r b (inr same) = same.1

  shortest_of : (r : Run) (b l : ℕ) → Better r b l → r.len ≤ l
  shortest_of r b l (inl less) = omega arith
  shortest_of r b l (inr same) = omega (arith, same.0)

  chosen : (best : Option Run) → BestTo (size + 1) best → IsChosen size free want best
  chosen None to = λ at len q. to at len q (omega (arith, q.inside))
  chosen (Some r) to = record {
    run = to.0;
    fits = to.1;
    shortest = λ b l q long. shortest_of r b l (to.3 b l q (omega (arith, q.inside)) long);
    lowest = λ b q. lowest_of r b (to.3 b r.len q (omega (arith, q.inside)) to.1);
  }

pub walk_finds_best : WalkFindsBest
walk_finds_best size free want one = chosen size free want _ (walk_best size free want size one 0 0 0 None refl (omega arith) (record {
  all = λ x low high. absurd (omega arith);
  start = λ x is. absurd (omega arith);
  inside = omega arith;
}) (λ b l q within. absurd (omega (arith, q.some))))

placed : (space : ℕ) (r : Replica) (len : ℕ) (best : Option Run) → IsChosen space (is_free space r) len best → IsPlaced space r len (front_of len best)
placed space r len None none = none
placed space r len (Some run) best = (refl, (run.len, best))

pub places_are_best : PlacesAreBest
places_are_best space r len one = subst (IsPlaced space r len) (sym (some_bytes len one))
    (placed space r len _ (walk_finds_best space (is_free space r) len one)) where
      some_bytes : (len : ℕ) → 1 ≤ len → place_for space r len ≡ front_of len (walk (is_free space r) len space 0 0 None)
      some_bytes len one = grind (arith, common_steps)
