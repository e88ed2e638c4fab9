-- How many of some messages go to one process.
use Rattle.std.proofs.Common.{ℕ, zero, suc, ◌≡◌, ◌≢◌, ◌<◌, ◌≤◌, ◌+◌, ◌*◌, ◌==◌, Bool, true, false, List, [], ◌∷◌, ◌++◌}
use Rattle.std.proofs.Common.{length, take, map, filter, flat_map, AllPairs, refl, sym, ◌∙◌, arith, cond, if◌then◌else◌}
use Rattle.std.proofs.lemmas.Grind.{common_steps}
use Rattle.std.specs.Prelude.{slice_index_or}
use Rattle.std.specs.List.{range_with_len}
use Rattle.group_types.specs.Names.{same_process}
use Rattle.group_types.specs.declared.process.ProcessId.{ProcessId}
use Rattle.group_types.specs.declared.process.ProcessId.TheVariants.{DataNode, ParityNode}
use Rattle.group_message.specs.declared.message.Message.{Message}
use Rattle.group_run.specs.Applying.{Sent}
use Rattle.group_run.specs.World.{front_if, sent_to}
use Rattle.group_run.specs.Locality.{occurrences}

-- how many messages go to a process
abbrev pub count_to : ProcessId → List Sent → ℕ
count_to q sent = length (sent_to q sent)

pub count-append : (q : ProcessId) (xs ys : List Sent) → count_to q (xs ++ ys) ≡ count_to q xs + count_to q ys
count-append q [] ys = omega arith
count-append q (x ∷ xs) ys = by (same_process x.to q) (count-append q xs ys) where
  by : (b : Bool) → count_to q (xs ++ ys) ≡ count_to q xs + count_to q ys
      → length (front_if b x.message (sent_to q (xs ++ ys))) ≡ length (front_if b x.message (sent_to q xs)) + count_to q ys
  by true rest = omega (arith, rest)
  by false rest = rest

pub count-one : (q to : ProcessId) (m : Message) → count_to q (record { to = to; message = m } ∷ []) ≤ 1
count-one q to m = by (same_process to q) where
  by : (b : Bool) → length (front_if b m []) ≤ 1
  by true = omega arith
  by false = omega arith

-- at most so many for each of some numbers
pub count-flat : (q : ProcessId) (f : ℕ → List Sent) (c : ℕ) → ((x : ℕ) → count_to q (f x) ≤ c) → (xs : List ℕ) → count_to q (flat_map f xs) ≤ length xs * c
count-flat q f c each [] = omega arith
count-flat q f c each (x ∷ xs) =
    let both = count-append q (f x) (flat_map f xs) in
    let here = each x in
    let rest = count-flat q f c each xs in
    omega (arith, both, here, rest)

-- one message to each of some parity processes, or data processes
pub count-parities : (f : ℕ → Message) (q : ProcessId) (is : List ℕ) → ((j : ℕ) → occurrences j is ≤ 1)
    → count_to q (map (λ i. record { to = ParityNode i; message = f i }) is) ≤ 1
count-parities f (DataNode e) is once = none is where
  none : (is : List ℕ) → count_to (DataNode e) (map (λ i. record { to = ParityNode i; message = f i }) is) ≤ 1
  none [] = omega arith
  none (i ∷ is) = none is
count-parities f (ParityNode j) is once = let few = as-often is in let one = once j in omega (arith, few, one) where
  as-often : (is : List ℕ) → count_to (ParityNode j) (map (λ i. record { to = ParityNode i; message = f i }) is) ≤ occurrences j is
  as-often [] = omega arith
  as-often (i ∷ is) = by (i == j) (as-often is) where
    by : (b : Bool) → count_to (ParityNode j) (map (λ i. record { to = ParityNode i; message = f i }) is) ≤ occurrences j is
        → length (front_if b (f i) (sent_to (ParityNode j) (map (λ i. record { to = ParityNode i; message = f i }) is))) ≤
        (if b then 1 else 0) + occurrences j is
    by true rest = omega (arith, rest)
    by false rest = omega (arith, rest)

pub count-datas : (f : ℕ → Message) (q : ProcessId) (is : List ℕ) → ((j : ℕ) → occurrences j is ≤ 1)
    → count_to q (map (λ i. record { to = DataNode i; message = f i }) is) ≤ 1
count-datas f (ParityNode e) is once = none is where
  none : (is : List ℕ) → count_to (ParityNode e) (map (λ i. record { to = DataNode i; message = f i }) is) ≤ 1
  none [] = omega arith
  none (i ∷ is) = none is
count-datas f (DataNode j) is once = let few = as-often is in let one = once j in omega (arith, few, one) where
  as-often : (is : List ℕ) → count_to (DataNode j) (map (λ i. record { to = DataNode i; message = f i }) is) ≤ occurrences j is
  as-often [] = omega arith
  as-often (i ∷ is) = by (i == j) (as-often is) where
    by : (b : Bool) → count_to (DataNode j) (map (λ i. record { to = DataNode i; message = f i }) is) ≤ occurrences j is
        → length (front_if b (f i) (sent_to (DataNode j) (map (λ i. record { to = DataNode i; message = f i }) is))) ≤ (if b then 1 else 0) + occurrences j is
    by true rest = omega (arith, rest)
    by false rest = omega (arith, rest)

-- each number of a range stands in it once
none-below : (j a n : ℕ) → j < a → occurrences j (range_with_len a n) ≡ 0
none-below j a zero low = refl
none-below j a (suc n) low = by (a == j) refl (none-below j (a + 1) n (omega (arith, low))) where
  by : (b : Bool) → (a == j) ≡ b → occurrences j (range_with_len (a + 1) n) ≡ 0 → (if b then 1 else 0) + occurrences j (range_with_len (a + 1) n) ≡ 0
  by true is rest = let same : a ≡ j = grind (arith, common_steps) in absurd (omega (arith, same, low))
  by false is rest = omega (arith, rest)

pub once-range : (j a n : ℕ) → occurrences j (range_with_len a n) ≤ 1
once-range j a zero = omega arith
once-range j a (suc n) = by (a == j) refl (once-range j (a + 1) n) where
  by : (b : Bool) → (a == j) ≡ b → occurrences j (range_with_len (a + 1) n) ≤ 1 → (if b then 1 else 0) + occurrences j (range_with_len (a + 1) n) ≤ 1
  by true is rest = let same : a ≡ j = grind (arith, common_steps) in let none = none-below j (a + 1) n (omega (arith, same)) in omega (arith, none)
  by false is rest = omega (arith, rest)

-- it stands no more often in a part of the list
pub times-filtered : (test : ℕ → Bool) (j : ℕ) (xs : List ℕ) → occurrences j (filter test xs) ≤ occurrences j xs
times-filtered test j [] = omega arith
times-filtered test j (x ∷ xs) = by (test x) (times-filtered test j xs) where
  by : (b : Bool) → occurrences j (filter test xs) ≤ occurrences j xs
      → occurrences j (cond b (x ∷ filter test xs) (filter test xs)) ≤ (if x == j then 1 else 0) + occurrences j xs
  by true rest = omega (arith, rest)
  by false rest = omega (arith, rest)

pub times-taken : (j n : ℕ) (xs : List ℕ) → occurrences j (take n xs) ≤ occurrences j xs
times-taken j zero xs = omega arith
times-taken j (suc n) [] = omega arith
times-taken j (suc n) (x ∷ xs) = let rest = times-taken j n xs in omega (arith, rest)

-- different numbers
none-else : (j : ℕ) (xs : List ℕ) → ((i d : ℕ) → i < length xs → j ≢ slice_index_or xs i d) → occurrences j xs ≡ 0
none-else j [] other = refl
none-else j (x ∷ xs) other = by (x == j) refl (none-else j xs (λ i d below. other (suc i) d (omega (arith, below)))) where
  by : (b : Bool) → (x == j) ≡ b → occurrences j xs ≡ 0 → (if b then 1 else 0) + occurrences j xs ≡ 0
  by true is rest = let same : x ≡ j = grind (arith, common_steps) in absurd (other zero 0 (omega arith) (sym same))
  by false is rest = omega (arith, rest)

pub once-differing : (j : ℕ) (xs : List ℕ) → AllPairs (λ a b. a ≢ b) xs → occurrences j xs ≤ 1
once-differing j [] differ = omega arith
once-differing j (x ∷ xs) differ = by (x == j) refl
    (once-differing j xs (λ i k d before below. differ (suc i) (suc k) d (omega (arith, before)) (omega (arith, below)))) where
      by : (b : Bool) → (x == j) ≡ b → occurrences j xs ≤ 1 → (if b then 1 else 0) + occurrences j xs ≤ 1
      by true is rest =
          let same : x ≡ j = grind (arith, common_steps) in
          let none = none-else j xs (λ i d below equal. differ zero (suc i) d (omega arith) (omega (arith, below)) (same ∙ equal)) in
          omega (arith, none)
      by false is rest = omega (arith, rest)

pub length-filtered : (test : ℕ → Bool) (xs : List ℕ) → length (filter test xs) ≤ length xs
length-filtered test [] = omega arith
length-filtered test (x ∷ xs) = by (test x) (length-filtered test xs) where
  by : (b : Bool) → length (filter test xs) ≤ length xs → length (cond b (x ∷ filter test xs) (filter test xs)) ≤ suc (length xs)
  by true rest = omega (arith, rest)
  by false rest = omega (arith, rest)
