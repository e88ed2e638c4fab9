-- What is settled, partition by partition.
use Rattle.std.proofs.Common.{ℕ, suc, ◌≡◌, ◌<◌, ◌≤◌, ◌+◌, ◌-◌, ◌==◌, nat_le, Bool, true, false, List, [], ◌∷◌, ◌++◌}
use Rattle.std.proofs.Common.{Option, length, map, drop, get_or, set, Vec, Global, ◌⊎◌, inl, inr, refl, sym, ap, subst}
use Rattle.std.proofs.Common.{◌∙◌, arith, if◌then◌else◌}
use Rattle.std.proofs.lemmas.Grind.{common_steps, get_or-set_at}
use Rattle.std.proofs.lemmas.Bool.{cases_lt}
use Rattle.std.proofs.lemmas.List.{drop-drop, drop-set-lt, get_or-drop, get_or-set_other, length-map, map-set}
use Rattle.std.specs.List.{range_with_len}
use Rattle.group_types.specs.Lists.{at, put}
use Rattle.group_types.specs.declared.run.Run.{Run}
use Rattle.group_types.proofs.Lists.{at-map, at_index, put-at, set_put}
use Rattle.group_message.specs.declared.update.Update.{Update}
use Rattle.group_calls.specs.declared.entry.Entry.{Entry}
use Rattle.group_run.specs.Applying.{Settlement}
use Rattle.group_run.specs.World.{Ticket, front_if, settled_in}
use Rattle.group_ledger.specs.Accounts.{Accounts, accounts_after, accounts_of, news_of, update_runs, with_news}
use Rattle.group_ledger.specs.Taking.{entries_taken, ops_taken}

-- how many updates are settled of partitions from d on
abbrev pub still : ℕ → List Settlement → ℕ
still d [] = 0
still d (x ∷ xs) = if nat_le d x.partition then suc (still d xs) else still d xs

still-at : (d : ℕ) (x : Settlement) (xs : List Settlement) (b : Bool) → nat_le d x.partition ≡ b
    → still d (x ∷ xs) ≡ (if b then suc (still d xs) else still d xs)
still-at d x xs b e = ap (λ (b : Bool). if b then suc (still d xs) else still d xs) e

settled-at : (d : ℕ) (x : Settlement) (xs : List Settlement) (b : Bool) → (x.partition == d) ≡ b
    → length (settled_in d (x ∷ xs)) ≡ length (front_if b x.update (settled_in d xs))
settled-at d x xs b e = ap (λ (b : Bool). length (front_if b x.update (settled_in d xs))) e

-- one more in front, which is below d, of d, or above
still-more : (d : ℕ) (x : Settlement) (xs : List Settlement) → still d xs ≡ length (settled_in d xs) + still (d + 1) xs
    → (here from above : Bool) → (x.partition == d) ≡ here → nat_le d x.partition ≡ from → nat_le (d + 1) x.partition ≡ above
    → still d (x ∷ xs) ≡ length (settled_in d (x ∷ xs)) + still (d + 1) (x ∷ xs)
still-more d x xs rest true true false h f a =
    let now = still-at d x xs true f in let one = settled-at d x xs true h in let next = still-at (d + 1) x xs false a in omega (arith, rest, now, one, next)
still-more d x xs rest false true true h f a =
    let now = still-at d x xs true f in let one = settled-at d x xs false h in let next = still-at (d + 1) x xs true a in omega (arith, rest, now, one, next)
still-more d x xs rest false false false h f a =
    let now = still-at d x xs false f in let one = settled-at d x xs false h in let next = still-at (d + 1) x xs false a in omega (arith, rest, now, one, next)
still-more d x xs rest true false above h f a = absurd (grind (arith, common_steps))
still-more d x xs rest true true true h f a = absurd (grind (arith, common_steps))
still-more d x xs rest false true false h f a = absurd (grind (arith, common_steps))
still-more d x xs rest false false true h f a = absurd (grind (arith, common_steps))

pub still-some : (d : ℕ) (xs : List Settlement) → still d xs ≡ length (settled_in d xs) + still (d + 1) xs
still-some d [] = refl
still-some d (x ∷ xs) = still-more d x xs (still-some d xs) (x.partition == d) (nat_le d x.partition) (nat_le (d + 1) x.partition) refl refl refl

pub still-few : (d : ℕ) (xs : List Settlement) → still d xs ≤ length xs
still-few d [] = omega arith
still-few d (x ∷ xs) = by (nat_le d x.partition) refl (still-few d xs) where
  by : (b : Bool) → nat_le d x.partition ≡ b → still d xs ≤ length xs → still d (x ∷ xs) ≤ suc (length xs)
  by true e rest = let is = still-at d x xs true e in omega (arith, rest, is)
  by false e rest = let is = still-at d x xs false e in omega (arith, rest, is)

-- the partitions that are left, the first of them in front
range-front : (d k : ℕ) → d < k → range_with_len d (k - d) ≡ d ∷ range_with_len (d + 1) (k - (d + 1))
range-front d k below = let e : k - d ≡ suc (k - (d + 1)) = omega (arith, below) in ap (range_with_len d) e

-- the lists of places, as contracts see them
abbrev pub Places : Type 0
Places = List (Vec (Option Run) Global)

abbrev pub items_of : Places → List (List (Option Run))
items_of places = map (λ (p : Vec (Option Run) Global). p.items) places

pub set-placed : (places : Places) (d : ℕ) (p : Vec (Option Run) Global) → d < length places → items_of (set places d p) ≡ put [] (items_of places) d p.items
set-placed places d p within =
    let long = length-map places (λ (p : Vec (Option Run) Global). p.items) in
    map-set (λ (p : Vec (Option Run) Global). p.items) places d p ∙ set_put [] (items_of places) d p.items (omega (arith, long, within))

pub place-at : (places : Places) (d : ℕ) (p : Vec (Option Run) Global) → d < length places → (get_or places d p).items ≡ at [] (items_of places) d
place-at places d p within =
    ap (λ (q : Vec (Option Run) Global). q.items) (sym (at_index p p places d within))
    ∙ sym (at-map p [] (λ (p : Vec (Option Run) Global). p.items) places d within)

-- a partition is settled, and the others are left
pub left-partition : (settled : List Settlement) (d k count : ℕ) (places : Places) (log log2 : List Entry) (tickets tickets2 : List Ticket)
    (p q : Vec (Option Run) Global)
    → d < k → d < length places → count ≡ length (get_or places d p).items
    → log2 ≡ log ++ entries_taken tickets (news_of d count settled)
    → q.items ≡ (get_or places d p).items ++ update_runs (news_of d count settled)
    → tickets2 ≡ ops_taken (news_of d count settled) tickets
    → accounts_after settled (range_with_len (d + 1) (k - (d + 1))) (accounts_of log2 (items_of (set places d q)) tickets2)
    ≡ accounts_after settled (range_with_len d (k - d)) (accounts_of log (items_of places) tickets)
left-partition settled d k count places log log2 tickets tickets2 p q below within count-is log-is q-is tickets-are =
    let news : ℕ → List Update = λ n. news_of d n settled in
    let here : (get_or places d p).items ≡ at [] (items_of places) d = place-at places d p within in
    let n-is : count ≡ length (at [] (items_of places) d) = count-is ∙ ap length here in
    let rest : Accounts → Accounts = accounts_after settled (range_with_len (d + 1) (k - (d + 1))) in
    let places-are : items_of (set places d q) ≡ put [] (items_of places) d (at [] (items_of places) d ++ update_runs (news count))
    = set-placed places d q within ∙ ap (put [] (items_of places) d) (q-is ∙ ap (λ (xs : List (Option Run)). xs ++ update_runs (news count)) here) in
    ap (λ (xs : List Entry). rest (accounts_of xs (items_of (set places d q)) tickets2)) log-is
    ∙ ap (λ (xs : List (List (Option Run))). rest (accounts_of (log ++ entries_taken tickets (news count)) xs tickets2)) places-are
    ∙ ap (λ (xs : List Ticket). rest (accounts_of (log ++ entries_taken tickets (news count))
    (put [] (items_of places) d (at [] (items_of places) d ++ update_runs (news count))) xs)) tickets-are
    ∙ ap (λ (n : ℕ). rest (with_news d (news n) (accounts_of log (items_of places) tickets))) n-is
    ∙ sym (ap (λ (ds : List ℕ). accounts_after settled ds (accounts_of log (items_of places) tickets)) (range-front d k below))

-- where two lists are alike from a place on
pub alike-at : {X : Type 0} (xs ys : List X) (d : ℕ) (p : X) → drop d xs ≡ drop d ys → get_or xs d p ≡ get_or ys d p
alike-at xs ys d p same =
    let here : d + 0 ≡ d = omega arith in
    sym (get_or-drop d xs 0 p ∙ ap (λ (n : ℕ). get_or xs n p) here) ∙ ap (λ (zs : List _). get_or zs 0 p) same
    ∙ get_or-drop d ys 0 p ∙ ap (λ (n : ℕ). get_or ys n p) here

pub alike-behind : {X : Type 0} (xs ys : List X) (d : ℕ) (p : X) → drop d xs ≡ drop d ys → drop (d + 1) (set xs d p) ≡ drop (d + 1) ys
alike-behind xs ys d p same =
    let below : d < d + 1 = omega arith in
    drop-set-lt (d + 1) xs d p below ∙ sym (drop-drop 1 d xs) ∙ ap (drop 1) same ∙ drop-drop 1 d ys

-- where the places of a partition are what they were
pub items-kept : (places : Places) (d : ℕ) (p q : Vec (Option Run) Global) → d < length places → q.items ≡ (get_or places d p).items
    → items_of (set places d q) ≡ items_of places
items-kept places d p q within same =
    let long = length-map places (λ (p : Vec (Option Run) Global). p.items) in
    set-placed places d q within ∙ ap (put [] (items_of places) d) (same ∙ place-at places d p within)
    ∙ put-at [] [] (items_of places) d (omega (arith, long, within))

-- what holds of the entries below a place, and of the one that is set there
pub below-set : {X : Type 0} (P : X → Type 0) (xs : List X) (d : ℕ) (q : X) → d < length xs → ((k : ℕ) (p : X) → k < d → P (get_or xs k p)) → P q
    → (k : ℕ) (p : X) → k < d + 1 → P (get_or (set xs d q) k p)
below-set P xs d q within all here k p below = by (cases_lt k d) where
  by : (k < d) ⊎ (d ≤ k) → P (get_or (set xs d q) k p)
  by (inl low) = subst P (sym (get_or-set_other xs d k q p (λ same. omega (arith, low, same)))) (all k p low)
  by (inr high) = let same : k ≡ d = omega (arith, high, below) in subst P (sym (get_or-set_at xs d k q p same within)) here
