-- Questions and blocks, and a leader that opens a session.
use Rattle.std.proofs.Common.{◌≡◌, ◌≢◌, ℕ, zero, suc, ◌+◌, ◌<◌, ◌≤◌, ◌==◌, ◌&&◌, Bool, true, false, not, List, [], ◌∷◌}
use Rattle.std.proofs.Common.{◌++◌, length, take, map, filter, find, flat_map, is_some, Some, None, cond, ◌⊎◌, inl, inr}
use Rattle.std.proofs.Common.{sym, ap, subst, ◌∙◌, refl, arith, if◌then◌else◌}
use Rattle.std.proofs.lemmas.Bool.{cases_eq, eq-eqb, ne_eqb}
use Rattle.std.specs.List.{range_with_len}
use Rattle.group_types.specs.Dimensions.{Dimensions}
use Rattle.group_types.specs.Lists.{at}
use Rattle.group_types.specs.Names.{same_process}
use Rattle.group_types.specs.declared.process.ProcessId.{ProcessId}
use Rattle.group_types.specs.declared.process.ProcessId.TheVariants.{DataNode, ParityNode}
use Rattle.group_types.proofs.Lists.{at-replicate}
use Rattle.group_types.proofs.Names.{same-eq}
use Rattle.group_types.specs.Each.{Each}
use Rattle.group_types.proofs.Eaches.{each-append, each-take, each-weaker, each-all, each-map, each-filter}
use Rattle.membership.specs.Members.{knows_dead}
use Rattle.group_message.specs.declared.message.Message.TheVariants as tells
use Rattle.group_message.specs.declared.message.Session.{Session}
use Rattle.group_run.specs.Applying.{ProcessStep, Sent, and_then, for_each, quiet, replica_of, sending}
use Rattle.group_run.specs.Heading.{partition, rank}
use Rattle.group_run.specs.Leaders.{block_comes, block_gathered, leader_marks, left_of, lost_of, new_session}
use Rattle.group_run.specs.Leaders.{open_session, own_mark, rows_of, session_of, session_opened, session_starts}
use Rattle.group_run.specs.Process.{Process}
use Rattle.group_run.specs.Receiving.{data_marks, read_comes}
use Rattle.law_moves.proofs.Members.{IsParity}
use Rattle.law_bytes.proofs.Rising.{Differ, differ-rising, rising-filtered, rising-range}
use Rattle.law_bytes.proofs.Tokens.{Own, Row, Token, Way, block_way, in_session, is_kept_in, marks_way, of_session, one_if}
use Rattle.law_bytes.proofs.Finding.{and-join, and-split, found-behind}
use Rattle.law_bytes.proofs.Groups.{in_sent, in_sent-append}
use Rattle.law_bytes.proofs.Local.{Fact, Fewer, Gains, bit-high, bit-or, fewer-at, fewer-self, gains-fewer, gains-more, gains-then}
use Rattle.law_bytes.proofs.Marks.{block-kept, block-last, same_session, session-is}
use Rattle.law_bytes.proofs.Taking.{copy-alike, mark-gains}

-- how often a number stands in a list
count : ℕ → List ℕ → ℕ
count y [] = 0
count y (x ∷ xs) = one_if (x == y) + count y xs

count-none : (y : ℕ) (xs : List ℕ) → Each (λ x. x ≢ y) xs → count y xs ≡ 0
unfolding count
count-none y [] none = refl
count-none y (x ∷ xs) none = let here : one_if (x == y) ≡ 0 = ap one_if (ne_eqb x y none.0) in let rest = count-none y xs none.1 in omega (arith, here, rest)

count-once : (y : ℕ) (xs : List ℕ) → Differ xs → count y xs ≤ 1
unfolding count
count-once y [] differ = omega arith
count-once y (x ∷ xs) differ = by (cases_eq x y) (count-once y xs differ.1) where
  by : (x ≡ y) ⊎ (x ≢ y) → count y xs ≤ 1 → one_if (x == y) + count y xs ≤ 1
  by (inl same) rest =
      let high = bit-high (x == y) in
      let none = count-none y xs (each-weaker (λ z. z ≢ x) (λ z. z ≢ y) (λ z other is. other (is ∙ sym same)) xs differ.0) in
      omega (arith, high, none)
  by (inr other) rest = let here : one_if (x == y) ≡ 0 = ap one_if (ne_eqb x y other) in omega (arith, here, rest)

-- among those that pass and those that don't
count-split : (test : ℕ → Bool) (y : ℕ) (xs : List ℕ) → count y (filter test xs) + count y (filter (λ x. not (test x)) xs) ≡ count y xs
unfolding count
count-split test y [] = refl
count-split test y (x ∷ xs) = by (test x) (count-split test y xs) where
  by : (b : Bool) → count y (filter test xs) + count y (filter (λ z. not (test z)) xs) ≡ count y xs
      → count y (cond b (x ∷ filter test xs) (filter test xs)) + count y
      (cond (not b) (x ∷ filter (λ z. not (test z)) xs) (filter (λ z. not (test z)) xs)) ≡ one_if (x == y) + count y
      xs
  by true rest = omega (arith, rest)
  by false rest = omega (arith, rest)

differ-filter : (test : ℕ → Bool) (xs : List ℕ) → Differ xs → Differ (filter test xs)
differ-filter test [] differ = tt
differ-filter test (x ∷ xs) differ = by (test x) (differ-filter test xs differ.1) where
  by : (b : Bool) → Differ (filter test xs) → Differ (cond b (x ∷ filter test xs) (filter test xs))
  by true rest = (each-filter (λ y. y ≢ x) test xs differ.0, rest)
  by false rest = rest

differ-take : (n : ℕ) (xs : List ℕ) → Differ xs → Differ (take n xs)
differ-take zero xs differ = tt
differ-take (suc n) [] differ = tt
differ-take (suc n) (x ∷ xs) differ = (each-take (λ y. y ≢ x) n xs differ.0, differ-take n xs differ.1)

left-out : (l : ℕ) (xs : List ℕ) → Each (λ x. x ≢ l) (filter (λ i. not (i == l)) xs)
left-out l [] = tt
left-out l (x ∷ xs) = by (cases_eq x l) (left-out l xs) where
  by : (x ≡ l) ⊎ (x ≢ l) → Each (λ y. y ≢ l) (filter (λ i. not (i == l)) xs)
      → Each (λ y. y ≢ l) (cond (not (x == l)) (x ∷ filter (λ i. not (i == l)) xs) (filter (λ i. not (i == l)) xs))
  by (inl same) rest = rw (eq-eqb x l same) rest
  by (inr other) rest = rw (ne_eqb x l other) (other, rest)

and-less : (a b : Bool) → one_if (a && b) ≤ one_if b
and-less true b = omega arith
and-less false b = omega arith

-- the marks for partition e that reach a way: one for each time that the row is named
abbrev marks_of : Token → Way → ℕ → List ℕ → ℕ
marks_of t Own e is = 0
marks_of t (Row r) e is = if e == t.partition then count r is else 0

marks-less : (t : Token) (x : ProcessId) (session : Session) (r block e n : ℕ) (is : List ℕ) (w : Way) → t.way ≡ w
    → in_sent t x (map (λ i. record { to = ParityNode i; message = tells.Mark session (rank r) block (partition e) n }) is) ≤ marks_of t w e is
unfolding count
marks-less t x session r block e n [] Own way = omega arith
marks-less t x session r block e n [] (Row j) way = omega arith
marks-less t x session r block e n (i ∷ is) Own way =
    let rest = marks-less t x session r block e n is Own way in
    let here : one_if (of_session t session && marks_way t.way t.partition e (ParityNode i))
    ≤ one_if (marks_way t.way t.partition e (ParityNode i)) = and-less (of_session t session) _ in
    let none : one_if (marks_way t.way t.partition e (ParityNode i)) ≡ 0 = ap (λ (w : Way). one_if (marks_way w t.partition e (ParityNode i))) way in
    omega (arith, rest, here, none)
marks-less t x session r block e n (i ∷ is) (Row j) way = by (e == t.partition) refl (marks-less t x session r block e n is (Row j) way) where
  here : one_if (of_session t session && marks_way t.way t.partition e (ParityNode i)) ≤ one_if (e == t.partition && i == j)
  here =
      subst (λ (w : Way). one_if (of_session t session && marks_way w t.partition e (ParityNode i)) ≤ one_if (e == t.partition && i == j)) (sym way)
      (and-less (of_session t session) (e == t.partition && i == j))

  by : (b : Bool) → (e == t.partition) ≡ b
      → in_sent t x
      (map (λ i. record { to = ParityNode i; message = tells.Mark session (rank r) block (partition e) n }) is)
      ≤ (if e == t.partition then count j is else 0)
      → one_if (of_session t session && marks_way t.way t.partition e (ParityNode i)) + in_sent t x
      (map (λ i. record { to = ParityNode i; message = tells.Mark session (rank r) block (partition e) n }) is) ≤
      (if e == t.partition then one_if (i == j) + count j is else 0)
  by true is_e rest =
      let a : (if e == t.partition then count j is else 0) ≡ count j is = ap (λ (b : Bool). if b then count j is else 0) is_e in
      let c : (if e == t.partition then one_if (i == j) + count j is else 0) ≡ one_if (i == j) + count j is =
      ap (λ (b : Bool). if b then one_if (i == j) + count j is else 0) is_e in
      let d : one_if (e == t.partition && i == j) ≡ one_if (i == j) = ap (λ (b : Bool). one_if (b && i == j)) is_e in
      let first = here in
      omega (arith, rest, a, c, d, first)
  by false not_e rest =
      let a : (if e == t.partition then count j is else 0) ≡ 0 = ap (λ (b : Bool). if b then count j is else 0) not_e in
      let d : one_if (e == t.partition && i == j) ≡ 0 = ap (λ (b : Bool). one_if (b && i == j)) not_e in
      let first = here in
      omega (arith, rest, a, d, first)

-- none where the session is another
marks-none : (t : Token) (x : ProcessId) (session : Session) (r block e n : ℕ) (is : List ℕ) → of_session t session ≡ false
    → in_sent t x (map (λ i. record { to = ParityNode i; message = tells.Mark session (rank r) block (partition e) n }) is) ≡ 0
marks-none t x session r block e n [] other = refl
marks-none t x session r block e n (i ∷ is) other =
    let here : one_if (of_session t session && marks_way t.way t.partition e (ParityNode i)) ≡ 0 =
    ap (λ (b : Bool). one_if (b && marks_way t.way t.partition e (ParityNode i))) other in
    let rest = marks-none t x session r block e n is other in
    omega (arith, here, rest)

module _ (s : Dimensions) (t : Token) where
  -- a block comes to the leader of its session
  pub block-gains : (l n e : ℕ) (bytes : List ℕ) (p : Process) → p.name ≡ ParityNode l
      → Gains t p (quiet (block_comes s n e bytes p)) (one_if (same_session t l n && block_way t.way t.partition (DataNode e)))
  block-gains l n e bytes p name = record {
    name = refl;
    last = let same = block-last s e bytes (open_session p.as_leader n) p.as_leader in omega (arith, same);
    weighs = let a = ap one_if (copy-alike t t.way p (block_comes s n e bytes p) refl refl) in let b = kept in omega (arith, a, b);
    facts = tt;
  } where
    z : Bool
    z = same_session t l n && block_way t.way t.partition (DataNode e)

    new : in_session t (block_comes s n e bytes p) ≡ true → (in_session t p ≡ true) ⊎ (z ≡ true)
    new is = turn
        (and-split (same_process p.name (ParityNode t.leader))
        (is_kept_in t.way t.partition (open_session (block_gathered s e bytes (open_session p.as_leader n) p.as_leader)
        t.number)) is) where
          turn : (same_process p.name (ParityNode t.leader) ≡ true)
              × (is_kept_in t.way t.partition
              (open_session (block_gathered s e bytes (open_session p.as_leader n) p.as_leader) t.number) ≡ true)
              → (in_session t p ≡ true) ⊎ (z ≡ true)
          turn both = deeper (block-kept s t.way t.partition t.number n e bytes p.as_leader both.1) where
            deeper : (is_kept_in t.way t.partition (open_session p.as_leader t.number) ≡ true)
                ⊎ ((t.number ≡ n) × (t.way ≡ Own) × (t.partition ≡ e)) → (in_session t p ≡ true) ⊎ (z ≡ true)
            deeper (inl was) = inl (and-join _ _ both.0 was)
            deeper (inr fresh) =
                let names : ParityNode l ≡ ParityNode t.leader = sym name ∙ same-eq p.name (ParityNode t.leader) both.0 in
                let leaders : l ≡ t.leader = cc names in
                inr (and-join _ _ (session-is t l n leaders (sym fresh.0))
                (ap (λ (w : Way). block_way w t.partition (DataNode e)) fresh.1 ∙ eq-eqb e t.partition (sym fresh.2)))

    kept : one_if (in_session t (block_comes s n e bytes p)) ≤ one_if (in_session t p) + one_if z
    kept = by (in_session t (block_comes s n e bytes p)) new where
      by : (b : Bool) → (b ≡ true → (in_session t p ≡ true) ⊎ (z ≡ true)) → one_if b ≤ one_if (in_session t p) + one_if z
      by false turns = omega arith
      by true turns = let some = bit-or (in_session t p) z (turns refl) in omega (arith, some)

  -- a data process is asked for its block
  pub read-gains : (session : Session) (block : ℕ) (rows : List ℕ) (p : Process) (e : ℕ) → p.name ≡ DataNode e → IsParity session.leader → Differ rows
      → Gains t p (read_comes s session block rows p (DataNode e)) (one_if (of_session t session && same_process (DataNode e) (DataNode t.partition)))
  read-gains session block rows p e name parity differ = record {
    name = refl;
    last = omega arith;
    weighs = let few = sent_few in omega (arith, few);
    facts = (
      parity,
      each-map (λ z. Fact z.message)
          (λ i. record {
            to = ParityNode i;
            message = tells.Mark session (rank 0) block (partition e)
                (replica_of p e).applied;
          }) rows (each-all (λ i. IsParity session.leader) (λ i. parity) rows),
    );
  } where
    marks : List Sent
    marks = data_marks session block e (replica_of p e).applied rows

    own : one_if (of_session t session && block_way t.way t.partition p.name) ≡ one_if (of_session t session && block_way t.way t.partition (DataNode e))
    own = ap (λ (x : ProcessId). one_if (of_session t session && block_way t.way t.partition x)) name

    both_ways : (w : Way) → t.way ≡ w → (b : Bool) → of_session t session ≡ b
        → one_if (b && block_way w t.partition (DataNode e)) + in_sent t p.name marks ≤ one_if (b && e == t.partition)
    both_ways w way false other = let none = marks-none t p.name session 0 block e (replica_of p e).applied rows other in omega (arith, none)
    both_ways Own way true is = let none = marks-less t p.name session 0 block e (replica_of p e).applied rows Own way in omega (arith, none)
    both_ways (Row r) way true is = by (e == t.partition) refl (marks-less t p.name session 0 block e (replica_of p e).applied rows (Row r) way) where
      by : (c : Bool) → (e == t.partition) ≡ c → in_sent t p.name marks ≤ (if e == t.partition then count r rows else 0)
          → one_if false + in_sent t p.name marks ≤ one_if c
      by true is_e less =
          let a : (if e == t.partition then count r rows else 0) ≡ count r rows = ap (λ (b : Bool). if b then count r rows else 0) is_e in
          let once = count-once r rows differ in
          omega (arith, less, a, once)
      by false not_e less = let a : (if e == t.partition then count r rows else 0) ≡ 0 =
          ap (λ (b : Bool). if b then count r rows else 0) not_e in omega (arith, less, a)

    sent_few : one_if (of_session t session && block_way t.way t.partition p.name) + in_sent t p.name marks ≤ one_if (of_session t session && e == t.partition)
    sent_few =
        let two = both_ways t.way refl (of_session t session) refl in
        let one = own in
        omega (arith, two, one)

  -- steps for each of some numbers, of one process
  abbrev pub total : (ℕ → ℕ) → List ℕ → ℕ
  total c [] = 0
  total c (x ∷ xs) = c x + total c xs

  pub gains-list : (xs : List ℕ) (f : ℕ → Process → ProcessStep) (c : ℕ → ℕ) (name : ProcessId) (p : Process) → p.name ≡ name
      → ((x : ℕ) (q : Process) → q.name ≡ name → Gains t q (f x q) (c x)) → Gains t p (for_each xs f p) (total c xs)
  gains-list [] f c name p is all = gains-fewer t p (quiet p) (fewer-self t p) tt
  gains-list (x ∷ xs) f c name p is all =
      let first = all x p is in
      gains-then t p (f x p) (for_each xs f) (c x) (total c xs) first (gains-list xs f c name (f x p).process (first.name ∙ is) all)

  total-le : (c d : ℕ → ℕ) (xs : List ℕ) → ((x : ℕ) → c x ≤ d x) → total c xs ≤ total d xs
  total-le c d [] less = omega arith
  total-le c d (x ∷ xs) less = let here = less x in let rest = total-le c d xs less in omega (arith, here, rest)

  total-count : (xs : List ℕ) → total (λ x. one_if (x == t.partition)) xs ≡ count t.partition xs
  unfolding count
  total-count [] = refl
  total-count (x ∷ xs) = let rest = total-count xs in omega (arith, rest)

  total-both : (c d : ℕ → ℕ) (xs : List ℕ) → total c xs + total d xs ≡ total (λ x. c x + d x) xs
  total-both c d [] = refl
  total-both c d (x ∷ xs) = let rest = total-both c d xs in omega (arith, rest)

  -- a leader opens a session
  module _ (block l : ℕ) (p : Process) (name : p.name ≡ ParityNode l) where
    number : ℕ
    number = suc p.as_leader.last_session

    opened : Process
    opened = session_opened s number block p

    none-kept : (w : Way) → is_kept_in w t.partition (Some (new_session s number block p)) ≡ false
    none-kept (Row r) = ap is_some (at-replicate None s.m r)
    none-kept Own = ap is_some (at-replicate None s.k t.partition)

    opened-fewer : Fewer t p opened
    unfolding opened number
    opened-fewer =
        record {
          name = refl;
          marked = λ is. is;
          kept = λ is. by is (found-behind (λ g. g.number == t.number) p.as_leader.sessions
              (new_session s number block p));
          last = omega arith;
        } where
          by : is_kept_in t.way t.partition (find (λ g. g.number == t.number) (p.as_leader.sessions ++ new_session s number block p ∷ [])) ≡ true
              → (find (λ g. g.number == t.number) (p.as_leader.sessions ++ new_session s number block p ∷ []) ≡ open_session p.as_leader t.number)
              ⊎ ((open_session p.as_leader t.number ≡ None)
              × (find (λ g. g.number == t.number) (p.as_leader.sessions ++ new_session s number block p ∷ [])
              ≡ Some (new_session s number block p)))
              → is_kept_in t.way t.partition (open_session p.as_leader t.number) ≡ true
          by is (inl same) = ap (is_kept_in t.way t.partition) (sym same) ∙ is
          by is (inr both) = absurd (cc (sym is ∙ ap (is_kept_in t.way t.partition) both.1 ∙ none-kept t.way))

    rows : List ℕ
    rows = rows_of s p

    rows-differ : Differ rows
    unfolding rows
    rows-differ = differ-take (length (lost_of s p)) _ (differ-rising _ (rising-filtered (λ i. not (knows_dead p.known (ParityNode i))) s.m))

    -- questions
    questions : List ℕ → List Sent
    questions ds = map (λ d. record { to = DataNode d; message = tells.ReadBlock (session_of l number) block rows }) ds

    questions-less : (ds : List ℕ) → in_sent t p.name (questions ds) ≤ count t.partition ds
    unfolding questions count
    questions-less [] = omega arith
    questions-less (d ∷ ds) = let rest = questions-less ds in let here = and-less (same_session t l number) (d == t.partition) in omega (arith, rest, here)

    questions-none : same_session t l number ≡ false → (ds : List ℕ) → in_sent t p.name (questions ds) ≡ 0
    unfolding questions
    questions-none other [] = refl
    questions-none other (d ∷ ds) =
        let rest = questions-none other ds in
        let here : one_if (same_session t l number && d == t.partition) ≡ 0 = ap (λ (b : Bool). one_if (b && d == t.partition)) other in
        omega (arith, rest, here)

    -- marks of lost partitions
    marks-sum : (ls : List ℕ) → in_sent t p.name (flat_map (leader_marks s l number block p) ls)
        ≤ total (λ e. marks_of t t.way e (filter (λ i. not (i == l)) rows)) ls
    unfolding rows
    marks-sum [] = omega arith
    marks-sum (e ∷ ls) =
        let rest = marks-sum ls in
        let sum = in_sent-append t p.name (leader_marks s l number block p e) (flat_map (leader_marks s l number block p) ls) in
        let here = marks-less t p.name (session_of l number) (at 0 p.ranks e) block e (replica_of p e).applied
        (filter (λ i. not (i == l)) (rows_of s p)) t.way refl in
        omega (arith, rest, sum, here)

    marks-none-sum : same_session t l number ≡ false → (ls : List ℕ) → in_sent t p.name (flat_map (leader_marks s l number block p) ls) ≡ 0
    marks-none-sum other [] = refl
    marks-none-sum other (e ∷ ls) =
        let rest = marks-none-sum other ls in
        let sum = in_sent-append t p.name (leader_marks s l number block p e) (flat_map (leader_marks s l number block p) ls) in
        let here = marks-none t p.name (session_of l number) (at 0 p.ranks e) block e (replica_of p e).applied
        (filter (λ i. not (i == l)) (rows_of s p)) other in
        omega (arith, rest, sum, here)

    -- for each lost partition one mark comes to a row, the leader's own included
    mark-one : (e : ℕ) → marks_of t t.way e (filter (λ i. not (i == l)) rows) + one_if
        (same_session t l number && marks_way t.way t.partition e (ParityNode l)) ≤ one_if (e == t.partition)
    mark-one e = by t.way where
      by : (w : Way) → marks_of t w e (filter (λ i. not (i == l)) rows) + one_if
          (same_session t l number && marks_way w t.partition e (ParityNode l)) ≤ one_if (e == t.partition)
      by Own = let less = and-less (same_session t l number) false in omega (arith, less)
      by (Row r) = cases (e == t.partition) (and-less (same_session t l number) (e == t.partition && l == r)) (cases_eq l r) where
        others : List ℕ
        others = filter (λ i. not (i == l)) rows

        once : count r others ≤ 1
        once = count-once r others (differ-filter (λ i. not (i == l)) rows rows-differ)

        cases : (b : Bool) → one_if (same_session t l number && (b && l == r)) ≤ one_if (b && l == r) → (l ≡ r) ⊎ (l ≢ r)
            → (if b then count r others else 0) + one_if (same_session t l number && (b && l == r)) ≤ one_if b
        cases false less either = omega (arith, less)
        cases true less (inl same) =
            let none = count-none r others (each-weaker (λ x. x ≢ l) (λ x. x ≢ r) (λ x other is. other (is ∙ sym same)) others (left-out l rows)) in
            let high = bit-high (l == r) in
            omega (arith, less, none, high)
        cases true less (inr other) = let zero_bit : one_if (l == r) ≡ 0 = ap one_if (ne_eqb l r other) in let few = once in omega (arith, less, zero_bit, few)

    starts-facts : Each (λ z. Fact z.message) (session_starts s l number block p)
    unfolding rows
    starts-facts = each-append (λ z. Fact z.message) (map question (left_of s p)) (flat_map (leader_marks s l number block p) (lost_of s p))
        (each-map (λ z. Fact z.message) question (left_of s p)
        (each-all (λ d. Differ (rows_of s p)) (λ d. rows-differ) (left_of s p))) (all_marks (lost_of s p))
      where
        question : ℕ → Sent
        question d = record { to = DataNode d; message = tells.ReadBlock (session_of l number) block (rows_of s p) }

        marks-fact : (e : ℕ) → Each (λ z. Fact z.message) (leader_marks s l number block p e)
        marks-fact e =
            each-map (λ z. Fact z.message)
            (λ i. record { to = ParityNode i; message = tells.Mark (session_of l number) (rank (at 0 p.ranks e)) block (partition e) (replica_of p e).applied })
            (filter (λ i. not (i == l)) (rows_of s p))
            (each-all (λ i. Unit {0}) (λ i. tt) (filter (λ i. not (i == l)) (rows_of s p)))

        all_marks : (ls : List ℕ) → Each (λ z. Fact z.message) (flat_map (leader_marks s l number block p) ls)
        all_marks [] = tt
        all_marks (e ∷ ls) = each-append (λ z. Fact z.message) (leader_marks s l number block p e)
            (flat_map (leader_marks s l number block p) ls) (marks-fact e) (all_marks ls)

    own-gains : t.partition < s.k → (e : ℕ) (q : Process) → q.name ≡ ParityNode l
        → Gains t q (own_mark s l number block e q) (one_if (same_session t l number && marks_way t.way t.partition e (ParityNode l)))
    own-gains below e q is =
        subst (λ (x : ProcessId). Gains t q (own_mark s l number block e q)
        (one_if (same_session t l number && marks_way t.way t.partition e x))) is
        (mark-gains s t l number (at 0 q.ranks e) block e (replica_of q e).applied q below)

    abbrev pub started : ProcessStep
    started =
        and_then (sending (session_starts s l (suc p.as_leader.last_session) block p) (session_opened s (suc p.as_leader.last_session) block p))
        (for_each (lost_of s p) (own_mark s l (suc p.as_leader.last_session) block))

    first-gains : (c : ℕ) → in_sent t p.name (session_starts s l number block p) ≤ c → Gains t p (sending (session_starts s l number block p) opened) c
    first-gains c less = record {
      name = opened-fewer.name;
      last = opened-fewer.last;
      weighs = let a = fewer-at t p opened opened-fewer in omega (arith, a, less);
      facts = starts-facts;
    }

    starts-sum : in_sent t p.name (session_starts s l number block p)
        ≡ in_sent t p.name (questions (left_of s p)) + in_sent t p.name
        (flat_map (leader_marks s l number block p) (lost_of s p))
    unfolding questions rows
    starts-sum = in_sent-append t p.name (questions (left_of s p)) (flat_map (leader_marks s l number block p) (lost_of s p))

    pub start-new : t.partition < s.k → Gains t p started 1
    unfolding number opened
    start-new below =
        let own = gains-list (lost_of s p) (own_mark s l number block) (λ e. one_if (same_session t l number && marks_way t.way t.partition e (ParityNode l)))
        (ParityNode l) opened (opened-fewer.name ∙ name) (own-gains below) in
        let asked = questions-less (left_of s p) in
        let sum = starts-sum in
        let marks = marks-sum (lost_of s p) in
        let both = total-both (λ e. marks_of t t.way e (filter (λ i. not (i == l)) rows))
        (λ e. one_if (same_session t l number && marks_way t.way t.partition e (ParityNode l))) (lost_of s p) in
        let one = total-le
        (λ e. marks_of t t.way e (filter (λ i. not (i == l)) rows) + one_if (same_session t l number && marks_way t.way t.partition e (ParityNode l)))
        (λ e. one_if (e == t.partition)) (lost_of s p) mark-one in
        let counted = total-count (lost_of s p) in
        let split = count-split (λ d. knows_dead p.known (DataNode d)) t.partition (range_with_len 0 s.k) in
        let once = count-once t.partition (range_with_len 0 s.k) (differ-rising _ (rising-range 0 s.k)) in
        gains-more t p started
        (in_sent t p.name (session_starts s l number block p) + total
        (λ e. one_if (same_session t l number && marks_way t.way t.partition e (ParityNode l))) (lost_of s p)) 1
        (omega (arith, asked, sum, marks, both, one, counted, split, once))
        (gains-then t p (sending (session_starts s l number block p) opened)
        (for_each (lost_of s p) (own_mark s l number block)) (in_sent t p.name (session_starts s l number block p)) _
        (first-gains (in_sent t p.name (session_starts s l number block p)) (omega arith)) own)

    total-zero : (ls : List ℕ) → total (λ e. 0) ls ≡ 0
    total-zero [] = refl
    total-zero (e ∷ ls) = let rest = total-zero ls in omega (arith, rest)

    pub start-other : same_session t l (suc p.as_leader.last_session) ≡ false → t.partition < s.k → Gains t p started 0
    unfolding number opened
    start-other other below =
        let own = gains-list (lost_of s p) (own_mark s l number block) (λ e. 0) (ParityNode l) opened (opened-fewer.name ∙ name) (λ e q is.
        subst (Gains t q (own_mark s l number block e q))
        (ap (λ (b : Bool). one_if (b && marks_way t.way t.partition e (ParityNode l))) other)
        (own-gains below e q is)) in
        let asked = questions-none other (left_of s p) in
        let sum = starts-sum in
        let marks = marks-none-sum other (lost_of s p) in
        let none = total-zero (lost_of s p) in
        gains-more t p started (0 + total (λ e. 0) (lost_of s p)) 0 (omega (arith, none))
        (gains-then t p (sending (session_starts s l number block p) opened)
        (for_each (lost_of s p) (own_mark s l number block)) 0 (total (λ e. 0) (lost_of s p))
        (first-gains 0 (omega (arith, asked, sum, marks))) own)

    -- the number of the session is the last one then
    pub start-last : t.partition < s.k → suc p.as_leader.last_session ≤ started.process.as_leader.last_session
    unfolding number opened
    start-last below =
        (gains-list (lost_of s p) (own_mark s l number block)
        (λ e. one_if (same_session t l number && marks_way t.way t.partition e (ParityNode l))) (ParityNode l) opened
        (opened-fewer.name ∙ name) (own-gains below)).last
