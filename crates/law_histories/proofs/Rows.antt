-- Steps of rows and leaders, told of one partition: a mark applies it, and all else leaves it as it is.
use Rattle.std.proofs.Common.{ℕ, zero, suc, ◌≡◌, ◌≢◌, ◌<◌, ◌≤◌, ◌+◌, ◌-◌, ◌==◌, nat_lt, Bool, true, false, not, List}
use Rattle.std.proofs.Common.{[], ◌∷◌, length, drop, take, Option, Some, None, ◌⊎◌, inl, inr, refl, sym, ap, subst, ◌∙◌}
use Rattle.std.proofs.Common.{if◌then◌else◌, arith}
use Rattle.std.proofs.lemmas.Bool.{cases_eq}
use Rattle.std.proofs.lemmas.Grind.{common_steps}
use Rattle.std.specs.Prelude.{filter, flat_map, is_some, map}
use Rattle.std.specs.List.{list_any, range_with_len}
use Rattle.group_types.specs.Dimensions.{Dimensions}
use Rattle.group_types.specs.Lists.{at}
use Rattle.group_types.specs.Names.{same_process}
use Rattle.group_types.specs.declared.process.ProcessId.TheVariants.{DataNode, ParityNode}
use Rattle.group_types.specs.Each.{Each}
use Rattle.group_types.proofs.Eaches.{each-append, each-weaker, each-all, each-map}
use Rattle.group_message.specs.declared.message.Message.TheVariants as tells
use Rattle.group_run.specs.Applying.{Sent, apply_to, for_each, head_at, replica_of, sending}
use Rattle.group_run.specs.Asking.{Oldest, inherited_or, oldest_inherited, retry_block}
use Rattle.group_run.specs.Heading.{partition, rank}
use Rattle.group_run.specs.Leaders.{close_sessions, copy_kept, copy_marked, leader_marks, left_of, lost_of, mark_comes}
use Rattle.group_run.specs.Leaders.{mark_taken, own_mark, row_finished, rows_of, session_of, session_opened}
use Rattle.group_run.specs.Leaders.{session_starts, start_session}
use Rattle.group_run.specs.Process.{Copy, Gathering, Head, Process}
use Rattle.group_run.specs.Replica.{Replica, applied_to, items_after, kept_after}
use Rattle.group_run.specs.Rows.{accepts_mark, begin_copy, copy_begun, copy_in, is_marked, marked, parity_number, with_copies, without_copy}
use Rattle.membership.specs.Members.{knows_dead}
use Rattle.law_moves.proofs.Calls.{each-below, each-filter}
use Rattle.law_histories.proofs.Acts.{Tells}
use Rattle.law_histories.proofs.Heads.{replica-apply_to}
use Rattle.law_histories.proofs.Steps.{SameIn, Still, same-apply, same-in-refl, same-in-trans, still-each, still-from}
use Rattle.law_histories.proofs.Steps.{still-quiet, still-then, still-when, tells-same, told-others}

pub each-flat_map : {X Y : Type 0} (P : Y → Type 0) (f : X → List Y) (xs : List X) → Each (λ x. Each P (f x)) xs → Each P (flat_map f xs)
each-flat_map P f [] all = tt
each-flat_map P f (x ∷ xs) all = each-append P (f x) (flat_map f xs) all.0 (each-flat_map P f xs all.1)

-- the process leads all lost partitions
abbrev pub LeadsLost : Dimensions → Process → Type 0
LeadsLost s p = (l : ℕ) → l < s.k → knows_dead p.known (DataNode l) ≡ true → (h : Head) × (head_at p l ≡ Some h) × (at 0 p.ranks l ≡ h.rank)

-- nothing inherited is unfinished where no oldest is found
waits-not : (p : Process) (e : ℕ) (h : Option Head) (other : Option Oldest) → inherited_or p e h other ≡ None
    → (other ≡ None) × ((g : Head) → h ≡ Some g → g.inherited ≤ (replica_of p e).applied)
waits-not p e None other none = (none, λ g is. absurd (cc is))
waits-not p e (Some h) other none = by (nat_lt (replica_of p e).applied h.inherited) refl none where
  by : (b : Bool) → nat_lt (replica_of p e).applied h.inherited ≡ b
      → (if b then Some (record { partition = e; number = suc (replica_of p e).applied }) else other) ≡ None
      → (other ≡ None) × ((g : Head) → Some h ≡ Some g → g.inherited ≤ (replica_of p e).applied)
  by true is nothing = absurd (cc nothing)
  by false is nothing = (
    nothing,
    λ g same. let low : h.inherited ≤ (replica_of p e).applied = grind (arith, common_steps) in
        let one : h.inherited ≡ g.inherited = inherits h g same in omega (arith, low, one),
  )
    where
      inherits : (a b : Head) → Some a ≡ Some b → a.inherited ≡ b.inherited
      inherits a b e = ap (λ (o : Option Head). in_some o) e where
        in_some : Option Head → ℕ
        in_some None = 0
        in_some (Some x) = x.inherited

none-waits : (p : Process) (l n a : ℕ) → oldest_inherited p (range_with_len a n) ≡ None → a ≤ l → l < a + n → (h : Head)
    → head_at p l ≡ Some h → h.inherited ≤ (replica_of p l).applied
none-waits p l zero a none low high h heads = absurd (omega (arith, low, high))
none-waits p l (suc n) a none low high h heads =
    by (cases_eq l a) (waits-not p a (head_at p a) (oldest_inherited p (range_with_len (a + 1) n)) none)
    (λ rest above. none-waits p l n (a + 1) rest above (omega (arith, high)) h heads) where
      by : (l ≡ a) ⊎ (l ≢ a) → (oldest_inherited p (range_with_len (a + 1) n) ≡ None)
          × ((g : Head) → head_at p a ≡ Some g → g.inherited ≤ (replica_of p a).applied)
          → (oldest_inherited p (range_with_len (a + 1) n) ≡ None → a + 1 ≤ l → h.inherited ≤ (replica_of p l).applied) → h.inherited ≤ (replica_of p l).applied
      by (inl same) parts rest =
          let here = parts.1 h (ap (head_at p) (sym same) ∙ heads) in
          let one : (replica_of p a).applied ≡ (replica_of p l).applied = ap (λ (e : ℕ). (replica_of p e).applied) (sym same) in
          omega (arith, here, one)
      by (inr other) parts rest = rest parts.0 (omega (arith, low, other))

module _ (s : Dimensions) (d : ℕ) where
  still-row_finished : (b : Bool) (copy : Copy) (p : Process) → Still d p (row_finished b s copy p)
  still-row_finished true copy p = still-quiet d p _ (record { name = refl; known = refl; head = refl; rank = refl; replica = refl })
  still-row_finished false copy p = record { same = same-in-refl d p; sent = (tt, tt); quiet = refl }

  still-copy_kept : (b : Bool) (copy : Copy) (p : Process) → Still d p (copy_kept b s copy p)
  still-copy_kept true copy p =
      let q : Process = with_copies (without_copy copy.leader copy.number p.as_row.copies) p in
      still-from d p q (row_finished (same_process p.name (ParityNode copy.leader)) s copy q)
      (record { name = refl; known = refl; head = refl; rank = refl; replica = refl })
      (still-row_finished (same_process p.name (ParityNode copy.leader)) copy q)
  still-copy_kept false copy p = still-quiet d p _ (record { name = refl; known = refl; head = refl; rank = refl; replica = refl })

  pub still-copy_marked : (e n : ℕ) (copy : Option Copy) (p : Process) → Still d p (copy_marked s e n copy p)
  still-copy_marked e n None p = still-quiet d p p (same-in-refl d p)
  still-copy_marked e n (Some copy) p = still-copy_kept (is_marked s (marked e n copy)) (marked e n copy) p

  same-begun : (b : Bool) (leader number block : ℕ) (p : Process) → SameIn d p (copy_begun b s leader number block p)
  same-begun true leader number block p = same-in-refl d p
  same-begun false leader number block p = record { name = refl; known = refl; head = refl; rank = refl; replica = refl }

  pub same-begin : (leader number block : ℕ) (p : Process) → SameIn d p (begin_copy s leader number block p)
  same-begin leader number block p = same-begun (is_some (copy_in p.as_row.copies leader number)) leader number block p

  -- a mark that applies nothing of the partition
  still-taken : (leader number block e n : ℕ) (p : Process)
      → SameIn d (begin_copy s leader number block p) (apply_to s e n (begin_copy s leader number block p)) → Still d p (mark_taken s leader number block e n p)
  still-taken leader number block e n p same =
      let q : Process = apply_to s e n (begin_copy s leader number block p) in
      still-from d p q (copy_marked s e n (copy_in q.as_row.copies leader number) q) (same-in-trans (same-begin leader number block p) same)
      (still-copy_marked e n (copy_in q.as_row.copies leader number) q)

  pub still-mark : (leader number r block e n : ℕ) (p : Process) → e ≢ d → Still d p (mark_comes s leader number r block e n p)
  still-mark leader number r block e n p other =
      still-when d (accepts_mark p leader number r e) p (mark_taken s leader number block e n p)
      (still-taken leader number block e n p (same-apply s d e n (begin_copy s leader number block p) other))

  -- to apply up to the applied number is to apply nothing
  applied-self : (r : Replica) → applied_to r.applied r ≡ r
  applied-self r =
      ap (λ (z : ℕ). record {
        items = items_after r.items (take z r.log);
        applied = r.applied + length (take z r.log);
        log = drop z r.log;
        kept = kept_after r.kept (take z r.log);
      }) none
      ∙ ap (λ (z : ℕ). record { items = r.items; applied = z; log = r.log; kept = r.kept }) same
    where
      none : r.applied - r.applied ≡ 0
      none = omega arith

      same : r.applied + 0 ≡ r.applied
      same = omega arith

  -- a leader's own mark applies nothing
  still-own : (leader number block l : ℕ) (p : Process) → Still d p (own_mark s leader number block l p)
  still-own leader number block l p = by (cases_eq l d) where
    by : (l ≡ d) ⊎ (l ≢ d) → Still d p (own_mark s leader number block l p)
    by (inr other) = still-mark leader number (at 0 p.ranks l) block l (replica_of p l).applied p other
    by (inl same) =
        subst (λ (e : ℕ). Still d p (own_mark s leader number block e p)) (sym same)
        (still-when d (accepts_mark p leader number (at 0 p.ranks d) d) p (mark_taken s leader number block d (replica_of p d).applied p)
        (still-taken leader number block d (replica_of p d).applied p here))
      where
        q : Process
        q = begin_copy s leader number block p

        begun : replica_of q d ≡ replica_of p d
        begun = (same-begin leader number block p).replica

        here : SameIn d q (apply_to s d (replica_of p d).applied q)
        here = record {
          name = refl;
          known = refl;
          head = refl;
          rank = refl;
          replica = replica-apply_to s d (replica_of p d).applied q
              ∙ ap (λ (x : Replica). applied_to x.applied (replica_of q d)) (sym begun) ∙ applied-self (replica_of q d);
        }

  -- what a leader sends to start a session: marks of partitions that it heads
  module _ (p : Process) (i number block : ℕ) (leads : LeadsLost s p) (none : oldest_inherited p (range_with_len 0 s.k) ≡ None) where
    marks-told : (l : ℕ) → (l < s.k) × (knows_dead p.known (DataNode l) ≡ true) → Each (λ z. Tells d p z.to z.message) (leader_marks s i number block p l)
    marks-told l at_l =
        let head = leads l at_l.0 at_l.1 in
        each-map (λ z. Tells d p z.to z.message)
        (λ j. record { to = ParityNode j; message = tells.Mark (session_of i number) (rank (at 0 p.ranks l)) block (partition l) (replica_of p l).applied })
        (filter (λ j. not (j == i)) (rows_of s p))
        (each-all (λ j. Tells d p (ParityNode j) (tells.Mark (session_of i number) (rank (at 0 p.ranks l)) block (partition l) (replica_of p l).applied))
        (λ j here. (
          head.0,
          ap (head_at p) (sym here) ∙ head.1,
          head.2,
          let same : (replica_of p l).applied
              ≡ (replica_of p d).applied = ap (λ (e : ℕ). (replica_of p e).applied) here in omega (arith, same),
          let same : (replica_of p l).applied ≡ (replica_of p d).applied = ap (λ (e : ℕ). (replica_of p e).applied) here
              in let most = none-waits p l s.k 0 none (omega arith) (let in_group = at_l.0 in omega (arith, in_group))
              head.0 head.1 in omega (arith, same, most),
        )) (filter (λ j. not (j == i)) (rows_of s p)))

    starts-told : Each (λ z. Tells d p z.to z.message) (session_starts s i number block p)
    starts-told = each-append (λ z. Tells d p z.to z.message) (map reads (left_of s p)) (flat_map (leader_marks s i number block p) (lost_of s p))
        (each-map (λ z. Tells d p z.to z.message) reads (left_of s p) (each-all (λ e. Tells d p (reads e).to (reads e).message) (λ e. tt) (left_of s p)))
        (each-flat_map (λ z. Tells d p z.to z.message) (leader_marks s i number block p) (lost_of s p)
        (each-weaker (λ l. (l < s.k) × (knows_dead p.known (DataNode l) ≡ true))
        (λ l. Each (λ z. Tells d p z.to z.message) (leader_marks s i number block p l)) marks-told (lost_of s p)
        (each-filter (λ l. knows_dead p.known (DataNode l)) (range_with_len 0 s.k) (λ l. l < s.k) (each-below s.k))))
      where
        reads : ℕ → Sent
        reads e = record { to = DataNode e; message = tells.ReadBlock (session_of i number) block (rows_of s p) }

  still-session : (p : Process) (block : ℕ) → LeadsLost s p → oldest_inherited p (range_with_len 0 s.k) ≡ None → Still d p (start_session s block p)
  still-session p block leads none =
      let leader : ℕ = parity_number p.name in
      let number : ℕ = suc p.as_leader.last_session in
      let opened : Process = session_opened s number block p in
      let same : SameIn d p opened = record { name = refl; known = refl; head = refl; rank = refl; replica = refl } in
      still-then d p (sending (session_starts s leader number block p) opened) (for_each (lost_of s p) (own_mark s leader number block))
      (record {
        same = same;
        sent = each-weaker (λ z. Tells d p z.to z.message) (λ z. Tells d opened z.to z.message)
            (λ z may. tells-same d p opened same z.to z.message may) (session_starts s leader number block p)
            (starts-told p leader number block leads none);
        quiet = refl;
      })
      (still-each d (lost_of s p) (own_mark s leader number block) opened
      (each-all (λ l. (q : Process) → SameIn d opened q → Still d q (own_mark s leader number block l q))
      (λ l q same. still-own leader number block l q) (lost_of s p)))

  pub still-retry : (p : Process) (block : ℕ) (o : Option Oldest) → oldest_inherited p (range_with_len 0 s.k) ≡ o
      → LeadsLost s p → Still d p (retry_block s block o p).step
  still-retry p block (Some o) is leads = still-quiet d p p (same-in-refl d p)
  still-retry p block None is leads = still-when d (not (list_any (λ g. g.block == block) p.as_leader.sessions)) p
      (start_session s block p) (still-session p block leads is)

  -- sessions are closed
  pub still-close : (gs : List Gathering) (p : Process) → Still d p (close_sessions s gs p)
  still-close [] p = still-quiet d p p (same-in-refl d p)
  still-close (g ∷ gs) p = record {
    same = record { name = refl; known = refl; head = refl; rank = refl; replica = refl };
    sent = told-others s d p (close_sessions s (g ∷ gs) p).process (tells.Cease p.as_leader.last_session) (λ j. tt);
    quiet = refl;
  }
