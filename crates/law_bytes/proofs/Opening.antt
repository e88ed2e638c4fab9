-- A leader opens a session: what it sends and marks follows the plan that it begins with.
use Rattle.std.proofs.Common.{◌≡◌, ◌≢◌, ℕ, zero, suc, ◌+◌, ◌<◌, ◌≤◌, ◌==◌, Bool, true, false, not, List, [], ◌∷◌}
use Rattle.std.proofs.Common.{length, take, filter, is_some, cond, replicate, Option, Some, None, IfSome, ◌⊎◌, inl, inr}
use Rattle.std.proofs.Common.{sym, ap, ap₂, subst, ◌∙◌, refl, arith}
use Rattle.std.specs.Prelude.{Contains}
use Rattle.std.specs.List.{range_with_len}
use Rattle.std.proofs.lemmas.Bool.{cases_eq, eq-eqb}
use Rattle.group_types.specs.Dimensions.{Dimensions}
use Rattle.group_types.specs.Lists.{at, put}
use Rattle.group_types.specs.Names.{same_process}
use Rattle.group_types.specs.declared.process.ProcessId.{ProcessId}
use Rattle.group_types.specs.declared.process.ProcessId.TheVariants.{ParityNode}
use Rattle.group_types.proofs.Lists.{at-put-other, at-replicate}
use Rattle.group_types.specs.Each.{Each}
use Rattle.group_types.proofs.Eaches.{each-weaker, each-both, each-all}
use Rattle.membership.specs.Members.{knows_dead}
use Rattle.group_message.specs.declared.update.Update.{Update}
use Rattle.group_run.specs.Applying.{apply_to, copy_after, for_each, replica_of, when}
use Rattle.group_run.specs.Leaders.{copy_kept, copy_marked, lost_of, mark_comes, mark_taken, own_mark, rows_of}
use Rattle.group_run.specs.Process.{Copy, Process}
use Rattle.group_run.specs.Replica.{Replica, applied_to, empty_replica, up_to}
use Rattle.group_run.specs.Rows.{accepts_mark, begin_copy, copy_begun, copy_in, is_copy, is_marked, marked, new_copy, with_copies, without_copy}
use Rattle.erasure_code.proofs.Nodes.{Among}
use Rattle.law_bytes.proofs.Premises.{GoesOn, MarkIsNew}
use Rattle.law_bytes.proofs.Applying.{Holding}
use Rattle.law_bytes.proofs.Finding.{and-join, found-exchanged, found-filter, found-passes}
use Rattle.law_bytes.proofs.Finds.{found-behind, found-map, if-some, if-weaker}
use Rattle.law_bytes.proofs.Marking.{IsOpen, OpenIn, begun-same, copy-mark, copy-test, finished-same, marked-same, owns-hold}
use Rattle.law_bytes.proofs.Rising.{Differ, among-contains}
use Rattle.law_bytes.proofs.Values.{Concerns, Inside}
use Rattle.law_bytes.proofs.Local.{copy-parts}
use Rattle.law_bytes.proofs.Stamps.{AmongRows, Plan}
use Rattle.law_bytes.proofs.Following.{Passes, passes-self, passes-then}
use Rattle.law_bytes.proofs.Receiving.{mark-passes}
use Rattle.law_bytes.specs.Areas.{SettledWrite}

-- the plan that a leader begins a session with
abbrev pub opening_plan : Dimensions → ℕ → Process → Plan
opening_plan s block p = record { block = block; rows = rows_of s p; numbers = λ e. (replica_of p e).applied }

-- who is the first to pass stands in front
first-passes : (f : ℕ → Bool) (i a c : ℕ) → a ≤ i → i < a + c → ((j : ℕ) → a ≤ j → j < i → f j ≡ false) → f i ≡ true
    → (xs : List ℕ) × (filter f (range_with_len a c) ≡ i ∷ xs)
first-passes f i a zero low high none passes = absurd (omega (arith, low, high))
first-passes f i a (suc c) low high none passes =
    by (cases_eq a i) (λ next. first-passes f i (a + 1) c next (omega (arith, high))
    (λ j lower below. none j (omega (arith, lower)) below) passes) where
      by : (a ≡ i) ⊎ (a ≢ i) → (a + 1 ≤ i → (xs : List ℕ) × (filter f (range_with_len (a + 1) c) ≡ i ∷ xs))
          → (xs : List ℕ) × (cond (f a) (a ∷ filter f (range_with_len (a + 1) c)) (filter f (range_with_len (a + 1) c)) ≡ i ∷ xs)
      by (inl same) later = (
        filter f (range_with_len (a + 1) c),
        ap (λ (b : Bool). cond b (a ∷ filter f (range_with_len (a + 1) c)) (filter f (range_with_len (a + 1) c)))
            (ap f same ∙ passes) ∙ ap (λ (j : ℕ). j ∷ filter f (range_with_len (a + 1) c)) same,
      )
      by (inr other) later =
          let rest = later (omega (arith, low, other)) in (
            rest.0,
            ap (λ (b : Bool). cond b (a ∷ filter f (range_with_len (a + 1) c)) (filter f (range_with_len (a + 1) c)))
                (none a (omega arith) (omega (arith, low, other))) ∙ rest.1,
          )

-- a leader that heads a partition is the first of its rows, where it knows of a lost partition
pub leads-rows : (s : Dimensions) (p : Process) (i : ℕ) → i < s.m
    → ((j : ℕ) → j < i → knows_dead p.known (ParityNode j) ≡ true) → knows_dead p.known (ParityNode i) ≡ false
    → (e : ℕ) → Among e (lost_of s p) → Contains (rows_of s p) i
leads-rows s p i inside lower living e lost = among-contains (rows_of s p) i (by (lost_of s p) lost) where
  f : ℕ → Bool
  f j = not (knows_dead p.known (ParityNode j))

  first : (xs : List ℕ) × (filter (λ j. not (knows_dead p.known (ParityNode j))) (range_with_len 0 s.m) ≡ i ∷ xs)
  first = first-passes (λ j. not (knows_dead p.known (ParityNode j))) i 0 s.m (omega arith) (omega (arith, inside))
      (λ j low below. ap not (lower j below)) (ap not living)

  by : (ls : List ℕ) → Among e ls → Among i (take (length ls) (filter (λ j. not (knows_dead p.known (ParityNode j))) (range_with_len 0 s.m)))
  by [] there = absurd there
  by (x ∷ ls) there = subst (λ (xs : List ℕ). Among i (take (suc (length ls)) xs)) (sym first.1) (inl refl)

-- the other partitions of a session stay unmarked where one is marked
module _ (s : Dimensions) (leader number d k : ℕ) (xs : List ℕ) (others : Each (λ x. x ≢ d) xs) where
  open-kept : (whole : Bool) (c first : Copy) (q : Process) → copy_in q.as_row.copies c.leader c.number ≡ Some first → IsOpen xs c
      → OpenIn c.leader c.number xs (copy_kept whole s c q).process.as_row.copies
  open-kept true c first q is free =
      let ended : Process = with_copies (without_copy c.leader c.number q.as_row.copies) q in
      subst (OpenIn c.leader c.number xs) (sym (finished-same s (same_process q.name (ParityNode c.leader)) c ended).2)
      (subst (λ (o : Option Copy). IfSome o (IsOpen xs))
      (sym (found-filter (is_copy c.leader c.number) (λ x. not (is_copy c.leader c.number x)) false q.as_row.copies
      (λ x passes. ap not passes))) tt)
  open-kept false c first q is free =
      let own : is_copy c.leader c.number c ≡ true = and-join (c.leader == c.leader) (c.number == c.number)
      (eq-eqb c.leader c.leader refl) (eq-eqb c.number c.number refl) in
      subst (λ (o : Option Copy). IfSome o (IsOpen xs)) (sym (found-exchanged (is_copy c.leader c.number) c first q.as_row.copies own is)) free

  open-marked : (q : Process) (o : Option Copy) → copy_in q.as_row.copies leader number ≡ o → OpenIn leader number (d ∷ xs) q.as_row.copies
      → OpenIn leader number xs (copy_marked s d k o q).process.as_row.copies
  open-marked q None is free = subst (λ (o : Option Copy). IfSome o (IsOpen xs)) (sym is) tt
  open-marked q (Some c) is free =
      let parts = copy-parts leader number c (found-passes (is_copy leader number) q.as_row.copies c is) in
      subst (λ (a : ℕ). OpenIn a number xs (copy_marked s d k (Some c) q).process.as_row.copies) parts.0
      (subst (λ (a : ℕ). OpenIn c.leader a xs (copy_marked s d k (Some c) q).process.as_row.copies) parts.1
      (open-kept (is_marked s (marked d k c)) (marked d k c) c q (ap₂ (λ (a b : ℕ). copy_in q.as_row.copies a b) parts.0 parts.1 ∙ is)
      (each-weaker (λ x. (x ≢ d) × (at None c.marks x ≡ None)) (λ x. at None (put None c.marks d (Some k)) x ≡ None)
      (λ x both. at-put-other None c.marks d x (Some k) both.0 ∙ both.1) xs
      (each-both (λ x. x ≢ d) (λ x. at None c.marks x ≡ None) xs others (if-some (IsOpen (d ∷ xs)) (copy_in q.as_row.copies leader number) c is free).1))))

  open-begun : (b : Bool) (block : ℕ) (p : Process) → OpenIn leader number (d ∷ xs) p.as_row.copies
      → OpenIn leader number (d ∷ xs) (copy_begun b s leader number block p).as_row.copies
  open-begun true block p free = free
  open-begun false block p free = found-behind (is_copy leader number) (IsOpen (d ∷ xs)) p.as_row.copies (new_copy s leader number block p.space) free
      (each-all (λ x. at None (replicate s.k None) x ≡ None) (λ x. at-replicate None s.k x) (d ∷ xs))

  open-taken : (block : ℕ) (p : Process) → OpenIn leader number (d ∷ xs) p.as_row.copies
      → OpenIn leader number xs (mark_taken s leader number block d k p).process.as_row.copies
  open-taken block p free =
      let begun : Process = begin_copy s leader number block p in
      let us : List Update = up_to k (replica_of begun d) in
      open-marked (apply_to s d k begun) (copy_in (apply_to s d k begun).as_row.copies leader number) refl
      (found-map (is_copy leader number) (IsOpen (d ∷ xs)) (copy_after s begun.name d us) begun.as_row.copies (λ c. copy-test s begun.name d us leader number c)
      (λ c free_all. copy-mark s begun.name d us c (λ (marks : List (Option ℕ)). Each (λ x. at None marks x ≡ None) (d ∷ xs)) free_all)
      (open-begun (is_some (copy_in p.as_row.copies leader number)) block p free))

  pub open-own : (block r : ℕ) (p : Process) → OpenIn leader number (d ∷ xs) p.as_row.copies
      → OpenIn leader number xs (mark_comes s leader number r block d k p).process.as_row.copies
  open-own block r p free = by (accepts_mark p leader number r d) where
    by : (b : Bool) → OpenIn leader number xs (when b p (mark_taken s leader number block d k p)).process.as_row.copies
    by true = open-taken block p free
    by false = if-weaker (IsOpen (d ∷ xs)) (IsOpen xs) (λ c free_all. free_all.1) (copy_in p.as_row.copies leader number) free

module _ (s : Dimensions) (settled : ℕ → List Update) (l n : ℕ) (plan : Plan) (write : SettledWrite s settled) (old : ℕ → ℕ → Bool) where
  -- a replica of another partition stays where one is marked
  pub other-replica : (p : Process) (leader number block d e : ℕ) → e ≢ d → replica_of (own_mark s leader number block d p).process e ≡ replica_of p e
  other-replica p leader number block d e other = by (accepts_mark p leader number (at 0 p.ranks d) d) where
    q : Process
    q = apply_to s d (replica_of p d).applied (begin_copy s leader number block p)

    by : (b : Bool) → replica_of (when b p (mark_taken s leader number block d (replica_of p d).applied p)).process e ≡ replica_of p e
    by false = refl
    by true =
        ap (λ (rs : List Replica). at empty_replica rs e)
        (marked-same s d (replica_of p d).applied
        (copy_in (apply_to s d (replica_of p d).applied (begin_copy s leader number block p)).as_row.copies leader
        number) (apply_to s d (replica_of p d).applied (begin_copy s leader number block p))).0
        ∙ at-put-other empty_replica (begin_copy s leader number block p).replicas d e
        (applied_to (replica_of p d).applied (replica_of (begin_copy s leader number block p) d)) other
        ∙ ap (λ (rs : List Replica). at empty_replica rs e) (begun-same s _ leader number block p).0

  -- the leader's marks in its own row
  module _ (p : Process) (i number block : ℕ) (goes : (d : ℕ) → d < s.k → GoesOn (settled d) (replica_of p d)) where
    pub owns-pass : (xs : List ℕ) (z : Process) → z.name ≡ ParityNode i → Each (λ d. d < s.k) xs → Differ xs
        → OpenIn i number xs z.as_row.copies → Each (λ d. replica_of z d ≡ replica_of p d) xs
        → (i ≡ l → number ≡ n → Each (λ d. (block ≡ plan.block) × ((replica_of p d).applied ≡ plan.numbers d) × Contains plan.rows i) xs)
        → Holding s settled old z → Passes s settled l n plan z (for_each xs (own_mark s i number block) z)
    owns-pass [] z name below differ unmarked same fits holding = passes-self s settled l n plan z
    owns-pass (d ∷ xs) z name below differ unmarked same fits holding =
        let after : Holding s settled old (own_mark s i number block d z).process =
        owns-hold s settled old i number block (d ∷ []) z inside (below.0, tt) (tt, tt) one_open holding in
        let passes_one : Passes s settled l n plan z (own_mark s i number block d z) = mark-passes s settled l n plan write old z i number
        (at 0 z.ranks d) block d (replica_of z d).applied concerns below.0 fit
        (subst (GoesOn (settled d)) (sym same.0) (goes d below.0)) (λ is. new) (after.within d below.0) holding in
        passes-then s settled l n plan z (own_mark s i number block d z) (for_each xs (own_mark s i number block)) passes_one
        (owns-pass xs (own_mark s i number block d z).process (passes_one.name ∙ name) below.1 differ.1
        (open-own s i number d (replica_of z d).applied xs differ.0 block (at 0 z.ranks d) z unmarked)
        (each-weaker (λ e. (e ≢ d) × (replica_of z e ≡ replica_of p e))
        (λ e. replica_of (own_mark s i number block d z).process e ≡ replica_of p e)
        (λ e both. other-replica z i number block d e both.0 ∙ both.1) xs
        (each-both (λ e. e ≢ d) (λ e. replica_of z e ≡ replica_of p e) xs differ.0 same.1))
        (λ leads numbers. (fits leads numbers).1) after)
      where
        one_open : OpenIn i number (d ∷ []) z.as_row.copies
        one_open = if-weaker (IsOpen (d ∷ xs)) (IsOpen (d ∷ [])) (λ c free. (free.0, tt)) (copy_in z.as_row.copies i number) unmarked

        inside : Inside s z.name
        inside = subst (Inside s) (sym name) tt

        concerns : Concerns s z.name d
        concerns = subst (λ (x : ProcessId). Concerns s x d) (sym name) below.0

        fit : i ≡ l → number ≡ n → (block ≡ plan.block) × ((replica_of z d).applied ≡ plan.numbers d) × AmongRows plan.rows z.name
        fit leads numbers =
            let all = (fits leads numbers).0 in
            (all.0, ap (λ (r : Replica). r.applied) same.0 ∙ all.1, subst (AmongRows plan.rows) (sym name) all.2)

        new : MarkIsNew z i number d (replica_of z d).applied
        new = record {
          above = omega arith;
          issued = omega arith;
          unmarked = if-weaker (IsOpen (d ∷ xs)) (λ c. at None c.marks d ≡ None) (λ c free. free.0) (copy_in z.as_row.copies i number) unmarked;
        }
