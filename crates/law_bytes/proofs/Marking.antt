-- Marks: those that a row receives, and those that a leader makes in its own row.
use Rattle.std.proofs.lemmas.Grind.{common_steps}
use Rattle.std.proofs.Common.{ap₂, ◌≡◌, ◌==◌, ◌≢◌, ℕ, ◌+◌, ◌-◌, ◌<◌, ◌≤◌, Bool, true, false, not, List, [], ◌∷◌, length}
use Rattle.std.proofs.Common.{take, map, replicate, is_some, Option, Some, None, IfSome, ◌⊎◌, inl, inr, sym, ap, subst}
use Rattle.std.proofs.Common.{◌∙◌, refl, arith, if◌then◌else◌, option_map}
use Rattle.std.proofs.lemmas.Bool.{cases_eq, eq-eqb}
use Rattle.std.proofs.lemmas.List.{length-take-le}
use Rattle.group_types.specs.Dimensions.{Dimensions}
use Rattle.group_types.specs.Lists.{at, put}
use Rattle.group_types.specs.Names.{same_process}
use Rattle.group_types.specs.declared.process.ProcessId.{ProcessId}
use Rattle.group_types.specs.declared.process.ProcessId.TheVariants.{DataNode, ParityNode}
use Rattle.group_types.proofs.Lists.{at-put, at-put-other, at-replicate}
use Rattle.group_types.specs.Each.{Each}
use Rattle.group_types.proofs.Eaches.{each-weaker, each-both, each-all, each-map}
use Rattle.group_message.specs.declared.update.Update.{Update}
use Rattle.group_run.specs.Applying.{apply_to, block_after, bytes_after, copy_after, for_each, rebuilt_after, replica_of, when, with_replica}
use Rattle.group_run.specs.Leaders.{copy_kept, copy_marked, mark_comes, mark_taken, own_mark, rebuilt_block, row_finished}
use Rattle.group_run.specs.Process.{Copy, Process}
use Rattle.group_run.specs.Replica.{Replica, applied_to, empty_replica, up_to}
use Rattle.group_run.specs.Rows.{accepts_mark, begin_copy, copy_begun, copy_in, is_copy, is_marked, marked, new_copy, with_copies, without_copy}
use Rattle.law_bytes.specs.Held.{CopyHolds}
use Rattle.law_bytes.proofs.Premises.{GoesOn, MarkIsNew}
use Rattle.law_bytes.proofs.Applying.{Holding, applied-here, at-rebuilt}
use Rattle.law_bytes.proofs.Copies.{begun-holds, holding-same, mark-holds}
use Rattle.law_bytes.proofs.Finding.{and-join, and-split, found-exchanged, found-filter, found-passes}
use Rattle.law_bytes.proofs.Finds.{found-behind, found-map, if-some, if-weaker}
use Rattle.law_bytes.proofs.Stepping.{apply-keeps}
use Rattle.law_bytes.proofs.Values.{Concerns, Inside, inside-concerned}
use Rattle.law_bytes.specs.Areas.{SettledWrite}

-- partitions that aren't marked in a copy
abbrev pub IsOpen : List ℕ → Copy → Type 0
IsOpen xs c = Each (λ x. at None c.marks x ≡ None) xs

-- nor in the first copy of a session
abbrev pub OpenIn : ℕ → ℕ → List ℕ → List Copy → Type 0
OpenIn leader number xs cs = IfSome (copy_in cs leader number) (IsOpen xs)

eqb-eq : (a b : ℕ) → (a == b) ≡ true → a ≡ b
eqb-eq a b is = grind (arith, common_steps)

-- no updates are applied: nothing changes
pub up_to-applied : (r : Replica) → up_to r.applied r ≡ []
up_to-applied r = let none : r.applied - r.applied ≡ 0 = omega arith in ap (λ (k : ℕ). take k r.log) none

module _ (s : Dimensions) where
  pub copy-mark : (name : ProcessId) (d : ℕ) (us : List Update) (c : Copy) (P : List (Option ℕ) → Type 0) → P c.marks → P (copy_after s name d us c).marks
  copy-mark name d us c P holds = by (is_some (at None c.marks d)) where
    by : (b : Bool) → P (if b then c else record c { bytes = block_after s name d c.block us c.bytes }).marks
    by true = holds
    by false = holds

  pub copy-test : (name : ProcessId) (d : ℕ) (us : List Update) (leader number : ℕ) (c : Copy)
      → is_copy leader number (copy_after s name d us c) ≡ is_copy leader number c
  copy-test name d us leader number c = by (is_some (at None c.marks d)) where
    by : (b : Bool) → is_copy leader number (if b then c else record c { bytes = block_after s name d c.block us c.bytes }) ≡ is_copy leader number c
    by true = refl
    by false = refl

  open-applied : (name : ProcessId) (d : ℕ) (us : List Update) (leader number : ℕ) (xs : List ℕ) (cs : List Copy) → OpenIn leader number xs cs
      → OpenIn leader number xs (map (copy_after s name d us) cs)
  open-applied name d us leader number xs cs open_there = found-map (is_copy leader number) (IsOpen xs)
      (copy_after s name d us) cs (λ c. copy-test name d us leader number c)
      (λ c free. copy-mark name d us c (λ (marks : List (Option ℕ)). Each (λ x. at None marks x ≡ None) xs) free) open_there

  -- what a first mark leaves of the process
  pub begun-same : (b : Bool) (leader number block : ℕ) (p : Process)
      → ((copy_begun b s leader number block p).replicas ≡ p.replicas)
      × ((copy_begun b s leader number block p).name ≡ p.name)
  begun-same true leader number block p = (refl, refl)
  begun-same false leader number block p = (refl, refl)

  begun-open : (b : Bool) (leader number block : ℕ) (xs : List ℕ) (p : Process)
      → OpenIn leader number xs p.as_row.copies
      → OpenIn leader number xs (copy_begun b s leader number block p).as_row.copies
  begun-open true leader number block xs p open_there = open_there
  begun-open false leader number block xs p open_there = found-behind (is_copy leader number) (IsOpen xs)
      p.as_row.copies (new_copy s leader number block p.space) open_there
      (each-all (λ x. at None (replicate s.k None) x ≡ None) (λ x. at-replicate None s.k x) xs)

  pub finished-same : (own : Bool) (c : Copy) (p : Process)
      → ((row_finished own s c p).process.replicas ≡ p.replicas) × ((row_finished own s c p).process.name ≡ p.name)
      × ((row_finished own s c p).process.as_row.copies ≡ p.as_row.copies)
  finished-same true c p = (refl, refl, refl)
  finished-same false c p = (refl, refl, refl)

  pub kept-same : (whole : Bool) (c : Copy) (p : Process) → ((copy_kept whole s c p).process.replicas ≡ p.replicas)
      × ((copy_kept whole s c p).process.name ≡ p.name)
  kept-same true c p =
      let same = finished-same (same_process p.name (ParityNode c.leader)) c
      (with_copies (without_copy c.leader c.number p.as_row.copies) p) in (same.0, same.1)
  kept-same false c p = (refl, refl)

  pub marked-same : (d n : ℕ) (o : Option Copy) (p : Process) → ((copy_marked s d n o p).process.replicas ≡ p.replicas)
      × ((copy_marked s d n o p).process.name ≡ p.name)
  marked-same d n None p = (refl, refl)
  marked-same d n (Some c) p = kept-same (is_marked s (marked d n c)) (marked d n c) p

  -- the other partitions of the session stay unmarked
  kept-open : (whole : Bool) (xs : List ℕ) (c first : Copy) (p : Process) → copy_in p.as_row.copies c.leader c.number ≡ Some first → IsOpen xs c
      → OpenIn c.leader c.number xs (copy_kept whole s c p).process.as_row.copies
  kept-open true xs c first p is free =
      let q : Process = with_copies (without_copy c.leader c.number p.as_row.copies) p in
      subst (OpenIn c.leader c.number xs) (sym (finished-same (same_process p.name (ParityNode c.leader)) c q).2)
      (subst (λ (o : Option Copy). IfSome o (IsOpen xs))
      (sym (found-filter (is_copy c.leader c.number) (λ x. not (is_copy c.leader c.number x)) false p.as_row.copies
      (λ x passes. ap not passes))) tt)
  kept-open false xs c first p is free =
      let own : is_copy c.leader c.number c ≡ true = and-join (c.leader == c.leader) (c.number == c.number)
      (eq-eqb c.leader c.leader refl) (eq-eqb c.number c.number refl) in
      subst (λ (o : Option Copy). IfSome o (IsOpen xs)) (sym (found-exchanged (is_copy c.leader c.number) c first p.as_row.copies own is)) free

  marked-open : (leader number d n : ℕ) (xs : List ℕ) (p : Process) → Each (λ x. x ≢ d) xs → OpenIn leader number (d ∷ xs) p.as_row.copies
      → OpenIn leader number xs (copy_marked s d n (copy_in p.as_row.copies leader number) p).process.as_row.copies
  marked-open leader number d n xs p others open_there = by (copy_in p.as_row.copies leader number) refl where
    by : (o : Option Copy) → copy_in p.as_row.copies leader number ≡ o → OpenIn leader number xs (copy_marked s d n o p).process.as_row.copies
    by None is = subst (λ (o : Option Copy). IfSome o (IsOpen xs)) (sym is) tt
    by (Some c) is =
        let passes = and-split (c.leader == leader) (c.number == number) (found-passes (is_copy leader number) p.as_row.copies c is) in
        let leaders : c.leader ≡ leader = eqb-eq c.leader leader passes.0 in
        let numbers : c.number ≡ number = eqb-eq c.number number passes.1 in
        subst (λ (l : ℕ). OpenIn l number xs (copy_marked s d n (Some c) p).process.as_row.copies) leaders
        (subst (λ (k : ℕ). OpenIn c.leader k xs (copy_marked s d n (Some c) p).process.as_row.copies) numbers
        (kept-open (is_marked s (marked d n c)) xs (marked d n c) c p (ap₂ (λ (a b : ℕ). copy_in p.as_row.copies a b) leaders numbers ∙ is)
        (each-weaker (λ x. (x ≢ d) × (at None c.marks x ≡ None)) (λ x. at None (put None c.marks d (Some n)) x ≡ None)
        (λ x both. at-put-other None c.marks d x (Some n) both.0 ∙ both.1) xs
        (each-both (λ x. x ≢ d) (λ x. at None c.marks x ≡ None) xs others
        (if-some (IsOpen (d ∷ xs)) (copy_in p.as_row.copies leader number) c is open_there).1))))

  module _ (settled : ℕ → List Update) (old : ℕ → ℕ → Bool) where
    mapped-none : (d b : ℕ) (o : Option (List ℕ)) → option_map (block_after s (DataNode d) d b []) o ≡ o
    mapped-none d b None = refl
    mapped-none d b (Some bytes) = refl

    none-rebuilt : (d e b : ℕ) (p : Process) → (e ≡ d) ⊎ (e ≢ d) → rebuilt_block (bytes_after s d [] p).as_leader e b ≡ rebuilt_block p.as_leader e b
    none-rebuilt d e b p (inr other) = ap (λ (blocks : List (Option (List ℕ))). at None blocks b)
        (at-put-other [] p.as_leader.rebuilt d e (rebuilt_after s d [] 0 (at [] p.as_leader.rebuilt d)) other)
    none-rebuilt d e b p (inl here) =
        ap (λ (j : ℕ). rebuilt_block (bytes_after s d [] p).as_leader j b) here
        ∙ ap (λ (blocks : List (Option (List ℕ))). at None blocks b) (at-put [] [] p.as_leader.rebuilt d (rebuilt_after s d [] 0 (at [] p.as_leader.rebuilt d)))
        ∙ at-rebuilt s d [] 0 (at [] p.as_leader.rebuilt d) b ∙ mapped-none d (0 + b) (at None (at [] p.as_leader.rebuilt d) b)
        ∙ ap (λ (j : ℕ). rebuilt_block p.as_leader j b) (sym here)

    none-holds : (d : ℕ) (r : Replica) (us : List Update) (p : Process) → us ≡ [] → r.applied ≡ (replica_of p d).applied → Holding s settled old p
        → Holding s settled old (with_replica d r (bytes_after s d us p))
    none-holds d r us p none same holding =
        subst (λ (news : List Update). Holding s settled old (with_replica d r (bytes_after s d news p))) (sym none)
        (holding-same s settled old p (with_replica d r (bytes_after s d [] p)) (record {
          stand = record { name = refl; applied = λ e. applied e (cases_eq e d) };
          space = refl;
          rebuilt = λ e b. none-rebuilt d e b p (cases_eq e d);
        }) (each-map (CopyHolds s settled p) (copy_after s p.name d []) p.as_row.copies
        (each-weaker (CopyHolds s settled p) (λ c. CopyHolds s settled p (copy_after s p.name d [] c))
        (λ c holds. copy c holds (is_some (at None c.marks d))) p.as_row.copies holding.copies)) holding) where
          applied : (e : ℕ) → (e ≡ d) ⊎ (e ≢ d) → (at empty_replica (put empty_replica p.replicas d r) e).applied ≡ (replica_of p e).applied
          applied e (inr other) = ap (λ (x : Replica). x.applied) (at-put-other empty_replica p.replicas d e r other)
          applied e (inl here) =
              ap (λ (j : ℕ). (at empty_replica (put empty_replica p.replicas d r) j).applied) here
              ∙ ap (λ (x : Replica). x.applied) (at-put empty_replica empty_replica p.replicas d r) ∙ same ∙ ap (λ (j : ℕ). (replica_of p j).applied) (sym here)

          copy : (c : Copy) → CopyHolds s settled p c → (b : Bool)
              → CopyHolds s settled p (if b then c else record c { bytes = block_after s p.name d c.block [] c.bytes })
          copy c holds true = holds
          copy c holds false = record { bytes = holds.bytes; marks = holds.marks }

    -- a leader marks a partition in its own row, at the number that it has applied
    own-holds : (leader number block d : ℕ) (xs : List ℕ) (p : Process) → Inside s p.name → d < s.k
        → Each (λ x. x ≢ d) xs → OpenIn leader number (d ∷ xs) p.as_row.copies → Holding s settled old p
        → Holding s settled old (own_mark s leader number block d p).process × OpenIn leader number xs
        (own_mark s leader number block d p).process.as_row.copies × ((own_mark s leader number block d p).process.name ≡ p.name)
    own-holds leader number block d xs p inside below others all holding = by (accepts_mark p leader number (at 0 p.ranks d) d) where
      n : ℕ
      n = (replica_of p d).applied

      begun : Process
      begun = begin_copy s leader number block p

      there : Bool
      there = is_some (copy_in p.as_row.copies leader number)

      same_replica : replica_of begun d ≡ replica_of p d
      same_replica = ap (λ (rs : List Replica). at empty_replica rs d) (begun-same (is_some (copy_in p.as_row.copies leader number)) leader number block p).0

      same_name : begun.name ≡ p.name
      same_name = (begun-same (is_some (copy_in p.as_row.copies leader number)) leader number block p).1

      none : up_to n (replica_of begun d) ≡ []
      none = ap (λ (r : Replica). up_to n r) same_replica ∙ up_to-applied (replica_of p d)

      q : Process
      q = apply_to s d n begun

      q_applied : (replica_of q d).applied ≡ n
      q_applied =
          ap (λ (r : Replica). r.applied) (at-put empty_replica empty_replica begun.replicas d (applied_to n (replica_of begun d)))
          ∙ ap (λ (us : List Update). (replica_of begun d).applied + length us) none
          ∙ (let is = ap (λ (r : Replica). r.applied) same_replica in omega (arith, is))

      q_holds : Holding s settled old q
      q_holds = none-holds d (applied_to n (replica_of begun d)) (up_to n (replica_of begun d)) begun none
          (ap (λ (us : List Update). (replica_of begun d).applied + length us) none
          ∙ (let zero_more : (replica_of begun d).applied + 0 ≡ (replica_of begun d).applied = omega arith in
          zero_more))
          (begun-holds s settled old (is_some (copy_in p.as_row.copies leader number)) leader number block p holding)

      q_open : OpenIn leader number (d ∷ xs) q.as_row.copies
      q_open =
          open-applied begun.name d (up_to n (replica_of begun d)) leader number (d ∷ xs) begun.as_row.copies
          (begun-open (is_some (copy_in p.as_row.copies leader number)) leader number block (d ∷ xs) p all)

      free : IfSome (copy_in q.as_row.copies leader number) (λ c. at None c.marks d ≡ None)
      free = if-weaker (IsOpen (d ∷ xs)) (λ c. at None c.marks d ≡ None) (λ c free_all. free_all.0) (copy_in q.as_row.copies leader number) q_open

      by : (b : Bool)
          → Holding s settled old (when b p (mark_taken s leader number block d n p)).process × OpenIn leader number xs
          (when b p (mark_taken s leader number block d n p)).process.as_row.copies ×
          ((when b p (mark_taken s leader number block d n p)).process.name ≡ p.name)
      by false = (holding, if-weaker (IsOpen (d ∷ xs)) (IsOpen xs) (λ c free_all. free_all.1) (copy_in p.as_row.copies leader number) all, refl)
      by true = (
        mark-holds s settled old q leader number d n (subst (Inside s) (sym same_name) inside) below q_applied free q_holds,
        marked-open leader number d n xs q others q_open,
        (marked-same d n (copy_in q.as_row.copies leader number) q).1 ∙ same_name,
      )

    -- no number stands twice
    abbrev pub Differ : List ℕ → Type 0
    Differ [] = Unit {0}
    Differ (x ∷ xs) = Each (λ y. y ≢ x) xs × Differ xs

    pub owns-hold : (leader number block : ℕ) (xs : List ℕ) (p : Process) → Inside s p.name → Each (λ x. x < s.k) xs
        → Differ xs → OpenIn leader number xs p.as_row.copies → Holding s settled old p
        → Holding s settled old (for_each xs (own_mark s leader number block) p).process
    owns-hold leader number block [] p inside below differ all holding = holding
    owns-hold leader number block (x ∷ xs) p inside below differ all holding =
        let one = own-holds leader number block x xs p inside below.0 differ.0 all holding in
        owns-hold leader number block xs (own_mark s leader number block x p).process (subst (Inside s) (sym one.2) inside) below.1 differ.1 one.1 one.0

    -- what a row is once it has applied up to a mark's number
    pub record AtMark (p : Process) (leader number block d n : ℕ) : Type 0 where
      pub holds : Holding s settled old (apply_to s d n (begin_copy s leader number block p))
      pub applied : (replica_of (apply_to s d n (begin_copy s leader number block p)) d).applied ≡ n
      pub free : IfSome (copy_in (apply_to s d n (begin_copy s leader number block p)).as_row.copies leader number) (λ c. at None c.marks d ≡ None)
      pub name : (begin_copy s leader number block p).name ≡ p.name

    pub at-mark : (write : SettledWrite s settled) (p : Process) (leader number block d n : ℕ) → Concerns s p.name d
        → d < s.k → GoesOn (settled d) (replica_of p d) → MarkIsNew p leader number d n
        → (replica_of (apply_to s d n (begin_copy s leader number block p)) d).applied ≤ length (settled d)
        → Holding s settled old p → AtMark p leader number block d n
    at-mark write p leader number block d n concerns below goes mark last holding = record {
      holds =
          apply-keeps s settled write old begun d n here below last (subst (GoesOn (settled d)) (sym same_replica) goes)
          (begun-holds s settled old (is_some (copy_in p.as_row.copies leader number)) leader number block p holding);
      applied = q_applied;
      free = free_there;
      name = same.1;
    } where
      begun : Process
      begun = begin_copy s leader number block p

      same : (begun.replicas ≡ p.replicas) × (begun.name ≡ p.name)
      same = begun-same (is_some (copy_in p.as_row.copies leader number)) leader number block p

      same_replica : replica_of begun d ≡ replica_of p d
      same_replica = ap (λ (rs : List Replica). at empty_replica rs d) same.0

      here : Concerns s begun.name d
      here = subst (λ (name : ProcessId). Concerns s name d) (sym same.1) concerns

      q : Process
      q = apply_to s d n begun

      q_applied : (replica_of q d).applied ≡ n
      q_applied =
          let is = applied-here s settled write old begun d n here below in
          let a_is = ap (λ (x : Replica). x.applied) same_replica in
          let log_is = ap (λ (x : Replica). length x.log) same_replica in
          let above = mark.above in
          let issued = mark.issued in
          let count : length (up_to n (replica_of begun d)) ≡ n - (replica_of begun d).applied = length-take-le (n - (replica_of begun d).applied)
          (replica_of begun d).log (omega (arith, a_is, log_is, above, issued)) in
          omega (arith, is, a_is, above, count)

      begun_free : (b : Bool) → IfSome (copy_in p.as_row.copies leader number) (λ c. at None c.marks d ≡ None)
          → IfSome (copy_in (copy_begun b s leader number block p).as_row.copies leader number) (λ c. at None c.marks d ≡ None)
      begun_free true unmarked = unmarked
      begun_free false unmarked = found-behind (is_copy leader number) (λ c. at None c.marks d ≡ None) p.as_row.copies
          (new_copy s leader number block p.space) unmarked (at-replicate None s.k d)

      free_there : IfSome (copy_in q.as_row.copies leader number) (λ c. at None c.marks d ≡ None)
      free_there = found-map (is_copy leader number) (λ c. at None c.marks d ≡ None)
          (copy_after s begun.name d (up_to n (replica_of begun d))) begun.as_row.copies
          (λ c. copy-test begun.name d (up_to n (replica_of begun d)) leader number c)
          (λ c unmarked. copy-mark begun.name d (up_to n (replica_of begun d)) c (λ (marks : List (Option ℕ)). at None marks d ≡ None) unmarked)
          (begun_free (is_some (copy_in p.as_row.copies leader number)) mark.unmarked)

    -- a row takes a mark
    pub mark-received : (write : SettledWrite s settled) (p : Process) (leader number r block d n : ℕ)
        → Concerns s p.name d → d < s.k → GoesOn (settled d) (replica_of p d)
        → (accepts_mark p leader number r d ≡ true → MarkIsNew p leader number d n)
        → (replica_of (mark_comes s leader number r block d n p).process d).applied ≤ length (settled d)
        → Holding s settled old p → Holding s settled old (mark_comes s leader number r block d n p).process
    mark-received write p leader number r block d n concerns below goes new within holding = by (accepts_mark p leader number r d) new within where
      q : Process
      q = apply_to s d n (begin_copy s leader number block p)

      by : (b : Bool) → (b ≡ true → MarkIsNew p leader number d n)
          → (replica_of (when b p (mark_taken s leader number block d n p)).process d).applied ≤ length (settled d)
          → Holding s settled old (when b p (mark_taken s leader number block d n p)).process
      by false _ _ = holding
      by true is_new final =
          let last : (replica_of q d).applied ≤ length (settled d) = subst (λ (rs : List Replica). (at empty_replica rs d).applied ≤ length (settled d))
          (marked-same d n (copy_in q.as_row.copies leader number) q).0 final in
          let there : AtMark p leader number block d n = at-mark write p leader number block d n concerns below goes (is_new refl) last holding in
          mark-holds s settled old q leader number d n
          (subst (Inside s) (sym there.name) (inside-concerned s p.name d concerns)) below there.applied there.free
          there.holds
