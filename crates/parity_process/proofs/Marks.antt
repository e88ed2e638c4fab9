-- A leader's marks in its own row, one by one.
use Rattle.std.proofs.Common.{ℕ, zero, suc, ◌≡◌, ◌≢◌, ◌+◌, ◌<◌, ◌≤◌, ◌==◌, nat_lt, Bool, true, false, not, ◌&&◌, cond}
use Rattle.std.proofs.Common.{List, [], ◌∷◌, drop, length, map, get_or, is_some, Option, Some, None, IfSome, All}
use Rattle.std.proofs.Common.{if◌then◌else◌, refl, sym, ap, ap₂, subst, ◌∙◌, ◌⊎◌, inl, inr, add-one, arith}
use Rattle.std.proofs.lemmas.Bool.{cases_eq}
use Rattle.std.specs.Prelude.{⊤}
use Rattle.std.proofs.Math.Seq.{drop-cons}
use Rattle.std.proofs.lemmas.Grind.{common_steps}
use Rattle.std.proofs.lemmas.List.Elements.{All-tail}
use Rattle.std.specs.List.{list_all, range_with_len}
use Rattle.group_types.specs.Dimensions.{Dimensions}
use Rattle.group_types.specs.Lists.{at}
use Rattle.group_types.proofs.Lists.{at-put-other}
use Rattle.group_types.specs.declared.process.ProcessId.{ProcessId}
use Rattle.group_types.specs.declared.process.ProcessId.TheVariants.{ParityNode}
use Rattle.membership.specs.Members.{knows_dead}
use Rattle.group_message.specs.declared.update.Update.{Update}
use Rattle.group_run.specs.Applying.{ProcessStep, and_then, apply_to, block_after, copy_after, for_each, quiet, replica_of, when}
use Rattle.group_run.specs.Leaders.{copy_kept, copy_marked, mark_taken, own_mark}
use Rattle.group_run.specs.Process.{Copy, Process}
use Rattle.group_run.specs.Replica.{up_to}
use Rattle.group_run.specs.Rows.{accepts_mark, copy_begun, copy_in, is_copy, is_marked, marked, with_copies, with_copy}
use Rattle.row_copies.specs.Row.{kept_until, marking}
use Rattle.parity_process.specs.Marking.{copy_taken}
use Rattle.parity_process.specs.Opening.{AreMarkable, AreUnmarked}

not-all : (f : ℕ → Bool) (n a e : ℕ) → a ≤ e → e < a + n → f e ≡ false → list_all f (range_with_len a n) ≡ false
not-all f zero a e low high fails = absurd (omega (arith, low, high))
not-all f (suc n) a e low high fails = by (cases_eq a e) (λ other. not-all f n (a + 1) e (omega (arith, low, other)) (omega (arith, high)) fails) where
  behind : (b : Bool) → (b && false) ≡ false
  behind true = refl
  behind false = refl

  by : (a ≡ e) ⊎ (a ≢ e) → (a ≢ e → list_all f (range_with_len (a + 1) n) ≡ false) → list_all f (range_with_len a (suc n)) ≡ false
  by (inl same) later = ap (λ (b : Bool). b && list_all f (range_with_len (a + 1) n)) (ap f same ∙ fails)
  by (inr other) later = ap (λ (b : Bool). f a && b) (later other) ∙ behind (f a)

-- the first of those that are left
pub next-left : (xs : List ℕ) (i : ℕ) → i < length xs → drop i xs ≡ get_or xs i 0 ∷ drop (i + 1) xs
next-left xs i within = rw add-one (drop-cons xs i 0 within)

-- what keeps each copy's session keeps the copy that is found
found-map : (f : Copy → Copy) (leader number : ℕ) → ((c : Copy) → is_copy leader number (f c) ≡ is_copy leader number c) → (cs : List Copy) (c : Copy)
    → copy_in cs leader number ≡ Some c → copy_in (map f cs) leader number ≡ Some (f c)
found-map f leader number keeps [] c found = absurd (cc found)
found-map f leader number keeps (x ∷ xs) c found =
    by (is_copy leader number x) (keeps x) found (found-map f leader number keeps xs c)
  where
    by : (b : Bool) → is_copy leader number (f x) ≡ b → cond b (Some x) (copy_in xs leader number) ≡ Some c
        → (copy_in xs leader number ≡ Some c → copy_in (map f xs) leader number ≡ Some (f c))
        → cond (is_copy leader number (f x)) (Some (f x)) (copy_in (map f xs) leader number) ≡ Some (f c)
    by true same here later =
        let first : x ≡ c = cc here in
        ap (λ (t : Bool). cond t (Some (f x)) (copy_in (map f xs) leader number)) same ∙ ap (λ (y : Copy). Some (f y)) first
    by false same there later =
        ap (λ (t : Bool). cond t (Some (f x)) (copy_in (map f xs) leader number)) same ∙ later there

-- the copy that is found is of the session
found-of : (leader number : ℕ) (cs : List Copy) (c : Copy) → copy_in cs leader number ≡ Some c → is_copy leader number c ≡ true
found-of leader number [] c found = absurd (cc found)
found-of leader number (x ∷ xs) c found = by (is_copy leader number x) refl found (found-of leader number xs c) where
  by : (b : Bool) → is_copy leader number x ≡ b → cond b (Some x) (copy_in xs leader number) ≡ Some c
      → (copy_in xs leader number ≡ Some c → is_copy leader number c ≡ true)
      → is_copy leader number c ≡ true
  by true is here later = let first : x ≡ c = cc here in ap (is_copy leader number) (sym first) ∙ is
  by false is there later = later there

-- a copy in the place of the one that is found
found-again : (leader number : ℕ) (m : Copy) → is_copy leader number m ≡ true → (cs : List Copy) (c : Copy) → copy_in cs leader number ≡ Some c
    → copy_in (map (λ x. if is_copy leader number x then m else x) cs) leader number ≡ Some m
found-again leader number m own [] c found = absurd (cc found)
found-again leader number m own (x ∷ xs) c found = by (is_copy leader number x) refl found (found-again leader number m own xs c) where
  by : (b : Bool) → is_copy leader number x ≡ b → cond b (Some x) (copy_in xs leader number) ≡ Some c
      → (copy_in xs leader number ≡ Some c → copy_in (map (λ y. if is_copy leader number y then m else y) xs) leader
      number ≡ Some m)
      → copy_in ((if b then m else x) ∷ map (λ y. if is_copy leader number y then m else y) xs) leader number ≡ Some m
  by true is here later = ap (λ (t : Bool). cond t (Some m) (copy_in (map (λ y. if is_copy leader number y then m else y) xs) leader number)) own
  by false is there later = ap (λ (t : Bool). cond t (Some x) (copy_in (map (λ y. if is_copy leader number y then m else y) xs) leader number)) is ∙ later there

-- a copy that is handed out is of the session
pub handed-of : (s : Dimensions) (d n leader number : ℕ) (cs : List Copy) (result : Option Copy) → result ≡ (marking s d n (copy_in cs leader number) cs).done
    → IfSome result (λ c. c.leader ≡ leader)
handed-of s d n leader number cs result is = subst (λ (o : Option Copy). IfSome o (λ c. c.leader ≡ leader)) (sym is) (by (copy_in cs leader number) refl) where
  kept : (b : Bool) (m : Copy) → m.leader ≡ leader → IfSome (kept_until b m cs).done (λ c. c.leader ≡ leader)
  kept true m own = own
  kept false m own = tt

  by : (o : Option Copy) → copy_in cs leader number ≡ o → IfSome (marking s d n o cs).done (λ c. c.leader ≡ leader)
  by None found = tt
  by (Some c) found =
      let own : is_copy leader number c ≡ true = found-of leader number cs c found in
      kept (is_marked s (marked d n c)) (marked d n c) (grind (arith, common_steps))

applied-keeps : (s : Dimensions) (name : ProcessId) (d : ℕ) (us : List Update) (leader number : ℕ) (c : Copy)
    → is_copy leader number (copy_after s name d us c) ≡ is_copy leader number c
applied-keeps s name d us leader number c = by (is_some (at None c.marks d)) where
  by : (b : Bool) → is_copy leader number (if b then c else record c { bytes = block_after s name d c.block us c.bytes }) ≡ is_copy leader number c
  by true = refl
  by false = refl

applied-marks : (s : Dimensions) (name : ProcessId) (d : ℕ) (us : List Update) (c : Copy) → (copy_after s name d us c).marks ≡ c.marks
applied-marks s name d us c = by (is_some (at None c.marks d)) where
  by : (b : Bool) → (if b then c else record c { bytes = block_after s name d c.block us c.bytes }).marks ≡ c.marks
  by true = refl
  by false = refl

module _ (s : Dimensions) (leader number block : ℕ) where
  abbrev mark : ℕ → Process → ProcessStep
  mark = own_mark s leader number block

  -- what a mark makes of a row that takes it and has a copy for its session
  pub mark-taken : (d : ℕ) (p : Process) → accepts_mark p leader number (at 0 p.ranks d) d ≡ true → is_some (copy_in p.as_row.copies leader number) ≡ true
      → mark d p ≡ copy_taken s leader number d (replica_of p d).applied p
  mark-taken d p takes there =
      ap (λ (b : Bool). when b p (mark_taken s leader number block d (replica_of p d).applied p)) takes
      ∙ ap (λ (b : Bool). copy_taken s leader number d (replica_of p d).applied (copy_begun b s leader number block p)) there

  pub takes-own : (d : ℕ) (p : Process) → knows_dead p.known (ParityNode leader) ≡ false → at 0 p.as_row.ceased leader < number
      → accepts_mark p leader number (at 0 p.ranks d) d ≡ true
  takes-own d p living accepted =
      let later : nat_lt (at 0 p.as_row.ceased leader) number ≡ true = grind (arith, common_steps) in
      let same : (at 0 p.ranks d == at 0 p.ranks d) ≡ true = grind (arith, common_steps) in
      ap (λ (b : Bool). b && not (knows_dead p.known (ParityNode leader)) && nat_lt (at 0 p.as_row.ceased leader) number) same
      ∙ ap (λ (b : Bool). not b && nat_lt (at 0 p.as_row.ceased leader) number) living ∙ later

  never : (a b : Bool) → (a && b && false) ≡ false
  never true true = refl
  never true false = refl
  never false true = refl
  never false false = refl

  -- a row that ceased the session takes no mark
  refused : (e : ℕ) (q : Process) → nat_lt (at 0 q.as_row.ceased leader) number ≡ false → mark e q ≡ quiet q
  refused e q none =
      let same : Bool = at 0 q.ranks e == at 0 q.ranks e in
      let living : Bool = not (knows_dead q.known (ParityNode leader)) in
      ap (λ (b : Bool). when b q (mark_taken s leader number block e (replica_of q e).applied q))
      (ap (λ (b : Bool). same && living && b) none ∙ never same living)

  pub none-marked : (es : List ℕ) (q : Process) → nat_lt (at 0 q.as_row.ceased leader) number ≡ false → for_each es mark q ≡ quiet q
  none-marked [] q none = refl
  none-marked (e ∷ es) q none = ap (λ (step : ProcessStep). and_then step (for_each es mark)) (refused e q none) ∙ none-marked es q none

  -- where partitions are left to be marked, the copy waits for them
  abbrev pub AreLeft : List ℕ → Process → Type 0
  AreLeft [] p = ⊤
  AreLeft (d ∷ ds) p = AreMarkable s leader number block (d ∷ ds) p

  pub all-left : (ds : List ℕ) (p : Process) → AreMarkable s leader number block ds p → AreLeft ds p
  all-left [] p markable = tt
  all-left (d ∷ ds) p markable = markable

  pub copy-there : (d : ℕ) (ds : List ℕ) (o : Option Copy) → AreUnmarked (d ∷ ds) o → is_some o ≡ true
  copy-there d ds None none = absurd none
  copy-there d ds (Some c) none = refl

  -- with one of them marked, the copy waits for the others
  waits : (d e : ℕ) (es : List ℕ) (n : ℕ) (p : Process) (c : Copy) → AreMarkable s leader number block (d ∷ e ∷ es) p
      → copy_in p.as_row.copies leader number ≡ Some c
      → All (λ x. at None c.marks x ≡ None) (d ∷ e ∷ es) → AreMarkable s leader number block (e ∷ es) (copy_taken s leader number d n p).process
  waits d e es n p c markable found none =
      let us : List Update = up_to n (replica_of p d) in
      let q : Process = apply_to s d n p in
      let c2 : Copy = copy_after s p.name d us c in
      let m : Copy = marked d n c2 in
      let later : copy_in q.as_row.copies leader number ≡ Some c2
      = found-map (copy_after s p.name d us) leader number (applied-keeps s p.name d us leader number) p.as_row.copies c found in
      let marks : c2.marks ≡ c.marks = applied-marks s p.name d us c in
      let rest : All (λ x. at None m.marks x ≡ None) (e ∷ es) = λ i x within.
      let apart = markable.differ 0 (suc i) x (omega arith) (omega (arith, within)) in
      at-put-other None c2.marks d (get_or (e ∷ es) i x) (Some n) (λ same. omega (arith, apart, same))
      ∙ ap (λ (xs : List (Option ℕ)). at None xs (get_or (e ∷ es) i x)) marks ∙ none (suc i) x (omega (arith, within)) in
      let inside : e < s.k = markable.below 1 0 (omega arith) in
      let open_yet : is_marked s m ≡ false
      = not-all (λ x. is_some (at None m.marks x)) s.k 0 e (omega arith) (omega (arith, inside)) (ap is_some (rest 0 0 (omega arith))) in
      let is : copy_taken s leader number d n p ≡ quiet (with_copies (with_copy m q.as_row.copies) q)
      = ap (λ (o : Option Copy). copy_marked s d n o q) later ∙ ap (λ (b : Bool). copy_kept b s m q) open_yet in
      let own : is_copy leader number m ≡ true = applied-keeps s p.name d us leader number c ∙ found-of leader number p.as_row.copies c found in
      subst (λ (step : ProcessStep). AreMarkable s leader number block (e ∷ es) step.process) (sym is) (record {
        name = markable.name;
        living = markable.living;
        accepted = markable.accepted;
        below = All-tail (λ x. x < s.k) d (e ∷ es) markable.below;
        differ = λ i j x less within. markable.differ (suc i) (suc j) x (omega (arith, less)) (omega (arith, within));
        unmarked = subst (AreUnmarked (e ∷ es)) (sym (again m q.as_row.copies c2 own later)) rest;
        own = markable.own;
      })
    where
      again : (m : Copy) (cs : List Copy) (c : Copy) → is_copy leader number m ≡ true → copy_in cs leader number
          ≡ Some c → copy_in (with_copy m cs) leader number ≡ Some m
      again m cs c own found =
          let of_leader : m.leader ≡ leader = grind (arith, common_steps) in
          let of_number : m.number ≡ number = grind (arith, common_steps) in
          ap₂ (λ l n. copy_in (map (λ x. if is_copy l n x then m else x) cs) leader number) of_leader of_number ∙ found-again leader number m own cs c found

  pub left-next : (d : ℕ) (ds : List ℕ) (p : Process) → AreMarkable s leader number block (d ∷ ds) p → AreLeft ds (mark d p).process
  left-next d [] p markable = tt
  left-next d (e ∷ es) p markable = by (copy_in p.as_row.copies leader number) refl markable.unmarked where
    by : (o : Option Copy) → copy_in p.as_row.copies leader number ≡ o → AreUnmarked (d ∷ e ∷ es) o
        → AreMarkable s leader number block (e ∷ es) (mark d p).process
    by None found none = absurd none
    by (Some c) found none =
        subst (λ (step : ProcessStep). AreMarkable s leader number block (e ∷ es) step.process)
        (sym (mark-taken d p (takes-own d p markable.living markable.accepted) (ap is_some found)))
        (waits d e es (replica_of p d).applied p c markable found none)

  -- a step that sends and settles nothing, and then others
  pub each-quiet : (d : ℕ) (ds : List ℕ) (p q : Process) → mark d p ≡ quiet q → for_each (d ∷ ds) mark p ≡ for_each ds mark q
  each-quiet d ds p q is = ap (λ (step : ProcessStep). and_then step (for_each ds mark)) is
