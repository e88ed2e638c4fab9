-- A process that takes a mark, a row, a block or a question: a session's tokens pass through it.
use Rattle.std.proofs.Common.{◌≡◌, ◌≢◌, ℕ, ◌+◌, ◌<◌, ◌≤◌, ◌==◌, ◌&&◌, Bool, true, false, not, List, [], ◌∷◌, ◌++◌}
use Rattle.std.proofs.Common.{is_some, Option, Some, None, ◌⊎◌, inl, inr, sym, ap, ap₂, subst, ◌∙◌, refl, arith}
use Rattle.std.proofs.Common.{if◌then◌else◌}
use Rattle.std.proofs.lemmas.Bool.{cases_eq, eq-eqb}
use Rattle.std.proofs.lemmas.Grind.{common_steps}
use Rattle.std.specs.List.{range_with_len}
use Rattle.group_types.specs.Dimensions.{Dimensions}
use Rattle.group_types.specs.Lists.{at, put}
use Rattle.group_types.specs.Names.{same_process}
use Rattle.group_types.specs.declared.process.ProcessId.{ProcessId}
use Rattle.group_types.specs.declared.process.ProcessId.TheVariants.{ParityNode}
use Rattle.group_types.proofs.Lists.{at-put-other, at-replicate}
use Rattle.group_types.proofs.Names.{same-eq}
use Rattle.group_run.specs.Applying.{apply_to, quiet}
use Rattle.group_run.specs.Leaders.{copy_kept, copy_marked, mark_comes, mark_taken, open_session, row_comes, row_finished, row_gathered}
use Rattle.group_run.specs.Process.{Copy, Process}
use Rattle.group_run.specs.Rows.{accepts_mark, begin_copy, copy_begun, copy_in, is_copy, is_marked, marked, new_copy, with_copies, with_copy, without_copy}
use Rattle.law_bytes.proofs.Rising.{all-among, among-range}
use Rattle.law_bytes.proofs.Tokens.{Own, Row, Token, Way, in_copy, in_session, is_kept_in, is_marked_in, marks_way, one_if, row_way}
use Rattle.law_bytes.proofs.Finding.{and-join, and-split, found-apart, found-behind, found-exchanged, found-filter, found-passes, true-false}
use Rattle.law_bytes.proofs.Local.{Fewer, Gains, bit-or, copy-less, copy-parts, fewer-apply, fewer-self, fewer-trans}
use Rattle.law_bytes.proofs.Local.{gains-fewer, gains-from, gains-more, gains-when}
use Rattle.law_bytes.proofs.Marks.{bits-kept, bits-marked, bits-pass, row-kept, row-last, same_session, session-cases, session-is, session-true}

mark-there : (marks : List (Option ℕ)) (e d n : ℕ) → is_some (at None (put None marks e (Some n)) d) ≡ true → (is_some (at None marks d) ≡ true) ⊎ (e ≡ d)
mark-there marks e d n is = by (cases_eq d e) where
  by : (d ≡ e) ⊎ (d ≢ e) → (is_some (at None marks d) ≡ true) ⊎ (e ≡ d)
  by (inl same) = inr (sym same)
  by (inr other) = inl (ap is_some (sym (at-put-other None marks e d (Some n) other)) ∙ is)

-- what is marked is told by the name and the copies
pub copy-alike : (t : Token) (w : Way) (p q : Process) → q.name ≡ p.name → q.as_row.copies ≡ p.as_row.copies → in_copy t w q ≡ in_copy t w p
copy-alike t Own p q name copies = refl
copy-alike t (Row r) p q name copies =
    ap₂ (λ (x : ProcessId) (cs : List Copy). same_process x (ParityNode r) && is_marked_in t.partition
    (copy_in cs t.leader t.number)) name copies

module _ (s : Dimensions) (t : Token) where
  -- a copy that is begun has no mark
  fewer-begun : (b : Bool) (l n block : ℕ) (p : Process) → Fewer t p (copy_begun b s l n block p)
  fewer-begun true l n block p = fewer-self t p
  fewer-begun false l n block p =
      record {
        name = refl;
        marked = λ is.
            by is (found-behind (is_copy t.leader t.number) p.as_row.copies (new_copy s l n block p.space));
        kept =
            λ is. is;
        last = omega arith;
      } where
        none : is_marked_in t.partition (Some (new_copy s l n block p.space)) ≡ false
        none = ap is_some (at-replicate None s.k t.partition)

        by : is_marked_in t.partition (copy_in (p.as_row.copies ++ new_copy s l n block p.space ∷ []) t.leader t.number) ≡ true
            → (copy_in (p.as_row.copies ++ new_copy s l n block p.space ∷ []) t.leader t.number ≡ copy_in p.as_row.copies t.leader t.number)
            ⊎ ((copy_in p.as_row.copies t.leader t.number ≡ None)
            × (copy_in (p.as_row.copies ++ new_copy s l n block p.space ∷ []) t.leader t.number
            ≡ Some (new_copy s l n block p.space)))
            → is_marked_in t.partition (copy_in p.as_row.copies t.leader t.number) ≡ true
        by is (inl same) = ap (is_marked_in t.partition) (sym same) ∙ is
        by is (inr both) = absurd (cc (sym is ∙ ap (is_marked_in t.partition) both.1 ∙ none))

  -- a partition e is marked at n in the copy c, the first of its session
  module _ (q : Process) (c : Copy) (e n : ℕ) (below : t.partition < s.k) (first : copy_in q.as_row.copies c.leader c.number ≡ Some c) where
    -- the mark, and the row that may go
    comes : Way → Bool
    comes w = same_session t c.leader c.number && marks_way w t.partition e q.name

    goes : Way → Bool
    goes w = same_session t c.leader c.number && row_way w q.name

    -- where the copy waits on
    waiting : Process
    waiting = with_copies (with_copy (marked e n c) q.as_row.copies) q

    waiting_marked : is_marked_in t.partition (copy_in (with_copy (marked e n c) q.as_row.copies) t.leader t.number) ≡ true
        → (is_marked_in t.partition (copy_in q.as_row.copies t.leader t.number) ≡ true) ⊎ ((same_session t c.leader c.number ≡ true) × (e ≡ t.partition))
    waiting_marked is = by (session-cases t c.leader c.number) where
      own : is_copy c.leader c.number (marked e n c) ≡ true
      own = and-join (c.leader == c.leader) (c.number == c.number) (eq-eqb c.leader c.leader refl) (eq-eqb c.number c.number refl)

      by : ((c.leader ≡ t.leader) × (c.number ≡ t.number)) ⊎ (same_session t c.leader c.number ≡ false)
          → (is_marked_in t.partition (copy_in q.as_row.copies t.leader t.number) ≡ true) ⊎ ((same_session t c.leader c.number ≡ true) × (e ≡ t.partition))
      by (inl same) = turn (mark-there c.marks e t.partition n (ap (is_marked_in t.partition) (sym found) ∙ is)) where
        found : copy_in (with_copy (marked e n c) q.as_row.copies) t.leader t.number ≡ Some (marked e n c)
        found =
            ap₂ (λ (a b : ℕ). copy_in (with_copy (marked e n c) q.as_row.copies) a b) (sym same.0) (sym same.1)
            ∙ found-exchanged (is_copy c.leader c.number) (marked e n c) c q.as_row.copies own first

        turn : (is_some (at None c.marks t.partition) ≡ true) ⊎ (e ≡ t.partition)
            → (is_marked_in t.partition (copy_in q.as_row.copies t.leader t.number) ≡ true) ⊎ ((same_session t c.leader c.number ≡ true) × (e ≡ t.partition))
        turn (inl was) = inl (ap (is_marked_in t.partition) (ap₂ (λ (a b : ℕ). copy_in q.as_row.copies a b) (sym same.0) (sym same.1) ∙ first) ∙ was)
        turn (inr here) = inr (session-is t c.leader c.number same.0 same.1, here)
      by (inr other) =
          inl (ap (is_marked_in t.partition)
          (sym (found-apart (is_copy t.leader t.number) (is_copy c.leader c.number) (marked e n c) q.as_row.copies other
          (λ x swap. let parts = copy-parts c.leader c.number x swap in ap₂ (λ (a b : ℕ). a == t.leader && b == t.number) parts.0 parts.1 ∙ other))) ∙ is)

    waiting_copy : (w : Way) → in_copy t w waiting ≡ true → (in_copy t w q ≡ true) ⊎ (comes w ≡ true)
    unfolding waiting comes
    waiting_copy Own is = inl is
    waiting_copy (Row r) is =
        let both = and-split (same_process q.name (ParityNode r))
        (is_marked_in t.partition (copy_in (with_copy (marked e n c) q.as_row.copies) t.leader t.number)) is in
        turn both.0 (waiting_marked both.1)
      where
        turn : same_process q.name (ParityNode r) ≡ true
            → (is_marked_in t.partition (copy_in q.as_row.copies t.leader t.number) ≡ true) ⊎ ((same_session t c.leader c.number ≡ true) × (e ≡ t.partition))
            → ((same_process q.name (ParityNode r) && is_marked_in t.partition (copy_in q.as_row.copies t.leader t.number)) ≡ true) ⊎
            ((same_session t c.leader c.number && (e == t.partition && same_process q.name (ParityNode r))) ≡ true)
        turn name (inl was) = inl (and-join _ _ name was)
        turn name (inr here) = inr (and-join _ _ here.0 (and-join _ _ (eq-eqb e t.partition here.1) name))

    -- where it is finished
    ended : Process
    ended = with_copies (without_copy c.leader c.number q.as_row.copies) q

    ended_found : copy_in (without_copy c.leader c.number q.as_row.copies) t.leader t.number
        ≡ (if not (same_session t c.leader c.number) then copy_in q.as_row.copies t.leader t.number else None)
    ended_found = found-filter (is_copy t.leader t.number) (λ x. not (is_copy c.leader c.number x)) (not (same_session t c.leader c.number)) q.as_row.copies
        (λ x is. let parts = copy-parts t.leader t.number x is in
        ap not (ap₂ (λ (a b : ℕ). a == c.leader && b == c.number) parts.0 parts.1
        ∙ turned (session-cases t c.leader c.number)))
      where
        turned : ((c.leader ≡ t.leader) × (c.number ≡ t.number)) ⊎ (same_session t c.leader c.number ≡ false)
            → (t.leader == c.leader && t.number == c.number) ≡ same_session t c.leader c.number
        turned (inl same) = and-join _ _ (eq-eqb t.leader c.leader (sym same.0)) (eq-eqb t.number c.number (sym same.1))
            ∙ sym (session-is t c.leader c.number same.0 same.1)
        turned (inr other) = true-false (t.leader == c.leader && t.number == c.number) (λ is.
            let both = and-split (t.leader == c.leader) (t.number == c.number) is in
            let a = both.0 in let b = both.1 in
            let leaders : c.leader ≡ t.leader = grind (arith, common_steps) in
            let numbers : c.number ≡ t.number = grind (arith, common_steps) in
            cc (other, session-is t c.leader c.number leaders numbers)) ∙ sym other

    ended_fewer : Fewer t q ended
    unfolding ended
    ended_fewer = record { name = refl; marked = λ is. by is (not (same_session t c.leader c.number)) ended_found; kept = λ is. is; last = omega arith } where
      by : is_marked_in t.partition (copy_in (without_copy c.leader c.number q.as_row.copies) t.leader t.number) ≡ true → (b : Bool)
          → copy_in (without_copy c.leader c.number q.as_row.copies) t.leader t.number ≡ (if b then copy_in q.as_row.copies t.leader t.number else None)
          → is_marked_in t.partition (copy_in q.as_row.copies t.leader t.number) ≡ true
      by is true found = ap (is_marked_in t.partition) (sym found) ∙ is
      by is false found = absurd (cc (sym is ∙ ap (is_marked_in t.partition) found))

    -- a row that goes leaves no mark behind
    gone : (w : Way) → goes w ≡ true → in_copy t w ended ≡ false
    unfolding goes ended
    gone Own is = refl
    gone (Row r) is = true-false (in_copy t (Row r) ended) (λ there.
        let session : same_session t c.leader c.number ≡ true = (and-split (same_session t c.leader c.number) (row_way (Row r) q.name) is).0 in
        let found : copy_in (without_copy c.leader c.number q.as_row.copies) t.leader t.number ≡ None = ended_found
        ∙ ap (λ (b : Bool). if not b then copy_in q.as_row.copies t.leader t.number else None) session in
        let marks = (and-split (same_process q.name (ParityNode r))
        (is_marked_in t.partition (copy_in (without_copy c.leader c.number q.as_row.copies) t.leader t.number))
        there).1 in
        cc (sym marks ∙ ap (is_marked_in t.partition) found))

    -- its mark was there, or came
    was_there : (w : Way) → is_marked s (marked e n c) ≡ true → goes w ≡ true → (in_copy t w q ≡ true) ⊎ (comes w ≡ true)
    unfolding goes comes
    was_there Own whole is = absurd (cc (and-split (same_session t c.leader c.number) false is).1)
    was_there (Row r) whole is = turn (and-split (same_session t c.leader c.number) (row_way (Row r) q.name) is)
        (mark-there c.marks e t.partition n (all-among (λ d. is_some (at None (put None c.marks e (Some n)) d))
        (range_with_len 0 s.k) t.partition whole
        (among-range t.partition 0 s.k (omega arith) (omega (arith, below)))))
      where
        turn : (same_session t c.leader c.number ≡ true) × (same_process q.name (ParityNode r) ≡ true)
            → (is_some (at None c.marks t.partition) ≡ true) ⊎ (e ≡ t.partition)
            → ((same_process q.name (ParityNode r) && is_marked_in t.partition (copy_in q.as_row.copies t.leader t.number)) ≡ true) ⊎
            ((same_session t c.leader c.number && (e == t.partition && same_process q.name (ParityNode r))) ≡ true)
        turn both (inl was) =
            let same = session-true t c.leader c.number both.0 in
            inl (and-join _ _ both.1 (ap (is_marked_in t.partition) (ap₂ (λ (a b : ℕ). copy_in q.as_row.copies a b) (sym same.0) (sym same.1) ∙ first) ∙ was))
        turn both (inr here) = inr (and-join _ _ both.0 (and-join _ _ (eq-eqb e t.partition here) both.1))

    finished_gains : (own : Bool) → same_process q.name (ParityNode c.leader) ≡ own → is_marked s (marked e n c) ≡ true
        → Gains t q (row_finished own s (marked e n c) ended) (one_if (comes t.way))
    unfolding ended comes goes
    finished_gains false isown whole = record {
      name = refl;
      last = omega arith;
      weighs =
          let sum = bits-pass (in_copy t t.way ended) (in_session t ended) (in_copy t t.way q) (in_session t q) (comes t.way) (goes t.way)
          (copy-less t t.way q ended ended_fewer) (λ is. is) (λ is. (gone t.way is, was_there t.way whole is)) in
          omega (arith, sum);
      facts = (tt, tt);
    }
    finished_gains true isown whole = record {
      name = refl;
      last = let same = row-last s c.leader c.bytes (open_session q.as_leader c.number) q.as_leader in omega (arith, same);
      weighs =
          let sum = bits-kept (in_copy t t.way ended) (in_session t (row_comes s c.number c.leader c.bytes ended)) (in_copy t t.way q) (in_session t q)
          (comes t.way) (copy-less t t.way q ended ended_fewer) kept in
          let same = ap one_if (copy-alike t t.way ended (row_comes s c.number c.leader c.bytes ended) refl refl) in
          omega (arith, sum, same);
      facts = tt;
    } where
      kept : in_session t (row_comes s c.number c.leader c.bytes ended) ≡ true → (in_session t q ≡ true)
          ⊎ ((in_copy t t.way ended ≡ false) × ((in_copy t t.way q ≡ true) ⊎ (comes t.way ≡ true)))
      kept is = turn
          (and-split (same_process q.name (ParityNode t.leader))
          (is_kept_in t.way t.partition
          (open_session (row_gathered s c.leader c.bytes (open_session q.as_leader c.number) q.as_leader) t.number))
          is) where
            turn : (same_process q.name (ParityNode t.leader) ≡ true)
                × (is_kept_in t.way t.partition
                (open_session (row_gathered s c.leader c.bytes (open_session q.as_leader c.number) q.as_leader) t.number)
                ≡ true)
                → (in_session t q ≡ true) ⊎ ((in_copy t t.way ended ≡ false) × ((in_copy t t.way q ≡ true) ⊎ (comes t.way ≡ true)))
            turn both = deeper (row-kept s t.way t.partition t.number c.number c.leader c.bytes q.as_leader both.1) where
              deeper : (is_kept_in t.way t.partition (open_session q.as_leader t.number) ≡ true) ⊎ ((t.number ≡ c.number) × (t.way ≡ Row c.leader))
                  → (in_session t q ≡ true) ⊎ ((in_copy t t.way ended ≡ false) × ((in_copy t t.way q ≡ true) ⊎ (comes t.way ≡ true)))
              deeper (inl was) = inl (and-join _ _ both.0 was)
              deeper (inr new) =
                  let names : ParityNode c.leader ≡ ParityNode t.leader = sym (same-eq q.name (ParityNode c.leader) isown)
                  ∙ same-eq q.name (ParityNode t.leader) both.0 in
                  let leaders : c.leader ≡ t.leader = cc names in
                  let z : goes t.way ≡ true = and-join _ _ (session-is t c.leader c.number leaders (sym new.0))
                  (ap (λ (w : Way). row_way w q.name) new.1 ∙ isown) in
                  inr (gone t.way z, was_there t.way whole z)

    kept_gains : (whole : Bool) → is_marked s (marked e n c) ≡ whole → Gains t q (copy_kept whole s (marked e n c) q) (one_if (comes t.way))
    unfolding ended waiting
    kept_gains true whole = finished_gains (same_process q.name (ParityNode c.leader)) refl whole
    kept_gains false whole = record {
      name = refl;
      last = omega arith;
      weighs = let sum = bits-marked (in_copy t t.way waiting) (in_session t q) (in_copy t t.way q) (comes t.way) (waiting_copy t.way) in omega (arith, sum);
      facts = tt;
    }

    pub marked_gains : Gains t q (copy_kept (is_marked s (marked e n c)) s (marked e n c) q)
        (one_if (same_session t c.leader c.number && marks_way t.way t.partition e q.name))
    unfolding comes
    marked_gains = kept_gains (is_marked s (marked e n c)) refl

  -- a row takes a mark
  pub mark-gains : (l n r block e k : ℕ) (p : Process) → t.partition < s.k
      → Gains t p (mark_comes s l n r block e k p) (one_if (same_session t l n && marks_way t.way t.partition e p.name))
  mark-gains l n r block e k p below =
      gains-when t (accepts_mark p l n r e) p (mark_taken s l n block e k p)
      (one_if (same_session t l n && marks_way t.way t.partition e p.name)) (λ accepts. taken) where
        begun : Process
        begun = begin_copy s l n block p

        q : Process
        q = apply_to s e k begun

        fewer : Fewer t p q
        fewer = fewer-trans t p begun q (fewer-begun (is_some (copy_in p.as_row.copies l n)) l n block p) (fewer-apply t s e k begun)

        by : (o : Option Copy) → copy_in q.as_row.copies l n ≡ o
            → Gains t q (copy_marked s e k o q) (one_if (same_session t l n && marks_way t.way t.partition e q.name))
        by None is = gains-more t q (quiet q) 0 _ (omega arith) (gains-fewer t q (quiet q) (fewer-self t q) tt)
        by (Some c) is =
            let parts = copy-parts l n c (found-passes (is_copy l n) q.as_row.copies c is) in
            let first : copy_in q.as_row.copies c.leader c.number ≡ Some c = ap₂ (λ (a b : ℕ). copy_in q.as_row.copies a b) parts.0 parts.1 ∙ is in
            subst (λ (b : Bool). Gains t q (copy_marked s e k (Some c) q)
            (one_if (b && marks_way t.way t.partition e q.name)))
            (ap₂ (λ (a b : ℕ). same_session t a b) parts.0 parts.1)
            (marked_gains q c e k below first)

        taken : Gains t p (mark_taken s l n block e k p) (one_if (same_session t l n && marks_way t.way t.partition e p.name))
        taken = gains-from t p q (mark_taken s l n block e k p) _ fewer
            (subst (λ (name : ProcessId). Gains t q (copy_marked s e k (copy_in q.as_row.copies l n) q)
            (one_if (same_session t l n && marks_way t.way t.partition e name))) fewer.name
            (by (copy_in q.as_row.copies l n) refl))

  -- a row, or a block, comes to the leader of its session
  pub row-gains : (l n i : ℕ) (bytes : List ℕ) (p : Process) → p.name ≡ ParityNode l
      → Gains t p (quiet (row_comes s n i bytes p)) (one_if (same_session t l n && row_way t.way (ParityNode i)))
  row-gains l n i bytes p name = record {
    name = refl;
    last = let same = row-last s i bytes (open_session p.as_leader n) p.as_leader in omega (arith, same);
    weighs = let a = ap one_if (copy-alike t t.way p (row_comes s n i bytes p) refl refl) in let b = kept in omega (arith, a, b);
    facts = tt;
  } where
    z : Bool
    z = same_session t l n && row_way t.way (ParityNode i)

    new : in_session t (row_comes s n i bytes p) ≡ true → (in_session t p ≡ true) ⊎ (z ≡ true)
    new is = turn
        (and-split (same_process p.name (ParityNode t.leader))
        (is_kept_in t.way t.partition (open_session (row_gathered s i bytes (open_session p.as_leader n) p.as_leader)
        t.number)) is) where
          turn : (same_process p.name (ParityNode t.leader) ≡ true)
              × (is_kept_in t.way t.partition
              (open_session (row_gathered s i bytes (open_session p.as_leader n) p.as_leader) t.number) ≡ true)
              → (in_session t p ≡ true) ⊎ (z ≡ true)
          turn both = deeper (row-kept s t.way t.partition t.number n i bytes p.as_leader both.1) where
            deeper : (is_kept_in t.way t.partition (open_session p.as_leader t.number) ≡ true)
                ⊎ ((t.number ≡ n) × (t.way ≡ Row i)) → (in_session t p ≡ true) ⊎ (z ≡ true)
            deeper (inl was) = inl (and-join _ _ both.0 was)
            deeper (inr fresh) =
                let names : ParityNode l ≡ ParityNode t.leader = sym name ∙ same-eq p.name (ParityNode t.leader) both.0 in
                let leaders : l ≡ t.leader = cc names in
                inr (and-join _ _ (session-is t l n leaders (sym fresh.0)) (ap (λ (w : Way). row_way w (ParityNode i)) fresh.1 ∙ eq-eqb i i refl))

    kept : one_if (in_session t (row_comes s n i bytes p)) ≤ one_if (in_session t p) + one_if z
    kept = by (in_session t (row_comes s n i bytes p)) new where
      by : (b : Bool) → (b ≡ true → (in_session t p ≡ true) ⊎ (z ≡ true)) → one_if b ≤ one_if (in_session t p) + one_if z
      by false turns = omega arith
      by true turns = let some = bit-or (in_session t p) z (turns refl) in omega (arith, some)
