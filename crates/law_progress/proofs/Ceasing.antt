-- What a process makes of a close notice.
use Rattle.std.proofs.Common.{◌≡◌, ◌≢◌, ℕ, ◌<◌, ◌≤◌, ◌==◌, ◌&&◌, nat_le, max, Bool, true, false, not, List, [], ◌∷◌}
use Rattle.std.proofs.Common.{is_some, None, option_map, ◌⊎◌, inl, inr, refl, sym, ap, ap₂, subst, ◌∙◌, arith}
use Rattle.std.proofs.lemmas.Bool.{cases_eq, cases_lt, eq-eqb, ne_eqb}
use Rattle.std.proofs.lemmas.Grind.{common_steps}
use Rattle.group_types.specs.Dimensions.{Dimensions}
use Rattle.group_types.specs.Lists.{at}
use Rattle.group_types.specs.declared.process.ProcessId.TheVariants.{ParityNode}
use Rattle.group_types.proofs.Lists.{at-put, at-put-other}
use Rattle.group_message.specs.declared.message.Message.{Message}
use Rattle.group_message.specs.declared.message.Message.TheVariants as tells
use Rattle.group_run.specs.Applying.{quiet}
use Rattle.group_run.specs.Process.{Copy, Process}
use Rattle.group_run.specs.Rows.{copies_ceased, is_copy}
use Rattle.law_bytes.proofs.Finding.{found-filter}
use Rattle.law_bytes.proofs.Local.{copy-parts}
use Rattle.law_progress.proofs.Waiting.{Has, Marked, marks_in}
use Rattle.law_progress.proofs.Sides as sides
use Rattle.law_progress.proofs.Sides.{After, Calm, CalmSent, CopyFine, Fair, Fresh, IsCease, LeaderFine, LeaderSide}
use Rattle.law_progress.proofs.Sides.{Leaves, NoMore, RowFine, RowSide, SentSide, calm-ask, calm-leaves, calm-mark}
use Rattle.law_progress.proofs.Sides.{calm-none, calm-sent, leaves-each, opened, same-leader}
use Rattle.law_progress.proofs.Taking.{nothing, parity-one}

-- a session of a leader up to a number
ceases-test : (l n i upto : ℕ) → ((l ≡ i) × (n ≤ upto)) ⊎ (not (l == i && nat_le n upto) ≡ true × (l ≡ i → upto < n))
ceases-test l n i upto = by (cases_eq l i) (cases_lt upto n) where
  other : l ≢ i → not (l == i && nat_le n upto) ≡ true
  other apart = ap (λ (b : Bool). not (b && nat_le n upto)) (ne_eqb l i apart)

  later : upto < n → not (l == i && nat_le n upto) ≡ true
  later above = let high : nat_le n upto ≡ false = grind (arith, common_steps) in ap (λ (b : Bool). not (l == i && b)) high ∙ ap not (and-false (l == i))
    where
      and-false : (b : Bool) → (b && false) ≡ false
      and-false true = refl
      and-false false = refl

  by : (l ≡ i) ⊎ (l ≢ i) → (upto < n) ⊎ (n ≤ upto) → ((l ≡ i) × (n ≤ upto)) ⊎ (not (l == i && nat_le n upto) ≡ true × (l ≡ i → upto < n))
  by (inr apart) _ = inr (other apart, λ same. absurd (apart same))
  by (inl same) (inl above) = inr (later above, λ is. above)
  by (inl same) (inr low) = inl (same, low)

-- what is left of a row's copies and ceased numbers
module _ (i upto : ℕ) (p : Process) where
  abbrev pub without : Process
  without = copies_ceased i upto p

  pub ceased-own : at 0 without.as_row.ceased i ≡ max (at 0 p.as_row.ceased i) upto
  ceased-own = at-put 0 0 p.as_row.ceased i (max (at 0 p.as_row.ceased i) upto)

  pub ceased-other : (l : ℕ) → l ≢ i → at 0 without.as_row.ceased l ≡ at 0 p.as_row.ceased l
  ceased-other l apart = at-put-other 0 p.as_row.ceased i l (max (at 0 p.as_row.ceased i) upto) apart

  pub ceased-rises : (l : ℕ) → at 0 p.as_row.ceased l ≤ at 0 without.as_row.ceased l
  ceased-rises l = by (cases_eq l i) where
    by : (l ≡ i) ⊎ (l ≢ i) → at 0 p.as_row.ceased l ≤ at 0 without.as_row.ceased l
    by (inl same) = subst (λ (y : ℕ). at 0 p.as_row.ceased y ≤ at 0 without.as_row.ceased y) (sym same) (let own = ceased-own in omega (arith, own))
    by (inr apart) = let other = ceased-other l apart in omega (arith, other)

  pub ceased-below : (l n : ℕ) → at 0 p.as_row.ceased l < n → (l ≡ i → upto < n) → at 0 without.as_row.ceased l < n
  ceased-below l n low above = by (cases_eq l i) where
    by : (l ≡ i) ⊎ (l ≢ i) → at 0 without.as_row.ceased l < n
    by (inl same) =
        let high = above same in
        let own = ceased-own in
        let here : at 0 without.as_row.ceased l ≡ at 0 without.as_row.ceased i = ap (at 0 without.as_row.ceased) same in
        let old : at 0 p.as_row.ceased l ≡ at 0 p.as_row.ceased i = ap (at 0 p.as_row.ceased) same in
        omega (arith, high, own, here, old, low)
    by (inr apart) = let other = ceased-other l apart in omega (arith, other, low)

  -- a copy stays, or its session is ceased
  pub marks-left : (l n : ℕ) → ((l ≡ i) × (n ≤ upto) × (marks_in without l n ≡ None)) ⊎ ((marks_in without l n ≡ marks_in p l n) × (l ≡ i → upto < n))
  marks-left l n = by (ceases-test l n i upto) where
    same : (c : Copy) → is_copy l n c ≡ true → not (c.leader == i && nat_le c.number upto) ≡ not (l == i && nat_le n upto)
    same c is = let parts = copy-parts l n c is in ap₂ (λ (a b : ℕ). not (a == i && nat_le b upto)) parts.0 parts.1

    by : ((l ≡ i) × (n ≤ upto)) ⊎ (not (l == i && nat_le n upto) ≡ true × (l ≡ i → upto < n))
        → ((l ≡ i) × (n ≤ upto) × (marks_in without l n ≡ None)) ⊎ ((marks_in without l n ≡ marks_in p l n) × (l ≡ i → upto < n))
    by (inr both) =
        inr (
          ap (option_map (λ c. c.marks))
              (found-filter (is_copy l n) (λ c. not (c.leader == i && nat_le c.number upto)) true p.as_row.copies
              (λ c is. same c is ∙ both.0)),
          both.1,
        )
    by (inl both) =
        let low : nat_le n upto ≡ true = le-test n upto both.1 in
        inl (
          both.0,
          both.1,
          ap (option_map (λ c. c.marks)) (found-filter (is_copy l n) (λ c. not (c.leader == i && nat_le c.number upto)) false p.as_row.copies
              (λ c is. same c is ∙ ap₂ (λ (a b : Bool). not (a && b)) (eq-eqb l i both.0) low)),
        )
      where
        le-test : (a b : ℕ) → a ≤ b → nat_le a b ≡ true
        le-test a b less = grind (arith, common_steps)

  -- so are marks in it
  pub marked-left : (l n e : ℕ) → Marked e (marks_in p l n) → Marked e (marks_in without l n) ⊎ (n ≤ at 0 without.as_row.ceased l)
  marked-left l n e held = by (marks-left l n) where
    by : ((l ≡ i) × (n ≤ upto) × (marks_in without l n ≡ None))
        ⊎ ((marks_in without l n ≡ marks_in p l n) × (l ≡ i → upto < n)) → Marked e (marks_in without l n)
        ⊎ (n ≤ at 0 without.as_row.ceased l)
    by (inr same) = inl (subst (Marked e) (sym same.0) held)
    by (inl gone) = inr (let own = ceased-own in let low = gone.1 in let here : at 0 without.as_row.ceased l
        ≡ at 0 without.as_row.ceased i = ap (at 0 without.as_row.ceased) gone.0 in omega (arith, own, low, here))

  pub some-left : (l n : ℕ) → is_some (marks_in without l n) ≡ true → is_some (marks_in p l n) ≡ true
  some-left l n some = by (marks-left l n) where
    by : ((l ≡ i) × (n ≤ upto) × (marks_in without l n ≡ None))
        ⊎ ((marks_in without l n ≡ marks_in p l n) × (l ≡ i → upto < n)) → is_some (marks_in p l n) ≡ true
    by (inr same) = ap is_some (sym same.0) ∙ some
    by (inl gone) = cc (sym (ap is_some gone.2) ∙ some)

  pub fine-left : (s : Dimensions) → RowFine s p → RowFine s without
  fine-left s fine l n marks is = by (marks-left l n) where
    by : ((l ≡ i) × (n ≤ upto) × (marks_in without l n ≡ None)) ⊎ ((marks_in without l n ≡ marks_in p l n) × (l ≡ i → upto < n)) → CopyFine s without l n marks
    by (inr same) = let old = fine l n marks (sym same.0 ∙ is) in record { lacks = old.lacks; above = ceased-below l n old.above same.1; some = old.some }
    by (inl gone) = absurd (cc (sym gone.2 ∙ is))

module _ (s : Dimensions) (i : ℕ) (p : Process) (upto : ℕ) where
  abbrev came : List Message
  came = tells.Cease upto ∷ []

  heard-it : (l n : ℕ) → l ≡ i → Has (IsCease n) came → n ≤ at 0 (copies_ceased i upto p).as_row.ceased l
  heard-it l n same (inl low) =
      let own = ceased-own i upto p in
      let here : at 0 (copies_ceased i upto p).as_row.ceased l ≡ at 0 (copies_ceased i upto p).as_row.ceased i =
      ap (at 0 (copies_ceased i upto p).as_row.ceased) same in
      omega (arith, own, low, here)
  heard-it l n same (inr none) = absurd none

  -- a close notice comes to a row
  pub cease-fair : Fair s (ParityNode i) came p (quiet (copies_ceased i upto p))
  cease-fair = record {
    row = record {
      kept = λ l n r e name held. by l n r e (marked-left i upto p l n e held);
      took = λ l n r d name low has accepted. absurd (nothing has);
      copies = λ l n r name some. inl (some-left i upto p l n some);
      below = λ l n r name low fresh leaves. ceased-below i upto p l n low (λ same. (leaves (ap ParityNode (sym same))).0);
      rises = ceased-rises i upto p;
      heard = λ l n r name from has. heard-it l n (parity-one l i (sym from)) has;
      fine = λ within fine. fine-left i upto p s fine;
    };
    leader = same-leader s (ParityNode i) came p (quiet (copies_ceased i upto p)) refl refl refl
        (λ l n r name from has. nothing has) (λ l n d name from has. nothing has);
    sent = calm-sent s (ParityNode i) came p (quiet (copies_ceased i upto p)) (λ l n r e name has. nothing has) (λ l n e name has. nothing has) tt;
  } where
    by : (l n r e : ℕ) → Marked e (marks_in (copies_ceased i upto p) l n) ⊎ (n ≤ at 0 (copies_ceased i upto p).as_row.ceased l)
        → After s (ParityNode i) (tells.Cease upto ∷ []) p (quiet (copies_ceased i upto p)) l n r e
    by l n r e (inl stays) = sides.Stays stays
    by l n r e (inr low) = sides.Ceased low
