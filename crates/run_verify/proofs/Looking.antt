-- What a line for a look tells.
use Rattle.std.proofs.Common.{◌≡◌, ◌<◌, ◌≤◌, ◌+◌, ℕ, zero, suc, List, [], ◌∷◌, ◌++◌, codes, All, length, add-zero, refl, sym, ap, ◌∙◌, subst, arith}
use Rattle.std.specs.Prelude.{◌↔◌, Result, Ok, Err, IfOk, IsTrue, Bool}
use Rattle.std.proofs.lemmas.List.Elements.{All-head, All-tail}
use Rattle.erasure_code.specs.Spaces.{bytes_at}
use Rattle.group_types.specs.Dimensions.{Dimensions}
use Rattle.group_types.specs.Lists.{at}
use Rattle.group_types.specs.declared.process.ProcessId.{ProcessId}
use Rattle.group_types.specs.declared.process.ProcessId.TheVariants.{DataNode, ParityNode}
use Rattle.group_types.specs.declared.run.Run.{Run}
use Rattle.scenario_text.specs.Texts.{stamp_text, value_text}
use Rattle.transcript_text.specs.Texts.{FitsNumber, ShowsNone, ShowsValue}
use Rattle.run_verify.specs.Passing.{Account, TellsBytes}
use Rattle.run_verify.specs.Showing.{AreBelow, IsFitChange, IsStamped, IsWordTold, space_seen, stamp_len}
use Rattle.run_verify.specs.Updates.{IsStampOf}
use Rattle.run_verify.specs.declared.change.Change.{Change}
use Rattle.run_verify.proofs.Stamping.{shows_same}

below-at : (changes : List (List Change)) (a : ℕ) (stamp : List ℕ) → AreBelow changes a stamp → (d : ℕ)
    → d < length stamp → at 0 stamp d ≤ length (at [] changes (a + d))
below-at changes a [] below d within = absurd (omega arith)
below-at changes a (n ∷ ns) below zero within = subst (λ (k : ℕ). n ≤ length (at [] changes k)) (sym (add-zero a)) below.0
below-at changes a (n ∷ ns) below (suc d) within =
    subst (λ (k : ℕ). at 0 ns d ≤ length (at [] changes k)) (let e : a + 1 + d ≡ a + suc d = omega arith in e)
    (below-at changes (a + 1) ns below.1 d (omega arith))

at-below : (changes : List (List Change)) (a : ℕ) (stamp : List ℕ)
    → ((d : ℕ) → d < length stamp → at 0 stamp d ≤ length (at [] changes (a + d))) → AreBelow changes a stamp
at-below changes a [] all = tt
at-below changes a (n ∷ ns) all = (
  subst (λ (k : ℕ). n ≤ length (at [] changes k)) (add-zero a) (all 0 (omega arith)),
  at-below changes (a + 1) ns (λ d within. subst (λ (k : ℕ). at 0 ns d ≤ length (at [] changes k))
      (let e : a + suc d ≡ a + 1 + d = omega arith in e) (all (suc d) (omega (arith, within)))),
)

module _ (s : Dimensions) (changes : List (List Change)) where
  one-number : (d : ℕ) (stamp : List ℕ) → length stamp ≡ 1 → AreBelow changes d stamp → (n : ℕ) × (stamp ≡ n ∷ []) × (n ≤ length (at [] changes d))
  one-number d [] long below = absurd (omega (arith, long))
  one-number d (n ∷ []) long below = (n, refl, below.0)
  one-number d (n ∷ m ∷ ms) long below = absurd (omega (arith, long))

  stamp-of : (p : ProcessId) (stamp : List ℕ) → length stamp ≡ stamp_len s p → IsStamped changes p stamp → IsStampOf s (λ d. length (at [] changes d)) p stamp
  stamp-of (DataNode d) stamp long below = one-number d stamp long below
  stamp-of (ParityNode i) stamp long below = (
    long,
    λ d within. subst (λ (k : ℕ). at 0 stamp d ≤ length (at [] changes k)) (let e : 0 + d ≡ d = omega arith in
        e) (below-at changes 0 stamp below d (omega (arith, within, long))),
  )

  of-stamp : (p : ProcessId) (stamp : List ℕ) → IsStampOf s (λ d. length (at [] changes d)) p stamp → (length stamp ≡ stamp_len s p) × IsStamped changes p stamp
  of-stamp (DataNode d) stamp (n, is, few) = (ap length is, subst (AreBelow changes d) (sym is) (few, tt))
  of-stamp (ParityNode i) stamp (long, all) = (
    long,
    at-below changes 0 stamp (λ d within. subst (λ (k : ℕ). at 0 stamp d ≤ length (at [] changes k))
        (let e : d ≡ 0 + d = omega arith in e) (all d (omega (arith, within, long)))),
  )

module _ (s : Dimensions) (a : Account) (p : ProcessId) (run : Run) (line : List ℕ) where
  text-of : (stamp : List ℕ) → List ℕ
  text-of stamp = value_text (bytes_at run.at run.len (space_seen s a.changes p stamp))

  shows-it : (t : TellsBytes s a p run line) → ShowsValue line t.stamp (text-of t.stamp)
  unfolding text-of
  shows-it t = sym t.text

  pub shows_nothing : ShowsNone line (stamp_len s p) → ¬ (TellsBytes s a p run line)
  shows_nothing none t = none t.stamp (text-of t.stamp) (of-stamp s a.changes p t.stamp t.can).0 t.fits (shows-it t)

  pub shows_told : (stamp word : List ℕ) → length stamp ≡ stamp_len s p → All FitsNumber stamp → ShowsValue line stamp word
      → IsWordTold s a.changes p run stamp word ↔ TellsBytes s a p run line
  unfolding text-of
  shows_told stamp word long fits shows = (
    λ told. record {
      stamp = stamp;
      can = stamp-of s a.changes p stamp long told.0;
      fits = fits;
      text = sym shows ∙ ap (λ (w : List ℕ). codes "shown " ++ stamp_text stamp ++ codes " " ++ w) (sym told.1);
    },
    back,
  ) where
    back : TellsBytes s a p run line → IsWordTold s a.changes p run stamp word
    back t =
        let of = of-stamp s a.changes p t.stamp t.can in
        let same = shows_same line t.stamp stamp (text-of t.stamp) word t.fits fits (of.0 ∙ sym long) (shows-it t) shows in
        (subst (IsStamped a.changes p) same.0 of.1, ap text-of (sym same.0) ∙ same.1)

pub told_ok : {P Q E : Type 0} (r : Result Bool E) → (P ↔ Q) → IfOk r (λ yes. IsTrue yes ↔ P) → IfOk r (λ yes. IsTrue yes ↔ Q)
told_ok (Ok said) both is = (λ t. both.0 (is.0 t), λ q. is.1 (both.1 q))
told_ok (Err e) both is = tt

-- of changes that can be written
pub fit_at : (s : Dimensions) (vs : List (List Change)) (d : ℕ) → All (All (IsFitChange s)) vs → d < length vs → All (IsFitChange s) (at [] vs d)
fit_at s [] d all below = absurd (omega arith)
fit_at s (v ∷ vs) zero all below = All-head (All (IsFitChange s)) v vs all
fit_at s (v ∷ vs) (suc d) all below = fit_at s vs d (All-tail (All (IsFitChange s)) v vs all) (omega arith)
