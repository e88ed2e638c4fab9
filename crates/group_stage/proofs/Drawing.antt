-- A new seat draws its caller number.
use Rattle.std.proofs.Common.{ℕ, suc, ◌≡◌, ◌≢◌, ◌<◌, ◌≤◌, ◌+◌, ◌%◌, ⊎_elim, length, get_or, set, refl, sym, ap, subst}
use Rattle.std.proofs.Common.{◌∙◌, arith, length-set, get_or-set_other, get_or-set_same}
use Rattle.std.specs.Prelude as std
use mathlib.Core.Option.{none, some}
use lib.ListN.{get_elem?}
use Rattle.atomic_table.specs.Table.{Allows, keeps, step}
use Rattle.atomic_table.proofs.Lists.{at_set}
use Rattle.group_types.specs.Dimensions.{processes_of}
use Rattle.group_run.specs.Locality.{occurrences}
use Rattle.group_stage.specs.Conditions.{CanDraw}
use Rattle.group_stage.specs.Counts.{bit, flag, total}
use Rattle.group_stage.specs.Kept.{FitsStage, KeepsPlan}
use Rattle.group_stage.specs.Places.{drawing_of, word_in, word_of}
use Rattle.group_stage.specs.Steps.{Draws, Sat}
use Rattle.group_stage.specs.Views.{asks_by, cleared_of, holding, met_of, numbered, times_numbered}
use Rattle.group_stage.specs.declared.view.Plan.{Plan}
use Rattle.group_stage.specs.declared.view.View.{View}
use Rattle.group_stage.proofs.Sums.{bit-more, terms_le, total-set, total_le}
use Rattle.group_stage.proofs.Moves.{St, next_in, stage}
use Rattle.group_stage.proofs.Taking.{Goes}

next_bound : (plan : Plan) (st : St) → KeepsPlan plan st → next_in plan st.words ≤ 256
next_bound plan st o =
    let low = total_le (λ (u : View). length u.numbers) (λ (u : View). u.parts) st.views (λ j u e. (o.each j u e).numbers) in
    omega (arith, low, o.parts, o.seats, o.drawing)

module _ (plan : Plan) (st : St) (o : KeepsPlan plan st) (id : ℕ) (v : View) (me : get_elem? st.views id ≡ some v)
    (can : CanDraw v) (n m : ℕ) (found : n ≡ next_in plan st.words) (next : m ≡ n + 1) where
  abbrev w : View
  w = numbered v n

  within : drawing_of plan.shape < length st.words
  within = omega (arith, o.wide)

  word-stays : (q : ℕ) → q ≢ processes_of plan.shape + 1 → word_in (set st.words (drawing_of plan.shape) m) q ≡ word_in st.words q
  word-stays q apart = get_or-set_other st.words (drawing_of plan.shape) (word_of q) m 0 (λ x. apart (omega (arith, x)))

  next-is : next_in plan (set st.words (drawing_of plan.shape) m) ≡ n + 1
  next-is = get_or-set_same st.words (drawing_of plan.shape) m 0 within ∙ next

  none-before : length v.numbers ≡ 0
  none-before = ap length can.numbers

  mine : FitsStage plan.shape o.schedule (n + 1) w
  mine =
      let fits = o.each id v me in
      record {
        shape = fits.shape;
        inside = fits.inside;
        held = fits.held;
        named = fits.named;
        made = fits.made;
        few = fits.few;
        calls = fits.calls;
        numbers = let p = can.parts in omega (arith, p);
        no_parts = λ z. absurd (let p = can.parts in omega (arith, p, z));
        seen = fits.seen;
        own = λ c no. fits.own c (ap (occurrences c) can.numbers);
        pen = λ have. refl;
      }

  other : (j : ℕ) (u : View) → j ≢ id → get_elem? st.views j ≡ some u → FitsStage plan.shape o.schedule (n + 1) u
  other j u apart at_j =
      let fits = o.each j u at_j in
      record {
        shape = fits.shape;
        inside = fits.inside;
        held = fits.held;
        named = fits.named;
        made = fits.made;
        few = fits.few;
        calls = fits.calls;
        numbers = fits.numbers;
        no_parts = fits.no_parts;
        seen = fits.seen;
        own = fits.own;
        pen = λ have. absurd (let two = terms_le (λ (x : View). x.pens) st.views id j v u apart me at_j in
            let p = can.pen in omega (arith, two, o.pens, p, have));
      }

  pub draw-kept : KeepsPlan plan (stage (set st.words (drawing_of plan.shape) m) st.homes (set st.views id w))
  draw-kept = record {
    schedule = o.schedule;
    run = o.run;
    wide = length-set st.words (drawing_of plan.shape) m ∙ o.wide;
    long = o.long;
    seats = o.seats;
    parts = omega (arith, total-set (λ (u : View). u.parts) st.views id v w me, o.parts);
    pens = omega (arith, total-set (λ (u : View). u.pens) st.views id v w me, o.pens);
    history = word-stays (processes_of plan.shape) (λ x. omega (arith, x)) ∙ o.history;
    many = omega (arith, total-set (λ (u : View). length u.made) st.views id v w me, o.many);
    once = λ k. omega (arith, total-set (λ (u : View). times_numbered k u.made) st.views id v w me, o.once k);
    drawing = omega (arith, total-set (λ (u : View). length u.numbers) st.views id v w me, o.drawing, next-is, none-before, found);
    owners = λ c.
        let before : occurrences c v.numbers ≡ 0 = ap (occurrences c) can.numbers in
        let here : bit (std.nat_lt c (next_in plan st.words)) ≡ bit (std.nat_lt c n) = ap (λ (x : ℕ). bit (std.nat_lt c x)) (sym found) in
        let all : total (λ (u : View). occurrences c u.numbers) (set st.views id w) ≡ bit (std.nat_lt c (suc n)) =
        omega (
          arith,
          total-set (λ (u : View). occurrences c u.numbers) st.views id v w me,
          o.owners c,
          before,
          bit-more c n,
          here,
        ) in
        let up : suc n ≡ n + 1 = omega arith in
        all ∙ ap (λ (x : ℕ). bit (std.nat_lt c x)) (up ∙ sym next-is);
    asked = λ c. omega (arith, total-set (λ (u : View). asks_by c u.made) st.views id v w me, o.asked c);
    taken = λ q low. let same = ap flag (word-stays q (λ x. omega (arith, x, low))) in
        omega (arith, total-set (holding q) st.views id v w me, o.taken q low, same);
    counts = λ q low. let word = word-stays q (λ x. omega (arith, x, low)) in let same = ap flag word in
        omega (arith, total-set (met_of q) st.views id v w me, total-set (cleared_of q) st.views id v w me, o.counts q low, word, same);
    home = λ q low zero_now. o.home q low (sym (word-stays q (λ x. omega (arith, x, low))) ∙ zero_now);
    each = λ j u at_j. subst (λ (x : ℕ). FitsStage plan.shape o.schedule x u) (sym next-is)
        (⊎_elim (λ t. subst (FitsStage plan.shape o.schedule (n + 1)) t.1 mine) (λ t. other j u t.0 t.1) (at_set st.views id j w u at_j));
  }

pub draws : (plan : Plan) (slots id : ℕ) (m : Sat) (i : ℕ) → i ≡ drawing_of plan.shape → CanDraw m.0
    → Allows (KeepsPlan plan) slots id m i (λ n. (n + 1) % 18446744073709551616) (Draws (step slots i 1 0 none) m)
draws plan slots id m i here can st o wide me low =
    let v : View = m.0 in
    let bound = next_bound plan st o in
    let next : (next_in plan st.words + 1) % 18446744073709551616 ≡ next_in plan st.words + 1 = omega (arith, bound) in
    subst (λ (j : ℕ). Goes plan st j id m (Draws (step slots j 1 0 none) m) ((get_or st.words j 0 + 1) % 18446744073709551616)) (sym here) (
      numbered v (next_in plan st.words),
      keeps,
      tt,
      draw-kept plan st o id v me can (next_in plan st.words) ((next_in plan st.words + 1) % 18446744073709551616) refl next,
      (sym ((o.each id v me).pen can.pen), refl),
    )
