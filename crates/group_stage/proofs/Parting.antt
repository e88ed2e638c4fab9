-- A seat is cut in two, and two are joined.
use Rattle.std.proofs.Common.{ℕ, ◌≡◌, ◌≢◌, ◌<◌, ◌+◌, ◌⊎◌, ⊎_elim, inl, inr, List, [], ◌∷◌, ◌++◌, length, map, set, refl}
use Rattle.std.proofs.Common.{sym, ap, subst, ◌∙◌, arith, eqb, eq-eqb, ne_eqb, length-append}
use Rattle.std.specs.Prelude as std
use Rattle.std.proofs.lemmas.Bool.{cases_eq}
use mathlib.Core.Option.{some}
use lib.ListN.{get_elem?}
use Rattle.atomic_table.specs.Table.{Joins, Splits}
use Rattle.atomic_table.proofs.Lists.{at_set, at_snoc, set_else}
use Rattle.group_run.specs.Locality.{occurrences}
use Rattle.group_run.specs.World.{names}
use Rattle.group_node.specs.Standing.{NodeStanding}
use Rattle.group_stage.specs.Conditions.{CanJoin, CanPart}
use Rattle.group_types.specs.Each.{Each}
use Rattle.group_stage.specs.Counts.{total}
use Rattle.group_stage.specs.Kept.{FitsStage, KeepsPlan}
use Rattle.group_stage.specs.Views.{asks_by, cleared_of, empty_view, holding, joined_views, kept_part, met_of, new_part, times_numbered}
use Rattle.group_stage.specs.declared.view.Plan.{Plan}
use Rattle.group_stage.specs.declared.view.View.{View}
use Rattle.group_types.proofs.Eaches.{each-append}
use Rattle.group_stage.proofs.Sums.{times-append, total-append, total-set}
use Rattle.group_stage.proofs.Moves.{St, next_in, stage}
use Rattle.group_stage.proofs.Releasing.{tally-append}
use Rattle.group_stage.proofs.Committing.{asks-append, drawn-append}

module _ (plan : Plan) (st : St) (o : KeepsPlan plan st) (id : ℕ) (v : View) (me : get_elem? st.views id ≡ some v) (can : CanPart v) where
  abbrev l : View
  l = kept_part v

  abbrev r : View
  r = new_part v

  -- a sum that the two have as the one
  cut : (f : View → ℕ) → f (kept_part v) + f (new_part v) ≡ f v → total f (set st.views id (kept_part v) ++ new_part v ∷ []) ≡ total f st.views
  cut f same = let more = total-append f (set st.views id (kept_part v)) (new_part v ∷ []) in let one =
      total-set f st.views id v (kept_part v) me in omega (arith, more, one, same)

  left : FitsStage plan.shape o.schedule (next_in plan st.words) (kept_part v)
  left =
      let fits = o.each id v me in
      record {
        shape = λ some_part. fits.shape (let p = can.parts in omega (arith, p));
        inside = fits.inside;
        held = fits.held;
        named = fits.named;
        made = fits.made;
        few = fits.few;
        calls = let c = can.calls in omega (arith, c);
        numbers = can.numbers;
        no_parts = λ z. absurd (omega (arith, z));
        seen = fits.seen;
        own = fits.own;
        pen = λ have. absurd (omega (arith, have));
      }

  right : FitsStage plan.shape o.schedule (next_in plan st.words) (new_part v)
  right =
      let fits = o.each id v me in
      record {
        shape = λ some_part. fits.shape (let p = can.parts in omega (arith, p));
        inside = tt;
        held = tt;
        named = tt;
        made = tt;
        few = omega arith;
        calls = omega arith;
        numbers = omega arith;
        no_parts = λ z. record { held = refl; met = refl; cleared = refl; made = refl; numbers = refl };
        seen = record { rest = o.schedule; whole = refl };
        own = λ c no. refl;
        pen = fits.pen;
      }

  pub part-kept : KeepsPlan plan (stage st.words st.homes (set st.views id (kept_part v) ++ new_part v ∷ []))
  part-kept = record {
    schedule = o.schedule;
    run = o.run;
    wide = o.wide;
    long = o.long;
    seats = o.seats;
    parts = cut (λ (u : View). u.parts) (let p = can.parts in omega (arith, p)) ∙ o.parts;
    pens = let same = cut (λ (u : View). u.pens) (omega arith) in omega (arith, same, o.pens);
    history = o.history;
    many = cut (λ (u : View). length u.made) (omega arith) ∙ o.many;
    once = λ k. cut (λ (u : View). times_numbered k u.made) (omega arith) ∙ o.once k;
    drawing = cut (λ (u : View). length u.numbers) (omega arith) ∙ o.drawing;
    owners = λ c. cut (λ (u : View). occurrences c u.numbers) (omega arith) ∙ o.owners c;
    asked = λ c. o.asked c ∙ sym (cut (λ (u : View). asks_by c u.made) (omega arith));
    taken = λ q low. cut (holding q) (omega arith) ∙ o.taken q low;
    counts = λ q low. let a = cut (met_of q) (omega arith) in let b = cut (cleared_of q) (omega arith) in omega (arith, a, b, o.counts q low);
    home = o.home;
    each = λ j u at_j. ⊎_elim
        (λ inside. ⊎_elim (λ t. subst (FitsStage plan.shape o.schedule (next_in plan st.words)) t.1 left)
        (λ t. o.each j u t.1) (at_set st.views id j (kept_part v) u inside))
        (λ last. subst (FitsStage plan.shape o.schedule (next_in plan st.words)) last right) (at_snoc (set st.views id (kept_part v)) (new_part v) u j at_j);
  }

pub parts : (plan : Plan) (id : ℕ) (v : View) → CanPart v → Splits (KeepsPlan plan) id v (kept_part v) (new_part v)
parts plan id v can st o me = part-kept plan st o id v me can

module _ (plan : Plan) (st : St) (o : KeepsPlan plan st) (id other : ℕ) (v w : View) (me : get_elem? st.views id ≡ some v)
    (apart : ¬ (other ≡ id)) (it : get_elem? (set st.views id (joined_views v w)) other ≡ some w) (can : CanJoin v w) where
  abbrev both : View
  both = joined_views v w

  its : get_elem? st.views other ≡ some w
  its = sym (set_else st.views id other (joined_views v w) apart) ∙ it

  -- a sum that the one has as the two
  pub together : (f : View → ℕ) → f empty_view ≡ 0 → f (joined_views v w) ≡ f v + f w
      → total f (set (set st.views id (joined_views v w)) other empty_view) ≡ total f st.views
  together f none_left same = let one = total-set f st.views id v (joined_views v w) me in let two =
      total-set f (set st.views id (joined_views v w)) other w empty_view it in omega (arith, one, two, none_left, same)

  held-none : v.held ++ w.held ≡ []
  held-none = ap (λ (hs : List (ℕ × NodeStanding)). hs ++ w.held) can.idle ∙ can.other_idle

  no-holding : (q : ℕ) → holding q (joined_views v w) ≡ holding q v + holding q w
  no-holding q =
      let a : holding q v ≡ 0 = ap (λ (hs : List (ℕ × NodeStanding)). occurrences q (map (λ h. h.0) hs)) can.idle in
      let b : holding q w ≡ 0 = ap (λ (hs : List (ℕ × NodeStanding)). occurrences q (map (λ h. h.0) hs)) can.other_idle in
      let c : holding q (joined_views v w) ≡ 0 = ap (λ (hs : List (ℕ × NodeStanding)). occurrences q (map (λ h. h.0) hs)) held-none in
      omega (arith, a, b, c)

  next-of : (v.pens ≡ 0) ⊎ (v.pens ≢ 0) → 0 < v.pens + w.pens → std.cond (eqb v.pens 0) w.next v.next ≡ next_in plan st.words
  next-of (inl none_here) have = ap (λ (z : std.Bool). std.cond z w.next v.next) (eq-eqb v.pens 0 none_here)
      ∙ (o.each other w its).pen (omega (arith, none_here, have))
  next-of (inr some_here) have = ap (λ (z : std.Bool). std.cond z w.next v.next) (ne_eqb v.pens 0 some_here) ∙ (o.each id v me).pen (omega (arith, some_here))

  fits-both : FitsStage plan.shape o.schedule (next_in plan st.words) (joined_views v w)
  fits-both =
      let a = o.each id v me in
      let b = o.each other w its in
      record {
        shape = λ some_part. a.shape can.parts;
        inside = each-append _ v.held w.held a.inside b.inside;
        held = each-append _ v.held w.held a.held b.held;
        named = subst (Each (λ h. 0 < occurrences h.0 (names plan.shape v.call))) (sym held-none) tt;
        made = each-append _ v.made w.made a.made b.made;
        few = let x = length-append v.made w.made in let y = length-append v.met w.met in let p = a.few in let q = b.few in omega (arith, x, y, p, q);
        calls = let p = a.calls in let q = b.calls in omega (arith, p, q);
        numbers = let x = length-append v.numbers w.numbers in let p = a.numbers in let q = b.numbers in omega (arith, x, p, q);
        no_parts = λ z. absurd (let p = can.parts in omega (arith, p, z));
        seen = a.seen;
        own = λ c no. let x = times-append c v.numbers w.numbers in let y = asks-append c v.made w.made in
            let p = a.own c (omega (arith, x, no)) in let q = b.own c (omega (arith, x, no)) in omega (arith, y, p, q);
        pen = next-of (cases_eq v.pens 0);
      }

  fits-nobody : FitsStage plan.shape o.schedule (next_in plan st.words) empty_view
  fits-nobody = record {
    shape = λ some_part. absurd (omega (arith, some_part));
    inside = tt;
    held = tt;
    named = tt;
    made = tt;
    few = omega arith;
    calls = omega arith;
    numbers = omega arith;
    no_parts = λ z. record { held = refl; met = refl; cleared = refl; made = refl; numbers = refl };
    seen = record { rest = o.schedule; whole = refl };
    own = λ c no. refl;
    pen = λ have. absurd (omega (arith, have));
  }

  pub join-kept : KeepsPlan plan (stage st.words st.homes (set (set st.views id (joined_views v w)) other empty_view))
  join-kept = record {
    schedule = o.schedule;
    run = o.run;
    wide = o.wide;
    long = o.long;
    seats = o.seats;
    parts = together (λ (u : View). u.parts) refl refl ∙ o.parts;
    pens = let same = together (λ (u : View). u.pens) refl refl in omega (arith, same, o.pens);
    history = o.history;
    many = together (λ (u : View). length u.made) refl (length-append v.made w.made) ∙ o.many;
    once = λ k. together (λ (u : View). times_numbered k u.made) refl (drawn-append k v.made w.made) ∙ o.once k;
    drawing = together (λ (u : View). length u.numbers) refl (length-append v.numbers w.numbers) ∙ o.drawing;
    owners = λ c. together (λ (u : View). occurrences c u.numbers) refl (times-append c v.numbers w.numbers) ∙ o.owners c;
    asked = λ c. o.asked c ∙ sym (together (λ (u : View). asks_by c u.made) refl (asks-append c v.made w.made));
    taken = λ q low. together (holding q) refl (no-holding q) ∙ o.taken q low;
    counts = λ q low. let a = together (met_of q) refl (times-append q v.met w.met) in let b =
        together (cleared_of q) refl (tally-append q v.cleared w.cleared) in omega (arith, a, b, o.counts q low);
    home = o.home;
    each = λ j u at_j. ⊎_elim (λ t. subst (FitsStage plan.shape o.schedule (next_in plan st.words)) t.1 fits-nobody)
        (λ t. ⊎_elim (λ t. subst (FitsStage plan.shape o.schedule (next_in plan st.words)) t.1 fits-both)
        (λ t. o.each j u t.1) (at_set st.views id j (joined_views v w) u t.1))
        (at_set (set st.views id (joined_views v w)) other j empty_view u at_j);
  }

pub joins : (plan : Plan) (id other : ℕ) (v w : View) → CanJoin v w → Joins (KeepsPlan plan) id v other w (joined_views v w) empty_view
joins plan id other v w can st o me apart it = join-kept plan st o id other v w me apart it can
