-- The stage at the start, and as it is closed.
use Rattle.std.proofs.Common.{ℕ, zero, suc, ◌≡◌, ◌<◌, ◌+◌, List, [], ◌∷◌, length, map, get_or, replicate, refl, sym, ap, subst, ◌∙◌, arith}
use Rattle.std.specs.Prelude as std
use mathlib.Core.Option.{Option, some, some-injective, some-ne-none}
use lib.ListN.{get_elem?}
use Rattle.atomic_table.specs.Table.{opening}
use Rattle.group_types.specs.Dimensions.{callers, processes_of}
use Rattle.group_types.proofs.Lists.{at-replicate}
use Rattle.group_run.specs.Locality.{occurrences}
use Rattle.group_node.specs.Standing.{NodeStanding}
use Rattle.group_stage.specs.Conditions.{IsAtStart}
use Rattle.group_stage.specs.Counts.{bit, flag, total}
use Rattle.group_stage.specs.Kept.{FitsStage, IsSpent, IsWholeSchedule, KeepsPlan}
use Rattle.group_stage.specs.Places.{drawing_of, history_word, slot_of, word_in, word_of}
use Rattle.group_stage.specs.Schedules.{standing_at}
use Rattle.group_stage.specs.Views.{blank, holding, times_numbered}
use Rattle.group_stage.specs.declared.view.Plan.{Plan}
use Rattle.group_stage.specs.declared.view.View.{View}
use Rattle.group_stage.proofs.Sums.{bit-no, flag-none, only_one}
use Rattle.group_stage.proofs.Moves.{St, next_in}

abbrev pub zeros_of : ℕ → List ℕ
zeros_of n = replicate n 0

word-zero : (n i : ℕ) → get_or (zeros_of n) i 0 ≡ 0
word-zero zero i = refl
word-zero (suc n) zero = refl
word-zero (suc n) (suc i) = word-zero n i

home-map : (xs : List (std.Option NodeStanding)) (i : ℕ) (y : std.Option NodeStanding) → get_elem? xs i ≡ some y → get_elem? (map some xs) i ≡ some (some y)
home-map [] i y e = absurd (some-ne-none y (sym e))
home-map (x ∷ xs) zero y e = ap (λ (z : Option (std.Option NodeStanding)). some z) e
home-map (x ∷ xs) (suc i) y e = home-map xs i y e

length-homes : (xs : List (std.Option NodeStanding)) → length (map some xs) ≡ length xs
length-homes [] = refl
length-homes (x ∷ xs) = ap suc (length-homes xs)

length-zeros : (n : ℕ) → length (zeros_of n) ≡ n
length-zeros zero = refl
length-zeros (suc n) = ap suc (length-zeros n)

pub opens : (plan : Plan) (ws : List ℕ) (xs : List (std.Option NodeStanding)) → IsAtStart plan ws xs
    → KeepsPlan plan (opening ws xs (blank plan.shape plan.callers 1 0))
opens plan ws xs start =
    let zeros : (i : ℕ) → get_or ws i 0 ≡ 0 = λ i. ap (λ (l : List ℕ). get_or l i 0) start.words ∙ word-zero (word_of (processes_of plan.shape + 2)) i in
    let first : FitsStage plan.shape [] (next_in plan ws) (blank plan.shape plan.callers 1 0) = record {
      shape = λ some_part. refl;
      inside = tt;
      held = tt;
      named = tt;
      made = tt;
      few = omega arith;
      calls = omega arith;
      numbers = omega arith;
      no_parts = λ z. record { held = refl; met = refl; cleared = refl; made = refl; numbers = refl };
      seen = record { rest = []; whole = refl };
      own = λ c no. refl;
      pen = λ have. sym (zeros (drawing_of plan.shape));
    } in
    record {
      schedule = [];
      run = (start.limits, tt);
      wide = ap length start.words ∙ length-zeros (word_of (processes_of plan.shape + 2));
      long = length-homes xs ∙ start.long;
      seats = start.seats;
      parts = omega arith;
      pens = omega arith;
      history = zeros (history_word plan.shape);
      many = refl;
      once = λ k. sym (bit-no k 0 (omega arith));
      drawing = sym (zeros (drawing_of plan.shape));
      owners = λ c. sym (ap (λ (n : ℕ). bit (std.nat_lt c n)) (zeros (drawing_of plan.shape)) ∙ bit-no c 0 (omega arith));
      asked = λ c. at-replicate 0 callers c;
      taken = λ q low. sym (ap flag (zeros (word_of q)));
      counts = λ q low. let z = zeros (word_of q) in let f = ap flag z in omega (arith, z, f);
      home = λ q low free. home-map xs (slot_of q) _ (start.home q low);
      each = λ j u e. at-first j u e first;
    }
  where
    at-first : (j : ℕ) (u : View) → get_elem? (blank plan.shape plan.callers 1 0 ∷ []) j ≡ some u
        → FitsStage plan.shape [] (next_in plan ws) (blank plan.shape plan.callers 1 0)
        → FitsStage plan.shape [] (next_in plan ws) u
    at-first zero u e first = subst (FitsStage plan.shape [] (next_in plan ws)) (some-injective _ u e) first
    at-first (suc j) u e first = absurd (some-ne-none u (sym e))

-- a seat that has all parts knows the whole schedule, and each node is at home
module _ (plan : Plan) (st : St) (o : KeepsPlan plan st) (id : ℕ) (v : View) (me : get_elem? st.views id ≡ some v) (all : v.parts ≡ plan.callers) where
  -- what only seats with a part have is all here
  pub all-here : (f : View → ℕ) → ((u : View) → IsSpent u → f u ≡ 0) → total f st.views ≡ f v
  all-here f spent = only_one (λ (u : View). u.parts) f st.views id v me (omega (arith, o.parts, all)) (λ j u e z. spent u ((o.each j u e).no_parts z))

  pub whole : IsWholeSchedule plan.shape o.schedule (v ∷ [])
  whole = record {
    many = let here = all-here (λ (u : View). length u.made) (λ u is. ap length is.made) in omega (arith, here, o.many);
    once = λ k. let here = all-here (λ (u : View). times_numbered k u.made) (λ u is. ap (times_numbered k) is.made) in let sum =
        o.once k in sum-one (times_numbered k v.made) (total (λ (u : View). times_numbered k u.made) st.views) _ here sum;
    answers = ((o.each id v me).made, tt);
  }
    where
      sum-one : (a b c : ℕ) → b ≡ a → b ≡ c → a + 0 ≡ c
      sum-one a b c x y = omega (arith, x, y)

  pub at-home : v.held ≡ [] → (p : ℕ) → p < processes_of plan.shape → get_elem? st.homes (slot_of p)
      ≡ some (some (std.Some (standing_at plan.shape o.schedule p)))
  at-home idle p low =
      let none_held : holding p v ≡ 0 = ap (λ (hs : List (ℕ × NodeStanding)). occurrences p (map (λ h. h.0) hs)) idle in
      let here = all-here (holding p) (λ u is. ap (λ (hs : List (ℕ × NodeStanding)). occurrences p (map (λ h. h.0) hs)) is.held) in
      o.home p low (flag-none (word_in st.words p) (omega (arith, here, none_held, o.taken p low)))
