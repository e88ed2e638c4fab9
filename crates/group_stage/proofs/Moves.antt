-- Steps that make no event keep the rule.
use Rattle.std.proofs.Common.{ℕ, ◌≡◌, ◌<◌, ◌≤◌, ◌+◌, ◌*◌, ⊎_elim, List, length, map, set, refl, sym, ap, subst, ◌∙◌, arith}
use Rattle.std.specs.Prelude as std
use mathlib.Core.Option.{Option, some}
use lib.ListN.{get_elem?}
use Rattle.atomic_table.specs.Table.{State}
use Rattle.atomic_table.proofs.Lists.{at_set}
use Rattle.group_types.specs.Dimensions.{Dimensions, processes_of}
use Rattle.group_calls.specs.declared.event.Event.{Event}
use Rattle.group_run.specs.Headline.{IsRun}
use Rattle.group_run.specs.Locality.{occurrences}
use Rattle.group_node.specs.Standing.{NodeStanding}
use Rattle.group_types.specs.Each.{Each}
use Rattle.group_stage.specs.Counts.{bit, flag, total}
use Rattle.group_stage.specs.Kept.{FitsStage, IsAnswered, KeepsPlan, most_calls}
use Rattle.group_stage.specs.Places.{drawing_of, history_word, slot_of, word_in}
use Rattle.group_stage.specs.Schedules.{asked_at, standing_at}
use Rattle.group_stage.specs.Steps.{Knows}
use Rattle.group_stage.specs.Views.{asks_by, cleared_of, holding, met_of, tally, times_numbered}
use Rattle.group_stage.specs.declared.view.Plan.{Plan}
use Rattle.group_stage.specs.declared.view.View.{View}
use Rattle.group_stage.proofs.Sums.{flag_le, only_one, term_le, times_length, total-set, total_both, total_le, total_scaled}

abbrev pub St : Type 0
St = State (std.Option NodeStanding) View

abbrev pub Homes : Type 0
Homes = List (Option (std.Option NodeStanding))

abbrev pub stage : List ℕ → Homes → List View → St
stage ws hs vs = record { words = ws; homes = hs; views = vs }

-- a view whose call goes on
abbrev pub again : View → Event → ℕ → ℕ → List (ℕ × NodeStanding) → List ℕ → List (ℕ × ℕ) → View
again v call calls due held met cleared = record v { call = call; calls = calls; due = due; held = held; met = met; cleared = cleared }

-- what the drawing word is
abbrev pub next_in : Plan → List ℕ → ℕ
next_in plan ws = std.slice_index ws (drawing_of plan.shape)

-- whose calls are few enough for every word
pub calls_bound : (plan : Plan) (st : St) → KeepsPlan plan st → (f : View → ℕ)
    → ((j : ℕ) (v : View) → get_elem? st.views j ≡ some v → f v ≤ v.calls) → total f st.views ≤ 4611686018427387904
calls_bound plan st o f low =
    let sum : total f st.views ≤ total (λ (v : View). v.parts * most_calls) st.views
    = total_le f (λ (v : View). v.parts * most_calls) st.views (λ j v e. let a = low j v e in let b = (o.each j v e).calls in omega (arith, a, b)) in
    let scaled : total (λ (v : View). v.parts * most_calls) st.views ≡ total (λ (v : View). v.parts)
    st.views * most_calls = total_scaled (λ (v : View). v.parts) most_calls st.views in
    omega (arith, sum, scaled, o.parts, o.seats)

pub word_bound : (plan : Plan) (st : St) → KeepsPlan plan st → (p : ℕ) → p < processes_of plan.shape → word_in st.words p ≤ 4611686018427387905
word_bound plan st o p within =
    let low = calls_bound plan st o (met_of p) (λ j v e. let few = (o.each j v e).few in let t = times_length p v.met in omega (arith, few, t)) in
    let one = flag_le (word_in st.words p) in
    omega (arith, o.counts p within, low, one)

-- while a call is due, the schedule isn't at its bound
pub few_events : (plan : Plan) (st : St) → (o : KeepsPlan plan st) → (id : ℕ) (v : View) → get_elem? st.views id ≡ some v
    → 0 < v.due → length o.schedule < 4611686018427387904
few_events plan st o id v me due =
    let low = calls_bound plan st o (λ (u : View). length u.made + u.due) (λ j u e. let few = (o.each j u e).few in omega (arith, few)) in
    let both = total_both (λ (u : View). length u.made) (λ (u : View). u.due) st.views in
    let mine = term_le (λ (u : View). u.due) st.views id v me in
    omega (arith, o.many, low, both, mine, due)

-- whoever owns a caller number made all its asks
pub owned_asks : (plan : Plan) (st : St) → (o : KeepsPlan plan st) → (id : ℕ) (v : View) → get_elem? st.views id ≡ some v
    → (c : ℕ) → 0 < occurrences c v.numbers → asked_at plan.shape o.schedule c ≡ asks_by c v.made
owned_asks plan st o id v me c own =
    o.asked c ∙ only_one (λ (u : View). occurrences c u.numbers) (λ (u : View). asks_by c u.made) st.views id v me
    (let one = bit_le (std.nat_lt c (next_in plan st.words)) in omega (arith, o.owners c, one, own)) (λ j u e z. (o.each j u e).own c z)
  where
    bit_le : (b : std.Bool) → bit b ≤ 1
    bit_le std.true = omega arith
    bit_le std.false = omega arith

-- what a seat knows while its call is due
pub knows : (plan : Plan) (st : St) → (o : KeepsPlan plan st) → (id : ℕ) (v : View) → get_elem? st.views id ≡ some v → 0 < v.parts → 0 < v.due
    → Knows o.schedule v
knows plan st o id v me parts due =
    let fits = o.each id v me in
    let shape : v.shape ≡ plan.shape = fits.shape parts in
    record {
      run = subst (λ (s : Dimensions). IsRun s o.schedule) (sym shape) o.run;
      few = few_events plan st o id v me due;
      held = subst (λ (s : Dimensions). Each (λ h. h.1 ≡ standing_at s o.schedule h.0) v.held) (sym shape) fits.held;
      asked = λ c own. ap (λ (s : Dimensions). asked_at s o.schedule c) shape ∙ owned_asks plan st o id v me c own;
      seen = fits.seen;
      made = subst (λ (s : Dimensions). Each (IsAnswered s o.schedule) v.made) (sym shape) fits.made;
    }

-- the rule is kept, with the schedule as it was
abbrev pub Keeps : (plan : Plan) (st : St) → KeepsPlan plan st → St → Type 0
Keeps plan st o after = (k : KeepsPlan plan after) × (k.schedule ≡ o.schedule)

-- a step that makes no event and draws no number
pub changed : (plan : Plan) (st : St) (o : KeepsPlan plan st) (id : ℕ) (v : View) (call : Event) (calls due : ℕ)
    (held : List (ℕ × NodeStanding)) (met : List ℕ) (cleared : List (ℕ × ℕ)) (ws : List ℕ) (hs : Homes)
    → get_elem? st.views id ≡ some v
    → length ws ≡ length st.words → length hs ≡ length st.homes
    → std.slice_index ws (history_word plan.shape) ≡ std.slice_index st.words (history_word plan.shape)
    → next_in plan ws ≡ next_in plan st.words
    → ((q : ℕ) → q < processes_of plan.shape → occurrences q (map (λ h. h.0) held) + flag (word_in st.words q) ≡ holding q v + flag (word_in ws q))
    → ((q : ℕ) → q < processes_of plan.shape → occurrences q met + flag (word_in ws q) + cleared_of q v + word_in st.words q
    ≡ met_of q v + flag (word_in st.words q) + tally q cleared + word_in ws q)
    → ((q : ℕ) → q < processes_of plan.shape → word_in ws q ≡ 0 → get_elem? hs (slot_of q) ≡ some (some (std.Some (standing_at plan.shape o.schedule q))))
    → FitsStage plan.shape o.schedule (next_in plan st.words) (again v call calls due held met cleared)
    → Keeps plan st o (stage ws hs (set st.views id (again v call calls due held met cleared)))
changed plan st o id v call calls due held met cleared ws hs me long_words long_homes history drawing holds meets homes fits =
    let w : View = again v call calls due held met cleared in
    let kept : KeepsPlan plan (stage ws hs (set st.views id w)) = record {
      schedule = o.schedule;
      run = o.run;
      wide = long_words ∙ o.wide;
      long = long_homes ∙ o.long;
      seats = o.seats;
      parts = omega (arith, total-set (λ (u : View). u.parts) st.views id v w me, o.parts);
      pens = omega (arith, total-set (λ (u : View). u.pens) st.views id v w me, o.pens);
      history = history ∙ o.history;
      many = omega (arith, total-set (λ (u : View). length u.made) st.views id v w me, o.many);
      once = λ k. omega (arith, total-set (λ (u : View). times_numbered k u.made) st.views id v w me, o.once k);
      drawing = omega (arith, total-set (λ (u : View). length u.numbers) st.views id v w me, o.drawing, drawing);
      owners = λ c. let same = total-set (λ (u : View). occurrences c u.numbers) st.views id v w me in
          let keep : total (λ (u : View). occurrences c u.numbers) (set st.views id w) ≡ total (λ (u : View). occurrences c u.numbers) st.views =
          omega (arith, same) in
          keep ∙ o.owners c ∙ ap (λ (n : ℕ). bit (std.nat_lt c n)) (sym drawing);
      asked = λ c. omega (arith, total-set (λ (u : View). asks_by c u.made) st.views id v w me, o.asked c);
      taken = λ q low. omega (arith, total-set (holding q) st.views id v w me, o.taken q low, holds q low);
      counts = λ q low. omega (arith, total-set (met_of q) st.views id v w me, total-set (cleared_of q) st.views id v w me, o.counts q low, meets q low);
      home = homes;
      each = λ j u e. subst (λ (n : ℕ). FitsStage plan.shape o.schedule n u) (sym drawing)
          (⊎_elim (λ t. subst (FitsStage plan.shape o.schedule (next_in plan st.words)) t.1 fits) (λ t. o.each j u t.1) (at_set st.views id j w u e));
    } in
    (kept, refl)
