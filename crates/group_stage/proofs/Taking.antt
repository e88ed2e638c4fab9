-- A call takes a word, or meets it held, and gives a word back.
use Rattle.std.proofs.Common.{ℕ, zero, suc, ◌≡◌, ◌≢◌, ◌<◌, ◌+◌, ◌%◌, ⊎_elim, List, [], ◌∷◌, ◌++◌, length, map, get_or}
use Rattle.std.proofs.Common.{set, refl, sym, ap, subst, ◌∙◌, arith, length-set, get_or-set_other, get_or-set_same}
use Rattle.std.proofs.Common.{length-append}
use Rattle.std.specs.Prelude as std
use Rattle.std.proofs.lemmas.Bool.{cases_eq}
use mathlib.Core.Option.{none, some}
use lib.ListN.{get_elem?}
use Rattle.atomic_table.specs.Table.{Act, Allows, Valid, carried_after, keeps, step, stepped, takes}
use Rattle.atomic_table.proofs.Lists.{set_else, set_here}
use Rattle.group_types.specs.Dimensions.{Dimensions, processes_of}
use Rattle.group_calls.specs.declared.event.Event.{Event}
use Rattle.group_run.specs.Locality.{occurrences}
use Rattle.group_run.specs.World.{names}
use Rattle.group_node.specs.Standing.{NodeStanding}
use Rattle.group_stage.specs.Conditions.{CanBegin, CanTake}
use Rattle.group_types.specs.Each.{Each}
use Rattle.group_stage.specs.Counts.{flag}
use Rattle.group_stage.specs.Kept.{FitsStage, KeepsPlan}
use Rattle.group_stage.specs.Places.{history_word, slot_of, word_in, word_of, word_process}
use Rattle.group_stage.specs.Schedules.{standing_at}
use Rattle.group_stage.specs.Steps.{IsNodeTaken, Knows, Sat, TakesFirstWord, TakesNextWord, TakesWord}
use Rattle.group_stage.specs.Views.{begun, cleared_of, holding, met_of, with_met, with_node_held}
use Rattle.group_stage.specs.declared.view.Plan.{Plan}
use Rattle.group_stage.specs.declared.view.View.{View}
use Rattle.group_stage.proofs.Sums.{at_within, times-append, times-else, times-here}
use Rattle.group_stage.proofs.Moves.{Keeps, St, again, changed, knows, next_in, stage, word_bound}

-- what a step on a process's word may come to
abbrev pub Goes : Plan → St → ℕ → ℕ → Sat → (ℕ → Sat → Type 0) → ℕ → Type 0
Goes plan st i id m then n = (w : View) × (a : Act (std.Option NodeStanding)) × Valid st.homes m.1 a
    × KeepsPlan plan (stepped st i n id m.1 w a) × then (get_or st.words i 0) (w, carried_after m.1 a)

-- the words where one process's is changed
module _ (plan : Plan) (ws : List ℕ) (wide : length ws ≡ word_of (processes_of plan.shape + 2)) (p n : ℕ) (within : p < processes_of plan.shape) where
  pub word-here : word_in (set ws (word_of p) n) p ≡ n
  word-here = get_or-set_same ws (word_of p) n 0 (omega (arith, wide, within))

  pub word-else : (q : ℕ) → q ≢ p → word_in (set ws (word_of p) n) q ≡ word_in ws q
  word-else q other = get_or-set_other ws (word_of p) (word_of q) n 0 (λ e. other (omega (arith, e)))

  pub history-else : std.slice_index (set ws (word_of p) n) (history_word plan.shape) ≡ std.slice_index ws (history_word plan.shape)
  history-else = word-else (processes_of plan.shape) (λ e. omega (arith, e, within))

  pub drawing-else : next_in plan (set ws (word_of p) n) ≡ next_in plan ws
  drawing-else = word-else (processes_of plan.shape + 1) (λ e. omega (arith, e, within))

-- its word is where the process is
pub place-is : (p : ℕ) → word_process (word_of p) ≡ p
place-is p = omega arith

-- the view with its call under way, before the word is taken
module _ (plan : Plan) (st : St) (o : KeepsPlan plan st) (id : ℕ) (v : View) (me : get_elem? st.views id ≡ some v) (call : Event) (calls due p : ℕ)
    (fit : FitsStage plan.shape o.schedule (next_in plan st.words) (again v call calls due v.held v.met v.cleared)) (is_due : 0 < due) (parts : 0 < v.parts)
    (within : p < processes_of plan.shape) (named : 0 < occurrences p (names plan.shape call)) where
  s : Dimensions
  s = plan.shape

  abbrev u : View
  u = again v call calls due v.held v.met v.cleared

  abbrev y : NodeStanding
  y = standing_at plan.shape o.schedule p

  free-kept : word_in st.words p ≡ 0
      → Keeps plan st o (stage (set st.words (word_of p) 1) (set st.homes (slot_of p) none) (set st.views id (with_node_held u p y)))
  free-kept free =
      let here = word-here plan st.words o.wide p 1 within in
      let else = word-else plan st.words o.wide p 1 within in
      changed plan st o id v call calls due ((p, y) ∷ v.held) v.met v.cleared (set st.words (word_of p) 1) (set st.homes (slot_of p) none) me
      (length-set st.words (word_of p) 1) (length-set st.homes (slot_of p) none)
      (history-else plan st.words o.wide p 1 within) (drawing-else plan st.words o.wide p 1 within)
      (λ q low. ⊎_elim
      (λ (e : q ≡ p). subst (λ (x : ℕ). occurrences x (p ∷ map (λ h. h.0) v.held) + flag (word_in st.words x)
      ≡ holding x v + flag (word_in (set st.words (word_of p) 1) x)) (sym e)
      (let a = times-here p (map (λ h. h.0) v.held) in let b = ap flag free in let c = ap flag here in omega (arith, a, b, c)))
      (λ (ne : q ≢ p). let a = times-else q p (map (λ h. h.0) v.held) (λ e. ne (sym e)) in let b = ap flag (else q ne) in omega (arith, a, b))
      (cases_eq q p))
      (λ q low. ⊎_elim
      (λ (e : q ≡ p). subst (λ (x : ℕ). met_of x v + flag (word_in (set st.words (word_of p) 1) x) + cleared_of x
      v + word_in st.words x ≡ met_of x v + flag (word_in st.words x) + cleared_of x v + word_in
      (set st.words (word_of p) 1) x) (sym e)
      (let b = ap flag free in let c = ap flag here in omega (arith, b, c, free, here)))
      (λ (ne : q ≢ p). let b = ap flag (else q ne) in omega (arith, b, else q ne))
      (cases_eq q p))
      (λ q low zero_now. ⊎_elim
      (λ (e : q ≡ p). absurd (let one = ap (word_in (set st.words (word_of p) 1)) e in omega (arith, one, here, zero_now)))
      (λ (ne : q ≢ p). set_else st.homes (slot_of p) (slot_of q) none (λ e. ne (omega (arith, e))) ∙ o.home q low (sym (else q ne) ∙ zero_now))
      (cases_eq q p))
      (record {
        shape = fit.shape;
        inside = (within, fit.inside);
        held = (refl, fit.held);
        named = (named, fit.named);
        made = fit.made;
        few = fit.few;
        calls = fit.calls;
        numbers = fit.numbers;
        no_parts = λ z. absurd (omega (arith, z, parts));
        seen = fit.seen;
        own = fit.own;
        pen = fit.pen;
      })

  met-kept : (k : ℕ) → word_in st.words p ≡ suc k → Keeps plan st o (stage (set st.words (word_of p) (suc k + 1)) st.homes (set st.views id (with_met u p)))
  met-kept k is =
      let here = word-here plan st.words o.wide p (suc k + 1) within in
      let else = word-else plan st.words o.wide p (suc k + 1) within in
      let up : flag (suc k + 1) ≡ 1 = flag-up (suc k + 1) (omega arith) in
      changed plan st o id v call calls 0 v.held (v.met ++ p ∷ []) v.cleared (set st.words (word_of p) (suc k + 1)) st.homes me
      (length-set st.words (word_of p) (suc k + 1)) refl (history-else plan st.words o.wide p (suc k + 1) within)
      (drawing-else plan st.words o.wide p (suc k + 1) within)
      (λ q low. ⊎_elim
      (λ (e : q ≡ p). subst (λ (x : ℕ). holding x v + flag (word_in st.words x) ≡ holding x v + flag (word_in (set st.words (word_of p) (suc k + 1)) x)) (sym e)
      (let b = ap flag is in let c = ap flag here in omega (arith, b, c, up)))
      (λ (ne : q ≢ p). let b = ap flag (else q ne) in omega (arith, b))
      (cases_eq q p))
      (λ q low. ⊎_elim
      (λ (e : q ≡ p).
      subst (λ (x : ℕ). occurrences x (v.met ++ p ∷ []) + flag
      (word_in (set st.words (word_of p) (suc k + 1)) x) + cleared_of x v + word_in st.words x
      ≡ met_of x v + flag (word_in st.words x) + cleared_of x v + word_in (set st.words (word_of p) (suc k + 1)) x)
      (sym e)
      (let a = times-append p v.met (p ∷ []) in let t = times-here p [] in let b = ap flag is in let c = ap flag here in
      omega (arith, a, t, b, c, up, is, here)))
      (λ (ne : q ≢ p). let a = times-append q v.met (p ∷ []) in let t = times-else q p [] (λ e. ne (sym e)) in
      let b = ap flag (else q ne) in omega (arith, a, t, b, else q ne))
      (cases_eq q p))
      (λ q low zero_now. ⊎_elim
      (λ (e : q ≡ p). absurd (let one = ap (word_in (set st.words (word_of p) (suc k + 1))) e in omega (arith, one, here, zero_now)))
      (λ (ne : q ≢ p). o.home q low (sym (else q ne) ∙ zero_now))
      (cases_eq q p))
      (record {
        shape = fit.shape;
        inside = fit.inside;
        held = fit.held;
        named = fit.named;
        made = fit.made;
        few = let long = length-append v.met (p ∷ []) in let few = fit.few in omega (arith, long, few, is_due);
        calls = fit.calls;
        numbers = fit.numbers;
        no_parts = λ z. absurd (omega (arith, z, parts));
        seen = fit.seen;
        own = fit.own;
        pen = fit.pen;
      })
    where
      flag-up : (n : ℕ) → 0 < n → flag n ≡ 1
      flag-up zero low = absurd (omega (arith, low))
      flag-up (suc n) low = refl

  goes : (slots : List (ℕ × std.Option NodeStanding)) (n : ℕ) → word_in st.words p ≡ n
      → Goes plan st (word_of p) id (v, slots) (TakesWord u p slots) ((word_in st.words p + 1) % 18446744073709551616)
  goes slots zero is =
      let kept = free-kept is in
      let shape : v.shape ≡ plan.shape = fit.shape parts in
      let one : (word_in st.words p + 1) % 18446744073709551616 ≡ 1 = omega (arith, is) in
      let w : View = with_node_held u p y in
      let there : get_elem? (set st.views id w) id ≡ some w = set_here st.views id w (at_within st.views id v me) in (
        w,
        takes (slot_of p) (std.Some y),
        o.home p within is,
        subst (λ (n : ℕ). KeepsPlan plan (stage (set st.words (word_of p) n) (set st.homes (slot_of p) none) (set st.views id w))) (sym one) kept.0,
        subst (λ (n : ℕ). TakesWord u p slots n (w, (slot_of p, std.Some y) ∷ slots)) (sym is)
            (shaped slots shape
            (subst (λ (es : List Event). Knows es w) kept.1
            (knows plan (stage (set st.words (word_of p) 1) (set st.homes (slot_of p) none) (set st.views id w))
            kept.0 id w there parts is_due))),
      )
    where
      shaped : (slots : List (ℕ × std.Option NodeStanding)) → v.shape ≡ plan.shape → Knows o.schedule (with_node_held u p y)
          → (es : List Event) × IsNodeTaken u p slots (with_node_held u p y, (slot_of p, std.Some y) ∷ slots) es
      shaped slots shape k = (
        o.schedule,
        record {
          knows = subst (λ (t : Dimensions). Knows o.schedule (with_node_held u p (standing_at t o.schedule p))) (sym shape) k;
          seat = ap (λ (t : Dimensions). (with_node_held u p (standing_at t o.schedule p), (slot_of p, std.Some (standing_at t o.schedule p)) ∷ slots))
              (sym shape);
        },
      )
  goes slots (suc k) is =
      let bound = word_bound plan st o p within in
      let next : (word_in st.words p + 1) % 18446744073709551616 ≡ suc k + 1 = omega (arith, is, bound) in (
        with_met u p,
        keeps,
        tt,
        subst (λ (n : ℕ). KeepsPlan plan (stage (set st.words (word_of p) n) st.homes (set st.views id (with_met u p)))) (sym next) (met-kept k is).0,
        subst (λ (n : ℕ). TakesWord u p slots n (with_met u p, slots)) (sym is) refl,
      )

module _ (plan : Plan) (slots id : ℕ) (m : Sat) (p i : ℕ) (here : i ≡ word_of p) where
  pub begins : (e : Event) → CanBegin plan m.0 e p
      → Allows (KeepsPlan plan) slots id m i (λ n. (n + 1) % 18446744073709551616) (TakesFirstWord e (step slots i 1 0 none) m)
  begins e can st o wide me low =
      let v : View = m.0 in
      let fits = o.each id v me in
      let fit : FitsStage plan.shape o.schedule (next_in plan st.words) (again v e (v.calls + 1) 1 v.held v.met v.cleared) = record {
        shape = fits.shape;
        inside = fits.inside;
        held = fits.held;
        named = subst (Each (λ h. 0 < occurrences h.0 (names plan.shape e))) (sym can.idle) tt;
        made = fits.made;
        few = let few = fits.few in omega (arith, few);
        calls = let part = can.part in let calls = can.calls in omega (arith, part, calls);
        numbers = fits.numbers;
        no_parts = λ z. absurd (omega (arith, z, can.part));
        seen = fits.seen;
        own = fits.own;
        pen = fits.pen;
      } in
      let found = goes plan st o id v me e (v.calls + 1) 1 p fit (omega arith) (let part = can.part in
      omega (arith, part)) can.within can.named m.1 (word_in st.words p) refl in
      at-word found
    where
      at-word : Goes plan st (word_of p) id (m.0, m.1) (TakesWord (begun e m.0) p m.1) ((word_in st.words p + 1) % 18446744073709551616)
          → Goes plan st i id m (TakesFirstWord e (step slots i 1 0 none) m) ((get_or st.words i 0 + 1) % 18446744073709551616)
      at-word found = subst (λ (j : ℕ). Goes plan st j id m (TakesFirstWord e (step slots j 1 0 none) m) ((get_or st.words j 0 + 1) % 18446744073709551616))
          (sym here)
          (subst (λ (q : ℕ). Goes plan st (word_of p) id m (TakesWord (begun e m.0) q m.1)
          ((word_in st.words p + 1) % 18446744073709551616)) (sym (place-is p)) found)

  pub takes-next : CanTake plan m.0 p → Allows (KeepsPlan plan) slots id m i (λ n. (n + 1) % 18446744073709551616) (TakesNextWord (step slots i 1 0 none) m)
  takes-next can st o wide me low =
      let v : View = m.0 in
      let found = goes plan st o id v me v.call v.calls v.due p (o.each id v me) (let due = can.due in
      omega (arith, due)) (let part = can.part in omega (arith, part)) can.within can.named m.1 (word_in st.words p)
      refl in
      at-word found
    where
      at-word : Goes plan st (word_of p) id (m.0, m.1) (TakesWord m.0 p m.1) ((word_in st.words p + 1) % 18446744073709551616)
          → Goes plan st i id m (TakesNextWord (step slots i 1 0 none) m) ((get_or st.words i 0 + 1) % 18446744073709551616)
      at-word found = subst (λ (j : ℕ). Goes plan st j id m (TakesNextWord (step slots j 1 0 none) m) ((get_or st.words j 0 + 1) % 18446744073709551616))
          (sym here)
          (subst (λ (q : ℕ). Goes plan st (word_of p) id m (TakesWord m.0 q m.1) ((word_in st.words p + 1) % 18446744073709551616)) (sym (place-is p)) found)
