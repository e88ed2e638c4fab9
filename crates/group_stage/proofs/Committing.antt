-- A call becomes an event: the rule is kept with the schedule one event longer.
use Rattle.std.proofs.Common.{ℕ, suc, ◌≡◌, ◌≢◌, ◌<◌, ◌≤◌, ◌+◌, ◌%◌, ⊎_elim, List, [], ◌∷◌, ◌++◌, length, map, get_or}
use Rattle.std.proofs.Common.{set, refl, sym, ap, subst, ◌∙◌, arith, length-set, get_or-set_other, get_or-set_same}
use Rattle.std.proofs.Common.{length-append}
use Rattle.std.specs.Prelude as std
use Rattle.std.proofs.lemmas.Bool.{cases_eq}
use mathlib.Core.Option.{none, some}
use lib.ListN.{get_elem?}
use Rattle.atomic_table.specs.Table.{Allows, keeps, step}
use Rattle.atomic_table.proofs.Lists.{at_set}
use Rattle.group_types.specs.Dimensions.{Dimensions, processes_of}
use Rattle.group_calls.specs.declared.event.Event.{Event}
use Rattle.group_run.specs.Locality.{occurrences}
use Rattle.group_run.specs.World.{names}
use Rattle.group_node.specs.Standing.{NodeStanding}
use Rattle.group_stage.specs.Conditions.{CanCommit}
use Rattle.group_types.specs.Each.{Each}
use Rattle.group_stage.specs.Counts.{bit, flag, total}
use Rattle.group_stage.specs.Kept.{FitsStage, KeepsPlan}
use Rattle.group_stage.specs.Places.{history_word, word_in, word_of}
use Rattle.group_stage.specs.Schedules.{standing_at}
use Rattle.group_stage.specs.Steps.{Sat}
use Rattle.group_stage.specs.Views.{asks_by, cleared_of, holding, met_of, times_numbered}
use Rattle.group_stage.specs.declared.view.Plan.{Plan}
use Rattle.group_stage.specs.declared.view.View.{View}
use Rattle.group_stage.proofs.Sums.{flag_le, term_le, terms_le, times-here, total-set}
use Rattle.group_stage.proofs.Moves.{St, knows, next_in, stage}
use Rattle.std.proofs.Common.{append_assoc, append-nil}
use Rattle.group_run.specs.Headline.{IsRun}
use Rattle.group_run.specs.World.{after}
use Rattle.group_stage.specs.Kept.{IsAnswered}
use Rattle.group_stage.specs.Schedules.{StartsWith, answer_at}
use Rattle.group_stage.specs.Steps.{Commits}
use Rattle.group_stage.specs.Views.{committed, nodes_held_at}
use Rattle.group_stage.specs.declared.view.Numbered.{Numbered}
use Rattle.group_types.proofs.Eaches.{each-both, each-weaker}
use Rattle.group_stage.proofs.Sums.{bit-more, each-snoc}
use Rattle.group_stage.proofs.Moves.{few_events, owned_asks}
use Rattle.group_stage.proofs.Runs.{asked-more, last-answered, run-more, stands, still-answered}
use Rattle.group_core.proofs.Schedules.{shape-is}
use Rattle.group_stage.proofs.Taking.{Goes}

pub drawn-append : (k : ℕ) (xs ys : List Numbered) → times_numbered k (xs ++ ys) ≡ times_numbered k xs + times_numbered k ys
drawn-append k [] ys = omega arith
drawn-append k (x ∷ xs) ys = let more = drawn-append k xs ys in omega (arith, more)

pub asks-append : (c : ℕ) (xs ys : List Numbered) → asks_by c (xs ++ ys) ≡ asks_by c xs + asks_by c ys
asks-append c [] ys = omega arith
asks-append c (x ∷ xs) ys = let more = asks-append c xs ys in omega (arith, more)

places-stay : (s : Dimensions) (es : List Event) (hs : List (ℕ × NodeStanding)) → map (λ h. h.0) (nodes_held_at s es hs) ≡ map (λ h. h.0) hs
places-stay s es [] = refl
places-stay s es (h ∷ hs) = ap (λ (rest : List ℕ). h.0 ∷ rest) (places-stay s es hs)

each-place : (P : ℕ → Type 0) (s : Dimensions) (es : List Event) (hs : List (ℕ × NodeStanding)) → Each (λ h. P h.0) hs
    → Each (λ h. P h.0) (nodes_held_at s es hs)
each-place P s es [] all = tt
each-place P s es (h ∷ hs) all = (all.0, each-place P s es hs all.1)

held-fits : (s t : Dimensions) (es : List Event) (hs : List (ℕ × NodeStanding)) → t ≡ s → Each (λ h. h.1 ≡ standing_at s es h.0) (nodes_held_at t es hs)
held-fits s t es [] same = tt
held-fits s t es (h ∷ hs) same = (ap (λ (x : Dimensions). standing_at x es h.0) same, held-fits s t es hs same)

-- each node that is held is counted
each-counted : (hs ks : List (ℕ × NodeStanding)) → ((q : ℕ) → occurrences q (map (λ h. h.0) hs) ≤ occurrences q (map (λ h. h.0) ks))
    → Each (λ h. 0 < occurrences h.0 (map (λ h. h.0) ks)) hs
each-counted [] ks le = tt
each-counted (h ∷ hs) ks le = (
  (let one = times-here h.0 (map (λ h. h.0) hs) in let most = le h.0 in omega (arith, one, most)),
  each-counted hs ks (λ q. let most = le q in omega (arith, most)),
)

module _ (plan : Plan) (st : St) (o : KeepsPlan plan st) (id : ℕ) (v : View) (me : get_elem? st.views id ≡ some v) (can : CanCommit plan v) where
  abbrev es : List Event
  es = o.schedule

  abbrev e : Event
  e = v.call

  abbrev w : View
  w = committed o.schedule v

  shape : v.shape ≡ plan.shape
  shape = (o.each id v me).shape (let part = can.part in omega (arith, part))

  -- a process whose node someone else has, or nobody, isn't named
  not-named : (q : ℕ) → q < processes_of plan.shape → holding q v ≡ 0 → occurrences q (names plan.shape e) ≡ 0
  not-named q low none_held = ⊎_elim (λ (z : occurrences q (names plan.shape e) ≡ 0). z)
      (λ ne. absurd (let some_held = can.holds q low (omega (arith, ne)) in omega (arith, some_held, none_held)))
      (cases_eq (occurrences q (names plan.shape e)) 0)

  -- and stands as it stood
  pub still : (q : ℕ) → q < processes_of plan.shape → holding q v ≡ 0 → standing_at plan.shape (es ++ e ∷ []) q ≡ standing_at plan.shape es q
  still q low none_held = stands plan.shape es e q o.run low (not-named q low none_held)

  run : IsRun plan.shape (es ++ e ∷ [])
  run = run-more plan.shape es e o.run (can.may (after plan.shape es) (shape-is plan.shape es) (λ c own. owned_asks plan st o id v me c own))

  starts : (u : View) → StartsWith es u.seen → StartsWith (es ++ e ∷ []) u.seen
  starts u seen = record { rest = seen.rest ++ e ∷ []; whole = ap (λ (xs : List Event). xs ++ e ∷ []) seen.whole ∙ append_assoc u.seen seen.rest (e ∷ []) }

  mine : FitsStage plan.shape (es ++ e ∷ []) (next_in plan st.words) w
  mine =
      let fits = o.each id v me in
      record {
        shape = fits.shape;
        inside = each-place (λ q. q < processes_of plan.shape) v.shape (es ++ e ∷ []) v.held fits.inside;
        held = held-fits plan.shape v.shape (es ++ e ∷ []) v.held shape;
        named = each-place (λ q. 0 < occurrences q (names plan.shape e)) v.shape (es ++ e ∷ []) v.held fits.named;
        made = each-snoc (IsAnswered plan.shape (es ++ e ∷ [])) v.made _
            (each-weaker (IsAnswered plan.shape es) (IsAnswered plan.shape (es ++ e ∷ []))
            (λ x is. still-answered plan.shape es (e ∷ []) x is) v.made fits.made)
            (subst (λ (s : Dimensions). IsAnswered plan.shape (es ++ e ∷ [])
            (record { number = length es; event = e; answer = answer_at s es e })) (sym shape)
            (last-answered plan.shape es e));
        few = let long = length-append v.made (record { number = length es; event = e; answer = answer_at v.shape es e }
            ∷ []) in let few = fits.few in let due = can.due in omega (arith, long, few, due);
        calls = fits.calls;
        numbers = fits.numbers;
        no_parts = λ z. absurd (let part = can.part in omega (arith, z, part));
        seen = record { rest = []; whole = sym (append-nil (es ++ e ∷ [])) };
        own = λ c none_own. let more = asks-append c v.made (record { number = length es; event = e; answer = answer_at v.shape es e } ∷ []) in
            let a = fits.own c none_own in let b = can.own c none_own in omega (arith, more, a, b);
        pen = fits.pen;
      }

  -- another seat's view fits the longer schedule
  other : (j : ℕ) (u : View) → j ≢ id → get_elem? st.views j ≡ some u → FitsStage plan.shape (es ++ e ∷ []) (next_in plan st.words) u
  other j u apart at_j =
      let fits = o.each j u at_j in
      record {
        shape = fits.shape;
        inside = fits.inside;
        held = each-weaker (λ h. ((0 < occurrences h.0 (map (λ h. h.0) u.held)) × (h.0 < processes_of plan.shape))
            × (h.1 ≡ standing_at plan.shape es h.0)) (λ h. h.1 ≡ standing_at plan.shape (es ++ e ∷ []) h.0)
            (λ h is. is.1 ∙ sym (still h.0 is.0.1
            (let two = terms_le (holding h.0) st.views id j v u apart me at_j in
            let one = flag_le (word_in st.words h.0) in omega (arith, two, one, o.taken h.0 is.0.1, is.0.0))))
            u.held
            (each-both (λ h. (0 < occurrences h.0 (map (λ h. h.0) u.held)) × (h.0 < processes_of plan.shape)) (λ h. h.1 ≡ standing_at plan.shape es h.0) u.held
            (each-both (λ h. 0 < occurrences h.0 (map (λ h. h.0) u.held)) (λ h. h.0 < processes_of plan.shape) u.held
            (each-counted u.held u.held (λ q. omega arith)) fits.inside)
            fits.held);
        named = fits.named;
        made = each-weaker (IsAnswered plan.shape es) (IsAnswered plan.shape (es ++ e ∷ []))
            (λ x is. still-answered plan.shape es (e ∷ []) x is) u.made fits.made;
        few = fits.few;
        calls = fits.calls;
        numbers = fits.numbers;
        no_parts = fits.no_parts;
        seen = starts u fits.seen;
        own = fits.own;
        pen = fits.pen;
      }

  module _ (n : ℕ) (n-is : n ≡ suc (length o.schedule)) where
    within : history_word plan.shape < length st.words
    within = omega (arith, o.wide)

    word-stays : (q : ℕ) → q ≢ processes_of plan.shape → word_in (set st.words (history_word plan.shape) n) q ≡ word_in st.words q
    word-stays q apart = get_or-set_other st.words (history_word plan.shape) (word_of q) n 0 (λ x. apart (omega (arith, x)))

    next-stays : next_in plan (set st.words (history_word plan.shape) n) ≡ next_in plan st.words
    next-stays = word-stays (processes_of plan.shape + 1) (λ x. omega (arith, x))

    longer : length (o.schedule ++ v.call ∷ []) ≡ suc (length o.schedule)
    longer = let long = length-append o.schedule (v.call ∷ []) in omega (arith, long)

    entry : Numbered
    entry = record { number = length o.schedule; event = v.call; answer = answer_at v.shape o.schedule v.call }

    pub commit-kept : KeepsPlan plan (stage (set st.words (history_word plan.shape) n) st.homes (set st.views id w))
    commit-kept = record {
      schedule = es ++ e ∷ [];
      run = run;
      wide = length-set st.words (history_word plan.shape) n ∙ o.wide;
      long = o.long;
      seats = o.seats;
      parts = omega (arith, total-set (λ (u : View). u.parts) st.views id v w me, o.parts);
      pens = omega (arith, total-set (λ (u : View). u.pens) st.views id v w me, o.pens);
      history = get_or-set_same st.words (history_word plan.shape) n 0 within ∙ n-is ∙ sym longer;
      many = let long = length-append v.made (record { number = length es; event = e; answer = answer_at v.shape es e } ∷ []) in
          omega (arith, total-set (λ (u : View). length u.made) st.views id v w me, o.many, long, longer);
      once = λ k.
          let more = drawn-append k v.made (record { number = length es; event = e; answer = answer_at v.shape es e } ∷ []) in
          let bits = bit-more k (length es) in
          let all : total (λ (u : View). times_numbered k u.made) (set st.views id w) ≡ bit (std.nat_lt k (suc (length es))) =
          omega (arith, total-set (λ (u : View). times_numbered k u.made) st.views id v w me, o.once k, more, bits) in
          all ∙ ap (λ (x : ℕ). bit (std.nat_lt k x)) (sym longer);
      drawing = omega (arith, total-set (λ (u : View). length u.numbers) st.views id v w me, o.drawing, next-stays);
      owners = λ c. let same = total-set (λ (u : View). occurrences c u.numbers) st.views id v w me in
          let keep : total (λ (u : View). occurrences c u.numbers) (set st.views id w) ≡ total (λ (u : View). occurrences c u.numbers) st.views =
          omega (arith, same) in
          keep ∙ o.owners c ∙ ap (λ (x : ℕ). bit (std.nat_lt c x)) (sym next-stays);
      asked = λ c. let more = asks-append c v.made (record { number = length es; event = e; answer = answer_at v.shape es e } ∷ []) in
          asked-more plan.shape es e c ∙ omega (arith, total-set (λ (u : View). asks_by c u.made) st.views id v w me, o.asked c, more);
      taken = λ q low. let stay = ap (occurrences q) (places-stay v.shape (es ++ e ∷ []) v.held) in let same =
          ap flag (word-stays q (λ x. omega (arith, x, low))) in
          omega (arith, total-set (holding q) st.views id v w me, o.taken q low, stay, same);
      counts = λ q low. let word = word-stays q (λ x. omega (arith, x, low)) in let same = ap flag word in
          omega (arith, total-set (met_of q) st.views id v w me, total-set (cleared_of q) st.views id v w me, o.counts q low, word, same);
      home = λ q low zero_now. let free = sym (word-stays q (λ x. omega (arith, x, low))) ∙ zero_now in
          o.home q low free ∙ ap (λ (z : NodeStanding). some (some (std.Some z)))
          (sym (still q low (let mine_too = term_le (holding q) st.views id v me in let z = ap flag free in
          omega (arith, mine_too, o.taken q low, z))));
      each = λ j u at_j. subst (λ (x : ℕ). FitsStage plan.shape (es ++ e ∷ []) x u) (sym next-stays)
          (⊎_elim (λ t. subst (FitsStage plan.shape (es ++ e ∷ []) (next_in plan st.words)) t.1 mine) (λ t. other j u t.0 t.1) (at_set st.views id j w u at_j));
    }

pub commits : (plan : Plan) (slots id : ℕ) (m : Sat) (i : ℕ) → i ≡ history_word plan.shape → CanCommit plan m.0
    → Allows (KeepsPlan plan) slots id m i (λ n. (n + 1) % 18446744073709551616) (Commits (step slots i 1 0 none) m)
commits plan slots id m i here can st o wide me low =
    let v : View = m.0 in
    let due : 0 < v.due = let d = can.due in omega (arith, d) in
    let parts : 0 < v.parts = let d = can.part in omega (arith, d) in
    let few = few_events plan st o id v me due in
    let found : std.slice_index st.words (history_word plan.shape) ≡ length o.schedule = o.history in
    let next : (std.slice_index st.words (history_word plan.shape) + 1) % 18446744073709551616 ≡ suc (length o.schedule) = omega (arith, found, few) in
    subst (λ (j : ℕ). Goes plan st j id m (Commits (step slots j 1 0 none) m) ((get_or st.words j 0 + 1) % 18446744073709551616)) (sym here) (
      committed o.schedule v,
      keeps,
      tt,
      commit-kept plan st o id v me can ((std.slice_index st.words (history_word plan.shape) + 1) % 18446744073709551616) next,
      (o.schedule, knows plan st o id v me parts due, refl),
    )
