-- The run of an update is found in the lines that tell it.
use Rattle.std.proofs.Common.{◌≡◌, ◌≢◌, inl, inr, ◌<◌, ◌+◌, ◌^◌, ◌==◌, ℕ, zero, suc, true, false, List, [], ◌∷◌, ◌++◌}
use Rattle.std.proofs.Common.{◌∙◌, map, length, Option, Some, None, append_assoc, refl, sym, ap, subst, arith}
use Rattle.std.proofs.lemmas.List.{append-nil, length-append}
use Rattle.group_types.specs.Dimensions.{Dimensions}
use Rattle.group_types.specs.Lists.{at}
use Rattle.group_types.specs.declared.run.Run.{Run}
use Rattle.group_calls.specs.Turns.{log_of}
use Rattle.group_calls.specs.declared.entry.Entry.{Entry}
use Rattle.group_calls.specs.declared.event.Answer.{Answer}
use Rattle.group_calls.specs.declared.event.Answer.TheVariants as answered
use Rattle.group_calls.specs.declared.event.Cause.TheVariants.{Pending, Block}
use Rattle.scenario_text.specs.Texts.{answer_text, entry_text, place_text, shown_text}
use Rattle.run_verify.specs.Passing.{IsRunIn, RunFitsValue}
use Rattle.run_verify.specs.Plain.{EndsPlacing}
use Rattle.run_verify.specs.Told.{Made, Drained, Shown, Lost, Down, Placed}
use Rattle.run_verify.specs.Told.{CanBeTold, TellAll, ToldStep, count_placed, drained_line, lines_told, place_lines}
use Rattle.run_verify.specs.Told.{placed_line, run_lines, runs_told, runs_told_in, told_lines}
use Rattle.run_verify.specs.declared.step.Step.{Step}
use Rattle.run_verify.specs.declared.step.Step.TheVariants.{Make, Deliveries, Look, Placing}
use Rattle.run_verify.proofs.ExactOnce.{place_once}

-- none of these lines tells the place of this update
abbrev NoneOf : ℕ → ℕ → List (List ℕ) → Type 0
NoneOf d n [] = Unit {0}
NoneOf d n (line ∷ lines) = ((run : Run) → line ≢ place_text d n run) × NoneOf d n lines

none-append : (d n : ℕ) (xs ys : List (List ℕ)) → NoneOf d n xs → NoneOf d n ys → NoneOf d n (xs ++ ys)
none-append d n [] ys none more = more
none-append d n (x ∷ xs) ys (first, none) more = (first, none-append d n xs ys none more)

behind-none : (s : Dimensions) (d n len : ℕ) (found : Option Run) (xs ys : List (List ℕ)) → NoneOf d n xs
    → IsRunIn ys s d n len found → IsRunIn (xs ++ ys) s d n len found
behind-none s d n len found [] ys none is = is
behind-none s d n len found (x ∷ xs) ys (first, none) is = inr ((λ run text fits. first run text), behind-none s d n len found xs ys none is)

-- ---- lines of another kind

starts-other : (d n : ℕ) (line : List ℕ) → (at 0 line 0 == 112) ≡ false → (run : Run) → line ≢ place_text d n run
starts-other d n line other run same = let yes' : (at 0 line 0 == 112) ≡ true = ap (λ (t : List ℕ). at 0 t 0 == 112) same in cc (sym other ∙ yes')

no-answer : (d n : ℕ) (answer : Answer) (run : Run) → answer_text answer ≢ place_text d n run
no-answer d n (answered.Reply reply) = starts-other d n (answer_text (answered.Reply reply)) refl
no-answer d n (answered.Ticket m) = starts-other d n (answer_text (answered.Ticket m)) refl
no-answer d n answered.NotYet = starts-other d n (answer_text answered.NotYet) refl
no-answer d n answered.NoSpace = starts-other d n (answer_text answered.NoSpace) refl
no-answer d n (answered.Retry (Pending p m)) = starts-other d n (answer_text (answered.Retry (Pending p m))) refl
no-answer d n (answered.Retry (Block b)) = starts-other d n (answer_text (answered.Retry (Block b))) refl
no-answer d n answered.Moved = starts-other d n (answer_text answered.Moved) refl
no-answer d n answered.Lost = starts-other d n (answer_text answered.Lost) refl
no-answer d n answered.Down = starts-other d n (answer_text answered.Down) refl
no-answer d n answered.Idle = starts-other d n (answer_text answered.Idle) refl
no-answer d n answered.Stranger = starts-other d n (answer_text answered.Stranger) refl
no-answer d n answered.Done = starts-other d n (answer_text answered.Done) refl
no-answer d n answered.AlreadyDead = starts-other d n (answer_text answered.AlreadyDead) refl
no-answer d n answered.Gone = starts-other d n (answer_text answered.Gone) refl
no-answer d n (answered.Stale call) = starts-other d n (answer_text (answered.Stale call)) refl

no-entries : (d n : ℕ) (es : List Entry) → NoneOf d n (map entry_text es)
no-entries d n [] = tt
no-entries d n (e ∷ es) = (starts-other d n (entry_text e) refl, no-entries d n es)

-- the lines that are told for a step that isn't the one of the places
no-told : (d n : ℕ) (step : Step) (told : ToldStep) → step ≢ Placing → CanBeTold step told → (runs_told_in told ≡ []) × NoneOf d n (told_lines told)
no-told d n step (Made turn) other tells = (refl, (no-answer d n turn.answer, no-entries d n turn.logged))
no-told d n step (Drained turns m) other tells = (
  refl,
  none-append d n (map entry_text (log_of turns)) (drained_line m ∷ []) (no-entries d n (log_of turns))
      (starts-other d n (drained_line m) refl, tt),
)
no-told d n step (Shown stamp bytes) other tells = (refl, (starts-other d n (shown_text stamp bytes) refl, tt))
no-told d n step Lost other tells = (refl, (starts-other d n _ refl, tt))
no-told d n step Down other tells = (refl, (starts-other d n _ refl, tt))
no-told d n Placing (Placed runs) other tells = absurd (other refl)
no-told d n asked told other tells = absurd tells

-- ---- the lines of the places

-- those of another partition
other-runs : (d n e m : ℕ) (runs : List (Option Run)) → d < 2 ^ 64 → n < 2 ^ 64 → e < 2 ^ 64 → m + length runs < 2 ^ 64
    → e ≢ d → NoneOf d n (run_lines e m runs)
other-runs d n e m [] fd fn fe fm other = tt
other-runs d n e m (None ∷ runs) fd fn fe fm other = other-runs d n e (suc m) runs fd fn fe (omega (arith, fm)) other
other-runs d n e m (Some q ∷ runs) fd fn fe fm other =
    ((λ run same. other (place_once e (suc m) d n q run fe (omega (arith, fm)) fd fn same).0), other-runs d n e (suc m) runs fd fn fe (omega (arith, fm)) other)

module _ (s : Dimensions) (d len : ℕ) (run : Run) (fd : d < 2 ^ 64) (fits : RunFitsValue s len run) (back : List (Option Run)) where
  own-run : (front : List (Option Run)) (m : ℕ) (rest : List (List ℕ)) → m + length front + 1 < 2 ^ 64
      → IsRunIn (run_lines d m (front ++ Some run ∷ back) ++ rest) s d (suc (m + length front)) len (Some run)
  own-run [] m rest fm = let one : suc m ≡ suc (m + 0) = omega arith in inl (run, ap (λ (n : ℕ). place_text d n run) one, fits, refl)
  own-run (None ∷ front) m rest fm =
      let one : suc (suc m + length front) ≡ suc (m + suc (length front)) = omega arith in
      subst (λ (n : ℕ). IsRunIn (run_lines d (suc m) (front ++ Some run ∷ back) ++ rest) s d n len (Some run)) one
      (own-run front (suc m) rest (omega (arith, fm)))
  own-run (Some q ∷ front) m rest fm =
      let one : suc (suc m + length front) ≡ suc (m + suc (length front)) = omega arith in
      let here : (r : Run) → place_text d (suc m) q ≢ place_text d (suc (m + suc (length front))) r =
      λ r same. (let n = (place_once d (suc m) d (suc (m + suc (length front))) q r fd (omega (arith, fm)) fd
      (omega (arith, fm)) same).1 in omega (arith, n)) in
      inr (
        (λ r text fit. here r text),
        subst (λ (n : ℕ). IsRunIn (run_lines d (suc m) (front ++ Some run ∷ back) ++ rest) s d n len (Some run)) one
            (own-run front (suc m) rest (omega (arith, fm))),
      )

  -- found among the lines of all partitions from one on
  own-place : (runs : List (List (Option Run))) (e i : ℕ) (front : List (Option Run)) (rest : List (List ℕ)) → e + i ≡ d
      → ((j : ℕ) → length (at [] runs j) + 1 < 2 ^ 64) → length front + 1 < 2 ^ 64 → at [] runs i ≡ front
      ++ Some run ∷ back
      → IsRunIn (place_lines e runs ++ rest) s d (suc (length front)) len (Some run)
  own-place [] e i front rest sum few short is = absurd (let n : 0 ≡ length (front ++ Some run ∷ back) = ap length is in
      omega (arith, n, length-append front (Some run ∷ back)))
  own-place (rs ∷ others) e zero front rest sum few short is =
      let same : e ≡ d = omega (arith, sum) in
      let zero-first : suc (0 + length front) ≡ suc (length front) = omega arith in
      let found = subst
      (λ (n : ℕ). IsRunIn (run_lines d 0 (front ++ Some run ∷ back) ++ (place_lines (suc e) others ++ rest)) s d n len
      (Some run)) zero-first (own-run front 0 (place_lines (suc e) others ++ rest) (omega (arith, short))) in
      let own = subst
      (λ (x : ℕ). IsRunIn (run_lines x 0 (front ++ Some run ∷ back) ++ (place_lines (suc e) others ++ rest)) s d
      (suc (length front)) len (Some run)) (sym same) found in
      let all = subst (λ (x : List (Option Run)). IsRunIn (run_lines e 0 x ++ (place_lines (suc e) others ++ rest)) s d
      (suc (length front)) len (Some run)) (sym is) own in
      subst (λ (t : List (List ℕ)). IsRunIn t s d (suc (length front)) len (Some run))
      (sym (append_assoc (run_lines e 0 rs) (place_lines (suc e) others) rest)) all
  own-place (rs ∷ others) e (suc i) front rest sum few short is =
      let behind = own-place others (suc e) i front rest (omega (arith, sum)) (λ j. few (suc j)) short is in
      let low = few 0 in
      let none = other-runs d (suc (length front)) e 0 rs fd (omega (arith, short)) (omega (arith, fd, sum))
      (omega (arith, low)) (λ same. omega (arith, sum, same)) in
      subst (λ (t : List (List ℕ)). IsRunIn t s d (suc (length front)) len (Some run)) (sym (append_assoc (run_lines e 0 rs) (place_lines (suc e) others) rest))
      (behind-none s d (suc (length front)) len (Some run) (run_lines e 0 rs) (place_lines (suc e) others ++ rest) none behind)

  -- found behind the lines of another step
  behind-told : (told : ToldStep) (more : List ToldStep) (front : List (Option Run)) → (runs_told_in told ≡ [])
      × NoneOf d (suc (length front)) (told_lines told)
      → ((j : ℕ) → length (at [] (runs_told (told ∷ more)) j) + 1 < 2 ^ 64)
      → at [] (runs_told (told ∷ more)) d ≡ front ++ Some run ∷ back
      → (((j : ℕ) → length (at [] (runs_told more) j) + 1 < 2 ^ 64) → at [] (runs_told more) d ≡ front
      ++ Some run ∷ back → IsRunIn (lines_told more) s d (suc (length front)) len (Some run))
      → IsRunIn (lines_told (told ∷ more)) s d (suc (length front)) len (Some run)
  behind-told told more front (none, skips) few is onward =
      let same : runs_told (told ∷ more) ≡ runs_told more = ap (λ (r : List (List (Option Run))). r ++ runs_told more) none in
      behind-none s d (suc (length front)) len (Some run) (told_lines told) (lines_told more) skips
      (onward (subst (λ (r : List (List (Option Run))). (j : ℕ) → length (at [] r j) + 1 < 2 ^ 64) same few)
      (sym (ap (λ (r : List (List (Option Run))). at [] r d) same) ∙ is))

  -- found among all lines
  pub run_found : (steps : List Step) (told : List ToldStep) (front : List (Option Run)) → EndsPlacing steps
      → TellAll steps told → ((j : ℕ) → length (at [] (runs_told told) j) + 1 < 2 ^ 64) → length front + 1 < 2 ^ 64
      → at [] (runs_told told) d ≡ front ++ Some run ∷ back → IsRunIn (lines_told told) s d (suc (length front)) len (Some run)
  run_found [] told front ends tells few short is = absurd ends
  run_found (step ∷ steps) [] front ends tells few short is = absurd tells
  run_found (Make event ∷ steps) (told ∷ more) front ends (tell, tells) few short is =
      behind-told told more front (no-told d (suc (length front)) (Make event) told (λ e. cc e) tell) few is
      (λ few' is'. run_found steps more front ends tells few' short is')
  run_found (Deliveries ∷ steps) (told ∷ more) front ends (tell, tells) few short is =
      behind-told told more front (no-told d (suc (length front)) Deliveries told (λ e. cc e) tell) few is
      (λ few' is'. run_found steps more front ends tells few' short is')
  run_found (Look p seen ∷ steps) (told ∷ more) front ends (tell, tells) few short is =
      behind-told told more front (no-told d (suc (length front)) (Look p seen) told (λ e. cc e) tell) few is
      (λ few' is'. run_found steps more front ends tells few' short is')
  run_found (Placing ∷ (step ∷ steps)) (told ∷ more) front ends tells few short is = absurd (cc ends)
  run_found (Placing ∷ []) (told ∷ (next ∷ more)) front ends (tell, tells) few short is = absurd tells
  run_found (Placing ∷ []) (Placed runs ∷ []) front ends (tell, tells) few short is =
      let same : runs_told (Placed runs ∷ []) ≡ runs = append-nil runs in
      let found = own-place runs 0 d front (placed_line (count_placed runs) ∷ []) (omega arith)
      (subst (λ (r : List (List (Option Run))). (j : ℕ) → length (at [] r j) + 1 < 2 ^ 64) same few) short
      (sym (ap (λ (r : List (List (Option Run))). at [] r d) same) ∙ is) in
      subst (λ (t : List (List ℕ)). IsRunIn t s d (suc (length front)) len (Some run))
      (sym (append-nil (place_lines 0 runs ++ placed_line (count_placed runs) ∷ []))) found
  run_found (Placing ∷ []) (told ∷ []) front ends (tell, tells) few short is = absurd tell
