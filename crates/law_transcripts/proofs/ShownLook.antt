-- What a look tells is a stamp that the process can have, and the bytes that the log and the runs leave at it.
use Rattle.std.proofs.Common.{ℕ, suc, ◌≡◌, ◌≤◌, ◌<◌, ◌+◌, Bool, true, false, List, [], ◌∷◌, length, map, take}
use Rattle.std.proofs.Common.{replicate, Option, if◌then◌else◌, refl, sym, ap, ap₂, subst, ◌∙◌, arith}
use Rattle.std.specs.List.{range_with_len}
use Rattle.std.proofs.lemmas.List.FromFn.{length-map-range_with_len}
use Rattle.erasure_code.specs.Code.{coded}
use Rattle.erasure_code.specs.Spaces.{bytes_at}
use Rattle.group_types.specs.Dimensions.{Dimensions, space_of}
use Rattle.group_types.specs.Lists.{at}
use Rattle.group_types.specs.Names.{IsProcess}
use Rattle.group_types.specs.declared.process.ProcessId.{ProcessId}
use Rattle.group_types.specs.declared.process.ProcessId.TheVariants.{DataNode, ParityNode}
use Rattle.group_types.specs.declared.run.Run.{Run}
use Rattle.group_types.proofs.Lists.{at-map-range}
use Rattle.group_run.specs.Applying.{replica_of}
use Rattle.group_run.specs.Headline.{NotUndone}
use Rattle.group_run.specs.Meaning.{IsDown, Lives, Logged, is_dead, process_of, space_from, spaces_at, updates_of, values_after}
use Rattle.group_run.specs.Shown.{HoldsTruth, held, is_down, stamp_of, told_space}
use Rattle.group_run.specs.World.{World}
use Rattle.law_headline.proofs.Headlines.{headline_always}
use Rattle.law_headline.proofs.Truth.{truth_always}
use Rattle.scenario_run.proofs.Leading.{IsLedTo, led-shape}
use Rattle.scenario_run.proofs.Truth.{up}
use Rattle.run_verify.specs.Checked.{IsWellShown}
use Rattle.run_verify.specs.Told.{Shown, Lost, Down}
use Rattle.run_verify.specs.Updates.{IsStampOf, space_after_updates, space_at, spaces_by, updates_by}
use Rattle.run_verify.specs.declared.step.Step.TheVariants.{Look}
use Rattle.law_transcripts.proofs.PlacedGrow.{Begins}
use Rattle.law_transcripts.proofs.PlacedRuns.{updates-stay}
use Rattle.law_transcripts.proofs.Telling.{looked}

-- where these runs leave the updates of a group as they are
module _ (w : World) (runs : List (List (Option Run))) (same : (d : ℕ) → d < w.shape.k → updates_by w.shape runs w.log d ≡ updates_of w d) where
  abbrev counts : ℕ → ℕ
  counts d = length (updates_by w.shape runs w.log d)

  abbrev spaces : ℕ → ℕ → List ℕ
  spaces d n = space_after_updates w.shape (updates_by w.shape runs w.log d) n

  -- ---- the stamp

  reached : (d n : ℕ) → d < w.shape.k → n ≤ length (updates_of w d) → n ≤ counts d
  reached d n low within = let long = ap length (same d low) in omega (arith, within, long)

  applied-at : (p : ProcessId) (d : ℕ) → d < w.shape.k
      → at 0 (map (λ (e : ℕ). (replica_of (process_of w p) e).applied) (range_with_len 0 w.shape.k)) d ≡ (replica_of (process_of w p) d).applied
  applied-at p d low =
      let here : 0 + d ≡ d = omega arith in
      at-map-range 0 (λ (e : ℕ). (replica_of (process_of w p) e).applied) w.shape.k 0 d low
      ∙ ap (λ (e : ℕ). (replica_of (process_of w p) e).applied) here

  is-stamp : (p : ProcessId) → Lives w p → NotUndone w → IsStampOf w.shape counts p (stamp_of w p)
  is-stamp (DataNode d) lives kept =
      let n : ℕ = (replica_of (process_of w (DataNode d)) d).applied in (n, refl, reached d n lives.0 (kept.at_data d lives).applied)
  is-stamp (ParityNode i) lives kept = (
    length-map-range_with_len (λ (e : ℕ). (replica_of (process_of w (ParityNode i)) e).applied) 0 w.shape.k,
    λ d low. subst (λ (n : ℕ). n ≤ counts d) (sym (applied-at (ParityNode i) d low))
        (reached d (replica_of (process_of w (ParityNode i)) d).applied low (kept.at_parity i d low lives).applied),
  )

  -- ---- the bytes

  space-same : (d n : ℕ) → d < w.shape.k → values_after w d n ≡ spaces d n
  space-same d n low = ap (λ (us : List Logged). space_from (replicate (space_of w.shape) 0) (take n us)) (sym (same d low))

  spaces-same : (stamp : List ℕ) (d : ℕ) → d + length stamp ≤ w.shape.k → spaces_at w d stamp ≡ spaces_by spaces d stamp
  spaces-same [] d within = refl
  spaces-same (n ∷ ns) d within =
      let next : suc d ≡ d + 1 = omega arith in
      ap₂ (λ (x : List ℕ) (xs : List (List ℕ)). x ∷ xs) (space-same d n (omega (arith, within)))
      (ap (λ (e : ℕ). spaces_at w e ns) next ∙ spaces-same ns (d + 1) (omega (arith, within)))

  space-told : (p : ProcessId) → IsProcess w.shape p → told_space w p ≡ space_at w.shape spaces p (stamp_of w p)
  space-told (DataNode d) within = space-same d (replica_of (process_of w (DataNode d)) d).applied within
  space-told (ParityNode i) within =
      let long = length-map-range_with_len (λ (e : ℕ). (replica_of (process_of w (ParityNode i)) e).applied) 0 w.shape.k in
      ap (coded w.shape.m i (space_of w.shape)) (spaces-same (stamp_of w (ParityNode i)) 0 (omega (arith, long)))

  -- ---- both

  pub well-looked : (p : ProcessId) (run : Run) → IsProcess w.shape p → HoldsTruth w → (¬ (IsDown w) → NotUndone w)
      → IsWellShown w.shape runs w.log (Look p run) (looked w p run)
  well-looked p run pin truth kept = by (is_down w) (is_dead w p) refl refl where
    by : (down dead : Bool) → is_down w ≡ down → is_dead w p ≡ dead
        → IsWellShown w.shape runs w.log (Look p run) (if down then Down else (if dead then Lost else Shown (stamp_of w p) (held w p run)))
    by true dead isdown isdead = tt
    by false true isdown isdead = tt
    by false false isdown isdead = (
      is-stamp p (pin, isdead) (kept (up w isdown)),
      truth (up w isdown) p run (pin, isdead) ∙ ap (bytes_at run.at run.len) (space-told p pin),
    )

-- so it is after every run, with runs that begin with those of the group
pub look-shown : (s : Dimensions) (w : World) (runs : List (List (Option Run))) (p : ProcessId) (run : Run) → IsLedTo s w
    → ((d : ℕ) → d < s.k → Begins (at [] w.places d) (at [] runs d))
    → IsProcess w.shape p → IsWellShown s runs w.log (Look p run) (looked w p run)
look-shown s w runs p run led begins pin = subst (λ (t : Dimensions). IsWellShown t runs w.log (Look p run) (looked w p run)) shape
    (well-looked w runs same p run pin truth kept)
  where
    shape : w.shape ≡ s
    shape = led-shape s w led

    same : (d : ℕ) → d < w.shape.k → updates_by w.shape runs w.log d ≡ updates_of w d
    same d low = ap (λ (t : Dimensions). updates_by t runs w.log d) shape
        ∙ (let small : d < s.k = subst (λ (t : Dimensions). d < t.k) shape low in updates-stay s w d (at [] runs d) led small (begins d small))

    truth : HoldsTruth w
    truth = subst HoldsTruth (sym led.is) (truth_always s led.events led.run)

    kept : ¬ (IsDown w) → NotUndone w
    kept = subst (λ (v : World). ¬ (IsDown v) → NotUndone v) (sym led.is) (headline_always s led.events led.run).not_undone
