-- What is due, change by change.
use Rattle.std.proofs.Common.{◌≡◌, ◌<◌, ◌≤◌, ◌+◌, ◌-◌, ℕ, zero, suc, false, List, [], ◌∷◌, ◌++◌, Option, drop, length, take, get_or, refl, sym, ap, ◌∙◌, arith}
use Rattle.std.proofs.lemmas.List.{drop_all, drop_more, take_more}
use Rattle.group_types.specs.Lists.{at}
use Rattle.group_types.specs.declared.run.Run.{Run}
use Rattle.run_verify.specs.Dues.{due_at, dues_in, dues_left, dues_on, is_written}
use Rattle.run_verify.specs.Passing.{DuePlace, due_for, due_places_of}
use Rattle.run_verify.specs.declared.change.Change.{Change}
use Rattle.run_verify.specs.declared.change.Effect.{Effect}
use Rattle.run_verify.specs.declared.change.Effect.TheVariants.{Writes, Removes, Keeps}

-- behind so many places, what is due is for the own changes of partition d from a place on, and for the partitions behind
abbrev pub IsAt : List (List Change) → ℕ → List Change → ℕ → ℕ → Type 0
IsAt changes d own place passed = dues_left changes passed ≡ due_places_of d (take place own) (drop place own) ++ dues_on changes (d + 1)

due-else : (d : ℕ) (before : List Change) (e : Effect) (more : List DuePlace) → is_written e ≡ false → due_for d before e more ≡ more
due-else d before (Writes value run) more is = absurd (cc is)
due-else d before Removes more is = refl
due-else d before Keeps more is = refl

-- partition by partition
pub part_begins : (changes : List (List Change)) (d passed : ℕ) (own : List Change) → d < length changes
    → own ≡ at [] changes d → dues_left changes passed ≡ dues_on changes d → IsAt changes d own 0 passed
part_begins changes d passed own below same is =
    is ∙ ap (dues_in changes d) (let e : length changes - d ≡ suc (length changes - (d + 1)) = omega (arith, below) in
    e) ∙ ap (λ (cs : List Change). due_places_of d [] cs ++ dues_on changes (d + 1)) (sym same)

pub part_ends : (changes : List (List Change)) (d : ℕ) (own : List Change) (place passed : ℕ)
    → IsAt changes d own place passed → length own ≤ place → dues_left changes passed ≡ dues_on changes (d + 1)
part_ends changes d own place passed is end =
    is ∙ ap (λ (cs : List Change). due_places_of d (take place own) cs ++ dues_on changes (d + 1)) (drop_all place own end)

pub none_left : (changes : List (List Change)) (d passed : ℕ) → length changes ≤ d → dues_left changes passed
    ≡ dues_on changes d → dues_left changes passed ≡ []
none_left changes d passed end is = is ∙ ap (dues_in changes d) (let e : length changes - d ≡ 0 = omega (arith, end) in e)

next-dropped : {X : Type 0} (n : ℕ) (xs : List X) (y : X) (ys : List X) → drop n xs ≡ y ∷ ys → drop (suc n) xs ≡ ys
next-dropped {X = X} n [] y ys is = absurd (let none : List X = [] in let e = drop_all n none (omega arith) in cc (e, is))
next-dropped zero (x ∷ xs) y ys is = ap (drop 1) is
next-dropped (suc n) (x ∷ xs) y ys is = next-dropped n xs y ys is

-- change by change
module _ (changes : List (List Change)) (d : ℕ) (own : List Change) (place passed : ℕ) (c : Change)
    (is : IsAt changes d own place passed) (below : place < length own) (here : c ≡ get_or own place c) where
  before : List Change
  before = take place own

  more : List DuePlace
  more = due_places_of d (take (place + 1) own) (drop (place + 1) own)

  pub taken : take (place + 1) own ≡ take place own ++ c ∷ []
  taken = take_more own place c below ∙ ap (λ (x : Change). take place own ++ x ∷ []) (sym here)

  split : drop place own ≡ c ∷ drop (place + 1) own
  split = drop_more own place c below ∙ ap (λ (x : Change). x ∷ drop (place + 1) own) (sym here)

  unfolded : due_places_of d (take place own) (drop place own) ≡ due_for d (take place own) c.effect more
  unfolding more
  unfolded = ap (due_places_of d (take place own)) split
      ∙ ap (λ (b : List Change). due_for d (take place own) c.effect (due_places_of d b (drop (place + 1) own))) (sym taken)

  pub at_silent : is_written c.effect ≡ false → IsAt changes d own (place + 1) passed
  unfolding more
  at_silent silent = is ∙ ap (λ (ds : List DuePlace). ds ++ dues_on changes (d + 1)) (unfolded ∙ due-else d (take place own) c.effect more silent)

  pub at_due : (value : List ℕ) (run : Option Run) → c.effect ≡ Writes value run
      → dues_left changes passed ≡ due_at d (take place own) value run ∷
      (due_places_of d (take (place + 1) own) (drop (place + 1) own) ++ dues_on changes (d + 1))
  unfolding more
  at_due value run writes = is ∙ ap (λ (ds : List DuePlace). ds ++ dues_on changes (d + 1))
      (unfolded ∙ ap (λ (e : Effect). due_for d (take place own) e more) writes)

  pub at_next : (value : List ℕ) (run : Option Run) → c.effect ≡ Writes value run → IsAt changes d own (place + 1) (passed + 1)
  at_next value run writes =
      ap (λ (n : ℕ). drop n (dues_on changes 0)) (let e : passed + 1 ≡ suc passed = omega arith in e)
      ∙ next-dropped passed (dues_on changes 0) (due_at d (take place own) value run)
      (due_places_of d (take (place + 1) own) (drop (place + 1) own) ++ dues_on changes (d + 1)) (at_due value run writes)
