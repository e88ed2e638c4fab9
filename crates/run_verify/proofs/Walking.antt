-- From one change of a partition to the next.
use Rattle.std.proofs.Common.{◌≡◌, ◌<◌, ◌+◌, ℕ, List, ◌∷◌, ◌++◌, [], Some, drop, get_or, length, subst, sym, take}
use Rattle.std.specs.Borrow.{Bor}
use Rattle.group_types.specs.Dimensions.{Dimensions}
use Rattle.scenario_run.specs.Lines.{lines_of}
use Rattle.run_verify.specs.Dues.{AreBehind, ArePlacedBehind, HasPassed, LeadsTo, due_at, dues_on}
use Rattle.run_verify.specs.Passing.{due_places_of}
use Rattle.run_verify.specs.declared.change.Change.{Change}
use Rattle.run_verify.specs.declared.items.Items.{Items}
use Rattle.run_verify.specs.declared.judging.Passed.TheVariants as passed
use Rattle.run_verify.proofs.Duties.{IsAt, at_due, at_next, at_silent, taken}
use Rattle.run_verify.proofs.Placed.{lacks_fails, told_leads}

-- one more change was passed
pub record HasWalked (s : Dimensions) (changes : List (List Change)) (d : ℕ) (own : List Change) (place p : ℕ)
    (text : List ℕ) (q : ℕ) (rest : List ℕ) (now : Items) : Type 0 where
  pub due : IsAt changes d own (place + 1) q
  pub leads : LeadsTo s changes p (lines_of text) q (lines_of rest)
  pub items : AreBehind (take (place + 1) own) now

module _ (s : Dimensions) (changes : List (List Change)) (many : length changes ≡ s.k) (d : ℕ) (own : List Change)
    (place p : ℕ) (c : Change) (is : IsAt changes d own place p) (below : place < length own)
    (here : c ≡ get_or own place c) (text : List ℕ) (now : Items)
  where
    behind : AreBehind (take place own ++ c ∷ []) now → AreBehind (take (place + 1) own) now
    behind items = subst (λ (before : List Change). AreBehind before now) (sym (taken changes d own place p c is below here)) items

    pub walk_silent : HasPassed s d (take place own) c text now passed.Silent → HasWalked s changes d own place p text p text now
    walk_silent (silent, items) = record { due = at_silent changes d own place p c is below here silent; leads = λ found all. all; items = behind items }

    pub walk_line : (rest : Bor (List ℕ)) → HasPassed s d (take place own) c text now (passed.Line rest)
        → HasWalked s changes d own place p text (p + 1) rest.now now
    walk_line rest (value, run, writes, (line, cuts, tells), items) = record {
      due = at_next changes d own place p c is below here value run writes;
      leads = subst (λ (lines : List (List ℕ)). LeadsTo s changes p lines (p + 1) (lines_of rest.now)) (sym cuts.0)
          (told_leads s changes many p (due_at d (take place own) value run)
          (due_places_of d (take (place + 1) own) (drop (place + 1) own) ++ dues_on changes (d + 1))
          (at_due changes d own place p c is below here value run writes)
          line (lines_of rest.now) tells);
      items = behind items;
    }

    pub shorter : (rest : Bor (List ℕ)) → HasPassed s d (take place own) c text now (passed.Line rest) → length rest.now < length text
    shorter rest told = told.3.1.1

    pub walk_fails : HasPassed s d (take place own) c text now passed.Fails → ArePlacedBehind s changes p (lines_of text) (Some (p + 1))
    walk_fails (value, run, writes, lacks) =
        lacks_fails s changes many p (due_at d (take place own) value run)
        (due_places_of d (take (place + 1) own) (drop (place + 1) own) ++ dues_on changes (d + 1))
        (at_due changes d own place p c is below here value run writes) (lines_of text) lacks
