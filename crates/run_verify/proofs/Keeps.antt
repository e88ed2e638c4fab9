-- An entry's change is kept.
use Rattle.std.proofs.Common.{◌≡◌, ◌≢◌, ◌+◌, ℕ, Bool, true, false, List, [], ◌∷◌, ◌++◌, Option, None, length, refl, sym, ap, ◌∙◌, subst}
use Rattle.std.specs.Prelude.{Result, Ok, Err, IfOk}
use Rattle.group_types.specs.Dimensions.{Dimensions}
use Rattle.group_types.specs.Hash.{home_of}
use Rattle.group_types.specs.Lists.{at, put}
use Rattle.group_types.specs.declared.run.Run.{Run}
use Rattle.memc_table.specs.Act.{key_of}
use Rattle.memc_table.specs.declared.act.Act.{Act}
use Rattle.memc_table.specs.declared.act.Act.TheVariants.{Delete, Touch}
use Rattle.group_calls.specs.Turns.{accepts}
use Rattle.group_calls.specs.declared.entry.Entry.{Entry}
use Rattle.transcript_text.specs.declared.place.Place.{Place}
use Rattle.run_verify.specs.Keeping.{HasChanged, HasEffect, IsFoundIf, IsRunFound, IsValueWritten, change_by, with_changes}
use Rattle.run_verify.specs.Passing.{Account, changes_at, effect_of, value_in, with_change}
use Rattle.run_verify.specs.declared.change.Change.{Change}
use Rattle.run_verify.specs.declared.change.Effect.{Effect}
use Rattle.run_verify.specs.declared.change.Effect.TheVariants.{Writes}

module _ (s : Dimensions) (places : List Place) (a : Account) (e : Entry) where
  pub refused_kept : accepts e.reply ≡ false → HasChanged s places a e a
  refused_kept refused = (
    None,
    subst (λ (b : Bool). IsFoundIf b s places a e None) (sym refused) tt,
    ap (λ (b : Bool). with_changes a (with_change b (home_of (key_of e.op.act) s.k) (change_by a e None) a.changes)) (sym refused),
  )

  pub accepted_kept : (next : Account) (change : Change) → accepts e.reply ≡ true → HasEffect s places a e (home_of (key_of e.op.act) s.k) change
      → next ≡ with_changes a
      (put [] a.changes (home_of (key_of e.op.act) s.k) (at [] a.changes (home_of (key_of e.op.act) s.k)
      ++ change ∷ [])) → HasChanged s places a e next
  accepted_kept next change accepted (run, is, found) same = (
    run,
    subst (λ (b : Bool). IsFoundIf b s places a e run) (sym accepted)
        (subst (λ (x : Change). IsRunFound s places (home_of (key_of e.op.act) s.k)
        (length (changes_at a (home_of (key_of e.op.act) s.k)) + 1) x.effect run) is found),
    same ∙ ap (λ (x : Change). with_changes a (put [] a.changes (home_of (key_of e.op.act) s.k) (at [] a.changes (home_of (key_of e.op.act) s.k) ++ x ∷ []))) is
        ∙ ap (λ (b : Bool). with_changes a (with_change b (home_of (key_of e.op.act) s.k) (change_by a e run) a.changes)) (sym accepted),
  )

  -- an act that isn't a deletion or a touch writes
  writes : (act : Act) → ((key : List ℕ) → act ≢ Delete key) → ((key : List ℕ) (expiry : _) → act ≢ Touch key expiry)
      → (value : List ℕ) (run : Option Run) → effect_of act value run ≡ Writes value run
  writes (Delete key) d t value run = absurd (d key refl)
  writes (Touch key expiry) d t value run = absurd (t key expiry refl)
  writes a d t value run = refl

  pub written_has : (d : ℕ) (change : Change) → ((key : List ℕ) → e.op.act ≢ Delete key)
      → ((key : List ℕ) (expiry : _) → e.op.act ≢ Touch key expiry) → IsValueWritten s places a (key_of e.op.act) d change
      → HasEffect s places a e d change
  written_has d change not_delete not_touch (run, is, found) =
      let value : List ℕ = value_in (a.table.items (key_of e.op.act)) in
      let same : change ≡ change_by a e run = is ∙ ap (λ (x : Effect). record { key = key_of e.op.act; effect = x })
      (sym (writes e.op.act not_delete not_touch value run)) in
      (run, same, subst (λ (x : Change). IsRunFound s places d (length (changes_at a d) + 1) x.effect run) (sym is) found)

  pub written_ok : {E : Type 0} (d : ℕ) (r : Result Change E) → ((key : List ℕ) → e.op.act ≢ Delete key)
      → ((key : List ℕ) (expiry : _) → e.op.act ≢ Touch key expiry) → IfOk r (IsValueWritten s places a (key_of e.op.act) d)
      → IfOk r (HasEffect s places a e d)
  written_ok d (Ok change) nd nt is = written_has d change nd nt is
  written_ok d (Err x) nd nt is = tt
