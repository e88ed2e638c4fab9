-- What treating a line comes to, by what the rules of its script say of it.
use Rattle.std.proofs.Common.{◌≡◌, ℕ, ◌⊎◌, inl, inr, List, [], Option, Some, None, Ok, Err, Vec, refl, sym, ap, subst, ◌∙◌}
use Rattle.scenario_run.specs.Course.{Ends, Fault, Goes, Next, Refused, turns_of_lines}
use Rattle.scenario_run.proofs.Following.{fault-line, text-line, turns-line}
use Rattle.scenario_play.specs.Player as player
use Rattle.scenario_play.specs.Player.{EndsAt, HasMetEnd, HasTreatedLine, ScriptGoesOn, telling}
use Rattle.scenario_play.specs.Script.{TellsCauses, HasDone, HasLedOn, LeavesReady, Left, Scripts}
use Rattle.scenario_play.specs.Status.{TellsOfLine, status_of_lines}
use Rattle.scenario_play.specs.declared.status.Status.{Status}
use Rattle.scenario_play.specs.declared.status.Status.TheVariants.{BadLine, Done, ReadFault, Want}

module _ {S T F : Type 0} (script : Scripts S T F) where
  goes-on : (n : ℕ) (before now : Option S) (line : List ℕ) (turns : List T) (text : List ℕ) → script.rules before line
      ≡ Goes now turns text → Left script n before now turns → ScriptGoesOn (telling script) n before now line text
  goes-on n before now line turns text next left = record {
    text = λ lines. text-line script.rules before line lines (Goes now turns text) next;
    verdict = λ lines. ap (status_of_lines script.told) (fault-line script.rules script.lacking n before line lines (Goes now turns text) next);
    entries = λ lines. ap (script.logged before) (turns-line script.rules before line lines (Goes now turns text) next)
        ∙ left.logged (turns_of_lines script.rules now lines);
    ready = left.ready;
  }

  refused-at : (n : ℕ) (before : Option S) (line : List ℕ) (cause : F) → script.rules before line ≡ Refused cause
      → EndsAt (telling script) n before line (script.told n cause)
  refused-at n before line cause next = record {
    text = λ lines. text-line script.rules before line lines (Refused cause) next;
    verdict = λ lines. ap (status_of_lines script.told) (fault-line script.rules script.lacking n before line lines (Refused cause) next);
  }

  ended-at : (n : ℕ) (before : Option S) (line : List ℕ) → script.rules before line ≡ Ends → EndsAt (telling script) n before line Done
  ended-at n before line next = record {
    text = λ lines. text-line script.rules before line lines Ends next;
    verdict = λ lines. ap (status_of_lines script.told) (fault-line script.rules script.lacking n before line lines Ends next);
  }

  -- a line that goes on
  went : (next : Next S T F) (now : Option S) (text : List ℕ) → HasLedOn next now text → (turns : List T) × (next ≡ Goes now turns text)
  went (Goes state turns written) now text done = (
    turns,
    ap (λ (p : Option S). Goes p turns written) (sym done.0) ∙ ap (λ (xs : List ℕ). Goes now turns xs)
        (sym done.1),
  )
  went Ends now text done = absurd done
  went (Refused cause) now text done = absurd done

  module _ (n : ℕ) (before now : Option S) (line : List ℕ) where
    pub treated-ok : {Z : Type 0} (text : Option (Vec ℕ Z)) → LeavesReady script → script.Ready n before
        → HasDone script.want before (script.rules before line) now (player.bytes_in_text {E = F} (Ok text))
        → HasTreatedLine (telling script) n before now line (player.bytes_in_text {E = Status} (Ok text))
    treated-ok (Some text) onward ready done =
        let goes = went (script.rules before line) now text.items done in
        goes-on n before now line goes.0 text.items goes.1 (onward n before now line goes.0 text.items ready goes.1)
    treated-ok None onward ready done = (
      ended-at n before line done.0,
      λ lines. ap (script.logged before) (turns-line script.rules before line lines Ends done.0) ∙ ap (λ (p : Option S). script.logged p []) (sym done.1),
    )

    pub treated-err : TellsCauses script → (cause : F) (status : Status) → status ≡ script.told n cause
        → (cause ≡ script.want) ⊎ (script.rules before line ≡ Refused cause)
        → HasTreatedLine (telling script) n before now line (Err status)
    treated-err law cause status is done =
        subst (λ (s : Status). (s ≡ Want) ⊎ (TellsOfLine s × EndsAt (telling script) n before line s)) (sym is)
        (by done (law.refused n cause)) where
          by : (cause ≡ script.want) ⊎ (script.rules before line ≡ Refused cause) → (script.told n cause ≡ Want) ⊎ TellsOfLine (script.told n cause)
              → (script.told n cause ≡ Want) ⊎ (TellsOfLine (script.told n cause) × EndsAt (telling script) n before line (script.told n cause))
          by (inl want) told = inl (ap (script.told n) want ∙ law.want n)
          by (inr next) (inl want) = inl want
          by (inr next) (inr refusal) = inr (refusal, refused-at n before line cause next)

  -- where no state was named, its line is lacking
  pub met-end : TellsCauses script → (n : ℕ) → HasMetEnd (telling script) n None (Err (BadLine n))
  met-end law n = (refl, law.lacking n, tt)

  -- what is told of a cause says that a line was refused, or that there was no memory
  told-never : (status : Status) → (status ≡ Want) ⊎ TellsOfLine status → ¬ (status ≡ Done) × ¬ (status ≡ ReadFault)
  told-never status (inl want) = ((λ is. cc (sym want ∙ is)), λ is. cc (sym want ∙ is))
  told-never status (inr refusal) = ((λ is. subst TellsOfLine is refusal), λ is. subst TellsOfLine is refusal)

  -- where all is done no line was refused
  pub all-done : TellsCauses script → (fault : Option (Fault F)) → status_of_lines script.told fault ≡ Done → fault ≡ None
  all-done law None is = refl
  all-done law (Some fault) is = absurd ((told-never (script.told fault.number fault.cause) (law.refused fault.number fault.cause)).0 is)

  -- of a script no fault of its source is told
  pub no-read-fault : TellsCauses script → (fault : Option (Fault F)) → ¬ (status_of_lines script.told fault ≡ ReadFault)
  no-read-fault law None is = cc is
  no-read-fault law (Some fault) is = (told-never (script.told fault.number fault.cause) (law.refused fault.number fault.cause)).1 is
