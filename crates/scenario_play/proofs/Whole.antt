-- A script is all that its source had, where the source told that.
use Rattle.std.proofs.Common.{◌≡◌, ℕ, ◌⊎◌, inl, inr, Bool, true, false, if◌then◌else◌, nat_lt, List, [], ◌++◌, length}
use Rattle.std.proofs.Common.{drop, Option, Some, None, IfSome, refl, sym, ap, ◌∙◌, subst, length-append, arith}
use Rattle.std.proofs.Math.Seq.{drop-append_seam}
use Rattle.std.specs.Io.KnownBytes.{Consumes}
use Rattle.edge_io.specs.Moving.{Appends, IsEnded}
use Rattle.edge_io.proofs.Moving.{Takes-all}
use Rattle.scenario_run.specs.Course.{Fault}
use Rattle.scenario_play.specs.Language.{Language, status_told}
use Rattle.scenario_play.specs.Outside.{EndsWith, Outside, StopsWithin, TellsFront}
use Rattle.scenario_play.specs.Played.{IsPlayed}
use Rattle.scenario_play.specs.Script.{TellsCauses, Scripts}
use Rattle.scenario_play.specs.Status.{IsEarly, IsStatusTold, TellsOfLine, last_line, longest_script, status_of_lines}
use Rattle.scenario_play.specs.Whole.{PlaysAll, PlaysAllAlways}
use Rattle.scenario_play.specs.declared.status.Status.{Status}
use Rattle.scenario_play.specs.declared.status.Status.TheVariants.{BadLine, BadShape, BadCount, TooLong}
use Rattle.scenario_play.specs.declared.status.Status.TheVariants.{ReadFault, Want}
use Rattle.scenario_play.proofs.Ending.{nothing-written, told-long}
use Rattle.scenario_play.proofs.Treating.{no-read-fault}

-- no line of a language's scripts is told by a fault of its source
abbrev pub NeverReadFault : Language → Type 0
NeverReadFault l = (text : List ℕ) → ¬ (l.verdict text ≡ ReadFault)

-- nor a script
told-not_read : (l : Language) → NeverReadFault l → (text : List ℕ) → ¬ (status_told l text ≡ ReadFault)
told-not_read l never text is = by (nat_lt longest_script (length text)) is where
  by : (b : Bool) → ¬ ((if b then TooLong else l.verdict text) ≡ ReadFault)
  by true is = cc is
  by false is = never text is

not-both : (s : Status) → TellsOfLine s → IsEarly s → ⊥
not-both (BadLine n) refusal early = early
not-both (BadShape f) refusal early = early
not-both (BadCount c) refusal early = early
not-both status refusal early = refusal

module _ (l : Language) (never : NeverReadFault l) (before now : Outside) (status : Status)
    (played : IsPlayed l before now status) (all rest : List ℕ) (left : now.input.left ≡ Some rest)
    (split : all ≡ played.script ++ rest)
    (whole : IsEnded now.input → (played.script ≡ all) × (now.input.left ≡ Some [])) where
  abbrev Told : List ℕ → Status → Type 0
  Told text s = IsStatusTold (status_told l text) before.reads now.reads before.writes now.writes s

  refused-ended : TellsOfLine status → IsEnded now.input
  refused-ended refusal = by played.bytes where
    by : (IsEnded now.input × StopsWithin before.held now.held (l.transcript played.script) status)
        ⊎ (IsEarly status × TellsFront before.held now.held status) → IsEnded now.input
    by (inl ended) = ended.0
    by (inr early) = absurd (not-both status refusal early.0)

  -- a status that came before the end
  told-early : (s : Status) → status ≡ s → IsEarly s → Told all s
  told-early TooLong is early = let some = played.too_long is in let long = ap length split
      ∙ length-append played.script rest in inl (sym (told-long l all (omega (arith, some, long))))
  told-early Want is early = inr (inl refl)
  told-early ReadFault is early = by (subst (Told played.script) is played.told) where
    by : Told played.script ReadFault → Told all ReadFault
    by (inl same) = absurd (told-not_read l never played.script (sym same))
    by (inr (inl want)) = absurd (cc want)
    by (inr (inr (inl read))) = inr (inr (inl read))
    by (inr (inr (inr wrote))) = absurd (cc wrote.0)
  told-early s is early = absurd early

  told-all : (IsEnded now.input × StopsWithin before.held now.held (l.transcript played.script) status)
      ⊎ (IsEarly status × TellsFront before.held now.held status) → Told all status
  told-all (inl ended) = subst (λ (text : List ℕ). Told text status) (whole ended.0).0 played.told
  told-all (inr early) = told-early status refl early.0

  stops-all : (IsEnded now.input × StopsWithin before.held now.held (l.transcript played.script) status)
      ⊎ (IsEarly status × TellsFront before.held now.held status)
      → StopsWithin before.held now.held (l.transcript all) status
  stops-all (inl ended) = subst (λ (text : List ℕ). StopsWithin before.held now.held (l.transcript text) status) (whole ended.0).0 ended.1
  stops-all (inr early) = record { middle = before.held; written = nothing-written before.held before.held (l.transcript all) refl; told = early.1 }

  of-all : PlaysAll l all before now status
  of-all = record {
    told = told-all played.bytes;
    done_left = λ done. (whole (played.done_ended done)).1;
    done_bytes = λ done. subst (λ (text : List ℕ). Appends before.held now.held (l.transcript text))
        (whole (played.done_ended done)).0 (played.done_bytes done);
    promises = λ done. subst l.Promise (whole (played.done_ended done)).0 (played.promises done);
    refused_left = λ refusal. (whole (refused-ended refusal)).1;
    refused_bytes =
        λ refusal. subst (λ (text : List ℕ). EndsWith before.held now.held before.writes now.writes (l.transcript text)
        (last_line status)) (whole (refused-ended refusal)).0 (played.refused_bytes refusal);
    too_long_left = λ is. left
        ∙ ap (λ (bs : List ℕ). Some bs)
        (sym (ap (λ (n : ℕ). drop n all) (sym (played.too_long is)) ∙ ap (drop (length played.script)) split
        ∙ drop-append_seam played.script rest));
    bytes = stops-all played.bytes;
  }

pub plays-all : (l : Language) → NeverReadFault l → PlaysAllAlways l
plays-all l never before now status played = by before.input.left now.input.left refl played.taken.left
    (Takes-all before.input now.input played.script played.taken) where
      by : (left left_now : Option (List ℕ)) → now.input.left ≡ left_now → Consumes left left_now played.script
          → (IsEnded now.input → IfSome left (λ all. (played.script ≡ all) × (now.input.left ≡ Some [])))
          → IfSome left (λ all. PlaysAll l all before now status)
      by None left_now is consumed whole = tt
      by (Some all) None is consumed whole = absurd consumed
      by (Some all) (Some rest) is consumed whole = of-all l never before now status played all rest is consumed whole

-- of a script that can be played all is told
pub script-never : {S T F : Type 0} (script : Scripts S T F) (l : Language) (faults : List ℕ → Option (Fault F))
    → TellsCauses script → ((text : List ℕ) → l.verdict text ≡ status_of_lines script.told (faults text)) → NeverReadFault l
script-never script l faults law is text told = no-read-fault script law (faults text) (sym (is text) ∙ told)
