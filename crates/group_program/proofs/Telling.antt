use Rattle.std.proofs.Common.{◌≡◌, ◌≢◌, ℕ, ◌⊎◌, inl, inr, [], ◌++◌, List, Result, Ok, Err, append-nil, refl, sym, ap, ◌∙◌, subst, arith}
use Rattle.std.proofs.lemmas.List.{take_all}
use Rattle.edge_io.specs.Moving.{Input}
use Rattle.scenario_play.specs.Outside.{EndsWith, Outside, TellsFront}
use Rattle.scenario_play.specs.Language.{Language}
use Rattle.scenario_play.specs.Played.{HasPlayedWhole, IsPlayed}
use Rattle.scenario_play.specs.Status.{last_line}
use Rattle.scenario_play.specs.declared.status.Status.{Status}
use Rattle.scenario_play.specs.declared.status.Status.TheVariants.{BadWords, Done, ReadFault, WriteFault, Want}
use Rattle.scenario_session.specs.declared.end.SessionEnd.{SessionEnd}
use Rattle.scenario_session.specs.declared.end.SessionEnd.TheVariants as end
use Rattle.scenario_play.proofs.Ending.{came_from}
use Rattle.group_server.specs.Service.{HasServedGroup, Tally}
use Rattle.group_server.specs.declared.fault.ServiceFault.{ServiceFault}
use Rattle.group_server.specs.declared.fault.ServiceFault.TheVariants as fault
use Rattle.group_program.specs.Program.{HasNoMemoryForWords}
use Rattle.group_program.specs.Serving.{HasServedWhole, IsGroupServed}
use Rattle.group_program.specs.Serving as serving
use Rattle.group_program.specs.Session.{HasToldLast, status_of}

-- what is told by the call that writes the last line
pub has_told : (wanted asked : Status) (before now : Outside) (status : Status) → asked ≡ wanted → (status ≡ asked) ⊎ (status ≡ Want)
    → (last_line asked ≡ [] → status ≡ asked)
    → (status ≡ asked → (status ≡ Want) ⊎ EndsWith before.held now.held before.writes now.writes [] (last_line asked))
    → TellsFront before.held now.held status → HasToldLast wanted before now status
has_told wanted asked before now status same (inr want) silent line front = record {
  is = inr want;
  silent = λ none. silent (ap last_line same ∙ none) ∙ same;
  line = inl want;
  front = front;
}
has_told wanted asked before now status same (inl is) silent line front = record {
  is = inl (is ∙ same);
  silent = λ none. is ∙ same;
  line = subst (λ (s : Status). (status ≡ Want) ⊎ EndsWith before.held now.held before.writes now.writes [] (last_line s)) (sym is) (line is);
  front = front;
}

names_words : (e : SessionEnd) → status_of e ≢ BadWords
names_words end.Done is = cc is
names_words end.Cut is = cc is
names_words end.LineTooLong is = cc is
names_words end.Worn is = cc is
names_words end.ReadFault is = cc is
names_words end.WriteFault is = cc is
names_words end.Want is = cc is

pub named : (e : SessionEnd) (status : Status) → (status ≡ status_of e) ⊎ (status ≡ Want) → status ≢ BadWords
named e status is now = names_words e (came_from (status_of e) status BadWords is now (λ w. cc w))

of_read : (e : SessionEnd) → status_of e ≡ ReadFault → e ≡ end.ReadFault
of_read end.ReadFault is = refl
of_read end.Done is = cc is
of_read end.Cut is = cc is
of_read end.LineTooLong is = cc is
of_read end.Worn is = cc is
of_read end.WriteFault is = cc is
of_read end.Want is = cc is

of_write : (e : SessionEnd) → status_of e ≡ WriteFault → e ≡ end.WriteFault
of_write end.WriteFault is = refl
of_write end.Done is = cc is
of_write end.Cut is = cc is
of_write end.LineTooLong is = cc is
of_write end.Worn is = cc is
of_write end.ReadFault is = cc is
of_write end.Want is = cc is

pub was_read : (e : SessionEnd) (status : Status) → (status ≡ status_of e) ⊎ (status ≡ Want) → status ≡ ReadFault → e ≡ end.ReadFault
was_read e status is now = of_read e (came_from (status_of e) status ReadFault is now (λ w. cc w))

pub was_write : (e : SessionEnd) (status : Status) → (status ≡ status_of e) ⊎ (status ≡ Want) → status ≡ WriteFault → e ≡ end.WriteFault
was_write e status is now = of_write e (came_from (status_of e) status WriteFault is now (λ w. cc w))

-- no memory to read the words
pub stopped : (before now : List ℕ) (status : Status) → (status ≡ Want) ⊎ (status ≡ Want) → TellsFront before now status → HasNoMemoryForWords before now status
stopped before now status (inl want) front = record { want = want; told = subst (TellsFront before now) want front }
stopped before now status (inr want) front = record { want = want; told = subst (TellsFront before now) want front }

-- a script that was played to its end was taken whole, and keeps its promises
pub played_whole : (l : Language) (before now : Outside) (status : Status) → IsPlayed l before now status
    → status ≡ Done → HasPlayedWhole l before.input now.input before.held now.held
played_whole l before now status played done = record {
  script = played.script;
  taken = played.taken;
  ended = played.done_ended done;
  written = played.done_bytes done;
  promises = played.promises done;
}

-- a group that was served to its end
module _ {L : Type 0} (listened : L → List ℕ → L → Type 0) (tells : L → Tally) (l l_now : L) (before now : Outside)
    (status : Status) (done : status ≡ Done) where
  abbrev Serves : Input → List ℕ → Result ℕ ServiceFault → Type 0
  Serves input held end = HasServedGroup listened tells before.input input before.held held l l_now end

  nothing_behind : (middle : Outside) → (status ≡ Want) ⊎ EndsWith middle.held now.held middle.writes now.writes [] (last_line status) → middle.held ≡ now.held
  nothing_behind middle (inl want) = absurd (cc (sym done ∙ want))
  nothing_behind middle (inr told) = by (subst (λ (s : Status). EndsWith middle.held now.held middle.writes now.writes [] (last_line s)) done told) where
    by : EndsWith middle.held now.held middle.writes now.writes [] [] → middle.held ≡ now.held
    by ends = sym (ends.bytes ∙ ap (λ (bs : List ℕ). middle.held ++ bs) (take_all ends.count [] (omega arith)) ∙ append-nil middle.held)

  not_done : (wanted : Status) → (status ≡ wanted) ⊎ (status ≡ Want) → wanted ≢ Done → ⊥
  not_done wanted (inl is) not = not (sym is ∙ done)
  not_done wanted (inr want) not = cc (sym done ∙ want)

  pub served_whole : IsGroupServed listened tells l l_now before now status → HasServedWhole listened tells l l_now before now
  served_whole served = by served.end served.served served.told where
    by : (end : Result ℕ ServiceFault) → Serves served.middle.input served.middle.held end
        → HasToldLast (serving.status_of end) served.middle now status
        → HasServedWhole listened tells l l_now before now
    by (Ok n) serves told = (
      n,
      subst (λ (i : Input). Serves i now.held (Ok n)) (sym served.kept)
          (subst (λ (h : List ℕ). Serves served.middle.input h (Ok n)) (nothing_behind served.middle told.line) serves),
    )
    by (Err fault.TooLong) serves told = absurd (not_done _ told.is (λ is. cc is))
    by (Err (fault.BadConfig key)) serves told = absurd (not_done _ told.is (λ is. cc is))
    by (Err fault.ReadFault) serves told = absurd (not_done _ told.is (λ is. cc is))
    by (Err fault.WriteFault) serves told = absurd (not_done _ told.is (λ is. cc is))
    by (Err fault.AcceptFault) serves told = absurd (not_done _ told.is (λ is. cc is))
    by (Err fault.Want) serves told = absurd (not_done _ told.is (λ is. cc is))
