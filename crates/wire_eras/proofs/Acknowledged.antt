-- A carry whose sets are acknowledged is the beginning of the log.
use Rattle.std.proofs.Common.{ℕ, List, ◌∷◌, ◌++◌, ◌⊎◌, inl, inr, sym, ap, subst, ◌∙◌}
use Rattle.std.specs.Prelude.{Contains}
use Rattle.std.proofs.lemmas.List.Elements.{Contains-append_left}
use Rattle.group_types.specs.Dimensions.{Dimensions}
use Rattle.memc_table.specs.declared.holding.Holding.{Holding}
use Rattle.group_calls.specs.Turns.{call_entry}
use Rattle.group_calls.specs.declared.entry.Entry.{Entry}
use Rattle.law_log.proofs.Turnings.{get-contained}
use Rattle.group_wire.specs.Actions.{Action, Show}
use Rattle.group_wire.specs.Composed.{AreActions}
use Rattle.group_wire.proofs.Showing.{shown_is_logged}
use Rattle.wire_eras.specs.Acknowledged.{AcknowledgedAreCarried, AcknowledgedKeep, IsAcknowledged}
use Rattle.wire_eras.specs.Carry.{HasExpired, HasKey, SetsHeld}
use Rattle.wire_eras.specs.Laws.{log_made}
use Rattle.wire_eras.specs.Told.{table_left}
use Rattle.wire_eras.proofs.Carrying.{carries_keep}
use Rattle.wire_eras.proofs.Legal.{first_log_is_legal}
use Rattle.wire_eras.proofs.Logged.{behind, front, log-only, log-split}

-- a call that was acknowledged is in the log
pub acknowledged : (s : Dimensions) (actions : List Action) (key : List ℕ) → AreActions s actions
    → IsAcknowledged s actions key → HasKey (log_made s actions) key
acknowledged s actions key run a =
    let whole : AreActions s (a.before ++ Show a.caller a.ping ∷ a.after) = subst (AreActions s) a.is run in
    let logged = shown_is_logged s a.before a.caller a.ping a.call a.told a.reply (front s a.before (Show a.caller a.ping ∷ a.after) whole) a.apart
    (behind s a.before (Show a.caller a.ping ∷ a.after) whole).0 a.shows a.answer in
    let entry : Entry = call_entry (record { caller = a.caller; call = a.call.position }) a.call.op a.reply in
    let split = log-split s a.before (Show a.caller a.ping ∷ a.after) in
    let early : Contains (log_made s a.before) (call_entry (record { caller = a.caller; call = a.call.position })
    a.call.op a.reply) = get-contained (log_made s a.before) logged.place entry logged.entry in (
      entry,
      subst (λ (log : List Entry). Contains log (call_entry (record { caller = a.caller; call = a.call.position })
          a.call.op a.reply)) (sym (ap (log_made s) a.is ∙ split.1))
          (Contains-append_left (log_made s a.before) split.0 entry early),
      a.key_is,
    )

pub acknowledged_are_carried : AcknowledgedAreCarried
acknowledged_are_carried t s actions more carries =
    let run : AreActions s actions = front s actions more carries.run in
    let split = log-split s actions more in
    record {
      sets = log_made s actions;
      later = split.0;
      is = split.1;
      only = log-only (SetsHeld t) s actions run carries.sets;
      all = λ key h was. by key h run (carries.all key h was);
    }
  where
    by : (key : List ℕ) (h : Holding) → AreActions s actions → IsAcknowledged s actions key ⊎ HasExpired (log_made s (actions ++ more)) key h
        → HasKey (log_made s actions) key ⊎ HasExpired (log_made s (actions ++ more)) key h
    by key h run (inl a) = inl (acknowledged s actions key run a)
    by key h run (inr ended) = inr ended

pub acknowledged_keep : AcknowledgedKeep
acknowledged_keep earlier told s actions more legal carries are key h was a =
    let run : AreActions s actions = front s actions more carries.run in
    carries_keep s.k earlier (log_made s actions) told run.0.k.0 legal (first_log_is_legal s actions run)
    (log-only (SetsHeld (table_left s.k earlier)) s actions run carries.sets) are key h was
    (acknowledged s actions key run a)
