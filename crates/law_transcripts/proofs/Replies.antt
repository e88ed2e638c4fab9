-- The replies of a script's turns are within their limits.
use Rattle.std.proofs.Common.{◌≡◌, ◌+◌, ℕ, List, ◌++◌, ◌∙◌, drop, take, slice_get, Some, refl, sym, ap, subst}
use Rattle.std.proofs.lemmas.List.{take-append-drop}
use Rattle.std.proofs.lemmas.List.Elements.{All-contains}
use Rattle.std.specs.Prelude.{All, Contains}
use Rattle.memc_table.specs.declared.reply.Reply.{Reply}
use Rattle.group_calls.specs.Turns.{CallName, Turn, asks_of, call_entry, log_of}
use Rattle.group_calls.specs.Within.{AnswersWithin, Fetches, IsLoggedSince}
use Rattle.group_calls.specs.declared.entry.Entry.{Entry}
use Rattle.group_calls.specs.declared.event.Answer.TheVariants as answered
use Rattle.group_calls.specs.declared.event.Event.{Event}
use Rattle.group_calls.specs.declared.event.Event.TheVariants as happens
use Rattle.transcript_text.specs.Forms.{FitsReply, MayAnswer, kind_of_event}
use Rattle.law_transcripts.proofs.Logs.{FitsLogged, all-each, all-get, logged-there}
use Rattle.law_transcripts.proofs.Parts.{get-front, log-append}

-- a reply that the event can have is within its limits
abbrev pub FitsIfReply : Turn → Type 0
FitsIfReply t = (r : Reply) → t.answer ≡ answered.Reply r → MayAnswer (kind_of_event t.event) t.answer → FitsReply r

module _ (k : ℕ) (ts : List Turn) (within : AnswersWithin k ts) (logged : All FitsLogged (log_of ts)) where
  of-since : (i : ℕ) (name : CallName) (r : Reply) → IsLoggedSince ts i name r → FitsReply r
  of-since i name r since =
      let whole : log_of ts ≡ log_of (take (i + 1) ts) ++ log_of (drop (i + 1) ts) = ap log_of (sym (take-append-drop (i + 1) ts))
      ∙ log-append (take (i + 1) ts) (drop (i + 1) ts) in
      let there : slice_get (log_of ts) since.place ≡ Some (call_entry name since.op r)
      = ap (λ (es : List Entry). slice_get es since.place) whole
      ∙ get-front (log_of (take (i + 1) ts)) (log_of (drop (i + 1) ts)) since.place (call_entry name since.op r) since.entry in
      all-get FitsLogged (log_of ts) since.place (call_entry name since.op r) logged there

  by-event : (i : ℕ) (t : Turn) (e : Event) (r : Reply) → slice_get ts i ≡ Some t → t.event ≡ e → t.answer ≡ answered.Reply r
      → MayAnswer (kind_of_event e) (answered.Reply r) → FitsReply r
  by-event i t (happens.Ask caller op p) r is event answer may =
      let name : CallName = record { caller = caller; call = asks_of caller (take i ts) } in
      let entry : Contains t.logged (call_entry name op r) = within.at_once i t name op r (record { there = is; at = p; event = event; place = refl }) answer in
      All-contains FitsLogged (log_of ts) (call_entry name op r) logged (logged-there ts i t (call_entry name op r) is entry)
  by-event i t (happens.Collect caller call p) r is event answer may =
      let name : CallName = record { caller = caller; call = call } in
      of-since i name r (within.later i t name r is (subst (λ (x : Event). Fetches x name) (sym event) (refl, refl)) answer)
  by-event i t (happens.Trace caller call d p) r is event answer may =
      let name : CallName = record { caller = caller; call = call } in
      of-since i name r (within.later i t name r is (subst (λ (x : Event). Fetches x name) (sym event) (refl, refl)) answer)
  by-event i t e r is event answer may = absurd (cc may)

  pub turns-fit : All FitsIfReply ts
  turns-fit = all-each FitsIfReply ts (λ i t is r answer may. by-event i t t.event r is refl answer (subst (MayAnswer (kind_of_event t.event)) answer may))
