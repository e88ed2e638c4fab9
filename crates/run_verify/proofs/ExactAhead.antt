-- An entry that stands among the lines of the log right ahead is found there.
use Rattle.std.proofs.Common.{◌≡◌, ◌≢◌, inl, inr, ◌<◌, ◌^◌, ℕ, zero, suc, List, [], ◌∷◌, ◌++◌, ◌∙◌, map, slice_get}
use Rattle.std.proofs.Common.{codes, Some, append_assoc, refl, sym, ap, subst, arith}
use Rattle.group_types.specs.Dimensions.{callers}
use Rattle.group_calls.specs.Turns.{CallName, name_of}
use Rattle.group_calls.specs.declared.entry.Entry.{Entry}
use Rattle.scenario_text.specs.Texts.{entry_text, name_text, reply_words}
use Rattle.transcript_text.proofs.Entries.{FitsEntry, entry-line, entry-names}
use Rattle.run_verify.specs.Passing.{BeginsAndEnds, IsFrontOf, LogsAhead, entry_front}
use Rattle.run_verify.proofs.ImpliedAhead.{AllFit}

-- no entry has the name of one before
abbrev pub AreNamedApart : List Entry → Type 0
AreNamedApart es = (i j : ℕ) (d e : Entry) → i < j → slice_get es i ≡ Some d → slice_get es j ≡ Some e → name_of d ≢ name_of e

ends-so : (e : Entry) (op : List ℕ) → entry_text e ≡ name_text e.caller e.call 0
    ++ (op ++ codes " " ++ reply_words e.reply) → BeginsAndEnds (entry_front (name_of e)) (reply_words e.reply)
    (entry_text e)
ends-so e op is = (op, is ∙ ap (λ (t : List ℕ). name_text e.caller e.call 0 ++ t) (append_assoc op (codes " ") (reply_words e.reply)))

here : (e : Entry) → BeginsAndEnds (entry_front (name_of e)) (reply_words e.reply) (entry_text e)
here e = ends-so e _ (entry-line e)

other-begins : (d : Entry) (name : CallName) → FitsEntry d → name.caller < callers → name.call < 2 ^ 64
    → name_of d ≢ name → ¬ (IsFrontOf (entry_front name) (entry_text d))
other-begins d name fits fc fn other (rest, is) =
    let names = entry-names d name.caller name.call rest fits fc fn is in
    let caller = names.0 in
    let call = names.1 in
    other (let eq : record { caller = d.caller; call = d.call } ≡ record { caller = name.caller; call = name.call } = cc (caller, call) in eq)

pub logs-ahead : (es : List Entry) (rest : List (List ℕ)) (i : ℕ) (e : Entry) → AllFit es → AreNamedApart es
    → e.caller < callers → e.call < 2 ^ 64 → slice_get es i ≡ Some e
    → LogsAhead (entry_front (name_of e)) (reply_words e.reply) (map entry_text es ++ rest)
logs-ahead [] rest i e fit apart fc fn is = cc is
logs-ahead (d ∷ es) rest zero e fit apart fc fn is =
    let same : d ≡ e = cc is in
    (refl, inl (subst (λ (x : Entry). BeginsAndEnds (entry_front (name_of e)) (reply_words e.reply) (entry_text x)) (sym same) (here e)))
logs-ahead (d ∷ es) rest (suc i) e fit apart fc fn is = (
  refl,
  inr (
    other-begins d (name_of e) fit.0 fc fn (apart 0 (suc i) d e (omega arith) refl is),
    logs-ahead es rest i e fit.1 (λ j k f g less at_j at_k. apart (suc j) (suc k) f g (omega (arith, less)) at_j at_k)
        fc fn is,
  ),
)
