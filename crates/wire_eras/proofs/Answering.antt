-- What a client of a later group is shown is the answer of the one table.
use Rattle.std.proofs.Common.{ℕ, zero, suc, ◌≡◌, List, [], ◌∷◌, take, Some, refl, sym, ap, subst, ◌∙◌}
use Rattle.std.specs.Prelude.{slice_get}
use Rattle.group_types.specs.Dimensions.{Dimensions}
use Rattle.group_types.specs.Hash.{home_of}
use Rattle.memc_table.specs.Act.{key_of}
use Rattle.memc_table.specs.Asked.{Asked}
use Rattle.memc_table.specs.Contents.{Contents, empty_table, reply_of, table_after}
use Rattle.memc_table.specs.declared.reply.Reply.{Reply}
use Rattle.group_calls.specs.Log.{IsLegalFrom, table_of}
use Rattle.group_calls.specs.Turns.{CallName, call_entry}
use Rattle.group_calls.specs.declared.entry.Entry.{Entry}
use Rattle.law_log.proofs.Tables.{table-append}
use Rattle.law_moves.proofs.Reading.{some-same}
use Rattle.group_eras.specs.Told.{Bases, based_reply, op_for_era}
use Rattle.group_wire.specs.Actions.{Action}
use Rattle.group_wire.specs.Composed.{composed}
use Rattle.group_wire.specs.Shown.{IsLoggedSinceBegun}
use Rattle.group_wire.specs.State.{OpenCall}
use Rattle.group_wire.proofs.Showing.{shown_is_logged}
use Rattle.wire_eras.specs.Laws.{GoesOnFrom, IsOfTable, IsTold, ShownIsOfTable, log_made}
use Rattle.wire_eras.specs.Told.{AreToldAs, IsToldAs, bases_of, table_left}
use Rattle.wire_eras.proofs.Legal.{goes-on}

-- each entry of a legal log has the reply of the table before it
pub reply-at : (t : Contents) (log : List Entry) (i : ℕ) (e : Entry) → IsLegalFrom t log → slice_get log i ≡ Some e
    → e.reply ≡ reply_of (table_of t (take i log)) e.op
reply-at t [] i e legal is = absurd (cc is)
reply-at t (x ∷ xs) zero e legal is = subst (λ (y : Entry). y.reply ≡ reply_of t y.op) (some-same x e is) legal.0
reply-at t (x ∷ xs) (suc i) e legal is = reply-at (table_after t x.op) xs i e legal.1 is

-- one entry told in another's place
pub record Swapped (bases : Bases) (k : ℕ) (own told now : List Entry) (i : ℕ) (y : Entry) : Type 0 where
  pub are : AreToldAs bases k own now
  pub there : slice_get now i ≡ Some y
  pub before : take i now ≡ take i told

swap : (bases : Bases) (k : ℕ) (own told : List Entry) (i : ℕ) (e y : Entry) → AreToldAs bases k own told → slice_get own i ≡ Some e → IsToldAs bases k e y
    → (now : List Entry) × Swapped bases k own told now i y
swap bases k [] told i e y are is told_as = absurd (cc is)
swap bases k (x ∷ xs) [] i e y are is told_as = absurd are
swap bases k (x ∷ xs) (z ∷ zs) zero e y are is told_as = (
  y ∷ zs,
  record {
    are = (subst (λ (u : Entry). IsToldAs bases k u y) (sym (some-same x e is)) told_as, are.1);
    there = refl;
    before = refl;
  },
)
swap bases k (x ∷ xs) (z ∷ zs) (suc i) e y are is told_as =
    let rest = swap bases k xs zs i e y are.1 is told_as in
    (z ∷ rest.0, record { are = (are.0, rest.1.are); there = rest.1.there; before = ap (λ (us : List Entry). z ∷ us) rest.1.before })

-- a reply that is logged since its call began is that of the one table
pub of-table : (earlier told : List Entry) (s : Dimensions) (actions : List Action) (caller : ℕ) (o : OpenCall)
    (shown : Reply) (asked : Asked) → GoesOnFrom earlier s actions → IsTold earlier s actions told
    → IsLoggedSinceBegun (composed s actions) caller o shown → o.op ≡ op_for_era (bases_of s.k earlier) s.k asked
    → IsOfTable earlier told s.k (composed s actions) caller o shown asked (based_reply (bases_of s.k earlier) (home_of (key_of asked.act) s.k) shown)
of-table earlier told s actions caller o shown asked goes are logged came =
    let bases : Bases = bases_of s.k earlier in
    let name : CallName = record { caller = caller; call = o.position } in
    let given : Reply = based_reply bases (home_of (key_of asked.act) s.k) shown in
    let now = swap bases s.k (log_made s actions) told logged.place (call_entry name o.op shown)
    (call_entry name asked given) are logged.entry (record { name = refl; op = came; reply = refl }) in
    record {
      logged = logged;
      table =
          reply-at (table_left s.k earlier) now.0 logged.place (call_entry name asked given) (goes-on earlier now.0 s actions goes now.1.are) now.1.there
          ∙ ap (λ (us : List Entry). reply_of (table_of (table_left s.k earlier) us) asked) now.1.before
          ∙ sym (ap (λ (u : Contents). reply_of u asked) (table-append (empty_table s.k) earlier (take logged.place told)));
    }

pub shown_is_of_table : ShownIsOfTable
shown_is_of_table earlier told s actions caller ping o t shown asked goes are apart may shows answer came =
    of-table earlier told s actions caller o shown asked goes are (shown_is_logged s actions caller ping o t shown goes.run apart may shows answer) came
