-- What is settled for the first time comes into the log update by update: told once for any sentence.
use Rattle.std.proofs.Common.{ℕ, zero, suc, ◌≡◌, ◌≢◌, ◌+◌, ◌<◌, ◌≤◌, List, [], ◌∷◌, ◌++◌, length, map, ◌⊎◌, inl, inr, Option, Some, sym, ap, subst, ◌∙◌, arith}
use Rattle.std.specs.List.{range_with_len}
use Rattle.std.proofs.lemmas.Bool.{cases_eq}
use Rattle.std.proofs.lemmas.List.{append_assoc, append-nil, length-map, map-append}
use Rattle.group_types.specs.Dimensions.{Dimensions}
use Rattle.group_types.specs.Lists.{at, put}
use Rattle.group_types.specs.declared.run.Run.{Run}
use Rattle.group_types.proofs.Lists.{at-put, at-put-other, length-put, put-at, put-put}
use Rattle.memc_table.specs.Asked.{Asked}
use Rattle.group_message.specs.declared.update.Update.{Update}
use Rattle.group_calls.specs.Turns.{call_entry}
use Rattle.group_calls.specs.declared.entry.Entry.{Entry}
use Rattle.group_run.specs.Applying.{Settlement}
use Rattle.group_run.specs.Asking.{reply_from}
use Rattle.group_run.specs.History.{settled_after, settled_with}
use Rattle.group_run.specs.Replica.{run_of}
use Rattle.group_run.specs.World.{Ledger, Ticket, entries_for, entry_then, grown, ledger_after, ledger_with, new_ones, op_in, settled_in, update_name}
use Rattle.law_moves.proofs.Reading.{grown-is}
use Rattle.law_log.proofs.Ties.{ArePlaced}

-- places and settled updates that grow together
placed-more : (places : List (List (Option Run))) (settled : List (List Update)) (d : ℕ) (us : List Update) → ArePlaced places settled
    → ArePlaced (put [] places d (grown (at [] places d) (map (λ u. run_of u.body) us))) (put [] settled d (at [] settled d ++ us))
placed-more places settled d us placed e = by (cases_eq e d) where
  runs : grown (at [] places d) (map (λ u. run_of u.body) us) ≡ map (λ u. run_of u.body) (at [] settled d ++ us)
  runs =
      grown-is (at [] places d) (map (λ u. run_of u.body) us) ∙ ap (λ (xs : List (Option Run)). xs ++ map (λ u. run_of u.body) us) (placed d)
      ∙ sym (map-append (λ u. run_of u.body) (at [] settled d) us)

  by : (e ≡ d) ⊎ (e ≢ d) → at [] (put [] places d (grown (at [] places d) (map (λ u. run_of u.body) us))) e
      ≡ map (λ u. run_of u.body) (at [] (put [] settled d (at [] settled d ++ us)) e)
  by (inl same) =
      ap (at [] (put [] places d (grown (at [] places d) (map (λ u. run_of u.body) us)))) same
      ∙ at-put [] [] places d (grown (at [] places d) (map (λ u. run_of u.body) us)) ∙ runs
      ∙ ap (map (λ u. run_of u.body)) (sym (at-put [] [] settled d (at [] settled d ++ us)) ∙ ap (at [] (put [] settled d (at [] settled d ++ us))) (sym same))
  by (inr other) =
      at-put-other [] places d e (grown (at [] places d) (map (λ u. run_of u.body) us)) other ∙ placed e
      ∙ ap (map (λ u. run_of u.body)) (sym (at-put-other [] settled d e (at [] settled d ++ us) other))

-- a sentence on the log and on what is settled that each new update keeps, in the order of what comes to be settled
module _ (s : Dimensions) (tickets : List Ticket) (final : ℕ → List Update) (Q : List Entry → List (List Update) → Type 0)
    (law : (log : List Entry) (settled : List (List Update)) (d : ℕ) (u : Update) (rest : List Update) → d < s.k
    → length settled ≡ s.k → final d ≡ at [] settled d ++ u ∷ rest → Q log settled
    → (op : Asked) × (op_in (update_name u) tickets ≡ Some op)
    × Q (log ++ call_entry (update_name u) op (reply_from u.outcome) ∷ [])
    (put [] settled d (at [] settled d ++ u ∷ []))) where
  pub push-all : (us : List Update) (log : List Entry) (settled : List (List Update)) (d : ℕ) → d < s.k
      → length settled ≡ s.k → final d ≡ at [] settled d ++ us → Q log settled
      → Q (log ++ entries_for tickets us) (put [] settled d (at [] settled d ++ us))
  push-all [] log settled d low many is holds =
      let same : put [] settled d (at [] settled d ++ []) ≡ settled =
      ap (put [] settled d) (append-nil (at [] settled d)) ∙ put-at [] [] settled d (omega (arith, many)) in
      subst (λ (es : List Entry). Q es (put [] settled d (at [] settled d ++ []))) (sym (append-nil log)) (subst (Q log) (sym same) holds)
  push-all (u ∷ us) log settled d low many is holds =
      let made = law log settled d u us low many is holds in
      let entry : Entry = call_entry (update_name u) made.0 (reply_from u.outcome) in
      let next : List (List Update) = put [] settled d (at [] settled d ++ u ∷ []) in
      let here : at [] next d ≡ at [] settled d ++ u ∷ [] = at-put [] [] settled d (at [] settled d ++ u ∷ []) in
      let both : (at [] settled d ++ u ∷ []) ++ us ≡ at [] settled d ++ u ∷ us = append_assoc (at [] settled d) (u ∷ []) us in
      let rest = push-all us (log ++ entry ∷ []) next d low (length-put [] settled d (at [] settled d ++ u ∷ []) (omega (arith, many)) ∙ many)
      (is ∙ sym both ∙ ap (λ (xs : List Update). xs ++ us) (sym here)) made.2 in
      let settled_is : put [] next d (at [] next d ++ us) ≡ put [] settled d (at [] settled d ++ u ∷ us)
      = ap (λ (xs : List Update). put [] next d (xs ++ us)) here ∙ put-put [] settled d (at [] settled d ++ u ∷ [])
      ((at [] settled d ++ u ∷ []) ++ us) ∙ ap (put [] settled d) both in
      let log_is : (log ++ entry ∷ []) ++ entries_for tickets us ≡ log ++ entries_for tickets (u ∷ us)
      = append_assoc log (entry ∷ []) (entries_for tickets us) ∙ ap (λ (o : Option Asked). log ++ entry_then u o (entries_for tickets us)) (sym made.1) in
      subst (λ (es : List Entry). Q es (put [] settled d (at [] settled d ++ u ∷ us))) log_is
      (subst (Q ((log ++ entry ∷ []) ++ entries_for tickets us)) settled_is rest)

  pub ledger-keeps : (t : List Settlement) (n a : ℕ) (log : List Entry) (ledger : Ledger) (settled : List (List Update))
      → a + n ≤ s.k → length settled ≡ s.k → ArePlaced ledger.places settled
      → ((d : ℕ) → a ≤ d → d < a + n → final d ≡ settled_with t d (at [] settled d)) → Q (log ++ ledger.logged) settled
      → Q (log ++ (ledger_after tickets t (range_with_len a n) ledger).logged) (settled_after t (range_with_len a n) settled)
      × ArePlaced (ledger_after tickets t (range_with_len a n) ledger).places (settled_after t (range_with_len a n) settled)
  ledger-keeps t zero a log ledger settled low many placed ends holds = (holds, placed)
  ledger-keeps t (suc n) a log ledger settled low many placed ends holds =
      let count : length (at [] ledger.places a) ≡ length (at [] settled a) = ap length (placed a) ∙ length-map (at [] settled a) (λ u. run_of u.body) in
      let news : List Update = new_ones (length (at [] settled a)) (settled_in a t) in
      let same : new_ones (length (at [] ledger.places a)) (settled_in a t) ≡ news = ap (λ (c : ℕ). new_ones c (settled_in a t)) count in
      let next : List (List Update) = put [] settled a (at [] settled a ++ news) in
      let pushed = push-all news (log ++ ledger.logged) settled a (omega arith) many (ends a (omega arith) (omega arith)) holds in
      let whole : (log ++ ledger.logged) ++ entries_for tickets news ≡ log ++ (ledger_with tickets a news ledger).logged
      = append_assoc log ledger.logged (entries_for tickets news) ∙ ap (λ (es : List Entry). log ++ es)
      (sym (grown-is ledger.logged (entries_for tickets news))) in
      let rest = ledger-keeps t n (a + 1) log (ledger_with tickets a news ledger) next (omega arith)
      (length-put [] settled a (at [] settled a ++ news) (omega (arith, many)) ∙ many)
      (placed-more ledger.places settled a news placed)
      (λ d from to. ends d (omega arith) (omega arith)
      ∙ ap (settled_with t d)
      (sym (at-put-other [] settled a d (at [] settled a ++ news) (λ (e : d ≡ a). omega arith))))
      (subst (λ (es : List Entry). Q es next) whole pushed) in
      subst (λ (us : List Update).
      Q (log ++ (ledger_after tickets t (range_with_len (a + 1) n) (ledger_with tickets a us ledger)).logged)
      (settled_after t (range_with_len (a + 1) n) next)
      × ArePlaced (ledger_after tickets t (range_with_len (a + 1) n) (ledger_with tickets a us ledger)).places
      (settled_after t (range_with_len (a + 1) n) next)) (sym same) rest
