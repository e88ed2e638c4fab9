-- The entry of an update that is settled for the first time: its call has its op still, its reply is the
-- table's, and no other entry has its name.
use Rattle.std.proofs.Common.{ℕ, zero, suc, ◌≡◌, ◌≢◌, ◌<◌, ◌≤◌, ◌==◌, Bool, true, false, ◌&&◌, ◌||◌, List, [], ◌∷◌}
use Rattle.std.proofs.Common.{◌++◌, length, ◌⊎◌, inl, inr, Some, if◌then◌else◌, refl, sym, ap, subst, ◌∙◌, arith}
use Rattle.std.specs.Prelude.{Contains}
use Rattle.std.proofs.lemmas.Bool.{cases_eq}
use Rattle.std.proofs.lemmas.Grind.{common_steps}
use Rattle.std.proofs.lemmas.List.{take_at}
use Rattle.std.proofs.lemmas.List.Elements.{Contains-append_left, Contains-append_right}
use Rattle.group_types.specs.Dimensions.{Dimensions}
use Rattle.group_types.specs.Hash.{home_of}
use Rattle.group_types.specs.Lists.{at, put}
use Rattle.group_types.proofs.Lists.{at-put, at-put-other}
use Rattle.group_types.specs.Each.{Each, EachTwo}
use Rattle.group_types.proofs.Eaches.{each-append, each-weaker, each_two-push, each-middle}
use Rattle.memc_table.specs.Act.{key_of}
use Rattle.memc_table.specs.Contents.{Contents, empty_table}
use Rattle.group_message.specs.declared.update.Outcome.{Outcome}
use Rattle.group_message.specs.declared.update.Outcome.TheVariants as ends
use Rattle.group_message.specs.declared.update.Update.{Update}
use Rattle.group_calls.specs.Log.{table_of}
use Rattle.group_calls.specs.Turns.{CallName, accepts, call_entry, name_of}
use Rattle.group_calls.specs.declared.entry.Entry.{Entry}
use Rattle.group_run.specs.Asking.{reply_from}
use Rattle.group_run.specs.World.{AskedCall, Ticket, op_in, same_call, update_name}
use Rattle.law_updates.specs.Fine.{AreSteps, ComesBefore, IsStep}
use Rattle.law_updates.specs.Store.{StoreFits, no_store, store_after}
use Rattle.law_updates.proofs.Histories.{history-fits, steps-behind, steps-take}
use Rattle.law_log.proofs.Ties.{AreTickets, EntryStands, HasEntry, LogStands, NamesDiffer, Ties, is_logged}
use Rattle.law_log.proofs.Calls.{each-contained}
use Rattle.law_log.proofs.Tables.{legal-append, table-append, update-reply, update-ties}

-- the test says whether two names are equal
pub call-refl : (a : CallName) → same_call a a ≡ true
call-refl a = grind (arith, common_steps)

pub call-eq : (a b : CallName) → same_call a b ≡ true → a ≡ b
call-eq a b same = by (a.caller == b.caller) refl (a.call == b.call) refl same where
  by : (p : Bool) → (a.caller == b.caller) ≡ p → (q : Bool) → (a.call == b.call) ≡ q → (p && q) ≡ true → a ≡ b
  by true x true y both = let caller : a.caller ≡ b.caller = grind (arith, common_steps) in let call : a.call ≡ b.call =
      grind (arith, common_steps) in λ i. record { caller = caller i; call = call i }
  by true x false y both = absurd (cc both)
  by false x q y both = absurd (cc both)

pub call-ne : (a b : CallName) → a ≢ b → same_call a b ≡ false
call-ne a b other = by (same_call a b) refl where
  by : (t : Bool) → same_call a b ≡ t → same_call a b ≡ false
  by true e = absurd (other (call-eq a b e))
  by false e = e

-- what is handed out for an update accepts it
pub accepted-from : (o : Outcome) → accepts (reply_from o) ≡ true
accepted-from ends.Stored = refl
accepted-from ends.Deleted = refl
accepted-from ends.Touched = refl
accepted-from (ends.Number n) = refl

-- a name that no entry has
pub not-logged : (log : List Entry) (name : CallName) → Each (λ e. name_of e ≢ name) log → is_logged log name ≡ false
not-logged [] name others = refl
not-logged (e ∷ es) name others = ap (λ (b : Bool). b || is_logged es name) (call-ne (name_of e) name others.0) ∙ not-logged es name others.1

pub logged-left : (log more : List Entry) (name : CallName) → is_logged log name ≡ true → is_logged (log ++ more) name ≡ true
logged-left [] more name is = absurd (cc is)
logged-left (e ∷ es) more name is = by (same_call (name_of e) name) is (logged-left es more name) where
  by : (b : Bool) → (b || is_logged es name) ≡ true → (is_logged es name ≡ true → is_logged (es ++ more) name ≡ true)
      → (b || is_logged (es ++ more) name) ≡ true
  by true is later = refl
  by false is later = later is

pub logged-right : (log more : List Entry) (name : CallName) → is_logged more name ≡ true → is_logged (log ++ more) name ≡ true
logged-right [] more name is = is
logged-right (e ∷ es) more name is = by (same_call (name_of e) name) (logged-right es more name is) where
  by : (b : Bool) → is_logged (es ++ more) name ≡ true → (b || is_logged (es ++ more) name) ≡ true
  by true is = refl
  by false is = is

pub logged-not-left : (log more : List Entry) (name : CallName) → is_logged (log ++ more) name ≡ false → is_logged log name ≡ false
logged-not-left log more name none = by (is_logged log name) refl where
  by : (b : Bool) → is_logged log name ≡ b → is_logged log name ≡ false
  by true e = let both = logged-left log more name e in cc (both, none)
  by false e = e

-- the ticket of an issued call whose entry isn't in the log has its op
pub op-of : (log : List Entry) (calls : List AskedCall) (tickets : List Ticket) (c : AskedCall) → AreTickets log calls tickets
    → EachTwo (λ x y. x.name ≢ y.name) calls
    → Contains calls c → is_logged log c.name ≡ false
    → op_in c.name tickets ≡ Some c.op
op-of log [] tickets c are differ place none = absurd (omega (arith, place.1))
op-of log (x ∷ xs) [] c are differ place none = absurd are
op-of log (x ∷ xs) (t ∷ ts) c are differ (zero, below, is) none =
    let same : t.name ≡ c.name = are.0 ∙ ap (λ (y : AskedCall). y.name) is in
    ap (λ (n : CallName). if same_call n c.name then t.op else op_in c.name ts) same
    ∙ ap (λ (b : Bool). if b then t.op else op_in c.name ts) (call-refl c.name) ∙ has are.1 where
      has : (t.op ≡ Some x.op) ⊎ (is_logged log x.name ≡ true) → t.op ≡ Some c.op
      has (inl op) = op ∙ ap (λ (y : AskedCall). Some y.op) is
      has (inr logged) = let e = ap (λ (y : AskedCall). is_logged log y.name) is in absurd (cc (logged, e, none))
op-of log (x ∷ xs) (t ∷ ts) c are differ (suc k, below, is) none =
    let place : Contains xs c = (k, omega arith, is) in
    let other : x.name ≢ c.name = each-contained (λ y. x.name ≢ y.name) xs c differ.0 place in
    ap (λ (b : Bool). if b then t.op else op_in c.name ts) (call-ne t.name c.name (λ same. other (sym are.0 ∙ same)))
    ∙ op-of log xs ts c are.2 differ.1 place none

-- calls of one name are one
pub same-issued : (calls : List AskedCall) (a b : AskedCall) → EachTwo (λ x y. x.name ≢ y.name) calls → Contains calls a → Contains calls b → a.name ≡ b.name
    → a ≡ b
same-issued [] a b differ here there same = absurd (omega (arith, here.1))
same-issued (x ∷ xs) a b differ (zero, p, is) (zero, q, it) same = sym is ∙ it
same-issued (x ∷ xs) a b differ (zero, p, is) (suc k, q, it) same =
    absurd (each-contained (λ y. x.name ≢ y.name) xs b differ.0 (k, omega arith, it) (ap (λ (y : AskedCall). y.name) is ∙ same))
same-issued (x ∷ xs) a b differ (suc k, p, is) (zero, q, it) same =
    absurd (each-contained (λ y. x.name ≢ y.name) xs a differ.0 (k, omega arith, is) (ap (λ (y : AskedCall). y.name) it ∙ sym same))
same-issued (x ∷ xs) a b differ (suc k, p, is) (suc l, q, it) same = same-issued xs a b differ.1 (k, omega arith, is) (l, omega arith, it) same

-- each of those before comes before
before-all : (R : Update → Update → Type 0) (us : List Update) (u : Update) (rest : List Update) → EachTwo R (us ++ u ∷ rest) → Each (λ v. R v u) us
before-all R [] u rest two = tt
before-all R (v ∷ vs) u rest two = (each-middle (R v) vs u rest two.0, before-all R vs u rest two.1)

module _ (s : Dimensions) (some : 1 ≤ s.k) (issued : List AskedCall) (differ : EachTwo (λ x y. x.name ≢ y.name) issued) (final : ℕ → List Update)
    (steps : (d : ℕ) → d < s.k → AreSteps s issued d 0 (no_store s) (final d)) (rising : (d : ℕ) → d < s.k → EachTwo ComesBefore (final d)) where
  module _ (log : List Entry) (settled : List (List Update)) (d : ℕ) (u : Update) (rest : List Update) (low : d < s.k)
      (is : final d ≡ at [] settled d ++ u ∷ rest)
      (stands : LogStands s issued log settled) (many : length settled ≡ s.k) where
    pub step-here : IsStep s issued d (suc (length (at [] settled d))) (store_after s d (at [] settled d)) u
    step-here = (steps-behind s issued d 0 (length (at [] settled d)) (no_store s) (at [] settled d) (u ∷ rest)
        (omega arith) (subst (AreSteps s issued d 0 (no_store s)) is (steps d low))).0

    pub fits-here : StoreFits s (store_after s d (at [] settled d))
    fits-here = history-fits s issued d (at [] settled d)
        (subst (AreSteps s issued d 0 (no_store s)) (take_at (at [] settled d) (u ∷ rest) (length (at [] settled d)) refl)
        (steps-take s issued d (length (at [] settled d)) 0 (no_store s) (at [] settled d ++ u ∷ rest)
        (subst (AreSteps s issued d 0 (no_store s)) is (steps d low))))

    before-here : Each (λ v. ComesBefore v u) (at [] settled d)
    before-here = before-all ComesBefore (at [] settled d) u rest (subst (EachTwo ComesBefore) is (rising d low))

    abbrev c : AskedCall
    c = step-here.call

    abbrev entry : Entry
    entry = call_entry (update_name u) step-here.call.op (reply_from u.outcome)

    own-call : Contains issued (record { name = update_name u; op = step-here.call.op })
    own-call = subst (λ (n : CallName). Contains issued (record { name = n; op = step-here.call.op })) (sym step-here.name) step-here.asked

    -- no entry has its name
    pub fresh : Each (λ e. name_of e ≢ update_name u) log
    fresh = each-weaker (EntryStands s issued settled) (λ e. name_of e ≢ update_name u) (λ e entry. by e entry) log stands.entries where
      by : (e : Entry) → EntryStands s issued settled e → name_of e ≢ update_name u
      by e (inr refused) same = each-contained (λ x. x.name ≢ name_of e) issued step-here.call refused.other step-here.asked (sym step-here.name ∙ sym same)
      by e (inl of) same =
          let one : record { name = name_of e; op = e.op } ≡ step-here.call = same-issued issued
          (record { name = name_of e; op = e.op }) step-here.call differ of.call step-here.asked (same ∙ step-here.name) in
          let home : home_of (key_of e.op.act) s.k ≡ d = ap (λ (x : AskedCall). home_of (key_of x.op.act) s.k) one ∙ step-here.fits.home in
          let there : Contains (at [] settled d) of.update = subst (λ (k : ℕ). Contains (at [] settled k) of.update) home of.there in
          let names : update_name of.update ≡ update_name u = of.named ∙ same in
          let below = each-contained (λ v. ComesBefore v u) (at [] settled d) of.update before-here there (ap (λ (x : CallName). x.caller) names) in
          let calls : of.update.call ≡ u.call = ap (λ (x : CallName). x.call) names in
          omega arith

    table-there : table_of (empty_table s.k) (log ++ entry ∷ []) ≡ table_of (table_of (empty_table s.k) log) (entry ∷ [])
    table-there = table-append (empty_table s.k) log (entry ∷ [])

    abbrev next : List (List Update)
    next = put [] settled d (at [] settled d ++ u ∷ [])

    -- a settled update stays settled
    pub stays-settled : (e : ℕ) (v : Update) → Contains (at [] settled e) v → Contains (at [] next e) v
    stays-settled e v there = by (cases_eq e d) where
      by : (e ≡ d) ⊎ (e ≢ d) → Contains (at [] next e) v
      by (inr other) = subst (λ (us : List Update). Contains us v) (sym (at-put-other [] settled d e (at [] settled d ++ u ∷ []) other)) there
      by (inl same) =
          subst (λ (us : List Update). Contains us v) (sym (ap (at [] next) same ∙ at-put [] [] settled d (at [] settled d ++ u ∷ [])))
          (Contains-append_left (at [] settled d) (u ∷ []) v (subst (λ (k : ℕ). Contains (at [] settled k) v) same there))

    entry-more : (e : Entry) → EntryStands s issued settled e → EntryStands s issued next e
    entry-more e (inr refused) = inr refused
    entry-more e (inl of) =
        inl (record {
          call = of.call;
          update = of.update;
          there = stays-settled (home_of (key_of e.op.act) s.k)
              of.update of.there;
          named = of.named;
          accepted = of.accepted;
        })

    here-settled : Contains (at [] next d) u
    here-settled = subst (λ (us : List Update). Contains us u)
        (sym (at-put [] [] settled d (at [] settled d ++ u ∷ [])))
        (Contains-append_right (at [] settled d) (u ∷ []) u (0, omega arith, refl))

    has-more : (v : Update) → HasEntry log v → HasEntry (log ++ entry ∷ []) v
    has-more v has = record { entry = has.entry; there = Contains-append_left log (entry ∷ []) has.entry has.there; named = has.named; replied = has.replied }

    has-here : HasEntry (log ++ entry ∷ []) u
    has-here = record { entry = entry; there = Contains-append_right log (entry ∷ []) entry (0, omega arith, refl); named = refl; replied = refl }

    entered-more : (e : ℕ) → (e ≡ d) ⊎ (e ≢ d) → Each (HasEntry (log ++ entry ∷ [])) (at [] next e)
    entered-more e (inr other) = subst (Each (HasEntry (log ++ entry ∷ []))) (sym (at-put-other [] settled d e (at [] settled d ++ u ∷ []) other))
        (each-weaker (HasEntry log) (HasEntry (log ++ entry ∷ [])) has-more (at [] settled e) (stands.entered e))
    entered-more e (inl same) = subst (Each (HasEntry (log ++ entry ∷ []))) (sym (ap (at [] next) same ∙ at-put [] [] settled d (at [] settled d ++ u ∷ [])))
        (each-append (HasEntry (log ++ entry ∷ [])) (at [] settled d) (u ∷ [])
        (each-weaker (HasEntry log) (HasEntry (log ++ entry ∷ [])) has-more (at [] settled d) (stands.entered d))
        (has-here, tt))

    pub entry-stands : LogStands s issued (log ++ entry ∷ []) next
    entry-stands = record {
      legal = legal-append (empty_table s.k) log (entry ∷ []) stands.legal (
        update-reply s some settled (table_of (empty_table s.k) log) stands.ties d u step-here.call.op
            step-here.fits.home fits-here step-here.right low,
        tt,
      );
      ties =
          subst (λ (t : Contents). Ties s next t) (sym table-there)
          (update-ties s some settled (table_of (empty_table s.k) log) stands.ties d u step-here.call.op step-here.fits.home fits-here step-here.right low);
      entries = each-append (EntryStands s issued next) log (entry ∷ [])
          (each-weaker (EntryStands s issued settled) (EntryStands s issued next) entry-more log stands.entries) (
            inl (record {
              call = own-call;
              update = u;
              there = subst (λ (k : ℕ). Contains (at [] next k) u) (sym step-here.fits.home) here-settled;
              named = refl;
              accepted = accepted-from u.outcome;
            }),
            tt,
          );
      once = each_two-push NamesDiffer log entry stands.once fresh;
      entered = λ e. entered-more e (cases_eq e d);
    }
