-- What a group keeps of calls, told of its log.
use Rattle.std.proofs.Common.{ℕ, zero, suc, ◌≡◌, ◌<◌, ◌-◌, ◌==◌, Bool, true, false, List, [], ◌∷◌, map, take, Option}
use Rattle.std.proofs.Common.{Some, None, if◌then◌else◌, refl, sym, ap, subst, ◌∙◌}
use Rattle.std.specs.List.{slice_get}
use Rattle.group_types.specs.Dimensions.{Dimensions}
use Rattle.group_types.specs.Lists.{at}
use Rattle.group_types.specs.declared.process.ProcessId.TheVariants.{DataNode, ParityNode}
use Rattle.memc_table.specs.Contents.{empty_table}
use Rattle.group_message.specs.declared.kept.Kept.{Kept}
use Rattle.group_message.specs.declared.update.Update.{Update}
use Rattle.group_calls.specs.Turns.{CallName}
use Rattle.group_calls.specs.declared.entry.Entry.{Entry}
use Rattle.group_run.specs.Applying.{replica_of}
use Rattle.group_run.specs.Asking.{reply_from}
use Rattle.group_run.specs.History.{History}
use Rattle.group_run.specs.Keeping.{HeldIsHeld, IsHeldFor, IsKept, KeepsLast, KeptIsLast, last_by}
use Rattle.group_run.specs.Meaning.{Logged, process_of, updates_of}
use Rattle.group_run.specs.Process.{Held}
use Rattle.group_run.specs.Replica.{Replica}
use Rattle.group_run.specs.World.{World}
use Rattle.law_moves.specs.State.{state_of}
use Rattle.law_log.specs.Book.{Book, book_of, no_book}
use Rattle.law_log.proofs.Books.{book-history, book-shape, book-world}
use Rattle.law_log.proofs.KnownWords.{CallsAreKnown}
use Rattle.law_log.proofs.HeldWords.{HeldAreAt, IsHeldAt}
use Rattle.law_log.proofs.KeptWords.{KeptFits, KeptStand, kept_last}
use Rattle.law_log.proofs.Held.{held-book}
use Rattle.law_log.proofs.Kept.{kept_always}
use Rattle.law_log.proofs.Matches.{AllMatch, Matches, entries-of, match_always}

-- the entries of logged updates
abbrev entries : List Logged → List Entry
entries logged = map (λ (x : Logged). x.entry) logged

-- the last of a caller's among the first n is the same in the log as among what is settled
kept-same : (caller n : ℕ) (logged : List Logged) (settled : List Update) (a : Option Logged) (b : Option Kept) → Matches (entries logged) settled → IsKept a b
    → IsKept (last_by caller a (take n logged)) (kept_last caller b (take n settled))
kept-same caller zero logged settled a b all kept = kept
kept-same caller (suc n) [] [] a b all kept = kept
kept-same caller (suc n) [] (u ∷ us) a b all kept = absurd all
kept-same caller (suc n) (x ∷ xs) [] a b all kept = absurd all
kept-same caller (suc n) (x ∷ xs) (u ∷ us) a b all kept =
    kept-same caller n xs us (if x.entry.caller == caller then Some x else a)
    (if u.caller == caller then Some (record { call = u.call; outcome = u.outcome }) else b) all.2
    (subst (λ (t : Bool). IsKept (if t then Some x else a)
    (if u.caller == caller then Some (record { call = u.call; outcome = u.outcome }) else b)) (sym test)
    (by (u.caller == caller))) where
      test : (x.entry.caller == caller) ≡ (u.caller == caller)
      test = ap (λ (name : CallName). name.caller == caller) all.0

      by : (t : Bool) → IsKept (if t then Some x else a) (if t then Some (record { call = u.call; outcome = u.outcome }) else b)
      by true = (ap (λ (name : CallName). name.call) (sym all.0), sym all.1)
      by false = kept

-- the settled update of a logged one
matched : (logged : List Logged) (settled : List Update) (i : ℕ) (x : Logged) → Matches (entries logged) settled → slice_get logged i ≡ Some x
    → (u : Update) × (slice_get settled i ≡ Some u) × (x.entry.caller ≡ u.caller) × (x.entry.call ≡ u.call) × (x.entry.reply ≡ reply_from u.outcome)
matched [] settled i x all is = absurd (cc is)
matched (y ∷ xs) [] i x all is = absurd all
matched (y ∷ xs) (u ∷ us) zero x all is =
    let same : y ≡ x = ap (λ (o : Option Logged). elim o [ None ↦ y | Some z ↦ z ]) is in
    subst (λ (z : Logged). (v : Update) × (slice_get (u ∷ us) 0 ≡ Some v) × (z.entry.caller ≡ v.caller)
    × (z.entry.call ≡ v.call) × (z.entry.reply ≡ reply_from v.outcome)) same
    (u, refl, ap (λ (name : CallName). name.caller) all.0, ap (λ (name : CallName). name.call) all.0, all.1)
matched (y ∷ xs) (u ∷ us) (suc i) x all is = matched xs us i x all.2 is

module _ (h : History) (match : AllMatch h.world.shape.k h.world.log h.settled) where
  all-match : (d : ℕ) → d < h.world.shape.k → Matches (entries (updates_of h.world d)) (at [] h.settled d)
  all-match d below =
      subst (λ (es : List Entry). Matches es (at [] h.settled d))
      (sym (entries-of h.world.shape.k d (empty_table h.world.shape.k) (at [] h.world.places d) h.world.log)) (match d below)

  keeps-last : (d : ℕ) (r : Replica) → d < h.world.shape.k → KeptFits (at [] h.settled d) r → KeepsLast h.world d r
  keeps-last d r below fits caller within =
      subst (IsKept (last_by caller None (take r.applied (updates_of h.world d)))) (sym (fits.last caller))
      (kept-same caller r.applied (updates_of h.world d) (at [] h.settled d) None None (all-match d below) tt)

  pub kept-is-last : KeptStand h.world.shape (state_of h) → KeptIsLast h.world
  kept-is-last stand = record {
    at_data = λ d lives. keeps-last d (replica_of (process_of h.world (DataNode d)) d) lives.0 (stand (DataNode d) d lives.0 lives.1 lives.0 refl);
    at_parity = λ i d below lives. keeps-last d (replica_of (process_of h.world (ParityNode i)) d) below (stand (ParityNode i) d lives.0 lives.1 below tt);
  }

  held-for : (d : ℕ) (r : Replica) (x : Held) → d < h.world.shape.k → IsHeldAt (at [] h.settled d) r x → IsHeldFor h.world d r x
  held-for d r x below at_place = record {
    settled = λ u low is.
        let found = matched (updates_of h.world d) (at [] h.settled d) (x.number - 1) u (all-match d below) is in
        let from = at_place.is_settled found.0 low found.1 in
        (found.2 ∙ from.0, found.3 ∙ from.1, found.4 ∙ ap reply_from from.2);
    waiting = λ u high is. at_place.waits u high is;
  }

  pub held-is-held : HeldAreAt h.world.shape (state_of h) → HeldIsHeld h.world
  held-is-held are p d x lives below there = held-for d (replica_of (process_of h.world p) d) x below (are p d x lives.0 lives.1 below there)

pub calls_are_known : CallsAreKnown
calls_are_known s stands es run =
    let b : Book = book_of s es in
    let match = match_always s stands es run in
    let kept : KeptStand b.history.world.shape (state_of b.history) =
    subst (λ (t : Dimensions). KeptStand t (state_of b.history)) (sym (book-shape s es))
    (subst (λ (h : History). KeptStand s (state_of h)) (sym (book-history (no_book s) es)) (kept_always s es run)) in
    let held : HeldAreAt b.history.world.shape (state_of b.history) =
    subst (λ (t : Dimensions). HeldAreAt t (state_of b.history)) (sym (book-shape s es)) (held-book s es run).2 in
    subst (λ (w : World). KeptIsLast w × HeldIsHeld w) (book-world s es) (kept-is-last b.history match kept, held-is-held b.history match held)
