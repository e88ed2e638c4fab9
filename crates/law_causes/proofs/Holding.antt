-- Of which updates a process holds calls: of what it heads, by one name of one partition.
use Rattle.std.proofs.Common.{ℕ, zero, suc, ◌≡◌, ◌≢◌, ◌<◌, ◌≤◌, ◌==◌, true, List, [], ◌∷◌, length, Option, Some, None, refl, sym, ap, subst, ◌∙◌, arith}
use Rattle.std.proofs.lemmas.Grind.{common_steps}
use Rattle.std.specs.Prelude.{Contains}
use Rattle.group_types.specs.Dimensions.{Dimensions}
use Rattle.group_types.specs.Each.{EachTwo}
use Rattle.group_types.specs.Hash.{home_of}
use Rattle.group_types.specs.declared.process.ProcessId.{ProcessId}
use Rattle.memc_table.specs.Act.{key_of}
use Rattle.group_message.specs.declared.update.Update.{Update}
use Rattle.group_calls.specs.Turns.{CallName}
use Rattle.group_calls.specs.declared.event.Event.{Event}
use Rattle.group_run.specs.Applying.{head_at, held_at, replica_of}
use Rattle.group_run.specs.Asking.{is_call}
use Rattle.group_run.specs.Causes.{HoldsCall}
use Rattle.group_run.specs.Headline.{IsRun}
use Rattle.group_run.specs.History.{History, history}
use Rattle.group_run.specs.Meaning.{Lives, process_of}
use Rattle.group_run.specs.Process.{Head, Held}
use Rattle.group_run.specs.Replica.{last_of}
use Rattle.group_run.specs.World.{AskedCall, World, after, update_name}
use Rattle.law_moves.specs.State.{IsGroupUp, state_of}
use Rattle.law_moves.proofs.Notices.{both}
use Rattle.law_updates.specs.Fine.{AreSteps, IsCallOf}
use Rattle.law_updates.specs.Store.{Store, store_with_update}
use Rattle.law_histories.proofs.Around.{keeper-rank}
use Rattle.law_histories.proofs.Finished.{reached-and-told}
use Rattle.law_histories.proofs.Histories.{length-history}
use Rattle.law_histories.proofs.Ranks.{head-from}
use Rattle.law_histories.proofs.Reach.{Any, ReplicaReaches}
use Rattle.law_histories.proofs.ToldKeeping.{Reached}
use Rattle.law_log.specs.Book.{Book, book_of, no_book}
use Rattle.law_log.specs.Stands.{Stands}
use Rattle.law_log.proofs.Books.{book-history, book-shape, book-world}
use Rattle.law_log.proofs.Calls.{each-contained}
use Rattle.law_log.proofs.Entries.{same-issued}
use Rattle.law_log.proofs.Held.{held-book}
use Rattle.law_log.proofs.HeldWords.{HeldStand, IsHeldOf}
use Rattle.law_log.proofs.Logging.{LogsOf, logs_always, stands-in}
use Rattle.law_headline.proofs.All.{whole-always}
use Rattle.law_headline.proofs.Promises.{stands-always}
use Rattle.law_causes.proofs.Unfinished.{number-in}

-- a held call is of what the process heads, and its number was issued there
pub record IsIssuedHere (w : World) (p : ProcessId) (d : ℕ) (x : Held) : Type 0 where
  pub head : Head
  pub heads : head_at (process_of w p) d ≡ Some head
  pub within : x.number ≤ last_of (replica_of (process_of w p) d)

-- the call of an update of a fine history
call-of : (s : Dimensions) (calls : List AskedCall) (d n : ℕ) (store : Store) (us : List Update) (u : Update) → AreSteps s calls d n store us → Contains us u
    → (c : AskedCall) × Contains calls c × IsCallOf s d c × (update_name u ≡ c.name)
call-of s calls d n store [] u steps (k, low, is) = absurd (omega (arith, low))
call-of s calls d n store (v ∷ us) u steps (zero, low, is) = (steps.0.call, steps.0.asked, steps.0.fits, ap update_name (sym is) ∙ steps.0.name)
call-of s calls d n store (v ∷ us) u steps (suc k, low, is) = call-of s calls d (suc n) (store_with_update s d v store) us u steps.1 (k, omega (arith, low), is)

module _ (h : History) (reached : Reached h.world.shape (state_of h)) (held : HeldStand h.world.shape (state_of h))
    (p : ProcessId) (lives : Lives h.world p) where
  -- the head of a partition that the process holds a call of
  held-head : (d : ℕ) (x : Held) → d < h.world.shape.k → Contains (held_at (process_of h.world p) d) x → (y : Head)
      × (head_at (process_of h.world p) d ≡ Some y)
  held-head d x low there = by (head_at (process_of h.world p) d) refl where
    by : (o : Option Head) → head_at (process_of h.world p) d ≡ o → (y : Head) × (head_at (process_of h.world p) d ≡ Some y)
    by (Some y) is = (y, is)
    by None is = absurd (let none = (held p d lives.0 lives.1 low).none is in let few = there.1 in
        let long : length (held_at (process_of h.world p) d) ≡ 0 = ap length none in omega (arith, few, long))

  held-update : (d : ℕ) (x : Held) (y : Head) → d < h.world.shape.k → head_at (process_of h.world p) d ≡ Some y → Contains (held_at (process_of h.world p) d) x
      → IsHeldOf (history ((state_of h).settled d) (replica_of (process_of h.world p) d)) x
  held-update d x y low heads there =
      each-contained (IsHeldOf (history ((state_of h).settled d) (replica_of (process_of h.world p) d)))
      (held_at (process_of h.world p) d) x ((held p d lives.0 lives.1 low).heads y heads) there

  issued-here : (d : ℕ) (x : Held) → d < h.world.shape.k → Contains (held_at (process_of h.world p) d) x → IsIssuedHere h.world p d x
  issued-here d x low there =
      let head = held-head d x low there in
      let of : IsHeldOf (history ((state_of h).settled d) (replica_of (process_of h.world p) d)) x = held-update d x head.0 low head.1 there in
      let reaches : ReplicaReaches Any d ((state_of h).settled d) ((state_of h).process p)
      = (reached.1 d low).replicas p lives.0 lives.1
      (keeper-rank d head.0.rank p (head-from h.world.shape (state_of h) d reached.0 low p head.0 lives.0 lives.1
      head.1).0) in
      let number = of.number in
      let high = (number-in 1 (history ((state_of h).settled d) (replica_of (process_of h.world p) d)) of.update reaches.fine.0 of.there).1 in
      let long = length-history ((state_of h).settled d) (replica_of (process_of h.world p) d) reaches.applied in
      record { head = head.0; heads = head.1; within = omega (arith, number, high, long) }

  module _ (calls : List AskedCall) (stands : Stands h.world.shape calls (state_of h)) (up : IsGroupUp h.world.shape (state_of h)) where
    -- the issued call of a held one
    held-call : (d : ℕ) (x : Held) → d < h.world.shape.k → Contains (held_at (process_of h.world p) d) x
        → (c : AskedCall) × Contains calls c × (home_of (key_of c.op.act) h.world.shape.k ≡ d) × (c.name ≡ record { caller = x.caller; call = x.call })
    held-call d x low there = by (call-of h.world.shape calls d 0 _ (history ((state_of h).settled d) (replica_of (process_of h.world p) d)) of.update
        (stands.heads up p d head.0 lives.0 lives.1 low head.1).fine.steps of.there)
      where
        head : (y : Head) × (head_at (process_of h.world p) d ≡ Some y)
        head = held-head d x low there

        of : IsHeldOf (history ((state_of h).settled d) (replica_of (process_of h.world p) d)) x
        of = held-update d x head.0 low head.1 there

        named : update_name of.update ≡ record { caller = x.caller; call = x.call }
        named = let caller = of.caller in let call = of.call in λ i. record { caller = caller i; call = call i }

        by : (c : AskedCall) × Contains calls c × IsCallOf h.world.shape d c × (update_name of.update ≡ c.name)
            → (c : AskedCall) × Contains calls c × (home_of (key_of c.op.act) h.world.shape.k ≡ d) × (c.name ≡ record { caller = x.caller; call = x.call })
        by (c, asked, fits, name) = (c, asked, fits.home, sym name ∙ named)

    -- the held call is of this name
    abbrev Named : Held → ℕ → ℕ → Type 0
    Named z caller call = ◌≡◌ {A = CallName} (record { caller = z.caller; call = z.call }) (record { caller = caller; call = call })

    -- a call of one name is held of one partition
    pub one-partition : EachTwo (λ a b. a.name ≢ b.name) calls → (caller call d e : ℕ) (x y : Held)
        → HoldsCall h.world p caller call d x → HoldsCall h.world p caller call e y → d ≡ e
    one-partition differ caller call d e x y first second = by (held-call d x first.partition first.held) (held-call e y second.partition second.held) where
      named : (z : Held) → is_call caller call z ≡ true → Named z caller call
      named z is =
          let names = both (z.caller == caller) (z.call == call) is in
          let one = names.0 in
          let two = names.1 in
          let caller_is : z.caller ≡ caller = grind (arith, common_steps) in
          let call_is : z.call ≡ call = grind (arith, common_steps) in
          λ i. record { caller = caller_is i; call = call_is i }

      by : (a : AskedCall) × Contains calls a × (home_of (key_of a.op.act) h.world.shape.k ≡ d) × (a.name ≡ record { caller = x.caller; call = x.call })
          → (b : AskedCall) × Contains calls b × (home_of (key_of b.op.act) h.world.shape.k ≡ e) × (b.name ≡ record { caller = y.caller; call = y.call })
          → d ≡ e
      by (a, asked, home, name) (b, asked_too, home_too, name_too) =
          let same : a ≡ b = same-issued calls a b differ asked asked_too (name ∙ named x first.named ∙ sym (named y second.named) ∙ sym name_too) in
          sym home ∙ ap (λ (c : AskedCall). home_of (key_of c.op.act) h.world.shape.k) same ∙ home_too

-- what a living process holds was issued there, along every run
abbrev pub HoldsIssued : World → Type 0
HoldsIssued w = (p : ProcessId) (d : ℕ) (x : Held) → Lives w p → d < w.shape.k → Contains (held_at (process_of w p) d) x → IsIssuedHere w p d x

-- what stands at the book of a run
module _ (s : Dimensions) (es : List Event) (run : IsRun s es) where
  abbrev pub at_book : Book
  at_book = book_of s es

  shape : (book_of s es).history.world.shape ≡ s
  shape = book-shape s es

  pub reached-book : Reached (book_of s es).history.world.shape (state_of (book_of s es).history)
  reached-book = subst (λ (t : Dimensions). Reached t (state_of (book_of s es).history)) (sym shape)
      (subst (λ (x : History). Reached s (state_of x)) (sym (book-history (no_book s) es)) (reached-and-told s es run).0)

  pub held-stand : HeldStand (book_of s es).history.world.shape (state_of (book_of s es).history)
  held-stand = subst (λ (t : Dimensions). HeldStand t (state_of (book_of s es).history)) (sym shape) (held-book s es run).0

  pub calls-stand : Stands (book_of s es).history.world.shape (book_of s es).issued (state_of (book_of s es).history)
  calls-stand = stands-in s (stands-always s (whole-always s)) es run

  pub calls-differ : EachTwo (λ a b. a.name ≢ b.name) (book_of s es).issued
  calls-differ = let logs : LogsOf (book_of s es) = logs_always s (stands-always s (whole-always s)) es run in logs.differ

  pub holds-issued : HoldsIssued (after s es)
  holds-issued = subst HoldsIssued (book-world s es) (λ p d x lives low there. issued-here (book_of s es).history reached-book held-stand p lives d x low there)
