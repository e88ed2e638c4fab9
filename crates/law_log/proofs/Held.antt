-- What is held stays so in every move, and is settled once it is applied.
use Rattle.std.proofs.Common.{ℕ, suc, ◌≡◌, ◌≢◌, ◌<◌, ◌≤◌, false, List, [], ◌∷◌, length, take, drop, Option, Some, None}
use Rattle.std.proofs.Common.{◌⊎◌, inl, inr, refl, sym, ap, subst, ◌∙◌, arith, zero, ◌+◌, ◌-◌}
use Rattle.std.proofs.lemmas.List.{take-append-drop}
use Rattle.std.proofs.lemmas.List.Elements.{Contains-append_left, Contains-append_right, Contains-append_cases}
use Rattle.std.specs.Prelude.{Contains}
use Rattle.std.specs.List.{range_with_len, slice_get}
use Rattle.group_types.specs.Dimensions.{Dimensions}
use Rattle.group_types.specs.Hash.{home_of}
use Rattle.group_types.specs.Lists.{at}
use Rattle.group_types.specs.Names.{IsProcess}
use Rattle.group_types.specs.Shape.{IsShape}
use Rattle.group_types.specs.declared.process.ProcessId.{ProcessId}
use Rattle.group_types.proofs.Lists.{at-replicate}
use Rattle.group_types.proofs.Names.{same-cases}
use Rattle.group_types.specs.Each.{Each}
use Rattle.group_types.proofs.Eaches.{each-weaker}
use Rattle.memc_table.specs.Act.{key_of}
use Rattle.group_message.specs.declared.update.Update.{Update}
use Rattle.group_calls.specs.declared.event.Event.{Event}
use Rattle.group_run.specs.Applying.{ProcessStep, head_at, held_at, replica_of}
use Rattle.group_run.specs.Fitting.{NumberedFrom}
use Rattle.group_run.specs.Headline.{IsRun}
use Rattle.group_run.specs.History.{History, settled_with, history}
use Rattle.group_run.specs.Process.{Head, Held, Process}
use Rattle.group_run.specs.Receiving.{receive}
use Rattle.group_run.specs.Replica.{Replica}
use Rattle.law_moves.proofs.Moves.{Asks, Collects, Died, Flushes, Keeps, Treats}
use Rattle.law_moves.specs.State.{State, state_of}
use Rattle.law_moves.proofs.State.{Opens}
use Rattle.law_moves.proofs.Runs.{holds_always}
use Rattle.law_moves.proofs.Members.{Members}
use Rattle.law_histories.proofs.HistoryWords.{HistoryLaws}
use Rattle.law_histories.proofs.Applies.{settled-begins}
use Rattle.law_histories.proofs.Histories.{history-grown, log-numbered, numbered-front}
use Rattle.law_histories.proofs.Reach.{Any, Reach, ReplicaFits, ReplicaReaches}
use Rattle.law_histories.proofs.Around.{FollowsBy, Since, keeper-rank}
use Rattle.law_histories.proofs.Keeping.{Leaves_both, keeps_reach, receives-both, treats-both}
use Rattle.law_histories.proofs.Ranks.{head-from}
use Rattle.law_histories.proofs.LaneWords.{Prolongs}
use Rattle.law_log.specs.Book.{book_of, no_book}
use Rattle.law_log.specs.Stands.{IsSettledAs}
use Rattle.law_log.proofs.Books.{book-history}
use Rattle.law_log.proofs.Calls.{each-contained}
use Rattle.law_log.proofs.Turnings.{get-contained}
use Rattle.law_log.proofs.HeldWords.{HeldAlways, HeldAreAt, HeldFits, HeldIsSettled, HeldStand, IsHeldAt, IsHeldFrom, IsHeldOf}
use Rattle.law_log.proofs.HeldCalls.{held-ask, held-collect, held_of}
use Rattle.law_log.proofs.Holds.{holds-receive}

-- a history that begins with another has its updates
pub begins-contains : (front whole : List Update) → Prolongs front whole → (u : Update) → Contains front u → Contains whole u
begins-contains front whole begins u there =
    subst (λ (us : List Update). Contains us u) (take-append-drop (length front) whole)
    (Contains-append_left (take (length front) whole) _ u (subst (λ (us : List Update). Contains us u) (sym begins.front) there))

held-more : (front whole : List Update) → Prolongs front whole → (x : Held) → IsHeldOf front x → IsHeldOf whole x
held-more front whole begins x is =
    record {
      update = is.update;
      there = begins-contains front whole begins is.update is.there;
      number = is.number;
      caller = is.caller;
      call = is.call;
      outcome = is.outcome;
    }

none-held : (xs : List Held) → Each (λ x. ⊥) xs → xs ≡ []
none-held [] all = refl
none-held (x ∷ xs) all = absurd all.0

-- what a move makes of the calls that a process holds of partition d: whatever is said of each of those that were
-- held is said of each, if it is of the calls of updates of the log that the process has as a head
abbrev pub HoldsOn : ℕ → Process → Process → Type 1
HoldsOn d p q = (P : Held → Type 0) → Each P (held_at p d)
    → ((g : Head) (u : Update) → head_at p d ≡ Some g → Contains (replica_of q d).log u → P (held_of u))
    → Each P (held_at q d)

held-moved : (d : ℕ) (old settled : List Update) (p q : Process) → HeldFits old d p → Since d p q
    → FollowsBy d old (replica_of p d) settled q → HoldsOn d p q → HeldFits settled d q
held-moved d old settled p q fits since follows moves = record {
  heads = λ h heads. by (head_at p d) refl h heads;
  none = λ none. none-by (head_at p d) refl none;
} where
  whole : List Update
  whole = history settled (replica_of q d)

  by : (o : Option Head) → head_at p d ≡ o → (h : Head) → head_at q d ≡ Some h → Each (IsHeldOf whole) (held_at q d)
  by None is h heads = moves (IsHeldOf whole) (subst (Each (IsHeldOf whole)) (sym (fits.none is)) tt) (λ g u some there. absurd (cc (is, some)))
  by (Some g) is h heads = moves (IsHeldOf whole)
      (each-weaker (IsHeldOf (history old (replica_of p d))) (IsHeldOf whole)
      (λ x of. held-more (history old (replica_of p d)) whole (follows h heads) x of) (held_at p d) (fits.heads g is))
      (λ g u some there. record {
        update = u;
        there = Contains-append_right (take (replica_of q d).applied settled)
            (replica_of q d).log u there;
        number = refl;
        caller = refl;
        call = refl;
        outcome = refl;
      })

  none-by : (o : Option Head) → head_at p d ≡ o → head_at q d ≡ None → held_at q d ≡ []
  none-by (Some g) is none = absurd (cc ((since.heads g is).heads, none))
  none-by None is none = none-held (held_at q d) (moves (λ x. ⊥) (subst (Each (λ x. ⊥)) (sym (fits.none is)) tt) (λ g u some there. absurd (cc (is, some))))

-- another process's history stays where more is settled
held-stays : (d : ℕ) (old settled : List Update) (p : Process) → ((h : Head) → head_at p d ≡ Some h → (replica_of p d).applied ≤ length old)
    → Prolongs old settled → HeldFits old d p → HeldFits settled d p
held-stays d old settled p applied begins fits = record {
  heads = λ h heads. subst (λ (us : List Update). Each (IsHeldOf us) (held_at p d))
      (sym (history-grown old (replica_of p d) (applied h heads) settled begins)) (fits.heads h heads);
  none = fits.none;
}

any-laws : HistoryLaws Any
any-laws = record { start = λ d. tt; rises = λ d a b history any low high. tt }

module _ (s : Dimensions) (shaped : IsShape s) where
  all-held : (v w : State) (p : ProcessId) → Members s v → Reach Any s v → Leaves_both Any any-laws s shaped v w p
      → ((q : ProcessId) → IsProcess s q → q ≢ p → w.process q ≡ v.process q)
      → ((q : ProcessId) → IsProcess s q → w.dead q ≡ v.dead q)
      → ((d : ℕ) → d < s.k → Prolongs (v.settled d) (w.settled d))
      → ((d : ℕ) → HoldsOn d (v.process p) (w.process p)) → HeldStand s v → HeldStand s w
  all-held v w p members reach leaves others dead begins moves stand q d qin living below = by (same-cases q p) where
    lived : v.dead q ≡ false
    lived = sym (dead q qin) ∙ living

    old : HeldFits (v.settled d) d (v.process q)
    old = stand q d qin lived below

    by : (q ≡ p) ⊎ (q ≢ p) → HeldFits (w.settled d) d (w.process q)
    by (inl same) =
        subst (λ (y : ProcessId). HeldFits (w.settled d) d (w.process y)) (sym same)
        (held-moved d (v.settled d) (w.settled d) (v.process p) (w.process p)
        (subst (λ (y : ProcessId). HeldFits (v.settled d) d (v.process y)) same old) (leaves d below).1
        (leaves d below).3 (moves d))
    by (inr other) =
        subst (HeldFits (w.settled d) d) (sym (others q qin other))
        (held-stays d (v.settled d) (w.settled d) (v.process q)
        (λ h heads. ((reach d below).replicas q qin lived (keeper-rank d h.rank q (head-from s v d members below q h qin lived heads).0)).applied)
        (begins d below) old)

  -- what a process treats
  treats-hold : (p : Process) (t : ProcessStep) → Treats s p t → (d : ℕ) → HoldsOn d p t.process
  treats-hold p _ (Asks name op bytes) d P all more = held-ask s P d name op (home_of (key_of op.act) s.k) p
      (head_at p (home_of (key_of op.act) s.k)) refl all more
  treats-hold p _ (Collects caller call) d P all more = held-collect P d caller call p (range_with_len 0 s.k) all
  treats-hold p _ Flushes d P all more = all

  pub keeps_held : Keeps s (λ v. (Members s v × Reach Any s v) × HeldStand s v)
  keeps_held = record {
    opens = λ v starts. ((keeps_reach s shaped).opens v starts, λ p d pin living below. opened v starts p d pin);
    treats = λ v w p t pin up lives treated both acts. (
      (keeps_reach s shaped).treats v w p t pin up lives treated both.0 acts,
      all-held v w p both.0.0 both.0.1
          (treats-both Any any-laws s shaped v w p t pin up lives (λ name op bytes h body outcome heads is. tt) treated
          both.0.0 both.0.1 acts) acts.others acts.dead
          (λ d below. subst (Prolongs (v.settled d)) (sym (acts.settled d below)) (settled-begins t.settled d (v.settled d)))
          (λ d. subst (HoldsOn d (v.process p)) (sym acts.process) (treats-hold (v.process p) t treated d)) both.1,
    );
    receives = λ v u w x p m xin pin apart up lives both pops acts. (
      (keeps_reach s shaped).receives v u w x p m xin pin apart up lives both.0 pops acts,
      all-held v w p both.0.0 both.0.1 (receives-both Any any-laws s shaped v u w x p m xin pin apart up lives both.0.0 both.0.1 pops acts)
          (λ q qin other. acts.others q qin other ∙ pops.processes q qin)
          (λ q qin. acts.dead q qin ∙ pops.dead q qin)
          (λ d below. subst (Prolongs (v.settled d))
          (sym (acts.settled d below ∙ ap (settled_with (receive s x m (v.process p)).settled d) (pops.settled d)))
          (settled-begins (receive s x m (v.process p)).settled d (v.settled d)))
          (λ d P all more. subst (λ (y : Process). Each P (held_at y d)) (sym acts.process)
          (subst (λ (held : List (List Held)). Each P (at [] held d)) (sym (holds-receive s x m (v.process p))) all))
          both.1,
    );
    dies = λ v w p keep pin both died. (
      (keeps_reach s shaped).dies v w p keep pin both.0 died,
      λ q d qin living below.
          after v w p keep died both.1 q d qin living below (same-cases q p),
    );
  } where
    opened : (v : State) → Opens s v → (p : ProcessId) (d : ℕ) → IsProcess s p → HeldFits (v.settled d) d (v.process p)
    opened v starts p d pin =
        let none : held_at (v.process p) d ≡ [] = ap (λ (y : Process). held_at y d) (starts.process p pin) ∙ at-replicate [] s.k d in record {
          heads = λ h heads. subst (Each (IsHeldOf (history (v.settled d) (replica_of (v.process p) d)))) (sym none) tt;
          none = λ is. none;
        }

    after : (v w : State) (p : ProcessId) (keep : ℕ) → Died s v w p keep → HeldStand s v → (q : ProcessId) (d : ℕ) → IsProcess s q → w.dead q ≡ false → d < s.k
        → (q ≡ p) ⊎ (q ≢ p) → HeldFits (w.settled d) d (w.process q)
    after v w p keep died stand q d qin living below (inl same) = absurd (cc (living, ap w.dead same, died.dead))
    after v w p keep died stand q d qin living below (inr other) =
        subst (λ (us : List Update). HeldFits us d (w.process q)) (sym (died.settled d))
        (subst (HeldFits (v.settled d) d) (sym (died.processes q qin)) (stand q d qin (sym (died.others q qin other) ∙ living) below))

-- the updates of a list with numbers from a on have no lower ones
numbered-low : (a : ℕ) (us : List Update) → NumberedFrom a us → Each (λ u. a ≤ u.number) us
numbered-low a [] all = tt
numbered-low a (u ∷ us) all = (
  (let first : u.number ≡ a = all.0 in omega (arith, first)),
  each-weaker (λ v. suc a ≤ v.number) (λ v. a ≤ v.number)
      (λ v more. omega (arith, more)) us (numbered-low (suc a) us all.1),
)

pub contains-taken : {X : Type 0} (n : ℕ) (xs : List X) (x : X) → Contains (take n xs) x → Contains xs x
contains-taken {X} n xs x there = subst (λ (ys : List X). Contains ys x) (take-append-drop n xs) (Contains-append_left (take n xs) (drop n xs) x there)

-- a held call whose update is applied is of a settled update
pub held-settled : (s : Dimensions) (v : State) → Members s v → Reach Any s v → HeldStand s v → HeldIsSettled s v
held-settled s v members reach stand p d x pin living below there low = by (head_at (v.process p) d) refl where
  r : Replica
  r = replica_of (v.process p) d

  fits : HeldFits (v.settled d) d (v.process p)
  fits = stand p d pin living below

  settled_as : ReplicaReaches Any d (v.settled d) (v.process p) → IsHeldOf (history (v.settled d) r) x
      → IsSettledAs (v.settled d) (record { caller = x.caller; call = x.call }) x.outcome
  settled_as reaches of = in_part (Contains-append_cases (take r.applied (v.settled d)) r.log of.update of.there) where
    in_part : Contains (take r.applied (v.settled d)) of.update ⊎ Contains r.log of.update
        → IsSettledAs (v.settled d) (record { caller = x.caller; call = x.call }) x.outcome
    in_part (inl front) = record {
      update = of.update;
      there = contains-taken r.applied (v.settled d) of.update front;
      named = let caller = of.caller in let call = of.call in λ i. record { caller = caller i; call = call i };
      ended = of.outcome;
    }
    in_part (inr logged) =
        let above : suc r.applied ≤ of.update.number = each-contained (λ u. suc r.applied ≤ u.number) r.log of.update
        (numbered-low (suc r.applied) r.log (log-numbered (v.settled d) r reaches.applied reaches.fine.0)) logged in
        let number = of.number in
        absurd (omega (arith, above, number, low))

  by : (o : Option Head) → head_at (v.process p) d ≡ o → IsSettledAs (v.settled d) (record { caller = x.caller; call = x.call }) x.outcome
  by None is = absurd (omega (arith, (subst (λ (xs : List Held). Contains xs x) (fits.none is) there).1))
  by (Some h) is =
      settled_as ((reach d below).replicas p pin living (keeper-rank d h.rank p (head-from s v d members below p h pin living is).0))
      (each-contained (IsHeldOf (history (v.settled d) r)) (held_at (v.process p) d) x (fits.heads h is) there)

-- of a numbered list two updates of one number are one
numbered-one : (a : ℕ) (us : List Update) (x y : Update) → NumberedFrom a us → Contains us x → Contains us y → x.number ≡ y.number → x ≡ y
numbered-one a [] x y all inx iny same = absurd (omega (arith, inx.1))
numbered-one a (u ∷ us) x y all (zero, low, is) (zero, high, it) same = sym is ∙ it
numbered-one a (u ∷ us) x y all (zero, low, is) (suc j, high, it) same =
    let first : u.number ≡ a = all.0 in
    let here : u.number ≡ x.number = ap (λ (v : Update). v.number) is in
    let more : suc a ≤ y.number = each-contained (λ v. suc a ≤ v.number) us y (numbered-low (suc a) us all.1) (j, (omega (arith, high)), it) in
    absurd (omega (arith, first, here, more, same))
numbered-one a (u ∷ us) x y all (suc i, low, is) (zero, high, it) same =
    let first : u.number ≡ a = all.0 in
    let here : u.number ≡ y.number = ap (λ (v : Update). v.number) it in
    let more : suc a ≤ x.number = each-contained (λ v. suc a ≤ v.number) us x (numbered-low (suc a) us all.1) (i, (omega (arith, low)), is) in
    absurd (omega (arith, first, here, more, same))
numbered-one a (u ∷ us) x y all (suc i, low, is) (suc j, high, it) same =
    numbered-one (suc a) us x y all.1 (i, (omega (arith, low)), is) (j, (omega (arith, high)), it) same

-- the number at a place of a numbered list
numbered-at : (a : ℕ) (us : List Update) (i : ℕ) (u : Update) → NumberedFrom a us → slice_get us i ≡ Some u → u.number ≡ a + i
numbered-at a [] i u all is = absurd (cc is)
numbered-at a (v ∷ us) zero u all is =
    let first : v.number ≡ a = all.0 in
    let same : v ≡ u = ap (λ (o : Option Update). elim o [ None ↦ v | Some y ↦ y ]) is in
    let here : v.number ≡ u.number = ap (λ (x : Update). x.number) same in omega (arith, first, here)
numbered-at a (v ∷ us) (suc i) u all is = let rest = numbered-at (suc a) us i u all.1 is in omega (arith, rest)

-- a held call is that of the update of its number
held-at : (d : ℕ) (settled : List Update) (r : Replica) (head : Option Head) → ReplicaFits Any d settled r head
    → (x : Held) → IsHeldOf (history settled r) x → IsHeldAt settled r x
held-at d settled r head fits x of = record {
  is_settled = λ u low is.
      let number = numbered-at 1 settled (x.number - 1) u numbered is in
      let above = each-contained (λ v. 1 ≤ v.number) (history settled r) of.update (numbered-low 1 (history settled r) fits.fine.0) of.there in
      let named = of.number in
      same u
      (begins-contains settled (history settled r) fits.prolongs u (get-contained settled (x.number - 1) u is))
      (omega (arith, number, above, named));
  waits = λ u high is.
      let number = numbered-at (suc r.applied) r.log (x.number - r.applied - 1) u (log-numbered settled r fits.applied fits.fine.0) is in
      same u (Contains-append_right (take r.applied settled) r.log u (get-contained r.log (x.number - r.applied - 1) u is)) (omega (arith, number, high));
} where
  numbered : NumberedFrom 1 settled
  numbered =
      subst (NumberedFrom 1) fits.prolongs.front
      (numbered-front 1 (take (length settled) (history settled r)) (drop (length settled) (history settled r))
      (subst (NumberedFrom 1) (sym (take-append-drop (length settled) (history settled r))) fits.fine.0))

  same : (u : Update) → Contains (history settled r) u → u.number ≡ x.number → IsHeldFrom x u
  same u there number =
      let one : of.update ≡ u = numbered-one 1 (history settled r) of.update u fits.fine.0 of.there there (of.number ∙ sym number) in
      subst (IsHeldFrom x) one (of.caller, of.call, of.outcome)

held-are-at : (s : Dimensions) (v : State) → Members s v → Reach Any s v → HeldStand s v → HeldAreAt s v
held-are-at s v members reach stand p d x pin living below there = by (head_at (v.process p) d) refl where
  fits : HeldFits (v.settled d) d (v.process p)
  fits = stand p d pin living below

  by : (o : Option Head) → head_at (v.process p) d ≡ o → IsHeldAt (v.settled d) (replica_of (v.process p) d) x
  by None is = absurd (omega (arith, (subst (λ (xs : List Held). Contains xs x) (fits.none is) there).1))
  by (Some h) is =
      let reaches = (reach d below).replicas p pin living (keeper-rank d h.rank p (head-from s v d members below p h pin living is).0) in
      held-at d (v.settled d) (replica_of (v.process p) d) (head_at (v.process p) d) reaches x
      (each-contained (IsHeldOf (history (v.settled d) (replica_of (v.process p) d))) (held_at (v.process p) d) x (fits.heads h is) there)

-- all this holds in every run
pub held_always : HeldAlways
held_always s es run =
    let all = holds_always s (λ v. (Members s v × Reach Any s v) × HeldStand s v) (keeps_held s run.0) es run in
    (all.1, held-settled s _ all.0.0 all.0.1 all.1, held-are-at s _ all.0.0 all.0.1 all.1)

-- so it is at the book of a run
pub held-book : (s : Dimensions) (es : List Event) → IsRun s es
    → HeldStand s (state_of (book_of s es).history) × HeldIsSettled s (state_of (book_of s es).history) × HeldAreAt s (state_of (book_of s es).history)
held-book s es run =
    subst (λ (h : History). HeldStand s (state_of h) × HeldIsSettled s (state_of h) × HeldAreAt s (state_of h))
    (sym (book-history (no_book s) es)) (held_always s es run)
