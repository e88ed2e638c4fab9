-- Steps of a process, told around it: steps that leave a partition as it is, steps one after the other, and
-- judging acknowledgements.
use Rattle.std.proofs.Common.{ℕ, zero, suc, ◌≡◌, ◌≢◌, ◌<◌, ◌≤◌, ◌+◌, max, Bool, true, false, List, [], ◌∷◌, ◌++◌}
use Rattle.std.proofs.Common.{length, Option, Some, None, ◌⊎◌, inl, inr, refl, sym, ap, subst, ◌∙◌, append_assoc, arith}
use Rattle.std.proofs.lemmas.Bool.{cases_eq}
use Rattle.std.proofs.lemmas.List.{append-nil}
use Rattle.std.specs.List.{range_with_len}
use Rattle.group_types.specs.Dimensions.{Dimensions}
use Rattle.group_types.specs.Lists.{at}
use Rattle.group_types.specs.Names.{IsProcess, same_process}
use Rattle.group_types.specs.declared.process.ProcessId.{ProcessId}
use Rattle.group_types.specs.declared.process.ProcessId.TheVariants.{ParityNode}
use Rattle.group_types.proofs.Lists.{at-put-other}
use Rattle.group_types.specs.Each.{Each}
use Rattle.group_types.proofs.Eaches.{each-append, each-weaker, each-all, each-map}
use Rattle.membership.specs.Members.{Membership, knows_dead}
use Rattle.group_message.specs.declared.message.Message.{Message}
use Rattle.group_message.specs.declared.message.Message.TheVariants as tells
use Rattle.group_message.specs.declared.update.Update.{Update}
use Rattle.group_run.specs.Applying.{ProcessStep, Sent, Settlement, and_then, apply_to, for_each, head_at, quiet, replica_of, when}
use Rattle.group_run.specs.Heading.{judge, judge_head, least_acked, other_parities, to_others}
use Rattle.group_run.specs.History.{settled_with}
use Rattle.group_run.specs.Process.{Head, Process}
use Rattle.group_run.specs.Replica.{Replica, applied_to, empty_replica, last_of, up_to}
use Rattle.group_run.specs.World.{front_if, new_ones, sent_to, settled_in}
use Rattle.law_moves.specs.State.{State}
use Rattle.law_moves.proofs.Members.{Members}
use Rattle.law_moves.proofs.Standing.{each-sent_to}
use Rattle.law_histories.proofs.HistoryWords.{HistoryLaws}
use Rattle.law_histories.proofs.Acts.{Tells, act-same, act-send}
use Rattle.law_histories.proofs.Around.{Around}
use Rattle.law_histories.proofs.Heads.{act-settle}
use Rattle.law_histories.proofs.Histories.{settled-in-append, settled-in-other}

-- a process that is as another in partition d
pub record SameIn (d : ℕ) (p q : Process) : Type 0 where
  pub name : q.name ≡ p.name
  pub known : q.known ≡ p.known
  pub head : head_at q d ≡ head_at p d
  pub rank : at 0 q.ranks d ≡ at 0 p.ranks d
  pub replica : replica_of q d ≡ replica_of p d

pub same-in-refl : (d : ℕ) (p : Process) → SameIn d p p
same-in-refl d p = record { name = refl; known = refl; head = refl; rank = refl; replica = refl }

pub same-in-trans : {d : ℕ} {p q r : Process} → SameIn d p q → SameIn d q r → SameIn d p r
same-in-trans a b = record {
  name = b.name ∙ a.name;
  known = b.known ∙ a.known;
  head = b.head ∙ a.head;
  rank = b.rank
      ∙ a.rank;
  replica = b.replica ∙ a.replica;
}

-- what is told by a process may be told by one that is the same in the partition
pub tells-same : (d : ℕ) (p q : Process) → SameIn d p q → (to : ProcessId) (m : Message) → Tells d p to m → Tells d q to m
tells-same d p q same to (tells.Update r e u stable) may = may
tells-same d p q same to (tells.Adopt r e base list) may = may
tells-same d p q same to (tells.Ack r e n) may = λ here. let old = may here in
    (old.0, same.rank ∙ old.1, subst (λ (x : Replica). n ≤ last_of x) (sym same.replica) old.2)
tells-same d p q same to (tells.Stable r e n) may = λ here. let old = may here in
    (old.0, same.head ∙ old.1, old.2, subst (λ (x : Replica). n ≤ x.applied) (sym same.replica) old.3)
tells-same d p q same to (tells.ReadBlock session block rows) may = tt
tells-same d p q same to (tells.Block session bytes n) may = tt
tells-same d p q same to (tells.Mark session r block e n) may =
    λ here. let old = may here in (
      old.0,
      same.head ∙ old.1,
      old.2,
      subst (λ (x : Replica). n ≤ x.applied) (sym same.replica) old.3,
      subst (λ (x : Replica). max x.applied old.0.inherited ≤ n) (sym same.replica) old.4,
    )
tells-same d p q same to (tells.Row session bytes stamp) may = tt
tells-same d p q same to (tells.Cease upto) may = tt
tells-same d p q same to (tells.Notice dead) may = tt

-- a step that leaves partition d as it is, and tells nothing new of it
pub record Still (d : ℕ) (p : Process) (t : ProcessStep) : Type 0 where
  pub same : SameIn d p t.process
  pub sent : Each (λ z. Tells d t.process z.to z.message) t.sent
  pub quiet : settled_in d t.settled ≡ []

pub still-quiet : (d : ℕ) (p q : Process) → SameIn d p q → Still d p (quiet q)
still-quiet d p q same = record { same = same; sent = tt; quiet = refl }

pub still-then : (d : ℕ) (p : Process) (a : ProcessStep) (f : Process → ProcessStep) → Still d p a → Still d a.process (f a.process) → Still d p (and_then a f)
still-then d p a f first later = record {
  same = same-in-trans first.same later.same;
  sent = each-append (λ z. Tells d (f a.process).process z.to z.message) a.sent (f a.process).sent
      (each-weaker (λ z. Tells d a.process z.to z.message) (λ z. Tells d (f a.process).process z.to z.message)
      (λ z may. tells-same d a.process (f a.process).process later.same z.to z.message may) a.sent first.sent)
      later.sent;
  quiet = settled-in-append d a.settled (f a.process).settled ∙ ap (λ (us : List Update). us ++ settled_in d (f a.process).settled) first.quiet ∙ later.quiet;
}

pub still-from : (d : ℕ) (p q : Process) (t : ProcessStep) → SameIn d p q → Still d q t → Still d p t
still-from d p q t same still = record { same = same-in-trans same still.same; sent = still.sent; quiet = still.quiet }

pub still-when : (d : ℕ) (b : Bool) (p : Process) (t : ProcessStep) → Still d p t → Still d p (when b p t)
still-when d true p t still = still
still-when d false p t still = still-quiet d p p (same-in-refl d p)

pub still-each : (d : ℕ) (xs : List ℕ) (f : ℕ → Process → ProcessStep) (p : Process)
    → Each (λ x. (q : Process) → SameIn d p q → Still d q (f x q)) xs → Still d p (for_each xs f p)
still-each d [] f p each = still-quiet d p p (same-in-refl d p)
still-each d (x ∷ xs) f p each =
    let here : Still d p (f x p) = each.0 p (same-in-refl d p) in
    still-then d p (f x p) (for_each xs f) here
    (still-each d xs f (f x p).process (each-weaker (λ y. (q : Process) → SameIn d p q → Still d q (f y q))
    (λ y. (q : Process) → SameIn d (f x p).process q → Still d q (f y q))
    (λ y steps q same. steps q (same-in-trans here.same same)) xs each.1))

-- partitions of a range but one
pub each-other : (d n a : ℕ) → (d < a) ⊎ (a + n ≤ d) → Each (λ e. e ≢ d) (range_with_len a n)
each-other d zero a outside = tt
each-other d (suc n) a outside = (first outside, each-other d n (a + 1) (rest outside)) where
  first : (d < a) ⊎ (a + suc n ≤ d) → a ≢ d
  first (inl low) same = absurd (omega (arith, low, same))
  first (inr high) same = absurd (omega (arith, high, same))

  rest : (d < a) ⊎ (a + suc n ≤ d) → (d < a + 1) ⊎ (a + 1 + n ≤ d)
  rest (inl low) = inl (omega (arith, low))
  rest (inr high) = inr (omega (arith, high))

-- applying another partition
pub same-apply : (s : Dimensions) (d e n : ℕ) (p : Process) → e ≢ d → SameIn d p (apply_to s e n p)
same-apply s d e n p other =
    record {
      name = refl;
      known = refl;
      head = refl;
      rank = refl;
      replica = at-put-other empty_replica p.replicas e d
          (applied_to n (replica_of p e)) (λ same. other (sym same));
    }

still-judge_head : (s : Dimensions) (d e : ℕ) (p : Process) (h : Option Head) → e ≢ d → Still d p (judge_head s e p h)
still-judge_head s d e p None other = still-quiet d p p (same-in-refl d p)
still-judge_head s d e p (Some h) other =
    let n : ℕ = least_acked h (last_of (replica_of p e)) (other_parities s.m p.name p.known) in
    record { same = same-apply s d e n p other; sent = tt; quiet = settled-in-other d e (up_to n (replica_of p e)) other }

pub still-judge : (s : Dimensions) (d e : ℕ) (p : Process) → e ≢ d → Still d p (judge s e p)
still-judge s d e p other = still-judge_head s d e p (head_at p e) other

-- a message to the other parity processes
pub told-others : (s : Dimensions) (d : ℕ) (p q : Process) (m : Message) → ((i : ℕ) → Tells d q (ParityNode i) m)
    → Each (λ z. Tells d q z.to z.message) (to_others s p m)
told-others s d p q m may = each-map (λ z. Tells d q z.to z.message) (λ i. record { to = ParityNode i; message = m }) (other_parities s.m p.name p.known)
    (each-all (λ i. Tells d q (ParityNode i) m) may (other_parities s.m p.name p.known))

pub sent_to-append : (q : ProcessId) (a b : List Sent) → sent_to q (a ++ b) ≡ sent_to q a ++ sent_to q b
sent_to-append q [] b = refl
sent_to-append q (x ∷ xs) b = by (same_process x.to q) (sent_to-append q xs b) where
  by : (t : Bool) → sent_to q (xs ++ b) ≡ sent_to q xs ++ sent_to q b → front_if t x.message (sent_to q (xs ++ b))
      ≡ front_if t x.message (sent_to q xs) ++ sent_to q b
  by true rest = ap (λ (ms : List Message). x.message ∷ ms) rest
  by false rest = rest

-- what is settled after a step that settles nothing of the partition
pub settled-none : (d : ℕ) (t : List Settlement) (settled : List Update) → settled_in d t ≡ [] → settled_with t d settled ≡ settled
settled-none d t settled none = ap (λ (us : List Update). settled ++ new_ones (length settled) us) none ∙ append-nil settled

module _ (F : ℕ → ℕ → List Update → Type 0) (laws : HistoryLaws F) (s : Dimensions) (v : State) (members : Members s v) (d : ℕ) (below : d < s.k)
    (p : ProcessId) (pin : IsProcess s p) (lives : v.dead p ≡ false) (inn : ProcessId → List Message) where
  -- a step keeps what is reached
  abbrev pub Leads : Process → ProcessStep → Type 0
  Leads proc t =
      (out : ProcessId → List Message) (settled : List Update) → Around F s v d p proc out inn settled → Around F s v d p t.process
      (λ q. out q ++ sent_to q t.sent) inn (settled_with t.settled d settled)

  -- so does a change that sends and settles nothing
  abbrev pub Turns : Process → Process → Type 0
  Turns proc new = (out : ProcessId → List Message) (settled : List Update) → Around F s v d p proc out inn settled → Around F s v d p new out inn settled

  pub turn-same : (proc new : Process) → SameIn d proc new → Turns proc new
  turn-same proc new same out settled around = act-same F s v members d below p pin lives proc new out inn settled
      (record { head = same.head; rank = same.rank; replica = same.replica }) around

  pub turn-leads : (proc new : Process) (t : ProcessStep) → Turns proc new → Leads new t → Leads proc t
  turn-leads proc new t turns leads out settled around = leads out settled (turns out settled around)

  pub still-leads : (proc : Process) (t : ProcessStep) → Still d proc t → Leads proc t
  still-leads proc t still out settled around =
      subst (Around F s v d p t.process (λ q. out q ++ sent_to q t.sent) inn) (sym (settled-none d t.settled settled still.quiet))
      (act-send F s v members d below p pin lives t.process out inn (λ q. sent_to q t.sent) settled
      (λ q. each-sent_to (λ to m. Tells d t.process to m) q t.sent still.sent)
      (turn-same proc t.process still.same out settled around))

  -- from one list of settled updates
  abbrev pub LeadsFrom : List Update → Process → ProcessStep → Type 0
  LeadsFrom settled proc t =
      (out : ProcessId → List Message) → Around F s v d p proc out inn settled
      → Around F s v d p t.process (λ q. out q ++ sent_to q t.sent) inn (settled_with t.settled d settled)

  -- one step, and then another, of which one settles nothing of the partition
  pub then-from : (settled : List Update) (proc : Process) (a : ProcessStep) (f : Process → ProcessStep) → LeadsFrom settled proc a
      → Leads a.process (f a.process) → (settled_in d a.settled ≡ []) ⊎ (settled_in d (f a.process).settled ≡ []) → LeadsFrom settled proc (and_then a f)
  then-from settled proc a f first later quiet out around =
      subst (λ (o : ProcessId → List Message). Around F s v d p b.process o inn (settled_with (a.settled ++ b.settled) d settled)) (λ i. λ q. outs q i)
      (subst (Around F s v d p b.process (λ q. (out q ++ sent_to q a.sent) ++ sent_to q b.sent) inn) (settles quiet)
      (later (λ q. out q ++ sent_to q a.sent) (settled_with a.settled d settled) (first out around)))
    where
      b : ProcessStep
      b = f a.process

      outs : (q : ProcessId) → (out q ++ sent_to q a.sent) ++ sent_to q b.sent ≡ out q ++ sent_to q (a.sent ++ b.sent)
      outs q = append_assoc (out q) (sent_to q a.sent) (sent_to q b.sent) ∙ ap (λ (ms : List Message). out q ++ ms) (sym (sent_to-append q a.sent b.sent))

      settles : (settled_in d a.settled ≡ []) ⊎ (settled_in d b.settled ≡ [])
          → settled_with b.settled d (settled_with a.settled d settled) ≡ settled_with (a.settled ++ b.settled) d
          settled
      settles (inl none) =
          ap (settled_with b.settled d) (settled-none d a.settled settled none)
          ∙ sym (ap (λ (us : List Update). settled ++ new_ones (length settled) us)
          (settled-in-append d a.settled b.settled ∙ ap (λ (us : List Update). us ++ settled_in d b.settled) none))
      settles (inr none) =
          settled-none d b.settled (settled_with a.settled d settled) none
          ∙ sym (ap (λ (us : List Update). settled ++ new_ones (length settled) us)
          (settled-in-append d a.settled b.settled ∙ ap (λ (us : List Update). settled_in d a.settled ++ us) none
          ∙ append-nil (settled_in d a.settled)))

  pub then-leads : (proc : Process) (a : ProcessStep) (f : Process → ProcessStep) → Leads proc a → Leads a.process (f a.process)
      → (settled_in d a.settled ≡ []) ⊎ (settled_in d (f a.process).settled ≡ []) → Leads proc (and_then a f)
  then-leads proc a f first later quiet out settled around = then-from settled proc a f (λ o. first o settled) later quiet out around

  -- acknowledgements are judged, by a process that knows no living one to be dead
  abbrev pub Spares : Membership → Type 0
  Spares known = (i : ℕ) → i < s.m → ParityNode i ≢ p → v.dead (ParityNode i) ≡ false → knows_dead known (ParityNode i) ≡ false

  judged_head : (proc : Process) (h : Option Head) → head_at proc d ≡ h → proc.name ≡ p → Spares proc.known → Leads proc (judge_head s d proc h)
  judged_head proc None heads name spares out settled around = still-leads proc (quiet proc) (still-quiet d proc proc (same-in-refl d proc)) out settled around
  judged_head proc (Some h) heads name spares out settled around =
      subst
      (λ (o : ProcessId → List Message). Around F s v d p (judge_head s d proc (Some h)).process o inn
      (settled_with (judge_head s d proc (Some h)).settled d settled))
      (λ i. λ q. sym (append-nil (out q)) i)
      (act-settle F laws s v members d below p pin lives proc out inn settled h heads name spares around)

  pub judge-leads : (e : ℕ) (proc : Process) → proc.name ≡ p → Spares proc.known → Leads proc (judge s e proc)
  judge-leads e proc name spares = by (cases_eq e d) where
    by : (e ≡ d) ⊎ (e ≢ d) → Leads proc (judge s e proc)
    by (inr other) = still-leads proc (judge s e proc) (still-judge s d e proc other)
    by (inl same) = subst (λ (x : ℕ). Leads proc (judge s x proc)) (sym same) (judged_head proc (head_at proc d) refl name spares)

  -- a step for each partition in order, where those of others leave this one as it is
  pub range-leads : (f : ℕ → Process → ProcessStep) (Inv : Process → Type 0) → ((q r : Process) → SameIn d q r → Inv q → Inv r)
      → ((e : ℕ) (q : Process) → e ≢ d → Still d q (f e q)) → ((q : Process) → Inv q → Leads q (f d q))
      → (n a : ℕ) (proc : Process) → Inv proc → Leads proc (for_each (range_with_len a n) f proc)
  range-leads f Inv kept others here zero a proc inv = still-leads proc (quiet proc) (still-quiet d proc proc (same-in-refl d proc))
  range-leads f Inv kept others here (suc n) a proc inv =
      by (cases_eq a d) (λ still. range-leads f Inv kept others here n (a + 1) (f a proc).process (kept proc (f a proc).process still.same inv)) where
        by : (a ≡ d) ⊎ (a ≢ d) → (Still d proc (f a proc) → Leads (f a proc).process (for_each (range_with_len (a + 1) n) f (f a proc).process))
            → Leads proc (for_each (range_with_len a (suc n)) f proc)
        by (inr other) rest =
            let still : Still d proc (f a proc) = others a proc other in
            then-leads proc (f a proc) (for_each (range_with_len (a + 1) n) f) (still-leads proc (f a proc) still) (rest still) (inl still.quiet)
        by (inl same) rest =
            let t : ProcessStep = f a proc in
            let behind : Still d t.process (for_each (range_with_len (a + 1) n) f t.process) = still-each d (range_with_len (a + 1) n) f t.process
            (each-weaker (λ e. e ≢ d) (λ e. (q : Process) → SameIn d t.process q → Still d q (f e q))
            (λ e other q sames. others e q other) (range_with_len (a + 1) n)
            (each-other d n (a + 1) (inl (omega (arith, same))))) in
            then-leads proc t (for_each (range_with_len (a + 1) n) f) (subst (λ (e : ℕ). Leads proc (f e proc)) (sym same) (here proc inv))
            (still-leads t.process (for_each (range_with_len (a + 1) n) f t.process) behind) (inr behind.quiet)
