-- A partition after a message of its head.
use Rattle.std.proofs.Common.{ℕ, zero, suc, ◌≡◌, ◌+◌, ◌-◌, ◌≤◌, nat_le, true, List, [], ◌∷◌, Some, None, length, take, refl, sym, ap, ◌∙◌, arith}
use Rattle.std.specs.List.{slice_get}
use Rattle.std.proofs.lemmas.Option.{slice_get-get_or, slice_get_within}
use Rattle.group_types.specs.Dimensions.{Dimensions}
use Rattle.group_types.specs.Lists.{at, put}
use Rattle.group_types.proofs.Lists.{at-put, put-put}
use Rattle.group_types.specs.declared.process.ProcessId.{ProcessId}
use Rattle.group_message.specs.declared.message.Message.TheVariants as tells
use Rattle.group_message.specs.declared.update.Update.{Update}
use Rattle.group_run.specs.Applying.{ProcessStep, Sent, Settlement, apply_to, bytes_after, replica_of, when, with_replica}
use Rattle.group_run.specs.Fitting.{NumberedFrom}
use Rattle.group_run.specs.Process.{Process}
use Rattle.group_run.specs.Heading.{partition, rank}
use Rattle.group_run.specs.Receiving.{ack_to, adopt_comes, adopting, log_adopted, unless_stale, update_comes, update_taken}
use Rattle.group_run.specs.Replica.{Replica, applied_to, empty_replica, up_to, with_update}
use Rattle.head_service.specs.Serving.{Serving, serving}

-- nothing is applied where everything up to the number is
pub none-above : (n : ℕ) (r : Replica) → n ≤ r.applied → up_to n r ≡ []
none-above n r reached = let none : n - r.applied ≡ 0 = omega (arith, reached) in ap (λ (m : ℕ). take m r.log) none

-- a message that isn't of a lower rank
pub passed : (r d : ℕ) (p : Process) (step : ProcessStep) → nat_le (at 0 p.ranks d) r ≡ true → unless_stale r d p step ≡ step
passed r d p step current = ap (λ test. when test p step) current

-- the partition is applied up to a number, and its replica then changed
module _ (s : Dimensions) (d : ℕ) (v : Serving) (b : Process) (r : Replica) (here : at empty_replica v.replicas d ≡ r) where
  abbrev after : Replica → Process → Process
  after r2 b2 = serving (record v { replicas = put empty_replica v.replicas d r2 }) b2

  pub applied-as : (n : ℕ) (r2 : Replica) (b2 : Process) → r2 ≡ applied_to n r → b2 ≡ bytes_after s d (up_to n r) b → after r2 b2 ≡ apply_to s d n (serving v b)
  applied-as n r2 b2 r-is b-is =
      rw (r-is, b-is) (sym (ap (λ (x : Replica). after (applied_to n x) (bytes_after s d (up_to n x) b)) here))

  pub changed-as : (f : Replica → Replica) (n : ℕ) (r2 : Replica) (b2 : Process) → r2 ≡ f (applied_to n r) → b2 ≡ bytes_after s d (up_to n r) b
      → with_replica d (f (replica_of (apply_to s d n (serving v b)) d)) (apply_to s d n (serving v b)) ≡ after r2 b2
  changed-as f n r2 b2 r-is b-is =
      ap (λ (q : Process). with_replica d (f (replica_of q d)) q) (sym (applied-as n (applied_to n r) b2 refl b-is))
      ∙ ap (λ (x : Replica). with_replica d (f x) (after (applied_to n r) b2)) (at-put empty_replica empty_replica v.replicas d (applied_to n r))
      ∙ ap (λ (rs : List Replica). serving (record v { replicas = rs }) b2) (put-put empty_replica v.replicas d (applied_to n r) (f (applied_to n r)))
      ∙ ap (λ (x : Replica). after x b2) (sym r-is)

  pub update-made : (from : ProcessId) (n : ℕ) (u : Update) (stable : ℕ) (r2 : Replica) (b2 : Process) → nat_le (at 0 v.ranks d) n ≡ true
      → r2 ≡ with_update u (applied_to stable r) → b2 ≡ bytes_after s d (up_to stable r) b
      → update_comes s from n d u stable (serving v b) ≡ ack_to from n d u.number (after r2 b2)
  update-made from n u stable r2 b2 current r-is b-is =
      passed n d (serving v b) (ack_to from n d u.number (update_taken s d u stable (serving v b))) current
      ∙ ap (ack_to from n d u.number) (changed-as (with_update u) stable r2 b2 r-is b-is)

-- the same under another rank
pub adoption-made : (s : Dimensions) (d : ℕ) (v : Serving) (b : Process) (r : Replica) → at empty_replica v.replicas d ≡ r
    → (from : ProcessId) (n base : ℕ) (list : List Update) (r2 : Replica) (b2 : Process) → nat_le (at 0 v.ranks d) n ≡ true
    → r2 ≡ adopting base list (applied_to base r) → b2 ≡ bytes_after s d (up_to base r) b
    → adopt_comes s from n d base list (serving v b)
    ≡ ack_to from n d (base + length list) (serving (record v { replicas = put empty_replica v.replicas d r2; ranks = put 0 v.ranks d n }) b2)
adoption-made s d v b r here from n base list r2 b2 current r-is b-is =
    passed n d (serving v b) (ack_to from n d (base + length list) (log_adopted s n d base list (serving v b))) current
    ∙ ap (ack_to from n d (base + length list))
    (changed-as s d (record v { ranks = put 0 v.ranks d n }) b r here (adopting base list) base r2 b2 r-is b-is)

-- a step that acknowledges a number, by what it sends and settles
pub acknowledged-as : (from : ProcessId) (r d n : ℕ) (p : Process) (sent : List Sent) (settled : List Settlement)
    → sent ≡ record { to = from; message = tells.Ack (rank r) (partition d) n } ∷ [] → settled ≡ []
    → ack_to from r d n p ≡ record { process = p; sent = sent; settled = settled }
acknowledged-as from r d n p sent settled sent-is settled-is = rw (sent-is, settled-is) refl

-- the number of the last update of a list above its base
numbered-at : (first i : ℕ) (us : List Update) (u : Update) → NumberedFrom first us → slice_get us i ≡ Some u → u.number ≡ first + i
numbered-at first i [] u from is = absurd (cc is)
numbered-at first zero (v ∷ us) u from is =
    let same : v ≡ u = cc is in
    let number : u.number ≡ first = ap (λ (x : Update). x.number) (sym same) ∙ from.0 in
    omega (arith, number)
numbered-at first (suc i) (v ∷ us) u from is = let number = numbered-at (suc first) i us u from.1 is in omega (arith, number)

pub last-number : (base : ℕ) (us : List Update) (u : Update) → NumberedFrom (suc base) us → slice_get us (length us - 1) ≡ Some u → u.number ≡ base + length us
last-number base us u from is = omega (arith, numbered-at (suc base) (length us - 1) us u from is, slice_get_within us (length us - 1) u is)

pub last-none : (base : ℕ) (us : List Update) → slice_get us (length us - 1) ≡ None → base ≡ base + length us
last-none base [] is = omega arith
last-none base (u ∷ us) is = absurd (cc (sym is ∙ slice_get-get_or (u ∷ us) (length (u ∷ us) - 1) u (omega arith)))
