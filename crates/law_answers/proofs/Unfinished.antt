-- An update that gets a ticket is unfinished after the step.
use Rattle.std.proofs.Common.{ℕ, zero, suc, ◌≡◌, ◌≢◌, ◌<◌, ◌≤◌, ◌+◌, ◌-◌, nat_le, Bool, true, false, not, ◌&&◌, [], ◌∷◌}
use Rattle.std.proofs.Common.{◌++◌, length, take, drop, Option, Some, ◌⊎◌, inl, inr, if◌then◌else◌, refl, ap, subst}
use Rattle.std.proofs.Common.{◌∙◌, arith}
use Rattle.std.proofs.lemmas.Bool.{cases_lt}
use Rattle.std.proofs.lemmas.Grind.{common_steps}
use Rattle.std.proofs.lemmas.List.{length-append, take-append-drop, take_all}
use Rattle.std.specs.Prelude.{filter, unwrap_or}
use Rattle.std.specs.List.{range_with_len}
use Rattle.group_types.specs.Dimensions.{Dimensions}
use Rattle.group_types.specs.Names.{same_process}
use Rattle.group_types.specs.declared.process.ProcessId.{ProcessId}
use Rattle.group_types.specs.declared.process.ProcessId.TheVariants.{ParityNode}
use Rattle.group_types.proofs.Lists.{at-put}
use Rattle.membership.specs.Members.{knows_dead}
use Rattle.group_message.specs.declared.update.Update.{Update}
use Rattle.group_run.specs.Applying.{apply_to, head_at, replica_of, with_replica}
use Rattle.group_run.specs.Asking.{holding, issued}
use Rattle.group_run.specs.Heading.{acked_by, judge_head, least_acked, other_parities}
use Rattle.group_run.specs.Meaning.{HasAcked, IsUnfinished, process_of}
use Rattle.group_run.specs.Process.{Head, Process}
use Rattle.group_run.specs.Replica.{Replica, applied_to, empty_replica, last_of, with_update}
use Rattle.group_run.specs.World.{World}
use Rattle.law_answers.proofs.Traces.{lets-is}

-- where less than the last number is acknowledged by all, somebody acknowledged less
least-lags : (h : Head) (last : ℕ) (test : ℕ → Bool) (n a : ℕ) → least_acked h last (filter test (range_with_len a n)) < last
    → (i : ℕ) × (a ≤ i) × (i < a + n) × (test i ≡ true) × (acked_by h i < last)
least-lags h last test zero a lags = absurd (omega (arith, lags))
least-lags h last test (suc n) a lags = by (test a) refl lags (λ less. more (least-lags h last test n (a + 1) less)) where
  more : (i : ℕ) × (a + 1 ≤ i) × (i < a + 1 + n) × (test i ≡ true) × (acked_by h i < last) → (i : ℕ) × (a ≤ i)
      × (i < a + suc n) × (test i ≡ true) × (acked_by h i < last)
  more (i, low, high, lets, less) = (i, omega (arith, low), omega (arith, high), lets, less)

  here : test a ≡ true → least_acked h last (a ∷ filter test (range_with_len (a + 1) n)) < last → (acked_by h a < last) ⊎ (last ≤ acked_by h a)
      → (least_acked h last (filter test (range_with_len (a + 1) n)) < last → (i : ℕ) × (a ≤ i) × (i < a + suc n) × (test i ≡ true) × (acked_by h i < last))
      → (i : ℕ) × (a ≤ i) × (i < a + suc n) × (test i ≡ true) × (acked_by h i < last)
  here lets lags (inl less) rest = (a, omega arith, omega arith, lets, less)
  here lets lags (inr most) rest = rest (omega (arith, lags, most))

  by : (b : Bool) → test a ≡ b → least_acked h last (if b then a ∷ filter test (range_with_len (a + 1) n) else filter test (range_with_len (a + 1) n)) < last
      → (least_acked h last (filter test (range_with_len (a + 1) n)) < last → (i : ℕ) × (a ≤ i) × (i < a + suc n) × (test i ≡ true) × (acked_by h i < last))
      → (i : ℕ) × (a ≤ i) × (i < a + suc n) × (test i ≡ true) × (acked_by h i < last)
  by true lets lags rest = here lets lags (cases_lt (acked_by h a) last) rest
  by false lets lags rest = rest lags

module _ (s : Dimensions) (d : ℕ) (h : Head) (u : Update) (p : Process) (heads : head_at p d ≡ Some h) (next : u.number ≡ suc (last_of (replica_of p d))) where
  abbrev r : Replica
  r = replica_of p d

  abbrev grown : Process
  grown = with_replica d (with_update u (replica_of p d)) p

  abbrev least : ℕ
  least = least_acked h (last_of (replica_of (with_replica d (with_update u (replica_of p d)) p) d)) (other_parities s.m p.name p.known)

  -- what the head makes of it
  pub issued-is : (issued s d h u p).process ≡ apply_to s d least grown
  issued-is = ap (λ (o : Option Head). (judge_head s d grown o).process) heads

  replica-grown : replica_of grown d ≡ with_update u r
  replica-grown = at-put empty_replica empty_replica p.replicas d (with_update u r)

  replica-after : replica_of (apply_to s d least grown) d ≡ applied_to least (with_update u r)
  replica-after = at-put empty_replica empty_replica grown.replicas d (applied_to least (replica_of grown d)) ∙ ap (applied_to least) replica-grown

  last-grown : last_of (replica_of grown d) ≡ u.number
  last-grown = ap last_of replica-grown ∙ (let long = length-append r.log (u ∷ []) in omega (arith, long, next))

  last-after : last_of (applied_to least (with_update u r)) ≡ u.number
  last-after =
      let parts : length (take (least - r.applied) (r.log ++ u ∷ []) ++ drop (least - r.applied) (r.log ++ u ∷ [])) ≡ length (r.log ++ u ∷ []) = ap length
      (take-append-drop (least - r.applied) (r.log ++ u ∷ [])) in
      let both = length-append (take (least - r.applied) (r.log ++ u ∷ [])) (drop (least - r.applied) (r.log ++ u ∷ [])) in
      let long = length-append r.log (u ∷ []) in
      omega (arith, parts, both, long, next)

  least-low : (applied_to least (with_update u r)).applied < u.number → least < last_of (replica_of grown d)
  least-low short = by (cases_lt least (last_of (replica_of grown d))) where
    by : (least < last_of (replica_of grown d)) ⊎ (last_of (replica_of grown d) ≤ least) → least < last_of (replica_of grown d)
    by (inl low) = low
    by (inr most) =
        let long = length-append r.log (u ∷ []) in
        let last = last-grown in
        let all : take (least - r.applied) (r.log ++ u ∷ []) ≡ r.log ++ u ∷ [] =
        take_all (least - r.applied) (r.log ++ u ∷ []) (omega (arith, long, last, most, next)) in
        let size : length (take (least - r.applied) (r.log ++ u ∷ [])) ≡ length (r.log ++ u ∷ []) = ap length all in
        absurd (omega (arith, size, long, short, next))

  module _ (w after : World) (q : ProcessId) (is : p ≡ process_of w q) (name : (process_of w q).name ≡ q)
      (same : process_of after q ≡ holding d u (issued s d h u p).process)
      (waits : nat_le u.number (replica_of (issued s d h u p).process d).applied ≡ false) (many : s.m ≡ after.shape.m) where
    process-is : process_of after q ≡ holding d u (apply_to s d least grown)
    process-is = same ∙ ap (holding d u) issued-is

    replica-is : replica_of (process_of after q) d ≡ applied_to least (with_update u r)
    replica-is = ap (λ (x : Process). replica_of x d) process-is ∙ replica-after

    short : (applied_to least (with_update u r)).applied < u.number
    short =
        let e : (replica_of (issued s d h u p).process d).applied ≡ (applied_to least (with_update u r)).applied =
        ap (λ (x : Process). (replica_of x d).applied) issued-is
        ∙ ap (λ (x : Replica). x.applied) replica-after in
        let low : (replica_of (issued s d h u p).process d).applied < u.number = grind (arith, common_steps) in
        omega (arith, e, low)

    lagging : (i : ℕ) × (0 ≤ i) × (i < 0 + s.m)
        × ((not (same_process p.name (ParityNode i)) && not (knows_dead p.known (ParityNode i))) ≡ true)
        × (acked_by h i < last_of (replica_of grown d))
    lagging = least-lags h (last_of (replica_of grown d))
        (λ i. not (same_process p.name (ParityNode i)) && not (knows_dead p.known (ParityNode i))) s.m 0
        (least-low short)

    not-acked : (i : ℕ) → acked_by h i < last_of (replica_of grown d) → ¬ (HasAcked h i u.number)
    not-acked i less (a, acked, most) =
        let e : acked_by h i ≡ a = ap (λ (o : Option ℕ). unwrap_or o 0) acked in
        let last = last-grown in absurd (omega (arith, e, last, less, most))

    waiting : (i : ℕ) × (0 ≤ i) × (i < 0 + s.m)
        × ((not (same_process p.name (ParityNode i)) && not (knows_dead p.known (ParityNode i))) ≡ true)
        × (acked_by h i < last_of (replica_of grown d))
        → (i : ℕ) × (i < after.shape.m) × (ParityNode i ≢ q) × (knows_dead (process_of after q).known (ParityNode i) ≡ false) × (¬ (HasAcked h i u.number))
    waiting (i, low, high, lets, less) =
        let both = lets-is w q name h i
        (subst (λ (x : Process). (not (same_process x.name (ParityNode i)) && not (knows_dead x.known (ParityNode i)))
        ≡ true) is lets) in (
          i,
          omega (arith, high, many),
          both.0,
          ap (λ (x : Process). knows_dead x.known (ParityNode i)) process-is
              ∙ ap (λ (x : Process). knows_dead x.known (ParityNode i)) is ∙ both.1,
          not-acked i less,
        )

    pub unfinished : IsUnfinished after q d u.number h
    unfinished = record {
      heads = ap (λ (x : Process). head_at x d) process-is ∙ heads;
      above =
          let e : (replica_of (process_of after q) d).applied ≡ (applied_to least (with_update u r)).applied = ap (λ (x : Replica). x.applied) replica-is in
          let low = short in
          omega (arith, e, low);
      within = let e : last_of (replica_of (process_of after q) d) ≡ u.number = ap last_of replica-is ∙ last-after in omega (arith, e);
      waits = waiting lagging;
    }
