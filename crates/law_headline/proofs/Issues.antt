-- A head's history is fine and its bytes are right, so what it issues for a new call is the table's.
use Rattle.std.proofs.Common.{ℕ, ◌≡◌, ◌≢◌, ◌<◌, ◌≤◌, ◌+◌, ◌==◌, Bool, false, List, [], ◌∷◌, ◌++◌, length, take}
use Rattle.std.proofs.Common.{slice_get, Option, Some, None, ◌⊎◌, inl, inr, refl, sym, ap, subst, ◌∙◌, if◌then◌else◌}
use Rattle.std.proofs.Common.{arith}
use Rattle.std.proofs.lemmas.Bool.{cases_eq}
use Rattle.std.proofs.lemmas.Grind.{common_steps}
use Rattle.std.proofs.lemmas.List.{take-append-le, take_all}
use Rattle.std.proofs.lemmas.List.FromFn.{get_or-map-range_with_len}
use Rattle.std.proofs.lemmas.Option.{get_or_from_slice_get}
use Rattle.group_types.specs.Dimensions.{Dimensions, space_of}
use Rattle.group_types.specs.Names.{IsProcess}
use Rattle.group_types.specs.Shape.{IsShape}
use Rattle.group_types.specs.declared.process.ProcessId.{ProcessId}
use Rattle.group_types.specs.declared.process.ProcessId.TheVariants.{DataNode, ParityNode}
use Rattle.group_message.specs.declared.update.Update.{Update}
use Rattle.group_message.specs.declared.update.Body.{Body}
use Rattle.group_message.specs.declared.update.Body.TheVariants.{Put, Remove, Touch}
use Rattle.group_run.specs.Applying.{head_at, replica_of}
use Rattle.group_types.specs.Hash.{home_of}
use Rattle.group_types.specs.Each.{Each}
use Rattle.group_types.proofs.Eaches.{each-take}
use Rattle.memc_table.specs.Act.{key_of}
use Rattle.group_message.specs.declared.update.Outcome.{Outcome}
use Rattle.group_calls.specs.declared.decision.Decision.TheVariants as decides
use Rattle.group_run.specs.Asking.{found_at, update_of}
use Rattle.group_run.specs.Deciding.{decide}
use Rattle.group_run.specs.Fitting.{Writes}
use Rattle.group_run.specs.Process.{Head, Process}
use Rattle.group_run.specs.Replica.{Replica, items_after}
use Rattle.group_run.specs.World.{AskedCall}
use Rattle.group_run.specs.History.{history}
use Rattle.law_moves.specs.State.{State}
use Rattle.law_moves.proofs.Members.{Members, Sits}
use Rattle.law_moves.proofs.Calls.{seat-head}
use Rattle.law_updates.specs.Decisions.{ReadsFrom}
use Rattle.law_updates.specs.Store.{store_after}
use Rattle.law_updates.specs.Fine as updates
use Rattle.law_updates.proofs.Fine.{IsReplicaOf}
use Rattle.law_updates.proofs.Laws.{FineFits, FineLaws}
use Rattle.law_updates.proofs.Laws as laws
use Rattle.law_updates.proofs.Fines.{fine_histories_fit, histories_are_fine, issues_are_fine}
use Rattle.law_histories.proofs.HistoryWords.{HistoryLaws}
use Rattle.law_histories.proofs.Reach.{IsKeeper, Reach, ReplicaFits, ReplicaReaches}
use Rattle.law_histories.proofs.Histories.{front-long, length-history, log-is}
use Rattle.law_bytes.specs.Areas.{HasByteDelta, WritesBytes, SettledWrite}
use Rattle.law_bytes.specs.Decoding.{columns, values}
use Rattle.law_bytes.specs.Held.{stand}
use Rattle.law_bytes.proofs.Held.{HoldsBytes}
use Rattle.law_bytes.proofs.Decode.{spaces_stand}
use Rattle.law_log.proofs.CallWords.{IsNextCall}
use Rattle.law_headline.proofs.Reading.{reads}

-- a history of updates of these calls
abbrev pub FineIn : Dimensions → List AskedCall → ℕ → ℕ → List Update → Type 0
FineIn s calls d a h = updates.Fine s calls d a h

pub fine-laws : (s : Dimensions) (calls : List AskedCall) → HistoryLaws (FineIn s calls)
fine-laws s calls = record {
  start = λ d. (histories_are_fine s d).start calls;
  rises = λ d a b h fine low high. (histories_are_fine s d).rises calls a b h fine low high;
}

-- the part of a history that is applied
pub front-is : (settled : List Update) (r : Replica) → r.applied ≤ length settled → take r.applied (history settled r) ≡ take r.applied settled
front-is settled r applied =
    let long = front-long settled r applied in
    take-append-le r.applied (take r.applied settled) r.log (omega (arith, long)) ∙ take_all r.applied (take r.applied settled) (omega (arith, long))

-- a replica of a history
pub replica-of-history : (F : ℕ → ℕ → List Update → Type 0) (d : ℕ) (settled : List Update) (r : Replica) (head : Option Head) → ReplicaFits F d settled r head
    → IsReplicaOf r.applied (history settled r) r
replica-of-history F d settled r head fits = record {
  applied = refl;
  within = let long = length-history settled r fits.applied in omega (arith, long);
  items = fits.holds.items ∙ ap (items_after []) (sym (front-is settled r fits.applied));
  log = sym (log-is settled r fits.applied);
}

-- the updates of a fine history write in the space, and bytes
writes-one : (s : Dimensions) (u : Update) (body : Body) → Writes (space_of s) body → laws.WritesBytes body → HasByteDelta body
writes-one s u (Put flags until run delta) writes bytes = bytes
writes-one s u Remove writes bytes = tt
writes-one s u (Touch until) writes bytes = tt

writes-each : (s : Dimensions) (us : List Update) → Each (λ u. Writes (space_of s) u.body) us → Each (λ u. laws.WritesBytes u.body) us → Each (WritesBytes s) us
writes-each s [] writes bytes = tt
writes-each s (u ∷ us) writes bytes = (record { writes = writes.0; bytes = writes-one s u u.body writes.0 bytes.0 }, writes-each s us writes.1 bytes.1)

pub fine-writes : (s : Dimensions) (calls : List AskedCall) (d a : ℕ) (h : List Update) → FineIn s calls d a h → Each (WritesBytes s) h
fine-writes s calls d a h fine = let fits : FineFits s calls d a h = fine_histories_fit s calls d a h fine in writes-each s h fits.writes fits.bytes

rank-if : Bool → Option ℕ
rank-if b = if b then Some 0 else None

-- where a process heads a partition, it keeps it
pub head-keeps : (p : Process) (d : ℕ) (h : Head) (x : ProcessId) → Sits p d x → head_at p d ≡ Some h → IsKeeper d x
unfolding rank-if
head-keeps p d h (ParityNode i) sits heads = tt
head-keeps p d h (DataNode e) sits heads = by (cases_eq d e) where
  by : (d ≡ e) ⊎ (d ≢ e) → e ≡ d
  by (inl same) = sym same
  by (inr other) =
      let not_own : (d == e) ≡ false = grind (arith, common_steps) in
      absurd (cc (seat-head p d h heads, sits.0, ap rank-if not_own))

-- the spaces of partitions, one of them
pub column-at : (s : Dimensions) (us : ℕ → List Update) (d : ℕ) (space : List ℕ) → d < s.k → slice_get (columns s us) d ≡ Some space → space ≡ values s d (us d)
column-at s us d space below is =
    sym (get_or_from_slice_get (columns s us) d space [] is) ∙ get_or-map-range_with_len (λ e. values s e (us e)) 0 s.k d d [] below zero-plus where
      zero-plus : 0 + d ≡ d
      zero-plus = omega arith

module _ (s : Dimensions) (shaped : IsShape s) (calls : List AskedCall) (v : State) (members : Members s v) (reach : Reach (FineIn s calls) s v)
    (write : SettledWrite s v.settled) (holds : HoldsBytes s v) where
  module _ (p : ProcessId) (pin : IsProcess s p) (lives : v.dead p ≡ false) (d : ℕ) (below : d < s.k) (h : Head)
      (heads : head_at (v.process p) d ≡ Some h) where
    pub keeps : IsKeeper d p
    keeps = head-keeps (v.process p) d h p (members.sits p d pin lives below) heads

    pub fits : ReplicaReaches (FineIn s calls) d (v.settled d) (v.process p)
    fits = (reach d below).replicas p pin lives keeps

    -- what the head finds in runs
    pub head-reads : ReadsFrom (store_after s d (stand v.settled (v.process p) d)).space (found_at s d (v.process p) (v.process p).name)
    head-reads = reads s v.settled d (v.process p) (v.process p).name below (let least = shaped.block.0 in
        omega (arith, least)) own writes (holds p pin lives) where
          writes : Each (WritesBytes s) (stand v.settled (v.process p) d)
          writes = each-take (WritesBytes s) (replica_of (v.process p) d).applied (v.settled d) (write d below)

          own : (e : ℕ) → (v.process p).name ≡ DataNode e → (e ≡ d) × ((v.process p).space ≡ values s d (stand v.settled (v.process p) d))
          own e is =
              let named : p ≡ DataNode e = sym (members.named p pin) ∙ is in
              let same : e ≡ d = subst (IsKeeper d) named keeps in
              let there : e < s.k = subst (IsProcess s) named pin in
              let space : (v.process p).space ≡ values s e (stand v.settled (v.process p) e) =
              column-at s (stand v.settled (v.process p)) e (v.process p).space there
              (spaces_stand s v.settled (v.process p) (DataNode e) is there write (holds p pin lives)) in
              (same, space ∙ ap (λ (j : ℕ). values s j (stand v.settled (v.process p) j)) same)

    -- the update that it issues for a new call
    pub issue : (c : AskedCall) (body : Body) (outcome : Outcome) → home_of (key_of c.op.act) s.k ≡ d → IsNextCall calls c
        → decide (space_of s) h.inherited (replica_of (v.process p) d) c.op (found_at s d (v.process p) (v.process p).name) ≡ decides.Issue body outcome
        → FineIn s (calls ++ c ∷ []) d (replica_of (v.process p) d).applied
        (history (v.settled d) (replica_of (v.process p) d) ++ update_of c.name c.op d body outcome (v.process p)
        ∷ [])
    issue c body outcome home next decided =
        let r : Replica = replica_of (v.process p) d in
        issues_are_fine s calls d h.inherited (history (v.settled d) r) c (v.process p) body outcome fits.fine.1
        (replica-of-history (FineIn s calls) d (v.settled d) r (head_at (v.process p) d) fits)
        (record { caller = next.caller; home = home; bytes = next.bytes }) next.behind
        (subst (λ (us : List Update). ReadsFrom (store_after s d us).space
        (found_at s d (v.process p) (v.process p).name)) (sym (front-is (v.settled d) r fits.applied)) head-reads)
        decided
