-- What the parts of a replica keep, through each of its calls.
use Rattle.std.proofs.Common.{◌≡◌, ℕ, zero, suc, ◌+◌, ◌-◌, ◌≤◌, ◌<◌, Bool, true, false, not, ◌&&◌, ◌||◌, List, [], ◌∷◌}
use Rattle.std.proofs.Common.{length, length-append, slice_set, nat_lt, if◌then◌else◌, All, Option, Some, None, refl}
use Rattle.std.proofs.Common.{sym, ap, ◌∙◌, subst, arith}
use Rattle.std.proofs.Math.Bool.{or-true}
use Rattle.std.proofs.lemmas.List.Elements.{All-append, All-nil, All-head, All-tail}
use Rattle.std.specs.Prelude.{T}
use Rattle.std.specs.Cmp.Lexicographic.{slice_cmp}
use Rattle.std.specs.FinMap.{is_sorted}
use Rattle.std.specs.Ordering.{nat_cmp}
use Rattle.group_types.specs.Dimensions.{space_of}
use Rattle.group_message.specs.declared.kept.Kept.{Kept}
use Rattle.group_message.specs.declared.update.Update.{Update}
use Rattle.item_index.specs.Keys.{Keys}
use Rattle.request_log.specs.Logged.{LogState}
use Rattle.run_alloc.specs.Free.{AddressSpace}
use Rattle.run_alloc.specs.Free as alloc
use Rattle.group_run.specs.Free.{in_run, in_some_run, is_free}
use Rattle.std.specs.List.{list_any}
use Rattle.group_types.specs.Lists.{put, same_key}
use Rattle.group_run.specs.Replica.{Items, Replica, empty_replica, applied_to, callers, item_settled, run_of, with_log, with_update}
use Rattle.group_run.specs.Fitting.{AllCanCome, CanCome, Writes}
use Rattle.partition_replica.specs.Inside.{PartsAgree, items_in, replica_in}
use Rattle.partition_replica.specs.Moves.{GivesAddresses, TakesAddresses}
use Rattle.partition_replica.specs.Sound.{IsSoundReplica, log_runs, owners}
use Rattle.partition_replica.specs.State.{HasRoom, ReplicaState, is_among, is_needed}
use Rattle.partition_replica.proofs.Indices.{set_put}
use Rattle.partition_replica.proofs.Keys.{number_on-each}
use Rattle.partition_replica.proofs.Sound.{sound_at_start, takeable, sound_with, free_with, sound_with_all}
use Rattle.partition_replica.proofs.Sound.{sound_emptied, free_emptied, free_refilled, sound_settled, free_settled}
use Rattle.partition_replica.proofs.Sound.{settled_first}

-- the keys of a log are ready
abbrev pub AreReady : List (List ℕ) → List Update → Type 0
AreReady ready log = All (λ u. is_among ready u.key ≡ true) log

pub agrees_at_start : (s : ReplicaState) (space : AddressSpace) → s.replica ≡ empty_replica → s.room.spare ≡ 0
    → space.size ≡ space_of s.shape → ((a : ℕ) → alloc.is_free_address space a ≡ nat_lt a (space_of s.shape))
    → PartsAgree s space 0
agrees_at_start s space start none size free =
    subst (λ (r : Replica). PartsAgree (record s { replica = r }) space 0) (sym start) (record {
      sound = sound_at_start _;
      size = size;
      free = λ a. free a ∙ sym (all_free (nat_lt a (space_of s.shape)));
      runs = omega arith;
      updates = omega arith;
      ready = All-nil (λ u. is_among s.room.ready u.key ≡ true);
      callers = refl;
    }) where
      all_free : (b : Bool) → (b && true && true && true) ≡ b
      all_free true = refl
      all_free false = refl

pub agrees_received : (s : ReplicaState) (u : Update) (old new : AddressSpace) (fit : ℕ) → PartsAgree s old fit
    → CanCome (space_of s.shape) s.replica u → HasRoom s.room (u ∷ [])
    → TakesAddresses old new (λ a. in_some_run a (run_of u.body)) 1
    → PartsAgree (record s { replica = with_update u s.replica; room = record s.room { spare = s.room.spare - 1 } }) new (fit - 1)
agrees_received s u old new fit agree come room taken = record {
  sound = sound_with _ s.replica u agree.sound come;
  size = taken.size ∙ agree.size;
  free = λ a. taken.free a ∙ ap (λ b. b && not (in_some_run a (run_of u.body))) (agree.free a) ∙ sym (free_with _ s.replica u agree.sound come a);
  runs = omega (arith, length-append s.replica.log (u ∷ []), agree.runs, taken.spare, room.spare);
  updates = omega (arith, agree.updates);
  ready = All-append (λ v. is_among s.room.ready v.key ≡ true) s.replica.log (u ∷ []) agree.ready room.ready;
  callers = agree.callers;
}

length-put : (kept : List (Option Kept)) (i : ℕ) (x : Option Kept) → i < length kept → length (put None kept i x) ≡ length kept
length-put [] i x lt = absurd (omega arith)
length-put (y ∷ ys) zero x lt = refl
length-put (y ∷ ys) (suc i) x lt = ap suc (length-put ys i x (omega arith))

module _ {s : ReplicaState} {u : Update} {us : List Update} {old : AddressSpace} {fit : ℕ}
    (sorted : T (is_sorted (slice_cmp nat_cmp) s.replica.items)) (first : s.replica.log ≡ u ∷ us)
    (agree : PartsAgree s old fit) where
  -- the update is ready to be settled
  pub first_ready : is_among s.room.ready u.key ≡ true
  first_ready = All-head (λ v. is_among s.room.ready v.key ≡ true) u us (subst (AreReady s.room.ready) first agree.ready)

  pub first_writes : Writes (space_of s.shape) u.body
  first_writes = All-head (λ v. Writes (space_of s.shape) v.body) u us (subst (All (λ v. Writes (space_of s.shape) v.body)) first agree.sound.writes)

  pub first_caller : u.caller < length s.replica.kept
  first_caller = rw agree.callers (All-head (λ v. v.caller < callers) u us (subst (All (λ v. v.caller < callers)) first agree.sound.callers))

  pub agrees_settled : (new : AddressSpace) → GivesAddresses old new (λ a. in_some_run a u.frees) 1
      → PartsAgree (record s { replica = applied_to (s.replica.applied + 1) s.replica }) new fit
  agrees_settled new given = record {
    sound = sound_settled _ s.replica u us sorted first agree.sound;
    size = given.size ∙ agree.size;
    free = λ a. given.free a ∙ ap (λ b. b || in_some_run a u.frees) (agree.free a) ∙ sym (free_settled _ s.replica u us sorted first agree.sound a);
    runs = omega (arith, ap (λ (r : Replica). length r.log) (settled_first s.replica u us first), ap length first, agree.runs, given.spare);
    updates = agree.updates;
    ready = subst (λ (r : Replica). AreReady s.room.ready r.log) (sym (settled_first s.replica u us first))
        (All-tail (λ v. is_among s.room.ready v.key ≡ true) u us (subst (AreReady s.room.ready) first agree.ready));
    callers = ap (λ (r : Replica). length r.kept) (settled_first s.replica u us first) ∙ length-put s.replica.kept u.caller _ first_caller ∙ agree.callers;
  }

-- the parts after the first update is settled
pub replica_settled : (old new : Keys (List ℕ)) (log rest : LogState Update) (kept : List (Option Kept)) (u : Update)
    → log.updates ≡ u ∷ rest.updates → rest.applied ≡ log.applied + 1
    → items_in new ≡ item_settled u (items_in old) → u.caller < length kept
    → replica_in new rest (slice_set kept u.caller (Some (record { call = u.call; outcome = u.outcome })))
    ≡ applied_to (log.applied + 1) (replica_in old log kept)
replica_settled old new log rest kept u first applied items caller =
    rw (items, applied, set_put None kept u.caller (Some (record { call = u.call; outcome = u.outcome })) caller)
    (sym (settled_first (replica_in old log kept) u rest.updates first))

-- keys that are needed stay ready
still_ready : (items : Items) (log : List Update) (old new : List (List ℕ)) (tidied : List ℕ → Bool) → AreReady old log
    → ((q : List ℕ) → is_among new q ≡ (is_among old q && (not (tidied q) || is_needed items log q))) → AreReady new log
still_ready items log old new tidied ready left k d lt = left _ ∙ both _ _ _ _ (ready k d lt) (number_on-each log k d lt) where
  both : (a b c e : Bool) → a ≡ true → e ≡ true → (a && (not b || (c || e))) ≡ true
  both a b c e is needed = rw (is, needed, or-true c, or-true (not b)) refl

pub agrees_tidied : (s : ReplicaState) (space : AddressSpace) (fit : ℕ) (ready : List (List ℕ)) (key : List ℕ) → PartsAgree s space fit
    → ((q : List ℕ) → is_among ready q ≡ (is_among s.room.ready q && (not (same_key key q) || is_needed s.replica.items s.replica.log q)))
    → PartsAgree (record s { room = record s.room { ready = ready } }) space fit
agrees_tidied s space fit ready key agree left = record {
  sound = agree.sound;
  size = agree.size;
  free = agree.free;
  runs = agree.runs;
  updates = agree.updates;
  ready = still_ready s.replica.items s.replica.log s.room.ready ready (same_key key) agree.ready left;
  callers = agree.callers;
}

-- the free runs once the log is dropped
free_middle : {s : ReplicaState} {old middle : AddressSpace} {fit : ℕ} → PartsAgree s old fit
    → GivesAddresses old middle (λ a. list_any (in_run a) (log_runs s.replica.log)) (length s.replica.log)
    → (a : ℕ) → alloc.is_free_address middle a ≡ is_free (space_of s.shape) (with_log [] s.replica) a
free_middle {s = s} agree gives a = gives.free a ∙ ap (λ b. b || list_any (in_run a) (log_runs s.replica.log))
    (agree.free a) ∙ sym (free_emptied _ s.replica agree.sound a)

module _ {s : ReplicaState} {old : AddressSpace} {fit : ℕ} (us : List Update) (agree : PartsAgree s old fit)
    (come : AllCanCome (space_of s.shape) (with_log [] s.replica) us) where
  sound_adopted : IsSoundReplica (space_of s.shape) (with_log us s.replica)
  sound_adopted = sound_with_all _ (with_log [] s.replica) us (sound_emptied _ s.replica agree.sound) come

  module _ {middle : AddressSpace} (gives : GivesAddresses old middle (λ a. list_any (in_run a) (log_runs s.replica.log)) (length s.replica.log)) where
    pub adopted_takeable : (a : ℕ) → owners a (log_runs us) ≤ (if alloc.is_free_address middle a then 1 else 0)
    adopted_takeable a = rw (free_middle agree gives a) (takeable _ s.replica us sound_adopted a)

    pub agrees_adopted : (new : AddressSpace) (ready tidy : List (List ℕ)) (dropped : List ℕ → Bool)
        → HasRoom (record { spare = s.room.spare; ready = ready }) us
        → ((q : List ℕ) → is_among tidy q ≡ (is_among ready q && (not (dropped q) || is_needed s.replica.items us q)))
        → TakesAddresses middle new (λ a. list_any (in_run a) (log_runs us)) (length us)
        → PartsAgree (record s { replica = with_log us s.replica; room = record { spare = 0; ready = tidy } }) new 0
    agrees_adopted new ready tidy dropped room left takes = record {
      sound = sound_adopted;
      size = takes.size ∙ gives.size ∙ agree.size;
      free = λ a. takes.free a ∙ ap (λ b. b && not (list_any (in_run a) (log_runs us))) (free_middle agree gives a)
          ∙ sym (free_refilled _ s.replica us sound_adopted a);
      runs = omega (arith, agree.runs, gives.spare, takes.spare, room.spare);
      updates = omega arith;
      ready = still_ready s.replica.items us ready tidy dropped room.ready left;
      callers = agree.callers;
    }
