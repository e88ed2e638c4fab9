-- Walking over a run, part by part, each of which is free once a log is applied up to a number.
use Rattle.std.proofs.Common.{◌≡◌, ℕ, ◌+◌, ◌-◌, ◌≤◌, ◌<◌, max, Bool, true, false, ◌||◌, inl, inr, List, [], ◌∷◌, length}
use Rattle.std.proofs.Common.{Option, Some, None, refl, sym, ap, ◌∙◌, arith}
use Rattle.std.proofs.Math.Bool.{or-true}
use Rattle.std.proofs.lemmas.Bool.{cases_lt}
use Rattle.group_types.specs.Dimensions.{space_of}
use Rattle.group_types.specs.declared.run.Run.{Run}
use Rattle.group_message.specs.declared.update.Update.{Update}
use Rattle.request_log.specs.Logged.{IsNumbered}
use Rattle.run_alloc.specs.Free.{AddressSpace, AllFree}
use Rattle.run_alloc.specs.Free as alloc
use Rattle.group_run.specs.Free.{in_run, in_some_run, is_free}
use Rattle.partition_replica.specs.Coming.{is_returned, once_applied, returned_by}
use Rattle.partition_replica.specs.Inside.{PartsAgree}
use Rattle.partition_replica.specs.State.{ReplicaState}
use Rattle.partition_replica.proofs.Coming.{Sorted, free_once, free_stays}

-- between the updates whose runs were looked at and those that are left
pub record Returning (drops : Bool) (n : ℕ) (log left : List Update) (at most : ℕ) : Type 0 where
  pub within : (a : ℕ) → is_returned drops n left a ≡ true → is_returned drops n log a ≡ true
  pub held : AllFree (is_returned drops n log) at most
  pub none : most ≡ 0 → is_returned drops n log at ≡ is_returned drops n left at

module _ (drops : Bool) (n : ℕ) (log : List Update) (at : ℕ) where
  pub returning_start : Returning drops n log log at 0
  returning_start = record { within = λ a is. is; held = λ a low high. absurd (omega arith); none = λ _. refl }

  module _ (left : List Update) (u : Update) (most : ℕ) (now : Returning drops n log (u ∷ left) at most) where
    within_rest : (a : ℕ) → is_returned drops n left a ≡ true → is_returned drops n log a ≡ true
    within_rest a is = now.within a (ap (λ (b : Bool). in_some_run a (returned_by drops n u) || b) is ∙ or-true (in_some_run a (returned_by drops n u)))

    pub returning_none : returned_by drops n u ≡ None → Returning drops n log left at most
    returning_none is = record {
      within = within_rest;
      held = now.held;
      none = λ zero. now.none zero ∙ ap (λ (o : Option Run). in_some_run at o || is_returned drops n left at) is;
    }

    pub returning_some : (run : Run) (part : ℕ) → returned_by drops n u ≡ Some run → AllFree (λ a. in_run a run) at part
        → (part ≡ 0 → in_run at run ≡ false) → Returning drops n log left at (max most part)
    returning_some run part is inside out = record {
      within = within_rest;
      held = λ a low high. elim (cases_lt a (at + most)) [
        | inl below ↦ now.held a low below
        | inr above ↦ now.within a (ap (λ (o : Option Run). in_some_run a o || is_returned drops n left a) is
            ∙ ap (λ (b : Bool). b || is_returned drops n left a) (inside a low (omega arith)))
      ];
      none =
          λ zero. now.none (omega arith) ∙ ap (λ (o : Option Run). in_some_run at o || is_returned drops n left at) is
          ∙ ap (λ (b : Bool). b || is_returned drops n left at) (out (omega arith));
    }

  pub returning_end : (left : List Update) (most : ℕ) → Returning drops n log left at most → length left ≡ 0 → most ≡ 0 → is_returned drops n log at ≡ false
  returning_end [] most now none zero = now.none zero
  returning_end (u ∷ left) most now none zero = absurd (omega arith)

other : (a b c : Bool) → c ≡ (a || b) → b ≡ true → c ≡ true
other a b c is one = is ∙ ap (λ (x : Bool). a || x) one ∙ or-true a

neither : (a b c : Bool) → c ≡ (a || b) → a ≡ false → b ≡ false → c ≡ false
neither false false c is x y = is
neither true b c is x y = cc
neither false true c is x y = cc

module _ {s : ReplicaState} {runs : AddressSpace} {fit : ℕ} (agree : PartsAgree s runs fit) (sorted : Sorted s.replica.items)
    (numbered : IsNumbered (λ u. u.number) s.replica.applied s.replica.log)
    (drops : Bool) (n at to back : ℕ) (reaches : at ≤ to) where
  free_is : (a : ℕ) → is_free (space_of s.shape) (once_applied drops n s.replica) a ≡ (alloc.is_free_address runs a || is_returned drops n s.replica.log a)
  free_is a =
      free_once (space_of s.shape) drops n s.replica sorted agree.sound numbered a
      ∙ ap (λ (b : Bool). b || is_returned drops n s.replica.log a) (sym (agree.free a))

  -- nothing is free from there on now: what comes back
  pub part_none : alloc.is_free_address runs to ≡ false → to - at ≡ 0 → (back ≡ 0 → is_returned drops n s.replica.log at ≡ false) → back ≡ 0
      → is_free (space_of s.shape) (once_applied drops n s.replica) at ≡ false
  part_none ends none back_none zero =
      let here : to ≡ at = omega arith in
      neither _ _ _ (free_is at) (ap (alloc.is_free_address runs) (sym here) ∙ ends) (back_none zero)

  pub part_back : AllFree (is_returned drops n s.replica.log) at back → AllFree (is_free (space_of s.shape) (once_applied drops n s.replica)) at back
  part_back held a low high = other (alloc.is_free_address runs a) _ _ (free_is a) (held a low high)

-- what is free from there on now is free then
pub part_free : {s : ReplicaState} {runs : AddressSpace} {fit : ℕ} → PartsAgree s runs fit → Sorted s.replica.items
    → (drops : Bool) (n at to : ℕ) → AllFree (alloc.is_free_address runs) at (to - at)
    → AllFree (is_free (space_of s.shape) (once_applied drops n s.replica)) at (to - at)
part_free {s} agree sorted drops n at to free a low high =
    free_stays (space_of s.shape) drops n s.replica sorted agree.sound a (sym (agree.free a) ∙ free a low high)

module _ (free : ℕ → Bool) (from at left part : ℕ) where
  -- a part more of what is walked over
  pub walked : from ≤ at → AllFree free from (at - from) → AllFree free at part → AllFree free from (at + part - from)
  walked low before here a above below = elim (cases_lt a at) [
    | inl lower ↦ before a above (omega arith)
    | inr higher ↦ here a higher (omega arith)
  ]

  -- an address on the way that isn't free
  pub stopped : from ≤ at → 0 < left → free at ≡ false → AllFree free from (at + left - from) → ⊥
  stopped low some taken all = cc (taken, all at low (omega arith))
