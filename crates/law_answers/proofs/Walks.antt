-- The causes that are read off the nodes alone: of deliveries, failures, flushes and collects.
use Rattle.std.proofs.Common.{cond, ℕ, zero, suc, ◌≡◌, ◌≢◌, ◌<◌, ◌≤◌, ◌+◌, nat_le, nat_lt, Bool, true, false, List, []}
use Rattle.std.proofs.Common.{◌∷◌, length, slice_index_or, Option, Some, None, ◌⊎◌, inl, inr, refl, sym, ap, subst, ◌∙◌}
use Rattle.std.proofs.Common.{arith}
use Rattle.std.proofs.lemmas.Grind.{common_steps}
use Rattle.std.proofs.lemmas.Bool.{cases_eq}
use Rattle.std.specs.Prelude.{Contains, find}
use Rattle.std.specs.List.{range_with_len}
use Rattle.group_types.specs.Dimensions.{Dimensions}
use Rattle.group_types.specs.Names.{IsProcess}
use Rattle.group_types.specs.declared.process.ProcessId.{ProcessId}
use Rattle.group_message.specs.declared.message.Message.{Message}
use Rattle.group_message.specs.declared.update.Update.{Update}
use Rattle.group_calls.specs.declared.event.Event.{Event}
use Rattle.group_run.specs.Applying.{held_at, replica_of}
use Rattle.group_run.specs.Asking.{collect_from, collect_held, handed_out, is_call}
use Rattle.group_run.specs.Causes.{CollectCause, DeliverCause, FailCause, FlushCause, HoldsCall, IsUp}
use Rattle.group_run.specs.Headline.{IsRun}
use Rattle.group_run.specs.History.{History, history_of, no_history}
use Rattle.group_run.specs.Meaning.{IsDown, link, process_of}
use Rattle.group_run.specs.Process.{Held}
use Rattle.group_run.specs.World.{World, after, all_change, dead_nodes, delivered, flush_process, if_up, process_node, treated}
use Rattle.law_moves.proofs.Events.{Framed, FramedHistory}
use Rattle.law_moves.proofs.Runs.{framed-from, framed-opening, world-from}
use Rattle.law_answers.specs.Laws.{CollectsAlways, CollectsHaveCauses, DeliveriesAlways, DeliveriesHaveCauses}
use Rattle.law_answers.specs.Laws.{FailuresAlways, FailuresHaveCauses, FlushesAlways, FlushesHaveCauses}

-- the frame of the group after a run
pub framed-after : (s : Dimensions) (es : List Event) → IsRun s es → (w : World) → w ≡ after s es
    → (settled : List (List Update)) × Framed w.shape w.nodes settled
framed-after s es run w is =
    let h : History = history_of s es in
    let framed : FramedHistory h = framed-from (no_history s) es (framed-opening s) run.1 in
    let same : h.world ≡ w = world-from (no_history s) es ∙ sym is in
    (h.settled, subst (λ (v : World). Framed v.shape v.nodes h.settled) same framed)

-- what is found passes, and stands there
pub found-there : {X : Type 0} (test : X → Bool) (xs : List X) (x : X) → find test xs ≡ Some x → Contains xs x × (test x ≡ true)
found-there test [] x is = absurd (cc is)
found-there test (y ∷ ys) x is = by (test y) refl is (found-there test ys x) where
  later : Contains ys x × (test x ≡ true) → Contains (y ∷ ys) x × (test x ≡ true)
  later ((k, low, there), passes) = ((suc k, omega (arith, low), there), passes)

  by : (b : Bool) → test y ≡ b → cond b (Some y) (find test ys) ≡ Some x
      → (find test ys ≡ Some x → Contains ys x × (test x ≡ true)) → Contains (y ∷ ys) x × (test x ≡ true)
  by true passes is there = let same : y ≡ x = cc is in ((0, omega arith, same), ap test (sym same) ∙ passes)
  by false fails is there = later (there is)

-- where nothing is found, none passes
pub none-there : {X : Type 0} (test : X → Bool) (xs : List X) (x : X) → find test xs ≡ None → Contains xs x → test x ≡ false
none-there test [] x is (k, low, there) = absurd (omega (arith, low))
none-there test (y ∷ ys) x is (k, low, there) = by (test y) refl is k low there (none-there test ys x) where
  by : (b : Bool) → test y ≡ b → cond b (Some y) (find test ys) ≡ None → (k : ℕ) → k < length (y ∷ ys) → slice_index_or (y ∷ ys) k x ≡ x
      → (find test ys ≡ None → Contains ys x → test x ≡ false) → test x ≡ false
  by true passes is k low there later = absurd (cc is)
  by false fails is zero low there later = ap test (sym there) ∙ fails
  by false fails is (suc k) low there later = later is (k, omega (arith, low), there)

module _ (w : World) (settled : List (List Update)) (framed : Framed w.shape w.nodes settled) where
  -- a node's word is right
  pub is-down : (p : ProcessId) → IsProcess w.shape p → (process_node w p).down ≡ true → IsDown w
  is-down p pin word = let told : nat_lt w.shape.m (dead_nodes w.nodes) ≡ true = sym (framed.down p pin) ∙ word in grind (arith, common_steps)

  pub not-down : (p : ProcessId) → IsProcess w.shape p → (process_node w p).down ≡ false → ¬ (IsDown w)
  not-down p pin word down =
      let told : nat_lt w.shape.m (dead_nodes w.nodes) ≡ false = sym (framed.down p pin) ∙ word in
      let few : dead_nodes w.nodes ≤ w.shape.m = grind (arith, common_steps) in absurd (omega (arith, few, down))

  pub is-up : (p : ProcessId) → IsProcess w.shape p → (process_node w p).down ≡ false → (process_node w p).dead ≡ false → IsUp w p
  is-up p pin down lives = record { group = not-down p pin down; process = lives }

  pub deliveries : DeliveriesHaveCauses w
  deliveries from to may = by (process_node w to).down (process_node w to).dead refl refl (link w from to) refl where
    by : (down dead : Bool) → (process_node w to).down ≡ down → (process_node w to).dead ≡ dead → (l : List Message) → link w from to ≡ l
        → DeliverCause w from to (delivered down dead w.shape from to (process_node w from) (process_node w to) l).receiver.answer
    by true dead isdown isdead l is = is-down to may.1 isdown
    by false true isdown isdead l is = (not-down to may.1 isdown, inl isdead)
    by false false isdown isdead [] is = (not-down to may.1 isdown, inr is)
    by false false isdown isdead (m ∷ rest) is = (is-up to may.1 isdown isdead, λ none. cc (none, is))

  pub failures : FailuresHaveCauses w
  failures p keep may = by (process_node w p).dead refl where
    by : (dead : Bool) → (process_node w p).dead ≡ dead → FailCause w p (all_change dead w.shape w.nodes p keep).answer
    by true is = is
    by false is = is

  pub flushes : FlushesHaveCauses w
  flushes p may = by (process_node w p).down (process_node w p).dead refl refl where
    by : (down dead : Bool) → (process_node w p).down ≡ down → (process_node w p).dead ≡ dead
        → FlushCause w p (if_up down dead (process_node w p) (treated w.shape (process_node w p) (flush_process w.shape (process_of w p)))).answer
    by true dead isdown isdead = is-down p may isdown
    by false true isdown isdead = (not-down p may isdown, isdead)
    by false false isdown isdead = is-up p may isdown isdead

  module _ (p : ProcessId) (caller call : ℕ) (up : IsUp w p) where
    -- partition by partition
    collect-walk : (n a : ℕ) → a + n ≡ w.shape.k → ((d : ℕ) (h : Held) → d < a → ¬ (HoldsCall w p caller call d h))
        → CollectCause w p caller call (collect_from caller call (process_of w p) (range_with_len a n)).answer
    collect-walk zero a all none = (up, λ d h holds. let low = holds.partition in none d h (omega (arith, low, all)) holds)
    collect-walk (suc n) a all none = by (find (is_call caller call) (held_at (process_of w p) a)) refl (collect-walk n (a + 1) (omega (arith, all))) where
      handed : (x : Held) → HoldsCall w p caller call a x → (b : Bool) → nat_le x.number (replica_of (process_of w p) a).applied ≡ b
          → CollectCause w p caller call (handed_out b a x (process_of w p)).answer
      handed x holds true test = (up, (a, x, holds, grind (arith, common_steps), refl))
      handed x holds false test = (up, (a, x, holds, grind (arith, common_steps)))

      still : find (is_call caller call) (held_at (process_of w p) a) ≡ None → (d : ℕ) (h : Held) → d < a + 1 → ¬ (HoldsCall w p caller call d h)
      still found d h low holds = at_one (cases_eq d a) where
        at_one : (d ≡ a) ⊎ (d ≢ a) → ⊥
        at_one (inr other) = none d h (omega (arith, low, other)) holds
        at_one (inl same) =
            let not : is_call caller call h ≡ false = none-there (is_call caller call) (held_at (process_of w p) a) h found
            (subst (λ (e : ℕ). Contains (held_at (process_of w p) e) h) same holds.held) in
            absurd (cc (not, holds.named))

      by : (o : Option Held) → find (is_call caller call) (held_at (process_of w p) a) ≡ o
          → (((d : ℕ) (h : Held) → d < a + 1 → ¬ (HoldsCall w p caller call d h)) → CollectCause w p caller call
          (collect_from caller call (process_of w p) (range_with_len (a + 1) n)).answer)
          → CollectCause w p caller call (collect_held a o (process_of w p) (collect_from caller call (process_of w p) (range_with_len (a + 1) n))).answer
      by None found later = later (still found)
      by (Some x) found later =
          let there = found-there (is_call caller call) (held_at (process_of w p) a) x found in
          handed x (record { partition = omega (arith, all); held = there.0; named = there.1 }) (nat_le x.number (replica_of (process_of w p) a).applied) refl

  pub collects : CollectsHaveCauses w
  collects caller call p may = by (process_node w p).down (process_node w p).dead refl refl where
    by : (down dead : Bool) → (process_node w p).down ≡ down → (process_node w p).dead ≡ dead
        → CollectCause w p caller call
        (if_up down dead (process_node w p)
        (treated w.shape (process_node w p)
        (collect_from caller call (process_of w p) (range_with_len 0 w.shape.k)))).answer
    by true dead isdown isdead = is-down p may.1 isdown
    by false true isdown isdead = (not-down p may.1 isdown, isdead)
    by false false isdown isdead = collect-walk p caller call (is-up p may.1 isdown isdead) w.shape.k 0 (omega arith) (λ d h low. absurd (omega (arith, low)))

pub deliveries_always : DeliveriesAlways
deliveries_always s es run = let framed = framed-after s es run (after s es) refl in deliveries (after s es) framed.0 framed.1

pub failures_always : FailuresAlways
failures_always s es run = let framed = framed-after s es run (after s es) refl in failures (after s es) framed.0 framed.1

pub flushes_always : FlushesAlways
flushes_always s es run = let framed = framed-after s es run (after s es) refl in flushes (after s es) framed.0 framed.1

pub collects_always : CollectsAlways
collects_always s es run = let framed = framed-after s es run (after s es) refl in collects (after s es) framed.0 framed.1
