-- What is waited for is unfinished.
use Rattle.std.proofs.Common.{ℕ, suc, ◌≡◌, ◌<◌, ◌≤◌, ◌+◌, ◌==◌, ◌&&◌, Bool, true, false, List, [], ◌∷◌, Option, Some}
use Rattle.std.proofs.Common.{None, ◌⊎◌, inl, inr, refl, sym, ap, subst, ◌∙◌, arith, if◌then◌else◌}
use Rattle.std.proofs.lemmas.Grind.{common_steps}
use Rattle.std.specs.Prelude.{Contains}
use Rattle.group_types.specs.Lists.{same_key}
use Rattle.group_types.specs.Names.{IsProcess}
use Rattle.group_types.specs.declared.process.Partition.{Partition}
use Rattle.group_types.specs.declared.process.ProcessId.{ProcessId}
use Rattle.memc_table.specs.Act.{key_of}
use Rattle.memc_table.specs.Asked.{Asked}
use Rattle.memc_table.specs.Contents.{Contents, count_of, reply_in, reply_of}
use Rattle.memc_table.specs.Expiry.{live_at}
use Rattle.memc_table.specs.declared.holding.Holding.{Holding}
use Rattle.memc_table.specs.declared.ruling.Ruling.{Ruling}
use Rattle.memc_table.specs.declared.ruling.Ruling.TheVariants.{Accepted, Refused}
use Rattle.group_message.specs.declared.update.Update.{Update}
use Rattle.group_calls.specs.Turns.{accepts}
use Rattle.group_calls.specs.declared.event.Answer.{Answer}
use Rattle.group_calls.specs.declared.event.Answer.TheVariants.{NotYet, Retry}
use Rattle.group_calls.specs.declared.event.Cause.TheVariants.{Pending}
use Rattle.group_run.specs.Applying.{head_at, replica_of}
use Rattle.group_run.specs.Causes.{AskCause, CollectCause, FindsWindowFull, HoldsCall, IsOpen, IsAdopted, IsReady, IsUp}
use Rattle.group_run.specs.Causes.{TraceCause, WaitsForInherited, WaitsForKey, home_in, table_now, waits_at}
use Rattle.group_run.specs.Deciding.{is_get}
use Rattle.group_run.specs.Meaning.{IsUnfinished, Lives, process_of}
use Rattle.group_run.specs.Process.{Head, Held}
use Rattle.group_run.specs.Replica.{last_of, number_on}
use Rattle.group_run.specs.World.{World}
use Rattle.law_updates.proofs.Rules.{RulesWell, rules-well}
use Rattle.law_answers.proofs.Awaited.{any-there}
use Rattle.law_moves.proofs.Notices.{both}
use Rattle.law_causes.specs.Waiting.{AskWaits, CollectWaits, MayBeElsewhere, TraceWaits}
use Rattle.law_causes.proofs.Standing.{HeadsStand}
use Rattle.law_causes.proofs.Unfinished.{log-unfinished, unfinished}

-- no get is accepted
get-refused : (t : Contents) (op : Asked) → is_get op.act ≡ true → accepts (reply_of t op) ≡ false
get-refused t op gets = by _ (rules-well op.moment n op.act live) where
  n : ℕ
  n = count_of t (key_of op.act) + 1

  live : Option Holding
  live = live_at op.moment (t.items (key_of op.act))

  by : (r : Ruling) → RulesWell n op.act live r → accepts (reply_in r) ≡ false
  by (Refused r) well = well
  by (Accepted r leaves) well = let not : is_get op.act ≡ false = well.2 in absurd (cc (not, gets))

-- the last update on a key stands in the log
number-there : (us : List Update) (key : List ℕ) (n : ℕ) → number_on us key ≡ Some n → (u : Update) × Contains us u × (u.number ≡ n)
number-there [] key n is = absurd (cc is)
number-there (u ∷ us) key n is = by (number_on us key) refl is (number-there us key) where
  behind : (v : Update) × Contains us v × (v.number ≡ n) → (v : Update) × Contains (u ∷ us) v × (v.number ≡ n)
  behind (v, (k, low, there), number) = (v, (suc k, omega (arith, low), there), number)

  here : (b : Bool) → (if b then Some u.number else None) ≡ Some n → (v : Update) × Contains (u ∷ us) v × (v.number ≡ n)
  here true is = (u, (0, omega arith, refl), cc is)
  here false is = absurd (cc is)

  by : (o : Option ℕ) → number_on us key ≡ o → elim o [ Some m ↦ Some m | None ↦ if same_key u.key key then Some u.number else None ] ≡ Some n
      → ((m : ℕ) → number_on us key ≡ Some m → (v : Update) × Contains us v × (v.number ≡ m)) → (v : Update) × Contains (u ∷ us) v × (v.number ≡ n)
  by (Some m) found is later = let same : m ≡ n = cc is in behind (later n (found ∙ ap Some same))
  by None found is later = here (same_key u.key key) is

module _ (w : World) (p : ProcessId) (pin : IsProcess w.shape p) (stand : HeadsStand w)
    (ready-head : (d : ℕ) → d < w.shape.k → IsUp w p → IsReady w p d → (h : Head) × (head_at (process_of w p) d ≡ Some h)) where
  at_log : (d : ℕ) (h : Head) → IsUp w p → d < w.shape.k → head_at (process_of w p) d ≡ Some h → (u : Update)
      → Contains (replica_of (process_of w p) d).log u → IsUnfinished w p d u.number h
  at_log d h up low heads u there = (log-unfinished w p d h heads (stand p d h (pin, up.process) low heads)).waits u there

  module _ (op : Asked) (low : home_in w op < w.shape.k) (after : World) (d : Partition) (n : ℕ) where
    on-key : IsUp w p → (h : Head) × (head_at (process_of w p) (home_in w op) ≡ Some h) → WaitsForKey w p op d.0 n → AskWaits w p op d.0 n
    on-key up (h, heads) waits = by (number-there (replica_of (process_of w p) (home_in w op)).log (key_of op.act) n waits.on_key) where
      by : (u : Update) × Contains (replica_of (process_of w p) (home_in w op)).log u × (u.number ≡ n) → AskWaits w p op d.0 n
      by (u, there, number) = record {
        head = h;
        unfinished = subst (λ (e : ℕ). IsUnfinished w p e n h) (sym waits.home)
            (subst (λ (m : ℕ). IsUnfinished w p (home_in w op) m h) number
            (at_log (home_in w op) h up low heads u there));
        inherited = waits.inherited;
      }

    full : IsUp w p → (h : Head) × (head_at (process_of w p) (home_in w op) ≡ Some h) → FindsWindowFull w p op d.0 n → AskWaits w p op d.0 n
    full up (h, heads) finds = record {
      head = h;
      unfinished = subst (λ (e : ℕ). IsUnfinished w p e n h) (sym finds.home)
          (let long = finds.full in let next = finds.oldest in
          unfinished w p (home_in w op) h heads (stand p (home_in w op) h (pin, up.process) low heads) n
          (omega (arith, next)) (omega (arith, long, next)));
      inherited = λ gets. let takes = finds.accepted in let refused = get-refused (table_now w) op gets in absurd (cc (takes, refused));
    }

    oldest : IsUp w p → WaitsForInherited w p op d.0 n → AskWaits w p op d.0 n
    oldest up waits = by waits.has where
      by : (h : Head) × (head_at (process_of w p) d.0 ≡ Some h) × ((replica_of (process_of w p) d.0).applied < h.inherited) → AskWaits w p op d.0 n
      by (h, heads, more) =
          let stands = stand p d.0 h (pin, up.process) waits.partition heads in
          let next = waits.oldest in
          let most = stands.inherited in
          record {
            head = h;
            unfinished = unfinished w p d.0 h heads stands n (omega (arith, next)) (omega (arith, next, more, most));
            inherited = λ gets. (h, heads, omega (arith, next, more));
          }

    pub ask-waits : (answer : Answer) → AskCause w after p op answer → answer ≡ Retry (Pending d n) → AskWaits w p op d.0 n
    ask-waits answer why is = by (subst (AskCause w after p op) is why) where
      by : IsUp w p × IsReady w p (home_in w op)
          × (WaitsForKey w p op d.0 n ⊎ FindsWindowFull w p op d.0 n ⊎ WaitsForInherited w p op d.0 n)
          → AskWaits w p op d.0 n
      by (up, ready, inl waits) = on-key up (ready-head (home_in w op) low up ready) waits
      by (up, ready, inr (inl finds)) = full up (ready-head (home_in w op) low up ready) finds
      by (up, ready, inr (inr waits)) = oldest up waits

  module _ (caller call : ℕ) where
    -- a process holds calls of what it heads, and no call of an update that wasn't issued
    pub collect-waits : ((d : ℕ) (x : Held) → Lives w p → HoldsCall w p caller call d x → (h : Head)
        × (head_at (process_of w p) d ≡ Some h) × (x.number ≤ last_of (replica_of (process_of w p) d)))
        → (answer : Answer) → CollectCause w p caller call answer → answer ≡ NotYet → CollectWaits w p caller call
    collect-waits held answer why is = by (subst (CollectCause w p caller call) is why) where
      at_head : (up : IsUp w p) (d : ℕ) (x : Held) → HoldsCall w p caller call d x → (replica_of (process_of w p) d).applied < x.number
          → (h : Head) × (head_at (process_of w p) d ≡ Some h) × (x.number ≤ last_of (replica_of (process_of w p) d)) → CollectWaits w p caller call
      at_head up d x holds above (h, heads, within) = record {
        partition = d;
        held = x;
        holds = holds;
        head = h;
        unfinished = unfinished w p d h heads (stand p d h (pin, up.process) holds.partition heads) x.number above within;
      }

      by : IsUp w p
          × ((d : ℕ) × (x : Held) × HoldsCall w p caller call d x
          × ((replica_of (process_of w p) d).applied < x.number)) → CollectWaits w p caller call
      by (up, (d, x, holds, above)) = at_head up d x holds above (held d x (pin, up.process) holds)

    pub trace-waits : (d : ℕ) → d < w.shape.k → (answer : Answer) → TraceCause w p caller call d answer
        → answer ≡ NotYet → TraceWaits w p caller call d ⊎ MayBeElsewhere w p caller call d
    trace-waits d low answer why is = by (subst (TraceCause w p caller call d) is why) where
      here : (h : Head) → IsUp w p → head_at (process_of w p) d ≡ Some h
          → (u : Update) × Contains (replica_of (process_of w p) d).log u × ((u.caller == caller && u.call == call) ≡ true) → TraceWaits w p caller call d
      here h up heads (u, there, named) =
          let names = both (u.caller == caller) (u.call == call) named in
          let first = names.0 in
          let second = names.1 in
          record {
            update = u;
            in_log = there;
            caller_is = grind (arith, common_steps);
            call_is = grind (arith, common_steps);
            head = h;
            unfinished = at_log d h up low heads u there;
          }

      by : IsUp w p × IsReady w p d
          × ((waits_at w p caller call d ≡ true)
          ⊎ (IsOpen w p caller call d × ((h : Head) × (head_at (process_of w p) d ≡ Some h) × (¬ (IsAdopted w p h)))))
          → TraceWaits w p caller call d ⊎ MayBeElsewhere w p caller call d
      by (up, ready, inl waits) =
          let head = ready-head d low up ready in
          inl (here head.0 up head.1 (any-there (λ u. u.caller == caller && u.call == call) (replica_of (process_of w p) d).log waits))
      by (up, ready, inr (free, (h, heads, not))) = inr (record { is_open = free; head = h; heads = heads; not_adopted = not })
