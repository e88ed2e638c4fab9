-- The cause of each answer to an ask.
use Rattle.std.proofs.Common.{ℕ, zero, suc, ◌≡◌, ◌<◌, ◌≤◌, ◌+◌, nat_le, Bool, true, false, if◌then◌else◌, List, []}
use Rattle.std.proofs.Common.{length, take, Option, Some, None, ◌⊎◌, inl, inr, refl, sym, ap, subst, ◌∙◌, arith}
use Rattle.std.proofs.lemmas.Grind.{common_steps}
use Rattle.std.specs.Prelude.{option_map}
use Rattle.std.specs.List.{range_with_len}
use Rattle.group_types.specs.Dimensions.{Dimensions, space_of}
use Rattle.group_types.specs.Lists.{at}
use Rattle.group_types.specs.Names.{IsProcess, of_rank}
use Rattle.group_types.specs.declared.process.ProcessId.{ProcessId}
use Rattle.group_types.specs.declared.process.ProcessId.TheVariants.{DataNode, ParityNode}
use Rattle.group_types.specs.declared.run.Run.{Run}
use Rattle.item_index.specs.declared.slot.Slot.{Slot}
use Rattle.memc_table.specs.Act.{key_of}
use Rattle.memc_table.specs.Asked.{Asked}
use Rattle.memc_table.specs.Contents.{after_ruling, reply_in, reply_of, ruling_on, table_after}
use Rattle.memc_table.specs.Expiry.{live_at}
use Rattle.memc_table.specs.Ruling.{ruling_of}
use Rattle.memc_table.specs.declared.holding.Holding.{Holding}
use Rattle.memc_table.specs.declared.reply.Reply.{Reply}
use Rattle.memc_table.specs.declared.ruling.Ruling.{Ruling}
use Rattle.memc_table.specs.declared.ruling.Ruling.TheVariants.{Refused, Accepted}
use Rattle.group_message.specs.declared.update.Update.{Update}
use Rattle.group_calls.specs.Turns.{CallName, accepts}
use Rattle.group_calls.specs.declared.decision.Decision.{Decision}
use Rattle.group_calls.specs.declared.decision.Decision.TheVariants as decides
use Rattle.group_calls.specs.declared.event.Answer.{Answer}
use Rattle.group_calls.specs.declared.event.Answer.TheVariants as says
use Rattle.group_calls.specs.declared.event.Cause.TheVariants as cause
use Rattle.group_calls.specs.declared.event.Event.TheVariants.{Ask}
use Rattle.run_alloc.specs.Free.{NoPlace}
use Rattle.law_updates.proofs.Placing.{places_are_best}
use Rattle.law_updates.specs.Placing.{IsPlaced}
use Rattle.group_run.specs.Applying.{head_at, replica_of}
use Rattle.group_run.specs.Asking.{Oldest, act_on, ask_head, ask_process, found_at, found_unless, issued}
use Rattle.group_run.specs.Asking.{oldest_inherited, reply_from, retry_block, ticketed, update_of}
use Rattle.group_run.specs.Causes.{AskCause, CanProceed, FindsNoRun, FindsWindowFull, IsReady, IsServed, IsUp, Leaves}
use Rattle.group_run.specs.Causes.{MissesBlock, NeedsBlock, NeedsPlace, WaitsForInherited, WaitsForKey, home_in}
use Rattle.group_run.specs.Causes.{table_now}
use Rattle.group_run.specs.Deciding.{Found, Missing, decide_blind, decide_waiting, blind_reply, is_get, is_touch}
use Rattle.group_run.specs.Deciding.{outcome_of, ruling_with, run_needed, slot_length, unseen, waits_for, window}
use Rattle.group_run.specs.Free.{is_free, place_for}
use Rattle.group_run.specs.Headline.{LogsAreShort}
use Rattle.group_run.specs.History.{History}
use Rattle.group_run.specs.Leaders.{lost_of, missing_block, rebuilt_bytes}
use Rattle.group_run.specs.Meaning.{Lives, is_dead, process_of}
use Rattle.group_run.specs.Process.{Head, Node, Process}
use Rattle.group_run.specs.Replica.{Replica, last_of, number_on, slot_in}
use Rattle.group_run.specs.World.{AskedCall, World, after, if_up, next_name, process_node, step, treated}
use Rattle.law_moves.specs.State.{State, state_of}
use Rattle.law_moves.specs.State as state
use Rattle.law_moves.proofs.Events.{FramedHistory, up_from}
use Rattle.law_moves.proofs.Reading.{node-here}
use Rattle.law_moves.proofs.Members.{Members, Sits, SitsWhen, knows_lower, seat_of}
use Rattle.law_moves.proofs.Calls.{seat-head}
use Rattle.law_moves.proofs.Keeping.{members_always}
use Rattle.law_histories.proofs.Numbers.{logs_short_always}
use Rattle.law_updates.specs.Fine.{AreSteps}
use Rattle.law_updates.specs.Right.{ruling_in}
use Rattle.law_updates.specs.Store.{Store, StoreFits, held, no_store, store_after}
use Rattle.law_updates.proofs.Histories.{history-fits, steps-take, store-items}
use Rattle.law_updates.proofs.Keys.{OfSlot, each-slot, key-refl}
use Rattle.law_updates.proofs.Rules.{RulesWell, rules-well}
use Rattle.law_log.specs.Book.{Book, book_of, no_book}
use Rattle.law_log.specs.Stands.{HeadStands, Stands}
use Rattle.law_log.proofs.Ties.{Ties}
use Rattle.law_log.proofs.Books.{book-framed, book-history, book-shape, book-world}
use Rattle.law_log.proofs.Logging.{LogsOf, logs_always, some-partition, stands-in}
use Rattle.law_log.proofs.Tables.{home-below, ruling-is}
use Rattle.law_headline.proofs.All.{whole-always}
use Rattle.law_headline.proofs.Promises.{stands-always}
use Rattle.law_answers.specs.Laws.{AsksAlways, AsksHaveCauses, ClearAlways}
use Rattle.law_answers.specs.Rules.{AsksFollowRules, FollowsRules, RulesAlways, held_length}
use Rattle.law_answers.proofs.Ruled.{Agrees, follows}
use Rattle.group_types.specs.declared.process.Partition.{Partition}
use Rattle.group_run.specs.Heading.{partition}
use Rattle.group_calls.specs.declared.event.Event.{Event}
use Rattle.group_run.specs.Headline.{IsRun}
use Rattle.law_updates.specs.Store.{held_in}
use Rattle.law_updates.proofs.Spaces.{length-bytes_at}
use Rattle.group_types.proofs.Eaches.{each-weaker}
use Rattle.law_answers.proofs.Awaited.{both-true, comes-to-be, lost-there, not-rebuilt, rows-rise}
use Rattle.law_answers.proofs.Distinct.{AreDistinct, IsDistinct, distinct_always}
use Rattle.group_types.specs.Each.{Each}
use Rattle.membership.specs.Members.{knows_dead}
use Rattle.law_bytes.proofs.Leading.{sessions_always_fit}
use Rattle.law_bytes.proofs.LeadingWords.{IsFor, SessionsFit, left_by}
use Rattle.law_bytes.proofs.Sound.{enough}
use Rattle.std.proofs.lemmas.List.{length-take-le}
use Rattle.law_answers.proofs.Renumbered.{SameButNumber, SameValue, accepted-alike, numbers-alike, refused-alike}
use Rattle.law_answers.proofs.Oldest.{IsOldest, is-oldest}
use Rattle.law_moves.proofs.Aways.{ready-from, seat-from-ready}
use Rattle.law_answers.proofs.Reasons.{Accepts, Caused, FindsNone, MissesItem, MissesPlace, caused, item_length}
use Rattle.law_log.proofs.Refusals.{same-held}
use Rattle.law_answers.proofs.Unfinished.{unfinished}
use Rattle.law_answers.proofs.Walks.{is-down, is-up, not-down}

-- a block is missed at a parity process alone
record Misses (s : Dimensions) (d : ℕ) (p : Process) (y : ProcessId) (run : Run) (b : ℕ) : Type 0 where
  parity : (i : ℕ) × (y ≡ ParityNode i)
  missing : missing_block s d run p.as_leader ≡ Some b

misses : (s : Dimensions) (d : ℕ) (p : Process) (y : ProcessId) (run : Run) (b : ℕ) → found_at s d p y run ≡ Missing b → Misses s d p y run b
misses s d p (DataNode e) run b is = absurd (cc is)
misses s d p (ParityNode i) run b is = by (missing_block s d run p.as_leader) refl is where
  by : (o : Option ℕ) → missing_block s d run p.as_leader ≡ o → found_unless o (rebuilt_bytes s d run p.as_leader)
      ≡ Missing b → Misses s d p (ParityNode i) run b
  by None none is = absurd (cc is)
  by (Some c) some is = let same : c ≡ b = cc is in record { parity = (i, refl); missing = some ∙ ap Some same }

-- what an op has to wait for
waits-for : (inherited : ℕ) (op : Asked) (m : Option ℕ) (n : ℕ) → waits_for inherited op.act m ≡ Some n → (m ≡ Some n) × (is_get op.act ≡ true → n ≤ inherited)
waits-for inherited op None n is = absurd (cc is)
waits-for inherited op (Some k) n is = by (is_get op.act) refl (nat_le k inherited) refl is where
  by : (g : Bool) → is_get op.act ≡ g → (b : Bool) → nat_le k inherited ≡ b
      → (if g then (if b then Some k else None) else Some k) ≡ Some n → (Some k ≡ Some n)
      × (is_get op.act ≡ true → n ≤ inherited)
  by true gets true test is = (is, λ get. let same : k ≡ n = cc is in let low : k ≤ inherited = grind (arith, common_steps) in omega (arith, same, low))
  by true gets false test is = absurd (cc is)
  by false gets b test is = (is, λ get. absurd (cc (get, gets)))

-- what has to wait doesn't go on
waits-still : (inherited : ℕ) (op : Asked) (n : ℕ) → waits_for inherited op.act (Some n) ≡ None → (is_get op.act ≡ true → n ≤ inherited) → ⊥
waits-still inherited op n none few = by (is_get op.act) refl (nat_le n inherited) refl none where
  by : (g : Bool) → is_get op.act ≡ g → (b : Bool) → nat_le n inherited ≡ b → (if g then (if b then Some n else None) else Some n) ≡ None → ⊥
  by true gets true test none = cc none
  by true gets false test none = let low = few gets in absurd (grind (arith, common_steps))
  by false gets b test none = cc none

-- a value with no free run of its length has some bytes
no-run : (space : ℕ) (r : Replica) (len : ℕ) → place_for space r len ≡ None → (0 < len) × NoPlace space (is_free space r) len
no-run space r zero is = absurd (cc is)
no-run space r (suc len) is = (omega arith, subst (IsPlaced space r (suc len)) is (places_are_best space r (suc len) (omega arith)))

module _ (h : History) (framed : FramedHistory h) (members : Members h.world.shape (state_of h)) (calls : List AskedCall)
    (stands : Stands h.world.shape calls (state_of h))
    (ties : Ties h.world.shape h.settled (table_now h.world)) (short : LogsAreShort h.world)
    (some : 1 ≤ h.world.shape.k) (op : Asked) (p : ProcessId) (pin : IsProcess h.world.shape p)
    (distinct : IsDistinct (process_of h.world p))
    (gathered : is_dead h.world p ≡ false → Each (IsFor h.world.shape (process_of h.world p).known) (process_of h.world p).as_leader.sessions) where
  abbrev w : World
  w = h.world

  abbrev d : ℕ
  d = home_in h.world op

  abbrev r : Replica
  r = replica_of (process_of h.world p) (home_in h.world op)

  abbrev key : List ℕ
  key = key_of op.act

  abbrev settled : List Update
  settled = at [] h.settled (home_in h.world op)

  abbrev store : Store
  store = store_after h.world.shape (home_in h.world op)
      (take (replica_of (process_of h.world p) (home_in h.world op)).applied (at [] h.settled (home_in h.world op)))

  low : d < w.shape.k
  low = home-below (key_of op.act) h.world.shape.k some

  module _ (y : Head) (heads : head_at (process_of h.world p) (home_in h.world op) ≡ Some y)
      (stood : HeadStands h.world.shape calls (at [] h.settled (home_in h.world op)) (home_in h.world op)
      (process_of h.world p) y)
      (up : IsUp h.world p) (ready : IsReady h.world p (home_in h.world op)) (few : state.IsGroupUp h.world.shape (state_of h)) where
    abbrev read : Run → Found
    read = found_at h.world.shape (home_in h.world op) (process_of h.world p) (process_of h.world p).name

    abbrev real : Ruling
    real = ruling_in store (suc (last_of r)) op

    steps : AreSteps w.shape calls d 0 (no_store w.shape) (take r.applied settled)
    steps = steps-take w.shape calls d r.applied 0 (no_store w.shape) settled (stands.settled d low).steps

    fits : StoreFits w.shape store
    fits = history-fits w.shape calls d (take r.applied settled) steps

    items : r.items ≡ store.items
    items = stood.items ∙ sym (store-items w.shape d (no_store w.shape) (take r.applied settled))

    -- the log isn't longer than it may be
    short-log : length r.log ≤ window
    short-log = by ready.rank ready.name where
      by : (rank : ℕ) → p ≡ of_rank d rank → length r.log ≤ window
      by zero is = subst (λ (z : ProcessId). length (replica_of (process_of h.world z) d).log ≤ window) (sym is)
          (short.at_data d (subst (Lives h.world) is (pin, up.process)))
      by (suc i) is = subst (λ (z : ProcessId). length (replica_of (process_of h.world z) d).log ≤ window) (sym is)
          (short.at_parity i d low (subst (Lives h.world) is (pin, up.process)))

    module _ (free : waits_for y.inherited op.act (number_on (replica_of (process_of h.world p) (home_in h.world op)).log (key_of op.act)) ≡ None) where
      -- the table's ruling is the one on what the head has, but for the number
      table-real : ruling_on (table_now w) op ≡ ruling_in store (suc (length settled)) op
      table-real = ruling-is w.shape some h.settled (table_now w) ties op
          ∙ ap (λ (x : Option Holding). ruling_of op.moment (suc (length settled)) op.act (live_at op.moment x))
          (same-held w.shape calls settled d (process_of w p) y stood op free)

      alike : SameButNumber real (ruling_on (table_now w) op)
      alike = subst (SameButNumber real) (sym table-real)
          (numbers-alike op.moment (suc (last_of r)) (suc (length settled)) op.act (live_at op.moment (held store key)))

      -- the table refuses where the head does
      refusal : (reply : Reply) → real ≡ Refused reply → reply ≡ reply_of (table_now w) op
      refusal reply is = sym (ap reply_in (refused-alike real (ruling_on (table_now w) op) reply alike is))

      -- and accepts where the head does
      record TableAccepts (reply : Reply) (leaves : Option Holding) : Type 0 where
        replied : reply_of (table_now h.world) op ≡ reply
        accepted : accepts (reply_of (table_now h.world) op) ≡ true
        handed : reply_from (outcome_of reply) ≡ reply
        left : (k : Holding) → leaves ≡ Some k → (v : Holding) × Leaves h.world op v × (length k.item.value ≡ length v.item.value)

      table-accepts : (reply : Reply) (leaves : Option Holding) → real ≡ Accepted reply leaves → TableAccepts reply leaves
      table-accepts reply leaves is = record {
        replied = replied;
        accepted = ap accepts replied ∙ well.0;
        handed = well.1;
        left = λ k left. of_value k left other.0 other.1 other.2;
      } where
        well : RulesWell (suc (last_of r)) op.act (live_at op.moment (held store key)) (Accepted reply leaves)
        well = subst (RulesWell (suc (last_of r)) op.act (live_at op.moment (held store key))) is
            (rules-well op.moment (suc (last_of r)) op.act (live_at op.moment (held store key)))

        other : (o : Option Holding) × (ruling_on (table_now w) op ≡ Accepted reply o) × SameValue leaves o
        other = accepted-alike real (ruling_on (table_now w) op) reply leaves alike is

        replied : reply_of (table_now w) op ≡ reply
        replied = ap reply_in other.1

        of_value : (k : Holding) → leaves ≡ Some k → (o : Option Holding) → ruling_on (table_now w) op ≡ Accepted reply o → SameValue leaves o
            → (v : Holding) × Leaves w op v × (length k.item.value ≡ length v.item.value)
        of_value k left None ruled same = absurd (subst (λ (x : Option Holding). SameValue x None) left same)
        of_value k left (Some v) ruled same =
            let here : (table_after (table_now w) op).items key ≡ Some v = ap (λ (x : Ruling). (after_ruling (table_now w) key x).items key) ruled
            ∙ ap (λ (b : Bool). if b then Some v else (table_now w).items key) (key-refl key) in
            let values : k.item.value ≡ v.item.value = subst (λ (x : Option Holding). SameValue x (Some v)) left same in
            (v, (ap accepts replied ∙ well.0, here), ap length values)

      -- what is missing here is a block of a parity head
      misses-block : (run : Run) (b : ℕ) → read run ≡ Missing b → MissesBlock w p op run b
      misses-block run b missed = record { parity = (miss.parity.0, sym (members.named p pin) ∙ miss.parity.1); missing = miss.missing } where
        miss : Misses w.shape d (process_of w p) (process_of w p).name run b
        miss = misses w.shape d (process_of w p) (process_of w p).name run b missed

      -- the run for what the head's ruling leaves is the run for what the table leaves
      place-needed : (k : Holding) (run : Run) → is_touch op.act ≡ false → Accepts real (Some k)
          → place_for (space_of w.shape) r (length k.item.value) ≡ Some run → NeedsPlace w p op run
      place-needed k run valued takes place = of_value ((table-accepts takes.0 (Some k) takes.1).left k refl) where
        of_value : (v : Holding) × Leaves w op v × (length k.item.value ≡ length v.item.value) → NeedsPlace w p op run
        of_value (v, leaves, long) = record { written = valued; value = v; leaves = leaves; place = ap (place_for (space_of w.shape) r) (sym long) ∙ place }

      -- and a block that a parity head misses is missing here
      missing-block : (run : Run) (b : ℕ) → MissesBlock w p op run b → read run ≡ Missing b
      missing-block run b misses =
          ap (λ (z : ProcessId). found_at w.shape d (process_of w p) z run) (members.named p pin ∙ misses.parity.1)
          ∙ ap (λ (o : Option ℕ). found_unless o (rebuilt_bytes w.shape d run (process_of w p).as_leader)) misses.missing

      -- the item is as long as the table's
      length-same : item_length r op ≡ held_length ((table_now w).items key)
      length-same = ap (λ (xs : List (List ℕ × Slot)). slot_length (slot_in xs key)) items
          ∙ by (slot_in store.items key) (each-slot (λ x. x.at + x.len ≤ space_of w.shape) key store.items fits.inside)
          ∙ sym (ap held_length (ties.items key ∙ same-held w.shape calls settled d (process_of w p) y stood op free)) where
            by : (o : Option Slot) → OfSlot (λ x. x.at + x.len ≤ space_of w.shape) o → slot_length o ≡ held_length (held_in store.space o)
            by None within = refl
            by (Some slot) within = sym (length-bytes_at slot.at slot.len store.space (let long = fits.long in omega (arith, long, within)))

      well : RulesWell (suc (last_of r)) op.act (live_at op.moment (held store key)) real
      well = rules-well op.moment (suc (last_of r)) op.act (live_at op.moment (held store key))

      -- what the table leaves, the head's ruling leaves
      real-leaves : (v : Holding) → Leaves w op v → (k : Holding) × Accepts real (Some k)
      real-leaves v leaves = by real refl where
        no-value : (reply : Reply) → (o : Option Holding) × (ruling_on (table_now w) op ≡ Accepted reply o) × SameValue None o → ⊥
        no-value reply (Some k, ruled, same) = same
        no-value reply (None, ruled, same) =
            let here : (table_after (table_now w) op).items key ≡ None = ap (λ (x : Ruling). (after_ruling (table_now w) key x).items key) ruled
            ∙ ap (λ (b : Bool). if b then None else (table_now w).items key) (key-refl key) in
            let there = leaves.1 in absurd (cc (here, there))

        by : (x : Ruling) → real ≡ x → (k : Holding) × Accepts real (Some k)
        by (Refused reply) is =
            let refused : accepts reply ≡ false = subst (RulesWell (suc (last_of r)) op.act (live_at op.moment (held store key))) is well in
            let takes = leaves.0 in absurd (cc (refused, takes, ap accepts (refusal reply is)))
        by (Accepted reply (Some k)) is = (k, (reply, is))
        by (Accepted reply None) is = absurd (no-value reply (accepted-alike real (ruling_on (table_now w) op) reply None alike is))

      agrees : Agrees w p op read real
      agrees = record {
        refusal = λ reply is. (refusal reply is, subst (RulesWell (suc (last_of r)) op.act (live_at op.moment (held store key))) is well);
        accepted = λ reply leaves is.
            let table = table-accepts reply leaves is in
            (sym table.replied, ap accepts (sym table.replied) ∙ table.accepted, table.handed);
        left = λ k takes. (table-accepts takes.0 (Some k) takes.1).left k refl;
        leaves = real-leaves;
        long = length-same;
        misses = misses-block;
        missing = missing-block;
        hinders = λ e n waits. absurd (hinders n waits.on_key waits.home waits.inherited);
      } where
        hinders : (n : ℕ) {e : ℕ} → number_on r.log key ≡ Some n → e ≡ d
            → (is_get op.act ≡ true → (z : Head) × (head_at (process_of w p) e ≡ Some z) × (n ≤ z.inherited)) → ⊥
        hinders n {e} on_key home inherited = waits-still y.inherited op n (sym (ap (waits_for y.inherited op.act) on_key) ∙ free) low_one where
          low_one : is_get op.act ≡ true → n ≤ y.inherited
          low_one gets = by (inherited gets) where
            by : (z : Head) × (head_at (process_of w p) e ≡ Some z) × (n ≤ z.inherited) → n ≤ y.inherited
            by (z, is, few) =
                let own : Some z ≡ Some y = sym is ∙ ap (head_at (process_of w p)) home ∙ heads in
                let same : z ≡ y = cc own in
                let e : z.inherited ≡ y.inherited = ap (λ (x : Head). x.inherited) same in omega (arith, e, few)

      needs : (b : ℕ) → MissesItem r op read real b ⊎ MissesPlace (space_of w.shape) r op read real b → NeedsBlock w p op b
      needs b (inl item) = record { run = item.run; needed = inl item.needed; misses = misses-block item.run b item.missing }
      needs b (inr under) =
          record {
            run = under.run;
            needed = inr (place-needed under.value under.run under.written under.takes under.place);
            misses =
                misses-block under.run b under.missing;
          }

      -- a parity head knows that the partition's data process is dead
      home-dead : (i : ℕ) × (p ≡ ParityNode i) → knows_dead (process_of w p).known (DataNode d) ≡ true
      home-dead (i, is) = by (knows_lower (process_of w p).known d i) refl (subst (Sits (process_of w p) d) is (members.sits p d pin up.process low)) where
        by : (b : Bool) → knows_lower (process_of w p).known d i ≡ b
            → SitsWhen b i (seat_of (process_of w p) d) (at 0 (process_of w p).ranks d)
            → knows_dead (process_of w p).known (DataNode d) ≡ true
        by true knows sits = (both-true (knows_dead (process_of w p).known (DataNode d)) _ knows).0
        by false knows sits = absurd (cc (sits.0, seat-head (process_of w p) d y heads))

      block-reason : (after : World) (b : ℕ) → NeedsBlock w p op b → (o : Option Oldest)
          → oldest_inherited (process_of w p) (range_with_len 0 w.shape.k) ≡ o → w.shape ≡ after.shape
          → process_of after p ≡ (retry_block w.shape b o (process_of w p)).step.process
          → AskCause w after p op (retry_block w.shape b o (process_of w p)).answer
      block-reason after b need None is shape same = (
        up,
        ready,
        (
          need,
          comes-to-be w.shape (process_of w p) b d low
              (not-rebuilt w.shape d need.run (process_of w p).as_leader b need.misses.missing)
              (rows-rise w.shape (process_of w p))
              (length-take-le (length (lost_of w.shape (process_of w p))) (left_by w.shape (process_of w p).known)
              (enough w.shape (state_of h) members few p pin up.process)) distinct
              (lost-there w.shape (process_of w p) d low (home-dead need.misses.parity))
              (each-weaker (IsFor w.shape (process_of w p).known) (λ g. g.lost ≡ lost_of w.shape (process_of w p))
              (λ g is. is.lost) (process_of w p).as_leader.sessions (gathered up.process))
              after p same
              (ap (λ (t : Dimensions). t.k) shape),
        ),
      )
      block-reason after b need (Some o) is shape same =
          let oldest : IsOldest (process_of w p) 0 w.shape.k o = is-oldest (process_of w p) w.shape.k 0 o is in (
            up,
            ready,
            inr
                (inr (record {
                  block = b;
                  needed = need;
                  partition = let high = oldest.to in omega (arith, high);
                  has = oldest.has;
                  lowest = λ e below. oldest.lowest e (omega arith) below;
                  oldest = oldest.number;
                })),
          )

      -- no run is free for what the table leaves
      no-space : FindsNone (space_of w.shape) r op read real → FindsNoRun w p op
      no-space finds = by ((table-accepts finds.takes.0 (Some finds.value) finds.takes.1).left finds.value refl) where
        by : (v : Holding) × Leaves w op v × (length finds.value.item.value ≡ length v.item.value) → FindsNoRun w p op
        by (v, leaves, long) =
            let both = no-run (space_of w.shape) r (length v.item.value) (ap (place_for (space_of w.shape) r) (sym long) ∙ finds.none) in
            record { written = finds.written; value = v; leaves = leaves; some = both.0; none = both.1 }

      ticket-reason : (name : CallName) (after : World) (decision : Decision) (u : Update) → u.number ≡ suc (last_of r)
          → accepts (reply_of (table_now w) op) ≡ true → reply_from u.outcome ≡ reply_of (table_now w) op → w.shape ≡ after.shape
          → (b : Bool) → nat_le u.number (replica_of (issued w.shape d y u (process_of w p)).process d).applied ≡ b
          → process_of after p ≡ (ticketed b d u (issued w.shape d y u (process_of w p))).step.process
          → AskCause w after p op (ticketed b d u (issued w.shape d y u (process_of w p))).answer
      ticket-reason name after decision u next takes replied shape true test same = (up, ready, replied)
      ticket-reason name after decision u next takes replied shape false test same = (
        up,
        ready,
        record {
          accepted = takes;
          next = next;
          head = y;
          unfinished = unfinished w.shape d y u (process_of w p) heads next w after p refl (members.named p pin) same test (ap (λ (t : Dimensions). t.m) shape);
        },
      )

      -- what it decided
      act-reason : (name : CallName) (after : World) (decision : Decision) → Caused (space_of w.shape) r op read real decision → w.shape ≡ after.shape
          → process_of after p ≡ (act_on w.shape name op d y (process_of w p) decision).step.process
          → AskCause w after p op (act_on w.shape name op d y (process_of w p) decision).answer
      act-reason name after (decides.Answer reply) is shape same = (up, ready, refusal reply is.0)
      act-reason name after (decides.Retry n) is shape same =
          let table = table-accepts is.takes.0 is.leaves is.takes.1 in
          let most = short-log in
          let least = is.full in
          (up, ready, inr (inl (record { home = refl; accepted = table.accepted; full = omega (arith, most, least); oldest = is.oldest })))
      act-reason name after decides.NoSpace is shape same = (up, ready, no-space is)
      act-reason name after (decides.NeedBlock b) is shape same =
          block-reason after b (needs b is) (oldest_inherited (process_of w p) (range_with_len 0 w.shape.k)) refl shape same
      act-reason name after (decides.Issue body outcome) is shape same =
          let u : Update = update_of name op d body outcome (process_of w p) in
          let table = table-accepts is.reply is.leaves is.ruled in
          ticket-reason name after (decides.Issue body outcome) u refl table.accepted (ap reply_from is.ends ∙ table.handed ∙ sym table.replied) shape
          (nat_le u.number (replica_of (issued w.shape d y u (process_of w p)).process d).applied) refl same

    -- the decision where nothing stands in the way on the key has its reason
    decided : waits_for y.inherited op.act (number_on r.log key) ≡ None → Caused (space_of w.shape) r op read real
        (decide_blind (space_of w.shape) r op read (slot_in r.items key)
        (blind_reply (slot_length (slot_in r.items key))
        (ruling_with r op (slot_in r.items key) (unseen (slot_in r.items key)))))
    decided free =
        caused (space_of w.shape) r store op read fits.long stood.reads (slot_in r.items key)
        (ap (λ (xs : List (List ℕ × Slot)). slot_in xs key) (sym items)) refl
        (subst (λ (xs : List (List ℕ × Slot)). OfSlot (λ x. x.at + x.len ≤ space_of w.shape) (slot_in xs key))
        (sym items) (each-slot (λ x. x.at + x.len ≤ space_of w.shape) key store.items fits.inside))

    -- an update on the key that an op waits for
    waits-here : (n : ℕ) → waits_for y.inherited op.act (number_on r.log key) ≡ Some n → WaitsForKey w p op d n
    waits-here n waits = let on = waits-for y.inherited op (number_on r.log key) n waits in
        record { home = refl; on_key = on.0; inherited = λ gets. (y, heads, on.1 gets) }

    -- what a head answers follows the rules
    pub head-rules : (name : CallName) (o : Option ℕ) → waits_for y.inherited op.act (number_on r.log key) ≡ o
        → FollowsRules w p op (act_on w.shape name op d y (process_of w p) (decide_waiting (space_of w.shape) r op read (slot_in r.items key) o)).answer
    head-rules name None waits = follows w p op y read real (agrees waits) name _ (decided waits)
    head-rules name (Some n) waits = record {
      key = λ e m on. same e m on;
      blind = λ free blind. absurd (free d n (waits-here n waits));
      item = λ free sighted run b needs misses. absurd (free d n (waits-here n waits));
      refusal = λ free can refuses. absurd (free d n (waits-here n waits));
      full = λ free can e m full. absurd (free d n (waits-here n waits));
      space = λ free can room finds. absurd (free d n (waits-here n waits));
      place = λ free can room run b needs misses. absurd (free d n (waits-here n waits));
      issue = λ free can room placed writes takes. absurd (free d n (waits-here n waits));
    } where
      same : (e : Partition) (m : ℕ) → WaitsForKey w p op e.0 m → says.Retry (cause.Pending (partition d) n) ≡ says.Retry (cause.Pending e m)
      same e m on =
          let both : Some n ≡ Some m = sym (waits-here n waits).on_key ∙ on.on_key in
          let number : n ≡ m = cc both in
          (λ i. says.Retry (cause.Pending (partition ((sym on.home) i)) (number i)))

    -- what stands in the way on the key is judged first
    head-reason : (name : CallName) (after : World) → w.shape ≡ after.shape → (o : Option ℕ) → waits_for y.inherited op.act (number_on r.log key) ≡ o
        → process_of after p ≡ (act_on w.shape name op d y (process_of w p) (decide_waiting (space_of w.shape) r op read (slot_in r.items key) o)).step.process
        → AskCause w after p op (act_on w.shape name op d y (process_of w p) (decide_waiting (space_of w.shape) r op read (slot_in r.items key) o)).answer
    head-reason name after shape (Some n) waits same = (up, ready, inl (waits-here n waits))
    head-reason name after shape None waits same = act-reason waits name after _ (decided waits) shape same

  -- what a process makes of the call
  by_head : (name : CallName) (after : World) → w.shape ≡ after.shape → state.IsGroupUp w.shape (state_of h) → IsUp w p
      → (o : Option Head) → head_at (process_of w p) d ≡ o
      → process_of after p ≡ (ask_head w.shape name op d (process_of w p) o).step.process
      → AskCause w after p op (ask_head w.shape name op d (process_of w p) o).answer
  by_head name after shape few up None heads same = (up, λ ready. no_seat (seat-from-ready h members p d pin up.process low ready)) where
    no_seat : (r : ℕ) × (seat_of (process_of w p) d ≡ Some r) → ⊥
    no_seat seat = absurd (cc (seat.1, ap (option_map (λ (y : Head). y.rank)) heads))
  by_head name after shape few up (Some y) heads same =
      head-reason y heads (stands.heads few p d y pin up.process low heads) up
      (ready-from h members p d pin up.process low y.rank (seat-head (process_of w p) d y heads)) few name after shape
      (waits_for y.inherited op.act (number_on r.log key)) refl same

  by_words : (name : CallName) (after : World) → w.shape ≡ after.shape → (down dead : Bool) → (process_node w p).down ≡ down → (process_node w p).dead ≡ dead
      → process_of after p ≡
      (if_up down dead (process_node w p) (treated w.shape (process_node w p) (ask_process w.shape name op (process_of w p)))).node.process
      → AskCause w after p op (if_up down dead (process_node w p) (treated w.shape (process_node w p) (ask_process w.shape name op (process_of w p)))).answer
  by_words name after shape true dead isdown isdead same = is-down w h.settled framed p pin isdown
  by_words name after shape false true isdown isdead same = (not-down w h.settled framed p pin isdown, isdead)
  by_words name after shape false false isdown isdead same =
      by_head name after shape (up_from w.shape w.nodes h.settled framed p pin isdown)
      (is-up w h.settled framed p pin isdown isdead) (head_at (process_of w p) d) refl same

  -- what a head that is ready answers follows the rules
  ruled-head : (name : CallName) → state.IsGroupUp w.shape (state_of h) → IsUp w p → IsReady w p d → (o : Option Head) → head_at (process_of w p) d ≡ o
      → FollowsRules w p op (ask_head w.shape name op d (process_of w p) o).answer
  ruled-head name few up ready None heads = absurd (no_seat (seat-from-ready h members p d pin up.process low ready)) where
    no_seat : (r : ℕ) × (seat_of (process_of w p) d ≡ Some r) → ⊥
    no_seat seat = absurd (cc (seat.1, ap (option_map (λ (y : Head). y.rank)) heads))
  ruled-head name few up ready (Some y) heads =
      head-rules y heads (stands.heads few p d y pin up.process low heads) up ready few name (waits_for y.inherited op.act (number_on r.log key)) refl

  ruled-words : (name : CallName) → IsUp w p → IsReady w p d → (down dead : Bool) → (process_node w p).down ≡ down → (process_node w p).dead ≡ dead
      → FollowsRules w p op (if_up down dead (process_node w p) (treated w.shape (process_node w p) (ask_process w.shape name op (process_of w p)))).answer
  ruled-words name up ready true dead isdown isdead = absurd (up.group (is-down w h.settled framed p pin isdown))
  ruled-words name up ready false true isdown isdead = absurd (let lives = up.process in cc (lives, isdead))
  ruled-words name up ready false false isdown isdead =
      ruled-head name (up_from w.shape w.nodes h.settled framed p pin isdown) up ready (head_at (process_of w p) d) refl

  pub ruled : (caller : ℕ) → IsUp w p → IsReady w p d → FollowsRules w p op (step w (Ask caller op p)).turn.answer
  ruled caller up ready = ruled-words (next_name w caller) up ready (process_node w p).down (process_node w p).dead refl refl

  pub asked : (caller : ℕ) → AskCause w (step w (Ask caller op p)).world p op (step w (Ask caller op p)).turn.answer
  asked caller = by_words (next_name w caller) (step w (Ask caller op p)).world refl (process_node w p).down (process_node w p).dead refl refl
      (ap (λ (n : Node). n.process)
      (node-here w.shape w.nodes p
      (if_up (process_node w p).down (process_node w p).dead (process_node w p)
      (treated w.shape (process_node w p) (ask_process w.shape (next_name w caller) op (process_of w p)))).node))

both-always : (s : Dimensions) (es : List Event) → IsRun s es → AsksHaveCauses (after s es) × AsksFollowRules (after s es)
both-always s es run =
    let b : Book = book_of s es in
    let shape : b.history.world.shape ≡ s = book-shape s es in
    let members : Members b.history.world.shape (state_of b.history) = subst (λ (t : Dimensions). Members t (state_of b.history)) (sym shape)
    (subst (λ (x : History). Members s (state_of x)) (sym (book-history (no_book s) es)) (members_always s es run)) in
    let logs : LogsOf b = logs_always s (stands-always s (whole-always s)) es run in
    let short : LogsAreShort b.history.world = subst LogsAreShort (sym (book-world s es)) (logs_short_always s es run) in
    let distinct : AreDistinct b.history.world.shape (state_of b.history) = subst (λ (t : Dimensions). AreDistinct t (state_of b.history)) (sym shape)
    (subst (λ (x : History). AreDistinct s (state_of x)) (sym (book-history (no_book s) es)) (distinct_always s es run)) in
    let gathered : SessionsFit b.history.world.shape (state_of b.history) = subst (λ (t : Dimensions). SessionsFit t (state_of b.history)) (sym shape)
    (subst (λ (x : History). SessionsFit s (state_of x)) (sym (book-history (no_book s) es)) (sessions_always_fit s es run)) in
    let stands : Stands b.history.world.shape b.issued (state_of b.history) = stands-in s (stands-always s (whole-always s)) es run in
    let some : 1 ≤ b.history.world.shape.k = some-partition s (stands-always s (whole-always s)) es run in
    subst (λ (w : World). AsksHaveCauses w × AsksFollowRules w) (book-world s es) (
      (λ caller op p may. asked b.history (book-framed s es run) members b.issued stands logs.stands.ties short some op
          p may.1 (distinct p may.1) (gathered p may.1) caller),
      (λ caller op p may up ready. ruled b.history (book-framed s es run) members b.issued stands logs.stands.ties short
          some op p may.1 (distinct p may.1) (gathered p may.1) caller up ready),
    )

pub asks_always : AsksAlways
asks_always s es run = (both-always s es run).0

pub rules_always : RulesAlways
rules_always s es run = (both-always s es run).1

-- a call that nothing stands in the way of
served : (w after : World) (p : ProcessId) (op : Asked) (answer : Answer) → CanProceed w p op → AskCause w after p op answer → IsServed w op answer
served w after p op says.Down clear reason = clear.up.group reason
served w after p op says.Lost clear reason = absurd (let lives = clear.up.process in cc (lives, reason.1))
served w after p op says.Moved clear reason = reason.1 clear.ready
served w after p op (says.Reply reply) clear reason = reason.2
served w after p op (says.Ticket n) clear reason = tt
served w after p op says.NoSpace clear reason = clear.space reason.2
served w after p op (says.Retry (cause.Block b)) clear reason = clear.blocks b reason.2.0
served w after p op (says.Retry (cause.Pending d n)) clear reason = by reason.2 where
  by : WaitsForKey w p op d.0 n ⊎ FindsWindowFull w p op d.0 n ⊎ WaitsForInherited w p op d.0 n → ⊥
  by (inl on_key) = absurd (let none = clear.key in let found = on_key.on_key in cc (none, found))
  by (inr (inl full)) = absurd (let few = clear.window in let all = full.full in omega (arith, few, all))
  by (inr (inr waits)) = clear.blocks waits.block waits.needed
served w after p op says.NotYet clear reason = reason.2
served w after p op says.Idle clear reason = reason.2
served w after p op says.Stranger clear reason = reason.2
served w after p op says.Done clear reason = reason.2
served w after p op says.AlreadyDead clear reason = reason.2
served w after p op says.Gone clear reason = reason.2
served w after p op (says.Stale n) clear reason = reason.2

pub clear_always : ClearAlways
clear_always s es run caller op p may clear =
    served (after s es) (step (after s es) (Ask caller op p)).world p op
    (step (after s es) (Ask caller op p)).turn.answer clear (asks_always s es run caller op p may)
