-- What a head decided, by the rules in their order, where nothing stands in the way on the key.
use Rattle.std.proofs.Common.{ℕ, zero, suc, ◌≡◌, ◌+◌, ◌<◌, ◌≤◌, nat_lt, Bool, true, false, List, length, Option, Some}
use Rattle.std.proofs.Common.{None, ◌⊎◌, inl, inr, if◌then◌else◌, refl, sym, ap, subst, ◌∙◌, arith}
use Rattle.std.proofs.lemmas.Grind.{common_steps}
use Rattle.std.proofs.lemmas.Bool.{cases_lt}
use Rattle.std.specs.List.{range_with_len}
use Rattle.group_types.specs.Dimensions.{Dimensions, space_of}
use Rattle.group_types.specs.declared.process.Partition.{Partition}
use Rattle.group_types.specs.declared.process.ProcessId.{ProcessId}
use Rattle.group_types.specs.declared.run.Run.{Run}
use Rattle.memc_table.specs.Act.{key_of}
use Rattle.memc_table.specs.Asked.{Asked}
use Rattle.memc_table.specs.Contents.{reply_of, table_after}
use Rattle.memc_table.specs.declared.holding.Holding.{Holding}
use Rattle.memc_table.specs.declared.reply.Reply.{Reply}
use Rattle.memc_table.specs.declared.ruling.Ruling.{Ruling}
use Rattle.memc_table.specs.declared.ruling.Ruling.TheVariants.{Refused, Accepted}
use Rattle.run_alloc.specs.Free.{NoPlace}
use Rattle.group_calls.specs.Turns.{CallName, accepts}
use Rattle.group_calls.specs.declared.decision.Decision.{Decision}
use Rattle.group_calls.specs.declared.decision.Decision.TheVariants as decides
use Rattle.group_calls.specs.declared.event.Answer.{Answer}
use Rattle.group_calls.specs.declared.event.Answer.TheVariants as says
use Rattle.group_calls.specs.declared.event.Cause.TheVariants as cause
use Rattle.group_run.specs.Applying.{head_at, replica_of}
use Rattle.group_run.specs.Asking.{Oldest, act_on, inherited_or, issued, oldest_inherited, reply_from, retry_block, ticketed, update_of}
use Rattle.group_run.specs.Heading.{partition}
use Rattle.group_message.specs.declared.update.Outcome.{Outcome}
use Rattle.group_message.specs.declared.update.Update.{Update}
use Rattle.group_run.specs.Causes.{FindsNoRun, FindsWindowFull, HasInherited, Leaves, MissesBlock, NeedsItem}
use Rattle.group_run.specs.Causes.{NeedsPlace, WaitsForKey, home_in, replica_for, table_now}
use Rattle.group_run.specs.Deciding.{Found, Missing, is_blind, is_touch, outcome_of, run_needed, window}
use Rattle.group_run.specs.Free.{is_free, place_for}
use Rattle.group_run.specs.Meaning.{process_of}
use Rattle.group_run.specs.Process.{Head, Process}
use Rattle.group_run.specs.Replica.{Replica, last_of, slot_in}
use Rattle.group_run.specs.World.{World}
use Rattle.law_updates.specs.Placing.{IsPlaced}
use Rattle.law_updates.proofs.Placing.{places_are_best}
use Rattle.law_answers.specs.Rules.{CanRead, CanWrite, FollowsRules, HasWindow, IsIssued, IsOldestInherited}
use Rattle.law_answers.specs.Rules.{IsUnhindered, Refuses, RefusesBlindly, WaitsForBlock, held_length}
use Rattle.law_answers.proofs.Oldest.{IsOldest, is-oldest}
use Rattle.law_answers.proofs.Reasons.{Accepts, Caused, FindsFull, FindsNone, HasPlace, Issues, MissesItem, MissesPlace, Readable, item_length}

-- where a place is found there is one
place-found : (space : ℕ) (r : Replica) (len : ℕ) (run : Run) → 0 < len → place_for space r len ≡ Some run → NoPlace space (is_free space r) len → ⊥
place-found space r len run some is none = by (subst (IsPlaced space r len) is (places_are_best space r len (omega (arith, some)))) where
  by : IsPlaced space r len (Some run) → ⊥
  by (sized, best) = let low = none run.at best.0 best.1.run in let high = best.1.fits in absurd (omega (arith, low, high))

-- where none is the oldest, nothing inherited is unfinished
none-inherited : (p : Process) (n a : ℕ) → oldest_inherited p (range_with_len a n) ≡ None → (d : ℕ) → a ≤ d → d < a + n → ¬ (HasInherited p d)
none-inherited p zero a none d low high has = absurd (omega (arith, low, high))
none-inherited p (suc n) a none d low high has = by (head_at p a) refl none (none-inherited p n (a + 1)) where
  here : (o : Option Head) → head_at p a ≡ o → inherited_or p a o (oldest_inherited p (range_with_len (a + 1) n)) ≡ None → a ≡ d → ⊥
  here None heads none same = let there : head_at p a ≡ Some has.0 = ap (head_at p) same ∙ has.1 in absurd (cc (heads, there))
  here (Some h) heads none same = waits (nat_lt (replica_of p a).applied h.inherited) refl none where
    own : h ≡ has.0
    own = let there : head_at p a ≡ Some has.0 = ap (head_at p) same ∙ has.1 in cc (heads, there)

    low-there : (replica_of p a).applied < h.inherited
    low-there =
        let e : (replica_of p a).applied ≡ (replica_of p d).applied = ap (λ (x : ℕ). (replica_of p x).applied) same in
        let f : h.inherited ≡ has.0.inherited = ap (λ (x : Head). x.inherited) own in
        let less = has.2 in omega (arith, e, f, less)

    waits : (b : Bool) → nat_lt (replica_of p a).applied h.inherited ≡ b
        → (if b then Some (record { partition = a; number = suc (replica_of p a).applied }) else oldest_inherited p (range_with_len (a + 1) n)) ≡ None → ⊥
    waits true test none = cc none
    waits false test none = let less = low-there in absurd (grind (arith, common_steps))

  later : (o : Option Head) → inherited_or p a o (oldest_inherited p (range_with_len (a + 1) n)) ≡ None → oldest_inherited p (range_with_len (a + 1) n) ≡ None
  later None none = none
  later (Some h) none = by-test (nat_lt (replica_of p a).applied h.inherited) none where
    by-test : (b : Bool)
        → (if b then Some (record { partition = a; number = suc (replica_of p a).applied }) else oldest_inherited p
        (range_with_len (a + 1) n)) ≡ None
        → oldest_inherited p (range_with_len (a + 1) n) ≡ None
    by-test true none = cc none
    by-test false none = none

  by : (o : Option Head) → head_at p a ≡ o → inherited_or p a o (oldest_inherited p (range_with_len (a + 1) n)) ≡ None
      → (oldest_inherited p (range_with_len (a + 1) n) ≡ None → (d : ℕ) → a + 1 ≤ d → d < a + 1 + n → ¬ (HasInherited p d)) → ⊥
  by o heads none rest = cases (cases_lt a d) where
    cases : (a < d) ⊎ (d ≤ a) → ⊥
    cases (inl above) = rest (later o none) d (omega (arith, above)) (omega (arith, high)) has
    cases (inr not_above) = here o heads none (omega (arith, low, not_above))

module _ (w : World) (p : ProcessId) (op : Asked) where
  -- a block that has to be rebuilt
  pub waits-for-block : (b : ℕ) (o : Option Oldest) → oldest_inherited (process_of w p) (range_with_len 0 w.shape.k) ≡ o
      → WaitsForBlock w p b (retry_block w.shape b o (process_of w p)).answer
  waits-for-block b None is = record {
    inherited = λ d n oldest.
        absurd (none-inherited (process_of w p) w.shape.k 0 is d.0 (omega arith) (let low = oldest.partition in
        omega (arith, low)) oldest.has);
    none = λ none. refl;
  }
  waits-for-block b (Some o) is = record {
    inherited = λ d n oldest. same d n oldest;
    none = λ none. absurd (none o.partition (let high = first.to in omega (arith, high)) first.has);
  } where
    first : IsOldest (process_of w p) 0 w.shape.k o
    first = is-oldest (process_of w p) w.shape.k 0 o is

    same : (d : Partition) (n : ℕ) → IsOldestInherited w p d.0 n → says.Retry (cause.Pending (partition o.partition) o.number) ≡ says.Retry (cause.Pending d n)
    same d n oldest = by (cases_lt o.partition d.0) (cases_lt d.0 o.partition) where
      one : o.partition ≡ d.0 → says.Retry (cause.Pending (partition o.partition) o.number) ≡ says.Retry (cause.Pending d n)
      one e =
          let number : o.number ≡ n = first.number ∙ ap (λ (x : ℕ). suc (replica_of (process_of w p) x).applied) e ∙ sym oldest.oldest in
          (λ i. says.Retry (cause.Pending (partition (e i)) (number i)))

      by : (o.partition < d.0) ⊎ (d.0 ≤ o.partition) → (d.0 < o.partition) ⊎ (o.partition ≤ d.0)
          → says.Retry (cause.Pending (partition o.partition) o.number) ≡ says.Retry (cause.Pending d n)
      by (inl less) other = absurd (oldest.lowest o.partition less first.has)
      by (inr most) (inl less) = absurd (first.lowest d.0 (omega arith) less oldest.has)
      by (inr most) (inr least) = one (omega (arith, most, least))

-- what the table makes of the op, and what the head's ruling says of it
pub record Agrees (w : World) (p : ProcessId) (op : Asked) (read : Run → Found) (real : Ruling) : Type 0 where
  pub refusal : (reply : Reply) → real ≡ Refused reply → (reply ≡ reply_of (table_now w) op) × (accepts reply ≡ false)
  pub accepted : (reply : Reply) (leaves : Option Holding) → real ≡ Accepted reply leaves
      → (reply ≡ reply_of (table_now w) op) × (accepts reply ≡ true) × (reply_from (outcome_of reply) ≡ reply)
  pub left : (k : Holding) → Accepts real (Some k) → (v : Holding) × Leaves w op v × (length k.item.value ≡ length v.item.value)
  pub leaves : (v : Holding) → Leaves w op v → (k : Holding) × Accepts real (Some k)
  pub long : item_length (replica_for w p op) op ≡ held_length ((table_now w).items (key_of op.act))
  pub misses : (run : Run) (b : ℕ) → read run ≡ Missing b → MissesBlock w p op run b
  pub missing : (run : Run) (b : ℕ) → MissesBlock w p op run b → read run ≡ Missing b
  pub hinders : (d n : ℕ) → ¬ (WaitsForKey w p op d n)

module _ (w : World) (p : ProcessId) (op : Asked) (y : Head) (read : Run → Found) (real : Ruling) (agrees : Agrees w p op read real) where
  abbrev r : Replica
  r = replica_for w p op

  abbrev space : ℕ
  space = space_of w.shape

  -- a ruling is a refusal, or not
  not-both : Refuses w op → (leaves : Option Holding) → Accepts real leaves → ⊥
  not-both refuses leaves (reply, is) =
      let table = agrees.accepted reply leaves is in
      absurd (cc (refuses, table.1, ap accepts table.0))

  not-taken : accepts (reply_of (table_now w) op) ≡ true → (reply : Reply) → real ≡ Refused reply → ⊥
  not-taken takes reply is = let table = agrees.refusal reply is in absurd (cc (takes, table.1, ap accepts table.0))

  -- what can't be read is missing
  not-read : Readable r op read → (run : Run) (b : ℕ) → NeedsItem w p op run → MissesBlock w p op run b → ⊥
  not-read can run b needs misses = can run b needs (agrees.missing run b misses)

  not-there : CanRead w p op → (b : ℕ) → MissesItem r op read real b → ⊥
  not-there can b item = can item.run b item.needed (agrees.misses item.run b item.missing)

  -- the table leaves one value
  one-left : (u v : Holding) → Leaves w op u → Leaves w op v → u ≡ v
  one-left u v left other = let a = left.1 in let b = other.1 in cc (a, b)

  place-one : (k : Holding) → Accepts real (Some k) → (v : Holding) → Leaves w op v
      → place_for space r (length k.item.value) ≡ place_for space r (length v.item.value)
  place-one k takes v leaves = by (agrees.left k takes) where
    by : (u : Holding) × Leaves w op u × (length k.item.value ≡ length u.item.value)
        → place_for space r (length k.item.value) ≡ place_for space r (length v.item.value)
    by (u, left, long) = ap (place_for space r) (long ∙ ap (λ (x : Holding). length x.item.value) (one-left u v left leaves))

  -- a run that was found leaves no room for want of one
  not-full-space : (k : Holding) → Accepts real (Some k) → (run : Run) → place_for space r (length k.item.value) ≡ Some run → FindsNoRun w p op → ⊥
  not-full-space k takes run place finds = place-found space r (length finds.value.item.value) run finds.some
      (sym (place-one k takes finds.value finds.leaves) ∙ place) finds.none

  finds-none : FindsNone space r op read real → FindsNoRun w p op
  finds-none finds = by (agrees.left finds.value finds.takes) where
    by : (v : Holding) × Leaves w op v × (length finds.value.item.value ≡ length v.item.value) → FindsNoRun w p op
    by (v, leaves, long) =
        let none : place_for space r (length v.item.value) ≡ None = ap (place_for space r) (sym long) ∙ finds.none in
        let both = no-run (length v.item.value) none in
        record { written = finds.written; value = v; leaves = leaves; some = both.0; none = both.1 }
      where
        no-run : (len : ℕ) → place_for space r len ≡ None → (0 < len) × NoPlace space (is_free space r) len
        no-run zero is = absurd (cc is)
        no-run (suc len) is = (omega arith, subst (IsPlaced space r (suc len)) is (places_are_best space r (suc len) (omega arith)))

  module _ (name : CallName) where
    abbrev answer : Decision → Answer
    answer decision = (act_on w.shape name op (home_in w op) y (process_of w p) decision).answer

    refused : (reply : Reply) → real ≡ Refused reply → (is_blind (item_length r op) reply ≡ true) ⊎ Readable r op read → FollowsRules w p op (says.Reply reply)
    refused reply is sees = record {
      key = λ d n waits. absurd (agrees.hinders d.0 n waits);
      blind = λ free blind. ap says.Reply replied;
      item = λ free sighted run b needs misses. absurd (item sees sighted run b needs misses);
      refusal = λ free can refuses. ap says.Reply replied;
      full = λ free can d n full. absurd (not-taken full.accepted reply is);
      space = λ free can room finds. absurd (not-taken finds.leaves.0 reply is);
      place = λ free can room run b needs misses. absurd (not-taken needs.leaves.0 reply is);
      issue = λ free can room placed writes takes. absurd (not-taken takes reply is);
    } where
      replied : reply ≡ reply_of (table_now w) op
      replied = (agrees.refusal reply is).0

      refuses : Refuses w op
      refuses = ap accepts (sym replied) ∙ (agrees.refusal reply is).1

      item : (is_blind (item_length r op) reply ≡ true) ⊎ Readable r op read → ¬ (RefusesBlindly w op)
          → (run : Run) (b : ℕ) → NeedsItem w p op run → MissesBlock w p op run b → ⊥
      item (inl blind) sighted run b needs misses = sighted (refuses, (λ i. is_blind ((sym agrees.long) i) ((sym replied) i)) ∙ blind)
      item (inr can) sighted run b needs misses = not-read can run b needs misses

    full : (n : ℕ) → FindsFull r op read real n → FollowsRules w p op (answer (decides.Retry n))
    full n finds = record {
      key = λ d m waits. absurd (agrees.hinders d.0 m waits);
      blind = λ free blind. absurd (not-both blind.0 finds.leaves finds.takes);
      item = λ free sighted run b needs misses. absurd (not-read finds.reads run b needs misses);
      refusal = λ free can refuses. absurd (not-both refuses finds.leaves finds.takes);
      full = λ free can d m full. same d m full;
      space = λ free can room none. absurd (let most = finds.full in omega (arith, room, most));
      place = λ free can room run b needs misses. absurd (let most = finds.full in omega (arith, room, most));
      issue = λ free can room placed writes takes. absurd (let most = finds.full in omega (arith, room, most));
    } where
      same : (d : Partition) (m : ℕ) → FindsWindowFull w p op d.0 m → says.Retry (cause.Pending (partition (home_in w op)) n) ≡ says.Retry (cause.Pending d m)
      same d m full =
          let number : n ≡ m = finds.oldest ∙ sym full.oldest in
          (λ i. says.Retry (cause.Pending (partition ((sym full.home) i)) (number i)))

    none : FindsNone space r op read real → FollowsRules w p op says.NoSpace
    none finds = record {
      key = λ d m waits. absurd (agrees.hinders d.0 m waits);
      blind = λ free blind. absurd (not-both blind.0 (Some finds.value) finds.takes);
      item = λ free sighted run b needs misses. absurd (not-read finds.reads run b needs misses);
      refusal = λ free can refuses. absurd (not-both refuses (Some finds.value) finds.takes);
      full = λ free can d m full. absurd (let few = finds.few in let most = full.full in omega (arith, few, most));
      space = λ free can room none. refl;
      place = λ free can room run b needs misses.
          absurd (let a = place-one finds.value finds.takes needs.value needs.leaves in let b = needs.place in
          let c = finds.none in cc (a, b, c));
      issue = λ free can room placed writes takes. absurd (placed (finds-none finds));
    }

    waits-item : (b : ℕ) (answer : Answer) → MissesItem r op read real b → WaitsForBlock w p b answer → FollowsRules w p op answer
    waits-item b answer item waits = record {
      key = λ d m waits. absurd (agrees.hinders d.0 m waits);
      blind = λ free blind. absurd (seen blind);
      item = λ free sighted run c needs misses. subst (λ (x : ℕ). WaitsForBlock w p x answer) (one-block run c needs misses) waits;
      refusal = λ free can refuses. absurd (not-there can b item);
      full = λ free can d m full. absurd (not-there can b item);
      space = λ free can room none. absurd (not-there can b item);
      place = λ free can room run b' needs misses. absurd (not-there can b item);
      issue = λ free can room placed writes takes. absurd (not-there can b item);
    } where
      one-block : (run : Run) (c : ℕ) → NeedsItem w p op run → MissesBlock w p op run c → b ≡ c
      one-block run c needs misses =
          let own : Some item.run ≡ Some run = sym item.needed ∙ needs in
          let same : item.run ≡ run = cc own in
          let both : Missing b ≡ Missing c = sym item.missing ∙ ap read same ∙ agrees.missing run c misses in
          cc both

      seen : RefusesBlindly w op → ⊥
      seen (refuses, blind) = by real refl where
        by : (x : Ruling) → real ≡ x → ⊥
        by (Refused reply) is =
            let replied = (agrees.refusal reply is).0 in
            item.seeing reply is ((λ i. is_blind (agrees.long i) (replied i)) ∙ blind)
        by (Accepted reply leaves) is = not-both refuses leaves (reply, is)

    waits-place : (b : ℕ) (answer : Answer) → MissesPlace space r op read real b → WaitsForBlock w p b answer → FollowsRules w p op answer
    waits-place b answer under waits = record {
      key = λ d m waits. absurd (agrees.hinders d.0 m waits);
      blind = λ free blind. absurd (not-both blind.0 (Some under.value) under.takes);
      item = λ free sighted run c needs misses. absurd (not-read under.reads run c needs misses);
      refusal = λ free can refuses. absurd (not-both refuses (Some under.value) under.takes);
      full = λ free can d m full. absurd (let few = under.few in let most = full.full in omega (arith, few, most));
      space = λ free can room none. absurd (not-full-space under.value under.takes under.run under.place none);
      place = λ free can room run c needs misses. subst (λ (x : ℕ). WaitsForBlock w p x answer) (one-block run c needs misses) waits;
      issue = λ free can room placed writes takes. absurd (unwritten writes);
    } where
      one-block : (run : Run) (c : ℕ) → NeedsPlace w p op run → MissesBlock w p op run c → b ≡ c
      one-block run c needs misses =
          let own : Some under.run ≡ Some run = sym under.place ∙ place-one under.value under.takes needs.value needs.leaves ∙ needs.place in
          let same : under.run ≡ run = cc own in
          let both : Missing b ≡ Missing c = sym under.missing ∙ ap read same ∙ agrees.missing run c misses in
          cc both

      unwritten : CanWrite w p op → ⊥
      unwritten writes = by (agrees.left under.value under.takes) where
        by : (v : Holding) × Leaves w op v × (length under.value.item.value ≡ length v.item.value) → ⊥
        by (v, leaves, long) =
            writes under.run b
            (record {
              written = under.written;
              value = v;
              leaves = leaves;
              place = ap (place_for space r) (sym long)
                  ∙ under.place;
            }) (agrees.misses under.run b under.missing)

    issued-so : (outcome : Outcome) (answer : Answer) → Issues space r op read real outcome → IsIssued w p op answer → FollowsRules w p op answer
    issued-so outcome answer issues is = record {
      key = λ d m waits. absurd (agrees.hinders d.0 m waits);
      blind = λ free blind. absurd (not-both blind.0 issues.leaves (issues.reply, issues.ruled));
      item = λ free sighted run c needs misses. absurd (not-read issues.reads run c needs misses);
      refusal = λ free can refuses. absurd (not-both refuses issues.leaves (issues.reply, issues.ruled));
      full = λ free can d m full. absurd (let few = issues.few in let most = full.full in omega (arith, few, most));
      space = λ free can room none. absurd (in-space none);
      place = λ free can room run c needs misses. absurd (written run c needs misses);
      issue = λ free can room placed writes takes. is;
    } where
      same-leaves : (v : Holding) → Leaves w op v → (k : Holding) × (issues.leaves ≡ Some k) × Accepts real (Some k)
      same-leaves v leaves = by (agrees.leaves v leaves) where
        by : (k : Holding) × Accepts real (Some k) → (k : Holding) × (issues.leaves ≡ Some k) × Accepts real (Some k)
        by (k, (reply, is)) =
            let both : Accepted issues.reply issues.leaves ≡ Accepted reply (Some k) = sym issues.ruled ∙ is in
            (k, cc both, (reply, is))

      in-space : FindsNoRun w p op → ⊥
      in-space none = by (same-leaves none.value none.leaves) where
        by : (k : Holding) × (issues.leaves ≡ Some k) × Accepts real (Some k) → ⊥
        by (k, left, takes) = let placed = issues.place k left none.written in not-full-space k takes placed.0 placed.1 none

      written : (run : Run) (c : ℕ) → NeedsPlace w p op run → MissesBlock w p op run c → ⊥
      written run c needs misses = by (same-leaves needs.value needs.leaves) where
        by : (k : Holding) × (issues.leaves ≡ Some k) × Accepts real (Some k) → ⊥
        by (k, left, takes) =
            let placed = issues.place k left needs.written in
            let own : Some placed.0 ≡ Some run = sym placed.1 ∙ place-one k takes needs.value needs.leaves ∙ needs.place in
            let same : placed.0 ≡ run = cc own in
            placed.2 c (ap read same ∙ agrees.missing run c misses)

    -- an update that was issued is answered so
    answered-so : (u : Update) → u.number ≡ suc (last_of r) → reply_from u.outcome ≡ reply_of (table_now w) op
        → (b : Bool) → IsIssued w p op
        (ticketed b (home_in w op) u (issued w.shape (home_in w op) y u (process_of w p))).answer
    answered-so u next replied true = inr (ap says.Reply replied)
    answered-so u next replied false = inl (ap says.Ticket next)

    -- each decision
    pub follows : (decision : Decision) → Caused space r op read real decision → FollowsRules w p op (answer decision)
    follows (decides.Answer reply) is = refused reply is.0 is.1
    follows (decides.Retry n) is = full n is
    follows decides.NoSpace is = none is
    follows (decides.NeedBlock b) (inl item) =
        waits-item b _ item (waits-for-block w p op b (oldest_inherited (process_of w p) (range_with_len 0 w.shape.k)) refl)
    follows (decides.NeedBlock b) (inr under) =
        waits-place b _ under (waits-for-block w p op b (oldest_inherited (process_of w p) (range_with_len 0 w.shape.k)) refl)
    follows (decides.Issue body outcome) is =
        let table = agrees.accepted is.reply is.leaves is.ruled in
        issued-so outcome _ is (answered-so (update_of name op (home_in w op) body outcome (process_of w p)) refl (ap reply_from is.ends ∙ table.2 ∙ table.0) _)
