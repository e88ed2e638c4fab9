-- What is handed out of a call later is the reply of a settled update.
use Rattle.std.proofs.Common.{ℕ, zero, suc, ◌≡◌, ◌+◌, ◌<◌, ◌≤◌, ◌==◌, nat_le, nat_lt, Bool, true, false, ◌&&◌, List, []}
use Rattle.std.proofs.Common.{◌∷◌, Option, Some, None, if◌then◌else◌, refl, sym, ap, subst, ◌∙◌, arith}
use Rattle.std.specs.Prelude.{Contains, find}
use Rattle.std.specs.List.{range_with_len}
use Rattle.std.proofs.lemmas.Grind.{common_steps}
use Rattle.group_types.specs.Dimensions.{Dimensions}
use Rattle.group_types.specs.Lists.{at}
use Rattle.group_types.specs.Names.{IsProcess}
use Rattle.group_types.specs.declared.process.ProcessId.{ProcessId}
use Rattle.memc_table.specs.declared.reply.Reply.{Reply}
use Rattle.group_message.specs.declared.kept.Kept.{Kept}
use Rattle.group_message.specs.declared.update.Outcome.{Outcome}
use Rattle.group_message.specs.declared.update.Update.{Update}
use Rattle.group_calls.specs.Turns.{CallName}
use Rattle.group_calls.specs.Within.{Fetches}
use Rattle.group_calls.specs.declared.event.Answer.{Answer}
use Rattle.group_calls.specs.declared.event.Answer.TheVariants as says
use Rattle.group_calls.specs.declared.event.Event.{Event}
use Rattle.group_calls.specs.declared.event.Event.TheVariants.{Ask, Collect, Deliver, Fail, Flush, Trace}
use Rattle.law_moves.proofs.Events.{FramedHistory, up_from}
use Rattle.law_moves.specs.State.{State, state_of}
use Rattle.group_run.specs.Applying.{head_at, held_at, replica_of}
use Rattle.group_run.specs.Asking.{collect_from, collect_held, fate_from, fate_of, fate_unless, gone_or, handed_out, is_adopted, is_call, is_in_log, reply_from}
use Rattle.group_run.specs.Headline.{MayCome}
use Rattle.group_run.specs.History.{History}
use Rattle.group_run.specs.Process.{Head, Held, Process}
use Rattle.group_run.specs.World.{group_step, if_up, process_node, unchanged}
use Rattle.law_log.specs.Book.{Book}
use Rattle.law_log.specs.Stands.{IsSettledAs}
use Rattle.law_log.proofs.Asks.{not-reply, same-reply}
use Rattle.law_log.proofs.Calls.{Acts, Answers, Idle, call-comes}
use Rattle.law_log.proofs.Fates.{kept-settled}
use Rattle.law_log.proofs.Logging.{StandsIn, idle-no-reply}

-- the one that was found passes the test
found-passes : (test : Held → Bool) (xs : List Held) (x : Held) → find test xs ≡ Some x → Contains xs x × (test x ≡ true)
found-passes test [] x is = absurd (cc is)
found-passes test (y ∷ ys) x is = by (test y) refl is (found-passes test ys x) where
  by : (b : Bool) → test y ≡ b → (if b then Some y else find test ys) ≡ Some x
      → (find test ys ≡ Some x → Contains ys x × (test x ≡ true)) → Contains (y ∷ ys) x × (test x ≡ true)
  by true passes is later = let same : y ≡ x = ap (λ (o : Option Held). elim o [ None ↦ y | Some z ↦ z ]) is in
      ((0, omega arith, same), sym (ap test same) ∙ passes)
  by false passes is later = let rest = later is in ((suc rest.0.0, (let low = rest.0.1 in omega arith), rest.0.2), rest.1)

is-call-name : (caller call : ℕ) (x : Held) → is_call caller call x ≡ true → (x.caller ≡ caller) × (x.call ≡ call)
is-call-name caller call x is = by (x.caller == caller) refl (x.call == call) refl is where
  by : (p : Bool) → (x.caller == caller) ≡ p → (q : Bool) → (x.call == call) ≡ q → (p && q) ≡ true → (x.caller ≡ caller) × (x.call ≡ call)
  by true a true b both = (grind (arith, common_steps), grind (arith, common_steps))
  by true a false b both = absurd (cc both)
  by false a q b both = absurd (cc both)

-- a call that was collected
pub record Collected (k : ℕ) (p : Process) (caller call : ℕ) (reply : Reply) : Type 0 where
  pub partition : ℕ
  pub held : Held
  pub low : partition < k
  pub there : Contains (held_at p partition) held
  pub caller_is : held.caller ≡ caller
  pub call_is : held.call ≡ call
  pub applied : held.number ≤ (replica_of p partition).applied
  pub replied : reply_from held.outcome ≡ reply

collected : (k n a : ℕ) (p : Process) (caller call : ℕ) (reply : Reply) → a + n ≤ k
    → (collect_from caller call p (range_with_len a n)).answer ≡ says.Reply reply → Collected k p caller call reply
collected k zero a p caller call reply within is = absurd (not-reply _ reply refl is)
collected k (suc n) a p caller call reply within is = by (find (is_call caller call) (held_at p a)) refl is
    (collected k n (a + 1) p caller call reply (omega arith)) where
      handed : (x : Held) → find (is_call caller call) (held_at p a) ≡ Some x → (b : Bool) → nat_le x.number (replica_of p a).applied ≡ b
          → (handed_out b a x p).answer ≡ says.Reply reply → Collected k p caller call reply
      handed x found true test is =
          let said = found-passes (is_call caller call) (held_at p a) x found in
          let name = is-call-name caller call x said.1 in
          record {
            partition = a;
            held = x;
            low = omega arith;
            there = said.0;
            caller_is = name.0;
            call_is = name.1;
            applied = grind (arith, common_steps);
            replied = same-reply (reply_from x.outcome) reply is;
          }
      handed x found false test is = absurd (not-reply _ reply refl is)

      by : (o : Option Held) → find (is_call caller call) (held_at p a) ≡ o
          → (collect_held a o p (collect_from caller call p (range_with_len (a + 1) n))).answer ≡ says.Reply reply
          → ((collect_from caller call p (range_with_len (a + 1) n)).answer ≡ says.Reply reply
          → Collected k p caller call reply) → Collected k p caller call reply
      by None found is later = later is
      by (Some x) found is later = handed x found (nat_le x.number (replica_of p a).applied) refl is

-- a call that was traced
pub record Traced (p : Process) (d caller call : ℕ) (reply : Reply) : Type 0 where
  pub head : Head
  pub kept : Kept
  pub heads : head_at p d ≡ Some head
  pub there : at None (replica_of p d).kept caller ≡ Some kept
  pub call_is : kept.call ≡ call
  pub replied : reply_from kept.outcome ≡ reply

traced : (s : Dimensions) (p : Process) (d caller call : ℕ) (reply : Reply) → fate_of s caller call d p (head_at p d)
    ≡ says.Reply reply → Traced p d caller call reply
traced s p d caller call reply is = by (head_at p d) refl is where
  gone-none : (b : Bool) → gone_or b ≡ says.Reply reply → ⊥
  gone-none true is = not-reply _ reply refl is
  gone-none false is = not-reply _ reply refl is

  kept : (h : Head) → head_at p d ≡ Some h → (x : Kept) → at None (replica_of p d).kept caller ≡ Some x → (a b c : Bool) → (x.call == call) ≡ b
      → (if b then says.Reply (reply_from x.outcome) else (if c then says.Stale x.call else gone_or a)) ≡ says.Reply reply → Traced p d caller call reply
  kept h heads x there a true c test is = record {
    head = h;
    kept = x;
    heads = heads;
    there = there;
    call_is = grind (arith, common_steps);
    replied = same-reply (reply_from x.outcome) reply is;
  }
  kept h heads x there a false true test is = absurd (not-reply _ reply refl is)
  kept h heads x there a false false test is = absurd (gone-none a is)

  unlogged : (h : Head) → head_at p d ≡ Some h → (o : Option Kept) → at None (replica_of p d).kept caller ≡ o
      → fate_from (is_adopted s p h) call o ≡ says.Reply reply → Traced p d caller call reply
  unlogged h heads None there is = absurd (gone-none (is_adopted s p h) is)
  unlogged h heads (Some x) there is = kept h heads x there (is_adopted s p h) (x.call == call) (nat_lt call x.call) refl is

  fate : (h : Head) → head_at p d ≡ Some h → (b : Bool)
      → fate_unless b (fate_from (is_adopted s p h) call (at None (replica_of p d).kept caller)) ≡ says.Reply reply
      → Traced p d caller call reply
  fate h heads true is = absurd (not-reply _ reply refl is)
  fate h heads false is = unlogged h heads (at None (replica_of p d).kept caller) refl is

  by : (o : Option Head) → head_at p d ≡ o → fate_of s caller call d p o ≡ says.Reply reply → Traced p d caller call reply
  by None heads is = absurd (not-reply _ reply refl is)
  by (Some h) heads is = fate h heads (is_in_log caller call (replica_of p d).log) is

-- a reply that is handed out later
pub record HandedOut (k : ℕ) (settled : ℕ → List Update) (name : CallName) (reply : Reply) : Type 0 where
  pub partition : ℕ
  pub low : partition < k
  pub outcome : Outcome
  pub settles : IsSettledAs (settled partition) name outcome
  pub replied : reply_from outcome ≡ reply

module _ (b : Book) (framed : FramedHistory b.history) (stands : StandsIn b) (name : CallName) (reply : Reply) where
  abbrev settled_now : ℕ → List Update
  settled_now d = at [] b.history.settled d

  names-is : (caller call : ℕ) → caller ≡ name.caller → call ≡ name.call → record { caller = caller; call = call } ≡ name
  names-is caller call a c = λ i. record { caller = a i; call = c i }

  handed-collect : (caller call : ℕ) (p : ProcessId) → IsProcess b.history.world.shape p → (caller ≡ name.caller) × (call ≡ name.call)
      → (group_step b.history.world (Collect caller call p)).answer ≡ says.Reply reply
      → HandedOut b.history.world.shape.k settled_now name reply
  handed-collect caller call p pin names is =
      let h : History = b.history in
      by (call-comes h.world.shape h.world.nodes h.settled framed p
      (collect_from caller call (process_node h.world p).process (range_with_len 0 h.world.shape.k)) pin
      (process_node h.world p).down (process_node h.world p).dead refl refl) is
    where
      by : {w : State} {answer : Answer}
          → Answers b.history.world.shape (state_of b.history) w p
          (collect_from caller call (process_node b.history.world p).process (range_with_len 0 b.history.world.shape.k))
          answer
          → answer ≡ says.Reply reply → HandedOut b.history.world.shape.k settled_now name reply
      by {w} {answer} (Idle same idle) said = absurd (idle-no-reply answer reply idle said)
      by {w} {answer} (Acts up lives acts its) said =
          let c = collected b.history.world.shape.k b.history.world.shape.k 0 (process_node b.history.world p).process caller
          call reply (omega arith) (sym its ∙ said) in
          let settles = stands.held up p c.partition c.held pin lives c.low c.there c.applied in
          record {
            partition = c.partition;
            low = c.low;
            outcome = c.held.outcome;
            replied = c.replied;
            settles =
                subst (λ (n : CallName). IsSettledAs (at [] b.history.settled c.partition) n c.held.outcome)
                (names-is c.held.caller c.held.call (c.caller_is ∙ names.0) (c.call_is ∙ names.1)) settles;
          }

  handed-trace : (caller call d : ℕ) (p : ProcessId) → IsProcess b.history.world.shape p → d < b.history.world.shape.k
      → (caller ≡ name.caller) × (call ≡ name.call)
      → (down dead : Bool) → (process_node b.history.world p).down ≡ down → (process_node b.history.world p).dead ≡ dead
      → (if_up down dead (process_node b.history.world p)
      (unchanged (fate_of b.history.world.shape caller call d (process_node b.history.world p).process
      (head_at (process_node b.history.world p).process d)) (process_node b.history.world p))).answer ≡ says.Reply reply
      → HandedOut b.history.world.shape.k settled_now name reply
  handed-trace caller call d p pin low names true dead isdown isdead is = absurd (not-reply _ reply refl is)
  handed-trace caller call d p pin low names false true isdown isdead is = absurd (not-reply _ reply refl is)
  handed-trace caller call d p pin low names false false isdown isdead is =
      let t = traced b.history.world.shape (process_node b.history.world p).process d caller call reply is in
      let up = up_from b.history.world.shape b.history.world.nodes b.history.settled framed p pin isdown in
      record {
        partition = d;
        low = low;
        outcome = t.kept.outcome;
        replied = t.replied;
        settles = subst (λ (n : CallName). IsSettledAs (at [] b.history.settled d) n t.kept.outcome) (names-is caller t.kept.call names.0 (t.call_is ∙ names.1))
            (kept-settled b.history.world.shape b.issued (at [] b.history.settled d) d
            (process_node b.history.world p).process t.head (stands.heads up p d t.head pin isdead low t.heads) caller
            t.kept t.there);
      }

  pub handed-out : (e : Event) → MayCome b.history.world e → Fetches e name → (group_step b.history.world e).answer
      ≡ says.Reply reply → HandedOut b.history.world.shape.k settled_now name reply
  handed-out (Collect caller call p) may names is = handed-collect caller call p may.1 names is
  handed-out (Trace caller call d p) may names is = handed-trace caller call d.0 p may.3 may.2 names
      (process_node b.history.world p).down (process_node b.history.world p).dead refl refl is
  handed-out (Ask caller op p) may names is = absurd names
  handed-out (Deliver from to) may names is = absurd names
  handed-out (Fail p keep) may names is = absurd names
  handed-out (Flush p) may names is = absurd names
