-- What was told to be gone stays so along every run.
use Rattle.std.proofs.Common.{ℕ, suc, ◌≡◌, ◌≢◌, ◌<◌, ◌≤◌, ◌==◌, nat_lt, Bool, true, false, List, [], ◌∷◌, ◌++◌, Option}
use Rattle.std.proofs.Common.{Some, None, if◌then◌else◌, ◌⊎◌, inl, inr, refl, sym, ap, subst, ◌∙◌, arith}
use Rattle.std.proofs.lemmas.Bool.{cases_eq}
use Rattle.std.specs.Prelude.{All, Contains}
use Rattle.std.specs.List.{range_with_len}
use Rattle.group_types.specs.Dimensions.{Dimensions}
use Rattle.group_types.specs.Lists.{at, put}
use Rattle.group_types.specs.Names.{IsProcess, index_of}
use Rattle.group_types.specs.Shape.{IsShape}
use Rattle.group_types.specs.declared.process.Partition.{Partition}
use Rattle.group_types.specs.declared.process.ProcessId.{ProcessId}
use Rattle.group_types.proofs.Lists.{at-put, at-put-other}
use Rattle.memc_table.specs.Act.{act_value}
use Rattle.memc_table.specs.Asked.{Asked}
use Rattle.group_message.specs.declared.kept.Kept.{Kept}
use Rattle.group_message.specs.declared.message.Message.{Message}
use Rattle.group_calls.specs.Turns.{CallName, Turn}
use Rattle.group_calls.specs.Within.{Traces}
use Rattle.group_calls.specs.declared.event.Answer.{Answer}
use Rattle.group_calls.specs.declared.event.Answer.TheVariants as says
use Rattle.group_calls.specs.declared.event.Event.{Event}
use Rattle.group_calls.specs.declared.event.Event.TheVariants.{Ask, Collect, Deliver, Fail, Flush, Trace}
use Rattle.group_run.specs.Applying.{head_at, replica_of}
use Rattle.group_run.specs.Asking.{ask_process, collect_from, fate_from, fate_of, fate_unless, gone_or, is_adopted, is_in_log, reply_from}
use Rattle.group_run.specs.Headline.{IsRun, MayCome}
use Rattle.group_run.specs.History.{History, no_history, prolonged, history}
use Rattle.group_run.specs.Process.{Head}
use Rattle.group_run.specs.Receiving.{receive}
use Rattle.group_run.specs.World.{AskedCall, World, flush_process, if_up, next_name, process_node, step, unchanged, update_name}
use Rattle.law_moves.proofs.Moves.{Acted, Asks, Collects, Died, Flushes, Popped}
use Rattle.law_moves.specs.State.{IsGroupUp, State, state_of}
use Rattle.law_moves.proofs.Events.{FramedHistory, up_from}
use Rattle.law_moves.proofs.Runs.{runs_move}
use Rattle.law_moves.proofs.Members.{Members}
use Rattle.law_moves.proofs.Keeping.{keeps}
use Rattle.law_histories.proofs.Issuing.{IssueKeeps}
use Rattle.law_histories.proofs.Reach.{Reach}
use Rattle.law_histories.proofs.Around.{keeper-rank}
use Rattle.law_histories.proofs.Keeping as reaching
use Rattle.law_histories.proofs.Ranks.{head-from}
use Rattle.law_histories.proofs.Weaker.{reach-weaker}
use Rattle.law_log.specs.Book.{Book, book_of, booked, no_book}
use Rattle.law_log.specs.Stands.{Stands, StandsAlways}
use Rattle.law_log.proofs.Books.{book-framed, book-shape, book-world, book_always}
use Rattle.law_log.proofs.Calls.{Acts, Answers, Delivers, Dies, Fails, Idle, Nothing, Takes, Was, call-comes}
use Rattle.law_log.proofs.Calls.{each-contained, failure-comes, message-comes, trace-stays}
use Rattle.law_log.proofs.Fates.{gone-unnamed}
use Rattle.law_log.proofs.GoneWords.{GoneIsKept, GoneStand, IsClean, IsUnnamed, TracesAsked}
use Rattle.law_log.proofs.Clean.{clean-laws, clean-more, contained-last, issue-clean, settled-clean, unnamed-front}
use Rattle.law_log.proofs.Told.{With, told-all}

-- all histories of a state, and what is settled, are clean
abbrev pub IsClear : List Turn → Dimensions → State → Type 0
IsClear turns s v = Members s v × Reach (IsClean turns) s v × ((d : ℕ) → d < s.k → IsClean turns d 0 (v.settled d))

module _ (turns : List Turn) (s : Dimensions) (shaped : IsShape s) where
  -- each move keeps a state clear
  clear-after : (v w : State) (p : ProcessId) → reaching.Leaves_both (IsClean turns) (clean-laws turns) s shaped v w p → Members s w → IsProcess s p
      → w.dead p ≡ false → IsClear turns s v → IsClear turns s w
  clear-after v w p leaves members pin living clear = (
    members,
    (λ d below. (leaves d below).0),
    λ d below. settled-clean turns s shaped v w p leaves members pin living
        d below (clear.2 d below),
  )

  asks : (v w : State) (p : ProcessId) (name : CallName) (op : Asked) → IsProcess s p → IsGroupUp s v → v.dead p ≡ false
      → All (λ b. b < 256) (act_value op.act) → IssueKeeps (IsClean turns) s v p name op
      → IsClear turns s v → Acted s v w p (ask_process s name op (v.process p)).step → IsClear turns s w
  asks v w p name op pin up lives bytes issues clear acts =
      clear-after v w p (reaching.asks-both (IsClean turns) (clean-laws turns) s shaped v w p name op pin up lives bytes issues clear.0 clear.1 acts)
      ((keeps s shaped).treats v w p (ask_process s name op (v.process p)).step pin up lives (Asks name op bytes)
      clear.0 acts) pin (acts.dead p pin ∙ lives) clear

  collects : (v w : State) (p : ProcessId) (caller call : ℕ) → IsProcess s p → IsGroupUp s v → v.dead p ≡ false → IsClear turns s v
      → Acted s v w p (collect_from caller call (v.process p) (range_with_len 0 s.k)).step → IsClear turns s w
  collects v w p caller call pin up lives clear acts =
      clear-after v w p (reaching.collects-both (IsClean turns) (clean-laws turns) s shaped v w p caller call pin up lives clear.0 clear.1 acts)
      ((keeps s shaped).treats v w p (collect_from caller call (v.process p) (range_with_len 0 s.k)).step pin up lives
      (Collects caller call) clear.0 acts) pin (acts.dead p pin ∙ lives) clear

  flushes : (v w : State) (p : ProcessId) → IsProcess s p → IsGroupUp s v → v.dead p ≡ false → IsClear turns s v
      → Acted s v w p (flush_process s (v.process p)).step → IsClear turns s w
  flushes v w p pin up lives clear acts =
      clear-after v w p (reaching.flushes-both (IsClean turns) (clean-laws turns) s shaped v w p pin up lives clear.0 clear.1 acts)
      ((keeps s shaped).treats v w p (flush_process s (v.process p)).step pin up lives Flushes clear.0 acts) pin (acts.dead p pin ∙ lives) clear

  receives : (v u w : State) (x p : ProcessId) (m : Message) → IsProcess s x → IsProcess s p → x ≢ p → IsGroupUp s v → v.dead p ≡ false → IsClear turns s v
      → Popped s v u x p m → Acted s u w p (receive s x m (v.process p)) → IsClear turns s w
  receives v u w x p m xin pin apart up lives clear pops acts =
      clear-after v w p (reaching.receives-both (IsClean turns) (clean-laws turns) s shaped v u w x p m xin pin apart up lives clear.0 clear.1 pops acts)
      ((keeps s shaped).receives v u w x p m xin pin apart up lives clear.0 pops acts) pin (acts.dead p pin ∙ pops.dead p pin ∙ lives) clear

  dies : (v w : State) (p : ProcessId) (keep : ℕ) → IsProcess s p → IsClear turns s v → Died s v w p keep → IsClear turns s w
  dies v w p keep pin clear died = (
    (keeps s shaped).dies v w p keep pin clear.0 died,
    reaching.dies (IsClean turns) (clean-laws turns) s shaped v w p keep pin clear.1 died,
    λ d below. subst (IsClean turns d 0) (sym (died.settled d)) (clear.2 d below),
  )

-- an event keeps the state clear
event-clear : (turns : List Turn) (h : History) (e : Event) → FramedHistory h → IsShape h.world.shape → MayCome h.world e
    → TracesAsked h.world.shape.k h.world.asked turns → IsClear turns h.world.shape (state_of h) → IsClear turns h.world.shape (state_of (prolonged h e))
event-clear turns h (Ask caller op p) framed shaped may were clear =
    by (call-comes h.world.shape h.world.nodes h.settled framed p
    (ask_process h.world.shape (next_name h.world caller) op (process_node h.world p).process) may.1
    (process_node h.world p).down (process_node h.world p).dead refl refl) where
      by : {w : State} {answer : Answer}
          → Answers h.world.shape (state_of h) w p (ask_process h.world.shape (next_name h.world caller) op (process_node h.world p).process) answer
          → IsClear turns h.world.shape w
      by (Idle same idle) = subst (IsClear turns h.world.shape) (sym same) clear
      by {w} (Acts up lives acts is) = asks turns h.world.shape shaped (state_of h) w p (next_name h.world caller) op may.1 up lives may.2
          (issue-clean turns h.world.shape shaped h.world.asked were (state_of h) clear.0 clear.1 p may.1 lives (next_name h.world caller) op refl) clear acts
event-clear turns h (Collect caller call p) framed shaped may were clear =
    by (call-comes h.world.shape h.world.nodes h.settled framed p
    (collect_from caller call (process_node h.world p).process (range_with_len 0 h.world.shape.k)) may.1
    (process_node h.world p).down (process_node h.world p).dead refl refl) where
      by : {w : State} {answer : Answer}
          → Answers h.world.shape (state_of h) w p (collect_from caller call (process_node h.world p).process (range_with_len 0 h.world.shape.k)) answer
          → IsClear turns h.world.shape w
      by (Idle same idle) = subst (IsClear turns h.world.shape) (sym same) clear
      by {w} (Acts up lives acts is) = collects turns h.world.shape shaped (state_of h) w p caller call may.1 up lives clear acts
event-clear turns h (Flush p) framed shaped may were clear =
    by (call-comes h.world.shape h.world.nodes h.settled framed p
    (flush_process h.world.shape (process_node h.world p).process) may (process_node h.world p).down (process_node h.world p).dead
    refl refl) where
      by : {w : State} {answer : Answer}
          → Answers h.world.shape (state_of h) w p (flush_process h.world.shape (process_node h.world p).process) answer
          → IsClear turns h.world.shape w
      by (Idle same idle) = subst (IsClear turns h.world.shape) (sym same) clear
      by {w} (Acts up lives acts is) = flushes turns h.world.shape shaped (state_of h) w p may up lives clear acts
event-clear turns h (Trace caller call d p) framed shaped may were clear =
    subst (IsClear turns h.world.shape) (sym (trace-stays h framed caller call d.0 p may.3 (process_node h.world p).down (process_node h.world p).dead).1) clear
event-clear turns h (Deliver from to) framed shaped may were clear =
    by (message-comes h.world.shape h.world.nodes h.settled framed from to may.0 may.1 may.2 (process_node h.world to).down
    (process_node h.world to).dead refl refl (at [] (process_node h.world from).links (index_of h.world.shape to)) refl) where
      by : {w : State} → Delivers h.world.shape (state_of h) w from to → IsClear turns h.world.shape w
      by (Nothing same) = subst (IsClear turns h.world.shape) (sym same) clear
      by {w} (Takes u m up lives pops acts) = receives turns h.world.shape shaped (state_of h) u w from to m may.0 may.1 may.2 up lives clear pops acts
event-clear turns h (Fail p keep) framed shaped may were clear =
    by (failure-comes h.world.shape h.world.nodes h.settled framed p keep may (process_node h.world p).dead refl) where
      by : {w : State} → Fails h.world.shape (state_of h) w p keep → IsClear turns h.world.shape w
      by (Was same) = subst (IsClear turns h.world.shape) (sym same) clear
      by {w} (Dies died) = dies turns h.world.shape shaped (state_of h) w p keep may clear died

-- a state that is clear stays so with one turn more, if it is clear of that
clear-more : (turns : List Turn) (last : Turn) (s : Dimensions) (v : State) → ((name : CallName) (d : ℕ) → Traces last.event name d → last.answer ≢ says.Gone)
    → IsClear turns s v → IsClear (turns ++ last ∷ []) s v
clear-more turns last s v other clear = (
  clear.0,
  reach-weaker (IsClean turns) (IsClean (turns ++ last ∷ []))
      (λ d a us clean. clean-more turns last d a a us clean (λ name traced gone. absurd (other name d traced gone))) s v
      clear.1,
  λ d below. clean-more turns last d 0 0 (v.settled d) (clear.2 d below) (λ name traced gone. absurd (other name d traced gone)),
)

-- who is told that a call is gone was adopted
fate-adopted : (logged adopted : Bool) (call : ℕ) (kept : Option Kept) → fate_unless logged (fate_from adopted call kept) ≡ says.Gone → adopted ≡ true
fate-adopted true adopted call kept is = absurd (cc is)
fate-adopted false true call kept is = refl
fate-adopted false false call None is = absurd (cc is)
fate-adopted false false call (Some x) is = absurd (by (x.call == call) (nat_lt call x.call) is) where
  by : (a b : Bool) → (if a then says.Reply (reply_from x.outcome) else (if b then says.Stale x.call else gone_or false)) ≡ says.Gone → ⊥
  by true b is = cc is
  by false true is = cc is
  by false false is = cc is

-- a trace that tells a call to be gone: then the state is clear of that call too
module _ (turns : List Turn) (s : Dimensions) (calls : List AskedCall) (v : State) (clear : IsClear turns s v) (stands : Stands s calls v) (up : IsGroupUp s v)
    (caller call : ℕ) (d : Partition) (below : d.0 < s.k) (p : ProcessId) (pin : IsProcess s p)
    (lives : v.dead p ≡ false) (last : Turn) (event : last.event ≡ Trace caller call d p) where
  abbrev told-name : CallName
  told-name = record { caller = caller; call = call }

  is-told : (name : CallName) (e : ℕ) → Traces last.event name e → (told-name ≡ name) × (e ≡ d.0)
  is-told name e traced =
      let parts : Traces (Trace caller call d p) name e = subst (λ (x : Event). Traces x name e) event traced in
      let one = parts.0 in
      let two = parts.1 in
      ((λ i. record { caller = one i; call = two i }), sym parts.2)

  told-head : (o : Option Head) → head_at (v.process p) d.0 ≡ o → fate_of s caller call d.0 (v.process p) o ≡ says.Gone → IsClear (turns ++ last ∷ []) s v
  told-head None heads is = absurd (cc is)
  told-head (Some h) heads is =
      let unnamed : IsUnnamed told-name (history (v.settled d.0) (replica_of (v.process p) d.0)) =
      gone-unnamed s calls (v.settled d.0) d.0 (v.process p) h (stands.heads up p d.0 h pin lives below heads) caller call is in
      let adopted : is_adopted s (v.process p) h ≡ true = fate-adopted (is_in_log caller call (replica_of (v.process p) d.0).log)
      (is_adopted s (v.process p) h) call (at None (replica_of (v.process p) d.0).kept caller) is in
      let all = told-all (IsClean turns) d.0 (IsUnnamed told-name) (unnamed-front told-name) s v clear.0 clear.1 below p pin lives h heads adopted unnamed in
      let own = (clear.1 d.0 below).replicas p pin lives (keeper-rank d.0 h.rank p (head-from s v d.0 clear.0 below p h pin lives heads).0) in
      let settled : IsUnnamed told-name (v.settled d.0) = unnamed-front told-name (v.settled d.0)
      (history (v.settled d.0) (replica_of (v.process p) d.0)) own.prolongs unnamed in (
        clear.0,
        reach-weaker (With (IsClean turns) d.0 (IsUnnamed told-name) (unnamed-front told-name)) (IsClean (turns ++ last ∷ []))
            (λ e a us both. clean-more turns last e a a us both.0 (λ name traced gone. let told = is-told name e traced
            in subst (λ (n : CallName). IsUnnamed n us) told.0 (both.1 told.1))) s v all,
        λ e low. clean-more turns last e 0 0 (v.settled e) (clear.2 e low)
            (λ name traced gone. let told = is-told name e traced in subst (λ (n : CallName). IsUnnamed n (v.settled e))
            told.0 (subst (λ (k : ℕ). IsUnnamed told-name (v.settled k)) (sym told.1) settled)),
      )

gone-or : (a : Answer) → (a ≡ says.Gone) ⊎ (a ≢ says.Gone)
gone-or (says.Reply reply) = inr (λ is. cc is)
gone-or (says.Ticket n) = inr (λ is. cc is)
gone-or says.NotYet = inr (λ is. cc is)
gone-or says.NoSpace = inr (λ is. cc is)
gone-or (says.Retry why) = inr (λ is. cc is)
gone-or says.Moved = inr (λ is. cc is)
gone-or says.Lost = inr (λ is. cc is)
gone-or says.Down = inr (λ is. cc is)
gone-or says.Idle = inr (λ is. cc is)
gone-or says.Stranger = inr (λ is. cc is)
gone-or says.Done = inr (λ is. cc is)
gone-or says.AlreadyDead = inr (λ is. cc is)
gone-or says.Gone = inl refl
gone-or (says.Stale n) = inr (λ is. cc is)

-- after an event the state is clear of what its turn told, too
turn-clear : (b : Book) (e : Event) → FramedHistory b.history → IsShape b.history.world.shape
    → MayCome b.history.world e → Stands b.history.world.shape b.issued (state_of b.history)
    → TracesAsked b.history.world.shape.k b.history.world.asked b.turns → IsClear b.turns b.history.world.shape (state_of b.history)
    → IsClear (booked b e).turns b.history.world.shape (state_of (booked b e).history)
turn-clear b (Ask caller op p) framed shaped may stands were clear =
    clear-more b.turns (step b.history.world (Ask caller op p)).turn b.history.world.shape _ (λ name d traced. absurd traced)
    (event-clear b.turns b.history (Ask caller op p) framed shaped may were clear)
turn-clear b (Collect caller call p) framed shaped may stands were clear =
    clear-more b.turns (step b.history.world (Collect caller call p)).turn b.history.world.shape _ (λ name d traced. absurd traced)
    (event-clear b.turns b.history (Collect caller call p) framed shaped may were clear)
turn-clear b (Flush p) framed shaped may stands were clear =
    clear-more b.turns (step b.history.world (Flush p)).turn b.history.world.shape _ (λ name d traced. absurd traced)
    (event-clear b.turns b.history (Flush p) framed shaped may were clear)
turn-clear b (Deliver from to) framed shaped may stands were clear =
    clear-more b.turns (step b.history.world (Deliver from to)).turn b.history.world.shape _ (λ name d traced. absurd traced)
    (event-clear b.turns b.history (Deliver from to) framed shaped may were clear)
turn-clear b (Fail p keep) framed shaped may stands were clear =
    clear-more b.turns (step b.history.world (Fail p keep)).turn b.history.world.shape _
    (λ name d traced. absurd traced) (event-clear b.turns b.history (Fail p keep) framed shaped may were clear)
turn-clear b (Trace caller call d p) framed shaped may stands were clear =
    subst (IsClear (b.turns ++ last ∷ []) h.world.shape)
    (sym (trace-stays h framed caller call d.0 p may.3 (process_node h.world p).down (process_node h.world p).dead).1)
    (by (gone-or last.answer)) where
      h : History
      h = b.history

      last : Turn
      last = (step h.world (Trace caller call d p)).turn

      told : (down dead : Bool) → (process_node h.world p).down ≡ down → (process_node h.world p).dead ≡ dead
          → (if_up down dead (process_node h.world p)
          (unchanged (fate_of h.world.shape caller call d.0 (process_node h.world p).process
          (head_at (process_node h.world p).process d.0)) (process_node h.world p))).answer ≡ says.Gone
          → IsClear (b.turns ++ last ∷ []) h.world.shape (state_of h)
      told true dead isdown isdead is = absurd (cc is)
      told false true isdown isdead is = absurd (cc is)
      told false false isdown isdead is =
          told-head b.turns h.world.shape b.issued (state_of h) clear stands
          (up_from h.world.shape h.world.nodes h.settled framed p may.3 isdown) caller call d may.2 p may.3 isdead
          last refl
          (head_at (process_node h.world p).process d.0) refl is

      by : (last.answer ≡ says.Gone) ⊎ (last.answer ≢ says.Gone) → IsClear (b.turns ++ last ∷ []) h.world.shape (state_of h)
      by (inl is) = told (process_node h.world p).down (process_node h.world p).dead refl refl is
      by (inr not) = clear-more b.turns last h.world.shape (state_of h) (λ name e traced. not) clear

-- what was asked stays so
asked-rises : (asked : List ℕ) (caller x : ℕ) → at 0 asked x ≤ at 0 (put 0 asked caller (suc (at 0 asked caller))) x
asked-rises asked caller x = by (cases_eq x caller) where
  by : (x ≡ caller) ⊎ (x ≢ caller) → at 0 asked x ≤ at 0 (put 0 asked caller (suc (at 0 asked caller))) x
  by (inr other) = let e = at-put-other 0 asked caller x (suc (at 0 asked caller)) other in omega arith
  by (inl same) =
      let e : at 0 (put 0 asked caller (suc (at 0 asked caller))) x ≡ suc (at 0 asked caller) = ap (at 0 (put 0 asked caller (suc (at 0 asked caller)))) same
      ∙ at-put 0 0 asked caller (suc (at 0 asked caller)) in
      let was : at 0 asked x ≡ at 0 asked caller = ap (at 0 asked) same in omega arith

traces-more : (k : ℕ) (asked now : List ℕ) (turns : List Turn) (last : Turn) → ((x : ℕ) → at 0 asked x ≤ at 0 now x)
    → ((name : CallName) (d : ℕ) → Traces last.event name d → (d < k) × (name.call < at 0 now name.caller))
    → TracesAsked k asked turns → TracesAsked k now (turns ++ last ∷ [])
traces-more k asked now turns last rises here were turn name d there traced = by (contained-last turns last turn there) where
  by : Contains turns turn ⊎ (last ≡ turn) → (d < k) × (name.call < at 0 now name.caller)
  by (inl before) = let old = were turn name d before traced in let low = old.1 in let more = rises name.caller in (old.0, omega (arith, low, more))
  by (inr same) = here name d (subst (λ (t : Turn). Traces t.event name d) (sym same) traced)

turn-asked : (b : Book) (e : Event) → MayCome b.history.world e → TracesAsked b.history.world.shape.k b.history.world.asked b.turns
    → TracesAsked b.history.world.shape.k (booked b e).history.world.asked (booked b e).turns
turn-asked b (Ask caller op p) may were =
    traces-more b.history.world.shape.k b.history.world.asked _ b.turns (step b.history.world (Ask caller op p)).turn
    (asked-rises b.history.world.asked caller) (λ name d traced. absurd traced) were
turn-asked b (Collect caller call p) may were =
    traces-more b.history.world.shape.k b.history.world.asked _ b.turns
    (step b.history.world (Collect caller call p)).turn (λ x. omega arith) (λ name d traced. absurd traced) were
turn-asked b (Flush p) may were = traces-more b.history.world.shape.k b.history.world.asked _ b.turns
    (step b.history.world (Flush p)).turn (λ x. omega arith) (λ name d traced. absurd traced) were
turn-asked b (Deliver from to) may were =
    traces-more b.history.world.shape.k b.history.world.asked _ b.turns (step b.history.world (Deliver from to)).turn
    (λ x. omega arith) (λ name d traced. absurd traced) were
turn-asked b (Fail p keep) may were =
    traces-more b.history.world.shape.k b.history.world.asked _ b.turns (step b.history.world (Fail p keep)).turn
    (λ x. omega arith) (λ name d traced. absurd traced) were
turn-asked b (Trace caller call d p) may were =
    traces-more b.history.world.shape.k b.history.world.asked _ b.turns (step b.history.world (Trace caller call d p)).turn (λ x. omega arith)
    (λ name e traced.
    let low = may.2 in let below = may.1 in let one = traced.0 in let two = traced.1 in let three = traced.2 in
    let same : at 0 b.history.world.asked caller ≡ at 0 b.history.world.asked name.caller = ap (at 0 b.history.world.asked) one in
    (omega (arith, low, three), omega (arith, below, two, same))) were

abbrev Stand : Book → Type 0
Stand b = GoneStand b.history b.turns

stand-start : (s : Dimensions) → IsShape s → Stand (no_book s)
stand-start s shaped = record {
  members = (keeps s shaped).opens (state_of (no_history s)) (runs_move s).opens;
  reach = reaching.opens (IsClean []) (clean-laws []) s shaped (state_of (no_history s)) (runs_move s).opens;
  settled = λ d below turn name there traced gone. absurd (omega (arith, there.1));
  asked = λ turn name d there traced. absurd (omega (arith, there.1));
}

stand-next : (b : Book) (e : Event) → FramedHistory b.history → IsShape b.history.world.shape → MayCome b.history.world e
    → Stands b.history.world.shape b.issued (state_of b.history) → Stand b → Stand (booked b e)
stand-next b e framed shaped may stands old =
    let clear = turn-clear b e framed shaped may stands old.asked (old.members, old.reach, old.settled) in record {
      members = clear.0;
      reach = clear.1;
      settled = clear.2;
      asked = turn-asked b e may old.asked;
    }

-- along every run in which heads stand, what was told to be gone stands nowhere
pub stand_always : (s : Dimensions) → StandsAlways s → (es : List Event) → IsRun s es → GoneStand (book_of s es).history (book_of s es).turns
stand_always s stands es run =
    book_always s Stand (stand-start s run.0)
    (λ done e now more may old.
    let b : Book = book_of s done in
    stand-next b e (book-framed s done now) (subst IsShape (sym (book-shape s done)) now.0) (subst (λ (w : World). MayCome w e) (sym (book-world s done)) may)
    (subst (λ (t : Dimensions). Stands t b.issued (state_of b.history)) (sym (book-shape s done)) (stands done now)) old) es run

pub gone_is_kept : GoneIsKept
gone_is_kept s stands es run turn name d there traced gone u among same =
    let stand = stand_always s stands es run in
    let low = (stand.asked turn name d there traced).0 in
    each-contained (λ u. update_name u ≢ name) (at [] (book_of s es).history.settled d) u (stand.settled d low turn name there traced gone) among same
