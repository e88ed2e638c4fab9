-- Each event makes a move beside the issued calls.
use Rattle.std.proofs.Common.{ℕ, zero, suc, ◌≡◌, ◌≢◌, ◌<◌, ◌⊎◌, inl, inr, Bool, true, false, List, [], ◌∷◌, ◌++◌, Some, refl, sym, ap, subst, ◌∙◌, arith}
use Rattle.std.specs.Prelude.{Contains}
use Rattle.std.specs.List.{range_with_len}
use Rattle.std.proofs.lemmas.Bool.{cases_eq}
use Rattle.std.proofs.lemmas.List.{append-nil}
use Rattle.group_types.specs.Dimensions.{Dimensions}
use Rattle.group_types.specs.Lists.{at, put}
use Rattle.group_types.specs.Names.{IsProcess, index_of}
use Rattle.group_types.specs.declared.process.ProcessId.{ProcessId}
use Rattle.group_types.proofs.Lists.{at-put, at-put-other}
use Rattle.group_types.specs.Each.{Each}
use Rattle.group_types.proofs.Eaches.{each-append, each-weaker}
use Rattle.group_message.specs.declared.message.Message.{Message}
use Rattle.group_message.specs.declared.update.Update.{Update}
use Rattle.group_calls.specs.declared.event.Answer.{Answer}
use Rattle.group_calls.specs.declared.event.Answer.TheVariants as says
use Rattle.group_calls.specs.declared.event.Event.{Event}
use Rattle.group_calls.specs.declared.event.Event.TheVariants.{Ask, Collect, Deliver, Fail, Flush, Trace}
use Rattle.memc_table.specs.Asked.{Asked}
use Rattle.group_run.specs.Applying.{ProcessStep, head_at}
use Rattle.group_run.specs.Asking.{CallStep, ask_process, collect_from, fate_of}
use Rattle.group_run.specs.Headline.{IsRun, MayCome}
use Rattle.group_run.specs.History.{History, settled_after}
use Rattle.group_run.specs.Process.{Node}
use Rattle.group_run.specs.Receiving.{receive}
use Rattle.group_run.specs.World.{AskedCall, DeliveryStep, NodeStep, World, all_change, asked_after, delivered}
use Rattle.group_run.specs.World.{flush_process, group_step, if_up, is_issued, link_emptied, next_name, node_after}
use Rattle.group_run.specs.World.{node_failed, node_in, nodes_told, process_node, treated, unchanged, with_link, with_node}
use Rattle.law_moves.proofs.Moves.{Acted, Died, Popped}
use Rattle.law_moves.specs.State.{IsGroupUp, State, state_from, state_of}
use Rattle.law_moves.proofs.Events.{Framed, FramedHistory, grows, up_from}
use Rattle.law_moves.proofs.Reading.{node-back, node-other, size-with_node}
use Rattle.law_moves.proofs.Runs.{runs_move}
use Rattle.law_moves.proofs.Settled.{settled-quiet}
use Rattle.law_moves.proofs.Steps.{NodeActs, acted, died, node_acts, node_receives, popped}
use Rattle.law_updates.proofs.Fine.{ComesBehind}
use Rattle.law_log.specs.Book.{Book, book_of, booked, call_if, no_book}
use Rattle.law_log.proofs.CallWords.{CallsAreKept, KeepsCalls}
use Rattle.law_log.proofs.Books.{book-framed, book-shape, book-world, book_always}

-- what comes of a call at a process: it is answered that the group is down or the process lost, or treated
pub data Answers (s : Dimensions) (v w : State) (p : ProcessId) (call : CallStep) (answer : Answer) : Type 0 where
  Idle : w ≡ v → (answer ≡ says.Down) ⊎ (answer ≡ says.Lost) → Answers s v w p call answer
  Acts : IsGroupUp s v → v.dead p ≡ false → Acted s v w p call.step → answer ≡ call.answer → Answers s v w p call answer

-- what comes of a delivery: nothing, or a message is received
pub data Delivers (s : Dimensions) (v w : State) (x p : ProcessId) : Type 0 where
  Nothing : w ≡ v → Delivers s v w x p
  Takes : (u : State) (m : Message) → IsGroupUp s v → v.dead p ≡ false → Popped s v u x p m → Acted s u w p (receive s x m (v.process p)) → Delivers s v w x p

-- what comes of a failure: nothing, or a death
pub data Fails (s : Dimensions) (v w : State) (p : ProcessId) (keep : ℕ) : Type 0 where
  Was : w ≡ v → Fails s v w p keep
  Dies : Died s v w p keep → Fails s v w p keep

module _ (s : Dimensions) (nodes : List Node) (settled : List (List Update)) (framed : Framed s nodes settled) where
  quiet-same : (new : List Node) → new ≡ nodes → state_from s new (settled_after [] (range_with_len 0 s.k) settled) ≡ state_from s nodes settled
  quiet-same new same =
      let stays : settled_after [] (range_with_len 0 s.k) settled ≡ settled =
      settled-quiet s.k 0 settled (let many = framed.settled_many in omega (arith, many)) in
      λ i. state_from s (same i) (stays i)

  pub call-comes : (p : ProcessId) (call : CallStep) → IsProcess s p → (down dead : Bool) → (node_in s nodes p).down ≡ down → (node_in s nodes p).dead ≡ dead
      → Answers s (state_from s nodes settled)
      (state_from s (with_node s p (if_up down dead (node_in s nodes p) (treated s (node_in s nodes p) call)).node nodes)
      (settled_after (if_up down dead (node_in s nodes p) (treated s (node_in s nodes p) call)).settled (range_with_len 0 s.k) settled))
      p call (if_up down dead (node_in s nodes p) (treated s (node_in s nodes p) call)).answer
  call-comes p call pin true dead isdown isdead = Idle (quiet-same _ (node-back s nodes p pin framed.nodes_many)) (inl refl)
  call-comes p call pin false true isdown isdead = Idle (quiet-same _ (node-back s nodes p pin framed.nodes_many)) (inr refl)
  call-comes p call pin false false isdown isdead = Acts (up_from s nodes settled framed p pin isdown) isdead
      (acted s nodes framed.nodes_many settled (settled_after call.step.settled (range_with_len 0 s.k) settled) p
      (node_after s call.step (node_in s nodes p)) call.step pin
      (node_acts s call.step (node_in s nodes p)) (grows s nodes settled framed call.step.settled)) refl

  back-two : (x p : ProcessId) → IsProcess s x → IsProcess s p → with_node s p (node_in s nodes p) (with_node s x (node_in s nodes x) nodes) ≡ nodes
  back-two x p xin pin = ap (with_node s p (node_in s nodes p)) (node-back s nodes x xin framed.nodes_many) ∙ node-back s nodes p pin framed.nodes_many

  pub message-comes : (x p : ProcessId) → IsProcess s x → IsProcess s p → x ≢ p → (down dead : Bool)
      → (node_in s nodes p).down ≡ down → (node_in s nodes p).dead ≡ dead
      → (link : List Message) → at [] (node_in s nodes x).links (index_of s p) ≡ link
      → let b : DeliveryStep = delivered down dead s x p (node_in s nodes x) (node_in s nodes p) link in
      Delivers s (state_from s nodes settled)
      (state_from s (with_node s p b.receiver.node (with_node s x b.sender nodes))
      (settled_after b.receiver.settled (range_with_len 0 s.k) settled)) x p
  message-comes x p xin pin other true dead isdown isdead link is = Nothing (quiet-same _ (back-two x p xin pin))
  message-comes x p xin pin other false true isdown isdead link is = Nothing (quiet-same _ (back-two x p xin pin))
  message-comes x p xin pin other false false isdown isdead [] is = Nothing (quiet-same _ (back-two x p xin pin))
  message-comes x p xin pin other false false isdown isdead (m ∷ rest) is =
      let taken : List Node = with_node s x (with_link s p rest (node_in s nodes x)) nodes in
      let step : ProcessStep = receive s x m (node_in s nodes p).process in
      let received : Node = link_emptied s m (node_after s step (node_in s nodes p)) in
      let stays : node_in s taken p ≡ node_in s nodes p =
      node-other s nodes x p (with_link s p rest (node_in s nodes x)) xin pin (λ same. other (sym same))
      framed.nodes_many in
      Takes (state_from s taken settled) m (up_from s nodes settled framed p pin isdown) isdead
      (popped s nodes framed.nodes_many settled x p m rest xin pin is)
      (acted s taken (size-with_node s nodes x (with_link s p rest (node_in s nodes x)) xin framed.nodes_many) settled
      (settled_after step.settled (range_with_len 0 s.k) settled) p received step pin
      (subst (λ (n : Node). NodeActs s n received step) (sym stays) (node_receives s x m (node_in s nodes p))) (grows s nodes settled framed step.settled))

  pub failure-comes : (p : ProcessId) (keep : ℕ) → IsProcess s p → (dead : Bool) → (node_in s nodes p).dead ≡ dead
      → Fails s (state_from s nodes settled)
      (state_from s (all_change dead s nodes p keep).nodes
      (settled_after (all_change dead s nodes p keep).settled (range_with_len 0 s.k) settled)) p keep
  failure-comes p keep pin true isdead = Was (quiet-same nodes refl)
  failure-comes p keep pin false isdead =
      let stays : settled_after [] (range_with_len 0 s.k) settled ≡ settled =
      settled-quiet s.k 0 settled (let many = framed.settled_many in omega (arith, many)) in
      Dies (subst (λ (us : List (List Update)). Died s (state_from s nodes settled)
      (state_from s (nodes_told s.m (with_node s p (node_failed s p keep (node_in s nodes p)) nodes)) us) p keep)
      (sym stays) (died s nodes framed.nodes_many settled p keep pin isdead))

-- a trace leaves the state
pub trace-stays : (h : History) (framed : FramedHistory h) (caller call d : ℕ) (p : ProcessId) → IsProcess h.world.shape p → (down dead : Bool)
    → let t : NodeStep = if_up down dead (process_node h.world p)
    (unchanged (fate_of h.world.shape caller call d (process_node h.world p).process (head_at (process_node h.world p).process d)) (process_node h.world p)) in
    (t.settled ≡ [])
    × (state_from h.world.shape (with_node h.world.shape p t.node h.world.nodes)
    (settled_after t.settled (range_with_len 0 h.world.shape.k) h.settled) ≡ state_of h)
trace-stays h framed caller call d p pin true dead = (
  refl,
  quiet-same h.world.shape h.world.nodes h.settled framed _
      (node-back h.world.shape h.world.nodes p pin framed.nodes_many),
)
trace-stays h framed caller call d p pin false true = (
  refl,
  quiet-same h.world.shape h.world.nodes h.settled framed _
      (node-back h.world.shape h.world.nodes p pin framed.nodes_many),
)
trace-stays h framed caller call d p pin false false = (
  refl,
  quiet-same h.world.shape h.world.nodes h.settled framed _
      (node-back h.world.shape h.world.nodes p pin framed.nodes_many),
)

-- each issued call was asked
abbrev pub AreAsked : List ℕ → List AskedCall → Type 0
AreAsked asked calls = Each (λ c. c.name.call < at 0 asked c.name.caller) calls

-- the next call of a caller
abbrev pub next_call : World → ℕ → Asked → AskedCall
next_call w caller op = record { name = next_name w caller; op = op }

-- the calls that are counted stay so
pub asked-more : (asked : List ℕ) (c : AskedCall) (calls : List AskedCall) → AreAsked asked calls → AreAsked (asked_after asked (Some c)) calls
asked-more asked c calls all =
    each-weaker (λ x. x.name.call < at 0 asked x.name.caller) (λ x. x.name.call < at 0 (asked_after asked (Some c)) x.name.caller)
    (λ x below. more x below (cases_eq x.name.caller c.name.caller)) calls all where
      more : (x : AskedCall) → x.name.call < at 0 asked x.name.caller → (x.name.caller ≡ c.name.caller) ⊎ (x.name.caller ≢ c.name.caller)
          → x.name.call < at 0 (put 0 asked c.name.caller (suc (at 0 asked c.name.caller))) x.name.caller
      more x below (inr other) = let e = at-put-other 0 asked c.name.caller x.name.caller (suc (at 0 asked c.name.caller)) other in omega arith
      more x below (inl same) =
          let e : at 0 (put 0 asked c.name.caller (suc (at 0 asked c.name.caller))) x.name.caller ≡ suc (at 0 asked c.name.caller)
          = ap (at 0 (put 0 asked c.name.caller (suc (at 0 asked c.name.caller)))) same ∙ at-put 0 0 asked c.name.caller (suc (at 0 asked c.name.caller)) in
          let was : at 0 asked x.name.caller ≡ at 0 asked c.name.caller = ap (at 0 asked) same in
          omega arith

pub asked-new : (asked : List ℕ) (caller : ℕ) (op : Asked) → at 0 asked caller < at 0 (put 0 asked caller (suc (at 0 asked caller))) caller
asked-new asked caller op = let e = at-put 0 0 asked caller (suc (at 0 asked caller)) in omega arith

asked-if : (b : Bool) (w : World) (caller : ℕ) (op : Asked) → AreAsked (asked_after w.asked (Some (next_call w caller op))) (call_if b (next_call w caller op))
asked-if true w caller op = (asked-new w.asked caller op, tt)
asked-if false w caller op = tt

pub asked-next : (b : Book) (e : Event) → AreAsked b.history.world.asked b.issued → AreAsked (booked b e).history.world.asked (booked b e).issued
asked-next b (Ask caller op p) all =
    let w : World = b.history.world in
    each-append (λ c. c.name.call < at 0 (asked_after w.asked (Some (next_call w caller op))) c.name.caller) b.issued
    (call_if (is_issued (group_step w (Ask caller op p)).answer) (next_call w caller op))
    (asked-more w.asked (next_call w caller op) b.issued all) (asked-if (is_issued (group_step w (Ask caller op p)).answer) w caller op)
asked-next b (Collect caller call p) all = subst (AreAsked b.history.world.asked) (sym (append-nil b.issued)) all
asked-next b (Deliver from to) all = subst (AreAsked b.history.world.asked) (sym (append-nil b.issued)) all
asked-next b (Fail p keep) all = subst (AreAsked b.history.world.asked) (sym (append-nil b.issued)) all
asked-next b (Flush p) all = subst (AreAsked b.history.world.asked) (sym (append-nil b.issued)) all
asked-next b (Trace caller call d p) all = subst (AreAsked b.history.world.asked) (sym (append-nil b.issued)) all

-- along every run each issued call was asked
pub asked_always : (s : Dimensions) (es : List Event) → IsRun s es → AreAsked (book_of s es).history.world.asked (book_of s es).issued
asked_always s es run = book_always s (λ b. AreAsked b.history.world.asked b.issued) tt (λ done e run more may all. asked-next (book_of s done) e all) es run

pub each-contained : {X : Type 0} (P : X → Type 0) (xs : List X) (x : X) → Each P xs → Contains xs x → P x
each-contained P [] x all place = absurd (omega (arith, place.1))
each-contained P (y ∷ ys) x all (zero, below, is) = subst P is all.0
each-contained P (y ∷ ys) x all (suc k, below, is) = each-contained P ys x all.1 (k, omega arith, is)

-- the next call of a caller comes behind the issued ones
pub next-behind : (w : World) (caller : ℕ) (op : Asked) (calls : List AskedCall) → AreAsked w.asked calls → ComesBehind calls (next_call w caller op)
next-behind w caller op calls all other contained same =
    let below = each-contained (λ c. c.name.call < at 0 w.asked c.name.caller) calls other all contained in
    let e : at 0 w.asked other.name.caller ≡ at 0 w.asked caller = ap (at 0 w.asked) same in omega arith

module _ (P : List AskedCall → State → Type 0) where
  -- where the state stays, so does the sentence
  stays : (calls : List AskedCall) (v w : State) → w ≡ v → P calls v → P (calls ++ []) w
  stays calls v w same holds = subst (λ (cs : List AskedCall). P cs w) (sym (append-nil calls)) (subst (P calls) (sym same) holds)

  not-issued : (answer : Answer) → (answer ≡ says.Down) ⊎ (answer ≡ says.Lost) → is_issued answer ≡ false
  not-issued answer (inl down) = ap is_issued down
  not-issued answer (inr lost) = ap is_issued lost

  event-kept : (b : Book) (e : Event) → FramedHistory b.history → KeepsCalls b.history.world.shape P
      → MayCome b.history.world e → AreAsked b.history.world.asked b.issued
      → P b.issued (state_of b.history) → P (booked b e).issued (state_of (booked b e).history)
  event-kept b (Ask caller op p) framed keeps may all holds =
      let h : History = b.history in
      let c : AskedCall = next_call h.world caller op in
      by (call-comes h.world.shape h.world.nodes h.settled framed p
      (ask_process h.world.shape c.name op (process_node h.world p).process) may.1 (process_node h.world p).down
      (process_node h.world p).dead refl refl) where
        by : {w : State} {answer : Answer}
            → Answers b.history.world.shape (state_of b.history) w p
            (ask_process b.history.world.shape (next_name b.history.world caller) op
            (process_node b.history.world p).process) answer
            → P (b.issued ++ call_if (is_issued answer) (next_call b.history.world caller op)) w
        by {w} {answer} (Idle same idle) =
            subst (λ (t : Bool). P (b.issued ++ call_if t (next_call b.history.world caller op)) w)
            (sym (not-issued answer idle)) (stays b.issued (state_of b.history) w same holds)
        by {w} {answer} (Acts up lives acts is) =
            subst (λ (a : Answer). P (b.issued ++ call_if (is_issued a) (next_call b.history.world caller op)) w) (sym is)
            (keeps.asks b.issued (state_of b.history) w p (next_call b.history.world caller op) may.1 up lives
            (record { caller = may.0; bytes = may.2; behind = next-behind b.history.world caller op b.issued all }) holds acts)
  event-kept b (Collect caller call p) framed keeps may all holds =
      let h : History = b.history in
      by (call-comes h.world.shape h.world.nodes h.settled framed p
      (collect_from caller call (process_node h.world p).process (range_with_len 0 h.world.shape.k)) may.1
      (process_node h.world p).down (process_node h.world p).dead refl refl) where
        by : {w : State} {answer : Answer}
            → Answers b.history.world.shape (state_of b.history) w p
            (collect_from caller call (process_node b.history.world p).process (range_with_len 0 b.history.world.shape.k))
            answer
            → P (b.issued ++ []) w
        by {w} {answer} (Idle same idle) = stays b.issued (state_of b.history) w same holds
        by {w} {answer} (Acts up lives acts is) =
            subst (λ (cs : List AskedCall). P cs w) (sym (append-nil b.issued))
            (keeps.collects b.issued (state_of b.history) w p caller call may.1 up lives holds acts)
  event-kept b (Flush p) framed keeps may all holds =
      let h : History = b.history in
      by (call-comes h.world.shape h.world.nodes h.settled framed p
      (flush_process h.world.shape (process_node h.world p).process) may (process_node h.world p).down (process_node h.world p).dead
      refl refl) where
        by : {w : State} {answer : Answer}
            → Answers b.history.world.shape (state_of b.history) w p (flush_process b.history.world.shape (process_node b.history.world p).process) answer
            → P (b.issued ++ []) w
        by {w} {answer} (Idle same idle) = stays b.issued (state_of b.history) w same holds
        by {w} {answer} (Acts up lives acts is) =
            subst (λ (cs : List AskedCall). P cs w) (sym (append-nil b.issued)) (keeps.flushes b.issued (state_of b.history) w p may up lives holds acts)
  event-kept b (Trace caller call d p) framed keeps may all holds =
      let h : History = b.history in
      stays b.issued (state_of h) (state_of (booked b (Trace caller call d p)).history)
      (trace-stays h framed caller call d.0 p may.3 (process_node h.world p).down (process_node h.world p).dead).1 holds
  event-kept b (Deliver from to) framed keeps may all holds =
      let h : History = b.history in
      by (message-comes h.world.shape h.world.nodes h.settled framed from to may.0 may.1 may.2 (process_node h.world to).down
      (process_node h.world to).dead refl refl (at [] (process_node h.world from).links (index_of h.world.shape to)) refl) where
        by : {w : State} → Delivers b.history.world.shape (state_of b.history) w from to → P (b.issued ++ []) w
        by {w} (Nothing same) = stays b.issued (state_of b.history) w same holds
        by {w} (Takes u m up lives pops acts) =
            subst (λ (cs : List AskedCall). P cs w) (sym (append-nil b.issued))
            (keeps.receives b.issued (state_of b.history) u w from to m may.0 may.1 may.2 up lives holds pops acts)
  event-kept b (Fail p keep) framed keeps may all holds =
      let h : History = b.history in
      by (failure-comes h.world.shape h.world.nodes h.settled framed p keep may (process_node h.world p).dead refl) where
        by : {w : State} → Fails b.history.world.shape (state_of b.history) w p keep → P (b.issued ++ []) w
        by {w} (Was same) = stays b.issued (state_of b.history) w same holds
        by {w} (Dies died) =
            subst (λ (cs : List AskedCall). P cs w) (sym (append-nil b.issued)) (keeps.dies b.issued (state_of b.history) w p keep may holds died)

pub calls_are_kept : CallsAreKept
calls_are_kept s P keeps es run =
    book_always s (λ b. P b.issued (state_of b.history)) (keeps.opens (state_of (no_book s).history) (runs_move s).opens)
    (λ done e now more may holds.
    let b : Book = book_of s done in
    event-kept P b e (book-framed s done now) (subst (λ (t : Dimensions). KeepsCalls t P) (sym (book-shape s done)) keeps)
    (subst (λ (w : World). MayCome w e) (sym (book-world s done)) may) (asked_always s done now) holds) es run
