-- A reply to an ask is the one of the entry that this event logs.
use Rattle.std.proofs.Common.{ℕ, zero, suc, ◌≡◌, ◌+◌, ◌<◌, ◌≤◌, Bool, true, false, List, [], ◌∷◌, ◌++◌, length, ◌⊎◌}
use Rattle.std.proofs.Common.{inl, inr, Some, refl, sym, ap, subst, ◌∙◌, arith}
use Rattle.std.specs.Prelude.{Contains}
use Rattle.std.specs.List.{range_with_len}
use Rattle.std.proofs.lemmas.List.Elements.{Contains-append_cases, Contains-append_left, Contains-append_right}
use Rattle.group_types.specs.Hash.{home_of}
use Rattle.group_types.specs.Lists.{at}
use Rattle.group_types.specs.Names.{IsProcess}
use Rattle.group_types.specs.declared.process.ProcessId.{ProcessId}
use Rattle.memc_table.specs.Act.{key_of}
use Rattle.memc_table.specs.Asked.{Asked}
use Rattle.memc_table.specs.declared.reply.Reply.{Reply}
use Rattle.group_message.specs.declared.update.Update.{Update}
use Rattle.group_calls.specs.Turns.{accepts, call_entry, name_of}
use Rattle.group_calls.specs.declared.entry.Entry.{Entry}
use Rattle.group_calls.specs.declared.event.Answer.{Answer}
use Rattle.group_calls.specs.declared.event.Answer.TheVariants as says
use Rattle.group_calls.specs.declared.event.Event.TheVariants.{Ask}
use Rattle.law_moves.proofs.Events.{FramedHistory}
use Rattle.law_moves.proofs.Reading.{grown-is}
use Rattle.law_moves.specs.State.{State, state_of}
use Rattle.group_run.specs.Applying.{Settlement}
use Rattle.group_run.specs.Asking.{ask_process}
use Rattle.group_run.specs.History.{History}
use Rattle.group_run.specs.World.{AskedCall, Ledger, Ticket, group_step, is_issued, ledger_after, ledger_with}
use Rattle.group_run.specs.World.{logged_at_once, new_ones, next_name, process_node, refusal_logged, settled_in, step}
use Rattle.group_run.specs.World.{entries_for}
use Rattle.law_log.specs.Book.{Book, booked, call_if}
use Rattle.law_log.proofs.Ties.{EntryStands, HasEntry}
use Rattle.law_log.proofs.Asks.{AnsweredBy, ask-answered}
use Rattle.law_log.proofs.Calls.{Acts, Answers, Idle, call-comes, each-contained, next_call}
use Rattle.law_log.proofs.Entries.{same-issued}
use Rattle.law_log.proofs.Logging.{LogsOf, StandsIn, idle-no-reply}
use Rattle.law_log.proofs.Logs.{next-new}
use Rattle.law_log.proofs.Tables.{home-below}

-- what was logged first stays
ledger-front : (tickets : List Ticket) (t : List Settlement) (n a : ℕ) (ledger : Ledger) (e : Entry)
    → Contains ledger.logged e → Contains (ledger_after tickets t (range_with_len a n) ledger).logged e
ledger-front tickets t zero a ledger e there = there
ledger-front tickets t (suc n) a ledger e there =
    let news : List Update = new_ones (length (at [] ledger.places a)) (settled_in a t) in
    ledger-front tickets t n (a + 1) (ledger_with tickets a news ledger) e
    (subst (λ (es : List Entry). Contains es e) (sym (grown-is ledger.logged (entries_for tickets news)))
    (Contains-append_left ledger.logged (entries_for tickets news) e there))

-- a refusal is logged at once
refused-at-once : (c : AskedCall) (answer : Answer) (reply : Reply) → answer ≡ says.Reply reply → accepts reply ≡ false
    → Contains (logged_at_once (Some c) answer) (call_entry c.name c.op reply)
refused-at-once c answer reply is refused =
    subst (λ (a : Answer). Contains (logged_at_once (Some c) a) (call_entry c.name c.op reply)) (sym is)
    (subst (λ (b : Bool). Contains (refusal_logged b c reply) (call_entry c.name c.op reply)) (sym refused) (0, omega arith, refl))

module _ (b : Book) (framed : FramedHistory b.history) (stands : StandsIn b) (some : 1 ≤ b.history.world.shape.k)
    (caller : ℕ) (op : Asked) (p : ProcessId) (pin : IsProcess b.history.world.shape p)
    (logs : LogsOf b) (later : LogsOf (booked b (Ask caller op p))) (reply : Reply)
    (answered : (group_step b.history.world (Ask caller op p)).answer ≡ says.Reply reply) where
  abbrev c : AskedCall
  c = next_call b.history.world caller op

  abbrev d : ℕ
  d = home_of (key_of op.act) b.history.world.shape.k

  abbrev turn_log : List Entry
  turn_log = (step b.history.world (Ask caller op p)).turn.logged

  -- the update that it is answered by
  answered-by : accepts reply ≡ true → AnsweredBy (at [] (booked b (Ask caller op p)).history.settled d) c.name reply
  answered-by accepted =
      let h : History = b.history in
      by (call-comes h.world.shape h.world.nodes h.settled framed p
      (ask_process h.world.shape (next_name h.world caller) op (process_node h.world p).process) pin
      (process_node h.world p).down (process_node h.world p).dead refl refl) answered
    where
      by : {w : State} {answer : Answer}
          → Answers b.history.world.shape (state_of b.history) w p
          (ask_process b.history.world.shape (next_name b.history.world caller) op
          (process_node b.history.world p).process) answer
          → answer ≡ says.Reply reply → AnsweredBy (w.settled (home_of (key_of op.act) b.history.world.shape.k))
          (next_call b.history.world caller op).name reply
      by {w} {answer} (Idle same idle) said = absurd (idle-no-reply answer reply idle said)
      by {w} {answer} (Acts up lives acts its) said =
          let low = home-below (key_of op.act) b.history.world.shape.k some in
          subst (λ (us : List Update). AnsweredBy us (next_call b.history.world caller op).name reply)
          (sym (acts.settled (home_of (key_of op.act) b.history.world.shape.k) low))
          (ask-answered b.history.world.shape b.issued
          (at [] b.history.settled (home_of (key_of op.act) b.history.world.shape.k))
          (next_call b.history.world caller op) (process_node b.history.world p).process
          (λ head heads. stands.heads up p (home_of (key_of op.act) b.history.world.shape.k) head pin lives low heads)
          reply (sym its ∙ said) accepted)

  -- the call was issued
  own-issued : accepts reply ≡ true → Contains (booked b (Ask caller op p)).issued c
  own-issued accepted =
      let test : is_issued (group_step b.history.world (Ask caller op p)).answer ≡ true = ap is_issued answered ∙ accepted in
      subst (λ (t : Bool). Contains (b.issued ++ call_if t c) c) (sym test) (Contains-append_right b.issued (c ∷ []) c (0, omega arith, refl))

  accepted-logged : accepts reply ≡ true → Contains turn_log (call_entry c.name op reply)
  accepted-logged accepted =
      let by : AnsweredBy (at [] (booked b (Ask caller op p)).history.settled d) c.name reply = answered-by accepted in
      let has : HasEntry (booked b (Ask caller op p)).history.world.log by.update
      = each-contained (HasEntry (booked b (Ask caller op p)).history.world.log)
      (at [] (booked b (Ask caller op p)).history.settled d) by.update (later.stands.entered d) by.there in
      let named : name_of has.entry ≡ c.name = has.named ∙ by.named in
      let replied : has.entry.reply ≡ reply = has.replied ∙ by.replied in
      let whole : Contains (b.history.world.log ++ turn_log) has.entry =
      subst (λ (es : List Entry). Contains es has.entry) (grown-is b.history.world.log turn_log) has.there in
      let op_is : has.entry.op ≡ op = same-op has.entry named replied
      (each-contained (EntryStands b.history.world.shape (booked b (Ask caller op p)).issued
      (booked b (Ask caller op p)).history.settled) (booked b (Ask caller op p)).history.world.log has.entry
      later.stands.entries has.there) in
      let is : has.entry ≡ call_entry c.name op reply = λ i. call_entry (named i) (op_is i) (replied i) in
      subst (Contains turn_log) is (in-turn has.entry named (Contains-append_cases b.history.world.log turn_log has.entry whole))
    where
      in-turn : (e : Entry) → name_of e ≡ (next_call b.history.world caller op).name → Contains b.history.world.log e
          ⊎ Contains (step b.history.world (Ask caller op p)).turn.logged e
          → Contains (step b.history.world (Ask caller op p)).turn.logged e
      in-turn e named (inr here) = here
      in-turn e named (inl old) =
          let below = each-contained (λ x. x.call < at 0 b.history.world.asked x.caller) b.history.world.log e logs.entries_asked old in
          absurd (next-new b.history.world.asked (next_call b.history.world caller op) (name_of e) refl below named)

      same-op : (e : Entry) → name_of e ≡ (next_call b.history.world caller op).name → e.reply ≡ reply
          → EntryStands b.history.world.shape (booked b (Ask caller op p)).issued (booked b (Ask caller op p)).history.settled e → e.op ≡ op
      same-op e named replied (inl of) =
          ap (λ (x : AskedCall). x.op)
          (same-issued (booked b (Ask caller op p)).issued (record { name = name_of e; op = e.op })
          (next_call b.history.world caller op) later.differ of.call (own-issued accepted) named)
      same-op e named replied (inr refused) = let no = refused.refused in let same = ap accepts replied in absurd (cc (no, same, accepted))

  pub at-once : Contains turn_log (call_entry c.name op reply)
  at-once = by (accepts reply) refl where
    by : (t : Bool) → accepts reply ≡ t → Contains (step b.history.world (Ask caller op p)).turn.logged
        (call_entry (next_call b.history.world caller op).name op reply)
    by true test = accepted-logged test
    by false test =
        ledger-front _ (group_step b.history.world (Ask caller op p)).settled b.history.world.shape.k 0
        (record {
          logged = logged_at_once (Some (next_call b.history.world caller op))
              (group_step b.history.world (Ask caller op p)).answer;
          places = b.history.world.places;
        })
        (call_entry (next_call b.history.world caller op).name op reply)
        (refused-at-once (next_call b.history.world caller op) (group_step b.history.world (Ask caller op p)).answer
        reply answered test)
