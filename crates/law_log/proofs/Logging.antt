-- The log along every run.
use Rattle.std.proofs.Common.{false, ℕ, suc, map, ◌≡◌, ◌≤◌, List, [], ◌∷◌, ◌++◌, length, ◌⊎◌, inl, inr, Some, refl, sym, ap, subst, ◌∙◌}
use Rattle.std.proofs.lemmas.List.{append_assoc, append-nil}
use Rattle.group_types.specs.Dimensions.{Dimensions}
use Rattle.group_types.specs.Hash.{home_of}
use Rattle.group_types.specs.Lists.{at}
use Rattle.group_types.specs.Names.{IsProcess}
use Rattle.group_types.specs.declared.process.ProcessId.{ProcessId}
use Rattle.group_types.proofs.Lists.{at-replicate}
use Rattle.group_types.specs.Each.{Each}
use Rattle.memc_table.specs.Act.{key_of}
use Rattle.memc_table.specs.Asked.{Asked}
use Rattle.memc_table.specs.declared.reply.Reply.{Reply}
use Rattle.memc_table.specs.declared.ruling.Ruling.TheVariants.{Refused}
use Rattle.group_message.specs.declared.update.Update.{Update}
use Rattle.group_calls.specs.Turns.{Turn, accepts, call_entry, log_of}
use Rattle.group_calls.specs.declared.entry.Entry.{Entry}
use Rattle.group_calls.specs.declared.event.Answer.{Answer}
use Rattle.group_calls.specs.declared.event.Answer.TheVariants as says
use Rattle.group_calls.specs.declared.event.Event.{Event}
use Rattle.group_calls.specs.declared.event.Event.TheVariants.{Ask, Collect, Deliver, Fail, Flush, Trace}
use Rattle.law_moves.proofs.Events.{FramedHistory}
use Rattle.law_moves.proofs.Reading.{grown-is, some-same}
use Rattle.law_moves.specs.State.{State, state_of}
use Rattle.group_run.specs.Asking.{ask_process}
use Rattle.group_run.specs.Headline.{IsRun, MayCome}
use Rattle.group_run.specs.History.{History}
use Rattle.group_run.specs.Replica.{run_of}
use Rattle.group_run.specs.World.{AskedCall, World, after, call_of, group_step, next_name, process_node, step}
use Rattle.law_updates.specs.Right.{ruling_in}
use Rattle.law_updates.specs.Store.{store_after}
use Rattle.law_log.specs.Book.{Book, book_of, booked, no_book}
use Rattle.law_log.specs.Stands.{Stands, StandsAlways}
use Rattle.law_log.proofs.Ties.{HasEntry}
use Rattle.law_log.proofs.Asks.{ask-refused}
use Rattle.law_log.proofs.Books.{book-append, book-framed, book-shape, book-world, book_always}
use Rattle.law_log.proofs.Calls.{Answers, Acts, AreAsked, Idle, asked-next, asked_always, call-comes, next_call}
use Rattle.law_log.proofs.Logs.{IsNext, Logs, OfUpdates, RefusesWell, logs-next}
use Rattle.law_log.proofs.Tables.{home-below, ties-opening}

-- what stands of the log of a book
abbrev pub LogsOf : Book → Type 0
LogsOf b = Logs b.history.world.shape b.issued b.history.world.log b.history.settled b.history.world.tickets b.history.world.places b.history.world.asked

abbrev pub StandsIn : Book → Type 0
StandsIn b = Stands b.history.world.shape b.issued (state_of b.history)

-- the call of an event is the next of its caller
call-next : (w : World) (e : Event) → IsNext w.asked (call_of w e)
call-next w (Ask caller op p) = refl
call-next w (Collect caller call p) = tt
call-next w (Deliver from to) = tt
call-next w (Fail p keep) = tt
call-next w (Flush p) = tt
call-next w (Trace caller call d p) = tt

-- the answers that aren't of a process
pub idle-no-reply : (answer : Answer) (reply : Reply) → (answer ≡ says.Down) ⊎ (answer ≡ says.Lost) → answer ≡ says.Reply reply → ⊥
idle-no-reply answer reply (inl down) is = cc (down, is)
idle-no-reply answer reply (inr lost) is = cc (lost, is)

module _ (b : Book) (framed : FramedHistory b.history) (stands : StandsIn b) (some : 1 ≤ b.history.world.shape.k) where
  -- a refusal that an ask is given is the table's
  ask-refuses : (caller : ℕ) (op : Asked) (p : ProcessId) → IsProcess b.history.world.shape p
      → RefusesWell b.history.world.shape b.history.settled (Some (next_call b.history.world caller op)) (group_step b.history.world (Ask caller op p)).answer
  ask-refuses caller op p pin c reply is answered refused =
      let h : History = b.history in
      subst (λ (x : AskedCall). ruling_in (store_after h.world.shape (home_of (key_of x.op.act) h.world.shape.k)
      (at [] h.settled (home_of (key_of x.op.act) h.world.shape.k)))
      (suc (length (at [] h.settled (home_of (key_of x.op.act) h.world.shape.k)))) x.op ≡ Refused reply) (some-same (next_call h.world caller op) c is)
      (by (call-comes h.world.shape h.world.nodes h.settled framed p
      (ask_process h.world.shape (next_name h.world caller) op (process_node h.world p).process) pin
      (process_node h.world p).down (process_node h.world p).dead refl refl) answered)
    where
      by : {w : State} {answer : Answer}
          → Answers b.history.world.shape (state_of b.history) w p
          (ask_process b.history.world.shape (next_name b.history.world caller) op
          (process_node b.history.world p).process) answer
          → answer ≡ says.Reply reply
          → ruling_in (store_after b.history.world.shape (home_of (key_of op.act) b.history.world.shape.k)
          (at [] b.history.settled (home_of (key_of op.act) b.history.world.shape.k)))
          (suc (length (at [] b.history.settled (home_of (key_of op.act) b.history.world.shape.k)))) op ≡ Refused reply
      by {w} {answer} (Idle same idle) said = absurd (idle-no-reply answer reply idle said)
      by {w} {answer} (Acts up lives acts its) said =
          ask-refused b.history.world.shape b.issued (at [] b.history.settled (home_of (key_of op.act) b.history.world.shape.k))
          (next_call b.history.world caller op) (process_node b.history.world p).process
          (λ head heads. stands.heads up p (home_of (key_of op.act) b.history.world.shape.k) head pin lives
          (home-below (key_of op.act) b.history.world.shape.k some) heads)
          reply (sym its ∙ said) refused (suc (length (at [] b.history.settled (home_of (key_of op.act) b.history.world.shape.k))))

  refuses : (e : Event) → MayCome b.history.world e → RefusesWell b.history.world.shape b.history.settled
      (call_of b.history.world e) (group_step b.history.world e).answer
  refuses (Ask caller op p) may = ask-refuses caller op p may.1
  refuses (Collect caller call p) may = λ c reply is. absurd (cc is)
  refuses (Deliver from to) may = λ c reply is. absurd (cc is)
  refuses (Fail p keep) may = λ c reply is. absurd (cc is)
  refuses (Flush p) may = λ c reply is. absurd (cc is)
  refuses (Trace caller call d p) may = λ c reply is. absurd (cc is)

  pub logs-event : (e : Event) → MayCome b.history.world e → StandsIn (booked b e) → AreAsked b.history.world.asked b.issued → LogsOf b
      → (E : List Entry → List (List Update) → Type 0) → E b.history.world.log b.history.settled → OfUpdates b.history.world.shape (booked b e).issued E
      → ((c : AskedCall) (reply : Reply) → call_of b.history.world e ≡ Some c → (group_step b.history.world e).answer ≡ says.Reply reply → accepts reply ≡ false
      → E b.history.world.log b.history.settled → E (b.history.world.log ++ call_entry c.name c.op reply ∷ []) b.history.settled)
      → LogsOf (booked b e) × E (booked b e).history.world.log (booked b e).history.settled
  logs-event e may later all logs E before of_update of_refusal =
      let w : World = b.history.world in
      logs-next w.shape some b.issued w.log b.history.settled w.tickets w.places w.asked logs (call_of w e)
      (group_step w e).answer (group_step w e).settled framed.settled_many
      (λ d low. (later.settled d low).steps) (λ d low. (later.settled d low).rising) (asked-next b e all) all
      (call-next w e) (refuses e may) E before of_update of_refusal

-- the log at the start
pub logs-opening : (s : Dimensions) → LogsOf (no_book s)
logs-opening s = record {
  stands = record {
    legal = tt;
    ties = ties-opening s;
    entries = tt;
    once = tt;
    entered = λ d. subst (λ (us : List Update). Each (HasEntry []) us) (sym (at-replicate [] s.k d)) tt;
  };
  has_tickets = tt;
  placed = λ d. at-replicate [] s.k d ∙ sym (ap (map (λ u. run_of u.body)) (at-replicate [] s.k d));
  entries_asked = tt;
  differ = tt;
}

module _ (s : Dimensions) (always : StandsAlways s) where
  pub stands-in : (es : List Event) → IsRun s es → StandsIn (book_of s es)
  stands-in es run = subst (λ (t : Dimensions). Stands t (book_of s es).issued (state_of (book_of s es).history)) (sym (book-shape s es)) (always es run)

  pub stands-next : (es : List Event) (e : Event) → IsRun s (es ++ e ∷ []) → StandsIn (booked (book_of s es) e)
  stands-next es e run = subst StandsIn (book-append (no_book s) es (e ∷ [])) (stands-in (es ++ e ∷ []) run)

  pub some-partition : (es : List Event) → IsRun s es → 1 ≤ (book_of s es).history.world.shape.k
  some-partition es run = subst (λ (t : Dimensions). 1 ≤ t.k) (sym (book-shape s es)) run.0.k.0

  pub may-here : (es : List Event) (e : Event) → MayCome (after s es) e → MayCome (book_of s es).history.world e
  may-here es e may = subst (λ (w : World). MayCome w e) (sym (book-world s es)) may

  pub logs_always : (es : List Event) → IsRun s es → LogsOf (book_of s es)
  logs_always es run = book_always s LogsOf (logs-opening s) (λ done e now more may logs.
      (logs-event (book_of s done) (book-framed s done now) (stands-in done now) (some-partition done now) e
      (may-here done e may) (stands-next done e more) (asked_always s done now) logs
      (λ log settled. Unit {0}) tt (λ log settled d u low many stands fits step said. tt) (λ c reply is answered refused said. tt)).0) es run

-- the log of turns behind others
pub log-append : (turns : List Turn) (turn : Turn) → log_of (turns ++ turn ∷ []) ≡ log_of turns ++ turn.logged
log-append [] turn = append-nil turn.logged ∙ empty turn.logged where
  empty : (xs : List Entry) → xs ≡ [] ++ xs
  empty xs = refl
log-append (x ∷ xs) turn = ap (λ (rest : List Entry). x.logged ++ rest) (log-append xs turn) ∙ sym (append_assoc x.logged (log_of xs) turn.logged)

-- the log that the group keeps is that of its turns
pub log_kept : (s : Dimensions) (es : List Event) → IsRun s es → (book_of s es).history.world.log ≡ log_of (book_of s es).turns
log_kept s es run = book_always s (λ b. b.history.world.log ≡ log_of b.turns) refl (λ done e now more may same.
    let b : Book = book_of s done in
    let turn : Turn = (step b.history.world e).turn in
    grown-is b.history.world.log turn.logged ∙ ap (λ (log : List Entry). log ++ turn.logged) same ∙ sym (log-append b.turns turn)) es run
