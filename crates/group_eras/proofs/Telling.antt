-- What an ask is told is what the log over all eras has.
use Rattle.std.proofs.Common.{ℕ, zero, suc, ◌≡◌, ◌<◌, Bool, false, List, [], ◌∷◌, length, map, Some, if◌then◌else◌, refl, sym, ap, ap₂, subst, ◌∙◌, arith}
use Rattle.group_eras.proofs.Lists.{contains-map, take-front, take-whole}
use Rattle.std.specs.Prelude.{Contains, slice_index}
use Rattle.group_types.specs.Dimensions.{Dimensions}
use Rattle.group_types.specs.Hash.{home_of}
use Rattle.group_types.specs.Lists.{at}
use Rattle.group_types.specs.Names.{IsProcess, of_rank}
use Rattle.group_types.specs.declared.process.ProcessId.{ProcessId}
use Rattle.memc_table.specs.Act.{key_of}
use Rattle.memc_table.specs.Asked.{Asked}
use Rattle.memc_table.specs.Contents.{count_of, empty_table}
use Rattle.memc_table.specs.declared.reply.Reply.{Reply}
use Rattle.group_calls.specs.Log.{table_of}
use Rattle.group_calls.specs.Turns.{CallName, Turn, call_entry}
use Rattle.group_calls.specs.Within.{IsAsk}
use Rattle.group_calls.specs.declared.entry.Entry.{Entry}
use Rattle.group_calls.specs.declared.event.Answer.{Answer}
use Rattle.group_calls.specs.declared.event.Answer.TheVariants as says
use Rattle.group_calls.specs.declared.event.Cause.TheVariants as cause
use Rattle.group_calls.specs.declared.event.Event.{Event}
use Rattle.group_calls.specs.declared.event.Event.TheVariants.{Ask}
use Rattle.group_run.specs.Applying.{replica_of}
use Rattle.group_run.specs.Causes.{AskCause, asks_among, home_in}
use Rattle.group_run.specs.Headline.{KeepsAll, MayCome}
use Rattle.group_run.specs.Meaning.{IsDown, count_logged, is_dead, process_of, updates_of}
use Rattle.group_run.specs.Replica.{last_of}
use Rattle.group_run.specs.World.{AskedCall, World, after, next_name, opening, step, turns_of}
use Rattle.law_updates.specs.Store.{no_store}
use Rattle.law_log.proofs.Entries.{call-refl}
use Rattle.law_log.proofs.Tables.{home-below}
use Rattle.law_log.proofs.Values.{shown-long}
use Rattle.law_log.proofs.Written.{log_shows_settled}
use Rattle.law_headline.proofs.All.{whole-always}
use Rattle.law_headline.proofs.Headlines.{headline_always}
use Rattle.law_headline.proofs.Promises.{stands-always}
use Rattle.law_answers.proofs.Asks.{asks_always}
use Rattle.group_eras.specs.Eras.{EraEntry, Eras, era_step, turn_in}
use Rattle.group_eras.specs.Numbers.{RepliesAreLogged, TicketsAreNew}
use Rattle.group_eras.specs.Promise.{table_over}
use Rattle.group_eras.specs.Told.{Bases, based_reply, op_for_era, op_out, told_answer, told_entry, with_base, without_base}
use Rattle.group_eras.proofs.Asking.{turns-asks}
use Rattle.group_eras.proofs.Joins.{key-cas}
use Rattle.group_eras.proofs.Making as making
use Rattle.group_eras.proofs.Making.{asked-among, may-in}
use Rattle.group_eras.proofs.Promises.{led-stands}
use Rattle.group_eras.proofs.Resting.{settled_of, ties-of}
use Rattle.group_eras.proofs.Standing.{Stands, own_table}

-- what is told as a reply was one, and what is told as a ticket
told-replied : (bases : Bases) (d : ℕ) (a : Answer) (r : Reply) → told_answer bases d a ≡ says.Reply r → (x : Reply)
    × (a ≡ says.Reply x) × (based_reply bases d x ≡ r)
told-replied bases d (says.Reply x) r is = (x, refl, cc is)
told-replied bases d (says.Ticket n) r is = absurd (cc is)
told-replied bases d (says.Retry (cause.Pending e n)) r is = absurd (cc is)
told-replied bases d (says.Retry (cause.Block b)) r is = absurd (cc is)
told-replied bases d says.NotYet r is = absurd (cc is)
told-replied bases d says.NoSpace r is = absurd (cc is)
told-replied bases d says.Moved r is = absurd (cc is)
told-replied bases d says.Lost r is = absurd (cc is)
told-replied bases d says.Down r is = absurd (cc is)
told-replied bases d says.Idle r is = absurd (cc is)
told-replied bases d says.Stranger r is = absurd (cc is)
told-replied bases d says.Done r is = absurd (cc is)
told-replied bases d says.AlreadyDead r is = absurd (cc is)
told-replied bases d says.Gone r is = absurd (cc is)
told-replied bases d (says.Stale n) r is = absurd (cc is)

told-ticket : (bases : Bases) (d : ℕ) (a : Answer) (n : ℕ) → told_answer bases d a ≡ says.Ticket n → (x : ℕ) × (a ≡ says.Ticket x) × (with_base bases d x ≡ n)
told-ticket bases d (says.Ticket x) n is = (x, refl, cc is)
told-ticket bases d (says.Reply x) n is = absurd (cc is)
told-ticket bases d (says.Retry (cause.Pending e k)) n is = absurd (cc is)
told-ticket bases d (says.Retry (cause.Block b)) n is = absurd (cc is)
told-ticket bases d says.NotYet n is = absurd (cc is)
told-ticket bases d says.NoSpace n is = absurd (cc is)
told-ticket bases d says.Moved n is = absurd (cc is)
told-ticket bases d says.Lost n is = absurd (cc is)
told-ticket bases d says.Down n is = absurd (cc is)
told-ticket bases d says.Idle n is = absurd (cc is)
told-ticket bases d says.Stranger n is = absurd (cc is)
told-ticket bases d says.Done n is = absurd (cc is)
told-ticket bases d says.AlreadyDead n is = absurd (cc is)
told-ticket bases d says.Gone n is = absurd (cc is)
told-ticket bases d (says.Stale k) n is = absurd (cc is)

module _ (e : Eras) (stands : Stands e) (caller : ℕ) (op : Asked) (p : ProcessId) (may : MayCome e.world (Ask caller op p)) where
  abbrev k : ℕ
  k = e.world.shape.k

  abbrev d : ℕ
  d = home_of (key_of op.act) e.world.shape.k

  abbrev s : Dimensions
  s = e.world.shape

  abbrev event : Event
  event = Ask caller op p

  abbrev came : Asked
  came = op_for_era e.bases e.world.shape.k op

  abbrev name : CallName
  name = next_name e.world caller

  abbrev turn : Turn
  turn = turn_in e (Ask caller op p)

  asks : IsAsk (turns_of s (making.events e stands.era event may)) (length stands.era.events)
      (turn_in e (Ask caller op p)) (next_name e.world caller) (op_for_era e.bases e.world.shape.k op)
  asks = record {
    there = making.last-turn e stands.era event may;
    at = p;
    event = refl;
    place = turns-asks caller (length stands.era.events) (opening s) (making.events e stands.era event may)
        ∙ ap (asks_among caller) (take-front stands.era.events (Ask caller came p ∷ []) (length stands.era.events)
        (omega arith) ∙ take-whole stands.era.events (length stands.era.events) (omega arith))
        ∙ sym (asked-among s stands.era.events stands.era.run caller) ∙ sym (ap (λ (w : World). at 0 w.asked caller) stands.era.stands);
  }

  pub replied : (r : Reply) → (era_step e (Ask caller op p)).answer ≡ says.Reply r
      → Contains (era_step e (Ask caller op p)).logged (e.era, call_entry (next_name e.world caller) op r)
  replied r is =
      let was = told-replied e.bases d turn.answer r is in
      let x : Reply = was.0 in
      let entry : Entry = call_entry name came x in
      let logged : Contains turn.logged entry = (making.headline e stands.era event may).one_log.within.at_once
      (length stands.era.events) turn name came x asks was.1 in
      let c : AskedCall = record { name = name; op = op } in
      let tell : Entry → EraEntry = λ y. (e.era, told_entry e.bases k (Some c) y) in
      let told : told_entry e.bases k (Some c) entry ≡ call_entry name op r
      = ap₂ (λ (o : Asked) (y : Reply). call_entry name o y) (ap (λ (b : Bool). if b then op else op_out e.bases k came) (call-refl name))
      (ap (λ (key : List ℕ). based_reply e.bases (home_of key k) x) (key-cas (without_base e.bases d) op.act) ∙ was.2) in
      subst (λ (y : Entry). Contains (map tell turn.logged) (e.era, y)) told (contains-map tell turn.logged entry logged)

  pub ticketed : (n : ℕ) → (era_step e (Ask caller op p)).answer ≡ says.Ticket n → count_of (table_over e) (key_of op.act) < n
  ticketed n is = by (told-ticket e.bases d turn.answer n is) where
    w : World
    w = after e.world.shape stands.era.events

    below : d < s.k
    below = home-below (key_of op.act) s.k stands.era.run.0.k.0

    count : count_of (table_over e) (key_of op.act) ≡ with_base e.bases d (count_logged e.world d)
    count =
        let j = stands.joined stands.era.run.0.k.0 in
        let over : count_of (table_over e) (key_of op.act) ≡ slice_index (table_over e).counts d =
        ap (λ (m : ℕ). slice_index (table_over e).counts (home_of (key_of op.act) m)) j.many_all in
        let both = j.counts d below in
        let own : slice_index (own_table e).counts d
        ≡ slice_index (table_of (empty_table s.k) (after s stands.era.events).log).counts d =
        ap (λ (v : World). slice_index (table_of (empty_table s.k) v.log).counts d) stands.era.stands in
        let ties = (ties-of s stands.era.events stands.era.run).counts d below in
        let shown = shown-long s d (no_store s) (settled_of s stands.era.events d)
        (updates_of (after s stands.era.events) d)
        (log_shows_settled s (stands-always s (whole-always s)) stands.era.events stands.era.run d below).updates in
        let logged : count_logged e.world d ≡ count_logged (after s stands.era.events) d = ap (λ (v : World). count_logged v d) stands.era.stands in
        omega (arith, over, both, own, ties, shown, logged)

    undone : ¬ (IsDown e.world) → (r : ℕ) → IsProcess e.world.shape (of_rank d r) → is_dead e.world (of_rank d r)
        ≡ false → KeepsAll e.world d (replica_of (process_of e.world (of_rank d r)) d)
    undone up r pin lives = subst (λ (v : World). ¬ (IsDown v) → (r : ℕ) → IsProcess v.shape (of_rank d r)
        → is_dead v (of_rank d r) ≡ false → d < v.shape.k → KeepsAll v d (replica_of (process_of v (of_rank d r)) d))
        (sym stands.era.stands) at-run up r pin lives below
      where
        at-run : ¬ (IsDown (after e.world.shape stands.era.events)) → (r : ℕ)
            → IsProcess (after e.world.shape stands.era.events).shape (of_rank d r)
            → is_dead (after e.world.shape stands.era.events) (of_rank d r) ≡ false
            → d < (after e.world.shape stands.era.events).shape.k
            → KeepsAll (after e.world.shape stands.era.events) d (replica_of (process_of (after e.world.shape stands.era.events) (of_rank d r)) d)
        at-run up zero pin lives low = ((headline_always s stands.era.events stands.era.run).not_undone up).at_data d (pin, lives)
        at-run up (suc i) pin lives low = ((headline_always s stands.era.events stands.era.run).not_undone up).at_parity i d low (pin, lives)

    home-same : home_in e.world (op_for_era e.bases e.world.shape.k op) ≡ d
    home-same = ap (λ (key : List ℕ). home_of key k) (key-cas (without_base e.bases d) op.act)

    causes : AskCause e.world (step e.world (Ask caller (op_for_era e.bases e.world.shape.k op) p)).world p
        (op_for_era e.bases e.world.shape.k op) (turn_in e (Ask caller op p)).answer
    causes = subst (λ (v : World). MayCome v (Ask caller came p) → AskCause v (step v (Ask caller came p)).world p came
        (step v (Ask caller came p)).turn.answer) (sym stands.era.stands)
        (asks_always s stands.era.events stands.era.run caller came p) (may-in e.bases k e.world event may)

    by : (x : ℕ) × (turn.answer ≡ says.Ticket x) × (with_base e.bases d x ≡ n) → count_of (table_over e) (key_of op.act) < n
    by was =
        let cause-is : AskCause e.world (step e.world (Ask caller came p)).world p came (says.Ticket was.0) =
        subst (AskCause e.world (step e.world (Ask caller came p)).world p came) was.1 causes in
        let ready = cause-is.1 in
        let next = cause-is.2.next in
        let name-is : p ≡ of_rank d ready.rank = ready.name ∙ ap (λ (y : ℕ). of_rank y ready.rank) home-same in
        let lives : is_dead e.world (of_rank d ready.rank) ≡ false = ap (is_dead e.world) (sym name-is) ∙ cause-is.0.process in
        let keeps = undone cause-is.0.group ready.rank (subst (IsProcess e.world.shape) name-is may.1) lives in
        let reached = keeps.reached in
        let same : last_of (replica_of (process_of e.world p) (home_in e.world came)) ≡ last_of (replica_of (process_of e.world (of_rank d ready.rank)) d)
        = ap (λ (y : ℕ). last_of (replica_of (process_of e.world p) y)) home-same
        ∙ ap (λ (q : ProcessId). last_of (replica_of (process_of e.world q) d)) name-is in
        let told = was.2 in
        let over = count in
        omega (arith, next, reached, same, told, over)

pub replies_are_logged : RepliesAreLogged
replies_are_logged e caller op p r led may is = replied e (led-stands e led) caller op p may.may r is

pub tickets_are_new : TicketsAreNew
tickets_are_new e caller op p n led may is = ticketed e (led-stands e led) caller op p may.may n is
