-- All that stands at every moment, with sessions and the blocks that they rebuild: every move keeps it.
use Rattle.std.proofs.Common.{ℕ, ◌≡◌, ◌≢◌, ◌<◌, ◌≤◌, ◌==◌, true, false, List, [], ◌++◌, Some, None, ◌⊎◌, inl, inr, refl, sym, ap, subst, ◌∙◌, arith}
use Rattle.std.specs.Prelude.{Contains}
use Rattle.std.specs.List.{range_with_len}
use Rattle.group_types.specs.Dimensions.{Dimensions}
use Rattle.group_types.specs.Hash.{home_of}
use Rattle.group_types.specs.Names.{IsProcess}
use Rattle.group_types.specs.Shape.{IsShape}
use Rattle.group_types.specs.declared.process.ProcessId.{ProcessId}
use Rattle.group_types.specs.declared.process.ProcessId.TheVariants.{DataNode, ParityNode}
use Rattle.group_types.specs.declared.run.Run.{Run}
use Rattle.membership.specs.Members.{knows_dead}
use Rattle.memc_table.specs.Act.{key_of}
use Rattle.group_message.specs.declared.message.Message.{Message}
use Rattle.group_message.specs.declared.update.Update.{Update}
use Rattle.group_calls.specs.declared.event.Event.{Event}
use Rattle.group_run.specs.Applying.{ProcessStep, head_at}
use Rattle.group_run.specs.Asking.{ask_process, collect_from, found_at}
use Rattle.group_run.specs.Deciding.{Missing}
use Rattle.group_run.specs.Headline.{IsRun}
use Rattle.group_run.specs.Leaders.{open_session, rebuilt_block}
use Rattle.group_run.specs.Process.{Gathering, Head, Process}
use Rattle.group_run.specs.Receiving.{receive}
use Rattle.group_run.specs.World.{AskedCall, flush_process, is_issued}
use Rattle.law_moves.proofs.Moves.{Acted, Asks, Collects, Died, Flushes, Popped, Treats}
use Rattle.law_moves.specs.State.{IsGroupUp, State, state_of}
use Rattle.law_moves.proofs.State.{Opens}
use Rattle.law_moves.proofs.Members.{IsParity, Members}
use Rattle.law_moves.proofs.Calls.{Seated, step-treats}
use Rattle.law_moves.proofs.Keeping as members
use Rattle.law_histories.proofs.Reach.{IsKeeper}
use Rattle.law_histories.proofs.Around.{Since}
use Rattle.law_histories.proofs.Keeping as reaching
use Rattle.law_histories.proofs.Rows.{LeadsLost}
use Rattle.law_log.specs.Book.{book_of, call_if}
use Rattle.law_log.proofs.CallWords.{IsNextCall, KeepsCalls}
use Rattle.law_log.proofs.Calls.{calls_are_kept}
use Rattle.law_bytes.proofs.Premises.{MarksNew, NextIsNew}
use Rattle.law_bytes.proofs.Finds.{found-each, if-some}
use Rattle.law_bytes.proofs.Rising.{among-contains, among-range, filter-among}
use Rattle.law_bytes.proofs.LeadingWords.{IsFor, SessionsFit, lost_by}
use Rattle.law_bytes.proofs.Fresh.{marks-new}
use Rattle.law_bytes.proofs.Leading.{fits-keeps}
use Rattle.law_bytes.proofs.Kept.{Backed, NeedsInside, StepSettles}
use Rattle.law_bytes.proofs.Rebuilt.{GivenAt, RebuildsGiven}
use Rattle.law_bytes.proofs.Stamps.{SessionsStand}
use Rattle.law_bytes.proofs.Backing.{backed-from}
use Rattle.law_bytes.proofs.PlansKeeping.{stamps_kept}
use Rattle.law_bytes.proofs.Asked.{steps_rebuild}
use Rattle.law_headline.proofs.Beside.{needs-at}
use Rattle.law_headline.proofs.Apart.{RebuildsAt, RebuiltAt}
use Rattle.law_headline.proofs.Issues.{FineIn, fine-laws, head-keeps}
use Rattle.law_headline.proofs.Joint.{LeavesEach, applies-after, asked-leaves, both_received, dead_received, home-below}
use Rattle.law_headline.proofs.Joint.{marks-received, members_received, more-fine, same_received, write-after}
use Rattle.law_headline.proofs.Offs as offs
use Rattle.law_headline.proofs.Offs.{WholeOff}
use Rattle.law_headline.proofs.Rebuilds.{NoneNew, RebuildsStill, ask-rebuilds, receive-rebuilds}
use Rattle.law_headline.proofs.Receives.{may}
use Rattle.law_headline.proofs.Rights.{unmarked}
use Rattle.law_headline.proofs.Led.{HeadsIt, LostLed, asked-led, began-led, collected-sessions, died-led, received-led, same-sessions-led}
use Rattle.law_headline.proofs.News.{HasOpen, ask-news, receive-news}
use Rattle.law_headline.proofs.Promises.{WholeAlways}

-- what is carried
pub record All (s : Dimensions) (calls : List AskedCall) (v : State) : Type 0 where
  pub group : WholeOff s calls v
  pub fits : SessionsFit s v
  pub led : LostLed s v
  pub stamps : SessionsStand s v

-- what is newly rebuilt, told of the process before the step
rebuilt-at : (s : Dimensions) (settled : ℕ → List Update) (p q : Process) (x : ProcessId) → p.name ≡ x → knows_dead p.known x ≡ false
    → ((d : ℕ) (h : Head) → d < s.k → head_at p d ≡ Some h → IsKeeper d x)
    → ((d b : ℕ) (bytes : List ℕ) → d < s.k → rebuilt_block p.as_leader d b ≡ None → rebuilt_block q.as_leader d b
    ≡ Some bytes → knows_dead p.known (DataNode d) ≡ true → HeadsIt p d)
    → ((d : ℕ) → d < s.k → (h : Head) → head_at p d ≡ Some h → RebuildsStill d p q) → ((d : ℕ) → d < s.k → Since d p q)
    → RebuildsGiven s settled p q → RebuildsAt s settled p q
rebuilt-at s settled p q x name self keeps leads still since gives d b bytes below none some = by (still d below head.0 head.1) where
  gave : GivenAt s settled p.known q d b bytes
  gave = gives d b bytes below none some

  head : HeadsIt p d
  head = leads d b bytes below none some gave.lost

  parity : (y : ProcessId) → x ≡ y → IsParity p.name
  parity (ParityNode i) is = subst IsParity (sym (name ∙ is)) tt
  parity (DataNode e) is =
      let own : e ≡ d = subst (IsKeeper d) is (keeps d head.0 below head.1) in
      absurd (cc (gave.lost, ap (λ (j : ℕ). knows_dead p.known (DataNode j)) own, ap (knows_dead p.known) is, self))

  by : RebuildsStill d p q → RebuiltAt s d b (settled d) p bytes
  by (inl new) = absurd (cc (some, new b none))
  by (inr same) =
      let grown = (since d below).heads head.0 head.1 in
      let kept = grown.inherited in
      let low = if-some (λ (h : Head). h.inherited ≤ gave.number) (head_at q d) grown.head grown.heads gave.inherited in
      let within = gave.applied in
      record {
        parity = parity x refl;
        head = head.0;
        heads = head.1;
        number = gave.number;
        inherited = omega (arith, kept, low);
        applied = omega (arith, same, within);
        values = gave.values;
      }

module _ (s : Dimensions) (shaped : IsShape s) where
  some : 0 < s.k
  some = let first = shaped.k.0 in omega (arith, first)

  module _ (calls : List AskedCall) (v : State) (all : All s calls v) (p : ProcessId) (pin : IsProcess s p) (lives : v.dead p ≡ false) where
    backed : Backed s v
    backed = backed-from s v all.group.stands.carried all.group.stands.bytes all.fits

    new-next : NextIsNew s (v.process p)
    new-next = (marks-new s v all.group.stands.carried).next p pin lives

    needs : NeedsInside s (v.process p)
    needs d h op b below heads decided = (needs-at s shaped calls v all.group.stands p pin lives d below op h b heads decided).1

    seated : Seated s (v.process p) p
    seated = record {
      name = all.group.stands.carried.members.named p pin;
      some = some;
      sits = λ d below. all.group.stands.carried.members.sits p d pin lives below;
    }

    keeps-own : (d : ℕ) (h : Head) → d < s.k → head_at (v.process p) d ≡ Some h → IsKeeper d p
    keeps-own d h below heads = head-keeps (v.process p) d h p (all.group.stands.carried.members.sits p d pin lives below) heads

    given-at : (settled : ℕ → List Update) (q : Process)
        → ((d b : ℕ) (bytes : List ℕ) → d < s.k → rebuilt_block (v.process p).as_leader d b ≡ None
        → rebuilt_block q.as_leader d b ≡ Some bytes → knows_dead (v.process p).known (DataNode d) ≡ true
        → HeadsIt (v.process p) d)
        → ((d : ℕ) → d < s.k → (h : Head) → head_at (v.process p) d ≡ Some h → RebuildsStill d (v.process p) q) → ((d : ℕ) → d < s.k → Since d (v.process p) q)
        → RebuildsGiven s settled (v.process p) q → RebuildsAt s settled (v.process p) q
    given-at settled q = rebuilt-at s settled (v.process p) q p (all.group.stands.carried.members.named p pin)
        (all.group.stands.carried.members.not_self p pin lives) keeps-own

    -- a process that treats something
    module _ (w : State) (t : ProcessStep) (more : List AskedCall) (grown : (d a : ℕ) (h : List Update) → FineIn s calls d a h → FineIn s more d a h)
        (up : IsGroupUp s v)
        (treats : Treats s (v.process p) t) (acts : Acted s v w p t) (both : LeavesEach s more v w p) where
      after : Members s w
      after = (members.keeps s shaped).treats v w p t pin up lives treats all.group.stands.carried.members acts

      settles : StepSettles s w.settled (v.process p) t
      settles = record {
        write = write-after s shaped calls more grown v w p t pin lives all.group.stands acts.process acts.others acts.dead after both;
        applies = applies-after s shaped calls more grown v w p t pin lives all.group.stands acts.process acts.others acts.dead after both;
      }

      pub treated-given : RebuildsGiven s w.settled (v.process p) t.process
      treated-given = (steps_rebuild s shaped).treats v w p t pin up lives treats backed after new-next needs settles acts all.stamps

      pub treated-fits : SessionsFit s w
      treated-fits = ((fits-keeps s shaped).treats v w p t pin up lives treats (all.group.stands.carried.members, all.fits) acts).1

      pub treated-stamps : SessionsStand s w
      treated-stamps = (stamps_kept s shaped).treats v w p t pin lives treats backed after new-next needs settles acts all.stamps

      pub treated-since : (d : ℕ) → d < s.k → Since d (v.process p) t.process
      treated-since d below = subst (Since d (v.process p)) acts.process (both d below).1

  asked : (calls : List AskedCall) (v w : State) (p : ProcessId) (c : AskedCall) → IsProcess s p → IsGroupUp s v → v.dead p ≡ false → IsNextCall calls c
      → All s calls v
      → Acted s v w p (ask_process s c.name c.op (v.process p)).step
      → All s (calls ++ call_if (is_issued (ask_process s c.name c.op (v.process p)).answer) c) w
  asked calls v w p c pin up lives next all acts = record {
    group = offs.asked s shaped calls v w p c pin up lives next all.group acts rebuilds;
    fits = treated-fits calls v all p pin lives w step more grown up treats acts both;
    led =
        asked-led s v w all.group.stands.carried.members p pin lives all.led c.name c.op below acts known
        (treated-fits calls v all p pin lives w step more grown up treats acts both) (λ d low. (both d low).1);
    stamps = treated-stamps calls v all p pin lives w step more grown up treats acts both;
  } where
    step : ProcessStep
    step = (ask_process s c.name c.op (v.process p)).step

    more : List AskedCall
    more = calls ++ call_if (is_issued (ask_process s c.name c.op (v.process p)).answer) c

    grown : (d a : ℕ) (h : List Update) → FineIn s calls d a h → FineIn s more d a h
    grown = more-fine s shaped calls v w p c pin up lives next all.group.stands acts

    both : LeavesEach s more v w p
    both = asked-leaves s shaped calls v w p c pin up lives next all.group.stands acts

    below : home_of (key_of c.op.act) s.k < s.k
    below = home-below s shaped calls v w p c pin up lives next all.group.stands acts

    treats : Treats s (v.process p) step
    treats = Asks c.name c.op next.bytes

    known : step.process.known ≡ (v.process p).known
    known = (step-treats s (v.process p) p step (seated calls v all p pin lives) treats).same.known

    leads-lost : (h : Head) → head_at (v.process p) (home_of (key_of c.op.act) s.k) ≡ Some h → (run : Run) (b : ℕ)
        → found_at s (home_of (key_of c.op.act) s.k) (v.process p) (v.process p).name run ≡ Missing b → LeadsLost s (v.process p)
    leads-lost h heads run b missing = reaching.leads-lost s v all.group.stands.carried.members p pin lives
        (home_of (key_of c.op.act) s.k) h run b below heads p refl
        (ap (λ (y : ProcessId). found_at s (home_of (key_of c.op.act) s.k) (v.process p) y run) (sym (all.group.stands.carried.members.named p pin)) ∙ missing)

    leads : (d b : ℕ) (bytes : List ℕ) → d < s.k → rebuilt_block (v.process p).as_leader d b ≡ None → rebuilt_block step.process.as_leader d b ≡ Some bytes
        → knows_dead (v.process p).known (DataNode d) ≡ true → HeadsIt (v.process p) d
    leads d b bytes low none some_bytes lost =
        by (ask-news s c.name c.op (home_of (key_of c.op.act) s.k) (v.process p)
        (head_at (v.process p) (home_of (key_of c.op.act) s.k)) leads-lost) where
          by : ((e : ℕ) → NoneNew e (v.process p) step.process) ⊎ LeadsLost s (v.process p) → HeadsIt (v.process p) d
          by (inl new) = absurd (cc (some_bytes, new d b none))
          by (inr leading) = let head = leading d low lost in (head.0, head.1)

    rebuilds : RebuildsAt s w.settled (v.process p) step.process
    rebuilds = given-at calls v all p pin lives w.settled step.process leads
        (λ d low h heads. ask-rebuilds s d c.name c.op (home_of (key_of c.op.act) s.k) (v.process p) (head_at (v.process p) (home_of (key_of c.op.act) s.k)))
        (treated-since calls v all p pin lives w step more grown up treats acts both)
        (treated-given calls v all p pin lives w step more grown up treats acts both)

  collected : (calls : List AskedCall) (v w : State) (p : ProcessId) (caller call : ℕ) → IsProcess s p → IsGroupUp s v → v.dead p ≡ false → All s calls v
      → Acted s v w p (collect_from caller call (v.process p) (range_with_len 0 s.k)).step → All s calls w
  collected calls v w p caller call pin up lives all acts = record {
    group = offs.collected s shaped calls v w p caller call pin up lives all.group acts;
    fits = treated-fits calls v all p pin lives w step calls (λ d a h fine. fine) up (Collects caller call) acts both;
    led = same-sessions-led s v w all.group.stands.carried.members p pin lives all.led step acts
        (collected-sessions s caller call (v.process p) (range_with_len 0 s.k)) (λ d low. (both d low).1);
    stamps = treated-stamps calls v all p pin lives w step calls (λ d a h fine. fine) up (Collects caller call) acts both;
  } where
    step : ProcessStep
    step = (collect_from caller call (v.process p) (range_with_len 0 s.k)).step

    both : LeavesEach s calls v w p
    both = reaching.collects-both (FineIn s calls) (fine-laws s calls) s shaped v w p caller call pin up lives
        all.group.stands.carried.members all.group.stands.reach acts

  flushed : (calls : List AskedCall) (v w : State) (p : ProcessId) → IsProcess s p → IsGroupUp s v → v.dead p ≡ false
      → All s calls v → Acted s v w p (flush_process s (v.process p)).step → All s calls w
  flushed calls v w p pin up lives all acts = record {
    group = offs.flushed s shaped calls v w p pin up lives all.group acts;
    fits = treated-fits calls v all p pin lives w step calls (λ d a h fine. fine) up Flushes acts both;
    led = same-sessions-led s v w all.group.stands.carried.members p pin lives all.led step acts refl (λ d low. (both d low).1);
    stamps = treated-stamps calls v all p pin lives w step calls (λ d a h fine. fine) up Flushes acts both;
  } where
    step : ProcessStep
    step = (flush_process s (v.process p)).step

    both : LeavesEach s calls v w p
    both = reaching.flushes-both (FineIn s calls) (fine-laws s calls) s shaped v w p pin up lives all.group.stands.carried.members all.group.stands.reach acts

  received : (calls : List AskedCall) (v u w : State) (x p : ProcessId) (m : Message) → IsProcess s x → IsProcess s p → x ≢ p → IsGroupUp s v → v.dead p ≡ false
      → All s calls v → Popped s v u x p m → Acted s u w p (receive s x m (v.process p)) → All s calls w
  received calls v u w x p m xin pin apart up lives all pops acts = record {
    group = offs.received s shaped calls v u w x p m xin pin apart up lives all.group pops acts rebuilds;
    fits = ((fits-keeps s shaped).receives v u w x p m xin pin apart up lives (all.group.stands.carried.members, all.fits) pops acts).1;
    led = received-led s v w all.group.stands.carried.members p pin lives all.led u x m pops acts (λ d low. (both d low).1);
    stamps = (stamps_kept s shaped).receives v u w x p m xin pin apart lives (backed calls v all p pin lives) after marks settles pops acts all.stamps;
  } where
    both : LeavesEach s calls v w p
    both = both_received s shaped calls v u w x p m xin pin apart up lives all.group.stands pops acts

    after : Members s w
    after = members_received s shaped calls v u w x p m xin pin apart up lives all.group.stands pops acts

    marks : MarksNew m (v.process p)
    marks = marks-received s shaped calls v u w x p m xin pin apart up lives all.group.stands pops acts

    same : (q : ProcessId) → IsProcess s q → q ≢ p → w.process q ≡ v.process q
    same = same_received s shaped calls v u w x p m xin pin apart up lives all.group.stands pops acts

    dead : (q : ProcessId) → IsProcess s q → w.dead q ≡ v.dead q
    dead = dead_received s shaped calls v u w x p m xin pin apart up lives all.group.stands pops acts

    settles : StepSettles s w.settled (v.process p) (receive s x m (v.process p))
    settles = record {
      write = write-after s shaped calls calls (λ d a h fine. fine) v w p (receive s x m (v.process p)) pin lives
          all.group.stands acts.process same dead after both;
      applies = applies-after s shaped calls calls (λ d a h fine. fine) v w p (receive s x m (v.process p)) pin lives
          all.group.stands acts.process same dead after both;
    }

    leads : (d b : ℕ) (bytes : List ℕ) → d < s.k → rebuilt_block (v.process p).as_leader d b ≡ None
        → rebuilt_block (receive s x m (v.process p)).process.as_leader d b ≡ Some bytes → knows_dead (v.process p).known (DataNode d) ≡ true
        → HeadsIt (v.process p) d
    leads d b bytes low none some_bytes lost = by (receive-news s x m (v.process p)) where
      of-open : (n : ℕ) (g : Gathering) → open_session (v.process p).as_leader n ≡ Some g → HeadsIt (v.process p) d
      of-open n g opens =
          let is : IsFor s (v.process p).known g =
          (found-each (λ y. y.number == n) (IsFor s (v.process p).known) (v.process p).as_leader.sessions g opens
          (all.fits p pin lives)).1 in
          let there = among-contains (lost_by s (v.process p).known) d
          (filter-among (λ e. knows_dead (v.process p).known (DataNode e)) d (range_with_len 0 s.k)
          (among-range d 0 s.k (omega arith) (omega (arith, low))) lost) in
          all.led p pin lives n g opens d (subst (λ (ls : List ℕ). Contains ls d) (sym is.lost) there) low

      by : ((e : ℕ) → NoneNew e (v.process p) (receive s x m (v.process p)).process) ⊎ HasOpen (v.process p) → HeadsIt (v.process p) d
      by (inl new) = absurd (cc (some_bytes, new d b none))
      by (inr (n, (g, opens))) = of-open n g opens

    rebuilds : RebuildsAt s w.settled (v.process p) (receive s x m (v.process p)).process
    rebuilds = given-at calls v all p pin lives w.settled (receive s x m (v.process p)).process leads
        (λ d low h heads. receive-rebuilds s d x m (v.process p)
        (unmarked s shaped calls v u w x p m xin pin apart up lives all.group.stands pops acts all.group.off m
        (may s shaped calls v u w x p m xin pin apart up lives all.group.stands pops acts) d low h heads))
        (λ d low. subst (Since d (v.process p)) acts.process (both d low).1)
        ((steps_rebuild s shaped).receives v u w x p m xin pin apart up lives (backed calls v all p pin lives) after marks settles pops acts all.stamps)

  died : (calls : List AskedCall) (v w : State) (p : ProcessId) (keep : ℕ) → IsProcess s p → All s calls v → Died s v w p keep → All s calls w
  died calls v w p keep pin all dies = record {
    group = offs.died s shaped calls v w p keep pin all.group dies;
    fits = ((fits-keeps s shaped).dies v w p keep pin (all.group.stands.carried.members, all.fits) dies).1;
    led = died-led s v w p keep dies all.led;
    stamps = (stamps_kept s shaped).dies v w p keep pin dies all.stamps;
  }

  began : (v : State) → Opens s v → All s [] v
  began v starts = record {
    group = offs.began s shaped v starts;
    fits = ((fits-keeps s shaped).opens v starts).1;
    led = began-led s v starts;
    stamps = (stamps_kept s shaped).opens v starts;
  }

  keeps-all : KeepsCalls s (All s)
  keeps-all = record { opens = began; asks = asked; collects = collected; flushes = flushed; receives = received; dies = died }

-- so it stands along every run
pub all-always : (s : Dimensions) (es : List Event) → IsRun s es → All s (book_of s es).issued (state_of (book_of s es).history)
all-always s es run = calls_are_kept s (All s) (keeps-all s run.0) es run

pub whole-always : (s : Dimensions) → WholeAlways s
whole-always s es run = (all-always s es run).group.stands
