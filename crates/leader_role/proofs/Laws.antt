-- A parity process can lead from the start, and after every step.
use Rattle.std.proofs.Common.{ℕ, ◌≡◌, ◌+◌, ◌<◌, ◌≤◌, ◌==◌, suc, nat_le, Bool, true, false, List, [], ◌∷◌, find, length}
use Rattle.std.proofs.Common.{Option, Some, None, is_some, Contains, refl, sym, ap, ◌∙◌, arith}
use Rattle.std.proofs.lemmas.Bool.{and_parts, eqb-true}
use Rattle.std.proofs.lemmas.List.Elements.{All-nil}
use Rattle.std.specs.List.{range_with_len}
use Rattle.group_types.specs.Dimensions.{Dimensions, space_of}
use Rattle.group_types.specs.Hash.{home_of}
use Rattle.group_types.specs.Lists.{at}
use Rattle.group_types.specs.Shape.{IsShape}
use Rattle.group_types.specs.declared.process.ProcessId.{ProcessId}
use Rattle.group_types.specs.declared.process.ProcessId.TheVariants.{DataNode, ParityNode}
use Rattle.group_types.proofs.Lists.{at-replicate}
use Rattle.memc_table.specs.Act.{key_of}
use Rattle.memc_table.specs.Asked.{Asked}
use Rattle.group_calls.specs.Turns.{CallName}
use Rattle.group_calls.specs.declared.decision.Decision.{Decision}
use Rattle.group_calls.specs.declared.decision.Decision.TheVariants as decides
use Rattle.group_message.specs.declared.message.Message.{Message}
use Rattle.group_message.specs.declared.message.Message.TheVariants as tells
use Rattle.group_message.specs.declared.message.Session.{Session}
use Rattle.group_message.specs.declared.update.Update.{Update}
use Rattle.group_run.specs.Applying.{ProcessStep, apply_to, head_at, held_at, quiet, replica_of, with_replica}
use Rattle.group_run.specs.Asking.{act_on, ask_head, ask_process, collect_from, collect_held, found_at, handed_out}
use Rattle.group_run.specs.Asking.{is_call, issued, oldest_inherited, ticketed, update_of}
use Rattle.group_run.specs.Deciding.{decide}
use Rattle.group_run.specs.Fitting.{Fits}
use Rattle.group_run.specs.Heading.{judge}
use Rattle.group_run.specs.Leaders as leaders
use Rattle.group_run.specs.Leaders.{close_sessions, rows_of}
use Rattle.group_run.specs.Process.{Copy, Head, Held, Process, opening_process}
use Rattle.group_run.specs.Receiving.{ack_to, log_adopted, read_comes, receive, update_taken, with_rank}
use Rattle.group_run.specs.Replica.{with_update}
use Rattle.group_run.specs.Rows.{copy_in, is_copy, parity_number}
use Rattle.block_sessions.specs.Opened.{AreLost}
use Rattle.leader_role.specs.Laws.{SoundCanStart, StaysSound}
use Rattle.leader_role.specs.Sound.{IsOfGroup, CanLead, IsVacant}
use Rattle.leader_role.proofs.Coming.{block-stays, cease-stays, mark-stays, row-stays}
use Rattle.leader_role.proofs.Finding.{none-found}
use Rattle.leader_role.proofs.Noticed.{noticed-sound}
use Rattle.leader_role.proofs.Opening.{itself-a-row, lost-and-rows, retried-sound}
use Rattle.leader_role.proofs.Steps.{Stays, acknowledge-stays, applied-stays, judge-stays, sound-stays, stays-alike, stays-self, stays-then, stays-when}

module _ (s : Dimensions) where
  pub opening : (i : ℕ) → IsShape s → i < s.m → CanLead s (opening_process s (ParityNode i))
  opening i limits inside = record {
    limits = limits;
    named = (i, refl, inside);
    shape = refl;
    few = omega arith;
    living = at-replicate false 4 i;
    heads = λ d heads. absurd (nobody d heads);
    rows = All-nil (λ g. Contains g.rows i);
    copies = All-nil (λ c. c.leader ≡ i → c.number ≤ 0);
  } where
    nobody : (d : ℕ) → is_some (head_at (opening_process s (ParityNode i)) d) ≡ true → ⊥
    nobody d heads = cc (sym (ap is_some (at-replicate None s.k d)) ∙ heads)

  module _ (p : Process) (d : ℕ) (h : Head) (sound : CanLead s p) (there : head_at p d ≡ Some h) (inside : d < s.k) where
    vacant : IsVacant p.known d (parity_number p.name)
    vacant = sound.heads d (ap is_some there)

    pub can-start : AreLost s (leaders.lost_of s p) (rows_of s p)
    can-start = lost-and-rows s p sound d vacant inside

    pub among-rows : Contains (rows_of s p) (parity_number p.name)
    among-rows = itself-a-row s p sound d vacant inside

  -- a leader has no copy for its next session
  pub none-next : (p : Process) → CanLead s p → copy_in p.as_row.copies (parity_number p.name) (suc p.as_leader.last_session) ≡ None
  none-next p sound =
      none-found (λ c. c.leader ≡ leader → c.number ≤ p.as_leader.last_session) (is_copy leader next) p.as_row.copies
      (λ c started same. high c started (and_parts (c.leader == leader) (c.number == next) same)) sound.copies
    where
      leader : ℕ
      leader = parity_number p.name

      next : ℕ
      next = suc p.as_leader.last_session

      high : (c : Copy) → (c.leader ≡ leader → c.number ≤ p.as_leader.last_session) → ((c.leader == leader) ≡ true) × ((c.number == next) ≡ true) → ⊥
      high c started both =
          let low = started (eqb-true c.leader leader both.0) in
          let is : c.number ≡ suc p.as_leader.last_session = eqb-true c.number next both.1 in
          absurd (omega (arith, low, is))

  -- a call that is asked
  issued-stays : (d : ℕ) (h : Head) (u : Update) (p : Process) → Stays p (issued s d h u p).process
  issued-stays d h u p =
      let q : Process = with_replica d (with_update u (replica_of p d)) p in
      stays-then p q (judge s d q).process (stays-alike p q refl refl refl refl (λ own. own)) (judge-stays s d q)

  ticketed-stays : (at_once : Bool) (d : ℕ) (u : Update) (p : Process) (step : ProcessStep) → Stays p step.process
      → Stays p (ticketed at_once d u step).step.process
  ticketed-stays true d u p step stays = stays
  ticketed-stays false d u p step stays = stays-then p step.process _ stays (stays-alike step.process _ refl refl refl refl (λ own. own))

  acted-sound : (name : CallName) (op : Asked) (d : ℕ) (h : Head) (p : Process) (decision : Decision) → CanLead s p
      → Contains (rows_of s p) (parity_number p.name)
      → CanLead s (act_on s name op d h p decision).step.process
  acted-sound name op d h p (decides.Answer r) sound mine = sound
  acted-sound name op d h p (decides.Retry n) sound mine = sound
  acted-sound name op d h p decides.NoSpace sound mine = sound
  acted-sound name op d h p (decides.NeedBlock b) sound mine = retried-sound s p sound b (oldest_inherited p (range_with_len 0 s.k)) mine
  acted-sound name op d h p (decides.Issue body outcome) sound mine =
      let u : Update = update_of name op d body outcome p in
      let step : ProcessStep = issued s d h u p in
      let at_once : Bool = nat_le u.number (replica_of step.process d).applied in
      sound-stays s p (ticketed at_once d u step).step.process (ticketed-stays at_once d u p step (issued-stays d h u p)) sound

  head-asked : (name : CallName) (op : Asked) (d : ℕ) (p : Process) (o : Option Head) → head_at p d ≡ o → d < s.k → CanLead s p
      → CanLead s (ask_head s name op d p o).step.process
  head-asked name op d p None there inside sound = sound
  head-asked name op d p (Some h) there inside sound =
      acted-sound name op d h p (decide (space_of s) h.inherited (replica_of p d) op (found_at s d p p.name)) sound (among-rows p d h sound there inside)

  pub asked-sound : (name : CallName) (op : Asked) (p : Process) → CanLead s p → CanLead s (ask_process s name op p).step.process
  asked-sound name op p sound =
      let d : ℕ = home_of (key_of op.act) s.k in
      head-asked name op d p (head_at p d) refl (omega (arith, sound.limits.k.0)) sound

  -- a call that is handed out
  pub collected-sound : (caller call : ℕ) (p : Process) (ds : List ℕ) → CanLead s p → CanLead s (collect_from caller call p ds).step.process
  collected-sound caller call p [] sound = sound
  collected-sound caller call p (d ∷ ds) sound = by (find (is_call caller call) (held_at p d)) (collected-sound caller call p ds sound) where
    handed : (now : Bool) (h : Held) → Stays p (handed_out now d h p).step.process
    handed true h = stays-alike p _ refl refl refl refl (λ own. own)
    handed false h = stays-self p

    by : (o : Option Held) → CanLead s (collect_from caller call p ds).step.process
        → CanLead s (collect_held d o p (collect_from caller call p ds)).step.process
    by None rest = rest
    by (Some h) rest = sound-stays s p _ (handed (nat_le h.number (replica_of p d).applied) h) sound

  read-stays : (session : Session) (block : ℕ) (rows : List ℕ) (p : Process) (name : ProcessId) → Stays p (read_comes s session block rows p name).process
  read-stays session block rows p (DataNode d) = stays-self p
  read-stays session block rows p (ParityNode i) = stays-self p

  updated-stays : (d : ℕ) (u : Update) (stable : ℕ) (p : Process) → Stays p (update_taken s d u stable p)
  updated-stays d u stable p =
      let q : Process = apply_to s d stable p in
      stays-then p q (update_taken s d u stable p) (applied-stays s d stable p) (stays-alike q _ refl refl refl refl (λ own. own))

  adopted-stays : (r d base : ℕ) (list : List Update) (p : Process) → Stays p (log_adopted s r d base list p)
  adopted-stays r d base list p =
      let ranked : Process = with_rank d r p in
      let q : Process = apply_to s d base ranked in
      stays-then p q (log_adopted s r d base list p)
      (stays-then p ranked q (stays-alike p ranked refl refl refl refl (λ own. own)) (applied-stays s d base ranked))
      (stays-alike q _ refl refl refl refl (λ own. own))

  -- a message that comes
  pub received-sound : (from : ProcessId) (message : Message) (p : Process) → CanLead s p → Fits s from message p → IsOfGroup s message p
      → CanLead s (receive s from message p).process
  received-sound from (tells.Update r d u stable) p sound fits of_group =
      let step : ProcessStep = ack_to from r.0 d.0 u.number (update_taken s d.0 u stable p) in
      sound-stays s p _ (stays-when (nat_le (at 0 p.ranks d.0) r.0) p step (updated-stays d.0 u stable p)) sound
  received-sound (DataNode e) (tells.Ack r d n) p sound fits of_group = sound
  received-sound (ParityNode i) (tells.Ack r d n) p sound fits of_group = sound-stays s p _ (acknowledge-stays s i r.0 d.0 n p (head_at p d.0) refl) sound
  received-sound from (tells.Stable r d n) p sound fits of_group =
      sound-stays s p _ (stays-when (nat_le (at 0 p.ranks d.0) r.0) p (quiet (apply_to s d.0 n p)) (applied-stays s d.0 n p)) sound
  received-sound from (tells.Adopt r d base list) p sound fits of_group =
      let step : ProcessStep = ack_to from r.0 d.0 (base + length list) (log_adopted s r.0 d.0 base list p) in
      sound-stays s p _ (stays-when (nat_le (at 0 p.ranks d.0) r.0) p step (adopted-stays r.0 d.0 base list p)) sound
  received-sound from (tells.ReadBlock session block rows) p sound fits of_group = sound-stays s p _ (read-stays session block rows p p.name) sound
  received-sound (DataNode e) (tells.Block session bytes n) p sound fits of_group = sound-stays s p _ (block-stays s e session.number bytes p) sound
  received-sound (ParityNode i) (tells.Block session bytes n) p sound fits of_group = sound
  received-sound from (tells.Mark session r block d n) p sound fits of_group =
      sound-stays s p _ (mark-stays s (parity_number session.leader) session.number r.0 block d.0 n p of_group) sound
  received-sound (DataNode e) (tells.Row session bytes stamp) p sound fits of_group = sound
  received-sound (ParityNode i) (tells.Row session bytes stamp) p sound fits of_group = sound-stays s p _ (row-stays s i session.number bytes p) sound
  received-sound (DataNode e) (tells.Cease upto) p sound fits of_group = sound
  received-sound (ParityNode i) (tells.Cease upto) p sound fits of_group = sound-stays s p _ (cease-stays s i upto p) sound
  received-sound from (tells.Notice dead) p sound fits of_group = noticed-sound s dead p sound fits.1 of_group

pub stays_sound : (s : Dimensions) → StaysSound s
stays_sound s = record {
  opening = opening s;
  asked = asked-sound s;
  collected = collected-sound s;
  received = received-sound s;
}

pub sound_can_start : SoundCanStart
sound_can_start s p d h sound there inside = record { lost = can-start s p d h sound there inside; itself = among-rows s p d h sound there inside }
