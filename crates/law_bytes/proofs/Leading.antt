-- A leader's open sessions are for what it knows.
use Rattle.std.proofs.Common.{◌≡◌, ◌≢◌, ℕ, suc, ◌==◌, nat_le, Bool, true, false, not, List, [], ◌∷◌, find, is_some}
use Rattle.std.proofs.Common.{Option, Some, None, ◌⊎◌, inl, inr, sym, ap, subst, ◌∙◌, refl, if◌then◌else◌, ◌<◌}
use Rattle.std.proofs.Common.{replicate}
use Rattle.std.specs.List.{list_any, range_with_len}
use Rattle.group_types.specs.Dimensions.{Dimensions, space_of}
use Rattle.group_types.specs.Hash.{home_of}
use Rattle.group_types.specs.Lists.{at, put}
use Rattle.group_types.specs.Names.{IsProcess, same_process}
use Rattle.group_types.specs.Shape.{IsShape}
use Rattle.group_types.specs.declared.process.ProcessId.{ProcessId}
use Rattle.group_types.specs.declared.process.ProcessId.TheVariants.{DataNode, ParityNode}
use Rattle.group_types.proofs.Lists.{at-put-other, at-replicate}
use Rattle.group_types.proofs.Names.{same-cases}
use Rattle.group_types.specs.Each.{Each}
use Rattle.group_types.proofs.Eaches.{each-append, each-weaker, each-map, each-filter}
use Rattle.std.proofs.lemmas.Bool.{cases_eq}
use Rattle.membership.specs.Members.{Membership, knows_dead}
use Rattle.memc_table.specs.Act.{key_of}
use Rattle.memc_table.specs.Asked.{Asked}
use Rattle.group_message.specs.declared.message.Message.{Message}
use Rattle.group_message.specs.declared.message.Message.TheVariants as tells
use Rattle.group_message.specs.declared.message.Session.{Session}
use Rattle.group_message.specs.declared.update.Update.{Update}
use Rattle.group_calls.specs.Turns.{CallName}
use Rattle.group_calls.specs.declared.decision.Decision.{Decision}
use Rattle.group_calls.specs.declared.decision.Decision.TheVariants as decides
use Rattle.group_run.specs.Applying.{ProcessStep, apply_to, for_each, head_at, held_at, quiet, replica_of, when, with_head, with_replica}
use Rattle.group_run.specs.Asking.{Oldest, act_on, ask_head, collect_from, collect_held, found_at, handed_out, is_call}
use Rattle.group_run.specs.Asking.{issued, oldest_inherited, retry_block, ticketed, update_of}
use Rattle.group_run.specs.Deciding.{decide}
use Rattle.group_run.specs.Heading.{acknowledge, acknowledged, judge, judge_head}
use Rattle.group_run.specs.Leaders.{block_comes, block_gathered, close_sessions, copy_kept, copy_marked, gathered_when}
use Rattle.group_run.specs.Leaders.{is_complete, lost_of, mark_comes, mark_taken, new_session, open_session, own_mark}
use Rattle.group_run.specs.Leaders.{row_comes, row_finished, row_gathered, session_opened, start_session}
use Rattle.group_run.specs.Leaders.{without_session}
use Rattle.group_run.specs.Process.{Copy, Gathering, Head, Held, LeaderState, Process}
use Rattle.group_run.specs.Receiving.{ack_to, death_known, enthroned, log_adopted, notice_comes, read_comes, receive}
use Rattle.group_run.specs.Receiving.{take_over_if, taken_over, takes_over, update_taken}
use Rattle.group_run.specs.Replica.{with_update}
use Rattle.group_run.specs.Rows.{accepts_mark, begin_copy, copy_begun, copy_in, is_marked, marked, parity_number, with_copies, without_copy}
use Rattle.law_moves.proofs.Moves.{Acted, Asks, Collects, Flushes, Keeps, Treats}
use Rattle.law_moves.specs.State.{State}
use Rattle.law_moves.proofs.Runs.{holds_always}
use Rattle.law_moves.proofs.Members.{Members, Stands}
use Rattle.law_moves.proofs.Keeping as members
use Rattle.law_moves.proofs.Standing.{sender-lives}
use Rattle.law_moves.proofs.Chains.{goes-each, goes-when}
use Rattle.law_bytes.proofs.Finds.{found-each}
use Rattle.law_bytes.proofs.LeadingWords.{IsFor, SessionsAlwaysFit, SessionsFit}
use Rattle.law_bytes.proofs.Marks.{decoded-same}

module _ (s : Dimensions) where
  -- a step after which the same is known, and each session is for that
  pub record Leads (p q : Process) : Type 0 where
    pub known : q.known ≡ p.known
    pub sessions : Each (IsFor s p.known) p.as_leader.sessions → Each (IsFor s p.known) q.as_leader.sessions

  same-leads : (p q : Process) → q.known ≡ p.known → q.as_leader.sessions ≡ p.as_leader.sessions → Leads p q
  same-leads p q known sessions = record { known = known; sessions = λ all. subst (Each (IsFor s p.known)) (sym sessions) all }

  self-leads : (p : Process) → Leads p p
  self-leads p = same-leads p p refl refl

  then-leads : (p q r : Process) → Leads p q → Leads q r → Leads p r
  then-leads p q r a b = record {
    known = b.known ∙ a.known;
    sessions =
        λ all. subst (λ (known : Membership). Each (IsFor s known) r.as_leader.sessions) a.known
        (b.sessions (subst (λ (known : Membership). Each (IsFor s known) q.as_leader.sessions) (sym a.known) (a.sessions all)));
  }

  each-leads : (xs : List ℕ) (f : ℕ → Process → ProcessStep) (p : Process)
      → ((x : ℕ) (q : Process) → Leads q (f x q).process) → Leads p (for_each xs f p).process
  each-leads = goes-each (λ p q. Leads p q) self-leads then-leads

  when-leads : (b : Bool) (p : Process) (step : ProcessStep) → Leads p step.process → Leads p (when b p step).process
  when-leads = goes-when (λ p q. Leads p q) self-leads

  judge-leads : (d : ℕ) (p : Process) → Leads p (judge s d p).process
  judge-leads d p = by (head_at p d) where
    by : (o : Option Head) → Leads p (judge_head s d p o).process
    by None = self-leads p
    by (Some h) = same-leads p _ refl refl

  takes-leads : (d : ℕ) (p : Process) → Leads p (take_over_if s d p).process
  takes-leads d p = when-leads (takes_over p d p.name) p (taken_over s d p)
      (let q : Process = enthroned s (suc (parity_number p.name)) d p in then-leads p q (judge s d q).process (same-leads p q refl refl) (judge-leads d q))

  -- what comes in leaves the other sessions
  gathered-leads : (complete : Bool) (known : Membership) (g : Gathering) (state : LeaderState) → IsFor s known g → Each (IsFor s known) state.sessions
      → Each (IsFor s known) (gathered_when complete s g state).sessions
  gathered-leads true known g state mine all =
      subst (Each (IsFor s known)) (sym (decoded-same s g g.lost (record state { sessions = without_session g.number state.sessions })).0)
      (each-filter (IsFor s known) (λ x. not (x.number == g.number)) state.sessions all)
  gathered-leads false known g state mine all =
      each-map (IsFor s known) (λ x. if x.number == g.number then g else x) state.sessions
      (each-weaker (IsFor s known) (λ x. IsFor s known (if x.number == g.number then g else x)) (λ x fits. by (x.number == g.number) x fits) state.sessions all)
    where
      by : (b : Bool) (x : Gathering) → IsFor s known x → IsFor s known (if b then g else x)
      by true x fits = mine
      by false x fits = fits

  row-leads : (i number : ℕ) (bytes : List ℕ) (p : Process) → Leads p (row_comes s number i bytes p)
  row-leads i number bytes p = record { known = refl; sessions = λ all. by (open_session p.as_leader number) refl all } where
    by : (o : Option Gathering) → open_session p.as_leader number ≡ o → Each (IsFor s p.known) p.as_leader.sessions
        → Each (IsFor s p.known) (row_gathered s i bytes o p.as_leader).sessions
    by None found all = all
    by (Some g) found all =
        let is = (found-each (λ x. x.number == number) (IsFor s p.known) p.as_leader.sessions g found all).1 in
        gathered-leads (is_complete s (record g { rows_in = put None g.rows_in i (Some bytes) })) p.known
        (record g { rows_in = put None g.rows_in i (Some bytes) }) p.as_leader (record { lost = is.lost; rows = is.rows; blocks = is.blocks }) all

  block-leads : (e number : ℕ) (bytes : List ℕ) (p : Process) → e < s.k → knows_dead p.known (DataNode e) ≡ false → Leads p (block_comes s number e bytes p)
  block-leads e number bytes p inside living = record { known = refl; sessions = λ all. by (open_session p.as_leader number) refl all } where
    by : (o : Option Gathering) → open_session p.as_leader number ≡ o → Each (IsFor s p.known) p.as_leader.sessions
        → Each (IsFor s p.known) (block_gathered s e bytes o p.as_leader).sessions
    by None found all = all
    by (Some g) found all =
        let is = (found-each (λ x. x.number == number) (IsFor s p.known) p.as_leader.sessions g found all).1 in
        gathered-leads (is_complete s (record g { blocks_in = put None g.blocks_in e (Some bytes) })) p.known
        (record g { blocks_in = put None g.blocks_in e (Some bytes) }) p.as_leader
        (record { lost = is.lost; rows = is.rows; blocks = λ d more there. of g is d more there (cases_eq d e) }) all
      where
        of : (g : Gathering) → IsFor s p.known g → (d : ℕ) (more : List ℕ) → at None (put None g.blocks_in e (Some bytes)) d ≡ Some more → (d ≡ e) ⊎ (d ≢ e)
            → (d < s.k) × (knows_dead p.known (DataNode d) ≡ false)
        of g is d more there (inl same) = subst (λ (j : ℕ). (j < s.k) × (knows_dead p.known (DataNode j) ≡ false)) (sym same) (inside, living)
        of g is d more there (inr other) = is.blocks d more (sym (at-put-other None g.blocks_in e d (Some bytes) other) ∙ there)

  -- a mark
  mark-leads : (l number r block d n : ℕ) (p : Process) → Leads p (mark_comes s l number r block d n p).process
  mark-leads l number r block d n p =
      when-leads (accepts_mark p l number r d) p (mark_taken s l number block d n p)
      (then-leads p q (copy_marked s d n (copy_in q.as_row.copies l number) q).process to_q (found (copy_in q.as_row.copies l number))) where
        q : Process
        q = apply_to s d n (begin_copy s l number block p)

        begun : (b : Bool) → Leads p (copy_begun b s l number block p)
        begun true = self-leads p
        begun false = same-leads p _ refl refl

        to_q : Leads p q
        to_q = then-leads p (begin_copy s l number block p) q (begun (is_some (copy_in p.as_row.copies l number)))
            (same-leads (begin_copy s l number block p) q refl refl)

        finished : (b : Bool) (c : Copy) (z : Process) → Leads z (row_finished b s c z).process
        finished true c z = row-leads c.leader c.number c.bytes z
        finished false c z = self-leads z

        kept : (b : Bool) (c : Copy) → Leads q (copy_kept b s c q).process
        kept true c =
            let z : Process = with_copies (without_copy c.leader c.number q.as_row.copies) q in
            then-leads q z (row_finished (same_process z.name (ParityNode c.leader)) s c z).process
            (same-leads q z refl refl) (finished (same_process z.name (ParityNode c.leader)) c z)
        kept false c = same-leads q _ refl refl

        found : (o : Option Copy) → Leads q (copy_marked s d n o q).process
        found None = self-leads q
        found (Some c) = kept (is_marked s (marked d n c)) (marked d n c)

  start-leads : (block : ℕ) (p : Process) → Leads p (start_session s block p).process
  start-leads block p =
      let number : ℕ = suc p.as_leader.last_session in
      let opened : Process = session_opened s number block p in
      then-leads p opened (for_each (lost_of s p) (own_mark s (parity_number p.name) number block) opened).process
      (record {
        known = refl;
        sessions = λ all. each-append (IsFor s p.known) p.as_leader.sessions
            (new_session s number block p ∷ []) all
            (record { lost = refl; rows = refl; blocks = λ d bytes there. absurd (cc (there, none d)) }, tt);
      })
      (each-leads (lost_of s p) (own_mark s (parity_number p.name) number block) opened
      (λ e q. mark-leads (parity_number p.name) number (at 0 q.ranks e) block e (replica_of q e).applied q))
    where
      none : (d : ℕ) → ◌≡◌ {A = Option (List ℕ)} (at None (replicate s.k None) d) None
      none d = at-replicate None s.k d

  -- calls
  retry-leads : (block : ℕ) (o : Option Oldest) (p : Process) → Leads p (retry_block s block o p).step.process
  retry-leads block (Some o) p = self-leads p
  retry-leads block None p = when-leads (not (list_any (λ g. g.block == block) p.as_leader.sessions)) p (start_session s block p) (start-leads block p)

  issued-leads : (d : ℕ) (h : Head) (u : Update) (p : Process) → Leads p (issued s d h u p).process
  issued-leads d h u p =
      let told : Process = with_replica d (with_update u (replica_of p d)) p in
      then-leads p told (judge s d told).process (same-leads p told refl refl) (judge-leads d told)

  ticketed-leads : (b : Bool) (d : ℕ) (u : Update) (p : Process) (step : ProcessStep) → Leads p step.process → Leads p (ticketed b d u step).step.process
  ticketed-leads true d u p step leads = leads
  ticketed-leads false d u p step leads = then-leads p step.process _ leads (same-leads step.process _ refl refl)

  act-leads : (call : CallName) (op : Asked) (d : ℕ) (h : Head) (p : Process) (decision : Decision) → Leads p (act_on s call op d h p decision).step.process
  act-leads call op d h p (decides.Answer r) = self-leads p
  act-leads call op d h p (decides.Retry n) = self-leads p
  act-leads call op d h p decides.NoSpace = self-leads p
  act-leads call op d h p (decides.NeedBlock b) = retry-leads b (oldest_inherited p (range_with_len 0 s.k)) p
  act-leads call op d h p (decides.Issue body outcome) =
      let u : Update = update_of call op d body outcome p in
      ticketed-leads (nat_le u.number (replica_of (issued s d h u p).process d).applied) d u p (issued s d h u p) (issued-leads d h u p)

  ask-leads : (call : CallName) (op : Asked) (d : ℕ) (p : Process) (o : Option Head) → Leads p (ask_head s call op d p o).step.process
  ask-leads call op d p None = self-leads p
  ask-leads call op d p (Some h) = act-leads call op d h p (decide (space_of s) h.inherited (replica_of p d) op (found_at s d p p.name))

  collect-leads : (caller call : ℕ) (p : Process) (ds : List ℕ) → Leads p (collect_from caller call p ds).step.process
  collect-leads caller call p [] = self-leads p
  collect-leads caller call p (d ∷ ds) = by (find (is_call caller call) (held_at p d)) (collect-leads caller call p ds) where
    handed : (b : Bool) (h : Held) → Leads p (handed_out b d h p).step.process
    handed true h = same-leads p _ refl refl
    handed false h = self-leads p

    by : (o : Option Held) → Leads p (collect_from caller call p ds).step.process → Leads p (collect_held d o p (collect_from caller call p ds)).step.process
    by None rest = rest
    by (Some h) rest = handed (nat_le h.number (replica_of p d).applied) h

  treats-leads : (p : Process) (step : ProcessStep) → Treats s p step → Leads p step.process
  treats-leads p _ (Asks call op bytes) = ask-leads call op (home_of (key_of op.act) s.k) p (head_at p (home_of (key_of op.act) s.k))
  treats-leads p _ (Collects caller call) = collect-leads caller call p (range_with_len 0 s.k)
  treats-leads p _ Flushes = self-leads p

  -- after a notice no session is open
  notice-none : (dead : ProcessId) (p : Process) → Each (IsFor s (notice_comes s dead p).process.known) (notice_comes s dead p).process.as_leader.sessions
  notice-none dead p =
      let q : Process = death_known dead p in
      let closed : Process = (close_sessions s q.as_leader.sessions q).process in
      let judged : Process = (for_each (range_with_len 0 s.k) (judge s) closed).process in
      let last : Process = (for_each (range_with_len 0 s.k) (take_over_if s) judged).process in
      let leads : Leads closed last = then-leads closed judged last (each-leads (range_with_len 0 s.k) (judge s) closed judge-leads)
      (each-leads (range_with_len 0 s.k) (take_over_if s) judged takes-leads) in
      subst (λ (known : Membership). Each (IsFor s known) last.as_leader.sessions) (sym leads.known) (leads.sessions (none q q.as_leader.sessions refl))
    where
      none : (q : Process) (gs : List Gathering) → q.as_leader.sessions ≡ gs
          → Each (IsFor s (close_sessions s gs q).process.known) (close_sessions s gs q).process.as_leader.sessions
      none q [] is = subst (Each (IsFor s q.known)) (sym is) tt
      none q (g ∷ gs) is = tt

  acked-leads : (p : Process) (i r d n : ℕ) (o : Option Head) → Leads p (acknowledge s i r d n o p).process
  acked-leads p i r d n None = self-leads p
  acked-leads p i r d n (Some h) =
      when-leads (r == h.rank) p _ (let q : Process = with_head d (Some (acknowledged i n h)) p in
      then-leads p q (judge s d q).process (same-leads p q refl refl) (judge-leads d q))

  read-leads : (session : Session) (block : ℕ) (rows : List ℕ) (p : Process) (name : ProcessId) → Leads p (read_comes s session block rows p name).process
  read-leads session block rows p (DataNode e) = self-leads p
  read-leads session block rows p (ParityNode i) = self-leads p

  fits-after : (p q : Process) → Leads p q → Each (IsFor s p.known) p.as_leader.sessions → Each (IsFor s q.known) q.as_leader.sessions
  fits-after p q leads all = subst (λ (known : Membership). Each (IsFor s known) q.as_leader.sessions) (sym leads.known) (leads.sessions all)

  receive-fits : (x : ProcessId) (m : Message) (p : Process) → IsProcess s x → knows_dead p.known x ≡ false → Each (IsFor s p.known) p.as_leader.sessions
      → Each (IsFor s (receive s x m p).process.known) (receive s x m p).process.as_leader.sessions
  receive-fits x (tells.Update r d u stable) p xin living all =
      fits-after p _ (when-leads (nat_le (at 0 p.ranks d.0) r.0) p (ack_to x r.0 d.0 u.number (update_taken s d.0 u stable p)) (same-leads p _ refl refl)) all
  receive-fits (DataNode e) (tells.Ack r d n) p xin living all = all
  receive-fits (ParityNode i) (tells.Ack r d n) p xin living all = fits-after p _ (acked-leads p i r.0 d.0 n (head_at p d.0)) all
  receive-fits x (tells.Stable r d n) p xin living all =
      fits-after p _ (when-leads (nat_le (at 0 p.ranks d.0) r.0) p (quiet (apply_to s d.0 n p))
      (same-leads p _ refl refl)) all
  receive-fits x (tells.Adopt r d base list) p xin living all =
      fits-after p _ (when-leads (nat_le (at 0 p.ranks d.0) r.0) p (ack_to x r.0 d.0 _ (log_adopted s r.0 d.0 base list p)) (same-leads p _ refl refl)) all
  receive-fits x (tells.ReadBlock session block rows) p xin living all = fits-after p _ (read-leads session block rows p p.name) all
  receive-fits (DataNode e) (tells.Block session bytes n) p xin living all = fits-after p _ (block-leads e session.number bytes p xin living) all
  receive-fits (ParityNode i) (tells.Block session bytes n) p xin living all = all
  receive-fits x (tells.Mark session r block d n) p xin living all =
      fits-after p _ (mark-leads (parity_number session.leader) session.number r.0 block d.0 n p) all
  receive-fits (DataNode e) (tells.Row session bytes stamp) p xin living all = all
  receive-fits (ParityNode i) (tells.Row session bytes stamp) p xin living all = fits-after p _ (row-leads i session.number bytes p) all
  receive-fits (DataNode e) (tells.Cease upto) p xin living all = all
  receive-fits (ParityNode i) (tells.Cease upto) p xin living all = all
  receive-fits x (tells.Notice dead) p xin living all = notice-none dead p

  acted-fits : (u w : State) (p : ProcessId) (step : ProcessStep) → Acted s u w p step → SessionsFit s u
      → Each (IsFor s step.process.known) step.process.as_leader.sessions → SessionsFit s w
  acted-fits u w p step acts fits here q qin lives = by (same-cases q p) where
    by : (q ≡ p) ⊎ (q ≢ p) → Each (IsFor s (w.process q).known) (w.process q).as_leader.sessions
    by (inl is) = subst (λ (y : Process). Each (IsFor s y.known) y.as_leader.sessions) (sym (ap w.process is ∙ acts.process)) here
    by (inr other) = subst (λ (y : Process). Each (IsFor s y.known) y.as_leader.sessions)
        (sym (acts.others q qin other)) (fits q qin (sym (acts.dead q qin) ∙ lives))

  pub fits-keeps : IsShape s → Keeps s (λ v. Members s v × SessionsFit s v)
  fits-keeps shaped = record {
    opens = λ v starts. (
      kept.opens v starts,
      λ p pin lives. subst (λ (y : Process). Each (IsFor s y.known) y.as_leader.sessions)
          (sym (starts.process p pin)) tt,
    );
    treats =
        λ v w p t pin up lives treats both acts. (
          kept.treats v w p t pin up lives treats both.0 acts,
          acted-fits v w p t acts both.1 (fits-after (v.process p) t.process (treats-leads (v.process p) t treats)
              (both.1 p pin lives)),
        );
    receives = λ v u w x p m xin pin apart up lives both pops acts. (
      kept.receives v u w x p m xin pin apart up lives both.0 pops acts,
      acted-fits u w p (receive s x m (v.process p)) acts
          (λ q qin living. subst (λ (y : Process). Each (IsFor s y.known) y.as_leader.sessions)
          (sym (pops.processes q qin)) (both.1 q qin (sym (pops.dead q qin) ∙ living)))
          (receive-fits x m (v.process p) xin
          (sender-lives x (v.dead x) (knows_dead (v.process p).known x) m (u.link x p)
          (subst (Stands x (v.dead x) (knows_dead (v.process p).known x)) pops.first
          (both.0.stands x p xin pin apart lives)))
          (both.1 p pin lives)),
    );
    dies = λ v w p keep pin both died. (
      kept.dies v w p keep pin both.0 died,
      λ q qin lives.
          let other : q ≢ p = λ (same : q ≡ p). cc (lives, ap w.dead same, died.dead) in
          subst (λ (y : Process). Each (IsFor s y.known) y.as_leader.sessions) (sym (died.processes q qin))
          (both.1 q qin (sym (died.others q qin other) ∙ lives)),
    );
  } where
    kept : Keeps s (Members s)
    kept = members.keeps s shaped

pub sessions_always_fit : SessionsAlwaysFit
sessions_always_fit s es run = (holds_always s (λ v. Members s v × SessionsFit s v) (fits-keeps s run.0) es run).1
