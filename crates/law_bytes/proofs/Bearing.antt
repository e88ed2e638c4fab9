-- What steps leave of a leader's open session: the same lost partitions, of which it has applied no less, and heads
-- with the same inherited numbers.
use Rattle.std.proofs.Common.{◌≡◌, ◌≢◌, ℕ, suc, ◌≤◌, ◌==◌, nat_le, nat_lt, Bool, true, false, not, List, [], ◌∷◌, ◌++◌}
use Rattle.std.proofs.Common.{find, is_some, Option, Some, None, IfSome, ◌⊎◌, inl, inr, sym, ap, subst, ◌∙◌, refl}
use Rattle.std.proofs.Common.{arith, if◌then◌else◌}
use Rattle.std.specs.Prelude.{Contains}
use Rattle.std.specs.List.{list_any, range_with_len}
use Rattle.std.proofs.lemmas.Bool.{cases_eq}
use Rattle.std.proofs.lemmas.Grind.{common_steps}
use Rattle.group_types.specs.Dimensions.{Dimensions, space_of}
use Rattle.group_types.specs.Hash.{home_of}
use Rattle.group_types.specs.Lists.{at, put}
use Rattle.group_types.specs.Names.{same_process}
use Rattle.group_types.specs.declared.process.ProcessId.{ProcessId}
use Rattle.group_types.specs.declared.process.ProcessId.TheVariants.{DataNode, ParityNode}
use Rattle.group_types.proofs.Lists.{at-put, at-put-other}
use Rattle.membership.specs.Members.{knows_dead}
use Rattle.memc_table.specs.Act.{key_of}
use Rattle.memc_table.specs.Asked.{Asked}
use Rattle.group_message.specs.declared.message.Message.{Message}
use Rattle.group_message.specs.declared.message.Message.TheVariants as tells
use Rattle.group_message.specs.declared.message.Session.{Session}
use Rattle.group_message.specs.declared.update.Update.{Update}
use Rattle.group_calls.specs.Turns.{CallName}
use Rattle.group_calls.specs.declared.decision.Decision.{Decision}
use Rattle.group_calls.specs.declared.decision.Decision.TheVariants as decides
use Rattle.group_run.specs.Applying.{ProcessStep, apply_to, for_each, head_at, held_at, quiet, replica_of, when, with_head, with_replica}
use Rattle.group_run.specs.Asking.{Oldest, act_on, ask_head, collect_from, collect_held, found_at, handed_out}
use Rattle.group_run.specs.Asking.{inherited_or, is_call, issued, oldest_inherited, retry_block, ticketed, update_of}
use Rattle.group_run.specs.Deciding.{decide}
use Rattle.group_run.specs.Heading.{acknowledge, acknowledged, judge, judge_head}
use Rattle.group_run.specs.Leaders.{block_comes, block_gathered, close_sessions, copy_kept, copy_marked, is_complete}
use Rattle.group_run.specs.Leaders.{lost_of, mark_comes, mark_taken, new_session, open_session, own_mark, row_comes}
use Rattle.group_run.specs.Leaders.{row_finished, row_gathered, session_opened, start_session}
use Rattle.group_run.specs.Process.{Copy, Gathering, Head, Held, LeaderState, Process}
use Rattle.group_run.specs.Receiving.{adopting, death_known, enthroned, notice_comes, read_comes, receive, take_over_if, taken_over, takes_over, with_rank}
use Rattle.group_run.specs.Replica.{Replica, applied_to, empty_replica, with_update}
use Rattle.group_run.specs.Rows.{accepts_mark, begin_copy, copies_ceased, copy_begun, copy_in, is_marked, marked, parity_number, with_copies, without_copy}
use Rattle.law_moves.proofs.Moves.{Treats, Asks, Collects, Flushes}
use Rattle.law_moves.proofs.Chains.{goes-each, goes-when}
use Rattle.erasure_code.proofs.Nodes.{Among}
use Rattle.law_bytes.proofs.Finding.{found-behind, found-passes}
use Rattle.law_bytes.proofs.Finds.{if-some}
use Rattle.law_bytes.proofs.Rebuilding.{with_block, with_row}
use Rattle.law_bytes.proofs.Rising.{among-filter, contains-among}
use Rattle.law_bytes.proofs.Local.{number-is}
use Rattle.law_bytes.proofs.Stamps.{LostFollows, Plan}
use Rattle.law_bytes.proofs.Gathering.{gathered-if}

module _ (s : Dimensions) (n : ℕ) where
  -- what was before of an open session that is there after
  pub record Before (p q : Process) (g : Gathering) : Type 0 where
    pub session : Gathering
    pub opens : open_session p.as_leader n ≡ Some session
    pub lost : g.lost ≡ session.lost
    pub applied : (e : ℕ) → (replica_of p e).applied ≤ (replica_of q e).applied
    pub heads : (e : ℕ) (h : Head) → head_at q e ≡ Some h → (old : Head) × (head_at p e ≡ Some old) × (h.inherited ≡ old.inherited)

  abbrev pub Bears : Process → Process → Type 0
  Bears p q = (g : Gathering) → open_session q.as_leader n ≡ Some g → Before p q g

  pub bears-self : (p : Process) → Bears p p
  bears-self p g opens = record { session = g; opens = opens; lost = refl; applied = λ e. omega arith; heads = λ e h is. (h, is, refl) }

  pub bears-then : (p q r : Process) → Bears p q → Bears q r → Bears p r
  bears-then p q r first next g opens =
      let b = next g opens in
      let a = first b.session b.opens in
      record {
        session = a.session;
        opens = a.opens;
        lost = b.lost ∙ a.lost;
        applied = λ e. let one = a.applied e in let two = b.applied e in omega (arith, one, two);
        heads = λ e h is. let two = b.heads e h is in let one = a.heads e two.0 two.1 in (one.0, one.1, two.2 ∙ one.2);
      }

  -- heads and sessions stay, and applied numbers don't fall
  pub bears-same : (p q : Process) → q.heads ≡ p.heads → q.as_leader.sessions ≡ p.as_leader.sessions
      → ((e : ℕ) → (replica_of p e).applied ≤ (replica_of q e).applied) → Bears p q
  bears-same p q heads sessions applied g opens = record {
    session = g;
    opens = ap (λ (gs : List Gathering). find (λ x. x.number == n) gs) (sym sessions) ∙ opens;
    lost = refl;
    applied = applied;
    heads = λ e h is. (h, ap (λ (hs : List (Option Head)). at None hs e) (sym heads) ∙ is, refl);
  }

  pub bears-replica : (p : Process) (d : ℕ) (r : Replica) → (replica_of p d).applied ≤ r.applied → (e : ℕ)
      → (replica_of p e).applied ≤ (at empty_replica (put empty_replica p.replicas d r) e).applied
  bears-replica p d r more e = by (cases_eq e d) where
    by : (e ≡ d) ⊎ (e ≢ d) → (replica_of p e).applied ≤ (at empty_replica (put empty_replica p.replicas d r) e).applied
    by (inl same) =
        let here = ap (λ (x : Replica). x.applied) (at-put empty_replica empty_replica p.replicas d r) in
        subst (λ (k : ℕ). (replica_of p k).applied ≤ (at empty_replica (put empty_replica p.replicas d r) k).applied) (sym same) (omega (arith, here, more))
    by (inr other) = let there = ap (λ (x : Replica). x.applied) (at-put-other empty_replica p.replicas d e r other) in omega (arith, there)

  bears-with : (p : Process) (d : ℕ) (r : Replica) → (replica_of p d).applied ≤ r.applied → Bears p (with_replica d r p)
  bears-with p d r more = bears-same p (with_replica d r p) refl refl (bears-replica p d r more)

  pub bears-apply : (d k : ℕ) (p : Process) → Bears p (apply_to s d k p)
  bears-apply d k p = bears-same p (apply_to s d k p) refl refl (bears-replica p d (applied_to k (replica_of p d)) (omega arith))

  bears-each : (xs : List ℕ) (f : ℕ → Process → ProcessStep) (p : Process)
      → ((x : ℕ) (q : Process) → Bears q (f x q).process) → Bears p (for_each xs f p).process
  bears-each = goes-each (λ p q. Bears p q) bears-self bears-then

  bears-when : (b : Bool) (p : Process) (step : ProcessStep) → Bears p step.process → Bears p (when b p step).process
  bears-when = goes-when (λ p q. Bears p q) bears-self

  bears-judge : (d : ℕ) (p : Process) → Bears p (judge s d p).process
  bears-judge d p = by (head_at p d) where
    by : (o : Option Head) → Bears p (judge_head s d p o).process
    by None = bears-self p
    by (Some h) = bears-apply d _ p

  -- what comes in
  kept-all : (state : LeaderState) (o : Option Gathering) → open_session state n ≡ o
      → IfSome o (λ g. (old : Gathering) × (open_session state n ≡ Some old) × (g.lost ≡ old.lost))
  kept-all state None is = tt
  kept-all state (Some g) is = (g, is, refl)

  bears-leader : (p : Process) (state : LeaderState)
      → IfSome (open_session state n) (λ g. (old : Gathering) × (open_session p.as_leader n ≡ Some old) × (g.lost ≡ old.lost))
      → Bears p (record p { as_leader = state })
  bears-leader p state all g opens =
      let one = if-some (λ (x : Gathering). (old : Gathering) × (open_session p.as_leader n ≡ Some old)
      × (x.lost ≡ old.lost)) (open_session state n) g opens all in
      record { session = one.0; opens = one.1; lost = one.2; applied = λ e. omega arith; heads = λ e h is. (h, is, refl) }

  bears-row : (number i : ℕ) (bytes : List ℕ) (p : Process) → Bears p (row_comes s number i bytes p)
  bears-row number i bytes p = bears-leader p (row_gathered s i bytes (open_session p.as_leader number) p.as_leader)
      (by (open_session p.as_leader number) refl) where
        by : (o : Option Gathering) → open_session p.as_leader number ≡ o
            → IfSome (open_session (row_gathered s i bytes o p.as_leader) n)
            (λ g. (old : Gathering) × (open_session p.as_leader n ≡ Some old) × (g.lost ≡ old.lost))
        by None is = kept-all p.as_leader (open_session p.as_leader n) refl
        by (Some g) is =
            gathered-if s (λ x. (old : Gathering) × (open_session p.as_leader n ≡ Some old) × (x.lost ≡ old.lost)) (is_complete s (with_row i bytes g))
            (with_row i bytes g) g p.as_leader n number is
            (number-is g number (found-passes (λ x. x.number == number) p.as_leader.sessions g is)) (λ here. (g, ap (open_session p.as_leader) here ∙ is, refl))
            (kept-all p.as_leader (open_session p.as_leader n) refl)

  bears-block : (number e : ℕ) (bytes : List ℕ) (p : Process) → Bears p (block_comes s number e bytes p)
  bears-block number e bytes p = bears-leader p (block_gathered s e bytes (open_session p.as_leader number) p.as_leader)
      (by (open_session p.as_leader number) refl) where
        by : (o : Option Gathering) → open_session p.as_leader number ≡ o
            → IfSome (open_session (block_gathered s e bytes o p.as_leader) n)
            (λ g. (old : Gathering) × (open_session p.as_leader n ≡ Some old) × (g.lost ≡ old.lost))
        by None is = kept-all p.as_leader (open_session p.as_leader n) refl
        by (Some g) is =
            gathered-if s (λ x. (old : Gathering) × (open_session p.as_leader n ≡ Some old) × (x.lost ≡ old.lost)) (is_complete s (with_block e bytes g))
            (with_block e bytes g) g p.as_leader n number is
            (number-is g number (found-passes (λ x. x.number == number) p.as_leader.sessions g is)) (λ here. (g, ap (open_session p.as_leader) here ∙ is, refl))
            (kept-all p.as_leader (open_session p.as_leader n) refl)

  -- a mark
  pub bears-mark : (l number r block d k : ℕ) (p : Process) → Bears p (mark_comes s l number r block d k p).process
  bears-mark l number r block d k p =
      bears-when (accepts_mark p l number r d) p (mark_taken s l number block d k p)
      (bears-then p q (copy_marked s d k (copy_in q.as_row.copies l number) q).process to_q (found (copy_in q.as_row.copies l number))) where
        q : Process
        q = apply_to s d k (begin_copy s l number block p)

        begun : (b : Bool) → Bears p (copy_begun b s l number block p)
        begun true = bears-self p
        begun false = bears-same p _ refl refl (λ e. omega arith)

        to_q : Bears p q
        to_q = bears-then p (begin_copy s l number block p) q (begun (is_some (copy_in p.as_row.copies l number)))
            (bears-apply d k (begin_copy s l number block p))

        finished : (b : Bool) (c : Copy) (z : Process) → Bears z (row_finished b s c z).process
        finished true c z = bears-row c.number c.leader c.bytes z
        finished false c z = bears-self z

        kept : (b : Bool) (c : Copy) → Bears q (copy_kept b s c q).process
        kept true c =
            let z : Process = with_copies (without_copy c.leader c.number q.as_row.copies) q in
            bears-then q z (row_finished (same_process z.name (ParityNode c.leader)) s c z).process
            (bears-same q z refl refl (λ e. omega arith)) (finished (same_process z.name (ParityNode c.leader)) c z)
        kept false c = bears-same q _ refl refl (λ e. omega arith)

        found : (o : Option Copy) → Bears q (copy_marked s d k o q).process
        found None = bears-self q
        found (Some c) = kept (is_marked s (marked d k c)) (marked d k c)

  -- an acknowledgement
  bears-acked : (p : Process) (i r d k : ℕ) (o : Option Head) → head_at p d ≡ o → Bears p (acknowledge s i r d k o p).process
  bears-acked p i r d k None heads = bears-self p
  bears-acked p i r d k (Some h) heads =
      bears-when (r == h.rank) p _ (let q : Process = with_head d (Some (acknowledged i k h)) p in
      bears-then p q (judge s d q).process to_q (bears-judge d q)) where
        to_q : Bears p (with_head d (Some (acknowledged i k h)) p)
        to_q g opens = record { session = g; opens = opens; lost = refl; applied = λ e. omega arith; heads = λ e j is. by e j is (cases_eq e d) } where
          by : (e : ℕ) (j : Head) → at None (put None p.heads d (Some (acknowledged i k h))) e ≡ Some j → (e ≡ d) ⊎ (e ≢ d)
              → (old : Head) × (head_at p e ≡ Some old) × (j.inherited ≡ old.inherited)
          by e j is (inl same) =
              let now : Some (acknowledged i k h) ≡ Some j = sym (at-put None None p.heads d (Some (acknowledged i k h)))
              ∙ ap (at None (put None p.heads d (Some (acknowledged i k h)))) (sym same) ∙ is in
              let head : acknowledged i k h ≡ j = cc now in
              (h, ap (head_at p) same ∙ heads, ap (λ (x : Head). x.inherited) (sym head))
          by e j is (inr other) = (j, sym (at-put-other None p.heads d e (Some (acknowledged i k h)) other) ∙ is, refl)

  -- after a notice no session is open
  sessions-each : (xs : List ℕ) (f : ℕ → Process → ProcessStep) (p : Process)
      → ((x : ℕ) (q : Process) → (f x q).process.as_leader.sessions ≡ q.as_leader.sessions)
      → (for_each xs f p).process.as_leader.sessions ≡ p.as_leader.sessions
  sessions-each [] f p all = refl
  sessions-each (x ∷ xs) f p all = sessions-each xs f (f x p).process all ∙ all x p

  sessions-judge : (d : ℕ) (p : Process) → (judge s d p).process.as_leader.sessions ≡ p.as_leader.sessions
  sessions-judge d p = by (head_at p d) where
    by : (o : Option Head) → (judge_head s d p o).process.as_leader.sessions ≡ p.as_leader.sessions
    by None = refl
    by (Some h) = refl

  sessions-takes : (d : ℕ) (p : Process) → (take_over_if s d p).process.as_leader.sessions ≡ p.as_leader.sessions
  sessions-takes d p = by (takes_over p d p.name) where
    by : (b : Bool) → (when b p (taken_over s d p)).process.as_leader.sessions ≡ p.as_leader.sessions
    by true = sessions-judge d (enthroned s (suc (parity_number p.name)) d p)
    by false = refl

  sessions-close : (gs : List Gathering) (p : Process) → p.as_leader.sessions ≡ gs → (close_sessions s gs p).process.as_leader.sessions ≡ []
  sessions-close [] p is = is
  sessions-close (g ∷ gs) p is = refl

  bears-notice : (dead : ProcessId) (p : Process) → Bears p (notice_comes s dead p).process
  bears-notice dead p g opens =
      let q : Process = death_known dead p in
      let closed : Process = (close_sessions s q.as_leader.sessions q).process in
      let judged : Process = (for_each (range_with_len 0 s.k) (judge s) closed).process in
      let none : (notice_comes s dead p).process.as_leader.sessions ≡ [] = sessions-each (range_with_len 0 s.k) (take_over_if s) judged sessions-takes
      ∙ sessions-each (range_with_len 0 s.k) (judge s) closed sessions-judge ∙ sessions-close q.as_leader.sessions q refl in
      absurd (cc (sym opens ∙ ap (λ (gs : List Gathering). find (λ x. x.number == n) gs) none))

  bears-read : (session : Session) (block : ℕ) (rows : List ℕ) (p : Process) (name : ProcessId) → Bears p (read_comes s session block rows p name).process
  bears-read session block rows p (DataNode e) = bears-self p
  bears-read session block rows p (ParityNode i) = bears-self p

  pub bears-receive : (x : ProcessId) (m : Message) (p : Process) → Bears p (receive s x m p).process
  bears-receive x (tells.Update r d u stable) p = bears-when (nat_le (at 0 p.ranks d.0) r.0) p _
      (let q : Process = apply_to s d.0 stable p in
      bears-then p q (with_replica d.0 (with_update u (replica_of q d.0)) q) (bears-apply d.0 stable p)
      (bears-with q d.0 (with_update u (replica_of q d.0)) (omega arith)))
  bears-receive (DataNode e) (tells.Ack r d k) p = bears-self p
  bears-receive (ParityNode i) (tells.Ack r d k) p = bears-acked p i r.0 d.0 k (head_at p d.0) refl
  bears-receive x (tells.Stable r d k) p = bears-when (nat_le (at 0 p.ranks d.0) r.0) p (quiet (apply_to s d.0 k p)) (bears-apply d.0 k p)
  bears-receive x (tells.Adopt r d base list) p = bears-when (nat_le (at 0 p.ranks d.0) r.0) p _
      (let ranked : Process = with_rank d.0 r.0 p in
      let q : Process = apply_to s d.0 base ranked in
      bears-then p ranked _ (bears-same p ranked refl refl (λ e. omega arith))
      (bears-then ranked q _ (bears-apply d.0 base ranked)
      (bears-with q d.0 (adopting base list (replica_of q d.0)) (omega arith))))
  bears-receive x (tells.ReadBlock session block rows) p = bears-read session block rows p p.name
  bears-receive (DataNode e) (tells.Block session bytes k) p = bears-block session.number e bytes p
  bears-receive (ParityNode i) (tells.Block session bytes k) p = bears-self p
  bears-receive x (tells.Mark session r block d k) p = bears-mark (parity_number session.leader) session.number r.0 block d.0 k p
  bears-receive (DataNode e) (tells.Row session bytes stamp) p = bears-self p
  bears-receive (ParityNode i) (tells.Row session bytes stamp) p = bears-row session.number i bytes p
  bears-receive (DataNode e) (tells.Cease upto) p = bears-self p
  bears-receive (ParityNode i) (tells.Cease upto) p = bears-same p (copies_ceased i upto p) refl refl (λ e. omega arith)
  bears-receive x (tells.Notice dead) p = bears-notice dead p

  -- what is said of a session that a step opened: what was inherited of a lost partition was applied before
  abbrev pub BearsNew : Process → Process → Type 0
  BearsNew p q =
      (g : Gathering) → open_session q.as_leader n ≡ Some g → (e : ℕ) → Contains g.lost e → ((replica_of p e).applied ≤ (replica_of q e).applied) ×
      ((h : Head) → head_at q e ≡ Some h → h.inherited ≤ (replica_of p e).applied)

  pub oldest-none : (p : Process) (ds : List ℕ) → oldest_inherited p ds ≡ None → (e : ℕ) → Among e ds → (h : Head)
      → head_at p e ≡ Some h → h.inherited ≤ (replica_of p e).applied
  oldest-none p [] none e there h heads = absurd there
  oldest-none p (d ∷ ds) none e there h heads = by (head_at p d) refl none there (λ rest deeper. oldest-none p ds rest e deeper h heads) where
    low : (a b : ℕ) → nat_lt a b ≡ false → b ≤ a
    low a b is = grind (arith, common_steps)

    tested : (b : Bool) (h' : Head) → nat_lt (replica_of p d).applied h'.inherited ≡ b → head_at p d ≡ Some h'
        → (if b then Some (record { partition = d; number = suc (replica_of p d).applied }) else oldest_inherited p ds) ≡ None
        → (e ≡ d) ⊎ Among e ds → (oldest_inherited p ds ≡ None → Among e ds → h.inherited ≤ (replica_of p e).applied) → h.inherited ≤ (replica_of p e).applied
    tested true h' is here some place later = absurd (cc some)
    tested false h' is here rest (inr deeper) later = later rest deeper
    tested false h' is here rest (inl same) later =
        let both : Some h ≡ Some h' = sym heads ∙ ap (head_at p) same ∙ here in
        let head : h ≡ h' = cc both in
        let less = low (replica_of p d).applied h'.inherited is in
        let inherited = ap (λ (x : Head). x.inherited) head in
        let applied = ap (λ (k : ℕ). (replica_of p k).applied) same in
        omega (arith, less, inherited, applied)

    by : (o : Option Head) → head_at p d ≡ o → inherited_or p d o (oldest_inherited p ds) ≡ None → (e ≡ d) ⊎ Among e ds
        → (oldest_inherited p ds ≡ None → Among e ds → h.inherited ≤ (replica_of p e).applied) → h.inherited ≤ (replica_of p e).applied
    by None is rest (inr deeper) later = later rest deeper
    by None is rest (inl same) later = absurd (cc (sym heads ∙ ap (head_at p) same ∙ is))
    by (Some h') is rest place later = tested (nat_lt (replica_of p d).applied h'.inherited) h' refl is rest place later

  -- calls
  module _ (p : Process) (fresh : suc p.as_leader.last_session ≡ n → open_session p.as_leader n ≡ None) where
    -- what calls leave, or open
    abbrev pub BearsOr : Process → Type 0
    BearsOr q = Bears p q ⊎ ((suc p.as_leader.last_session ≡ n) × BearsNew p q)

    bears-start : (block : ℕ) → oldest_inherited p (range_with_len 0 s.k) ≡ None → BearsOr (start_session s block p).process
    bears-start block none = by (cases_eq (suc p.as_leader.last_session) n) where
      rest : Bears (session_opened s (suc p.as_leader.last_session) block p)
          (for_each (lost_of s p) (own_mark s (parity_number p.name) (suc p.as_leader.last_session) block)
          (session_opened s (suc p.as_leader.last_session) block p)).process
      rest = bears-each (lost_of s p) (own_mark s (parity_number p.name) (suc p.as_leader.last_session) block)
          (session_opened s (suc p.as_leader.last_session) block p)
          (λ e q. bears-mark (parity_number p.name) (suc p.as_leader.last_session) (at 0 q.ranks e) block e (replica_of q e).applied q)

      found : (find (λ g. g.number == n) (p.as_leader.sessions ++ new_session s (suc p.as_leader.last_session) block p ∷ []) ≡ open_session p.as_leader n)
          ⊎ ((open_session p.as_leader n ≡ None)
          × (find (λ g. g.number == n) (p.as_leader.sessions ++ new_session s (suc p.as_leader.last_session) block p
          ∷ []) ≡ Some (new_session s (suc p.as_leader.last_session) block p)))
      found = found-behind (λ g. g.number == n) p.as_leader.sessions (new_session s (suc p.as_leader.last_session) block p)

      is-new : suc p.as_leader.last_session ≡ n → (g : Gathering)
          → open_session (session_opened s (suc p.as_leader.last_session) block p).as_leader n ≡ Some g
          → g.lost ≡ lost_of s p
      is-new same g opens = turn found where
        turn : (find (λ g. g.number == n) (p.as_leader.sessions ++ new_session s (suc p.as_leader.last_session) block p ∷ []) ≡ open_session p.as_leader n)
            ⊎ ((open_session p.as_leader n ≡ None)
            × (find (λ g. g.number == n) (p.as_leader.sessions ++ new_session s (suc p.as_leader.last_session) block p
            ∷ []) ≡ Some (new_session s (suc p.as_leader.last_session) block p)))
            → g.lost ≡ lost_of s p
        turn (inl old) = absurd (cc (sym opens ∙ old ∙ fresh same))
        turn (inr both) =
            let is : Some g ≡ Some (new_session s (suc p.as_leader.last_session) block p) = sym opens ∙ both.1 in
            let session : g ≡ new_session s (suc p.as_leader.last_session) block p = cc is in
            ap (λ (x : Gathering). x.lost) session

      is-old : suc p.as_leader.last_session ≢ n → Bears p (session_opened s (suc p.as_leader.last_session) block p)
      is-old other g opens = turn found where
        turn : (find (λ g. g.number == n) (p.as_leader.sessions ++ new_session s (suc p.as_leader.last_session) block p ∷ []) ≡ open_session p.as_leader n)
            ⊎ ((open_session p.as_leader n ≡ None)
            × (find (λ g. g.number == n) (p.as_leader.sessions ++ new_session s (suc p.as_leader.last_session) block p
            ∷ []) ≡ Some (new_session s (suc p.as_leader.last_session) block p)))
            → Before p (session_opened s (suc p.as_leader.last_session) block p) g
        turn (inl old) = record { session = g; opens = sym old ∙ opens; lost = refl; applied = λ e. omega arith; heads = λ e h is. (h, is, refl) }
        turn (inr both) = absurd (other (number-is (new_session s (suc p.as_leader.last_session) block p) n
            (found-passes (λ g. g.number == n) (p.as_leader.sessions ++ new_session s (suc p.as_leader.last_session)
            block p ∷ []) (new_session s (suc p.as_leader.last_session) block p) both.1)))

      by : (suc p.as_leader.last_session ≡ n) ⊎ (suc p.as_leader.last_session ≢ n) → BearsOr (start_session s block p).process
      by (inl same) = inr (
        same,
        λ g opens e lost.
            let b = rest g opens in
            let among : Among e (lost_of s p) =
            contains-among (lost_of s p) e
            (subst (λ (ls : List ℕ). Contains ls e) (b.lost ∙ is-new same b.session b.opens) lost) in
            let ranged = (among-filter (λ d. knows_dead p.known (DataNode d)) e (range_with_len 0 s.k) among).0 in (
              b.applied e,
              λ h heads.
                  let old = b.heads e h heads in
                  let low = oldest-none p (range_with_len 0 s.k) none e ranged old.0 old.1 in
                  let same_number = old.2 in
                  omega (arith, low, same_number),
            ),
      )
      by (inr other) = inl (bears-then p (session_opened s (suc p.as_leader.last_session) block p) (start_session s block p).process (is-old other) rest)

    bears-retry : (block : ℕ) (o : Option Oldest) → oldest_inherited p (range_with_len 0 s.k) ≡ o → BearsOr (retry_block s block o p).step.process
    bears-retry block (Some o) is = inl (bears-self p)
    bears-retry block None is = by (not (list_any (λ g. g.block == block) p.as_leader.sessions)) where
      by : (b : Bool) → BearsOr (when b p (start_session s block p)).process
      by true = bears-start block is
      by false = inl (bears-self p)

    bears-issued : (d : ℕ) (h : Head) (u : Update) → Bears p (issued s d h u p).process
    bears-issued d h u =
        let told : Process = with_replica d (with_update u (replica_of p d)) p in
        bears-then p told (judge s d told).process (bears-with p d (with_update u (replica_of p d)) (omega arith)) (bears-judge d told)

    bears-ticketed : (b : Bool) (d : ℕ) (u : Update) (step : ProcessStep) → Bears p step.process → Bears p (ticketed b d u step).step.process
    bears-ticketed true d u step bears = bears
    bears-ticketed false d u step bears = bears-then p step.process _ bears (bears-same step.process _ refl refl (λ e. omega arith))

    bears-act : (call : CallName) (op : Asked) (d : ℕ) (h : Head) (decision : Decision) → BearsOr (act_on s call op d h p decision).step.process
    bears-act call op d h (decides.Answer r) = inl (bears-self p)
    bears-act call op d h (decides.Retry k) = inl (bears-self p)
    bears-act call op d h decides.NoSpace = inl (bears-self p)
    bears-act call op d h (decides.NeedBlock b) = bears-retry b (oldest_inherited p (range_with_len 0 s.k)) refl
    bears-act call op d h (decides.Issue body outcome) =
        let u : Update = update_of call op d body outcome p in
        inl (bears-ticketed (nat_le u.number (replica_of (issued s d h u p).process d).applied) d u (issued s d h u p) (bears-issued d h u))

    bears-ask : (call : CallName) (op : Asked) (d : ℕ) (o : Option Head) → BearsOr (ask_head s call op d p o).step.process
    bears-ask call op d None = inl (bears-self p)
    bears-ask call op d (Some h) = bears-act call op d h (decide (space_of s) h.inherited (replica_of p d) op (found_at s d p p.name))

    bears-collect : (caller call : ℕ) (ds : List ℕ) → Bears p (collect_from caller call p ds).step.process
    bears-collect caller call [] = bears-self p
    bears-collect caller call (d ∷ ds) = by (find (is_call caller call) (held_at p d)) (bears-collect caller call ds) where
      handed : (b : Bool) (h : Held) → Bears p (handed_out b d h p).step.process
      handed true h = bears-same p _ refl refl (λ e. omega arith)
      handed false h = bears-self p

      by : (o : Option Held) → Bears p (collect_from caller call p ds).step.process → Bears p (collect_held d o p (collect_from caller call p ds)).step.process
      by None rest = rest
      by (Some h) rest = handed (nat_le h.number (replica_of p d).applied) h

    pub bears-treats : (step : ProcessStep) → Treats s p step → BearsOr step.process
    bears-treats _ (Asks call op bytes) = bears-ask call op (home_of (key_of op.act) s.k) (head_at p (home_of (key_of op.act) s.k))
    bears-treats _ (Collects caller call) = inl (bears-collect caller call (range_with_len 0 s.k))
    bears-treats _ Flushes = inl (bears-self p)

-- what a leader has of its open session's lost partitions
module _ (s : Dimensions) (l n : ℕ) where
  pub lost-borne : (plan : Plan) (p q : Process) → q.name ≡ p.name → Bears s n p q → LostFollows l n plan p → LostFollows l n plan q
  lost-borne plan p q name bears before leads = by (open_session q.as_leader n) refl where
    by : (o : Option Gathering) → open_session q.as_leader n ≡ o
        → IfSome o (λ g. (e : ℕ) → Contains g.lost e → (plan.numbers e ≤ (replica_of q e).applied) × IfSome (head_at q e) (λ h. h.inherited ≤ plan.numbers e))
    by None is = tt
    by (Some g) is = λ e lost.
        let b = bears g is in
        let old = if-some
        (λ x. (e : ℕ) → Contains x.lost e → (plan.numbers e ≤ (replica_of p e).applied) × IfSome (head_at p e) (λ h. h.inherited ≤ plan.numbers e))
        (open_session p.as_leader n) b.session b.opens (before (sym name ∙ leads)) e
        (subst (λ (ls : List ℕ). Contains ls e) b.lost lost) in
        let more = b.applied e in
        let low = old.0 in
        (omega (arith, more, low), heads g b e old.1 (head_at q e) refl)
      where
        heads : (g : Gathering) → Before s n p q g → (e : ℕ) → IfSome (head_at p e) (λ h. h.inherited ≤ plan.numbers e) → (o : Option Head) → head_at q e ≡ o
            → IfSome o (λ h. h.inherited ≤ plan.numbers e)
        heads g b e old None is_it = tt
        heads g b e old (Some h) is_it =
            let was = b.heads e h is_it in
            let low = if-some (λ (x : Head). x.inherited ≤ plan.numbers e) (head_at p e) was.0 was.1 old in
            let same = was.2 in
            omega (arith, low, same)

  -- where the session is new, the plan's numbers are those that the leader had applied
  pub lost-new : (plan : Plan) (p q : Process) → ((e : ℕ) → plan.numbers e ≡ (replica_of p e).applied) → BearsNew s n p q → LostFollows l n plan q
  lost-new plan p q numbers new leads = by (open_session q.as_leader n) refl where
    by : (o : Option Gathering) → open_session q.as_leader n ≡ o
        → IfSome o (λ g. (e : ℕ) → Contains g.lost e → (plan.numbers e ≤ (replica_of q e).applied) × IfSome (head_at q e) (λ h. h.inherited ≤ plan.numbers e))
    by None is = tt
    by (Some g) is = λ e lost.
        let is_new = new g is e lost in
        let number = numbers e in
        let more = is_new.0 in
        (omega (arith, more, number), heads e is_new.1 (head_at q e) refl)
      where
        heads : (e : ℕ) → ((h : Head) → head_at q e ≡ Some h → h.inherited ≤ (replica_of p e).applied)
            → (o : Option Head) → head_at q e ≡ o → IfSome o (λ h. h.inherited ≤ plan.numbers e)
        heads e low None is_it = tt
        heads e low (Some h) is_it = let less = low h is_it in let number = numbers e in omega (arith, less, number)
