-- A block is served at a leader where a session for it is open, or it is rebuilt for each lost partition: every step but
-- that of a notice keeps it so.
use Rattle.std.proofs.Common.{◌≡◌, ◌≢◌, ℕ, suc, ◌<◌, ◌==◌, nat_le, Bool, true, false, List, [], ◌∷◌, ◌++◌, find, cond}
use Rattle.std.proofs.Common.{is_some, Option, Some, None, ◌⊎◌, inl, inr, refl, sym, ap, subst, ◌∙◌, if◌then◌else◌}
use Rattle.std.proofs.Common.{arith}
use Rattle.std.proofs.lemmas.Bool.{cases_eq}
use Rattle.std.specs.List.{range_with_len}
use Rattle.group_types.specs.Dimensions.{Dimensions}
use Rattle.group_types.specs.Lists.{at, put}
use Rattle.group_types.specs.Names.{same_process}
use Rattle.group_types.specs.declared.process.ProcessId.{ProcessId}
use Rattle.group_types.specs.declared.process.ProcessId.TheVariants.{DataNode, ParityNode}
use Rattle.membership.specs.Members.{knows_dead}
use Rattle.group_message.specs.declared.message.Message.{Message}
use Rattle.group_message.specs.declared.message.Message.TheVariants as tells
use Rattle.group_run.specs.Applying.{ProcessStep, apply_to, for_each, head_at, quiet, replica_of, when, with_replica}
use Rattle.group_run.specs.Leaders.{block_comes, block_gathered, copy_kept, copy_marked, gathered_when, is_complete}
use Rattle.group_run.specs.Leaders.{lost_of, mark_comes, mark_taken, new_session, own_mark, rebuilt_block, row_comes}
use Rattle.group_run.specs.Leaders.{row_finished, row_gathered, session_opened, start_session, with_leader}
use Rattle.group_run.specs.Leaders.{without_session}
use Rattle.group_run.specs.Process.{Copy, Gathering, Process}
use Rattle.group_run.specs.Receiving.{ack_to, adopting, log_adopted, read_comes, receive, update_taken, with_rank}
use Rattle.group_run.specs.Replica.{with_update}
use Rattle.group_run.specs.Rows.{accepts_mark, begin_copy, copies_ceased, copy_begun, copy_in, is_marked, marked, parity_number, with_copies, without_copy}
use Rattle.law_bytes.proofs.Copies.{stays-decoded}
use Rattle.law_bytes.proofs.Finding.{found-passes}
use Rattle.law_answers.proofs.Awaited.{decoded-some}
use Rattle.law_moves.specs.Known.{is_notice}
use Rattle.law_moves.proofs.Chains.{goes-each, goes-when}
use Rattle.law_bytes.proofs.LeadingWords.{lost_by}
use Rattle.law_bytes.proofs.Local.{number-is}
use Rattle.law_progress.proofs.Waiting.{Has}
use Rattle.law_progress.proofs.Mild.{Alike, alike-apply, alike-same, alike-then, mild-acked, mild-when}
use Rattle.law_progress.proofs.Quiet.{some-passes}
use Rattle.law_progress.proofs.Sides.{opened}
use Rattle.law_progress.proofs.Views.{gathered-here, gathered-other, has-filter, has-range}

module _ (s : Dimensions) where
  -- the block is rebuilt for each partition that is known to be lost
  abbrev pub Rebuilt : ℕ → Process → Type 0
  Rebuilt b p = (d : ℕ) → d < s.k → knows_dead p.known (DataNode d) ≡ true → is_some (rebuilt_block p.as_leader d b) ≡ true

  -- a session for it is open
  pub record Awaits (b : ℕ) (p : Process) : Type 0 where
    pub number : ℕ
    pub session : Gathering
    pub opens : opened p number ≡ Some session
    pub block : session.block ≡ b
    pub lost : session.lost ≡ lost_by s p.known

  abbrev pub Served : ℕ → Process → Type 0
  Served b p = Awaits b p ⊎ Rebuilt b p

  -- a process that is left so
  pub record Serves (p q : Process) : Type 0 where
    pub known : q.known ≡ p.known
    pub served : (b : ℕ) → Served b p → Served b q

  serves-self : (p : Process) → Serves p p
  serves-self p = record { known = refl; served = λ b is. is }

  serves-then : (p q r : Process) → Serves p q → Serves q r → Serves p r
  serves-then p q r a b = record { known = b.known ∙ a.known; served = λ x is. b.served x (a.served x is) }

  pub serves-alike : (p q : Process) → Alike p q → Serves p q
  serves-alike p q alike = record { known = alike.known; served = λ b is. by b is } where
    by : (b : ℕ) → Served b p → Served b q
    by b (inl awaits) = inl (record {
      number = awaits.number;
      session = awaits.session;
      opens = ap (λ (gs : List Gathering). find (λ g. g.number == awaits.number) gs) alike.sessions ∙ awaits.opens;
      block = awaits.block;
      lost = awaits.lost ∙ ap (lost_by s) (sym alike.known);
    })
    by b (inr rebuilt) = inr (λ d low known. alike.rebuilt d b ∙ rebuilt d low (ap (λ k. knows_dead k (DataNode d)) (sym alike.known) ∙ known))

  -- something comes in for an open session
  module _ (p : Process) (number : ℕ) (g h : Gathering) (opens : opened p number ≡ Some g) (block : h.block ≡ g.block)
      (lost : h.lost ≡ g.lost) (same : h.number ≡ g.number) where
    is-number : h.number ≡ number
    is-number = same ∙ number-is g number (found-passes (λ x. x.number == number) p.as_leader.sessions g opens)

    abbrev after : Bool → Process
    after complete = with_leader (gathered_when complete s h p.as_leader) p

    -- blocks stay rebuilt
    stays : (complete : Bool) (d b : ℕ) → is_some (rebuilt_block p.as_leader d b) ≡ true → is_some (rebuilt_block (after complete).as_leader d b) ≡ true
    stays true d b some =
        ap is_some (stays-decoded s h h.lost
        (record p.as_leader { sessions = without_session h.number p.as_leader.sessions }) d b some) ∙ some
    stays false d b some = some

    closes : (complete : Bool) → (b : ℕ) → g.block ≡ b → g.lost ≡ lost_by s p.known → opened (after complete) number
        ≡ (if complete then None else Some h) → Served b (after complete)
    closes false b is gone here = inl (record { number = number; session = h; opens = here; block = block ∙ is; lost = lost ∙ gone })
    closes true b is gone here = inr (λ d low known. subst (λ (x : ℕ). is_some (rebuilt_block (after true).as_leader d x) ≡ true) (block ∙ is)
        (decoded-some s h h.lost (record p.as_leader { sessions = without_session h.number p.as_leader.sessions }) d
        (some-passes h.lost d
        (subst (Has (λ i. i ≡ d)) (sym (lost ∙ gone))
        (has-filter (λ e. knows_dead p.known (DataNode e)) d (range_with_len 0 s.k)
        (has-range d 0 s.k (omega arith) (omega (arith, low))) known)))))

    gathers : (complete : Bool) (b : ℕ) → Served b p → Served b (after complete)
    gathers complete b (inr rebuilt) = inr (λ d low known. stays complete d b (rebuilt d low known))
    gathers complete b (inl awaits) = by (cases_eq awaits.number number) where
      by : (awaits.number ≡ number) ⊎ (awaits.number ≢ number) → Served b (after complete)
      by (inr other) = inl (record {
        number = awaits.number;
        session = awaits.session;
        opens = gathered-other s h g p.as_leader number opens is-number complete awaits.number other ∙ awaits.opens;
        block = awaits.block;
        lost = awaits.lost;
      })
      by (inl here) =
          let it : awaits.session ≡ g = cc (sym awaits.opens ∙ ap (opened p) here ∙ opens) in
          closes complete b (ap (λ (x : Gathering). x.block) (sym it) ∙ awaits.block) (ap (λ (x : Gathering). x.lost) (sym it) ∙ awaits.lost)
          (gathered-here s h g p.as_leader number opens is-number complete)

  row-serves : (number i : ℕ) (bytes : List ℕ) (p : Process) → Serves p (row_comes s number i bytes p)
  row-serves number i bytes p = by (opened p number) refl where
    by : (o : Option Gathering) → opened p number ≡ o → Serves p (with_leader (row_gathered s i bytes o p.as_leader) p)
    by None none = record { known = refl; served = λ b is. is }
    by (Some g) opens =
        let h : Gathering = record g { rows_in = put None g.rows_in i (Some bytes) } in
        record { known = refl; served = λ b is. gathers p number g h opens refl refl refl (is_complete s h) b is }

  block-serves : (number e : ℕ) (bytes : List ℕ) (p : Process) → Serves p (block_comes s number e bytes p)
  block-serves number e bytes p = by (opened p number) refl where
    by : (o : Option Gathering) → opened p number ≡ o → Serves p (with_leader (block_gathered s e bytes o p.as_leader) p)
    by None none = record { known = refl; served = λ b is. is }
    by (Some g) opens =
        let h : Gathering = record g { blocks_in = put None g.blocks_in e (Some bytes) } in
        record { known = refl; served = λ b is. gathers p number g h opens refl refl refl (is_complete s h) b is }

  -- copies alone change
  copies-serve : (cs : List Copy) (p : Process) → Serves p (with_copies cs p)
  copies-serve cs p = record { known = refl; served = λ b is. by b is } where
    by : (b : ℕ) → Served b p → Served b (with_copies cs p)
    by b (inl awaits) = inl (record { number = awaits.number; session = awaits.session; opens = awaits.opens; block = awaits.block; lost = awaits.lost })
    by b (inr rebuilt) = inr rebuilt

  when-serves : (b : Bool) (p : Process) (t : ProcessStep) → Serves p t.process → Serves p (when b p t).process
  when-serves = goes-when (λ p q. Serves p q) serves-self

  each-serves : (xs : List ℕ) (f : ℕ → Process → ProcessStep) (p : Process)
      → ((x : ℕ) (q : Process) → Serves q (f x q).process) → Serves p (for_each xs f p).process
  each-serves = goes-each (λ p q. Serves p q) serves-self serves-then

  mark-serves : (l number r block d n : ℕ) (p : Process) → Serves p (mark_comes s l number r block d n p).process
  mark-serves l number r block d n p = when-serves (accepts_mark p l number r d) p (mark_taken s l number block d n p)
      (serves-then p q (copy_marked s d n (copy_in q.as_row.copies l number) q).process to_q (found (copy_in q.as_row.copies l number)))
    where
      q : Process
      q = apply_to s d n (begin_copy s l number block p)

      begun : (b : Bool) → Serves p (copy_begun b s l number block p)
      begun true = serves-self p
      begun false = copies-serve _ p

      to_q : Serves p (apply_to s d n (begin_copy s l number block p))
      to_q = serves-then p (begin_copy s l number block p) (apply_to s d n (begin_copy s l number block p)) (begun (is_some (copy_in p.as_row.copies l number)))
          (serves-alike (begin_copy s l number block p) (apply_to s d n (begin_copy s l number block p)) (alike-apply s d n (begin_copy s l number block p)))

      finished : (b : Bool) (c : Copy) (z : Process) → Serves z (row_finished b s c z).process
      finished true c z = row-serves c.number c.leader c.bytes z
      finished false c z = serves-self z

      kept : (b : Bool) (c : Copy) (z : Process) → Serves z (copy_kept b s c z).process
      kept true c z =
          let y : Process = with_copies (without_copy c.leader c.number z.as_row.copies) z in
          serves-then z y (row_finished (same_process z.name (ParityNode c.leader)) s c y).process
          (copies-serve (without_copy c.leader c.number z.as_row.copies) z) (finished (same_process z.name (ParityNode c.leader)) c y)
      kept false c z = copies-serve _ z

      found : (o : Option Copy) → Serves (apply_to s d n (begin_copy s l number block p))
          (copy_marked s d n o (apply_to s d n (begin_copy s l number block p))).process
      found None = serves-self _
      found (Some c) = kept (is_marked s (marked d n c)) (marked d n c) (apply_to s d n (begin_copy s l number block p))

  -- one more session is opened
  find-stays : (n : ℕ) (gs : List Gathering) (h g : Gathering) → find (λ x. x.number == n) gs ≡ Some g → find (λ x. x.number == n) (gs ++ h ∷ []) ≡ Some g
  find-stays n [] h g is = cc is
  find-stays n (x ∷ xs) h g is = by (x.number == n) is (λ later. find-stays n xs h g later) where
    by : (b : Bool) → cond b (Some x) (find (λ y. y.number == n) xs) ≡ Some g
        → (find (λ y. y.number == n) xs ≡ Some g → find (λ y. y.number == n) (xs ++ h ∷ []) ≡ Some g)
        → cond b (Some x) (find (λ y. y.number == n) (xs ++ h ∷ [])) ≡ Some g
    by true here later = here
    by false here later = later here

  pub start-serves : (block : ℕ) (p : Process) → Serves p (start_session s block p).process
  start-serves block p =
      let number : ℕ = suc p.as_leader.last_session in
      serves-then p (session_opened s number block p) (start_session s block p).process
      (record { known = refl; served = λ b is. by b is })
      (each-serves (lost_of s p) (own_mark s (parity_number p.name) number block) (session_opened s number block p)
      (λ e q. mark-serves (parity_number p.name) number (at 0 q.ranks e) block e (replica_of q e).applied q))
    where
      by : (b : ℕ) → Served b p → Served b (session_opened s (suc p.as_leader.last_session) block p)
      by b (inr rebuilt) = inr rebuilt
      by b (inl awaits) = inl (record {
        number = awaits.number;
        session = awaits.session;
        opens = find-stays awaits.number p.as_leader.sessions (new_session s (suc p.as_leader.last_session) block p) awaits.session awaits.opens;
        block = awaits.block;
        lost = awaits.lost;
      })

  -- a message comes that tells of no death
  pub receive-serves : (x : ProcessId) (m : Message) (p : Process) → is_notice m ≡ false → Serves p (receive s x m p).process
  receive-serves x (tells.Update r d u stable) p plain =
      serves-alike p _
      (mild-when (nat_le (at 0 p.ranks d.0) r.0) p (ack_to x r.0 d.0 u.number (update_taken s d.0 u stable p))
      (let q : Process = apply_to s d.0 stable p in
      record {
        alike = alike-then p q (with_replica d.0 (with_update u (replica_of q d.0)) q)
            (alike-apply s d.0 stable p) (alike-same q (with_replica d.0 (with_update u (replica_of q d.0)) q) refl refl
            refl);
        calm = (tt, tt);
      })).alike
  receive-serves x (tells.Stable r d n) p plain =
      serves-alike p _ (mild-when (nat_le (at 0 p.ranks d.0) r.0) p (quiet (apply_to s d.0 n p)) (record { alike = alike-apply s d.0 n p; calm = tt })).alike
  receive-serves x (tells.Adopt r d base list) p plain = when-serves (nat_le (at 0 p.ranks d.0) r.0) p (ack_to x r.0 d.0 _ (log_adopted s r.0 d.0 base list p))
      (let ranked : Process = with_rank d.0 r.0 p in
      let q : Process = apply_to s d.0 base ranked in
      serves-alike p _
      (alike-then p ranked _ (alike-same p ranked refl refl refl)
      (alike-then ranked q _ (alike-apply s d.0 base ranked)
      (alike-same q (with_replica d.0 (adopting base list (replica_of q d.0)) q) refl refl refl))))
  receive-serves (DataNode e) (tells.Ack r d n) p plain = serves-self p
  receive-serves (ParityNode i) (tells.Ack r d n) p plain = serves-alike p _ (mild-acked s p i r.0 d.0 n (head_at p d.0)).alike
  receive-serves x (tells.ReadBlock session block rows) p plain = by p.name where
    by : (y : ProcessId) → Serves p (read_comes s session block rows p y).process
    by (DataNode e) = serves-self p
    by (ParityNode i) = serves-self p
  receive-serves (DataNode e) (tells.Block session bytes n) p plain = block-serves session.number e bytes p
  receive-serves (ParityNode i) (tells.Block session bytes n) p plain = serves-self p
  receive-serves x (tells.Mark session r block d n) p plain = mark-serves (parity_number session.leader) session.number r.0 block d.0 n p
  receive-serves (DataNode e) (tells.Row session bytes stamp) p plain = serves-self p
  receive-serves (ParityNode i) (tells.Row session bytes stamp) p plain = row-serves session.number i bytes p
  receive-serves (DataNode e) (tells.Cease upto) p plain = serves-self p
  receive-serves (ParityNode i) (tells.Cease upto) p plain = record { known = refl; served = λ b is. ceased b is } where
    ceased : (b : ℕ) → Served b p → Served b (copies_ceased i upto p)
    ceased b (inl awaits) = inl (record { number = awaits.number; session = awaits.session; opens = awaits.opens; block = awaits.block; lost = awaits.lost })
    ceased b (inr rebuilt) = inr rebuilt
  receive-serves x (tells.Notice dead) p plain = cc plain
