-- Every step of a process keeps its copies and sessions sound, and sends sound messages.
use Rattle.std.proofs.Common.{◌≡◌, ℕ, suc, ◌+◌, ◌<◌, ◌==◌, ◌&&◌, nat_le, Bool, true, false, not, List, [], ◌∷◌, length}
use Rattle.std.proofs.Common.{map, filter, find, flat_map, is_some, Option, Some, None, sym, ap, subst, ◌∙◌, refl}
use Rattle.std.proofs.Common.{if◌then◌else◌}
use Rattle.std.specs.List.{list_any, range_with_len}
use Rattle.group_types.specs.Dimensions.{Dimensions, space_of}
use Rattle.group_types.specs.Hash.{home_of}
use Rattle.group_types.specs.Lists.{at, put}
use Rattle.group_types.specs.Names.{IsProcess, same_process}
use Rattle.group_types.specs.declared.process.ProcessId.{ProcessId}
use Rattle.group_types.specs.declared.process.ProcessId.TheVariants.{DataNode, ParityNode}
use Rattle.group_types.specs.Each.{Each}
use Rattle.group_types.proofs.Eaches.{each-append, each-take, each-weaker, each-all, each-map, each-filter}
use Rattle.membership.specs.Members.{knows_dead, with_dead}
use Rattle.memc_table.specs.Act.{key_of}
use Rattle.memc_table.specs.Asked.{Asked}
use Rattle.group_message.specs.declared.message.Message.{Message}
use Rattle.group_message.specs.declared.message.Message.TheVariants as tells
use Rattle.group_message.specs.declared.message.Session.{Session}
use Rattle.group_message.specs.declared.update.Update.{Update}
use Rattle.group_calls.specs.Turns.{CallName}
use Rattle.group_calls.specs.declared.decision.Decision.{Decision}
use Rattle.group_calls.specs.declared.decision.Decision.TheVariants as decides
use Rattle.group_run.specs.Applying.{ProcessStep, Sent, and_then, apply_to, for_each, head_at, held_at, quiet}
use Rattle.group_run.specs.Applying.{replica_of, sending, space_after, when, with_head, with_replica}
use Rattle.group_run.specs.Asking.{Oldest, act_on, ask_head, collect_from, collect_held, found_at, handed_out, is_call}
use Rattle.group_run.specs.Asking.{issued, oldest_inherited, retry_block, ticketed, update_of}
use Rattle.group_run.specs.Deciding.{decide}
use Rattle.group_run.specs.Heading.{acknowledge, acknowledged, judge, judge_head, other_parities, partition, rank, tell_stable, tell_stables, to_others}
use Rattle.group_run.specs.Leaders.{block_comes, block_gathered, close_sessions, copy_kept, copy_marked, gathered_when}
use Rattle.group_run.specs.Leaders.{is_complete, leader_marks, left_of, lost_of, mark_comes, mark_taken, new_session}
use Rattle.group_run.specs.Leaders.{open_session, own_mark, row_comes, row_finished, row_gathered, rows_of, session_of}
use Rattle.group_run.specs.Leaders.{session_opened, session_starts, start_session, with_leader, without_session}
use Rattle.group_run.specs.Process.{Copy, Gathering, Head, Held, LeaderState, Process}
use Rattle.group_run.specs.Receiving.{ack_to, death_known, enthroned, log_adopted, notice_comes, read_comes, receive}
use Rattle.group_run.specs.Receiving.{take_over_if, taken_over, takes_over, update_taken, with_rank}
use Rattle.group_run.specs.Replica.{Replica, empty_replica, up_to, with_update}
use Rattle.group_run.specs.Rows.{accepts_mark, begin_copy, copies_ceased, copy_begun, copy_in, is_copy, is_marked}
use Rattle.group_run.specs.Rows.{leader_forgotten, marked, new_copy, parity_number, with_copies, with_copy}
use Rattle.group_run.specs.Rows.{without_copy}
use Rattle.law_moves.proofs.Moves.{Asks, Collects, Flushes, Treats}
use Rattle.law_moves.proofs.Members.{IsParity}
use Rattle.law_moves.proofs.Calls.{each-below}
use Rattle.law_bytes.proofs.Finds.{found-each, rising-take}
use Rattle.law_bytes.proofs.Marking.{begun-same, up_to-applied}
use Rattle.law_bytes.proofs.Rising.{all-each, differ-pairs, differ-rising, rising-filtered}
use Rattle.law_bytes.proofs.Marks.{decoded-same}
use Rattle.law_headline.proofs.Sound.{AsksSound, CopySound, IsLed, NeedsSound, ProcessSound, SessionSound, Sound}
use Rattle.law_headline.proofs.Lengths.{block-long, copies-after}

-- who takes a message of these kinds is a parity process
abbrev pub IsTaker : Message → ProcessId → Type 0
IsTaker (tells.Update r d u stable) q = IsParity q
IsTaker (tells.Adopt r d base list) q = IsParity q
IsTaker _ q = Unit {0}

module _ (s : Dimensions) where
  -- a step after which the process is sound, and which sends what is
  pub record Does (p : Process) (t : ProcessStep) : Type 0 where
    pub name : t.process.name ≡ p.name
    pub process : ProcessSound s t.process
    pub sent : Each (λ z. Sound s p.name z.message) t.sent

  -- a process with the same copies and sessions
  same-sound : (p q : Process) → q.name ≡ p.name → q.as_row.copies ≡ p.as_row.copies
      → q.as_leader.sessions ≡ p.as_leader.sessions → ProcessSound s p → ProcessSound s q
  same-sound p q name copies sessions sound = record {
    copies = subst (Each (CopySound s)) (sym copies) sound.copies;
    sessions = subst (λ (x : ProcessId). Each (SessionSound s x) q.as_leader.sessions) (sym name)
        (subst (Each (SessionSound s p.name)) (sym sessions) sound.sessions);
  }

  self-does : (p : Process) → ProcessSound s p → Does p (quiet p)
  self-does p sound = record { name = refl; process = sound; sent = tt }

  then-does : (p : Process) (a : ProcessStep) (f : Process → ProcessStep) → Does p a → Does a.process (f a.process) → Does p (and_then a f)
  then-does p a f first next = record {
    name = next.name ∙ first.name;
    process = next.process;
    sent = each-append (λ z. Sound s p.name z.message) a.sent (f a.process).sent first.sent
        (subst (λ (x : ProcessId). Each (λ z. Sound s x z.message) (f a.process).sent) first.name next.sent);
  }

  each-does : (xs : List ℕ) (f : ℕ → Process → ProcessStep) (p : Process)
      → ((x : ℕ) (q : Process) → ProcessSound s q → Does q (f x q)) → ProcessSound s p → Does p (for_each xs f p)
  each-does [] f p all sound = self-does p sound
  each-does (x ∷ xs) f p all sound = let first = all x p sound in then-does p (f x p) (for_each xs f) first (each-does xs f (f x p).process all first.process)

  when-does : (b : Bool) (p : Process) (step : ProcessStep) → ProcessSound s p → Does p step → Does p (when b p step)
  when-does true p step sound does = does
  when-does false p step sound does = self-does p sound

  -- a message to all others
  others-sound : (p : Process) (m : Message) → Sound s p.name m → Each (λ z. Sound s p.name z.message) (to_others s p m)
  others-sound p m sound =
      each-map (λ z. Sound s p.name z.message) (λ i. record { to = ParityNode i; message = m }) (other_parities s.m p.name p.known)
      (each-all (λ i. Sound s p.name m) (λ i. sound) (other_parities s.m p.name p.known))

  -- what is applied
  apply-sound : (d n : ℕ) (p : Process) → ProcessSound s p → ProcessSound s (apply_to s d n p)
  apply-sound d n p sound = record { copies = copies-after s p.name d (up_to n (replica_of p d)) p.as_row.copies sound.copies; sessions = sound.sessions }

  judge-does : (d : ℕ) (p : Process) → ProcessSound s p → Does p (judge s d p)
  judge-does d p sound = by (head_at p d) where
    by : (o : Option Head) → Does p (judge_head s d p o)
    by None = self-does p sound
    by (Some h) = record { name = refl; process = apply-sound d _ p sound; sent = tt }

  takes-does : (d : ℕ) (p : Process) → ProcessSound s p → Does p (take_over_if s d p)
  takes-does d p sound = when-does (takes_over p d p.name) p (taken_over s d p) sound
      (let q : Process = enthroned s (suc (parity_number p.name)) d p in
      let same : ProcessSound s q = same-sound p q refl refl refl sound in
      then-does p (sending _ q) (judge s d) (record { name = refl; process = same; sent = others-sound p _ tt }) (judge-does d q same))

  -- what comes in leaves the other sessions
  gathered-sound : (complete : Bool) (name : ProcessId) (g : Gathering) (state : LeaderState) → SessionSound s name g
      → Each (SessionSound s name) state.sessions → Each (SessionSound s name) (gathered_when complete s g state).sessions
  gathered-sound true name g state mine all =
      subst (Each (SessionSound s name)) (sym (decoded-same s g g.lost (record state { sessions = without_session g.number state.sessions })).0)
      (each-filter (SessionSound s name) (λ x. not (x.number == g.number)) state.sessions all)
  gathered-sound false name g state mine all =
      each-map (SessionSound s name) (λ x. if x.number == g.number then g else x) state.sessions
      (each-weaker (SessionSound s name) (λ x. SessionSound s name (if x.number == g.number then g else x))
      (λ x sound. by (x.number == g.number) x sound) state.sessions all)
    where
      by : (b : Bool) (x : Gathering) → SessionSound s name x → SessionSound s name (if b then g else x)
      by true x sound = mine
      by false x sound = sound

  row-sound : (i number : ℕ) (bytes : List ℕ) (p : Process) → ProcessSound s p → ProcessSound s (row_comes s number i bytes p)
  row-sound i number bytes p sound = record { copies = sound.copies; sessions = by (open_session p.as_leader number) refl } where
    by : (o : Option Gathering) → open_session p.as_leader number ≡ o → Each (SessionSound s p.name) (row_gathered s i bytes o p.as_leader).sessions
    by None found = sound.sessions
    by (Some g) found =
        let is = (found-each (λ x. x.number == number) (SessionSound s p.name) p.as_leader.sessions g found sound.sessions).1 in
        gathered-sound (is_complete s (record g { rows_in = put None g.rows_in i (Some bytes) })) p.name
        (record g { rows_in = put None g.rows_in i (Some bytes) }) p.as_leader (record { leader = is.leader; inside = is.inside }) sound.sessions

  block-sound : (e number : ℕ) (bytes : List ℕ) (p : Process) → ProcessSound s p → ProcessSound s (block_comes s number e bytes p)
  block-sound e number bytes p sound = record { copies = sound.copies; sessions = by (open_session p.as_leader number) refl } where
    by : (o : Option Gathering) → open_session p.as_leader number ≡ o → Each (SessionSound s p.name) (block_gathered s e bytes o p.as_leader).sessions
    by None found = sound.sessions
    by (Some g) found =
        let is = (found-each (λ x. x.number == number) (SessionSound s p.name) p.as_leader.sessions g found sound.sessions).1 in
        gathered-sound (is_complete s (record g { blocks_in = put None g.blocks_in e (Some bytes) })) p.name
        (record g { blocks_in = put None g.blocks_in e (Some bytes) }) p.as_leader (record { leader = is.leader; inside = is.inside }) sound.sessions

  -- a mark
  with-copies : (p : Process) (cs : List Copy) → Each (CopySound s) cs → ProcessSound s p → ProcessSound s (with_copies cs p)
  with-copies p cs copies sound = record { copies = copies; sessions = sound.sessions }

  begun-sound : (b : Bool) (l number block : ℕ) (p : Process) → block < s.blocks → length p.space ≡ space_of s
      → ProcessSound s p → ProcessSound s (copy_begun b s l number block p)
  begun-sound true l number block p inside long sound = sound
  begun-sound false l number block p inside long sound =
      with-copies p _ (each-append (CopySound s) p.as_row.copies (new_copy s l number block p.space ∷ []) sound.copies
      (record { inside = inside; long = block-long s block p.space inside long }, tt)) sound

  finished-does : (own : Bool) (c : Copy) (p : Process) → CopySound s c → ProcessSound s p → Does p (row_finished own s c p)
  finished-does true c p copy sound = record { name = refl; process = row-sound c.leader c.number c.bytes p sound; sent = tt }
  finished-does false c p copy sound = record { name = refl; process = sound; sent = (copy.long, tt) }

  kept-does : (whole : Bool) (c : Copy) (p : Process) → CopySound s c → ProcessSound s p → Does p (copy_kept whole s c p)
  kept-does true c p copy sound =
      let q : Process = with_copies (without_copy c.leader c.number p.as_row.copies) p in
      let does : Does q (row_finished (same_process p.name (ParityNode c.leader)) s c q) = finished-does (same_process p.name (ParityNode c.leader)) c q copy
      (with-copies p _ (each-filter (CopySound s) (λ x. not (is_copy c.leader c.number x)) p.as_row.copies sound.copies) sound) in
      record { name = does.name; process = does.process; sent = does.sent }
  kept-does false c p copy sound = record { name = refl; process = with-copies p _ swapped sound; sent = tt } where
    by : (b : Bool) (x : Copy) → CopySound s x → CopySound s (if b then c else x)
    by true x is = copy
    by false x is = is

    swapped : Each (CopySound s) (with_copy c p.as_row.copies)
    swapped = each-map (CopySound s) (λ x. if is_copy c.leader c.number x then c else x) p.as_row.copies
        (each-weaker (CopySound s) (λ x. CopySound s (if is_copy c.leader c.number x then c else x))
        (λ x is. by (is_copy c.leader c.number x) x is) p.as_row.copies sound.copies)

  marked-does : (l number d n : ℕ) (p : Process) → ProcessSound s p → Does p (copy_marked s d n (copy_in p.as_row.copies l number) p)
  marked-does l number d n p sound = by (copy_in p.as_row.copies l number) refl where
    by : (o : Option Copy) → copy_in p.as_row.copies l number ≡ o → Does p (copy_marked s d n o p)
    by None is = self-does p sound
    by (Some c) is =
        let copy = (found-each (is_copy l number) (CopySound s) p.as_row.copies c is sound.copies).1 in
        kept-does (is_marked s (marked d n c)) (marked d n c) p (record { inside = copy.inside; long = copy.long }) sound

  pub mark-does : (l number r block d n : ℕ) (p : Process) → block < s.blocks → length p.space ≡ space_of s
      → ProcessSound s p → Does p (mark_comes s l number r block d n p)
  mark-does l number r block d n p inside long sound = when-does (accepts_mark p l number r d) p (mark_taken s l number block d n p) sound
      (record {
        name = does.name ∙ named;
        process = does.process;
        sent = subst (λ (x : ProcessId). Each (λ z. Sound s x z.message)
            (copy_marked s d n (copy_in q.as_row.copies l number) q).sent) named does.sent;
      })
    where
      q : Process
      q = apply_to s d n (begin_copy s l number block p)

      named : q.name ≡ p.name
      named = (begun-same s (is_some (copy_in p.as_row.copies l number)) l number block p).1

      does : Does q (copy_marked s d n (copy_in q.as_row.copies l number) q)
      does = marked-does l number d n q
          (apply-sound d n (begin_copy s l number block p)
          (begun-sound (is_some (copy_in p.as_row.copies l number)) l number block p inside long sound))

  -- a mark leaves the space as it was, but for what it applies
  finished-space : (own : Bool) (c : Copy) (p : Process) → (row_finished own s c p).process.space ≡ p.space
  finished-space true c p = refl
  finished-space false c p = refl

  marked-space : (d n : ℕ) (o : Option Copy) (p : Process) → (copy_marked s d n o p).process.space ≡ p.space
  marked-space d n None p = refl
  marked-space d n (Some c) p = by (is_marked s (marked d n c)) where
    by : (b : Bool) → (copy_kept b s (marked d n c) p).process.space ≡ p.space
    by true = finished-space (same_process p.name (ParityNode c.leader)) (marked d n c) (with_copies (without_copy c.leader c.number p.as_row.copies) p)
    by false = refl

  begun-space : (b : Bool) (l number block : ℕ) (p : Process) → (copy_begun b s l number block p).space ≡ p.space
  begun-space true l number block p = refl
  begun-space false l number block p = refl

  begun-replicas : (b : Bool) (l number block : ℕ) (p : Process) → (copy_begun b s l number block p).replicas ≡ p.replicas
  begun-replicas true l number block p = refl
  begun-replicas false l number block p = refl

  -- a leader's mark in its own row applies nothing
  own-space : (l number block d : ℕ) (p : Process) → (own_mark s l number block d p).process.space ≡ p.space
  own-space l number block d p = by (accepts_mark p l number (at 0 p.ranks d) d) where
    b : Process
    b = begin_copy s l number block p

    q : Process
    q = apply_to s d (replica_of p d).applied b

    none : up_to (replica_of p d).applied (replica_of b d) ≡ []
    none =
        ap (λ (rs : List Replica). up_to (replica_of p d).applied (at empty_replica rs d))
        (begun-replicas (is_some (copy_in p.as_row.copies l number)) l number block p)
        ∙ up_to-applied (replica_of p d)

    same : q.space ≡ p.space
    same = ap (λ (us : List Update). space_after s b.name d us b.space) none ∙ begun-space (is_some (copy_in p.as_row.copies l number)) l number block p

    by : (c : Bool) → (when c p (mark_taken s l number block d (replica_of p d).applied p)).process.space ≡ p.space
    by true = marked-space d (replica_of p d).applied (copy_in q.as_row.copies l number) q ∙ same
    by false = refl

  owns-do : (l number block : ℕ) (ls : List ℕ) (p : Process) → block < s.blocks → length p.space ≡ space_of s
      → ProcessSound s p → Does p (for_each ls (own_mark s l number block) p)
  owns-do l number block [] p inside long sound = self-does p sound
  owns-do l number block (e ∷ ls) p inside long sound =
      let first : Does p (own_mark s l number block e p) = mark-does l number (at 0 p.ranks e) block e (replica_of p e).applied p inside long sound in
      then-does p (own_mark s l number block e p) (for_each ls (own_mark s l number block)) first
      (owns-do l number block ls (own_mark s l number block e p).process inside (ap length (own-space l number block e p) ∙ long) first.process)

  -- a parity process of the group, by its number
  leads : (x : ProcessId) → IsProcess s x → IsParity x → parity_number x < s.m
  leads (ParityNode i) there parity = there
  leads (DataNode e) there parity = absurd parity

  -- a leader opens a session
  start-does : (block : ℕ) (p : Process) → IsProcess s p.name → IsParity p.name → block < s.blocks
      → length p.space ≡ space_of s → ProcessSound s p → Does p (start_session s block p)
  start-does block p there parity inside long sound =
      then-does p (sending (session_starts s l number block p) opened) (for_each (lost_of s p) (own_mark s l number block))
      (record {
        name = refl;
        process = open_sound;
        sent = each-append (λ z. Sound s p.name z.message) (map question (left_of s p)) (flat_map (leader_marks s l number block p) (lost_of s p))
            (each-map (λ z. Sound s p.name z.message) question (left_of s p)
            (each-all (λ d. AsksSound s (session_of l number) block (rows_of s p)) (λ d. asks) (left_of s p)))
            (all_marks (lost_of s p));
      })
      (owns-do l number block (lost_of s p) opened inside long open_sound)
    where
      l : ℕ
      l = parity_number p.name

      number : ℕ
      number = suc p.as_leader.last_session

      opened : Process
      opened = session_opened s number block p

      open_sound : ProcessSound s opened
      open_sound = record {
        copies = sound.copies;
        sessions = each-append (SessionSound s p.name) p.as_leader.sessions
            (new_session s number block p ∷ []) sound.sessions (record { leader = parity; inside = inside }, tt);
      }

      led : IsLed s (session_of l number)
      led = (l, refl, leads p.name there parity)

      asks : AsksSound s (session_of l number) block (rows_of s p)
      asks = record {
        leader = led;
        inside = inside;
        in_group = all-each (λ i. i < s.m) (rows_of s p)
            (each-take (λ i. i < s.m) (length (lost_of s p)) _
            (each-filter (λ i. i < s.m) (λ i. not (knows_dead p.known (ParityNode i))) (range_with_len 0 s.m)
            (each-below s.m)));
        differ = differ-pairs (rows_of s p)
            (differ-rising (rows_of s p)
            (rising-take (length (lost_of s p)) _ (rising-filtered (λ i. not (knows_dead p.known (ParityNode i)))
            s.m)));
      }

      question : ℕ → Sent
      question d = record { to = DataNode d; message = tells.ReadBlock (session_of l number) block (rows_of s p) }

      all_marks : (ls : List ℕ) → Each (λ z. Sound s p.name z.message) (flat_map (leader_marks s l number block p) ls)
      all_marks [] = tt
      all_marks (e ∷ ls) = each-append (λ z. Sound s p.name z.message) (leader_marks s l number block p e) (flat_map (leader_marks s l number block p) ls)
          (each-map (λ z. Sound s p.name z.message)
          (λ i. record {
            to = ParityNode i;
            message = tells.Mark (session_of l number) (rank (at 0 p.ranks e)) block
                (partition e) (replica_of p e).applied;
          }) (filter (λ i. not (i == l)) (rows_of s p))
          (each-all (λ i. IsLed s (session_of l number) × (block < s.blocks)) (λ i. (led, inside)) (filter (λ i. not (i == l)) (rows_of s p)))) (all_marks ls)

  -- calls
  module _ (p : Process) (there : IsProcess s p.name) (long : length p.space ≡ space_of s) (sound : ProcessSound s p) where
    retry-does : (block : ℕ) (o : Option Oldest) → IsParity p.name → block < s.blocks → Does p (retry_block s block o p).step
    retry-does block (Some o) parity inside = self-does p sound
    retry-does block None parity inside = when-does (not (list_any (λ g. g.block == block) p.as_leader.sessions)) p
        (start_session s block p) sound (start-does block p there parity inside long sound)

    ticketed-does : (b : Bool) (d : ℕ) (u : Update) (step : ProcessStep) → Does p step → Does p (ticketed b d u step).step
    ticketed-does true d u step does = does
    ticketed-does false d u step does = record { name = does.name; process = same-sound step.process _ refl refl refl does.process; sent = does.sent }

    issued-does : (d : ℕ) (h : Head) (u : Update) → Does p (issued s d h u p)
    issued-does d h u =
        let told : Process = with_replica d (with_update u (replica_of p d)) p in
        let same : ProcessSound s told = same-sound p told refl refl refl sound in
        then-does p (sending _ told) (judge s d) (record { name = refl; process = same; sent = others-sound p _ tt }) (judge-does d told same)

    act-does : (call : CallName) (op : Asked) (d : ℕ) (h : Head) (decision : Decision)
        → ((b : ℕ) → decision ≡ decides.NeedBlock b → IsParity p.name × (b < s.blocks)) → Does p (act_on s call op d h p decision).step
    act-does call op d h (decides.Answer r) needs = self-does p sound
    act-does call op d h (decides.Retry n) needs = self-does p sound
    act-does call op d h decides.NoSpace needs = self-does p sound
    act-does call op d h (decides.NeedBlock b) needs = let need = needs b refl in retry-does b (oldest_inherited p (range_with_len 0 s.k)) need.0 need.1
    act-does call op d h (decides.Issue body outcome) needs =
        let u : Update = update_of call op d body outcome p in
        ticketed-does (nat_le u.number (replica_of (issued s d h u p).process d).applied) d u (issued s d h u p) (issued-does d h u)

    ask-does : (call : CallName) (op : Asked) → NeedsSound s p op → (o : Option Head)
        → head_at p (home_of (key_of op.act) s.k) ≡ o
        → Does p (ask_head s call op (home_of (key_of op.act) s.k) p o).step
    ask-does call op needs None is = self-does p sound
    ask-does call op needs (Some h) is =
        act-does call op (home_of (key_of op.act) s.k) h
        (decide (space_of s) h.inherited (replica_of p (home_of (key_of op.act) s.k)) op (found_at s (home_of (key_of op.act) s.k) p p.name))
        (λ b decided. needs h b is decided)

    collect-does : (caller call : ℕ) (ds : List ℕ) → Does p (collect_from caller call p ds).step
    collect-does caller call [] = self-does p sound
    collect-does caller call (d ∷ ds) = by (find (is_call caller call) (held_at p d)) (collect-does caller call ds) where
      handed : (b : Bool) (h : Held) → Does p (handed_out b d h p).step
      handed true h = record { name = refl; process = same-sound p _ refl refl refl sound; sent = tt }
      handed false h = self-does p sound

      by : (o : Option Held) → Does p (collect_from caller call p ds).step → Does p (collect_held d o p (collect_from caller call p ds)).step
      by None rest = rest
      by (Some h) rest = handed (nat_le h.number (replica_of p d).applied) h

    stables-sound : (ds : List ℕ) → Each (λ z. Sound s p.name z.message) (tell_stables s p ds)
    stables-sound [] = tt
    stables-sound (d ∷ ds) = each-append (λ z. Sound s p.name z.message) (tell_stable s p d (head_at p d))
        (tell_stables s p ds) (by (head_at p d)) (stables-sound ds) where
          by : (o : Option Head) → Each (λ z. Sound s p.name z.message) (tell_stable s p d o)
          by None = tt
          by (Some h) = others-sound p _ tt

    pub treats-does : ((op : Asked) → NeedsSound s p op) → (t : ProcessStep) → Treats s p t → Does p t
    treats-does needs _ (Asks call op bytes) = ask-does call op (needs op) (head_at p (home_of (key_of op.act) s.k)) refl
    treats-does needs _ (Collects caller call) = collect-does caller call (range_with_len 0 s.k)
    treats-does needs _ Flushes = record { name = refl; process = sound; sent = stables-sound (range_with_len 0 s.k) }

  -- a notice
  forgotten-sound : (dead : ProcessId) (p : Process) → ProcessSound s p → ProcessSound s (leader_forgotten dead p)
  forgotten-sound (DataNode e) p sound = sound
  forgotten-sound (ParityNode l) p sound = with-copies p _ (each-filter (CopySound s) (λ c. not (c.leader == l)) p.as_row.copies sound.copies) sound

  forgotten-name : (dead : ProcessId) (p : Process) → (leader_forgotten dead p).name ≡ p.name
  forgotten-name (DataNode e) p = refl
  forgotten-name (ParityNode l) p = refl

  ceased-sound : (l upto : ℕ) (p : Process) → ProcessSound s p → ProcessSound s (copies_ceased l upto p)
  ceased-sound l upto p sound =
      record {
        copies = each-filter (CopySound s) (λ c. not (c.leader == l && nat_le c.number upto)) p.as_row.copies
            sound.copies;
        sessions = sound.sessions;
      }

  close-does : (gs : List Gathering) (p : Process) → Each (SessionSound s p.name) gs → ProcessSound s p → Does p (close_sessions s gs p)
  close-does [] p all sound = self-does p sound
  close-does (g ∷ gs) p all sound = record {
    name = refl;
    process = ceased-sound (parity_number p.name) p.as_leader.last_session
        (with_leader (record p.as_leader { sessions = [] }) p) (record { copies = sound.copies; sessions = tt });
    sent = others-sound p _ all.0.leader;
  }

  notice-does : (dead : ProcessId) (p : Process) → ProcessSound s p → Does p (notice_comes s dead p)
  notice-does dead p sound =
      let q : Process = death_known dead p in
      let closed : ProcessStep = close_sessions s q.as_leader.sessions q in
      let judged : ProcessStep = and_then closed (for_each (range_with_len 0 s.k) (judge s)) in
      let named : q.name ≡ p.name = forgotten-name dead (record p { known = with_dead p.known dead }) in
      let fine : ProcessSound s q = forgotten-sound dead (record p { known = with_dead p.known dead }) (same-sound p _ refl refl refl sound) in
      let closes : Does q closed = close-does q.as_leader.sessions q fine.sessions fine in
      let judges : Does q judged = then-does q closed (for_each (range_with_len 0 s.k) (judge s)) closes
      (each-does (range_with_len 0 s.k) (judge s) closed.process judge-does closes.process) in
      let all : Does q (notice_comes s dead p) = then-does q judged (for_each (range_with_len 0 s.k) (take_over_if s)) judges
      (each-does (range_with_len 0 s.k) (take_over_if s) judged.process takes-does judges.process) in
      record {
        name = all.name ∙ named;
        process = all.process;
        sent = subst (λ (x : ProcessId). Each (λ z. Sound s x z.message) (notice_comes s dead p).sent) named
            all.sent;
      }

  -- an acknowledgement
  ack-does : (i r d n : ℕ) (o : Option Head) (p : Process) → ProcessSound s p → Does p (acknowledge s i r d n o p)
  ack-does i r d n None p sound = self-does p sound
  ack-does i r d n (Some h) p sound =
      let q : Process = with_head d (Some (acknowledged i n h)) p in
      let judged : Does q (judge s d q) = judge-does d q (same-sound p q refl refl refl sound) in
      when-does (r == h.rank) p (judge s d q) sound (record { name = judged.name; process = judged.process; sent = judged.sent })

  -- a question
  read-does : (session : Session) (block : ℕ) (rows : List ℕ) (p : Process) (name : ProcessId) → AsksSound s session block rows → length p.space ≡ space_of s
      → ProcessSound s p → Does p (read_comes s session block rows p name)
  read-does session block rows p (ParityNode i) asks long sound = self-does p sound
  read-does session block rows p (DataNode e) asks long sound = record {
    name = refl;
    process = sound;
    sent = (
      block-long s block p.space asks.inside long,
      each-map (λ z. Sound s p.name z.message)
          (λ i. record {
            to = ParityNode i;
            message = tells.Mark session (rank 0) block (partition e)
                (replica_of p e).applied;
          }) rows
          (each-all (λ i. IsLed s session × (block < s.blocks)) (λ i. (asks.leader, asks.inside)) rows),
    );
  }

  pub receive-does : (x : ProcessId) (m : Message) (p : Process) → Sound s x m → IsTaker m p.name
      → length p.space ≡ space_of s → ProcessSound s p → Does p (receive s x m p)
  receive-does x (tells.Update r d u stable) p carries taker long sound = when-does (nat_le (at 0 p.ranks d.0) r.0) p
      (ack_to x r.0 d.0 u.number (update_taken s d.0 u stable p)) sound
      (record { name = refl; process = same-sound (apply_to s d.0 stable p) _ refl refl refl (apply-sound d.0 stable p sound); sent = (taker, tt) })
  receive-does (DataNode e) (tells.Ack r d n) p carries taker long sound = self-does p sound
  receive-does (ParityNode i) (tells.Ack r d n) p carries taker long sound = ack-does i r.0 d.0 n (head_at p d.0) p sound
  receive-does x (tells.Stable r d n) p carries taker long sound =
      when-does (nat_le (at 0 p.ranks d.0) r.0) p (quiet (apply_to s d.0 n p)) sound (record { name = refl; process = apply-sound d.0 n p sound; sent = tt })
  receive-does x (tells.Adopt r d base list) p carries taker long sound = when-does (nat_le (at 0 p.ranks d.0) r.0) p
      (ack_to x r.0 d.0 (base + length list) (log_adopted s r.0 d.0 base list p)) sound
      (record {
        name = refl;
        process = same-sound (apply_to s d.0 base (with_rank d.0 r.0 p)) _ refl refl refl
            (apply-sound d.0 base (with_rank d.0 r.0 p) (same-sound p _ refl refl refl sound));
        sent = (taker, tt);
      })
  receive-does x (tells.ReadBlock session block rows) p carries taker long sound = read-does session block rows p p.name carries long sound
  receive-does (DataNode e) (tells.Block session bytes n) p carries taker long sound =
      record { name = refl; process = block-sound e session.number bytes p sound; sent = tt }
  receive-does (ParityNode i) (tells.Block session bytes n) p carries taker long sound = self-does p sound
  receive-does x (tells.Mark session r block d n) p carries taker long sound = mark-does (parity_number session.leader)
      session.number r.0 block d.0 n p carries.1 long sound
  receive-does (DataNode e) (tells.Row session bytes stamp) p carries taker long sound = self-does p sound
  receive-does (ParityNode i) (tells.Row session bytes stamp) p carries taker long sound =
      record { name = refl; process = row-sound i session.number bytes p sound; sent = tt }
  receive-does (DataNode e) (tells.Cease upto) p carries taker long sound = self-does p sound
  receive-does (ParityNode i) (tells.Cease upto) p carries taker long sound = record { name = refl; process = ceased-sound i upto p sound; sent = tt }
  receive-does x (tells.Notice dead) p carries taker long sound = notice-does dead p sound
