-- A leader's open sessions have different numbers and different blocks, along every run.
use Rattle.std.proofs.Common.{ℕ, suc, ◌≡◌, ◌≢◌, ◌≤◌, ◌==◌, nat_le, Bool, true, false, not, cond, List, [], ◌∷◌, find}
use Rattle.std.proofs.Common.{is_some, map, filter, Option, Some, None, ◌⊎◌, inl, inr, sym, ap, subst, ◌∙◌, refl, arith}
use Rattle.std.proofs.Common.{if◌then◌else◌}
use Rattle.std.specs.List.{list_any, range_with_len}
use Rattle.std.proofs.lemmas.Grind.{common_steps}
use Rattle.group_types.specs.Dimensions.{Dimensions, space_of}
use Rattle.group_types.specs.Hash.{home_of}
use Rattle.group_types.specs.Lists.{at, put}
use Rattle.group_types.specs.Names.{IsProcess, same_process}
use Rattle.group_types.specs.declared.process.ProcessId.{ProcessId}
use Rattle.group_types.specs.declared.process.ProcessId.TheVariants.{DataNode, ParityNode}
use Rattle.group_types.proofs.Names.{same-cases}
use Rattle.group_types.specs.Each.{Each, EachTwo}
use Rattle.group_types.proofs.Eaches.{each-append, each-weaker, each_two-push}
use Rattle.memc_table.specs.Act.{key_of}
use Rattle.memc_table.specs.Asked.{Asked}
use Rattle.group_message.specs.declared.message.Message.{Message}
use Rattle.group_message.specs.declared.message.Message.TheVariants as tells
use Rattle.group_message.specs.declared.message.Session.{Session}
use Rattle.group_message.specs.declared.update.Update.{Update}
use Rattle.group_calls.specs.Turns.{CallName}
use Rattle.group_calls.specs.declared.decision.Decision.{Decision}
use Rattle.group_calls.specs.declared.decision.Decision.TheVariants as decides
use Rattle.group_run.specs.Applying.{ProcessStep, apply_to, for_each, head_at, held_at, replica_of, when, with_head, with_replica}
use Rattle.group_run.specs.Asking.{Oldest, act_on, ask_head, collect_from, collect_held, found_at, handed_out, is_call}
use Rattle.group_run.specs.Asking.{issued, oldest_inherited, retry_block, ticketed, update_of}
use Rattle.group_run.specs.Deciding.{decide}
use Rattle.group_run.specs.Heading.{acknowledge, acknowledged, judge, judge_head}
use Rattle.group_run.specs.Leaders.{block_comes, block_gathered, close_sessions, copy_kept, copy_marked, gathered_when}
use Rattle.group_run.specs.Leaders.{is_complete, lost_of, mark_comes, mark_taken, new_session, open_session, own_mark}
use Rattle.group_run.specs.Leaders.{rebuilt_block, rebuilt_unless, row_comes, row_finished, row_gathered}
use Rattle.group_run.specs.Leaders.{session_opened, start_session, with_decoded, without_session}
use Rattle.group_run.specs.Process.{Copy, Gathering, Head, Held, LeaderState, Process}
use Rattle.group_run.specs.Receiving.{death_known, enthroned, notice_comes, read_comes, receive, take_over_if, taken_over, takes_over}
use Rattle.group_run.specs.Replica.{with_update}
use Rattle.group_run.specs.Rows.{accepts_mark, begin_copy, copy_begun, copy_in, is_marked, marked, parity_number, with_copies, without_copy}
use Rattle.law_moves.proofs.Moves.{Asks, Collects, Flushes, Keeps, Treats}
use Rattle.law_moves.specs.State.{State, HoldsAlways}
use Rattle.law_moves.proofs.Runs.{holds_always}
use Rattle.law_updates.proofs.Clears.{none-passes}

-- two sessions of different numbers, for different blocks
abbrev pub Differ : Gathering → Gathering → Type 0
Differ a b = (a.number ≢ b.number) × (a.block ≢ b.block)

-- sessions differ, and none has a number above the last one's
abbrev pub Distinct : List Gathering → ℕ → Type 0
Distinct gs last = EachTwo Differ gs × Each (λ g. g.number ≤ last) gs

abbrev pub IsDistinct : Process → Type 0
IsDistinct p = Distinct p.as_leader.sessions p.as_leader.last_session

-- the session of a number has the block of each of that number
find-block : (n : ℕ) (gs : List Gathering) (g : Gathering) → EachTwo Differ gs → find (λ x. x.number == n) gs ≡ Some g
    → (g.number ≡ n) × Each (λ x. x.number ≡ n → x.block ≡ g.block) gs
find-block n [] g differ is = absurd (cc is)
find-block n (x ∷ xs) g differ is = by (x.number == n) refl is (find-block n xs g differ.1) where
  by : (b : Bool) → (x.number == n) ≡ b → cond b (Some x) (find (λ x. x.number == n) xs) ≡ Some g
      → (find (λ x. x.number == n) xs ≡ Some g → (g.number ≡ n) × Each (λ x. x.number ≡ n → x.block ≡ g.block) xs)
      → (g.number ≡ n) × ((x.number ≡ n → x.block ≡ g.block) × Each (λ x. x.number ≡ n → x.block ≡ g.block) xs)
  by true test is later =
      let same : x ≡ g = cc is in
      let number : x.number ≡ n = grind (arith, common_steps) in (
        ap (λ (y : Gathering). y.number) (sym same) ∙ number,
        (
          (λ e. ap (λ (y : Gathering). y.block) same),
          each-weaker (Differ x) (λ y. y.number ≡ n → y.block ≡ g.block)
              (λ y apart e. absurd (apart.0 (number ∙ sym e))) xs differ.0,
        ),
      )
  by false test is later =
      let other : x.number ≢ n = grind (arith, common_steps) in
      let rest = later is in (rest.0, ((λ e. absurd (other e)), rest.1))

each-filtered : (P : Gathering → Type 0) (test : Gathering → Bool) (gs : List Gathering) → Each P gs → Each P (filter test gs)
each-filtered P test [] all = tt
each-filtered P test (x ∷ xs) all = by (test x) (each-filtered P test xs all.1) where
  by : (b : Bool) → Each P (filter test xs) → Each P (if b then x ∷ filter test xs else filter test xs)
  by true rest = (all.0, rest)
  by false rest = rest

two-filtered : (test : Gathering → Bool) (gs : List Gathering) → EachTwo Differ gs → EachTwo Differ (filter test gs)
two-filtered test [] all = tt
two-filtered test (x ∷ xs) all = by (test x) (two-filtered test xs all.1) where
  by : (b : Bool) → EachTwo Differ (filter test xs) → EachTwo Differ (if b then x ∷ filter test xs else filter test xs)
  by true rest = (each-filtered (Differ x) test xs all.0, rest)
  by false rest = rest

-- a change that leaves numbers and blocks
module _ (f : Gathering → Gathering) where
  abbrev Stays : Gathering → Type 0
  Stays x = ((f x).number ≡ x.number) × ((f x).block ≡ x.block)

  each-changed : (n b : ℕ) (gs : List Gathering) → Each Stays gs → Each (λ y. (n ≢ y.number) × (b ≢ y.block)) gs
      → Each (λ y. (n ≢ y.number) × (b ≢ y.block)) (map f gs)
  each-changed n b [] stays all = tt
  each-changed n b (x ∷ xs) stays all = (((λ e. all.0.0 (e ∙ stays.0.0)), (λ e. all.0.1 (e ∙ stays.0.1))), each-changed n b xs stays.1 all.1)

  two-changed : (gs : List Gathering) → Each Stays gs → EachTwo Differ gs → EachTwo Differ (map f gs)
  two-changed [] stays all = tt
  two-changed (x ∷ xs) stays all = (
    each-changed (f x).number (f x).block xs stays.1
        (each-weaker (Differ x) (λ y. ((f x).number ≢ y.number) × ((f x).block ≢ y.block))
        (λ y apart. ((λ e. apart.0 (sym stays.0.0 ∙ e)), (λ e. apart.1 (sym stays.0.1 ∙ e)))) xs all.0),
    two-changed xs stays.1 all.1,
  )

  low-changed : (last : ℕ) (gs : List Gathering) → Each Stays gs → Each (λ g. g.number ≤ last) gs → Each (λ g. g.number ≤ last) (map f gs)
  low-changed last [] stays all = tt
  low-changed last (x ∷ xs) stays all = ((let e = stays.0.0 in let low = all.0 in omega (arith, e, low)), low-changed last xs stays.1 all.1)

-- to keep rebuilt blocks changes no session
pub decoded-sessions : (s : Dimensions) (g : Gathering) (ls : List ℕ) (state : LeaderState)
    → ((with_decoded s g ls state).sessions ≡ state.sessions) × ((with_decoded s g ls state).last_session ≡ state.last_session)
decoded-sessions s g [] state = (refl, refl)
decoded-sessions s g (l ∷ ls) state =
    let next : LeaderState = rebuilt_unless (is_some (rebuilt_block state l g.block)) s g l state in
    let rest = decoded-sessions s g ls next in
    let here = one (is_some (rebuilt_block state l g.block)) in
    (rest.0 ∙ here.0, rest.1 ∙ here.1) where
      one : (b : Bool) → ((rebuilt_unless b s g l state).sessions ≡ state.sessions) × ((rebuilt_unless b s g l state).last_session ≡ state.last_session)
      one true = (refl, refl)
      one false = (refl, refl)

module _ (s : Dimensions) where
  abbrev Still : Process → Process → Type 0
  Still p q = IsDistinct p → IsDistinct q

  gathered-still : (complete : Bool) (g : Gathering) (state : LeaderState)
      → Each (λ x. x.number ≡ g.number → x.block ≡ g.block) state.sessions → Distinct state.sessions state.last_session
      → Distinct (gathered_when complete s g state).sessions (gathered_when complete s g state).last_session
  gathered-still true g state same all =
      let left : List Gathering = without_session g.number state.sessions in
      let decoded = decoded-sessions s g g.lost (record state { sessions = left }) in
      subst (λ (gs : List Gathering). Distinct gs (with_decoded s g g.lost (record state { sessions = left })).last_session) (sym decoded.0)
      (subst (λ (n : ℕ). Distinct left n) (sym decoded.1) (
        two-filtered (λ x. not (x.number == g.number)) state.sessions
            all.0,
        each-filtered (λ x. x.number ≤ state.last_session) (λ x. not (x.number == g.number)) state.sessions
            all.1,
      ))
  gathered-still false g state same all = (two-changed f state.sessions stays all.0, low-changed f state.last_session state.sessions stays all.1) where
    f : Gathering → Gathering
    f x = if x.number == g.number then g else x

    by : (x : Gathering) (b : Bool) → (x.number == g.number) ≡ b → (x.number ≡ g.number → x.block ≡ g.block)
        → ((if b then g else x).number ≡ x.number) × ((if b then g else x).block ≡ x.block)
    by x true test same = let number : x.number ≡ g.number = grind (arith, common_steps) in (sym number, sym (same number))
    by x false test same = (refl, refl)

    stays : Each (λ x. ((if x.number == g.number then g else x).number ≡ x.number) × ((if x.number == g.number then g else x).block ≡ x.block)) state.sessions
    stays =
        each-weaker (λ x. x.number ≡ g.number → x.block ≡ g.block)
        (λ x. ((if x.number == g.number then g else x).number ≡ x.number) × ((if x.number == g.number then g else x).block ≡ x.block))
        (λ x same. by x (x.number == g.number) refl same) state.sessions same

  found-same : (n : ℕ) (g : Gathering) (gs : List Gathering) → EachTwo Differ gs → find (λ x. x.number == n) gs ≡ Some g
      → Each (λ x. x.number ≡ g.number → x.block ≡ g.block) gs
  found-same n g gs differ found =
      let both = find-block n gs g differ found in
      each-weaker (λ x. x.number ≡ n → x.block ≡ g.block) (λ x. x.number ≡ g.number → x.block ≡ g.block) (λ x same e. same (e ∙ both.0)) gs both.1

  pub row-still : (i number : ℕ) (bytes : List ℕ) (p : Process) → Still p (row_comes s number i bytes p)
  row-still i number bytes p all = by (open_session p.as_leader number) refl where
    by : (o : Option Gathering) → open_session p.as_leader number ≡ o
        → Distinct (row_gathered s i bytes o p.as_leader).sessions (row_gathered s i bytes o p.as_leader).last_session
    by None found = all
    by (Some g) found =
        gathered-still (is_complete s (record g { rows_in = put None g.rows_in i (Some bytes) }))
        (record g { rows_in = put None g.rows_in i (Some bytes) }) p.as_leader (found-same number g p.as_leader.sessions all.0 found) all

  block-still : (e number : ℕ) (bytes : List ℕ) (p : Process) → Still p (block_comes s number e bytes p)
  block-still e number bytes p all = by (open_session p.as_leader number) refl where
    by : (o : Option Gathering) → open_session p.as_leader number ≡ o
        → Distinct (block_gathered s e bytes o p.as_leader).sessions
        (block_gathered s e bytes o p.as_leader).last_session
    by None found = all
    by (Some g) found =
        gathered-still (is_complete s (record g { blocks_in = put None g.blocks_in e (Some bytes) }))
        (record g { blocks_in = put None g.blocks_in e (Some bytes) }) p.as_leader (found-same number g p.as_leader.sessions all.0 found) all

  each-still : (xs : List ℕ) (f : ℕ → Process → ProcessStep) (p : Process)
      → ((x : ℕ) (q : Process) → Still q (f x q).process) → Still p (for_each xs f p).process
  each-still [] f p all here = here
  each-still (x ∷ xs) f p all here = each-still xs f (f x p).process all (all x p here)

  when-still : (b : Bool) (p : Process) (t : ProcessStep) → Still p t.process → Still p (when b p t).process
  when-still true p t still = still
  when-still false p t still = λ here. here

  judge-still : (d : ℕ) (p : Process) → Still p (judge s d p).process
  judge-still d p = by (head_at p d) where
    by : (o : Option Head) → Still p (judge_head s d p o).process
    by None here = here
    by (Some h) here = here

  pub mark-still : (l number r block d n : ℕ) (p : Process) → Still p (mark_comes s l number r block d n p).process
  mark-still l number r block d n p =
      when-still (accepts_mark p l number r d) p (mark_taken s l number block d n p)
      (λ here. found (copy_in q.as_row.copies l number)
      (begun (is_some (copy_in p.as_row.copies l number)) here)) where
        q : Process
        q = apply_to s d n (begin_copy s l number block p)

        begun : (b : Bool) → Still p (copy_begun b s l number block p)
        begun true here = here
        begun false here = here

        finished : (b : Bool) (c : Copy) (z : Process) → Still z (row_finished b s c z).process
        finished true c z = row-still c.leader c.number c.bytes z
        finished false c z = λ here. here

        kept : (b : Bool) (c : Copy) → Still q (copy_kept b s c q).process
        kept true c = let z : Process = with_copies (without_copy c.leader c.number q.as_row.copies) q in
            finished (same_process z.name (ParityNode c.leader)) c z
        kept false c = λ here. here

        found : (o : Option Copy) → Still q (copy_marked s d n o q).process
        found None here = here
        found (Some c) here = kept (is_marked s (marked d n c)) (marked d n c) here

  pub opened-distinct : (block : ℕ) (p : Process) → IsDistinct p → list_any (λ g. g.block == block) p.as_leader.sessions
      ≡ false → IsDistinct (session_opened s (suc p.as_leader.last_session) block p)
  opened-distinct block p all none = (
    each_two-push Differ p.as_leader.sessions new all.0 (differs p.as_leader.sessions all.1 (none-passes (λ g. g.block == block) p.as_leader.sessions none)),
    each-append (λ g. g.number ≤ suc p.as_leader.last_session) p.as_leader.sessions (new ∷ [])
        (each-weaker (λ g. g.number ≤ p.as_leader.last_session) (λ g. g.number ≤ suc p.as_leader.last_session)
        (λ g low. omega (arith, low)) p.as_leader.sessions all.1)
        (omega arith, tt),
  ) where
    new : Gathering
    new = new_session s (suc p.as_leader.last_session) block p

    differs : (gs : List Gathering) → Each (λ g. g.number ≤ p.as_leader.last_session) gs → Each (λ g. (g.block == block) ≡ false) gs
        → Each (λ g. (g.number ≢ suc p.as_leader.last_session) × (g.block ≢ block)) gs
    differs [] low other = tt
    differs (g ∷ gs) low other = (
      (
        (λ e. let small = low.0 in absurd (omega (arith, small, e))),
        (λ e. let test : (g.block == block) ≡ true = grind (arith, common_steps) in absurd (cc (test, other.0))),
      ),
      differs gs low.1 other.1,
    )

  pub start-still : (block : ℕ) (p : Process) → list_any (λ g. g.block == block) p.as_leader.sessions ≡ false → Still p (start_session s block p).process
  start-still block p none here =
      let number : ℕ = suc p.as_leader.last_session in
      each-still (lost_of s p) (own_mark s (parity_number p.name) number block) (session_opened s number block p)
      (λ e q. mark-still (parity_number p.name) number (at 0 q.ranks e) block e (replica_of q e).applied q) (opened-distinct block p here none)

  retry-still : (block : ℕ) (o : Option Oldest) (p : Process) → Still p (retry_block s block o p).step.process
  retry-still block (Some o) p = λ here. here
  retry-still block None p = by (list_any (λ g. g.block == block) p.as_leader.sessions) refl where
    by : (b : Bool) → list_any (λ g. g.block == block) p.as_leader.sessions ≡ b → Still p (when (not b) p (start_session s block p)).process
    by true some = λ here. here
    by false none = start-still block p none

  ticketed-still : (b : Bool) (d : ℕ) (u : Update) (p : Process) (t : ProcessStep) → Still p t.process → Still p (ticketed b d u t).step.process
  ticketed-still true d u p t still = still
  ticketed-still false d u p t still = still

  act-still : (call : CallName) (op : Asked) (d : ℕ) (h : Head) (p : Process) (decision : Decision) → Still p (act_on s call op d h p decision).step.process
  act-still call op d h p (decides.Answer r) = λ here. here
  act-still call op d h p (decides.Retry n) = λ here. here
  act-still call op d h p decides.NoSpace = λ here. here
  act-still call op d h p (decides.NeedBlock b) = retry-still b (oldest_inherited p (range_with_len 0 s.k)) p
  act-still call op d h p (decides.Issue body outcome) =
      let u : Update = update_of call op d body outcome p in
      ticketed-still (nat_le u.number (replica_of (issued s d h u p).process d).applied) d u p (issued s d h u p)
      (judge-still d (with_replica d (with_update u (replica_of p d)) p))

  ask-still : (call : CallName) (op : Asked) (d : ℕ) (p : Process) (o : Option Head) → Still p (ask_head s call op d p o).step.process
  ask-still call op d p None = λ here. here
  ask-still call op d p (Some h) = act-still call op d h p (decide (space_of s) h.inherited (replica_of p d) op (found_at s d p p.name))

  collect-still : (caller call : ℕ) (p : Process) (ds : List ℕ) → Still p (collect_from caller call p ds).step.process
  collect-still caller call p [] = λ here. here
  collect-still caller call p (d ∷ ds) = by (find (is_call caller call) (held_at p d)) (collect-still caller call p ds) where
    handed : (b : Bool) (h : Held) → Still p (handed_out b d h p).step.process
    handed true h = λ here. here
    handed false h = λ here. here

    by : (o : Option Held) → Still p (collect_from caller call p ds).step.process → Still p (collect_held d o p (collect_from caller call p ds)).step.process
    by None rest = rest
    by (Some h) rest = handed (nat_le h.number (replica_of p d).applied) h

  treats-still : (p : Process) (t : ProcessStep) → Treats s p t → Still p t.process
  treats-still p _ (Asks call op bytes) = ask-still call op (home_of (key_of op.act) s.k) p (head_at p (home_of (key_of op.act) s.k))
  treats-still p _ (Collects caller call) = collect-still caller call p (range_with_len 0 s.k)
  treats-still p _ Flushes = λ here. here

  takes-still : (d : ℕ) (p : Process) → Still p (take_over_if s d p).process
  takes-still d p = when-still (takes_over p d p.name) p (taken_over s d p) (judge-still d (enthroned s (suc (parity_number p.name)) d p))

  close-still : (gs : List Gathering) (p : Process) → Still p (close_sessions s gs p).process
  close-still [] p here = here
  close-still (g ∷ gs) p here = (tt, tt)

  known-still : (dead : ProcessId) (p : Process) → Still p (death_known dead p)
  known-still (DataNode d) p here = here
  known-still (ParityNode l) p here = here

  notice-still : (dead : ProcessId) (p : Process) → Still p (notice_comes s dead p).process
  notice-still dead p here =
      let q : Process = death_known dead p in
      let closed : Process = (close_sessions s q.as_leader.sessions q).process in
      each-still (range_with_len 0 s.k) (take_over_if s) (for_each (range_with_len 0 s.k) (judge s) closed).process takes-still
      (each-still (range_with_len 0 s.k) (judge s) closed judge-still (close-still q.as_leader.sessions q (known-still dead p here)))

  acked-still : (p : Process) (i r d n : ℕ) (o : Option Head) → Still p (acknowledge s i r d n o p).process
  acked-still p i r d n None = λ here. here
  acked-still p i r d n (Some h) = when-still (r == h.rank) p (judge s d (with_head d (Some (acknowledged i n h)) p))
      (judge-still d (with_head d (Some (acknowledged i n h)) p))

  read-still : (session : Session) (block : ℕ) (rows : List ℕ) (p : Process) (y : ProcessId) → Still p (read_comes s session block rows p y).process
  read-still session block rows p (ParityNode i) = λ here. here
  read-still session block rows p (DataNode d) = λ here. here

  receive-still : (x : ProcessId) (m : Message) (p : Process) → Still p (receive s x m p).process
  receive-still x (tells.Update r d u stable) p = when-still (nat_le (at 0 p.ranks d.0) r.0) p _ (λ here. here)
  receive-still (DataNode e) (tells.Ack r d n) p = λ here. here
  receive-still (ParityNode i) (tells.Ack r d n) p = acked-still p i r.0 d.0 n (head_at p d.0)
  receive-still x (tells.Stable r d n) p = when-still (nat_le (at 0 p.ranks d.0) r.0) p _ (λ here. here)
  receive-still x (tells.Adopt r d base list) p = when-still (nat_le (at 0 p.ranks d.0) r.0) p _ (λ here. here)
  receive-still x (tells.ReadBlock session block rows) p = read-still session block rows p p.name
  receive-still (DataNode e) (tells.Block session bytes n) p = block-still e session.number bytes p
  receive-still (ParityNode i) (tells.Block session bytes n) p = λ here. here
  receive-still x (tells.Mark session r block d n) p = mark-still (parity_number session.leader) session.number r.0 block d.0 n p
  receive-still (DataNode e) (tells.Row session bytes stamp) p = λ here. here
  receive-still (ParityNode i) (tells.Row session bytes stamp) p = row-still i session.number bytes p
  receive-still (DataNode e) (tells.Cease upto) p = λ here. here
  receive-still (ParityNode i) (tells.Cease upto) p = λ here. here
  receive-still x (tells.Notice dead) p = notice-still dead p

  -- every process of the group
  abbrev pub AreDistinct : State → Type 0
  AreDistinct v = (p : ProcessId) → IsProcess s p → IsDistinct (v.process p)

  moved : (v w : State) (p : ProcessId) (t : ProcessStep) → w.process p ≡ t.process → ((q : ProcessId) → IsProcess s q → q ≢ p → w.process q ≡ v.process q)
      → IsProcess s p → Still (v.process p) t.process → AreDistinct v → AreDistinct w
  moved v w p t is others pin still all q qin = by (same-cases q p) where
    by : (q ≡ p) ⊎ (q ≢ p) → IsDistinct (w.process q)
    by (inl same) = subst IsDistinct (sym (ap w.process same ∙ is)) (still (all p pin))
    by (inr other) = subst IsDistinct (sym (others q qin other)) (all q qin)

  keeps : Keeps s AreDistinct
  keeps = record {
    opens = λ v starts p pin. subst IsDistinct (sym (starts.process p pin)) (tt, tt);
    treats = λ v w p t pin up lives treats all acts. moved v w p t acts.process acts.others pin (treats-still (v.process p) t treats) all;
    receives =
        λ v u w x p m xin pin apart up lives all pops acts. moved v w p (receive s x m (v.process p)) acts.process
        (λ q qin other. acts.others q qin other ∙ pops.processes q qin) pin (receive-still x m (v.process p)) all;
    dies = λ v w p keep pin all dies q qin. subst IsDistinct (sym (dies.processes q qin)) (all q qin);
  }

  pub distinct_always : HoldsAlways s AreDistinct
  distinct_always = holds_always s AreDistinct keeps
