-- What a process sends when it treats a call: its core stays.
use Rattle.std.proofs.Common.{ℕ, zero, suc, ◌≡◌, ◌<◌, ◌+◌, ◌==◌, ◌%◌, nat_le, Bool, true, false, not, ◌&&◌, List, []}
use Rattle.std.proofs.Common.{◌∷◌, map, filter, Option, Some, None, refl, sym, ap, subst, ◌∙◌, cond, arith}
use Rattle.std.specs.Prelude.{flat_map, find, option_map}
use Rattle.std.specs.List.{list_all, list_any, range_with_len}
use Rattle.group_types.specs.Dimensions.{Dimensions, space_of}
use Rattle.group_types.specs.Hash.{fnv1a, home_of}
use Rattle.group_types.specs.Lists.{at}
use Rattle.group_types.specs.declared.process.ProcessId.{ProcessId}
use Rattle.group_types.specs.declared.process.ProcessId.TheVariants.{DataNode, ParityNode}
use Rattle.group_types.specs.Each.{Each}
use Rattle.group_types.proofs.Eaches.{each-append, each-weaker, each-all, each-map}
use Rattle.membership.specs.Members.{Membership, knows_dead}
use Rattle.memc_table.specs.Act.{key_of}
use Rattle.memc_table.specs.Asked.{Asked}
use Rattle.group_message.specs.declared.message.Message.{Message}
use Rattle.group_message.specs.declared.message.Message.TheVariants as tells
use Rattle.group_message.specs.declared.update.Update.{Update}
use Rattle.group_calls.specs.Turns.{CallName}
use Rattle.group_calls.specs.declared.decision.Decision.{Decision}
use Rattle.group_calls.specs.declared.decision.Decision.TheVariants as decides
use Rattle.group_run.specs.Applying.{ProcessStep, Sent, and_then, for_each, head_at, held_at, replica_of, sending, when, with_replica}
use Rattle.group_run.specs.Asking.{CallStep, Oldest, act_on, ask_head, collect_from, collect_held, found_at, handed_out}
use Rattle.group_run.specs.Asking.{is_call, issued, oldest_inherited, retry_block, ticketed, update_of}
use Rattle.group_run.specs.Deciding.{decide}
use Rattle.group_run.specs.Heading.{judge, rank, partition, tell_stable, to_others}
use Rattle.group_run.specs.Leaders.{leader_marks, left_of, lost_of, own_mark, rows_of, session_of, session_opened, session_starts, start_session}
use Rattle.group_run.specs.Process.{Head, Held, Process}
use Rattle.group_run.specs.Replica.{with_update}
use Rattle.group_run.specs.Rows.{parity_number}
use Rattle.group_run.proofs.Deciding.{decides-by}
use Rattle.law_moves.proofs.Moves.{Treats, Asks, Collects, Flushes}
use Rattle.law_moves.proofs.Members.{IsParity, Sits, SitsWhen, knows_lower, seat_of}
use Rattle.law_moves.proofs.Cores.{MaySend, SameCore, SentWell, Step, core-refl, core-trans, sent-kept, sent-others}
use Rattle.law_moves.proofs.Cores.{step-each, step-judge, step-mark, step-quiet, step-then, step-when}

-- a call owes no acknowledgement
abbrev pub Owes : ProcessId → ℕ → ℕ → Type 0
Owes to r d = ⊥

-- the decision wants a block
abbrev pub Wants : Decision → Type 0
Wants (decides.NeedBlock b) = Unit {0}
Wants _ = ⊥

-- a block is wanted at a parity process alone: a data process finds every run
pub wants_at_parity : (s : Dimensions) (d inherited : ℕ) (op : Asked) (p : Process) (name : ProcessId)
    → Wants (decide (space_of s) inherited (replica_of p d) op (found_at s d p name)) → IsParity name
wants_at_parity s d inherited op p (ParityNode i) wants = tt
wants_at_parity s d inherited op p (DataNode e) wants =
    decides-by (space_of s) (replica_of p d) op (found_at s d p (DataNode e)) inherited (λ (decision : Decision). ¬ (Wants decision)) (record {
      answers = λ reply none. none;
      waits = λ n is none. none;
      full = λ long none. none;
      no_space = λ none. none;
      item = λ run b needed missing wanted. cc missing;
      place = λ len run b is missing wanted. cc missing;
      removes = λ few outcome none. none;
      touches = λ few h outcome none. none;
      puts = λ few h run under outcome is none. none;
    }) wants

-- the members of a filtered list pass
pub each-filter : (test : ℕ → Bool) (xs : List ℕ) (P : ℕ → Type 0) → Each P xs → Each (λ x. P x × (test x ≡ true)) (filter test xs)
each-filter test [] P all = tt
each-filter test (x ∷ xs) P all = by (test x) refl (each-filter test xs P all.1) where
  by : (b : Bool) → test x ≡ b → Each (λ y. P y × (test y ≡ true)) (filter test xs)
      → Each (λ y. P y × (test y ≡ true)) (cond b (x ∷ filter test xs) (filter test xs))
  by true passes rest = ((all.0, passes), rest)
  by false fails rest = rest

-- the numbers of a range lie in it
pub each-range : (a n : ℕ) → Each (λ d. d < a + n) (range_with_len a n)
each-range a zero = tt
each-range a (suc n) = (
  omega arith,
  each-weaker (λ d. d < a + 1 + n) (λ d. d < a + suc n) (λ d low. omega (arith, low))
      (range_with_len (a + 1) n) (each-range (a + 1) n),
)

pub each-below : (k : ℕ) → Each (λ d. d < k) (range_with_len 0 k)
each-below k = each-weaker (λ d. d < 0 + k) (λ d. d < k) (λ d low. omega (arith, low)) (range_with_len 0 k) (each-range 0 k)

each-flat_map : {X Y : Type 0} (P : Y → Type 0) (f : X → List Y) (xs : List X) → Each (λ x. Each P (f x)) xs → Each P (flat_map f xs)
each-flat_map P f [] all = tt
each-flat_map P f (x ∷ xs) all = each-append P (f x) (flat_map f xs) all.0 (each-flat_map P f xs all.1)

-- a process that heads a partition sits there
pub seat-head : (p : Process) (d : ℕ) (h : Head) → head_at p d ≡ Some h → seat_of p d ≡ Some h.rank
seat-head p d h heads = ap (option_map (λ (x : Head). x.rank)) heads

-- a leader knows all of lower rank dead, in any lost partition
lower-lost : (p : Process) (d l i : ℕ) → knows_lower p.known d i ≡ true → knows_dead p.known (DataNode l) ≡ true → knows_lower p.known l i ≡ true
lower-lost p d l i lower lost = by (knows_dead p.known (DataNode d)) _ refl lower where
  by : (a b : Bool) → b ≡ list_all (λ j. knows_dead p.known (ParityNode j)) (range_with_len 0 i) → (a && b) ≡ true → knows_lower p.known l i ≡ true
  by true true rest both = ap (λ (x : Bool). x && list_all (λ j. knows_dead p.known (ParityNode j)) (range_with_len 0 i)) lost ∙ sym rest
  by true false rest both = cc both
  by false b rest both = cc both

-- a process of the group that heads what it should
pub record Seated (s : Dimensions) (p : Process) (x : ProcessId) : Type 0 where
  pub name : p.name ≡ x
  pub some : 0 < s.k
  pub sits : (d : ℕ) → d < s.k → Sits p d x

-- a parity process that heads a partition knows all of lower rank to be dead
pub seat-lower : (p : Process) (d i r : ℕ) → Sits p d (ParityNode i) → seat_of p d ≡ Some r → knows_lower p.known d i ≡ true
seat-lower p d i r sits seat = by (knows_lower p.known d i) refl sits where
  by : (b : Bool) → knows_lower p.known d i ≡ b → SitsWhen b i (seat_of p d) (at 0 p.ranks d) → knows_lower p.known d i ≡ true
  by true is when = is
  by false is when = absurd (cc (seat, when.0))

-- where it knows them it heads the partition, under its own rank
pub seat-known : (p : Process) (d i : ℕ) → Sits p d (ParityNode i) → knows_lower p.known d i ≡ true → (seat_of p d ≡ Some (suc i)) × (at 0 p.ranks d ≡ suc i)
seat-known p d i sits lower = subst (λ (b : Bool). SitsWhen b i (seat_of p d) (at 0 p.ranks d)) lower sits

-- the core of a process decides what it heads
pub seated-core : (s : Dimensions) (p q : Process) (x : ProcessId) → SameCore p q → Seated s p x → Seated s q x
seated-core s p q x same seated = record { name = same.name ∙ seated.name; some = seated.some; sits = λ d below. by d x (seated.sits d below) } where
  by : (d : ℕ) (y : ProcessId) → Sits p d y → Sits q d y
  by d (DataNode e) sits = (same.seats d ∙ sits.0, ap (λ (ranks : List ℕ). at 0 ranks d) same.ranks ∙ sits.1)
  by d (ParityNode i) sits =
      subst (λ (rank : ℕ). SitsWhen (knows_lower q.known d i) i (seat_of q d) rank) (ap (λ (ranks : List ℕ). at 0 ranks d) (sym same.ranks))
      (subst (λ (seat : Option ℕ). SitsWhen (knows_lower q.known d i) i seat (at 0 p.ranks d)) (sym (same.seats d))
      (subst (λ (known : Membership). SitsWhen (knows_lower known d i) i (seat_of p d) (at 0 p.ranks d)) (sym same.known) sits))

module _ (s : Dimensions) where
  -- the messages that open a session
  session-sent : (p q : Process) (i number block : ℕ) → SameCore p q → Seated s p (ParityNode i) → (d r : ℕ) → d < s.k → seat_of p d ≡ Some r
      → SentWell Owes s.k q (session_starts s i number block p)
  session-sent p q i number block same seated d r below seat =
      each-append P (map reads (left_of s p)) (flat_map (leader_marks s i number block p) (lost_of s p))
      (each-map P reads (left_of s p) (each-all (λ e. P (reads e)) read_may (left_of s p)))
      (each-flat_map P (leader_marks s i number block p) (lost_of s p)
      (each-weaker (λ l. (l < s.k) × (knows_dead p.known (DataNode l) ≡ true)) (λ l. Each P (leader_marks s i number block p l)) marks_may (lost_of s p) lost))
    where
      P : Sent → Type 0
      P z = MaySend Owes s.k q z.to z.message

      reads : ℕ → Sent
      reads e = record { to = DataNode e; message = tells.ReadBlock (session_of i number) block (rows_of s p) }

      name : ParityNode i ≡ q.name
      name = sym (same.name ∙ seated.name)

      read_may : (e : ℕ) → P (reads e)
      read_may e = (name, subst IsParity name tt, tt)

      lower : knows_lower p.known d i ≡ true
      lower = seat-lower p d i r (seated.sits d below) seat

      lost : Each (λ l. (l < s.k) × (knows_dead p.known (DataNode l) ≡ true)) (lost_of s p)
      lost = each-filter (λ l. knows_dead p.known (DataNode l)) (range_with_len 0 s.k) (λ l. l < s.k) (each-below s.k)

      marks_may : (l : ℕ) → (l < s.k) × (knows_dead p.known (DataNode l) ≡ true) → Each P (leader_marks s i number block p l)
      marks_may l at_l =
          let sits = seat-known p l i (seated.sits l at_l.0) (lower-lost p d l i lower at_l.1) in
          let seat_l : seat_of q l ≡ Some (at 0 p.ranks l) = same.seats l ∙ sits.0 ∙ ap Some (sym sits.1) in
          each-map P
          (λ j. record { to = ParityNode j; message = tells.Mark (session_of i number) (rank (at 0 p.ranks l)) block (partition l) (replica_of p l).applied })
          (filter (λ j. not (j == i)) (rows_of s p))
          (each-all (λ j. MaySend Owes s.k q (ParityNode j)
          (tells.Mark (session_of i number) (rank (at 0 p.ranks l)) block (partition l) (replica_of p l).applied))
          (λ j. (at_l.0, seat_l, (λ above. name), tt)) (filter (λ j. not (j == i)) (rows_of s p)))

  -- a leader opens a session
  pub step-session : (p : Process) (x : ProcessId) (block d r : ℕ) → Seated s p x → IsParity x → d < s.k
      → seat_of p d ≡ Some r → Step Owes s.k p (start_session s block p)
  step-session p (DataNode e) block d r seated parity below seat = elim parity [ ]
  step-session p (ParityNode i) block d r seated parity below seat =
      subst (λ (leader : ℕ). Step Owes s.k p (and_then (sending (session_starts s leader number block p) opened)
      (for_each (lost_of s p) (own_mark s leader number block)))) (sym leads)
      (step-then Owes s.k p (sending (session_starts s i number block p) opened) (for_each (lost_of s p) (own_mark s i number block))
      (record { same = same; sent = session-sent p opened i number block same seated d r below seat })
      (step-each Owes s.k (lost_of s p) (own_mark s i number block) opened
      (each-all (λ l. (q : Process) → SameCore opened q → Step Owes s.k q (own_mark s i number block l q)) marks (lost_of s p))))
    where
      number : ℕ
      number = suc p.as_leader.last_session

      opened : Process
      opened = session_opened s number block p

      same : SameCore p opened
      same = record { name = refl; known = refl; ranks = refl; seats = λ e. refl }

      leads : parity_number p.name ≡ i
      leads = ap parity_number seated.name

      marks : (l : ℕ) (q : Process) → SameCore opened q → Step Owes s.k q (own_mark s i number block l q)
      marks l q core = step-mark Owes s.k s i number (at 0 q.ranks l) block l (replica_of q l).applied q (subst IsParity (sym (core.name ∙ seated.name)) tt)

  step-retry : (p : Process) (x : ProcessId) (block d r : ℕ) (o : Option Oldest) → Seated s p x → IsParity x → d < s.k
      → seat_of p d ≡ Some r → Step Owes s.k p (retry_block s block o p).step
  step-retry p x block d r (Some o) seated parity below seat = step-quiet Owes s.k p p (core-refl p)
  step-retry p x block d r None seated parity below seat =
      step-when Owes s.k (not (list_any (λ g. g.block == block) p.as_leader.sessions)) p (start_session s block p)
      (step-session p x block d r seated parity below seat)

  -- a head issues an update
  step-issued : (p : Process) (d : ℕ) (h : Head) (u : Update) → d < s.k → head_at p d ≡ Some h → Step Owes s.k p (issued s d h u p)
  step-issued p d h u below heads =
      let told : Process = with_replica d (with_update u (replica_of p d)) p in
      let m : Message = tells.Update (rank h.rank) (partition d) u (replica_of p d).applied in
      step-then Owes s.k p (sending (to_others s p m) told) (judge s d)
      (record {
        same = record { name = refl; known = refl; ranks = refl; seats = λ e. refl };
        sent = sent-others Owes s.k s p told m (λ i. (below, seat-head p d h heads, tt));
      })
      (step-judge Owes s.k s d told)

  step-ticketed : (b : Bool) (d : ℕ) (u : Update) (p : Process) (t : ProcessStep) → Step Owes s.k p t → Step Owes s.k p (ticketed b d u t).step
  step-ticketed true d u p t step = step
  step-ticketed false d u p t step =
      record {
        same = core-trans step.same (record { name = refl; known = refl; ranks = refl; seats = λ e. refl });
        sent = step_sent;
      }
    where
      step_sent : SentWell Owes s.k (ticketed false d u t).step.process t.sent
      step_sent = sent-kept Owes s.k t.process (ticketed false d u t).step.process (record { name = refl; seats = λ e r sits. sits }) t.sent step.sent

  step-act : (name : CallName) (op : Asked) (d : ℕ) (h : Head) (p : Process) (x : ProcessId) (decision : Decision)
      → Seated s p x → d < s.k → head_at p d ≡ Some h → (Wants decision → IsParity x)
      → Step Owes s.k p (act_on s name op d h p decision).step
  step-act name op d h p x (decides.Answer r) seated below heads parity = step-quiet Owes s.k p p (core-refl p)
  step-act name op d h p x (decides.Retry n) seated below heads parity = step-quiet Owes s.k p p (core-refl p)
  step-act name op d h p x decides.NoSpace seated below heads parity = step-quiet Owes s.k p p (core-refl p)
  step-act name op d h p x (decides.NeedBlock b) seated below heads parity =
      step-retry p x b d h.rank (oldest_inherited p (range_with_len 0 s.k)) seated (parity tt) below
      (seat-head p d h heads)
  step-act name op d h p x (decides.Issue body outcome) seated below heads parity =
      let u : Update = update_of name op d body outcome p in
      step-ticketed (nat_le u.number (replica_of (issued s d h u p).process d).applied) d u p (issued s d h u p) (step-issued p d h u below heads)

  step-ask_head : (name : CallName) (op : Asked) (d : ℕ) (p : Process) (x : ProcessId) (h : Option Head)
      → head_at p d ≡ h → Seated s p x → d < s.k → Step Owes s.k p (ask_head s name op d p h).step
  step-ask_head name op d p x None heads seated below = step-quiet Owes s.k p p (core-refl p)
  step-ask_head name op d p x (Some h) heads seated below =
      step-act name op d h p x (decide (space_of s) h.inherited (replica_of p d) op (found_at s d p p.name)) seated below heads
      (λ wants. subst IsParity seated.name (wants_at_parity s d h.inherited op p p.name wants))

  step-handed : (b : Bool) (d : ℕ) (h : Held) (p : Process) → Step Owes s.k p (handed_out b d h p).step
  step-handed true d h p = step-quiet Owes s.k p _ (record { name = refl; known = refl; ranks = refl; seats = λ e. refl })
  step-handed false d h p = step-quiet Owes s.k p p (core-refl p)

  step-held : (d : ℕ) (h : Option Held) (p : Process) (elsewhere : CallStep) → Step Owes s.k p elsewhere.step
      → Step Owes s.k p (collect_held d h p elsewhere).step
  step-held d None p elsewhere step = step
  step-held d (Some h) p elsewhere step = step-handed (nat_le h.number (replica_of p d).applied) d h p

  step-collect : (caller call : ℕ) (p : Process) (ds : List ℕ) → Step Owes s.k p (collect_from caller call p ds).step
  step-collect caller call p [] = step-quiet Owes s.k p p (core-refl p)
  step-collect caller call p (d ∷ ds) = step-held d (find (is_call caller call) (held_at p d)) p (collect_from caller call p ds) (step-collect caller call p ds)

  tell-sent : (p : Process) (d : ℕ) (h : Option Head) → head_at p d ≡ h → d < s.k → SentWell Owes s.k p (tell_stable s p d h)
  tell-sent p d None heads below = tt
  tell-sent p d (Some h) heads below =
      sent-others Owes s.k s p p (tells.Stable (rank h.rank) (partition d) (replica_of p d).applied)
      (λ i. (below, seat-head p d h heads, tt))

  -- whatever a process treats, its core stays, and it sends what it may
  pub step-treats : (p : Process) (x : ProcessId) (t : ProcessStep) → Seated s p x → Treats s p t → Step Owes s.k p t
  step-treats p x _ seated (Asks name op bytes) = step-ask_head name op (home_of (key_of op.act) s.k) p x
      (head_at p (home_of (key_of op.act) s.k)) refl seated below where
        some : 0 < s.k
        some = seated.some

        below : fnv1a (key_of op.act) % s.k < s.k
        below = omega (arith, some)
  step-treats p x _ seated (Collects caller call) = step-collect caller call p (range_with_len 0 s.k)
  step-treats p x _ seated Flushes = record {
    same = core-refl p;
    sent = each-flat_map (λ z. MaySend Owes s.k p z.to z.message) (λ d. tell_stable s p d (head_at p d)) (range_with_len 0 s.k)
        (each-weaker (λ d. d < s.k) (λ d. SentWell Owes s.k p (tell_stable s p d (head_at p d)))
        (λ d below. tell-sent p d (head_at p d) refl below) (range_with_len 0 s.k) (each-below s.k));
  }
