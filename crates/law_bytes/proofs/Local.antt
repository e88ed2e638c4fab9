-- What steps of one process make of a session's tokens: what it has after, with what it sends, is at most
-- what it had, and what came in.
use Rattle.std.proofs.Common.{◌≡◌, ℕ, suc, ◌+◌, ◌≤◌, ◌==◌, ◌&&◌, nat_le, Bool, true, false, not, List, [], ◌∷◌, map}
use Rattle.std.proofs.Common.{filter, is_some, Option, Some, None, option_map, ◌⊎◌, inl, inr, sym, ap, ap₂, subst, ◌∙◌}
use Rattle.std.proofs.Common.{refl, arith, if◌then◌else◌}
use Rattle.std.proofs.lemmas.Grind.{common_steps}
use Rattle.std.specs.List.{range_with_len}
use Rattle.group_types.specs.Dimensions.{Dimensions}
use Rattle.group_types.specs.Lists.{at}
use Rattle.group_types.specs.Names.{same_process}
use Rattle.group_types.specs.declared.process.ProcessId.{ProcessId}
use Rattle.group_types.specs.declared.process.ProcessId.TheVariants.{DataNode, ParityNode}
use Rattle.group_types.specs.Each.{Each}
use Rattle.group_types.proofs.Eaches.{each-append, each-weaker, each-all, each-map}
use Rattle.group_message.specs.declared.message.Message.{Message}
use Rattle.group_message.specs.declared.message.Message.TheVariants as tells
use Rattle.group_message.specs.declared.update.Update.{Update}
use Rattle.group_run.specs.Applying.{ProcessStep, Sent, and_then, apply_to, copy_after, for_each, head_at, quiet, replica_of, sending, when}
use Rattle.group_run.specs.Heading.{judge, judge_head, other_parities, settle_to, to_others}
use Rattle.group_run.specs.Leaders.{close_sessions, open_session, with_leader}
use Rattle.group_run.specs.Process.{Copy, Gathering, Head, Process}
use Rattle.group_run.specs.Receiving.{death_known, enthroned, notice_comes, take_over_if, taken_over, takes_over}
use Rattle.group_run.specs.Replica.{up_to}
use Rattle.group_run.specs.Rows.{copies_ceased, copy_in, is_copy, parity_number}
use Rattle.law_moves.proofs.Members.{IsParity}
use Rattle.law_bytes.proofs.Marking.{copy-mark, copy-test}
use Rattle.law_bytes.proofs.Rising.{Differ}
use Rattle.law_bytes.proofs.Tokens.{Own, Row, Token, Way, at_process, in_copy, in_session, is_kept_in, is_marked_in, is_token, one_if}
use Rattle.law_bytes.proofs.Finding.{and-split, found-filter, found-map}
use Rattle.law_bytes.proofs.Groups.{in_sent, in_sent-append}

-- what is said of the messages of sessions: the rows that a question names are different ones, and what is
-- sent for it is of a parity process's session
abbrev pub Fact : Message → Type 0
Fact (tells.ReadBlock session block rows) = Differ rows
Fact (tells.Mark session r block d n) = IsParity session.leader
Fact (tells.Row session bytes stamp) = IsParity session.leader
Fact (tells.Block session bytes n) = IsParity session.leader
Fact _ = Unit {0}

-- a message that is of no session
abbrev pub Silent : Message → Type 0
Silent (tells.Update r d u stable) = Unit {0}
Silent (tells.Ack r d n) = Unit {0}
Silent (tells.Stable r d n) = Unit {0}
Silent (tells.Adopt r d base list) = Unit {0}
Silent (tells.Cease upto) = Unit {0}
Silent (tells.Notice dead) = Unit {0}
Silent _ = ⊥

silent-token : (t : Token) (x q : ProcessId) (m : Message) → Silent m → is_token t x q m ≡ false
silent-token t x q (tells.Update r d u stable) silent = refl
silent-token t x q (tells.Ack r d n) silent = refl
silent-token t x q (tells.Stable r d n) silent = refl
silent-token t x q (tells.Adopt r d base list) silent = refl
silent-token t x q (tells.Cease upto) silent = refl
silent-token t x q (tells.Notice dead) silent = refl
silent-token t x q (tells.ReadBlock session block rows) silent = absurd silent
silent-token t x q (tells.Block session bytes n) silent = absurd silent
silent-token t x q (tells.Mark session r block d n) silent = absurd silent
silent-token t x q (tells.Row session bytes stamp) silent = absurd silent

silent-fact : (m : Message) → Silent m → Fact m
silent-fact (tells.Update r d u stable) silent = tt
silent-fact (tells.Ack r d n) silent = tt
silent-fact (tells.Stable r d n) silent = tt
silent-fact (tells.Adopt r d base list) silent = tt
silent-fact (tells.Cease upto) silent = tt
silent-fact (tells.Notice dead) silent = tt
silent-fact (tells.ReadBlock session block rows) silent = absurd silent
silent-fact (tells.Block session bytes n) silent = absurd silent
silent-fact (tells.Mark session r block d n) silent = absurd silent
silent-fact (tells.Row session bytes stamp) silent = absurd silent

pub bit-le : (b c : Bool) → (b ≡ true → c ≡ true) → one_if b ≤ one_if c
bit-le false c turns = omega arith
bit-le true c turns = let is : one_if c ≡ 1 = ap one_if (turns refl) in omega (arith, is)

pub bit-high : (b : Bool) → one_if b ≤ 1
bit-high true = omega arith
bit-high false = omega arith

pub bit-or : (b c : Bool) → (b ≡ true) ⊎ (c ≡ true) → 1 ≤ one_if b + one_if c
bit-or b c (inl is) = let one : one_if b ≡ 1 = ap one_if is in omega (arith, one)
bit-or b c (inr is) = let one : one_if c ≡ 1 = ap one_if is in omega (arith, one)

and-turn : (a b b' : Bool) → (b' ≡ true → b ≡ true) → (a && b') ≡ true → (a && b) ≡ true
and-turn true b b' turns is = turns is
and-turn false b b' turns is = is

pub copy-parts : (l n : ℕ) (c : Copy) → is_copy l n c ≡ true → (c.leader ≡ l) × (c.number ≡ n)
copy-parts l n c is = let both = and-split (c.leader == l) (c.number == n) is in let a = both.0 in let b = both.1 in
    (grind (arith, common_steps), grind (arith, common_steps))

pub number-is : (g : Gathering) (n : ℕ) → (g.number == n) ≡ true → g.number ≡ n
number-is g n is = grind (arith, common_steps)

module _ (t : Token) where
  -- a process that has no more of the session
  pub record Fewer (p q : Process) : Type 0 where
    pub name : q.name ≡ p.name
    pub marked : is_marked_in t.partition (copy_in q.as_row.copies t.leader t.number) ≡ true
        → is_marked_in t.partition (copy_in p.as_row.copies t.leader t.number) ≡ true
    pub kept : is_kept_in t.way t.partition (open_session q.as_leader t.number) ≡ true → is_kept_in t.way t.partition (open_session p.as_leader t.number) ≡ true
    pub last : p.as_leader.last_session ≤ q.as_leader.last_session

  pub fewer-self : (p : Process) → Fewer p p
  fewer-self p = record { name = refl; marked = λ is. is; kept = λ is. is; last = omega arith }

  pub fewer-trans : (p q r : Process) → Fewer p q → Fewer q r → Fewer p r
  fewer-trans p q r a b =
      record {
        name = b.name ∙ a.name;
        marked = λ is. a.marked (b.marked is);
        kept = λ is. a.kept (b.kept is);
        last = let one = a.last in let two = b.last in omega (arith, one, two);
      }

  pub copy-less : (w : Way) (p q : Process) → Fewer p q → in_copy t w q ≡ true → in_copy t w p ≡ true
  copy-less (Row r) p q fewer is =
      and-turn (same_process p.name (ParityNode r)) (is_marked_in t.partition (copy_in p.as_row.copies t.leader t.number))
      (is_marked_in t.partition (copy_in q.as_row.copies t.leader t.number)) fewer.marked
      (ap (λ (name : ProcessId). same_process name (ParityNode r) && is_marked_in t.partition
      (copy_in q.as_row.copies t.leader t.number)) (sym fewer.name) ∙ is)
  copy-less Own p q fewer is = is

  pub session-less : (p q : Process) → Fewer p q → in_session t q ≡ true → in_session t p ≡ true
  session-less p q fewer is =
      and-turn (same_process p.name (ParityNode t.leader)) (is_kept_in t.way t.partition (open_session p.as_leader t.number))
      (is_kept_in t.way t.partition (open_session q.as_leader t.number)) fewer.kept
      (ap (λ (name : ProcessId). same_process name (ParityNode t.leader) && is_kept_in t.way t.partition
      (open_session q.as_leader t.number)) (sym fewer.name) ∙ is)

  pub fewer-at : (p q : Process) → Fewer p q → at_process t q ≤ at_process t p
  fewer-at p q fewer =
      let a = bit-le (in_copy t t.way q) (in_copy t t.way p) (copy-less t.way p q fewer) in
      let b = bit-le (in_session t q) (in_session t p) (session-less p q fewer) in
      omega (arith, a, b)

  -- a step whose tokens grow by c at most
  pub record Gains (p : Process) (step : ProcessStep) (c : ℕ) : Type 0 where
    pub name : step.process.name ≡ p.name
    pub last : p.as_leader.last_session ≤ step.process.as_leader.last_session
    pub weighs : at_process t step.process + in_sent t p.name step.sent ≤ at_process t p + c
    pub facts : Each (λ z. Fact z.message) step.sent

  sent-silent : (x : ProcessId) (sent : List Sent) → Each (λ z. Silent z.message) sent → in_sent t x sent ≡ 0
  sent-silent x [] silent = refl
  sent-silent x (z ∷ zs) silent =
      let none : one_if (is_token t x z.to z.message) ≡ 0 = ap one_if (silent-token t x z.to z.message silent.0) in
      let rest = sent-silent x zs silent.1 in
      omega (arith, none, rest)

  pub gains-fewer : (p : Process) (step : ProcessStep) → Fewer p step.process → Each (λ z. Silent z.message) step.sent → Gains p step 0
  gains-fewer p step fewer silent = record {
    name = fewer.name;
    last = fewer.last;
    weighs = let a = fewer-at p step.process fewer in let b = sent-silent p.name step.sent silent in omega (arith, a, b);
    facts = each-weaker (λ z. Silent z.message) (λ z. Fact z.message) (λ z is. silent-fact z.message is) step.sent silent;
  }

  pub gains-from : (p q : Process) (step : ProcessStep) (c : ℕ) → Fewer p q → Gains q step c → Gains p step c
  gains-from p q step c fewer gains = record {
    name = gains.name ∙ fewer.name;
    last = let a = fewer.last in let b = gains.last in omega (arith, a, b);
    weighs =
        let a = fewer-at p q fewer in
        let b = subst (λ (name : ProcessId). at_process t step.process + in_sent t name step.sent ≤ at_process t q + c) fewer.name gains.weighs in
        omega (arith, a, b);
    facts = gains.facts;
  }

  pub gains-more : (p : Process) (step : ProcessStep) (c d : ℕ) → c ≤ d → Gains p step c → Gains p step d
  gains-more p step c d less gains = record {
    name = gains.name;
    last = gains.last;
    weighs = let a = gains.weighs in
        omega (arith, a, less);
    facts = gains.facts;
  }

  pub gains-then : (p : Process) (a : ProcessStep) (f : Process → ProcessStep) (c d : ℕ) → Gains p a c
      → Gains a.process (f a.process) d → Gains p (and_then a f) (c + d)
  gains-then p a f c d first next = record {
    name = next.name ∙ first.name;
    last = let one = first.last in let two = next.last in omega (arith, one, two);
    weighs =
        let one = first.weighs in
        let two = subst (λ (name : ProcessId). at_process t (f a.process).process + in_sent t name (f a.process).sent
        ≤ at_process t a.process + d) first.name next.weighs in
        let sum = in_sent-append t p.name a.sent (f a.process).sent in
        omega (arith, one, two, sum);
    facts = each-append (λ z. Fact z.message) a.sent (f a.process).sent first.facts next.facts;
  }

  pub gains-each : (xs : List ℕ) (f : ℕ → Process → ProcessStep) (p : Process) → ((x : ℕ) (q : Process) → Gains q (f x q) 0) → Gains p (for_each xs f p) 0
  gains-each [] f p all = gains-fewer p (quiet p) (fewer-self p) tt
  gains-each (x ∷ xs) f p all = gains-then p (f x p) (for_each xs f) 0 0 (all x p) (gains-each xs f (f x p).process all)

  pub gains-when : (b : Bool) (p : Process) (step : ProcessStep) (c : ℕ) → (b ≡ true → Gains p step c) → Gains p (when b p step) c
  gains-when true p step c gains = gains refl
  gains-when false p step c gains = gains-more p (quiet p) 0 c (omega arith) (gains-fewer p (quiet p) (fewer-self p) tt)

  -- copies to which updates are applied
  marked-map : (f : Copy → Copy) (o : Option Copy) (d : ℕ) → ((c : Copy) → (f c).marks ≡ c.marks) → is_marked_in d (option_map f o) ≡ is_marked_in d o
  marked-map f None d same = refl
  marked-map f (Some c) d same = ap (λ (marks : List (Option ℕ)). is_some (at None marks d)) (same c)

  module _ (s : Dimensions) where
    after-marks : (name : ProcessId) (d : ℕ) (us : List Update) (c : Copy) → (copy_after s name d us c).marks ≡ c.marks
    after-marks name d us c = copy-mark s name d us c (λ (marks : List (Option ℕ)). marks ≡ c.marks) refl

    pub applied-found : (name : ProcessId) (e : ℕ) (us : List Update) (l n d : ℕ) (cs : List Copy)
        → is_marked_in d (copy_in (map (copy_after s name e us) cs) l n) ≡ is_marked_in d (copy_in cs l n)
    applied-found name e us l n d cs =
        ap (is_marked_in d) (found-map (is_copy l n) (copy_after s name e us) cs (λ c. copy-test s name e us l n c))
        ∙ marked-map (copy_after s name e us) (copy_in cs l n) d (λ c. after-marks name e us c)

    pub fewer-apply : (d n : ℕ) (p : Process) → Fewer p (apply_to s d n p)
    fewer-apply d n p =
        record {
          name = refl;
          marked = λ is. sym (applied-found p.name d (up_to n (replica_of p d)) t.leader t.number t.partition
              p.as_row.copies) ∙ is;
          kept = λ is. is;
          last = omega arith;
        }

    pub gains-judge : (d : ℕ) (p : Process) → Gains p (judge s d p) 0
    gains-judge d p = by (head_at p d) where
      by : (o : Option Head) → Gains p (judge_head s d p o) 0
      by None = gains-fewer p (quiet p) (fewer-self p) tt
      by (Some h) = gains-fewer p (settle_to s d _ p) (fewer-apply d _ p) tt

    -- a message to all others
    pub silent-others : (p : Process) (m : Message) → Silent m → Each (λ z. Silent z.message) (to_others s p m)
    silent-others p m silent =
        each-map (λ z. Silent z.message) (λ i. record { to = ParityNode i; message = m }) (other_parities s.m p.name p.known)
        (each-all (λ i. Silent m) (λ i. silent) (other_parities s.m p.name p.known))

    gains-takes : (d : ℕ) (p : Process) → Gains p (take_over_if s d p) 0
    gains-takes d p = gains-when (takes_over p d p.name) p (taken_over s d p) 0 (λ takes.
        let r : ℕ = suc (parity_number p.name) in
        let q : Process = enthroned s r d p in
        gains-then p (sending _ q) (judge s d) 0 0
        (gains-fewer p (sending _ q) (record { name = refl; marked = λ is. is; kept = λ is. is; last = omega arith }) (silent-others p _ tt)) (gains-judge d q))

    -- copies of sessions that are forgotten
    filter-marked : (keep : Copy → Bool) (b : Bool) (cs : List Copy) → ((c : Copy) → is_copy t.leader t.number c ≡ true → keep c ≡ b)
        → is_marked_in t.partition (copy_in (filter keep cs) t.leader t.number) ≡ true → is_marked_in t.partition (copy_in cs t.leader t.number) ≡ true
    filter-marked keep b cs all is = by b (found-filter (is_copy t.leader t.number) keep b cs all) where
      by : (c : Bool) → copy_in (filter keep cs) t.leader t.number ≡ (if c then copy_in cs t.leader t.number else None)
          → is_marked_in t.partition (copy_in cs t.leader t.number) ≡ true
      by true same = ap (is_marked_in t.partition) (sym same) ∙ is
      by false same = absurd (cc (sym is ∙ ap (is_marked_in t.partition) same))

    pub fewer-ceased : (l upto : ℕ) (p : Process) → Fewer p (copies_ceased l upto p)
    fewer-ceased l upto p = record {
      name = refl;
      marked = filter-marked (λ c. not (c.leader == l && nat_le c.number upto)) (not (t.leader == l && nat_le t.number upto)) p.as_row.copies
          (λ c is. let parts = copy-parts t.leader t.number c is in ap₂ (λ (a b : ℕ). not (a == l && nat_le b upto)) parts.0 parts.1);
      kept = λ is. is;
      last = omega arith;
    }

    fewer-forgotten : (dead : ProcessId) (p : Process) → Fewer p (death_known dead p)
    fewer-forgotten (DataNode e) p = record { name = refl; marked = λ is. is; kept = λ is. is; last = omega arith }
    fewer-forgotten (ParityNode l) p = record {
      name = refl;
      marked = filter-marked (λ c. not (c.leader == l)) (not (t.leader == l)) p.as_row.copies
          (λ c is. ap (λ (a : ℕ). not (a == l)) (copy-parts t.leader t.number c is).0);
      kept = λ is. is;
      last = omega arith;
    }

    none-kept : (w : Way) (d : ℕ) → is_kept_in w d None ≡ false
    none-kept (Row r) d = refl
    none-kept Own d = refl

    gains-close : (gs : List Gathering) (p : Process) → Gains p (close_sessions s gs p) 0
    gains-close [] p = gains-fewer p (quiet p) (fewer-self p) tt
    gains-close (g ∷ gs) p =
        let ended : Process = with_leader (record p.as_leader { sessions = [] }) p in
        gains-fewer p (close_sessions s (g ∷ gs) p)
        (fewer-trans p ended (copies_ceased (parity_number p.name) p.as_leader.last_session ended)
        (record { name = refl; marked = λ is. is; kept = λ is. absurd (cc (is, none-kept t.way t.partition)); last = omega arith })
        (fewer-ceased (parity_number p.name) p.as_leader.last_session ended)) (silent-others p _ tt)

    pub gains-notice : (dead : ProcessId) (p : Process) → Gains p (notice_comes s dead p) 0
    gains-notice dead p =
        let q : Process = death_known dead p in
        let closed : ProcessStep = close_sessions s q.as_leader.sessions q in
        gains-from p q (notice_comes s dead p) 0 (fewer-forgotten dead p)
        (gains-then q (and_then closed (for_each (range_with_len 0 s.k) (judge s))) (for_each (range_with_len 0 s.k) (take_over_if s)) 0 0
        (gains-then q closed (for_each (range_with_len 0 s.k) (judge s)) 0 0 (gains-close q.as_leader.sessions q)
        (gains-each (range_with_len 0 s.k) (judge s) closed.process (λ x y. gains-judge x y)))
        (gains-each (range_with_len 0 s.k) (take_over_if s) _ (λ x y. gains-takes x y)))
