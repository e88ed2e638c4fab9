-- Steps of one process that leave what it has of a session following its plan, and send nothing of it.
use Rattle.std.proofs.Common.{◌≡◌, ℕ, suc, ◌≤◌, ◌==◌, ◌&&◌, nat_le, Bool, true, false, not, List, [], ◌∷◌, filter, find}
use Rattle.std.proofs.Common.{is_some, Option, Some, None, IfSome, sym, ap, ap₂, subst, ◌∙◌, refl, if◌then◌else◌}
use Rattle.std.specs.Prelude.{Contains}
use Rattle.std.specs.List.{range_with_len}
use Rattle.group_types.specs.Dimensions.{Dimensions}
use Rattle.group_types.specs.Lists.{at}
use Rattle.group_types.specs.declared.process.ProcessId.{ProcessId}
use Rattle.group_types.specs.declared.process.ProcessId.TheVariants.{DataNode, ParityNode}
use Rattle.group_types.specs.Each.{Each}
use Rattle.group_types.proofs.Eaches.{each-append, each-weaker}
use Rattle.group_message.specs.declared.message.Message.{Message}
use Rattle.group_message.specs.declared.message.Message.TheVariants as tells
use Rattle.group_message.specs.declared.update.Update.{Update}
use Rattle.group_run.specs.Applying.{ProcessStep, Sent, and_then, apply_to, block_after, copy_after, for_each, head_at}
use Rattle.group_run.specs.Applying.{quiet, replica_of, sending, when, with_head}
use Rattle.group_run.specs.Heading.{acknowledge, acknowledged, judge, judge_head, settle_to}
use Rattle.group_run.specs.Leaders.{close_sessions, open_session, with_leader}
use Rattle.group_run.specs.Process.{Copy, Gathering, Head, LeaderState, Process, RowState}
use Rattle.group_run.specs.Receiving.{death_known, enthroned, notice_comes, take_over_if, taken_over, takes_over}
use Rattle.group_run.specs.Replica.{up_to}
use Rattle.group_run.specs.Rows.{copies_ceased, copy_in, is_copy, parity_number}
use Rattle.law_bytes.proofs.Finding.{found-filter}
use Rattle.law_bytes.proofs.Finds.{found-map}
use Rattle.law_bytes.proofs.Marking.{copy-test}
use Rattle.law_bytes.proofs.Local.{Silent, copy-parts, silent-others}
use Rattle.law_bytes.proofs.Tokens.{Own, Token}
use Rattle.law_bytes.proofs.Stamps.{CopyFollows, Follows, GatheringFollows, Plan, ProcessFollows}

-- any token, where a lemma asks for one
pub any : Token
any = record { leader = 0; number = 0; partition = 0; way = Own }

-- what holds of the first that passes, holds where all that pass are kept, or none
pub if-filter : {X : Type 0} (test keep : X → Bool) (P : X → Type 0) (b : Bool) (xs : List X)
    → ((x : X) → test x ≡ true → keep x ≡ b) → IfSome (find test xs) P → IfSome (find test (filter keep xs)) P
if-filter test keep P b xs all holds = by b (found-filter test keep b xs all) where
  by : (c : Bool) → find test (filter keep xs) ≡ (if c then find test xs else None) → IfSome (find test (filter keep xs)) P
  by true is = subst (λ o. IfSome o P) (sym is) holds
  by false is = subst (λ o. IfSome o P) (sym is) tt

module _ (s : Dimensions) (settled : ℕ → List Update) (l n : ℕ) (plan : Plan) where
  pub silent-follows : (x q : ProcessId) (m : Message) → Silent m → Follows s settled l n plan x q m
  silent-follows x q (tells.Update r d u stable) silent = tt
  silent-follows x q (tells.Ack r d k) silent = tt
  silent-follows x q (tells.Stable r d k) silent = tt
  silent-follows x q (tells.Adopt r d base list) silent = tt
  silent-follows x q (tells.Cease upto) silent = tt
  silent-follows x q (tells.Notice dead) silent = tt
  silent-follows x q (tells.ReadBlock session block rows) silent = absurd silent
  silent-follows x q (tells.Block session bytes k) silent = absurd silent
  silent-follows x q (tells.Mark session r block d k) silent = absurd silent
  silent-follows x q (tells.Row session bytes stamp) silent = absurd silent

  -- all that is sent follows the plan
  abbrev pub Sends : ProcessId → List Sent → Type 0
  Sends x sent = Each (λ z. Follows s settled l n plan x z.to z.message) sent

  pub silent-sends : (x : ProcessId) (sent : List Sent) → Each (λ z. Silent z.message) sent → Sends x sent
  silent-sends x sent silent = each-weaker (λ z. Silent z.message) (λ z. Follows s settled l n plan x z.to z.message)
      (λ z is. silent-follows x z.to z.message is) sent silent

  -- what a process has still follows the plan
  pub record Still (p q : Process) : Type 0 where
    pub name : q.name ≡ p.name
    pub follows : ProcessFollows s settled l n plan p → ProcessFollows s settled l n plan q

  pub still-self : (p : Process) → Still p p
  still-self p = record { name = refl; follows = λ is. is }

  pub still-then : (p q r : Process) → Still p q → Still q r → Still p r
  still-then p q r a b = record { name = b.name ∙ a.name; follows = λ is. b.follows (a.follows is) }

  -- only other parts of the process change
  pub still-same : (p q : Process) → q.name ≡ p.name → q.as_row ≡ p.as_row → q.as_leader ≡ p.as_leader → Still p q
  still-same p q name row leader = record {
    name = name;
    follows = λ is. record {
      copy = λ r named.
          subst (λ (x : RowState). IfSome (copy_in x.copies l n) (λ c. Contains plan.rows r × CopyFollows s plan c))
          (sym row) (is.copy r (sym name ∙ named));
      session = λ named.
          subst (λ (x : LeaderState). IfSome (open_session x n) (λ g. (n ≤ x.last_session)
          × GatheringFollows s settled plan g)) (sym leader) (is.session (sym name ∙ named));
    };
  }

  pub copy-applied : (name : ProcessId) (e r : ℕ) (us : List Update) (c : Copy) → Contains plan.rows r
      × CopyFollows s plan c → Contains plan.rows r × CopyFollows s plan (copy_after s name e us c)
  copy-applied name e r us c follows = by (is_some (at None c.marks e)) where
    by : (b : Bool) → Contains plan.rows r × CopyFollows s plan (if b then c else record c { bytes = block_after s name e c.block us c.bytes })
    by true = follows
    by false = (follows.0, record { block = follows.1.block; marks = follows.1.marks; marked = follows.1.marked })

  pub still-apply : (d k : ℕ) (p : Process) → Still p (apply_to s d k p)
  still-apply d k p = record {
    name = refl;
    follows = λ is. record {
      copy = λ r named. found-map (is_copy l n) (λ c. Contains plan.rows r × CopyFollows s plan c)
          (copy_after s p.name d (up_to k (replica_of p d))) p.as_row.copies
          (λ c. copy-test s p.name d (up_to k (replica_of p d)) l n c) (copy-applied p.name d r (up_to k (replica_of p d))) (is.copy r named);
      session = is.session;
    };
  }

  pub still-ceased : (leader upto : ℕ) (p : Process) → Still p (copies_ceased leader upto p)
  still-ceased leader upto p = record {
    name = refl;
    follows = λ is. record {
      copy =
          λ r named. if-filter (is_copy l n) (λ c. not (c.leader == leader && nat_le c.number upto)) (λ c. Contains plan.rows r × CopyFollows s plan c)
          (not (l == leader && nat_le n upto)) p.as_row.copies
          (λ c is_it. let parts = copy-parts l n c is_it in ap₂ (λ (a b : ℕ). not (a == leader && nat_le b upto)) parts.0 parts.1) (is.copy r named);
      session = is.session;
    };
  }

  still-forgotten : (dead : ProcessId) (p : Process) → Still p (death_known dead p)
  still-forgotten (DataNode e) p = still-same p _ refl refl refl
  still-forgotten (ParityNode i) p = record {
    name = refl;
    follows = λ is. record {
      copy = λ r named. if-filter (is_copy l n) (λ c. not (c.leader == i)) (λ c. Contains plan.rows r × CopyFollows s plan c) (not (l == i)) p.as_row.copies
          (λ c is_it. ap (λ (a : ℕ). not (a == i)) (copy-parts l n c is_it).0) (is.copy r named);
      session = is.session;
    };
  }

  -- a step after which what a process has follows the plan, and all that is sent
  pub record Passes (p : Process) (step : ProcessStep) : Type 0 where
    pub name : step.process.name ≡ p.name
    pub follows : ProcessFollows s settled l n plan p → ProcessFollows s settled l n plan step.process × Sends p.name step.sent

  pub still-passes : (p : Process) (step : ProcessStep) → Still p step.process → Each (λ z. Silent z.message) step.sent → Passes p step
  still-passes p step still silent = record { name = still.name; follows = λ is. (still.follows is, silent-sends p.name step.sent silent) }

  pub passes-self : (p : Process) → Passes p (quiet p)
  passes-self p = still-passes p (quiet p) (still-self p) tt

  pub passes-from : (p q : Process) (step : ProcessStep) → Still p q → Passes q step → Passes p step
  passes-from p q step still passes = record {
    name = passes.name ∙ still.name;
    follows = λ is. let after = passes.follows (still.follows is) in (after.0, subst (λ (x : ProcessId). Sends x step.sent) still.name after.1);
  }

  pub passes-then : (p : Process) (a : ProcessStep) (f : Process → ProcessStep) → Passes p a → Passes a.process (f a.process) → Passes p (and_then a f)
  passes-then p a f first next = record {
    name = next.name ∙ first.name;
    follows = λ is.
        let one = first.follows is in
        let two = next.follows one.0 in (
          two.0,
          each-append (λ z. Follows s settled l n plan p.name z.to z.message) a.sent (f a.process).sent one.1
              (subst (λ (x : ProcessId). Sends x (f a.process).sent) first.name two.1),
        );
  }

  pub passes-each : (xs : List ℕ) (f : ℕ → Process → ProcessStep) (p : Process) → ((x : ℕ) (q : Process) → Passes q (f x q)) → Passes p (for_each xs f p)
  passes-each [] f p all = passes-self p
  passes-each (x ∷ xs) f p all = passes-then p (f x p) (for_each xs f) (all x p) (passes-each xs f (f x p).process all)

  pub passes-when : (b : Bool) (p : Process) (step : ProcessStep) → (b ≡ true → Passes p step) → Passes p (when b p step)
  passes-when true p step passes = passes refl
  passes-when false p step passes = passes-self p

  pub passes-judge : (d : ℕ) (p : Process) → Passes p (judge s d p)
  passes-judge d p = by (head_at p d) where
    by : (o : Option Head) → Passes p (judge_head s d p o)
    by None = passes-self p
    by (Some h) = still-passes p (settle_to s d _ p) (still-apply d _ p) tt

  passes-takes : (d : ℕ) (p : Process) → Passes p (take_over_if s d p)
  passes-takes d p = passes-when (takes_over p d p.name) p (taken_over s d p) (λ takes.
      let q : Process = enthroned s (suc (parity_number p.name)) d p in
      passes-then p (sending _ q) (judge s d) (still-passes p (sending _ q) (still-same p q refl refl refl) (silent-others any s p _ tt)) (passes-judge d q))

  passes-close : (gs : List Gathering) (p : Process) → Passes p (close_sessions s gs p)
  passes-close [] p = passes-self p
  passes-close (g ∷ gs) p =
      let ended : Process = with_leader (record p.as_leader { sessions = [] }) p in
      still-passes p (close_sessions s (g ∷ gs) p)
      (still-then p ended (copies_ceased (parity_number p.name) p.as_leader.last_session ended)
      (record { name = refl; follows = λ is. record { copy = is.copy; session = λ named. tt } })
      (still-ceased (parity_number p.name) p.as_leader.last_session ended)) (silent-others any s p _ tt)

  pub passes-notice : (dead : ProcessId) (p : Process) → Passes p (notice_comes s dead p)
  passes-notice dead p =
      let q : Process = death_known dead p in
      let closed : ProcessStep = close_sessions s q.as_leader.sessions q in
      passes-from p q (notice_comes s dead p) (still-forgotten dead p)
      (passes-then q (and_then closed (for_each (range_with_len 0 s.k) (judge s))) (for_each (range_with_len 0 s.k) (take_over_if s))
      (passes-then q closed (for_each (range_with_len 0 s.k) (judge s)) (passes-close q.as_leader.sessions q)
      (passes-each (range_with_len 0 s.k) (judge s) closed.process (λ x y. passes-judge x y)))
      (passes-each (range_with_len 0 s.k) (take_over_if s) _ (λ x y. passes-takes x y)))

  pub passes-acked : (p : Process) (i r d k : ℕ) (o : Option Head) → Passes p (acknowledge s i r d k o p)
  passes-acked p i r d k None = passes-self p
  passes-acked p i r d k (Some h) =
      let q : Process = with_head d (Some (acknowledged i k h)) p in
      passes-when (r == h.rank) p (judge s d q) (λ is. passes-from p q (judge s d q) (still-same p q refl refl refl) (passes-judge d q))
