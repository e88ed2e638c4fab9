-- Steps that a head makes of its own, and those of a notice: what they apply is settled, so bytes stay right.
use Rattle.std.proofs.Common.{◌≡◌, ◌≢◌, ℕ, suc, ◌<◌, ◌≤◌, ◌==◌, ◌&&◌, nat_le, Bool, true, false, not, List, [], ◌∷◌}
use Rattle.std.proofs.Common.{length, Option, Some, None, ◌⊎◌, inl, inr, sym, ap, subst, ◌∙◌, refl, arith}
use Rattle.std.proofs.lemmas.Bool.{cases_eq}
use Rattle.std.specs.List.{range_with_len}
use Rattle.group_types.specs.Dimensions.{Dimensions}
use Rattle.group_types.specs.Lists.{at}
use Rattle.group_types.specs.declared.process.ProcessId.{ProcessId}
use Rattle.group_types.specs.declared.process.ProcessId.TheVariants.{DataNode, ParityNode}
use Rattle.group_types.specs.Each.{Each}
use Rattle.group_types.proofs.Eaches.{each-weaker, each-filter}
use Rattle.group_message.specs.declared.update.Update.{Update}
use Rattle.group_run.specs.Applying.{ProcessStep, and_then, apply_to, for_each, head_at, quiet, replica_of, sending, when}
use Rattle.group_run.specs.Heading.{judge, judge_head}
use Rattle.group_run.specs.Leaders.{close_sessions, rebuilt_block}
use Rattle.group_run.specs.Process.{Copy, Gathering, Head, Process}
use Rattle.group_run.specs.Receiving.{death_known, enthroned, notice_comes, take_over_if, taken_over, takes_over}
use Rattle.group_run.specs.Replica.{Replica, empty_replica}
use Rattle.group_run.specs.Rows.{parity_number}
use Rattle.law_moves.proofs.Calls.{each-below}
use Rattle.law_bytes.specs.Held.{CopyHolds}
use Rattle.law_bytes.proofs.Premises.{GoesOn}
use Rattle.law_bytes.proofs.Applying.{Holding, applied-here, applied-holds, applied-rises, applied-settled, goes-applied, replica-here, replica-other}
use Rattle.law_bytes.proofs.Copies.{holding-same}
use Rattle.law_bytes.proofs.Values.{Concerns}
use Rattle.law_bytes.specs.Areas.{SettledWrite}

-- a process whose logs go on as the settled updates do, and which heads no partition but such as concern it
pub record Ready (s : Dimensions) (settled : ℕ → List Update) (p : Process) : Type 0 where
  pub goes : (d : ℕ) → d < s.k → GoesOn (settled d) (replica_of p d)
  pub own : (d : ℕ) (h : Head) → d < s.k → head_at p d ≡ Some h → Concerns s p.name d

-- what a process leaves is its bytes, its replicas and its heads, and perhaps fewer copies
pub record Tame (p q : Process) : Type 1 where
  pub name : q.name ≡ p.name
  pub replicas : q.replicas ≡ p.replicas
  pub space : q.space ≡ p.space
  pub heads : q.heads ≡ p.heads
  pub rebuilt : (d b : ℕ) → rebuilt_block q.as_leader d b ≡ rebuilt_block p.as_leader d b
  pub copies : (P : Copy → Type 0) → Each P p.as_row.copies → Each P q.as_row.copies

-- no more than is settled is applied
abbrev pub Final : Dimensions → (ℕ → List Update) → Process → Type 0
Final s settled p = (d : ℕ) → d < s.k → (replica_of p d).applied ≤ length (settled d)

module _ (s : Dimensions) (settled : ℕ → List Update) (write : SettledWrite s settled) (old : ℕ → ℕ → Bool) where
  pub tame-holds : (p q : Process) → Tame p q → Holding s settled old p → Holding s settled old q
  tame-holds p q tame holding = holding-same s settled old p q (record {
    stand = record { name = tame.name; applied = λ d. ap (λ (rs : List Replica). (at empty_replica rs d).applied) tame.replicas };
    space = tame.space;
    rebuilt = tame.rebuilt;
  }) (tame.copies (CopyHolds s settled p) holding.copies) holding

  pub tame-ready : (p q : Process) → Tame p q → Ready s settled p → Ready s settled q
  tame-ready p q tame ready = record {
    goes = λ d below. subst (λ (rs : List Replica). GoesOn (settled d) (at empty_replica rs d)) (sym tame.replicas) (ready.goes d below);
    own = λ d h below heads. subst (λ (name : ProcessId). Concerns s name d) (sym tame.name)
        (ready.own d h below (ap (λ (hs : List (Option Head)). at None hs d) (sym tame.heads) ∙ heads));
  }

  -- one partition is applied up to a number
  module _ (p : Process) (d n : ℕ) (concerns : Concerns s p.name d) (below : d < s.k) where
    pub apply-ready : Ready s settled p → Ready s settled (apply_to s d n p)
    apply-ready ready = record {
      goes = λ e low. by e low (cases_eq e d);
      own = λ e h low heads. ready.own e h low heads;
    } where
      by : (e : ℕ) → e < s.k → (e ≡ d) ⊎ (e ≢ d) → GoesOn (settled e) (replica_of (apply_to s d n p) e)
      by e low (inr other) = subst (GoesOn (settled e)) (sym (replica-other s settled write old p d n concerns below e other)) (ready.goes e low)
      by e low (inl here) = subst (λ (j : ℕ). GoesOn (settled j) (replica_of (apply_to s d n p) j)) (sym here)
          (subst (GoesOn (settled d)) (sym (replica-here s settled write old p d n concerns below))
          (goes-applied (settled d) (replica_of p d) n (ready.goes d below)))

    pub apply-keeps : (replica_of (apply_to s d n p) d).applied ≤ length (settled d)
        → GoesOn (settled d) (replica_of p d) → Holding s settled old p → Holding s settled old (apply_to s d n p)
    apply-keeps within goes holding =
        let is = applied-here s settled write old p d n concerns below in
        applied-holds s settled write old p d n concerns below
        (applied-settled (settled d) (replica_of p d) n goes (subst (λ (k : ℕ). k ≤ length (settled d)) is within)) within holding

    pub apply-rises : (e : ℕ) → (replica_of p e).applied ≤ (replica_of (apply_to s d n p) e).applied
    apply-rises e = applied-rises s settled write old p d n concerns below e

  -- a step that keeps bytes right where what it applies is settled
  pub record Good (p : Process) (t : ProcessStep) : Type 0 where
    pub rises : Ready s settled p → (d : ℕ) → d < s.k → (replica_of p d).applied ≤ (replica_of t.process d).applied
    pub ready : Ready s settled p → Ready s settled t.process
    pub holds : Final s settled t.process → Ready s settled p → Holding s settled old p → Holding s settled old t.process

  pub good-tame : (p : Process) (t : ProcessStep) → Tame p t.process → Good p t
  good-tame p t tame = record {
    rises = λ ready d below. let same = ap (λ (rs : List Replica). (at empty_replica rs d).applied) tame.replicas in omega (arith, same);
    ready = tame-ready p t.process tame;
    holds = λ final ready holding. tame-holds p t.process tame holding;
  }

  pub tame-self : (p : Process) → Tame p p
  tame-self p = record { name = refl; replicas = refl; space = refl; heads = refl; rebuilt = λ d b. refl; copies = λ P all. all }

  pub good-then : (p : Process) (a : ProcessStep) (f : Process → ProcessStep) → Good p a → Good a.process (f a.process) → Good p (and_then a f)
  good-then p a f first next = record {
    rises = λ ready d below. let one = first.rises ready d below in let two = next.rises (first.ready ready) d below in omega (arith, one, two);
    ready = λ ready. next.ready (first.ready ready);
    holds = λ final ready holding. next.holds final (first.ready ready)
        (first.holds (λ d below. let two = next.rises (first.ready ready) d below in let last = final d below in omega (arith, two, last)) ready holding);
  }

  pub good-each : (xs : List ℕ) (f : ℕ → Process → ProcessStep) (p : Process) → Each (λ x. (q : Process) → Good q (f x q)) xs → Good p (for_each xs f p)
  good-each [] f p all = good-tame p (quiet p) (tame-self p)
  good-each (x ∷ xs) f p all = good-then p (f x p) (for_each xs f) (all.0 p) (good-each xs f (f x p).process all.1)

  pub good-when : (b : Bool) (p : Process) (t : ProcessStep) → (b ≡ true → Good p t) → Good p (when b p t)
  good-when true p t good = good refl
  good-when false p t good = good-tame p (quiet p) (tame-self p)

  -- a head judges
  pub good-judge : (d : ℕ) → d < s.k → (p : Process) → Good p (judge s d p)
  good-judge d below p = by (head_at p d) refl where
    by : (o : Option Head) → head_at p d ≡ o → Good p (judge_head s d p o)
    by None heads = good-tame p (quiet p) (tame-self p)
    by (Some h) heads = record {
      rises = λ ready e low. apply-rises p d _ (ready.own d h below heads) below e;
      ready = λ ready. apply-ready p d _ (ready.own d h below heads) below ready;
      holds = λ final ready holding. apply-keeps p d _ (ready.own d h below heads) below (final d below) (ready.goes d below) holding;
    }

  -- a partition is taken over
  concerned : (p : Process) (d : ℕ) (name : ProcessId) → p.name ≡ name → takes_over p d name ≡ true → (e : ℕ) → e < s.k → Concerns s p.name e
  concerned p d (DataNode e) is takes f low = absurd (cc takes)
  concerned p d (ParityNode i) is takes f low = subst (λ (name : ProcessId). Concerns s name f) (sym is) low

  good-takes : (d : ℕ) → d < s.k → (p : Process) → Good p (take_over_if s d p)
  good-takes d below p = good-when (takes_over p d p.name) p (taken_over s d p) (λ takes.
      let r : ℕ = suc (parity_number p.name) in
      let q : Process = enthroned s r d p in
      let crowned : Good p (sending _ q) = record {
        rises = λ ready e low. omega arith;
        ready = λ ready. record { goes = ready.goes; own = λ e h low heads. concerned p d p.name refl takes e low };
        holds = λ final ready holding. holding-same s settled old p q
            (record { stand = record { name = refl; applied = λ e. refl }; space = refl; rebuilt = λ e b. refl })
            holding.copies holding;
      } in
      good-then p (sending _ q) (judge s d) crowned (good-judge d below q))

  -- a notice
  tame-death : (dead : ProcessId) (p : Process) → Tame p (death_known dead p)
  tame-death (DataNode e) p = record { name = refl; replicas = refl; space = refl; heads = refl; rebuilt = λ d b. refl; copies = λ P all. all }
  tame-death (ParityNode l) p =
      record {
        name = refl;
        replicas = refl;
        space = refl;
        heads = refl;
        rebuilt = λ d b. refl;
        copies = λ P all. each-filter P (λ c. not (c.leader == l)) p.as_row.copies all;
      }

  tame-close : (gs : List Gathering) (p : Process) → Tame p (close_sessions s gs p).process
  tame-close [] p = tame-self p
  tame-close (g ∷ gs) p = record {
    name = refl;
    replicas = refl;
    space = refl;
    heads = refl;
    rebuilt = λ d b. refl;
    copies = λ P all. each-filter P (λ c. not (c.leader == parity_number p.name && nat_le c.number p.as_leader.last_session)) p.as_row.copies all;
  }

  pub good-notice : (dead : ProcessId) (p : Process) → Good p (notice_comes s dead p)
  good-notice dead p =
      let q : Process = death_known dead p in
      let closed : ProcessStep = close_sessions s q.as_leader.sessions q in
      let rest : Good q (notice_comes s dead p) =
      good-then q (and_then closed (for_each (range_with_len 0 s.k) (judge s))) (for_each (range_with_len 0 s.k) (take_over_if s))
      (good-then q closed (for_each (range_with_len 0 s.k) (judge s)) (good-tame q closed (tame-close q.as_leader.sessions q))
      (good-each (range_with_len 0 s.k) (judge s) closed.process (below_each (λ d. (y : Process) → Good y (judge s d y)) good-judge)))
      (good-each (range_with_len 0 s.k) (take_over_if s) _ (below_each (λ d. (y : Process) → Good y (take_over_if s d y)) good-takes)) in
      let first : Good p (quiet q) = good-tame p (quiet q) (tame-death dead p) in
      record {
        rises = λ ready d below. let one = first.rises ready d below in let two = rest.rises (first.ready ready) d below in omega (arith, one, two);
        ready = λ ready. rest.ready (first.ready ready);
        holds = λ final ready holding. rest.holds final (first.ready ready) (tame-holds p q (tame-death dead p) holding);
      }
    where
      below_each : (P : ℕ → Type 0) → ((d : ℕ) → d < s.k → P d) → Each P (range_with_len 0 s.k)
      below_each P every = each-weaker (λ d. d < s.k) P every (range_with_len 0 s.k) (each-below s.k)
