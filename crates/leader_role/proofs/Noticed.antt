-- What the notice of a death leaves a process able to do.
use Rattle.std.proofs.Common.{◌≡◌, ◌≤◌, ◌==◌, not, true, List, [], ◌∷◌, Option, None, is_some, All, Contains, refl, sym, ap, subst, ◌∙◌}
use Rattle.std.proofs.lemmas.List.Elements.{All-nil}
use Rattle.std.specs.List.{range_with_len}
use Rattle.group_types.specs.Dimensions.{Dimensions}
use Rattle.group_types.specs.Lists.{at}
use Rattle.group_types.specs.declared.process.ProcessId.{ProcessId}
use Rattle.group_types.specs.declared.process.ProcessId.TheVariants.{DataNode, ParityNode}
use Rattle.membership.specs.Members.{Membership, count_known_dead, knows_dead, with_dead}
use Rattle.group_run.specs.Applying.{for_each, head_at}
use Rattle.group_run.specs.Fitting.{NoticeFits}
use Rattle.group_run.specs.Heading.{judge}
use Rattle.group_run.specs.Leaders.{close_sessions}
use Rattle.group_run.specs.Process.{Gathering, Head, Process}
use Rattle.group_run.specs.Receiving.{death_known, notice_comes, take_over_if}
use Rattle.group_run.specs.Rows.{parity_number}
use Rattle.leader_role.specs.Sound.{CanLead, IsVacant}
use Rattle.leader_role.proofs.Coming.{cease-stays, filtered-stays}
use Rattle.leader_role.proofs.Dead.{knows-other, shape-stays, vacant-still}
use Rattle.leader_role.proofs.Steps.{OwnStarted, each-sound, judge-stays, sound-stays, stays-each, takes-sound}

module _ (s : Dimensions) where
  -- a process that knows of one death more, and has no session open
  record IsBereaved (dead : ProcessId) (p q : Process) : Type 0 where
    pub name : q.name ≡ p.name
    pub known : q.known ≡ with_dead p.known dead
    pub heads : q.heads ≡ p.heads
    pub sessions : q.as_leader.sessions ≡ []
    pub copies : OwnStarted p → OwnStarted q

  bereaved-sound : (dead : ProcessId) (p q : Process) → IsBereaved dead p q → NoticeFits s p dead
      → count_known_dead (with_dead p.known dead) ≤ s.m → CanLead s p → CanLead s q
  bereaved-sound dead p q is fits few sound = record {
    limits = sound.limits;
    named = (sound.named.0, is.name ∙ sound.named.1, sound.named.2);
    shape = ap (λ (known : Membership). known.shape) is.known ∙ shape-stays p.known dead ∙ sound.shape;
    few = subst (λ (known : Membership). count_known_dead known ≤ s.m) (sym is.known) few;
    living = ap (knows_dead q.known) is.name ∙ ap (λ (known : Membership). knows_dead known p.name) is.known
        ∙ knows-other p.known dead p.name fits.other ∙ sound.living;
    heads = λ d heads.
        let before : is_some (head_at p d) ≡ true = ap (λ (hs : List (Option Head)). is_some (at None hs d)) (sym is.heads) ∙ heads in
        subst (λ (known : Membership). IsVacant known d (parity_number q.name)) (sym is.known)
        (subst (λ (name : ProcessId). IsVacant (with_dead p.known dead) d (parity_number name)) (sym is.name)
        (vacant-still p.known dead d (parity_number p.name) (sound.heads d before)));
    rows = subst (λ (gs : List Gathering). All (λ g. Contains g.rows (parity_number q.name)) gs) (sym is.sessions)
        (All-nil (λ g. Contains g.rows (parity_number q.name)));
    copies = is.copies sound.copies;
  }

  closed-bereaved : (dead : ProcessId) (p q : Process) (gs : List Gathering) → q.name ≡ p.name → q.known ≡ with_dead p.known dead → q.heads ≡ p.heads
      → q.as_leader.sessions ≡ gs → (OwnStarted p → OwnStarted q)
      → IsBereaved dead p (close_sessions s gs q).process
  closed-bereaved dead p q [] name known heads sessions copies = record { name = name; known = known; heads = heads; sessions = sessions; copies = copies }
  closed-bereaved dead p q (g ∷ gs) name known heads sessions copies = record {
    name = name;
    known = known;
    heads = heads;
    sessions = refl;
    copies = λ own. (cease-stays s (parity_number q.name) q.as_leader.last_session q).copies (copies own);
  }

  death-bereaved : (dead : ProcessId) (p : Process) → IsBereaved dead p (close_sessions s (death_known dead p).as_leader.sessions (death_known dead p)).process
  death-bereaved (DataNode d) p = closed-bereaved (DataNode d) p (death_known (DataNode d) p) p.as_leader.sessions refl refl refl refl (λ own. own)
  death-bereaved (ParityNode i) p = closed-bereaved (ParityNode i) p (death_known (ParityNode i) p) p.as_leader.sessions refl refl refl refl
      (filtered-stays s (λ c. not (c.leader == i)) p).copies

  pub noticed-sound : (dead : ProcessId) (p : Process) → CanLead s p → NoticeFits s p dead → count_known_dead (with_dead p.known dead) ≤ s.m
      → CanLead s (notice_comes s dead p).process
  noticed-sound dead p sound fits few =
      let q : Process = death_known dead p in
      let closed : Process = (close_sessions s q.as_leader.sessions q).process in
      let judged : Process = (for_each (range_with_len 0 s.k) (judge s) closed).process in
      each-sound s (take_over_if s) (λ d x is. takes-sound s d x is) (range_with_len 0 s.k) judged
      (sound-stays s closed judged (stays-each (judge s) (λ d x. judge-stays s d x) (range_with_len 0 s.k) closed)
      (bereaved-sound dead p closed (death-bereaved dead p) fits few sound))
