-- What a notice sends: each partition that is taken over has its own messages, whatever is judged or taken over before.
use Rattle.std.proofs.Common.{ℕ, zero, suc, ◌≡◌, ◌≢◌, ◌<◌, ◌+◌, Bool, true, false, List, [], ◌∷◌, ◌++◌, Option, Some, None, refl, ap, ◌∙◌, arith}
use Rattle.std.proofs.lemmas.List.{append-nil}
use Rattle.std.specs.List.{range_with_len}
use Rattle.group_types.specs.Dimensions.{Dimensions}
use Rattle.group_types.specs.Lists.{at, put}
use Rattle.group_types.proofs.Lists.{at-put-other}
use Rattle.group_types.specs.declared.process.ProcessId.{ProcessId}
use Rattle.group_types.specs.declared.process.ProcessId.TheVariants.{DataNode, ParityNode}
use Rattle.membership.specs.Members.{Membership}
use Rattle.group_run.specs.Applying.{Sent, for_each, when}
use Rattle.group_run.specs.Heading.{judge, judge_head}
use Rattle.group_run.specs.Process.{Head, Process}
use Rattle.group_run.specs.Receiving.{take_over_if, taken_over, takes_over}
use Rattle.group_run.specs.Replica.{Replica, empty_replica}
use Rattle.group_run.specs.Rows.{parity_number}
use Rattle.head_service.specs.Serving.{Serving}
use Rattle.process_service.specs.Noticing.{adoption_if, adoptions, successor_at, successor_if, successors, is_due, is_taken_over}
use Rattle.process_service.specs.Steps.{after_mourning}

module _ (s : Dimensions) where
  -- what a process keeps of its partitions
  abbrev pub view : Process → Serving
  view p = record { shape = s; name = p.name; known = p.known; replicas = p.replicas; ranks = p.ranks; heads = p.heads; held = p.held }

  abbrev pub replica : Process → ℕ → Replica
  replica p d = at empty_replica p.replicas d

  -- a process that another one became, but for some of partition d
  pub record IsSameBut (d : ℕ) (p q : Process) : Type 0 where
    pub name : q.name ≡ p.name
    pub known : q.known ≡ p.known
    pub head : (e : ℕ) → e ≢ d → at None q.heads e ≡ at None p.heads e
    pub other : (e : ℕ) → e ≢ d → replica q e ≡ replica p e

  judge-sent-of : (d : ℕ) (p : Process) (h : Option Head) → (judge_head s d p h).sent ≡ []
  judge-sent-of d p None = refl
  judge-sent-of d p (Some h) = refl

  judge-sent : (d : ℕ) (p : Process) → (judge s d p).sent ≡ []
  judge-sent d p = judge-sent-of d p _

  judge-same-of : (d : ℕ) (p : Process) (h : Option Head) → IsSameBut d p (judge_head s d p h).process
  judge-same-of d p None = record { name = refl; known = refl; head = λ e other. refl; other = λ e other. refl }
  judge-same-of d p (Some h) = record {
    name = refl;
    known = refl;
    head = λ e other. refl;
    other = λ e other. at-put-other empty_replica p.replicas d e _ other;
  }

  -- judging changes no head, and no replica of a partition that isn't headed
  pub record KeepsUnheaded (p q : Process) : Type 0 where
    pub name : q.name ≡ p.name
    pub known : q.known ≡ p.known
    pub heads : q.heads ≡ p.heads
    pub unheaded : (e : ℕ) → at None p.heads e ≡ None → replica q e ≡ replica p e

  judge-keeps-of : (d : ℕ) (p : Process) (h : Option Head) → at None p.heads d ≡ h → KeepsUnheaded p (judge_head s d p h).process
  judge-keeps-of d p None is = record { name = refl; known = refl; heads = refl; unheaded = λ e none. refl }
  judge-keeps-of d p (Some h) is = record {
    name = refl;
    known = refl;
    heads = refl;
    unheaded = λ e none. at-put-other empty_replica p.replicas d e _ (λ same. absurd (cc (ap (at None p.heads) same, none, is)));
  }

  pub judges-keep : (ds : List ℕ) (p : Process) → KeepsUnheaded p (for_each ds (judge s) p).process
  judges-keep [] p = record { name = refl; known = refl; heads = refl; unheaded = λ e none. refl }
  judges-keep (d ∷ ds) p =
      let first : KeepsUnheaded p (judge s d p).process = judge-keeps-of d p (at None p.heads d) refl in
      let rest : KeepsUnheaded (judge s d p).process (for_each ds (judge s) (judge s d p).process).process = judges-keep ds (judge s d p).process in
      record {
        name = rest.name ∙ first.name;
        known = rest.known ∙ first.known;
        heads = rest.heads ∙ first.heads;
        unheaded = λ e none. rest.unheaded e (ap (λ (hs : List (Option Head)). at None hs e) first.heads ∙ none) ∙ first.unheaded e none;
      }

  pub judges-sent : (ds : List ℕ) (p : Process) → (for_each ds (judge s) p).sent ≡ []
  judges-sent [] p = refl
  judges-sent (d ∷ ds) p =
      ap (λ (xs : List Sent). xs ++ (for_each ds (judge s) (judge s d p).process).sent) (judge-sent d p) ∙ judges-sent ds (judge s d p).process

  -- the test is the machine's
  pub due-is : (p : Process) (d : ℕ) (name : ProcessId) → takes_over p d name ≡ is_due p.known name d (at None p.heads d)
  due-is p d (DataNode _) = refl
  due-is p d (ParityNode i) = refl

  abbrev told : Process → ℕ → Bool → List Sent
  told p d due = adoption_if due s p.known p.name d (replica p d)

  take-sent-when : (d : ℕ) (p : Process) (due : Bool) → (when due p (taken_over s d p)).sent ≡ told p d due
  take-sent-when d p false = refl
  take-sent-when d p true =
      ap (λ (xs : List Sent). told p d true ++ xs) (judge-sent d _) ∙ append-nil (told p d true)

  take-sent : (d : ℕ) (p : Process) → (take_over_if s d p).sent ≡ told p d (is_taken_over (view p) d)
  take-sent d p = take-sent-when d p (takes_over p d p.name) ∙ ap (told p d) (due-is p d p.name)

  take-same-when : (d : ℕ) (p : Process) (due : Bool) → IsSameBut d p (when due p (taken_over s d p)).process
  take-same-when d p false = record { name = refl; known = refl; head = λ e other. refl; other = λ e other. refl }
  take-same-when d p true =
      let r : Process = record p { ranks = put 0 p.ranks d (suc (parity_number p.name)); heads = put None p.heads d _ } in
      let j : IsSameBut d r (judge s d r).process = judge-same-of d r _ in
      record {
        name = j.name;
        known = j.known;
        head = λ e other. j.head e other ∙ at-put-other None p.heads d e _ other;
        other = j.other;
      }

  pub take-same : (d : ℕ) (p : Process) → IsSameBut d p (take_over_if s d p).process
  take-same d p = take-same-when d p (takes_over p d p.name)

  -- what is told of a partition, where another one changed
  told-same : (d e : ℕ) (p q : Process) → e ≢ d → IsSameBut d p q → told q e (is_taken_over (view q) e) ≡ told p e (is_taken_over (view p) e)
  told-same d e p q other same =
      ap (λ (x : Replica). adoption_if (is_taken_over (view q) e) s q.known q.name e x) (same.other e other)
      ∙ ap (λ (x : Option Head). adoption_if (is_due q.known q.name e x) s q.known q.name e (replica p e)) (same.head e other)
      ∙ ap (λ (x : Membership). adoption_if (is_due x q.name e (at None p.heads e)) s x q.name e (replica p e)) same.known
      ∙ ap (λ (x : ProcessId). adoption_if (is_due p.known x e (at None p.heads e)) s p.known x e (replica p e)) same.name

  -- nor does its new head change
  pub successor-same : (d e : ℕ) (p q : Process) → e ≢ d → IsSameBut d p q → successor_at (view q) e ≡ successor_at (view p) e
  successor-same d e p q other same =
      ap (λ (x : Replica). successor_if (is_taken_over (view q) e) s q.name x) (same.other e other)
      ∙ ap (λ (x : Option Head). successor_if (is_due q.known q.name e x) s q.name (replica p e)) (same.head e other)
      ∙ ap (λ (x : Membership). successor_if (is_due x q.name e (at None p.heads e)) s q.name (replica p e)) same.known
      ∙ ap (λ (x : ProcessId). successor_if (is_due p.known x e (at None p.heads e)) s x (replica p e)) same.name

  told-later : (d n a : ℕ) (p q : Process) → d < a → IsSameBut d p q → adoptions (view q) (range_with_len a n) ≡ adoptions (view p) (range_with_len a n)
  told-later d zero a p q later same = refl
  told-later d (suc n) a p q later same =
      ap (λ (xs : List Sent). xs ++ adoptions (view q) (range_with_len (a + 1) n)) (told-same d a p q (λ (is : a ≡ d). absurd (omega (arith, is, later))) same)
      ∙ ap (λ (xs : List Sent). told p a (is_taken_over (view p) a) ++ xs) (told-later d n (a + 1) p q (omega (arith, later)) same)

  takes-sent : (n a : ℕ) (p : Process) → (for_each (range_with_len a n) (take_over_if s) p).sent ≡ adoptions (view p) (range_with_len a n)
  takes-sent zero a p = refl
  takes-sent (suc n) a p =
      let q : Process = (take_over_if s a p).process in
      ap (λ (xs : List Sent). xs ++ (for_each (range_with_len (a + 1) n) (take_over_if s) q).sent) (take-sent a p)
      ∙ ap (λ (xs : List Sent). told p a (is_taken_over (view p) a) ++ xs)
      (takes-sent n (a + 1) q ∙ told-later a n (a + 1) p q (omega arith) (take-same a p))

  -- judging leaves what is told
  judged-due : (e : ℕ) (p q : Process) → KeepsUnheaded p q → is_taken_over (view q) e ≡ is_taken_over (view p) e
  judged-due e p q keeps =
      ap (λ (hs : List (Option Head)). is_due q.known q.name e (at None hs e)) keeps.heads
      ∙ ap (λ (x : Membership). is_due x q.name e (at None p.heads e)) keeps.known
      ∙ ap (λ (x : ProcessId). is_due p.known x e (at None p.heads e)) keeps.name

  due-unheaded : (known : Membership) (name : ProcessId) (d : ℕ) (head : Option Head) → is_due known name d head ≡ true → head ≡ None
  due-unheaded known (DataNode _) d head is = absurd (cc is)
  due-unheaded known (ParityNode i) d None is = refl
  due-unheaded known (ParityNode i) d (Some h) is = absurd (cc is)

  judged-told : (e : ℕ) (p q : Process) → KeepsUnheaded p q → told q e (is_taken_over (view q) e) ≡ told p e (is_taken_over (view p) e)
  judged-told e p q keeps = ap (told q e) (judged-due e p q keeps) ∙ by (is_taken_over (view p) e) refl where
    by : (due : Bool) → is_taken_over (view p) e ≡ due → told q e due ≡ told p e due
    by false is = refl
    by true is =
        ap (λ (x : Replica). adoption_if true s q.known q.name e x) (keeps.unheaded e (due-unheaded p.known p.name e (at None p.heads e) is))
        ∙ ap (λ (x : Membership). adoption_if true s x q.name e (replica p e)) keeps.known
        ∙ ap (λ (x : ProcessId). adoption_if true s p.known x e (replica p e)) keeps.name

  judged-adoptions : (ds : List ℕ) (p q : Process) → KeepsUnheaded p q → adoptions (view q) ds ≡ adoptions (view p) ds
  judged-adoptions [] p q keeps = refl
  judged-adoptions (d ∷ ds) p q keeps =
      ap (λ (xs : List Sent). xs ++ adoptions (view q) ds) (judged-told d p q keeps)
      ∙ ap (λ (xs : List Sent). told p d (is_taken_over (view p) d) ++ xs) (judged-adoptions ds p q keeps)

  -- so a notice sends what was made for it
  pub mourned-sent : (p : Process) → (after_mourning s p).sent ≡ adoptions (view p) (range_with_len 0 s.k)
  mourned-sent p =
      let q : Process = (for_each (range_with_len 0 s.k) (judge s) p).process in
      ap (λ (xs : List Sent). xs ++ (for_each (range_with_len 0 s.k) (take_over_if s) q).sent) (judges-sent (range_with_len 0 s.k) p)
      ∙ takes-sent s.k 0 q
      ∙ judged-adoptions (range_with_len 0 s.k) p q (judges-keep (range_with_len 0 s.k) p)

  -- judging leaves the new heads
  judged-successor : (e : ℕ) (p q : Process) → KeepsUnheaded p q → successor_at (view q) e ≡ successor_at (view p) e
  judged-successor e p q keeps = ap (λ (due : Bool). successor_if due s q.name (replica q e)) (judged-due e p q keeps) ∙ by (is_taken_over (view p) e) refl where
    by : (due : Bool) → is_taken_over (view p) e ≡ due → successor_if due s q.name (replica q e) ≡ successor_if due s p.name (replica p e)
    by false is = refl
    by true is =
        ap (successor_if true s q.name) (keeps.unheaded e (due-unheaded p.known p.name e (at None p.heads e) is))
        ∙ ap (λ (x : ProcessId). successor_if true s x (replica p e)) keeps.name

  pub judged-successors : (ds : List ℕ) (p q : Process) → KeepsUnheaded p q → successors (view q) ds ≡ successors (view p) ds
  judged-successors [] p q keeps = refl
  judged-successors (d ∷ ds) p q keeps =
      ap (λ (x : Option Head). x ∷ successors (view q) ds) (judged-successor d p q keeps)
      ∙ ap (λ (xs : List (Option Head)). successor_at (view p) d ∷ xs) (judged-successors ds p q keeps)
