-- A step of one process keeps what is held of sessions.
use Rattle.std.proofs.Common.{◌≡◌, ◌≢◌, ℕ, ◌<◌, ◌≤◌, true, false, List, [], ◌∷◌, ◌++◌, is_some, Option, Some, None, ◌⊎◌}
use Rattle.std.proofs.Common.{inl, inr, refl, sym, ap, subst, ◌∙◌, arith}
use Rattle.std.proofs.lemmas.Bool.{cases_eq}
use Rattle.group_types.specs.Dimensions.{Dimensions}
use Rattle.group_types.specs.Lists.{at}
use Rattle.group_types.specs.Names.{IsProcess}
use Rattle.group_types.specs.declared.process.ProcessId.{ProcessId}
use Rattle.group_types.specs.declared.process.ProcessId.TheVariants.{DataNode, ParityNode}
use Rattle.group_types.proofs.Names.{same-cases}
use Rattle.group_types.specs.Each.{Each}
use Rattle.group_types.proofs.Eaches.{each-append}
use Rattle.membership.specs.Members.{knows_dead}
use Rattle.group_message.specs.declared.message.Message.{Message}
use Rattle.group_message.specs.declared.message.Message.TheVariants as tells
use Rattle.group_run.specs.Applying.{ProcessStep}
use Rattle.group_run.specs.Process.{Gathering, Process}
use Rattle.group_run.specs.World.{sent_to}
use Rattle.law_moves.specs.State.{State}
use Rattle.law_moves.proofs.Members.{MayStand}
use Rattle.law_moves.proofs.Standing.{each-sent_to}
use Rattle.law_bytes.proofs.Tokens.{Row, at_process, in_copy, is_token, one_if, tokens}
use Rattle.law_bytes.proofs.TokensKeeping.{unknown}
use Rattle.law_bytes.proofs.Nothing.{link-none, token}
use Rattle.law_progress.proofs.Waiting.{Asked, BlockComes, Copied, Given, Has, AsksForBlock, IsBlock, IsMark, IsRead}
use Rattle.law_progress.proofs.Waiting.{IsRow, Marked, Marking, RowComes, WantsBlock, WantsRow, Waited, marks_in}
use Rattle.law_progress.proofs.Holding.{AskThere, CopyThere, Ended, Ending, MarkThere, Move, Pending}
use Rattle.law_progress.proofs.Sides as sides
use Rattle.law_progress.proofs.Sides.{After, Fresh, IsCease, LeaderFine, Leaves, NewRow, NoMore, RowFine, opened}
use Rattle.law_progress.proofs.Spent.{ask-token, each-not, link-off, mark-token, marked-token, no-ask, no-copy, no-mark, row-token}
use Rattle.law_progress.proofs.Taking.{parity-one}
use Rattle.law_progress.proofs.Views.{Sends, has-either, has-left, has-right, has-weaker, link-sends, sends-link}

each-parts : {X : Type 0} (P : X → Type 0) (xs ys : List X) → Each P (xs ++ ys) → Each P xs × Each P ys
each-parts P [] ys all = (tt, all)
each-parts P (x ∷ xs) ys all = let rest = each-parts P xs ys all.1 in ((all.0, rest.0), rest.1)

has-some : {X : Type 0} (P : X → Type 0) (xs : List X) → Has P xs → xs ≢ []
has-some P [] has is = has
has-some P (x ∷ xs) has is = cc is

wanted-open : (r : ℕ) (o : Option Gathering) → WantsRow r o → is_some o ≡ true
wanted-open r None wants = absurd wants
wanted-open r (Some g) wants = refl

module _ (s : Dimensions) (v u w : State) (x p : ProcessId) (came : List Message) (t : ProcessStep) (move : Move s v u w x p came t) (old : Ending s v) where
  dead-same : (q : ProcessId) → IsProcess s q → w.dead q ≡ v.dead q
  dead-same q qin = move.acts.dead q qin ∙ move.dead q qin

  lived : (q : ProcessId) → IsProcess s q → w.dead q ≡ false → v.dead q ≡ false
  lived q qin living = sym (dead-same q qin) ∙ living

  other-same : (q : ProcessId) → IsProcess s q → q ≢ p → w.process q ≡ v.process q
  other-same q qin other = move.acts.others q qin other ∙ move.same q qin

  -- nobody that lives is known to be dead
  knows-not : (q : ProcessId) → IsProcess s q → v.dead q ≡ false → knows_dead t.process.known q ≡ false
  knows-not q qin living = by (same-cases q p) where
    by : (q ≡ p) ⊎ (q ≢ p) → knows_dead t.process.known q ≡ false
    by (inl is) = ap (λ (y : Process). knows_dead y.known q) (sym move.acts.process)
        ∙ ap (knows_dead (w.process p).known) is
        ∙ move.after.not_self p move.inside (dead-same p move.inside ∙ move.lives)
    by (inr other) = unknown s u w p t move.inside (move.dead p move.inside ∙ move.lives) move.after move.acts q qin other (move.dead q qin ∙ living)

  -- links: what was there is taken or stays, and what is there was there or is sent
  stays-u : (P : Message → Type 0) (a b : ProcessId) → IsProcess s a → IsProcess s b → Has P (v.link a b)
      → ((a ≡ x) × (b ≡ p) × Has P came) ⊎ Has P (u.link a b)
  stays-u P a b ain bin has = by (same-cases a x) (same-cases b p) where
    by : (a ≡ x) ⊎ (a ≢ x) → (b ≡ p) ⊎ (b ≢ p) → ((a ≡ x) × (b ≡ p) × Has P came) ⊎ Has P (u.link a b)
    by (inr other) _ = inr (subst (Has P) (sym (move.links a b ain bin (inl other))) has)
    by (inl is) (inr other) = inr (subst (Has P) (sym (move.links a b ain bin (inr other))) has)
    by (inl is) (inl here) =
        split (has-either P came (u.link x p)
        (subst (Has P) move.first
        (subst (λ (y : ProcessId). Has P (v.link x y)) here
        (subst (λ (y : ProcessId). Has P (v.link y b)) is has)))) where
          split : Has P came ⊎ Has P (u.link x p) → ((a ≡ x) × (b ≡ p) × Has P came) ⊎ Has P (u.link a b)
          split (inl taken) = inl (is, here, taken)
          split (inr left) = inr (subst (λ (y : ProcessId). Has P (u.link y b)) (sym is) (subst (λ (y : ProcessId). Has P (u.link x y)) (sym here) left))

  was-v : (P : Message → Type 0) (a b : ProcessId) → IsProcess s a → IsProcess s b → Has P (u.link a b) → Has P (v.link a b)
  was-v P a b ain bin has = by (same-cases a x) (same-cases b p) where
    by : (a ≡ x) ⊎ (a ≢ x) → (b ≡ p) ⊎ (b ≢ p) → Has P (v.link a b)
    by (inr other) _ = subst (Has P) (move.links a b ain bin (inl other)) has
    by (inl is) (inr other) = subst (Has P) (move.links a b ain bin (inr other)) has
    by (inl is) (inl here) =
        subst (λ (y : ProcessId). Has P (v.link y b)) (sym is)
        (subst (λ (y : ProcessId). Has P (v.link x y)) (sym here)
        (subst (Has P) (sym move.first) (has-right P came (u.link x p)
        (subst (λ (y : ProcessId). Has P (u.link x y)) here (subst (λ (y : ProcessId). Has P (u.link y b)) is has)))))

  grown : (b : ProcessId) → IsProcess s b → v.dead b ≡ false → w.link p b ≡ u.link p b ++ sent_to b t.sent
  grown b bin living = move.acts.sends b bin (knows-not b bin living)

  stays-w : (P : Message → Type 0) (a b : ProcessId) → IsProcess s a → IsProcess s b → v.dead b ≡ false → Has P (u.link a b) → Has P (w.link a b)
  stays-w P a b ain bin living has = by (same-cases a p) where
    by : (a ≡ p) ⊎ (a ≢ p) → Has P (w.link a b)
    by (inl is) =
        subst (λ (y : ProcessId). Has P (w.link y b)) (sym is)
        (subst (Has P) (sym (grown b bin living)) (has-left P (u.link p b) (sent_to b t.sent) (subst (λ (y : ProcessId). Has P (u.link y b)) is has)))
    by (inr other) = subst (Has P) (sym (move.acts.links a b ain bin other)) has

  stays : (P : Message → Type 0) (a b : ProcessId) → IsProcess s a → IsProcess s b → v.dead b ≡ false
      → Has P (v.link a b) → ((a ≡ x) × (b ≡ p) × Has P came) ⊎ Has P (w.link a b)
  stays P a b ain bin living has = by (stays-u P a b ain bin has) where
    by : ((a ≡ x) × (b ≡ p) × Has P came) ⊎ Has P (u.link a b) → ((a ≡ x) × (b ≡ p) × Has P came) ⊎ Has P (w.link a b)
    by (inl taken) = inl taken
    by (inr left) = inr (stays-w P a b ain bin living left)

  was-u : (P : Message → Type 0) (a b : ProcessId) → IsProcess s a → IsProcess s b → v.dead b ≡ false
      → Has P (w.link a b) → Has P (u.link a b) ⊎ ((a ≡ p) × Sends P b t.sent)
  was-u P a b ain bin living has = by (same-cases a p) where
    by : (a ≡ p) ⊎ (a ≢ p) → Has P (u.link a b) ⊎ ((a ≡ p) × Sends P b t.sent)
    by (inr other) = inl (subst (Has P) (move.acts.links a b ain bin other) has)
    by (inl is) =
        split (has-either P (u.link p b) (sent_to b t.sent)
        (subst (Has P) (grown b bin living) (subst (λ (y : ProcessId). Has P (w.link y b)) is has))) where
          split : Has P (u.link p b) ⊎ Has P (sent_to b t.sent) → Has P (u.link a b) ⊎ ((a ≡ p) × Sends P b t.sent)
          split (inl left) = inl (subst (λ (y : ProcessId). Has P (u.link y b)) (sym is) left)
          split (inr sent) = inr (is, link-sends P b t.sent sent)

  sent-there : (P : Message → Type 0) (b : ProcessId) → IsProcess s b → v.dead b ≡ false → Sends P b t.sent → Has P (w.link p b)
  sent-there P b bin living sends = subst (Has P) (sym (grown b bin living)) (has-right P (u.link p b) (sent_to b t.sent) (sends-link P b t.sent sends))

  named : (i : ℕ) → ParityNode i ≡ p → (v.process p).name ≡ ParityNode i
  named i is = move.before.named p move.inside ∙ sym is

  named-data : (e : ℕ) → DataNode e ≡ p → (v.process p).name ≡ DataNode e
  named-data e is = move.before.named p move.inside ∙ sym is

  now-p : (q : ProcessId) → q ≡ p → w.process q ≡ t.process
  now-p q is = ap w.process is ∙ move.acts.process

  -- copies and sessions
  rows-fine : (q : ProcessId) → IsProcess s q → w.dead q ≡ false → RowFine s (w.process q)
  rows-fine q qin living = by (same-cases q p) where
    by : (q ≡ p) ⊎ (q ≢ p) → RowFine s (w.process q)
    by (inl is) = subst (RowFine s) (sym (now-p q is)) (move.fair.row.fine (λ l n d has. move.within l n d has) (old.rows p move.inside move.lives))
    by (inr other) = subst (RowFine s) (sym (other-same q qin other)) (old.rows q qin (lived q qin living))

  leaders-fine : (q : ProcessId) → IsProcess s q → w.dead q ≡ false → LeaderFine s (w.process q)
  leaders-fine q qin living = by (same-cases q p) where
    by : (q ≡ p) ⊎ (q ≢ p) → LeaderFine s (w.process q)
    by (inl is) = subst (LeaderFine s) (sym (now-p q is)) (move.fair.leader.fine (old.leaders p move.inside move.lives))
    by (inr other) = subst (LeaderFine s) (sym (other-same q qin other)) (old.leaders q qin (lived q qin living))

  -- close notices leave what is open
  module _ (l r n : ℕ) (lin : l < s.m) (rin : r < s.m) (l_lives : w.dead (ParityNode l) ≡ false)
      (r_lives : w.dead (ParityNode r) ≡ false) (fresh : Fresh (w.process (ParityNode l)) n) where
    fresh-v : Fresh (v.process (ParityNode l)) n
    fresh-v = by (same-cases (ParityNode l) p) where
      by : (ParityNode l ≡ p) ⊎ (ParityNode l ≢ p) → Fresh (v.process (ParityNode l)) n
      by (inl is) = subst (λ (y : ProcessId). Fresh (v.process y) n) (sym is)
          (move.fair.leader.fresh n (subst (λ (y : Process). Fresh y n) (now-p (ParityNode l) is) fresh))
      by (inr other) = subst (λ (y : Process). Fresh y n) (other-same (ParityNode l) lin other) fresh

    before : (at 0 (v.process (ParityNode r)).as_row.ceased l < n) × (l ≢ r → Each (Leaves n) (v.link (ParityNode l) (ParityNode r)))
    before = old.ceased l r n lin rin (lived (ParityNode l) lin l_lives) (lived (ParityNode r) rin r_lives) fresh-v

    came-leaves : ParityNode r ≡ p → x ≡ ParityNode l → (ms : List Message) → came ≡ ms → Each (Leaves n) ms
    came-leaves is from [] empty = tt
    came-leaves is from (m ∷ ms) some =
        let apart : l ≢ r = λ (same : l ≡ r). move.apart (λ empty. cc (sym some ∙ empty)) (from ∙ ap ParityNode same ∙ is) in
        subst (Each (Leaves n)) some ((each-parts (Leaves n) came (u.link x p) (subst (Each (Leaves n)) move.first
        (subst (λ (y : ProcessId). Each (Leaves n) (v.link x y)) is
        (subst (λ (y : ProcessId). Each (Leaves n) (v.link y (ParityNode r))) (sym from) (before.1 apart))))).0)

    ceased-w : at 0 (w.process (ParityNode r)).as_row.ceased l < n
    ceased-w = by (same-cases (ParityNode r) p) where
      by : (ParityNode r ≡ p) ⊎ (ParityNode r ≢ p) → at 0 (w.process (ParityNode r)).as_row.ceased l < n
      by (inl is) = subst (λ (y : Process). at 0 y.as_row.ceased l < n) (sym (now-p (ParityNode r) is))
          (move.fair.row.below l n r (named r is) (subst (λ (y : ProcessId). at 0 (v.process y).as_row.ceased l < n) is before.0)
          (λ same. subst (λ (y : Process). Fresh y n) (now-p (ParityNode l) (ap ParityNode same ∙ is)) fresh)
          (λ from. came-leaves is from came refl))
      by (inr other) = subst (λ (y : Process). at 0 y.as_row.ceased l < n) (sym (other-same (ParityNode r) rin other)) before.0

    leaves-u : l ≢ r → Each (Leaves n) (u.link (ParityNode l) (ParityNode r))
    leaves-u apart = by (same-cases (ParityNode l) x) (same-cases (ParityNode r) p) where
      by : (ParityNode l ≡ x) ⊎ (ParityNode l ≢ x) → (ParityNode r ≡ p) ⊎ (ParityNode r ≢ p) → Each (Leaves n) (u.link (ParityNode l) (ParityNode r))
      by (inr other) _ = subst (Each (Leaves n)) (sym (move.links (ParityNode l) (ParityNode r) lin rin (inl other))) (before.1 apart)
      by (inl is) (inr other) = subst (Each (Leaves n)) (sym (move.links (ParityNode l) (ParityNode r) lin rin (inr other))) (before.1 apart)
      by (inl is) (inl here) = subst (λ (y : ProcessId). Each (Leaves n) (u.link y (ParityNode r))) (sym is)
          (subst (λ (y : ProcessId). Each (Leaves n) (u.link x y)) (sym here)
          ((each-parts (Leaves n) came (u.link x p)
          (subst (Each (Leaves n)) move.first (subst (λ (y : ProcessId). Each (Leaves n) (v.link x y)) here
          (subst (λ (y : ProcessId). Each (Leaves n) (v.link y (ParityNode r))) is (before.1 apart))))).1))

    leaves-w : l ≢ r → Each (Leaves n) (w.link (ParityNode l) (ParityNode r))
    leaves-w apart = by (same-cases (ParityNode l) p) where
      by : (ParityNode l ≡ p) ⊎ (ParityNode l ≢ p) → Each (Leaves n) (w.link (ParityNode l) (ParityNode r))
      by (inr other) = subst (Each (Leaves n)) (sym (move.acts.links (ParityNode l) (ParityNode r) lin rin other)) (leaves-u apart)
      by (inl is) = subst (λ (y : ProcessId). Each (Leaves n) (w.link y (ParityNode r))) (sym is)
          (subst (Each (Leaves n)) (sym (grown (ParityNode r) rin (lived (ParityNode r) rin r_lives)))
          (each-append (Leaves n) (u.link p (ParityNode r)) (sent_to (ParityNode r) t.sent)
          (subst (λ (y : ProcessId). Each (Leaves n) (u.link y (ParityNode r))) is (leaves-u apart))
          (each-sent_to (λ to m. Leaves n m) (ParityNode r) t.sent
          (move.fair.sent.ceases l n (named l is) (subst (λ (y : Process). Fresh y n) (now-p (ParityNode l) is)
          fresh)))))

  -- rows that are waited for
  module _ (l n r d : ℕ) (lin : l < s.m) (rin : r < s.m) (low : d < s.k) (l_lives : w.dead (ParityNode l) ≡ false) (r_lives : w.dead (ParityNode r) ≡ false)
      (wants : WantsRow r (opened (w.process (ParityNode l)) n)) where
    l_lived : v.dead (ParityNode l) ≡ false
    l_lived = lived (ParityNode l) lin l_lives

    r_lived : v.dead (ParityNode r) ≡ false
    r_lived = lived (ParityNode r) rin r_lives

    is-fresh : Fresh (w.process (ParityNode l)) n
    is-fresh = inl (wanted-open r (opened (w.process (ParityNode l)) n) wants)

    finish : ParityNode r ≡ p → After s x came (v.process p) t l n r d → RowComes s w l n r d
    finish is (sides.Stays held) = Copied (subst (λ (y : Process). Marked d (marks_in y l n)) (sym (now-p (ParityNode r) is)) held)
    finish is (sides.Goes apart sends) =
        Given (λ same. apart (sym same)) (subst (λ (y : ProcessId). Has (IsRow l n) (w.link y (ParityNode l))) (sym is)
        (sent-there (IsRow l n) (ParityNode l) lin l_lived sends))
    finish is (sides.Unwanted same never) =
        absurd (never (subst (λ (y : Process). WantsRow r (opened y n)) (now-p (ParityNode l) (ap ParityNode same ∙ is))
        wants))
    finish is (sides.Unknown known) = absurd (cc (sym known ∙ knows-not (ParityNode l) lin l_lived))
    finish is (sides.Ceased under) = absurd
        (let over = subst (λ (y : Process). at 0 y.as_row.ceased l < n) (now-p (ParityNode r) is)
        (ceased-w l r n lin rin l_lives r_lives is-fresh) in omega (arith, over, under))

    carry : (x ≡ ParityNode r → ParityNode l ≡ p → Has (IsRow l n) came → ⊥) → RowComes s v l n r d → RowComes s w l n r d
    carry no_row (Asked living has) = by (stays (AsksForBlock l n r) (ParityNode l) (DataNode d) lin low living has) where
      by : ((ParityNode l ≡ x) × (DataNode d ≡ p) × Has (AsksForBlock l n r) came)
          ⊎ Has (AsksForBlock l n r) (w.link (ParityNode l) (DataNode d)) → RowComes s w l n r d
      by (inr left) = Asked (dead-same (DataNode d) low ∙ living) left
      by (inl (from, here, taken)) = Marking (DataNode d) low (λ same. cc same) (dead-same (DataNode d) low ∙ living) (inr refl)
          (subst (λ (y : ProcessId). Has (IsMark l n d) (w.link y (ParityNode r))) (sym here)
          (sent-there (IsMark l n d) (ParityNode r) rin r_lived
          (move.fair.sent.asked l n r d (named-data d here) taken)))
    carry no_row (Marking a ain apart living which has) = by (stays (IsMark l n d) a (ParityNode r) ain rin r_lived has) where
      by : ((a ≡ x) × (ParityNode r ≡ p) × Has (IsMark l n d) came) ⊎ Has (IsMark l n d) (w.link a (ParityNode r)) → RowComes s w l n r d
      by (inr left) = Marking a ain apart (dead-same a ain ∙ living) which left
      by (inl (from, here, taken)) = finish here (move.fair.row.took l n r d (named r here) low taken
          (move.accepted l n d r (sym here) lin l_lived (ap v.dead (sym from) ∙ living)
          (subst (λ (y : ProcessId). at 0 (v.process y).as_row.ceased l < n) here
          (before l r n lin rin l_lives r_lives is-fresh).0) taken))
    carry no_row (Copied held) = by (same-cases (ParityNode r) p) where
      by : (ParityNode r ≡ p) ⊎ (ParityNode r ≢ p) → RowComes s w l n r d
      by (inl here) = finish here (move.fair.row.kept l n r d (named r here) (subst (λ (y : ProcessId). Marked d (marks_in (v.process y) l n)) here held))
      by (inr other) = Copied (subst (λ (y : Process). Marked d (marks_in y l n)) (sym (other-same (ParityNode r) rin other)) held)
    carry no_row (Given apart has) = by (stays (IsRow l n) (ParityNode r) (ParityNode l) rin lin l_lived has) where
      by : ((ParityNode r ≡ x) × (ParityNode l ≡ p) × Has (IsRow l n) came) ⊎ Has (IsRow l n) (w.link (ParityNode r) (ParityNode l)) → RowComes s w l n r d
      by (inr left) = Given apart left
      by (inl (from, here, taken)) = absurd (no_row (sym from) here taken)

    rows-w : (knows_dead (w.process (ParityNode l)).known (DataNode d) ≡ true) ⊎ (w.dead (DataNode d) ≡ false) → RowComes s w l n r d
    rows-w may = by (same-cases (ParityNode l) p) where
      lives-v : w.dead (DataNode d) ≡ false → v.dead (DataNode d) ≡ false
      lives-v living = lived (DataNode d) low living

      old-rows : WantsRow r (opened (v.process (ParityNode l)) n)
          → (knows_dead (v.process (ParityNode l)).known (DataNode d) ≡ true) ⊎ (v.dead (DataNode d) ≡ false)
          → RowComes s v l n r d
      old-rows wanted may_v = old.waited.rows l n r d lin rin low l_lived r_lived wanted may_v

      may-v : (w.process (ParityNode l)).known ≡ (v.process (ParityNode l)).known
          → (knows_dead (w.process (ParityNode l)).known (DataNode d) ≡ true) ⊎ (w.dead (DataNode d) ≡ false)
          → (knows_dead (v.process (ParityNode l)).known (DataNode d) ≡ true) ⊎ (v.dead (DataNode d) ≡ false)
      may-v same (inl known) = inl (ap (λ k. knows_dead k (DataNode d)) (sym same) ∙ known)
      may-v same (inr living) = inr (lives-v living)

      new : ParityNode l ≡ p → NewRow s x came (v.process p) t l n r d
          → (knows_dead (w.process (ParityNode l)).known (DataNode d) ≡ true) ⊎ (w.dead (DataNode d) ≡ false)
          → RowComes s w l n r d
      new is (sides.Lost known other sends) may_w = Marking (ParityNode l) lin (λ same. other (sym (parity-one l r same))) l_lives (inl refl)
          (subst (λ (y : ProcessId). Has (IsMark l n d) (w.link y (ParityNode r))) (sym is) (sent-there (IsMark l n d) (ParityNode r) rin r_lived sends))
      new is (sides.Own same held) may_w =
          Copied (subst (λ (y : Process). Marked d (marks_in y l n))
          (sym (now-p (ParityNode r) (ap ParityNode same ∙ is))) held)
      new is (sides.Left unknown_d sends) (inl known) =
          absurd (cc (sym known ∙ ap (λ (y : Process). knows_dead y.known (DataNode d)) (now-p (ParityNode l) is)
          ∙ unknown_d))
      new is (sides.Left unknown_d sends) (inr living) =
          Asked living (subst (λ (y : ProcessId). Has (AsksForBlock l n r) (w.link y (DataNode d))) (sym is)
          (sent-there (AsksForBlock l n r) (DataNode d) low (lives-v living) sends))

      by : (ParityNode l ≡ p) ⊎ (ParityNode l ≢ p) → RowComes s w l n r d
      by (inr other) =
          carry (λ from is has. absurd (other is))
          (old-rows (subst (λ (y : Process). WantsRow r (opened y n)) (other-same (ParityNode l) lin other) wants)
          (may-v (ap (λ (y : Process). y.known) (other-same (ParityNode l) lin other)) may))
      by (inl is) = split (move.fair.leader.rows l n r (named l is) wants_t) where
        wants_t : WantsRow r (opened t.process n)
        wants_t = subst (λ (y : Process). WantsRow r (opened y n)) (now-p (ParityNode l) is) wants

        same_known : (w.process (ParityNode l)).known ≡ (v.process (ParityNode l)).known
        same_known = ap (λ (y : Process). y.known) (now-p (ParityNode l) is) ∙ move.fair.leader.known l n r (named l is)
            wants_t ∙ ap (λ (y : ProcessId). (v.process y).known) (sym is)

        split : (WantsRow r (opened (v.process p) n) × (x ≡ ParityNode r → Has (IsRow l n) came → ⊥))
            ⊎ ((e : ℕ) → e < s.k → NewRow s x came (v.process p) t l n r e) → RowComes s w l n r d
        split (inl (wanted, no_row)) = carry (λ from here has. no_row from has)
            (old-rows (subst (λ (y : ProcessId). WantsRow r (opened (v.process y) n)) (sym is) wanted)
            (may-v same_known may))
        split (inr fresh_rows) = new is (fresh_rows d low) may

  -- blocks that are waited for
  blocks-w : (l n d : ℕ) → l < s.m → d < s.k → w.dead (ParityNode l) ≡ false → w.dead (DataNode d) ≡ false
      → WantsBlock d (opened (w.process (ParityNode l)) n) → BlockComes w l n d
  blocks-w l n d lin low l_lives d_lives wants = by (same-cases (ParityNode l) p) where
    carry_block : (x ≡ DataNode d → ParityNode l ≡ p → Has (IsBlock l n) came → ⊥) → BlockComes v l n d → BlockComes w l n d
    carry_block no_block (inl has) = read_by (stays (IsRead l n) (ParityNode l) (DataNode d) lin low (lived (DataNode d) low d_lives) has) where
      read_by : ((ParityNode l ≡ x) × (DataNode d ≡ p) × Has (IsRead l n) came) ⊎ Has (IsRead l n) (w.link (ParityNode l) (DataNode d)) → BlockComes w l n d
      read_by (inr left) = inl left
      read_by (inl (from, here, taken)) = inr (subst (λ (y : ProcessId). Has (IsBlock l n) (w.link y (ParityNode l))) (sym here)
          (sent-there (IsBlock l n) (ParityNode l) lin (lived (ParityNode l) lin l_lives) (move.fair.sent.given l n d (named-data d here) taken)))
    carry_block no_block (inr has) = block_by (stays (IsBlock l n) (DataNode d) (ParityNode l) low lin (lived (ParityNode l) lin l_lives) has) where
      block_by : ((DataNode d ≡ x) × (ParityNode l ≡ p) × Has (IsBlock l n) came) ⊎ Has (IsBlock l n) (w.link (DataNode d) (ParityNode l)) → BlockComes w l n d
      block_by (inr left) = inr left
      block_by (inl (from, here, taken)) = absurd (no_block (sym from) here taken)

    old_blocks : WantsBlock d (opened (v.process (ParityNode l)) n) → BlockComes v l n d
    old_blocks wanted = old.waited.blocks l n d lin low (lived (ParityNode l) lin l_lives) (lived (DataNode d) low d_lives) wanted

    by : (ParityNode l ≡ p) ⊎ (ParityNode l ≢ p) → BlockComes w l n d
    by (inr other) = carry_block (λ from is has. absurd (other is))
        (old_blocks (subst (λ (y : Process). WantsBlock d (opened y n)) (other-same (ParityNode l) lin other) wants))
    by (inl is) =
        split (move.fair.leader.blocks l n d (named l is) low
        (subst (λ (y : Process). WantsBlock d (opened y n)) (now-p (ParityNode l) is) wants)) where
          split : (WantsBlock d (opened (v.process p) n) × (x ≡ DataNode d → Has (IsBlock l n) came → ⊥))
              ⊎ sides.NewBlock s x came (v.process p) t l n d → BlockComes w l n d
          split (inl (wanted, no_block)) = carry_block (λ from here has. no_block from has)
              (old_blocks (subst (λ (y : ProcessId). WantsBlock d (opened (v.process y) n)) (sym is) wanted))
          split (inr (inl known)) = absurd (cc (sym known ∙ knows-not (DataNode d) low (lived (DataNode d) low d_lives)))
          split (inr (inr sends)) =
              inl (subst (λ (y : ProcessId). Has (IsRead l n) (w.link y (DataNode d))) (sym is)
              (sent-there (IsRead l n) (DataNode d) low (lived (DataNode d) low d_lives) sends))

  waited-w : Waited s w
  waited-w = record { rows = λ l n r d lin rin low l_lives r_lives wants may. rows-w l n r d lin rin low l_lives r_lives wants may; blocks = blocks-w }

  -- what is under way for a row
  module _ (l n r : ℕ) (lin : l < s.m) (rin : r < s.m) (l_lives : w.dead (ParityNode l) ≡ false) (r_lives : w.dead (ParityNode r) ≡ false) where
    l_was : v.dead (ParityNode l) ≡ false
    l_was = lived (ParityNode l) lin l_lives

    r_was : v.dead (ParityNode r) ≡ false
    r_was = lived (ParityNode r) rin r_lives

    abbrev Goal : Type 0
    Goal = WantsRow r (opened (w.process (ParityNode l)) n) ⊎ Ended w l n r

    wants-now : ParityNode l ≡ p → WantsRow r (opened t.process n) → Goal
    wants-now is wants = inl (subst (λ (y : Process). WantsRow r (opened y n)) (sym (now-p (ParityNode l) is)) wants)

    wants-named : (v.process p).name ≡ ParityNode l → WantsRow r (opened t.process n) → Goal
    wants-named name wants = wants-now (sym name ∙ move.before.named p move.inside) wants

    -- what was waited for, or ceased, still is, unless the row isn't waited for any more
    goes-on : (ParityNode l ≡ p → NoMore s x came (v.process p) t l n r → Goal) → WantsRow r (opened (v.process (ParityNode l)) n) ⊎ Ended v l n r → Goal
    goes-on lost (inl wants) = by (same-cases (ParityNode l) p) where
      by : (ParityNode l ≡ p) ⊎ (ParityNode l ≢ p) → Goal
      by (inr other) = inl (subst (λ (y : Process). WantsRow r (opened y n)) (sym (other-same (ParityNode l) lin other)) wants)
      by (inl is) =
          split (move.fair.leader.left (old.leaders p move.inside move.lives) l n r (named l is)
          (subst (λ (y : ProcessId). WantsRow r (opened (v.process y) n)) is wants)) where
            split : WantsRow r (opened t.process n) ⊎ NoMore s x came (v.process p) t l n r → Goal
            split (inl still) = wants-now is still
            split (inr nothing_more) = lost is nothing_more
    goes-on lost (inr (inl low)) = by (same-cases (ParityNode r) p) where
      by : (ParityNode r ≡ p) ⊎ (ParityNode r ≢ p) → Goal
      by (inr other) = inr (inl (subst (λ (y : Process). n ≤ at 0 y.as_row.ceased l) (sym (other-same (ParityNode r) rin other)) low))
      by (inl is) = inr (inl (subst (λ (y : Process). n ≤ at 0 y.as_row.ceased l) (sym (now-p (ParityNode r) is))
          (let rises = move.fair.row.rises l in
          let under = subst (λ (y : ProcessId). n ≤ at 0 (v.process y).as_row.ceased l) is low in
          omega (arith, rises, under))))
    goes-on lost (inr (inr (apart, has))) = by (stays (IsCease n) (ParityNode l) (ParityNode r) lin rin r_was has) where
      by : ((ParityNode l ≡ x) × (ParityNode r ≡ p) × Has (IsCease n) came) ⊎ Has (IsCease n) (w.link (ParityNode l) (ParityNode r)) → Goal
      by (inr left) = inr (inr (apart, left))
      by (inl (from, here, taken)) =
          inr (inl (subst (λ (y : Process). n ≤ at 0 y.as_row.ceased l) (sym (now-p (ParityNode r) here))
          (move.fair.row.heard l n r (named r here) (sym from) taken)))

    -- partitions of marks
    mark-within : (a : ProcessId) (d : ℕ) → IsProcess s a → a ≢ ParityNode r → Has (IsMark l n d) (u.link a (ParityNode r)) → d < s.k
    mark-within a d ain apart has =
        within (v.link a (ParityNode r)) (move.before.may a (ParityNode r) ain rin apart r_was)
        (was-v (IsMark l n d) a (ParityNode r) ain rin has) where
          of : (m : Message) → MayStand s v a (ParityNode r) m → IsMark l n d m → d < s.k
          of (tells.Mark session rank block e number) may is = let low = may.0.1.partition in let same = is.1 in omega (arith, low, same)
          of (tells.Update _ _ _ _) may is = absurd is
          of (tells.Ack _ _ _) may is = absurd is
          of (tells.Stable _ _ _) may is = absurd is
          of (tells.Adopt _ _ _ _) may is = absurd is
          of (tells.ReadBlock _ _ _) may is = absurd is
          of (tells.Block _ _ _) may is = absurd is
          of (tells.Row _ _ _) may is = absurd is
          of (tells.Cease _) may is = absurd is
          of (tells.Notice _) may is = absurd is

          within : (ms : List Message) → Each (MayStand s v a (ParityNode r)) ms → Has (IsMark l n d) ms → d < s.k
          within [] all has = absurd has
          within (m ∷ ms) all (inl here) = of m all.0 here
          within (m ∷ ms) all (inr there) = within ms all.1 there

    u-lives : (q : ProcessId) → IsProcess s q → v.dead q ≡ false → u.dead q ≡ false
    u-lives q qin living = move.dead q qin ∙ living

    u-name : (u.process (ParityNode r)).name ≡ ParityNode r
    u-name = ap (λ (y : Process). y.name) (move.same (ParityNode r) rin) ∙ move.before.named (ParityNode r) rin

    -- where no token of the row is left nothing is, but what the session still waits for
    unless-none : ParityNode l ≡ p → ((d : ℕ) → d < s.k → tokens s u (token l n d (Row r)) ≤ 0) → ParityNode r ≢ p → Pending s w l n r → Goal
    unless-none is none other (CopyThere some) =
        absurd (by (marks_in (v.process (ParityNode r)) l n) refl
        (ap is_some (ap (λ (y : Process). marks_in y l n) (sym (other-same (ParityNode r) rin other)))
        ∙ some)) where
          by : (o : Option (List (Option ℕ))) → marks_in (v.process (ParityNode r)) l n ≡ o → is_some o ≡ true → ⊥
          by None there is_there = cc is_there
          by (Some marks) there is_there =
              let mark = (old.rows (ParityNode r) rin r_was l n marks there).some in
              no-copy s l n r u mark.0 (none mark.0 mark.1) rin (u-lives (ParityNode r) rin r_was) u-name
              (subst (λ (y : Process). Marked mark.0 (marks_in y l n)) (sym (move.same (ParityNode r) rin)) (subst (Marked mark.0) (sym there) mark.2))
    unless-none is none other (MarkThere a d ain apart has) = by (was-u (IsMark l n d) a (ParityNode r) ain rin r_was has) where
      by : Has (IsMark l n d) (u.link a (ParityNode r)) ⊎ ((a ≡ p) × Sends (IsMark l n d) (ParityNode r) t.sent) → Goal
      by (inl there) = absurd (no-mark s l n r u d (none d (mark-within a d ain apart there)) a ain rin apart (u-lives (ParityNode r) rin r_was) there)
      by (inr (from, sends)) = sent_by (move.fair.sent.marks l n r d sends) where
        sent_by : Has (AsksForBlock l n r) came ⊎ (((v.process p).name ≡ ParityNode l) × WantsRow r (opened t.process n)) → Goal
        sent_by (inl ask) = absurd (cc (is ∙ (move.reader l n r ask).1.1))
        sent_by (inr wants) = wants-now is wants.1
    unless-none is none other (AskThere e low living has) =
        by (was-u (AsksForBlock l n r) (ParityNode l) (DataNode e) lin low (lived (DataNode e) low living) has) where
          by : Has (AsksForBlock l n r) (u.link (ParityNode l) (DataNode e)) ⊎ ((ParityNode l ≡ p) × Sends (AsksForBlock l n r) (DataNode e) t.sent) → Goal
          by (inl there) = absurd (no-ask s l n r u e (none e low) lin low (u-lives (DataNode e) low (lived (DataNode e) low living)) there)
          by (inr (from, sends)) = wants-now is (move.fair.sent.asks l n r e low sends).1

    -- the leader's own row was finished: nothing is left of it
    unless-own : ParityNode l ≡ p → r ≡ l → marks_in t.process l n ≡ None → (d : ℕ) → Has (IsMark l n d) came
        → ((e : ℕ) → e < s.k → e ≢ d → Marked e (marks_in (v.process p) l n)) → Pending s w l n r → Goal
    unless-own is own gone d marked others pend = by pend where
      here : ParityNode r ≡ p
      here = ap ParityNode own ∙ is

      -- each partition has its mark, or had it
      none-there : (e : ℕ) → e < s.k → (P : Message → Type 0) (a b : ProcessId) → IsProcess s a → IsProcess s b → a ≢ b → u.dead b ≡ false
          → ((m : Message) → P m → is_token (token l n e (Row r)) a b m ≡ true) → Has P (u.link a b) → ⊥
      none-there e low P a b ain bin apart b_lives turn has = which (cases_eq e d) where
        which : (e ≡ d) ⊎ (e ≢ d) → ⊥
        which (inl same) = each-not P (λ m. is_token (token l n e (Row r)) a b m ≡ true) turn (u.link a b)
            (link-none s u (token l n e (Row r)) (move.spent (token l n e (Row r)) low
            (has-weaker (IsMark l n e) (λ m. is_token (token l n e (Row r)) x p m ≡ true)
            (λ m mark. subst (λ (y : ProcessId). is_token (token l n e (Row r)) x y m ≡ true) here
            (mark-token s l n r e x m mark)) came
            (subst (λ (i : ℕ). Has (IsMark l n i) came) (sym same) marked))) a b ain bin apart b_lives) has
        which (inr other) = each-not P (λ m. is_token (token l n e (Row r)) a b m ≡ true) turn (u.link a b)
            (link-off s u (token l n e (Row r)) (move.few (token l n e (Row r)) low) (ParityNode r) rin
            (u-lives (ParityNode r) rin r_was) held a b ain bin apart b_lives) has
          where
            held : 1 ≤ at_process (token l n e (Row r)) (u.process (ParityNode r))
            held =
                let there = marked-token s l n r u e u-name
                (subst (λ (y : Process). Marked e (marks_in y l n)) (sym (move.same (ParityNode r) rin))
                (subst (λ (y : ProcessId). Marked e (marks_in (v.process y) l n)) (sym here) (others e low other))) in
                let one : one_if (in_copy (token l n e (Row r)) (Row r) (u.process (ParityNode r))) ≡ 1 = ap one_if there in
                omega (arith, one)

      by : Pending s w l n r → Goal
      by (CopyThere some) = cc (sym (ap is_some (ap (λ (y : Process). marks_in y l n) (now-p (ParityNode r) here) ∙ gone)) ∙ some)
      by (MarkThere a e ain apart has) = mark_by (was-u (IsMark l n e) a (ParityNode r) ain rin r_was has) where
        mark_by : Has (IsMark l n e) (u.link a (ParityNode r)) ⊎ ((a ≡ p) × Sends (IsMark l n e) (ParityNode r) t.sent) → Goal
        mark_by (inl there) =
            absurd (none-there e (mark-within a e ain apart there) (IsMark l n e) a (ParityNode r) ain rin apart
            (u-lives (ParityNode r) rin r_was) (mark-token s l n r e a) there)
        mark_by (inr (from, sends)) = absurd (apart (from ∙ sym here))
      by (AskThere e low living has) = ask_by (was-u (AsksForBlock l n r) (ParityNode l) (DataNode e) lin low (lived (DataNode e) low living) has) where
        ask_by : Has (AsksForBlock l n r) (u.link (ParityNode l) (DataNode e)) ⊎ ((ParityNode l ≡ p) × Sends (AsksForBlock l n r) (DataNode e) t.sent) → Goal
        ask_by (inl there) =
            absurd (none-there e low (AsksForBlock l n r) (ParityNode l) (DataNode e) lin low (λ same. cc same)
            (u-lives (DataNode e) low (lived (DataNode e) low living)) (ask-token s l n r e (ParityNode l)) there)
        ask_by (inr (from, sends)) = wants-now is (move.fair.sent.asks l n r e low sends).1

    resolve : Pending s w l n r → ParityNode l ≡ p → NoMore s x came (v.process p) t l n r → Goal
    resolve pend is (sides.Came from has) = unless-none is
        (λ d low. move.spent (token l n d (Row r)) low
        (has-weaker (IsRow l n) (λ m. is_token (token l n d (Row r)) x p m ≡ true)
        (λ m row. subst (λ (y : ProcessId). is_token (token l n d (Row r)) y p m ≡ true) (sym from)
        (row-token s l n r d p m row)) came has))
        (λ here. move.apart (has-some (IsRow l n) came has) (from ∙ here)) pend
    resolve pend is (sides.Finished own gone d marked others) = unless-own is own gone d marked others pend
    resolve pend is (sides.Closed under sends) = by (cases_eq r l) where
      by : (r ≡ l) ⊎ (r ≢ l) → Goal
      by (inl same) = inr (inl (subst (λ (y : Process). n ≤ at 0 y.as_row.ceased l) (sym (now-p (ParityNode r) (ap ParityNode same ∙ is))) under))
      by (inr other) =
          inr (inr (
            (λ same. other (sym same)),
            subst (λ (y : ProcessId). Has (IsCease n) (w.link y (ParityNode r)))
                (sym is) (sent-there (IsCease n) (ParityNode r) rin r_was
                (sends r rin other (knows-not (ParityNode r) rin r_was))),
          ))

    was-pending : Pending s v l n r → Pending s w l n r → Goal
    was-pending before_it pend = goes-on (λ is. resolve pend is) (old.pends l n r lin rin l_was r_was before_it)

    came-v : (P : Message → Type 0) → Has P came → Has P (v.link x p)
    came-v P has = subst (Has P) (sym move.first) (has-left P came (u.link x p) has)

    pends-w : Pending s w l n r → Goal
    pends-w (CopyThere some) = by (same-cases (ParityNode r) p) where
      by : (ParityNode r ≡ p) ⊎ (ParityNode r ≢ p) → Goal
      by (inr other) =
          was-pending (CopyThere
          (ap is_some (ap (λ (y : Process). marks_in y l n) (sym (other-same (ParityNode r) rin other))) ∙ some))
          (CopyThere some)
      by (inl is) =
          split (move.fair.row.copies l n r (named r is)
          (ap is_some (ap (λ (y : Process). marks_in y l n) (sym (now-p (ParityNode r) is))) ∙ some)) where
            split : (is_some (marks_in (v.process p) l n) ≡ true) ⊎ ((d : ℕ) × Has (IsMark l n d) came) ⊎ ((r ≡ l) × WantsRow r (opened t.process n)) → Goal
            split (inl there) = was-pending (CopyThere (subst (λ (y : ProcessId). is_some (marks_in (v.process y) l n) ≡ true) (sym is) there)) (CopyThere some)
            split (inr (inl (d, has))) =
                was-pending
                (MarkThere x d move.from (λ same. move.apart (has-some (IsMark l n d) came has) (same ∙ is))
                (subst (λ (y : ProcessId). Has (IsMark l n d) (v.link x y)) (sym is) (came-v (IsMark l n d) has)))
                (CopyThere some)
            split (inr (inr (same, wants))) = wants-now (ap ParityNode (sym same) ∙ is) wants
    pends-w (MarkThere a d ain apart has) = by (was-u (IsMark l n d) a (ParityNode r) ain rin r_was has) where
      by : Has (IsMark l n d) (u.link a (ParityNode r)) ⊎ ((a ≡ p) × Sends (IsMark l n d) (ParityNode r) t.sent) → Goal
      by (inl there) = was-pending (MarkThere a d ain apart (was-v (IsMark l n d) a (ParityNode r) ain rin there)) (MarkThere a d ain apart has)
      by (inr (from, sends)) = sent_by (move.fair.sent.marks l n r d sends) where
        asked : (e : ℕ) → p ≡ DataNode e → x ≡ ParityNode l → Has (AsksForBlock l n r) came → Pending s v l n r
        asked e is leads ask = AskThere e (subst (IsProcess s) is move.inside) (ap v.dead (sym is) ∙ move.lives)
            (subst (λ (y : ProcessId). Has (AsksForBlock l n r) (v.link (ParityNode l) y)) is
            (subst (λ (y : ProcessId). Has (AsksForBlock l n r) (v.link y p)) leads
            (came-v (AsksForBlock l n r) ask)))

        sent_by : Has (AsksForBlock l n r) came ⊎ (((v.process p).name ≡ ParityNode l) × WantsRow r (opened t.process n)) → Goal
        sent_by (inl ask) = let reads = move.reader l n r ask in was-pending (asked reads.1.0 reads.1.1 reads.0 ask) (MarkThere a d ain apart has)
        sent_by (inr wants) = wants-named wants.0 wants.1
    pends-w (AskThere e low living has) = by (was-u (AsksForBlock l n r) (ParityNode l) (DataNode e) lin low (lived (DataNode e) low living) has) where
      by : Has (AsksForBlock l n r) (u.link (ParityNode l) (DataNode e)) ⊎ ((ParityNode l ≡ p) × Sends (AsksForBlock l n r) (DataNode e) t.sent) → Goal
      by (inl there) =
          was-pending (AskThere e low (lived (DataNode e) low living)
          (was-v (AsksForBlock l n r) (ParityNode l) (DataNode e) lin low there)) (AskThere e low living has)
      by (inr (from, sends)) = wants-now from (move.fair.sent.asks l n r e low sends).1

  pub moved : Ending s w
  moved = record {
    waited = waited-w;
    rows = rows-fine;
    leaders = leaders-fine;
    ceased = λ l r n lin rin l_lives r_lives fresh. (ceased-w l r n lin rin l_lives r_lives fresh, leaves-w l r n lin rin l_lives r_lives fresh);
    pends = λ l n r lin rin l_lives r_lives pend. pends-w l n r lin rin l_lives r_lives pend;
  }
