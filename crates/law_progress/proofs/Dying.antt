-- A death leaves what is held of those that live.
use Rattle.std.proofs.Common.{◌≡◌, ◌≢◌, ℕ, ◌<◌, ◌≤◌, true, false, [], ◌∷◌, take, is_some, ◌⊎◌, inl, inr, sym, ap, subst, ◌∙◌}
use Rattle.group_types.specs.Dimensions.{Dimensions}
use Rattle.group_types.specs.Lists.{at}
use Rattle.group_types.specs.Names.{IsProcess}
use Rattle.group_types.specs.declared.process.ProcessId.{ProcessId}
use Rattle.group_types.specs.declared.process.ProcessId.TheVariants.{DataNode, ParityNode}
use Rattle.group_types.proofs.Names.{same-cases}
use Rattle.group_types.specs.Each.{Each}
use Rattle.membership.specs.Members.{knows_dead}
use Rattle.group_message.specs.declared.message.Message.TheVariants as tells
use Rattle.group_run.specs.Process.{Process}
use Rattle.law_moves.proofs.Moves.{Died}
use Rattle.law_moves.specs.State.{State}
use Rattle.law_progress.proofs.Waiting.{Asked, BlockComes, Copied, Given, Has, AsksForBlock, IsBlock, IsMark, IsRead}
use Rattle.law_progress.proofs.Waiting.{IsRow, Marked, Marking, RowComes, WantsBlock, WantsRow, marks_in}
use Rattle.law_progress.proofs.Holding.{AskThere, CopyThere, Ended, Ending, MarkThere, Pending}
use Rattle.law_progress.proofs.Sides.{Fresh, IsCease, LeaderFine, Leaves, RowFine, opened}
use Rattle.law_progress.proofs.Views.{has-either, has-take}

module _ (s : Dimensions) (v w : State) (p : ProcessId) (keep : ℕ) (pin : IsProcess s p) (dies : Died s v w p keep) (old : Ending s v) where
  not-p : (q : ProcessId) → w.dead q ≡ false → q ≢ p
  not-p q living same = cc (sym living ∙ ap w.dead same ∙ dies.dead)

  lived : (q : ProcessId) → IsProcess s q → w.dead q ≡ false → v.dead q ≡ false
  lived q qin living = sym (dies.others q qin (not-p q living)) ∙ living

  lives-on : (q : ProcessId) → IsProcess s q → q ≢ p → v.dead q ≡ false → w.dead q ≡ false
  lives-on q qin other living = dies.others q qin other ∙ living

  process-is : (q : ProcessId) → IsProcess s q → w.process q ≡ v.process q
  process-is q qin = dies.processes q qin

  link-is : (a b : ProcessId) → IsProcess s a → IsProcess s b → a ≢ p → w.link a b ≡ v.link a b
  link-is a b ain bin other = dies.links a b ain bin other

  was-there : (l n d : ℕ) (a b : ProcessId) → IsProcess s a → IsProcess s b → Has (IsMark l n d) (w.link a b) → Has (IsMark l n d) (v.link a b)
  was-there l n d a b ain bin has = by (same-cases a p) where
    by : (a ≡ p) ⊎ (a ≢ p) → Has (IsMark l n d) (v.link a b)
    by (inr other) = subst (Has (IsMark l n d)) (link-is a b ain bin other) has
    by (inl same) = subst (λ (y : ProcessId). Has (IsMark l n d) (v.link y b)) (sym same)
        (cut (has-either (IsMark l n d) (take keep (v.link p b)) (tells.Notice p ∷ [])
        (subst (Has (IsMark l n d)) (dies.cut b bin) (subst (λ (y : ProcessId). Has (IsMark l n d) (w.link y b)) same
        has))))
      where
        cut : Has (IsMark l n d) (take keep (v.link p b)) ⊎ (⊥ ⊎ ⊥) → Has (IsMark l n d) (v.link p b)
        cut (inl front) = has-take (IsMark l n d) keep (v.link p b) front
        cut (inr (inl none)) = absurd none
        cut (inr (inr none)) = absurd none

  died-rows : (l n r d : ℕ) → l < s.m → r < s.m → d < s.k → w.dead (ParityNode l) ≡ false
      → w.dead (ParityNode r) ≡ false → WantsRow r (opened (w.process (ParityNode l)) n)
      → (knows_dead (w.process (ParityNode l)).known (DataNode d) ≡ true) ⊎ (w.dead (DataNode d) ≡ false)
      → (knows_dead (v.process (ParityNode l)).known (DataNode d) ≡ true → v.dead (DataNode d) ≡ true) → RowComes s w l n r d
  died-rows l n r d lin rin low l_lives r_lives wants may known_dead =
      on
      (old.waited.rows l n r d lin rin low (lived (ParityNode l) lin l_lives) (lived (ParityNode r) rin r_lives)
      (subst (λ (y : Process). WantsRow r (opened y n)) (process-is (ParityNode l) lin) wants) (may_v may)) where
        may_v : (knows_dead (w.process (ParityNode l)).known (DataNode d) ≡ true) ⊎ (w.dead (DataNode d) ≡ false)
            → (knows_dead (v.process (ParityNode l)).known (DataNode d) ≡ true) ⊎ (v.dead (DataNode d) ≡ false)
        may_v (inl known) = inl (ap (λ (y : Process). knows_dead y.known (DataNode d)) (sym (process-is (ParityNode l) lin)) ∙ known)
        may_v (inr living) = inr (lived (DataNode d) low living)

        data_on : (knows_dead (w.process (ParityNode l)).known (DataNode d) ≡ true) ⊎ (w.dead (DataNode d) ≡ false)
            → v.dead (DataNode d) ≡ false → w.dead (DataNode d) ≡ false
        data_on (inr living) lives = living
        data_on (inl known) lives =
            absurd (cc (sym lives
            ∙ known_dead (ap (λ (y : Process). knows_dead y.known (DataNode d)) (sym (process-is (ParityNode l) lin))
            ∙ known)))

        on : RowComes s v l n r d → RowComes s w l n r d
        on (Asked living has) =
            Asked (data_on may living)
            (subst (Has (AsksForBlock l n r))
            (sym (link-is (ParityNode l) (DataNode d) lin low (not-p (ParityNode l) l_lives))) has)
        on (Copied held) = Copied (subst (λ (y : Process). Marked d (marks_in y l n)) (sym (process-is (ParityNode r) rin)) held)
        on (Given apart has) = Given apart (subst (Has (IsRow l n)) (sym (link-is (ParityNode r) (ParityNode l) rin lin (not-p (ParityNode r) r_lives))) has)
        on (Marking x xin apart living which has) = Marking x xin apart (source which) which
            (subst (Has (IsMark l n d)) (sym (link-is x (ParityNode r) xin rin (not-p x (source which)))) has) where
              source : (x ≡ ParityNode l) ⊎ (x ≡ DataNode d) → w.dead x ≡ false
              source (inl is) = ap w.dead is ∙ l_lives
              source (inr is) = ap w.dead is ∙ data_on may (ap v.dead (sym is) ∙ living)

  died-pending : (l n r : ℕ) → l < s.m → r < s.m → Pending s w l n r → Pending s v l n r
  died-pending l n r lin rin (CopyThere some) = CopyThere (ap (λ (y : Process). is_some (marks_in y l n)) (sym (process-is (ParityNode r) rin)) ∙ some)
  died-pending l n r lin rin (MarkThere a d ain apart has) = MarkThere a d ain apart (was-there l n d a (ParityNode r) ain rin has)
  died-pending l n r lin rin (AskThere e low living has) = by (same-cases (ParityNode l) p) where
    by : (ParityNode l ≡ p) ⊎ (ParityNode l ≢ p) → Pending s v l n r
    by (inr other) = AskThere e low (lived (DataNode e) low living) (subst (Has (AsksForBlock l n r)) (link-is (ParityNode l) (DataNode e) lin low other) has)
    by (inl same) = AskThere e low (lived (DataNode e) low living) (subst (λ (y : ProcessId). Has (AsksForBlock l n r) (v.link y (DataNode e))) (sym same)
        (cut (has-either (AsksForBlock l n r) (take keep (v.link p (DataNode e))) (tells.Notice p ∷ [])
        (subst (Has (AsksForBlock l n r)) (dies.cut (DataNode e) low)
        (subst (λ (y : ProcessId). Has (AsksForBlock l n r) (w.link y (DataNode e))) same has)))))
      where
        cut : Has (AsksForBlock l n r) (take keep (v.link p (DataNode e))) ⊎ (⊥ ⊎ ⊥) → Has (AsksForBlock l n r) (v.link p (DataNode e))
        cut (inl front) = has-take (AsksForBlock l n r) keep (v.link p (DataNode e)) front
        cut (inr (inl none)) = absurd none
        cut (inr (inr none)) = absurd none

  pub died : ((l d : ℕ) → l < s.m → d < s.k → v.dead (ParityNode l) ≡ false
      → knows_dead (v.process (ParityNode l)).known (DataNode d) ≡ true → v.dead (DataNode d) ≡ true) → Ending s w
  died known_dead = record {
    waited = record {
      rows = λ l n r d lin rin low l_lives r_lives wants may. died-rows l n r d lin rin low l_lives r_lives wants may
          (known_dead l d lin low (lived (ParityNode l) lin l_lives));
      blocks = λ l n d lin low l_lives d_lives wants. blocks l n d lin low l_lives d_lives
          (old.waited.blocks l n d lin low (lived (ParityNode l) lin l_lives) (lived (DataNode d) low d_lives)
          (subst (λ (y : Process). WantsBlock d (opened y n)) (process-is (ParityNode l) lin) wants));
    };
    rows = λ q qin living. subst (RowFine s) (sym (process-is q qin)) (old.rows q qin (lived q qin living));
    leaders = λ q qin living. subst (LeaderFine s) (sym (process-is q qin)) (old.leaders q qin (lived q qin living));
    ceased = λ l r n lin rin l_lives r_lives fresh.
        let before = old.ceased l r n lin rin (lived (ParityNode l) lin l_lives) (lived (ParityNode r) rin r_lives)
        (subst (λ (y : Process). Fresh y n) (process-is (ParityNode l) lin) fresh) in (
          subst (λ (y : Process). at 0 y.as_row.ceased l < n) (sym (process-is (ParityNode r) rin)) before.0,
          λ apart. subst (Each (Leaves n)) (sym (link-is (ParityNode l) (ParityNode r) lin rin (not-p (ParityNode l) l_lives))) (before.1 apart),
        );
    pends =
        λ l n r lin rin l_lives r_lives pend. on l n r lin rin l_lives
        (old.pends l n r lin rin (lived (ParityNode l) lin l_lives) (lived (ParityNode r) rin r_lives) (died-pending l n r lin rin pend));
  } where
    blocks : (l n d : ℕ) → l < s.m → d < s.k → w.dead (ParityNode l) ≡ false → w.dead (DataNode d) ≡ false → BlockComes v l n d → BlockComes w l n d
    blocks l n d lin low l_lives d_lives (inl has) =
        inl (subst (Has (IsRead l n)) (sym (link-is (ParityNode l) (DataNode d) lin low (not-p (ParityNode l) l_lives)))
        has)
    blocks l n d lin low l_lives d_lives (inr has) =
        inr (subst (Has (IsBlock l n)) (sym (link-is (DataNode d) (ParityNode l) low lin (not-p (DataNode d) d_lives)))
        has)

    on : (l n r : ℕ) → l < s.m → r < s.m → w.dead (ParityNode l) ≡ false → WantsRow r (opened (v.process (ParityNode l)) n) ⊎ Ended v l n r
        → WantsRow r (opened (w.process (ParityNode l)) n) ⊎ Ended w l n r
    on l n r lin rin l_lives (inl wants) = inl (subst (λ (y : Process). WantsRow r (opened y n)) (sym (process-is (ParityNode l) lin)) wants)
    on l n r lin rin l_lives (inr (inl low)) = inr (inl (subst (λ (y : Process). n ≤ at 0 y.as_row.ceased l) (sym (process-is (ParityNode r) rin)) low))
    on l n r lin rin l_lives (inr (inr (apart, has))) =
        inr (inr (
          apart,
          subst (Has (IsCease n)) (sym (link-is (ParityNode l) (ParityNode r) lin rin (not-p (ParityNode l) l_lives)))
              has,
        ))
