-- At the start nothing is asked for, and no copy is there.
use Rattle.std.proofs.Common.{◌≡◌, ℕ, ◌<◌, true, replicate, is_some, ◌⊎◌, inl, inr, sym, ap, subst, ◌∙◌, arith}
use Rattle.group_types.specs.Dimensions.{Dimensions}
use Rattle.group_types.specs.Lists.{at}
use Rattle.group_types.specs.Names.{IsProcess}
use Rattle.group_types.specs.declared.process.ProcessId.{ProcessId}
use Rattle.group_types.specs.declared.process.ProcessId.TheVariants.{DataNode, ParityNode}
use Rattle.group_types.proofs.Lists.{at-replicate}
use Rattle.group_types.specs.Each.{Each}
use Rattle.group_message.specs.declared.message.Message.{Message}
use Rattle.group_run.specs.Process.{Process, opening_process}
use Rattle.law_moves.specs.State.{State}
use Rattle.law_moves.proofs.State.{Opens}
use Rattle.law_progress.proofs.Waiting.{Has, AsksForBlock, IsMark, WantsBlock, WantsRow, marks_in}
use Rattle.law_progress.proofs.Holding.{AskThere, CopyThere, Ending, MarkThere, Pending}
use Rattle.law_progress.proofs.Sides.{Fresh, LeaderFine, Leaves, RowFine, opened}

module _ (s : Dimensions) (v : State) (starts : Opens s v) where
  began-rows : (p : ProcessId) → IsProcess s p → RowFine s (v.process p)
  began-rows p pin = subst (RowFine s) (sym (starts.process p pin)) (λ l n marks is. cc is)

  began-leaders : (p : ProcessId) → IsProcess s p → LeaderFine s (v.process p)
  began-leaders p pin = subst (LeaderFine s) (sym (starts.process p pin)) (λ n g is. cc is)

  no-link : (P : Message → Type 0) (a b : ProcessId) → IsProcess s a → IsProcess s b → Has P (v.link a b) → ⊥
  no-link P a b ain bin has = subst (Has P) (starts.links a b ain bin) has

  pub began : Ending s v
  began = record {
    waited = record {
      rows = λ l n r d lin rin low l_lives r_lives wants may.
          absurd (subst (λ (y : Process). WantsRow r (opened y n)) (starts.process (ParityNode l) lin) wants);
      blocks = λ l n d lin low l_lives d_lives wants. absurd (subst (λ (y : Process). WantsBlock d (opened y n)) (starts.process (ParityNode l) lin) wants);
    };
    rows = λ p pin lives. began-rows p pin;
    leaders = λ p pin lives. began-leaders p pin;
    ceased = λ l r n lin rin l_lives r_lives fresh. (
      subst (λ (y : Process). at 0 y.as_row.ceased l < n) (sym (starts.process (ParityNode r) rin))
          (zero-below l n (subst (λ (y : Process). Fresh y n) (starts.process (ParityNode l) lin) fresh)),
      λ apart. subst (Each (Leaves n)) (sym (starts.links (ParityNode l) (ParityNode r) lin rin)) tt,
    );
    pends = λ l n r lin rin l_lives r_lives pend. absurd (nothing_pends l n r lin rin pend);
  } where
    zero-below : (l n : ℕ) → (is_some (opened (opening_process s (ParityNode l)) n) ≡ true) ⊎ (0 < n) → at 0 (replicate s.m 0) l < n
    zero-below l n (inl some) = cc some
    zero-below l n (inr some) = let zero_there = at-replicate {X = ℕ} 0 s.m l in omega (arith, some, zero_there)

    nothing_pends : (l n r : ℕ) → l < s.m → r < s.m → Pending s v l n r → ⊥
    nothing_pends l n r lin rin (CopyThere some) = cc (sym (ap (λ (y : Process). is_some (marks_in y l n)) (starts.process (ParityNode r) rin)) ∙ some)
    nothing_pends l n r lin rin (MarkThere a d ain apart has) = no-link (IsMark l n d) a (ParityNode r) ain rin has
    nothing_pends l n r lin rin (AskThere e low lives has) = no-link (AsksForBlock l n r) (ParityNode l) (DataNode e) lin low has
