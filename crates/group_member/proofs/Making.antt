-- What a member's node made, in the words of its calls.
use Rattle.std.proofs.Common.{◌≡◌, false, [], ◌∷◌, sym, ap, subst, ◌∙◌}
use Rattle.group_types.specs.Dimensions.{Dimensions}
use Rattle.group_types.specs.declared.process.ProcessId.{ProcessId}
use Rattle.membership.specs.Members.{with_dead}
use Rattle.group_message.specs.declared.message.Message.{Message}
use Rattle.group_message.specs.declared.message.Message.TheVariants as tells
use Rattle.group_run.specs.Process.{Node}
use Rattle.group_run.specs.Receiving.{receive}
use Rattle.group_run.specs.World.{NodeStep, flush_node, flush_process, node_after, receive_node}
use Rattle.law_moves.specs.Known.{is_notice}
use Rattle.group_wire.specs.Actions.{Flush, Receive, Take}
use Rattle.group_member.specs.Acting.{Acts, ActsWhere, MessageComes}
use Rattle.group_member.specs.Standing.{Member, OwnWords}
use Rattle.group_member.specs.Whole.{IsWholeMember}
use Rattle.group_member.specs.Words.{AreWords, CanReadFrom, CanTakeDeath}
use Rattle.group_member.proofs.Delivered.{flush-acts, flush-is, flush-whole, receive-acts, receive-whole, take-acts, take-whole-too}
use Rattle.group_member.proofs.Wholes.{at-shape, own-shape}

module _ (v : Member) (s : Dimensions) (whole : IsWholeMember s v.words v.signs v.node) (from : ProcessId) (m : Message)
    (t : NodeStep) (step : receive_node s from m v.node ≡ t) where
  own : IsWholeMember v.words.shape v.words v.signs v.node
  own = own-shape s v.words v.signs v.node whole

  made-node : (receive_node v.words.shape from m v.node).node ≡ t.node
  made-node = ap (λ (d : Dimensions). (receive_node d from m v.node).node) (sym whole.shape_is) ∙ ap (λ (u : NodeStep). u.node) step

  pub made-settled : t.settled ≡ (receive v.words.shape from m v.node.process).settled
  made-settled = ap (λ (u : NodeStep). u.settled) (sym step) ∙ ap (λ (d : Dimensions). (receive d from m v.node.process).settled) whole.shape_is

  pub made-receives : CanReadFrom v.words from → is_notice m ≡ false
      → ActsWhere (MessageComes from v.words.name m) (Receive from v.words.name ∷ []) (λ out. out) v (record v { node = t.node })
  made-receives can plain =
      subst (λ (n : Node). ActsWhere (MessageComes from v.words.name m) (Receive from v.words.name ∷ []) (λ out. out) v (record v { node = n })) made-node
      (receive-acts v from m can plain whole.words own)

  pub made-whole : is_notice m ≡ false → (new : Dimensions) → new ≡ s → IsWholeMember new v.words v.signs t.node
  made-whole plain new same =
      subst (IsWholeMember new v.words v.signs) made-node (at-shape s new v.words v.signs _ same whole.shape_is (receive-whole v from m plain own))

-- the same where a death is taken
module _ (v : Member) (s : Dimensions) (whole : IsWholeMember s v.words v.signs v.node) (x : ProcessId) (t : NodeStep)
    (step : receive_node s x (tells.Notice x) v.node ≡ t)
    (w : OwnWords) (taken : w ≡ record v.words { taken = with_dead v.words.taken x }) (words : AreWords w) where
  own-too : IsWholeMember v.words.shape v.words v.signs v.node
  own-too = own-shape s v.words v.signs v.node whole

  told-node : (receive_node v.words.shape x (tells.Notice x) v.node).node ≡ t.node
  told-node = ap (λ (d : Dimensions). (receive_node d x (tells.Notice x) v.node).node) (sym whole.shape_is) ∙ ap (λ (u : NodeStep). u.node) step

  pub made-takes : CanTakeDeath v.words x → Acts (Take x v.words.name ∷ []) v (record v { words = w; node = t.node })
  made-takes can =
      subst (λ (u : OwnWords). Acts (Take x v.words.name ∷ []) v (record v { words = u; node = t.node })) (sym taken)
      (subst (λ (n : Node). Acts (Take x v.words.name ∷ []) v (record v { words = record v.words { taken = with_dead v.words.taken x }; node = n })) told-node
      (take-acts v x can whole.words (subst AreWords taken words) own-too))

  pub made-whole-too : (new : Dimensions) → new ≡ s → IsWholeMember new w v.signs t.node
  made-whole-too new same =
      subst (λ (u : OwnWords). IsWholeMember new u v.signs t.node) (sym taken)
      (subst (IsWholeMember new (record v.words { taken = with_dead v.words.taken x }) v.signs) told-node
      (at-shape s new (record v.words { taken = with_dead v.words.taken x }) v.signs _ same whole.shape_is
      (take-whole-too v x (subst AreWords taken words) own-too)))

-- and where the process tells how far it has settled
module _ (v : Member) (s : Dimensions) (whole : IsWholeMember s v.words v.signs v.node) (t : NodeStep) (step : flush_node s v.node ≡ t) where
  own-flush : IsWholeMember v.words.shape v.words v.signs v.node
  own-flush = own-shape s v.words v.signs v.node whole

  flushed-node : (flush_node v.words.shape v.node).node ≡ t.node
  flushed-node = ap (λ (d : Dimensions). (flush_node d v.node).node) (sym whole.shape_is) ∙ ap (λ (u : NodeStep). u.node) step

  then-node : node_after v.words.shape (flush_process v.words.shape v.node.process).step v.node ≡ t.node
  then-node = sym (ap (λ (u : NodeStep). u.node) (flush-is v own-flush)) ∙ flushed-node

  pub made-flushes : Acts (Flush v.words.name ∷ []) v (record v { node = t.node })
  made-flushes = subst (λ (n : Node). Acts (Flush v.words.name ∷ []) v (record v { node = n })) then-node (flush-acts v own-flush)

  pub flushes-whole : (new : Dimensions) → new ≡ s → IsWholeMember new v.words v.signs t.node
  flushes-whole new same = subst (IsWholeMember new v.words v.signs) then-node (at-shape s new v.words v.signs _ same whole.shape_is (flush-whole v own-flush))
