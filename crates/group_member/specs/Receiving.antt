-- What became of a message that came to a member.
use Rattle.std.specs.Prelude.{◌≡◌, ◌⊎◌, true, [], ◌∷◌}
use Rattle.group_types.specs.declared.process.ProcessId.{ProcessId}
use Rattle.membership.specs.Members.{knows_dead}
use Rattle.group_message.specs.declared.message.Message.{Message}
use Rattle.group_run.specs.Receiving.{receive}
use Rattle.law_moves.specs.Known.{is_notice}
use Rattle.group_node.specs.Delivering.{Comes}
use Rattle.group_wire.specs.Actions.{Receive}
use Rattle.group_member.specs.Acting.{ActsWhere, MessageComes}
use Rattle.group_member.specs.Standing.{Member}
use Rattle.group_member.specs.declared.receiving.Received.{Received}
use Rattle.group_member.specs.declared.receiving.Received.TheVariants.{Made, Unread, Misfit}

-- it was received, as it stood in front on its wire; or its sender is cut, or it is a misfit, and nothing happened
abbrev pub HasReceived : ProcessId → Message → Member → Member → Received → Type 0
HasReceived from m before after (Made settled) =
    ActsWhere (MessageComes from before.words.name m) (Receive from before.words.name ∷ []) (λ out. out) before after
    × (settled.items ≡ (receive before.words.shape from m before.node.process).settled)
HasReceived from m before after Unread = (knows_dead before.words.cut from ≡ true) × (after ≡ before)
HasReceived from m before after Misfit =
    ((is_notice m ≡ true) ⊎ ¬ (Comes before.words.shape from m before.node.process)) × (after ≡ before)
