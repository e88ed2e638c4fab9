use Rattle.std.proofs.Common.{◌∙◌, ◌∷◌, ◌++◌, [], ap, sym}
use Rattle.group_message.specs.declared.message.Message.{Message}
use Rattle.wire_codec.specs.Parts.{update_before, text_before}
use Rattle.wire_codec.proofs.Puts.{joins_two}
use Rattle.wire_codec.proofs.put_message.put_text_before.Goals as goal

pub returns-in_ok-put_update_before-in-Update : goal.returns-in_ok-put_update_before-in-Update
returns-in_ok-put_update_before-in-Update c =
    joins_two c.args.out.now.items c.put_heading.new.out.items c.put_update_before.new.out.items
    (1 ∷ c.in-Update.rank.0 ∷ c.in-Update.partition.0 ∷ []) (update_before c.in-Update.update)
    c.in_ok-put_heading-in-Update.ensures c.in_ok-put_update_before-in-Update.ensures
    ∙ ap (λ (m : Message). c.args.out.now.items ++ text_before m) (sym c.in-Update.is)
