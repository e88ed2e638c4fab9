use Rattle.std.proofs.Common.{◌-◌, List, length, ap, sym, ◌∙◌}
use Rattle.std.specs.List.{slice_get}
use Rattle.std.specs.Option.{option_copied}
use Rattle.group_message.specs.declared.update.Update.{Update}
use Rattle.process_service.proofs.Followed.{last-none, last-number}
use Rattle.process_service.proofs.acks.reach.Goals as goal

pub returns-in-None : goal.returns-in-None
returns-in-None c = last-none c.args.base c.args.list.now
    (ap (λ (us : List Update). slice_get us (length us - 1)) (sym c.updates.ensures) ∙ sym c.last.ensures.value ∙ ap option_copied c.in-None.is)

pub returns-in-Some : goal.returns-in-Some
returns-in-Some c = last-number c.args.base c.args.list.now c.in-Some.update.now c.requires
    (ap (λ (us : List Update). slice_get us (length us - 1)) (sym c.updates.ensures) ∙ sym c.last.ensures.value ∙ ap option_copied c.in-Some.is)
