use Rattle.std.proofs.Common.{◌∙◌, List, is_some, ap}
use Rattle.group_run.specs.Process.{Copy}
use Rattle.group_run.specs.Rows.{copy_in}
use Rattle.row_copies.proofs.Marked.{found_is}
use Rattle.row_copies.proofs.rows.Rows.has.Goals as goal

pub returns : goal.returns
returns c =
    rw (← c.self.view_is)
    (c.is_some.ensures
    ∙ (found_is c.args.leader c.args.number c.deref.result.now c.place_of.result c.place_of.ensures.some c.place_of.ensures.none
    ∙ ap (λ (cs : List Copy). is_some (copy_in cs c.args.leader c.args.number)) c.deref.ensures.value))
