use Rattle.std.proofs.Common.{◌≡◌, true, is_some, None, subst, sym, ap, ◌∙◌}
use Rattle.std.specs.List.{list_all}
use Rattle.group_types.specs.Lists.{at}
use Rattle.group_run.specs.Leaders.{columns_from}
use Rattle.block_sessions.specs.Awaited.{Awaited}
use Rattle.block_sessions.proofs.Walks.{all_columns}
use Rattle.block_sessions.proofs.arrivals.Arrivals.pieces.Goals as goal

pub returns-clause-columns : goal.returns-clause-columns
returns-clause-columns c =
    let complete = subst (λ (a : Awaited). list_all (λ n. is_some (at None a.parts n)) a.numbers ≡ true) (sym c.self.view_is) c.requires in
    all_columns c.self.inside.pieces c.self.inside.came.items c.self.inside.block c.self.invariant complete
    ∙ ap (λ (a : Awaited). columns_from 0 a.parts) c.self.view_is
