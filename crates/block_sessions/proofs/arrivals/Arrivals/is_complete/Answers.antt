use Rattle.std.proofs.Common.{Bool, false, List, None, is_some, get_or, ap, ap₂, ◌∙◌}
use Rattle.std.specs.List.{list_all}
use Rattle.group_types.specs.Lists.{at}
use Rattle.group_types.specs.declared.piece_list.Piece.{Piece}
use Rattle.block_sessions.specs.Awaited.{Awaited}
use Rattle.block_sessions.proofs.Arrived.{all_came}
use Rattle.block_sessions.proofs.arrivals.Arrivals.is_complete.Goals as goal

pub returns : goal.returns
returns c =
    c.all_came.ensures
    ∙ (ap₂ (λ (came : List Bool) (ps : List Piece). list_all (λ p. get_or came p.number false) ps) c.deref.ensures.value c.pieces.ensures
    ∙ (all_came c.self.inside.pieces c.self.inside.came.items c.self.inside.pieces c.self.invariant.below
    ∙ ap (λ (a : Awaited). list_all (λ n. is_some (at None a.parts n)) a.numbers) c.self.view_is))
