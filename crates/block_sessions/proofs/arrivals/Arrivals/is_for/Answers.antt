use Rattle.std.proofs.Common.{◌==◌, List, ap, ◌∙◌}
use Rattle.std.specs.List.{list_any}
use Rattle.group_types.specs.declared.piece_list.Piece.{Piece}
use Rattle.block_sessions.specs.Awaited.{Awaited}
use Rattle.block_sessions.proofs.Asking.{has_number, is_among}
use Rattle.block_sessions.proofs.arrivals.Arrivals.is_for.Goals as goal

pub returns : goal.returns
returns c = is_among c.has_number.result c.args.self.now.numbers c.args.number
    (c.has_number.ensures ∙ ap (λ (ps : List Piece). list_any (λ (p : Piece). p.number == c.args.number) ps) c.pieces.ensures
    ∙ has_number c.self.inside.pieces c.args.number ∙ ap (λ (a : Awaited). list_any (λ l. l == c.args.number) a.numbers) c.self.view_is)
