use Rattle.std.proofs.Common.{◌≡◌, Bool, false, List, replicate, ap₂, subst, sym, ◌∙◌}
use Rattle.group_types.specs.Pieces.{zero_pieces}
use Rattle.group_types.specs.declared.piece_list.Piece.{Piece}
use Rattle.block_sessions.specs.Awaited.{AreAwaited, awaited_in}
use Rattle.block_sessions.proofs.Arrived.{awaited_at_first, view_at_first}
use Rattle.block_sessions.proofs.arrivals.Arrivals.new.Goals as goal

pub invariant_of-result : goal.invariant_of-result
invariant_of-result c =
    let nothing : c.in_ok-vec.field-0.items ≡ replicate c.args.count false = c.in_ok-vec.ensures.items_if_clones_equal (λ y same. same) in
    subst (λ (ps : List Piece). AreAwaited ps c.in_ok-vec.field-0.items c.args.block) (sym c.in_ok-new.ensures)
    (subst (λ (came : List Bool). AreAwaited (zero_pieces c.args.block c.args.numbers.now) came c.args.block) (sym nothing)
    (awaited_at_first c.args.block c.args.count c.args.numbers.now c.requires.rising c.requires.below))

pub returns : goal.returns
returns c =
    let nothing : c.in_ok-vec.field-0.items ≡ replicate c.args.count false = c.in_ok-vec.ensures.items_if_clones_equal (λ y same. same) in
    ap₂ (λ (ps : List Piece) (came : List Bool). awaited_in ps came c.args.block) c.in_ok-new.ensures nothing
    ∙ view_at_first c.args.block c.args.count c.args.numbers.now
