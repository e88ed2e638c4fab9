use Rattle.std.proofs.Common.{◌≡◌, ◌<◌, ◌+◌, List, None, is_some, get_or, set, length, ap, sym, subst, ◌∙◌, arith}
use Rattle.std.proofs.lemmas.List.{get_or_default}
use Rattle.group_types.specs.Lists.{at}
use Rattle.group_types.specs.Pieces.{bytes_of}
use Rattle.group_types.specs.declared.piece_list.Piece.{Piece}
use Rattle.page_map.specs.Pages.{PageContents}
use Rattle.block_sessions.specs.declared.session.OpenSession.{OpenSession}
use Rattle.block_sessions.specs.Opened.{gathering_of}
use Rattle.block_sessions.specs.Rebuilt.{HoldsBlocks, kept_unless, rebuilt_in}
use Rattle.block_sessions.proofs.Keeping.{AreKept, kept_more, next_lost, next_out}
use Rattle.block_sessions.proofs.sessions.gathering.keep_all.Goals as goal

pub take-requires : goal.take-requires
take-requires c =
    let next = next_lost c.pieces.at c.index-l.result.now c.decode.ensures.same (omega (arith, c.pieces-test.true, c.len-at-end.ensures)) c.index-l.ensures in
    next_out c.args.session.lost.items c.pieces.out c.pieces.at c.index-l.result.now c.pieces.invariant.numbers next.0 next.1

pub keep-requires-clause-holds : goal.keep-requires-clause-holds
keep-requires-clause-holds c =
    let next = next_lost c.pieces.at c.index-l.result.now c.decode.ensures.same (omega (arith, c.pieces-test.true, c.len-at-end.ensures)) c.index-l.ensures in
    subst (λ i. HoldsBlocks c.args.shape 1 (get_or c.pieces.rebuilt i c.index-rebuilt-l.result)) (sym next.1)
    (c.pieces.invariant.left 1 c.requires.rebuilt c.pieces.at c.index-rebuilt-l.result (omega arith) next.0)

pub keep-requires-clause-whole : goal.keep-requires-clause-whole
keep-requires-clause-whole c =
    let next = next_lost c.pieces.at c.index-l.result.now c.decode.ensures.same (omega (arith, c.pieces-test.true, c.len-at-end.ensures)) c.index-l.ensures in
    ap length c.take.ensures.bytes ∙ (ap (λ i. length (bytes_of c.pieces.out i)) next.1 ∙ c.pieces.invariant.long c.pieces.at (omega arith) next.0)

pub pieces-preserved : goal.pieces-preserved
pieces-preserved c =
    let g = gathering_of c.args.session in
    let l = c.index-l.result.now in
    let next = next_lost c.pieces.at c.index-l.result.now c.decode.ensures.same (omega (arith, c.pieces-test.true, c.len-at-end.ensures)) c.index-l.ensures in
    let below : l < length c.pieces.rebuilt = omega (
      arith,
      next.1,
      c.requires.sound.lost.below c.pieces.at 0 next.0,
      (c.pieces.invariant.all 1 c.requires.rebuilt).all,
    ) in
    let old : PageContents = get_or c.pieces.rebuilt l c.index-rebuilt-l.result in
    let kept = subst (λ b. rebuilt_in c.keep.new.pages ≡ kept_unless (is_some (at None (rebuilt_in old) b)) b c.take.result (rebuilt_in old))
    (ap (λ (x : OpenSession). x.block) c.decode.ensures.same) c.keep.ensures.kept in
    subst (λ (out : List Piece). AreKept c.args.shape g c.args.rebuilt.now (set c.pieces.rebuilt l c.keep.new.pages) out
    (c.pieces.at + 1)) (sym c.take.ensures.others)
    (kept_more c.args.shape g c.args.rebuilt.now c.pieces.rebuilt c.pieces.out c.pieces.at l old c.keep.new.pages
    c.take.result c.requires.sound.lost.rising next.0 next.1 c.pieces.invariant below
    (sym (get_or_default c.pieces.rebuilt l old c.index-rebuilt-l.result below)) c.take.ensures.bytes kept c.keep.ensures.holds)
