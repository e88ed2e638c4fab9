use Rattle.std.proofs.Common.{map, set, ap, sym, subst, ◌∙◌}
use Rattle.block_sessions.specs.Rebuilt.{AreRebuilt, rebuilt_in}
use Rattle.block_sessions.proofs.Rooms.{rebuilt_all, rebuilt_to, roomy_more, same_blocks_to, set_same}
use Rattle.block_sessions.proofs.sessions.start.make_room.Goals as goal

pub returns-in_err-make_room-clause-blocks : goal.returns-in_err-make_room-clause-blocks
returns-in_err-make_room-clause-blocks c =
    ap (map rebuilt_in) (set_same c.pages.rebuilt c.pages.pages-index c.pages-item.result c.make_room.new.self c.in_err-make_room.ensures.err)
    ∙ (ap (map rebuilt_in) c.pages.invariant ∙ same_blocks_to c.args.count c.pages.pages-index c.args.rebuilt.now)

pub returns-in_err-make_room-clause-kept : goal.returns-in_err-make_room-clause-kept
returns-in_err-make_room-clause-kept c = λ s most is.
    let same = set_same c.pages.rebuilt c.pages.pages-index c.pages-item.result c.make_room.new.self c.in_err-make_room.ensures.err ∙ c.pages.invariant in
    subst (AreRebuilt s most) (sym same) (rebuilt_to c.args.count c.pages.pages-index c.args.rebuilt.now s most is)

pub pages-preserved : goal.pages-preserved
pages-preserved c =
    ap (set c.pages.rebuilt c.pages.pages-index) c.in_ok-make_room.ensures.ok
    ∙ roomy_more c.args.count c.pages.pages-index c.args.rebuilt.now c.pages.rebuilt c.pages-item.result c.pages-test.true c.pages.invariant

pub returns-clause-blocks : goal.returns-clause-blocks
returns-clause-blocks c = ap (map rebuilt_in) c.pages.invariant ∙ same_blocks_to c.args.count c.pages.pages-index c.args.rebuilt.now

pub returns-clause-kept : goal.returns-clause-kept
returns-clause-kept c = λ s most is. subst (AreRebuilt s most) (sym c.pages.invariant)
    (rebuilt_to c.args.count c.pages.pages-index c.args.rebuilt.now s most is)

pub returns-clause-room : goal.returns-clause-room
returns-clause-room c = λ s most le is. subst (AreRebuilt s most) (sym c.pages.invariant)
    (rebuilt_all c.args.count c.pages.pages-index c.args.rebuilt.now s most c.pages-test.false le is)
