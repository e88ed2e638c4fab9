use Rattle.std.proofs.Common.{◌≡◌, ◌+◌, ◌≤◌, List, [], ◌∷◌, ◌++◌, length, take, drop, map, ap, ap₂, sym, subst, ◌∙◌, arith}
use Rattle.std.proofs.lemmas.List.{with_items_is}
use Rattle.page_map.specs.Pages.{PageContents}
use Rattle.block_sessions.specs.declared.session.OpenSession.{OpenSession}
use Rattle.block_sessions.specs.Leading.{AreParts, Leading, leader_state_of, started}
use Rattle.block_sessions.specs.Opened.{blank_session, gathering_of}
use Rattle.block_sessions.specs.Rebuilt.{AreRebuilt, rebuilt_in}
use Rattle.block_sessions.proofs.Opening.{parts_with, state_with}
use Rattle.block_sessions.proofs.Rooms.{any_rooms}
use Rattle.block_sessions.proofs.sessions.Sessions.start.Goals as goal

pub invariant_of-self : goal.invariant_of-self
invariant_of-self c =
    let s = c.self.inside.shape in
    let most = length c.self.inside.sessions.items in
    let whole : length c.make_room.new.rebuilt ≡ c.self.inside.rebuilt.len = omega (arith, c.make_room.auto.rebuilt, c.deref_mut.ensures.len) in
    record {
      opened = c.self.invariant.opened;
      rebuilt = subst (AreRebuilt s most) (sym (with_items_is c.self.inside.rebuilt c.make_room.new.rebuilt whole))
          (c.in_err-make_room.ensures.kept s most (subst (AreRebuilt s most) (sym c.deref_mut.ensures.value) c.self.invariant.rebuilt));
    }

pub invariant_of-self-in_err-push : goal.invariant_of-self-in_err-push
invariant_of-self-in_err-push c =
    let s = c.self.inside.shape in
    let most = length c.self.inside.sessions.items in
    let whole : length c.make_room.new.rebuilt ≡ c.self.inside.rebuilt.len = omega (arith, c.make_room.auto.rebuilt, c.deref_mut.ensures.len) in
    let same : c.push.new.self.items ≡ c.self.inside.sessions.items = c.in_err-push.ensures.items in
    subst (λ (gs : List OpenSession). AreParts s gs c.self.inside.last
    (take c.self.inside.rebuilt.len (c.make_room.new.rebuilt ++ drop (length c.make_room.new.rebuilt)
    c.self.inside.rebuilt.items))) (sym same)
    (record {
      opened = c.self.invariant.opened;
      rebuilt = subst (AreRebuilt s most) (sym (with_items_is c.self.inside.rebuilt c.make_room.new.rebuilt whole))
          (c.in_ok-make_room.ensures.kept s most (subst (AreRebuilt s most) (sym c.deref_mut.ensures.value) c.self.invariant.rebuilt));
    })

pub invariant_of-self-2 : goal.invariant_of-self-2
invariant_of-self-2 c =
    let s = c.self.inside.shape in
    let sessions = c.self.inside.sessions.items in
    let g = c.in_ok-session.session in
    let whole : length c.make_room.new.rebuilt ≡ c.self.inside.rebuilt.len = omega (arith, c.make_room.auto.rebuilt, c.deref_mut.ensures.len) in
    let pushed : c.push.new.self.items ≡ sessions ++ g ∷ [] = c.in_ok-push.ensures.items in
    let none : AreRebuilt s 0 c.deref_mut.result.now = subst (AreRebuilt s 0) (sym c.deref_mut.ensures.value)
    (any_rooms s (length sessions) 0 c.self.inside.rebuilt.items (omega arith) c.self.invariant.rebuilt) in
    let enough : length sessions + 1 ≤ c.len.result + 1 = omega (arith, c.len.ensures) in
    let last = c.self.inside.last in
    let is : gathering_of g ≡ blank_session s (last + 1) c.args.block c.args.lost.items c.args.rows.items =
    c.in_ok-session.ensures.gathering ∙ ap (blank_session s (last + 1) c.args.block c.args.lost.items)
    c.deref.ensures.value in
    subst (λ (gs : List OpenSession). AreParts s gs (last + 1)
    (take c.self.inside.rebuilt.len (c.make_room.new.rebuilt ++ drop (length c.make_room.new.rebuilt)
    c.self.inside.rebuilt.items))) (sym pushed)
    (subst (λ (ps : List PageContents). AreParts s (sessions ++ g ∷ []) (last + 1) ps) (sym (with_items_is c.self.inside.rebuilt c.make_room.new.rebuilt whole))
    (parts_with s last sessions c.self.inside.rebuilt.items c.make_room.new.rebuilt g c.args.block c.args.lost.items
    c.args.rows.items is c.self.invariant c.in_ok-session.ensures.sound
    (c.in_ok-make_room.ensures.room s (length sessions + 1) enough none)))

pub returns-clause-state : goal.returns-clause-state
returns-clause-state c =
    let s = c.self.inside.shape in
    let sessions = c.self.inside.sessions.items in
    let g = c.in_ok-session.session in
    let last = c.self.inside.last in
    let whole : length c.make_room.new.rebuilt ≡ c.self.inside.rebuilt.len = omega (arith, c.make_room.auto.rebuilt, c.deref_mut.ensures.len) in
    let pushed : c.push.new.self.items ≡ sessions ++ g ∷ [] = c.in_ok-push.ensures.items in
    let is : gathering_of g ≡ blank_session s (last + 1) c.args.block c.args.lost.items c.args.rows.items =
    c.in_ok-session.ensures.gathering ∙ ap (blank_session s (last + 1) c.args.block c.args.lost.items)
    c.deref.ensures.value in
    let same : map rebuilt_in c.make_room.new.rebuilt ≡ map rebuilt_in c.self.inside.rebuilt.items =
    c.in_ok-make_room.ensures.blocks ∙ ap (map rebuilt_in) c.deref_mut.ensures.value in
    ap₂ (λ (gs : List OpenSession) (ps : List PageContents). leader_state_of gs (last + 1) ps) pushed
    (with_items_is c.self.inside.rebuilt c.make_room.new.rebuilt whole)
    ∙ (state_with s last sessions c.self.inside.rebuilt.items c.make_room.new.rebuilt g c.args.block c.args.lost.items c.args.rows.items is same
    ∙ ap (λ (l : Leading). started l.shape c.args.block c.args.lost.items c.args.rows.items l.state) c.self.view_is)
