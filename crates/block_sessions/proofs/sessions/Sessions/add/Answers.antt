use Rattle.std.proofs.Common.{◌≡◌, ◌<◌, ℕ, List, [], ◌∷◌, Option, length, map, ap, sym, subst, ◌∙◌, arith}
use Rattle.group_types.specs.Lists.{at, put}
use Rattle.group_run.specs.Applying.{rebuilt_after}
use Rattle.block_sessions.specs.Leading.{Leading}
use Rattle.block_sessions.specs.Opened.{gathering_of}
use Rattle.block_sessions.specs.Rebuilt.{HoldsBlocks, rebuilt_in}
use Rattle.block_sessions.proofs.Rooms.{one_changed, one_of_all, rebuilt_set}
use Rattle.block_sessions.proofs.sessions.Sessions.add.Goals as goal

pub invariant_of-self : goal.invariant_of-self
invariant_of-self c =
    let k : c.self.inside.shape.k ≡ c.args.self.now.shape.k = ap (λ (l : Leading). l.shape.k) c.self.view_is in
    let pages = c.self.inside.rebuilt.items in
    let below : c.args.d.0 < length pages = omega (arith, k, c.requires.partition, c.self.invariant.rebuilt.all) in
    let most = length c.self.inside.sessions.items in
    record {
      opened = c.self.invariant.opened;
      rebuilt = rebuilt_set pages c.args.d.0 c.add.new.pages below c.self.inside.shape most c.self.invariant.rebuilt
          (c.add.ensures.holds most (subst (HoldsBlocks c.self.inside.shape most) (sym c.index_mut.ensures.value)
          (c.self.invariant.rebuilt.each c.args.d.0 c.index_mut.result.now below)));
    }

pub returns-clause-state : goal.returns-clause-state
returns-clause-state c =
    let k : c.self.inside.shape.k ≡ c.args.self.now.shape.k = ap (λ (l : Leading). l.shape.k) c.self.view_is in
    let pages = c.self.inside.rebuilt.items in
    let shape = c.self.inside.shape in
    let d = c.args.d.0 in
    let us = c.args.update.now ∷ [] in
    let below : d < length pages = omega (arith, k, c.requires.partition, c.self.invariant.rebuilt.all) in
    let own = one_of_all pages d c.index_mut.result.now below c.index_mut.ensures.value in
    ap (λ (blocks : List (List (Option (List ℕ)))). record {
      sessions = map gathering_of c.self.inside.sessions.items;
      last_session = c.self.inside.last;
      rebuilt = blocks;
    })
    (one_changed pages d c.add.new.pages below ∙ ap (put [] (map rebuilt_in pages) d) (c.add.ensures.blocks ∙ ap (rebuilt_after shape d us 0) (sym own)))
    ∙ ap (λ (l : Leading). record l.state { rebuilt = put [] l.state.rebuilt d (rebuilt_after l.shape d us 0 (at [] l.state.rebuilt d)) }) c.self.view_is
