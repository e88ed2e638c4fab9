use Rattle.std.proofs.Common.{◌≡◌, ℕ, List, Option, None, is_some, find, not, ap, sym, ◌∙◌, arith}
use Rattle.group_types.specs.Lists.{at}
use Rattle.group_run.specs.Leaders.{blocks_met, missing_block}
use Rattle.block_sessions.specs.Leading.{Leading}
use Rattle.block_sessions.proofs.Rooms.{one_of_all}
use Rattle.block_sessions.proofs.sessions.Sessions.missing.Goals as goal

pub returns-clause-block : goal.returns-clause-block
returns-clause-block c =
    let k : c.self.inside.shape.k ≡ c.args.self.now.shape.k = ap (λ (l : Leading). l.shape.k) c.self.view_is in
    let own = one_of_all c.self.inside.rebuilt.items c.args.d.0 c.index.result.now
    (omega (arith, k, c.requires.partition, c.self.invariant.rebuilt.all)) c.index.ensures in
    c.missing.ensures.block
    ∙ (ap (λ (blocks : List (Option (List ℕ))). find (λ b. not (is_some (at None blocks b))) (blocks_met c.self.inside.shape c.args.run)) (sym own)
    ∙ ap (λ (l : Leading). missing_block l.shape c.args.d.0 c.args.run l.state) c.self.view_is)
