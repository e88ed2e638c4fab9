use Rattle.std.proofs.Common.{◌≡◌, ℕ, List, Option, IfOk, map, ap, sym, subst, ◌∙◌, arith}
use Rattle.std.specs.List.{range_with_len}
use Rattle.group_run.specs.Leaders.{rebuilt_bytes}
use Rattle.block_sessions.specs.Leading.{Leading}
use Rattle.block_sessions.specs.Rebuilt.{byte_in_blocks}
use Rattle.block_sessions.proofs.Rooms.{one_of_all}
use Rattle.block_sessions.proofs.sessions.Sessions.read.Goals as goal

pub returns-clause-bytes : goal.returns-clause-bytes
returns-clause-bytes c =
    let k : c.self.inside.shape.k ≡ c.args.self.now.shape.k = ap (λ (l : Leading). l.shape.k) c.self.view_is in
    let own = one_of_all c.self.inside.rebuilt.items c.args.d.0 c.index.result.now
    (omega (arith, k, c.requires.partition, c.self.invariant.rebuilt.all)) c.index.ensures in
    let block = c.self.inside.shape.block in
    subst (λ (x : List ℕ). IfOk c.read.result (λ bytes. bytes ≡ x))
    (ap (λ (blocks : List (Option (List ℕ))). map (byte_in_blocks block blocks) (range_with_len c.args.run.at c.args.run.len)) (sym own)
    ∙ ap (λ (l : Leading). rebuilt_bytes l.shape c.args.d.0 c.args.run l.state) c.self.view_is)
    c.read.ensures.bytes
