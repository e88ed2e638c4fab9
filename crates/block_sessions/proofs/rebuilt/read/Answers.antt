use Rattle.std.proofs.Common.{◌≡◌, List, ℕ, IfOk, subst}
use Rattle.block_sessions.proofs.Blocks.{run_rebuilt}
use Rattle.block_sessions.proofs.rebuilt.read.Goals as goal

pub returns-clause-bytes : goal.returns-clause-bytes
returns-clause-bytes c = subst (λ (x : List ℕ). IfOk c.range.result (λ bytes. bytes ≡ x))
    (run_rebuilt c.args.shape c.args.pages.now c.args.run c.requires.holds c.requires.within) c.range.ensures.bytes
