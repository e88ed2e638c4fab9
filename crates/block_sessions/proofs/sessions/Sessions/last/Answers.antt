use Rattle.std.proofs.Common.{length, subst, ◌≡◌, ◌∙◌}
use Rattle.std.proofs.lemmas.List.{length-map}
use Rattle.block_sessions.specs.Leading.{Leading}
use Rattle.block_sessions.specs.Rebuilt.{rebuilt_in}
use Rattle.block_sessions.proofs.sessions.Sessions.last.Goals as goal

pub returns-clause-partitions : goal.returns-clause-partitions
returns-clause-partitions c = subst (λ (l : Leading). length l.state.rebuilt ≡ l.shape.k) c.self.view_is
    (length-map c.self.inside.rebuilt.items rebuilt_in ∙ c.self.invariant.rebuilt.all)
