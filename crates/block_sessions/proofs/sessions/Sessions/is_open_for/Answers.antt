use Rattle.std.proofs.Common.{◌==◌, List, ap, ◌∙◌}
use Rattle.std.specs.List.{list_any}
use Rattle.block_sessions.specs.declared.session.OpenSession.{OpenSession}
use Rattle.block_sessions.specs.Leading.{Leading}
use Rattle.block_sessions.proofs.Rooms.{any_open}
use Rattle.block_sessions.proofs.sessions.Sessions.is_open_for.Goals as goal

pub returns : goal.returns
returns c =
    c.is_open_for.ensures
    ∙ (ap (λ (gs : List OpenSession). list_any (λ g. g.block == c.args.block) gs) c.deref.ensures.value
    ∙ (any_open c.args.block c.self.inside.sessions.items ∙ ap (λ (l : Leading). list_any (λ g. g.block == c.args.block) l.state.sessions) c.self.view_is))
