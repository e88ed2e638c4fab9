use Rattle.std.proofs.Common.{◌↔◌, Option, Contains, IfSome, IsTrue, sym, subst, ◌∙◌}
use Rattle.group_run.specs.Process.{Gathering}
use Rattle.block_sessions.proofs.Coming.{open_is}
use Rattle.block_sessions.proofs.sessions.Sessions.asks_row.Goals as goal

pub returns-in-Some : goal.returns-in-Some
returns-in-Some c =
    let opened = c.in-Some.ensures.found ∙ open_is c.self.view_is c.self.invariant c.in-Some.ensures.within c.index.ensures in
    subst (λ (o : Option Gathering). IsTrue c.is_for.result ↔ IfSome o (λ g. Contains g.rows c.args.i)) (sym opened) c.is_for.ensures
