use Rattle.std.proofs.Common.{ℕ, ◌==◌, ◌↔◌, List, Option, not, Contains, IfSome, IsTrue, sym, subst, ap, ◌∙◌}
use Rattle.std.specs.List.{list_any}
use Rattle.group_run.specs.Process.{Gathering}
use Rattle.block_sessions.proofs.Asking.{is_not_among}
use Rattle.block_sessions.proofs.Coming.{open_is}
use Rattle.block_sessions.proofs.sessions.Sessions.asks_block.Goals as goal

pub returns-in-Some : goal.returns-in-Some
returns-in-Some c =
    let opened = c.in-Some.ensures.found ∙ open_is c.self.view_is c.self.invariant c.in-Some.ensures.within c.index.ensures in
    subst (λ (o : Option Gathering). IsTrue (not c.contains.result) ↔ IfSome o (λ g. ¬ (Contains g.lost c.args.d))) (sym opened)
    (is_not_among c.contains.result c.index.result.now.lost.items c.args.d
    (c.contains.ensures.value ∙ ap (λ (ns : List ℕ). list_any (λ l. l == c.args.d) ns) c.deref.ensures.value))
