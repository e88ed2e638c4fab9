use Rattle.std.proofs.Common.{Option, IfSome, Contains, refl, ap, sym, subst, ◌∙◌}
use Rattle.group_run.specs.Leaders.{row_gathered}
use Rattle.group_run.specs.Process.{Gathering}
use Rattle.block_sessions.specs.Opened.{gathering_of}
use Rattle.block_sessions.proofs.Coming.{gathered_more, open_is, parts_more}
use Rattle.block_sessions.proofs.sessions.Sessions.row.Goals as goal

pub row-requires-clause-awaited : goal.row-requires-clause-awaited
row-requires-clause-awaited c =
    let opened = c.in-Some.ensures.found ∙ open_is c.self.view_is c.self.invariant c.in-Some.ensures.within c.index_mut.ensures.value in
    subst (λ (o : Option Gathering). IfSome o (λ g. Contains g.rows c.args.i)) opened c.requires.awaited

pub invariant_of-self : goal.invariant_of-self
invariant_of-self c = parts_more c.self.view_is c.self.invariant c.in-Some.ensures.within c.index_mut.ensures.value
    c.row.new.self c.row.ensures.gathering refl c.row.ensures.sound

pub returns-in-Some-clause-state : goal.returns-in-Some-clause-state
returns-in-Some-clause-state c =
    let l = c.args.self.now in
    let opened = c.in-Some.ensures.found ∙ open_is c.self.view_is c.self.invariant c.in-Some.ensures.within c.index_mut.ensures.value in
    c.gather.ensures.state (gathering_of c.index_mut.result.now)
    ∙ (gathered_more c.self.view_is c.self.invariant c.in-Some.ensures.within c.index_mut.ensures.value c.row.new.self c.row.ensures.gathering refl
    ∙ sym (ap (λ (o : Option Gathering). row_gathered l.shape c.args.i c.args.bytes.now o l.state) opened))
