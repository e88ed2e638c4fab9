use Rattle.std.proofs.Common.{◌<◌, ℕ, List, Option, IfSome, Contains, refl, ap, sym, subst, ◌∙◌, arith}
use Rattle.group_run.specs.Leaders.{block_gathered}
use Rattle.group_run.specs.Process.{Gathering}
use Rattle.block_sessions.specs.Leading.{Leading}
use Rattle.block_sessions.specs.Opened.{gathering_of}
use Rattle.block_sessions.proofs.Coming.{gathered_more, open_is, parts_more, sound_there}
use Rattle.block_sessions.proofs.Lost.{known_in}
use Rattle.block_sessions.proofs.sessions.Sessions.block.Goals as goal

pub block-requires-clause-awaited : goal.block-requires-clause-awaited
block-requires-clause-awaited c =
    let opened = c.in-Some.ensures.found ∙ open_is c.self.view_is c.self.invariant c.in-Some.ensures.within c.index_mut.ensures.value in
    let s = c.self.inside.shape in
    let below : c.args.d < s.k = omega (arith, c.requires.partition, ap (λ (l : Leading). l.shape.k) c.self.view_is) in
    let apart = subst (λ (o : Option Gathering). IfSome o (λ g. ¬ (Contains g.lost c.args.d))) opened c.requires.known in
    let sound = sound_there c.self.view_is c.self.invariant c.in-Some.ensures.within c.index_mut.ensures.value in
    subst (λ (ns : List ℕ). Contains ns c.args.d) (sym sound.known) (known_in s.k c.index_mut.result.now.lost.items c.args.d below apart)

pub invariant_of-self : goal.invariant_of-self
invariant_of-self c = parts_more c.self.view_is c.self.invariant c.in-Some.ensures.within c.index_mut.ensures.value
    c.block.new.self c.block.ensures.gathering refl c.block.ensures.sound

pub returns-in-Some-clause-state : goal.returns-in-Some-clause-state
returns-in-Some-clause-state c =
    let l = c.args.self.now in
    let opened = c.in-Some.ensures.found ∙ open_is c.self.view_is c.self.invariant c.in-Some.ensures.within c.index_mut.ensures.value in
    c.gather.ensures.state (gathering_of c.index_mut.result.now)
    ∙ (gathered_more c.self.view_is c.self.invariant c.in-Some.ensures.within c.index_mut.ensures.value c.block.new.self c.block.ensures.gathering refl
    ∙ sym (ap (λ (o : Option Gathering). block_gathered l.shape c.args.d c.args.bytes.now o l.state) opened))
