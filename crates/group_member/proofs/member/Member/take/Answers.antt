use Rattle.std.proofs.Common.{[], ◌∷◌, sym, ap, subst}
use Rattle.group_run.specs.World.{NodeStep}
use Rattle.group_node.specs.Steps.{made}
use Rattle.group_wire.specs.Actions.{Take}
use Rattle.group_member.specs.Acting.{Acts}
use Rattle.group_member.specs.Standing.{Member, OwnWords}
use Rattle.group_member.specs.Words.{CanTakeDeath}
use Rattle.group_member.proofs.Making.{made-takes, made-whole-too}
use Rattle.group_member.proofs.Wholes.{rest-whole}
use Rattle.group_member.proofs.member.Member.take.Goals as goal

pub invariant_of-self-2 : goal.invariant_of-self-2
invariant_of-self-2 c =
    let n = c.self.inside in
    let v : Member = record { words = n.words; signs = n.signs; callers = n.callers; parked = n.parked.items; node = n.node.node } in
    let t : NodeStep = made c.learn_death.new.self.node c.in_ok-out.out in
    rest-whole c.self.invariant (ap (λ (w : OwnWords). w.shape) c.take.ensures.taken) (ap (λ (w : OwnWords). w.name) c.take.ensures.taken)
    (made-whole-too v n.node.shape c.self.invariant.member c.args.x t c.in_ok-out.ensures.step c.take.new.self c.take.ensures.taken c.take.ensures.words
    c.learn_death.new.self.shape c.in_ok-out.ensures.shape)

pub returns-clause-acts : goal.returns-clause-acts
returns-clause-acts c =
    let n = c.self.inside in
    let v : Member = record { words = n.words; signs = n.signs; callers = n.callers; parked = n.parked.items; node = n.node.node } in
    let t : NodeStep = made c.learn_death.new.self.node c.in_ok-out.out in
    let can = subst (λ (old : Member). CanTakeDeath old.words c.args.x) (sym c.self.view_is) c.requires.may in
    subst (λ (old : Member). Acts (Take c.args.x old.words.name ∷ []) old
    (record v { words = c.take.new.self; node = c.learn_death.new.self.node })) c.self.view_is
    (made-takes v n.node.shape c.self.invariant.member c.args.x t c.in_ok-out.ensures.step c.take.new.self c.take.ensures.taken c.take.ensures.words can)
