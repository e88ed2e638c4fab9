use Rattle.std.proofs.Common.{[], ◌∷◌, sym, ap, subst}
use Rattle.group_wire.specs.Actions.{Cut}
use Rattle.group_member.specs.Acting.{Acts}
use Rattle.group_member.specs.Standing.{Member, OwnWords}
use Rattle.group_member.specs.Words.{CanCut}
use Rattle.group_member.proofs.Said.{cut-acts}
use Rattle.group_member.proofs.Wholes.{rest-whole, words-changed}
use Rattle.group_member.proofs.member.Member.cut.Goals as goal

pub invariant_of-self : goal.invariant_of-self
invariant_of-self c =
    let n = c.self.inside in
    rest-whole c.self.invariant (ap (λ (w : OwnWords). w.shape) c.cut.ensures.cut) (ap (λ (w : OwnWords). w.name) c.cut.ensures.cut)
    (words-changed n.node.shape n.words c.cut.new.self n.signs n.node.node
    (ap (λ (w : OwnWords). w.shape) c.cut.ensures.cut) (ap (λ (w : OwnWords). w.taken) c.cut.ensures.cut)
    c.cut.ensures.words c.self.invariant.member)

pub returns-clause-acts : goal.returns-clause-acts
returns-clause-acts c =
    let n = c.self.inside in
    let v : Member = record { words = n.words; signs = n.signs; callers = n.callers; parked = n.parked.items; node = n.node.node } in
    let can = subst (λ (old : Member). CanCut old.words c.args.x) (sym c.self.view_is) c.requires in
    subst (λ (old : Member). Acts (Cut c.args.x old.words.name ∷ []) old (record v { words = c.cut.new.self })) c.self.view_is
    (subst (λ (w : OwnWords). Acts (Cut c.args.x v.words.name ∷ []) v (record v { words = w })) (sym c.cut.ensures.cut)
    (cut-acts v c.args.x can c.self.invariant.member.words))
