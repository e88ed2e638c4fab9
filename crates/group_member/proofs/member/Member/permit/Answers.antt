use Rattle.std.proofs.Common.{[], ◌∷◌, sym, ap, subst}
use Rattle.group_wire.specs.Actions.{Permit}
use Rattle.group_member.specs.Acting.{Acts}
use Rattle.group_member.specs.Standing.{Member, OwnWords}
use Rattle.group_member.specs.Words.{CanPermit}
use Rattle.group_member.proofs.Said.{permit-acts}
use Rattle.group_member.proofs.Wholes.{rest-whole, words-changed}
use Rattle.group_member.proofs.member.Member.permit.Goals as goal

pub invariant_of-self : goal.invariant_of-self
invariant_of-self c =
    let n = c.self.inside in
    rest-whole c.self.invariant (ap (λ (w : OwnWords). w.shape) c.permit.ensures.permitted) (ap (λ (w : OwnWords). w.name) c.permit.ensures.permitted)
    (words-changed n.node.shape n.words c.permit.new.self n.signs n.node.node (ap (λ (w : OwnWords). w.shape) c.permit.ensures.permitted)
    (ap (λ (w : OwnWords). w.taken) c.permit.ensures.permitted) c.permit.ensures.words c.self.invariant.member)

pub returns-clause-acts : goal.returns-clause-acts
returns-clause-acts c =
    let n = c.self.inside in
    let v : Member = record { words = n.words; signs = n.signs; callers = n.callers; parked = n.parked.items; node = n.node.node } in
    let can = subst (λ (old : Member). CanPermit old.words) (sym c.self.view_is) c.requires in
    subst (λ (old : Member). Acts (Permit old.words.name ∷ []) old (record v { words = c.permit.new.self })) c.self.view_is
    (subst (λ (w : OwnWords). Acts (Permit v.words.name ∷ []) v (record v { words = w })) (sym c.permit.ensures.permitted) (permit-acts v can))

pub permit-requires : goal.permit-requires
permit-requires c = subst (λ (old : Member). CanPermit old.words) (sym c.self.view_is) c.requires
