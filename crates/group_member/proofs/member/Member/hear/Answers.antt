use Rattle.std.proofs.Common.{[], ◌∷◌, sym, ap, subst, ◌∙◌}
use Rattle.membership.specs.Members.{knows_dead}
use Rattle.group_wire.specs.Actions.{Hear}
use Rattle.group_member.specs.Acting.{ActsWhere, SetComes}
use Rattle.group_member.specs.Standing.{Member, OwnWords, heard_of}
use Rattle.group_member.specs.Words.{CanReadFrom}
use Rattle.group_member.proofs.Said.{HasHeard, hear-acts}
use Rattle.group_member.proofs.Wholes.{rest-whole, words-changed}
use Rattle.group_member.proofs.member.Member.hear.Goals as goal

pub invariant_of-self : goal.invariant_of-self
invariant_of-self c =
    let n = c.self.inside in
    rest-whole c.self.invariant (ap (λ (w : OwnWords). w.shape) c.hear.ensures.rest) (ap (λ (w : OwnWords). w.name) c.hear.ensures.rest)
    (words-changed n.node.shape n.words c.hear.new.self n.signs n.node.node (ap (λ (w : OwnWords). w.shape) c.hear.ensures.rest)
    (ap (λ (w : OwnWords). w.taken) c.hear.ensures.rest) c.hear.ensures.words c.self.invariant.member)

pub returns : goal.returns
returns c =
    let n = c.self.inside in
    let v : Member = record { words = n.words; signs = n.signs; callers = n.callers; parked = n.parked.items; node = n.node.node } in
    let can = subst (λ (old : Member). CanReadFrom old.words c.args.from) (sym c.self.view_is) c.requires in
    let has : HasHeard v.words c.args.from c.args.set.now c.hear.new.self.heard = record {
      others = c.hear.ensures.others;
      here = λ x. ap (λ (w : OwnWords). knows_dead (heard_of w c.args.from) x) (sym c.hear.ensures.rest) ∙ c.hear.ensures.heard x;
    } in
    subst (λ (old : Member). ActsWhere (SetComes c.args.from old.words.name c.args.set.now) (Hear c.args.from old.words.name ∷ []) (λ out. out) old
    (record v { words = c.hear.new.self })) c.self.view_is
    (subst (λ (w : OwnWords). ActsWhere (SetComes c.args.from v.words.name c.args.set.now)
    (Hear c.args.from v.words.name ∷ []) (λ out. out) v (record v { words = w }))
    (sym c.hear.ensures.rest) (hear-acts v c.args.from c.args.set.now c.hear.new.self.heard can has))
