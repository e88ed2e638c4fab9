use Rattle.std.proofs.Common.{sym, subst, ◌∙◌}
use Rattle.membership.specs.Members.{Membership}
use Rattle.group_member.specs.Standing.{OwnWords}
use Rattle.group_member.specs.Words.{AreWords, CanCut}
use Rattle.group_member.proofs.Keeping.{cut-whole, ok-of}
use Rattle.group_member.proofs.words.OwnWords.cut.Goals as goal

pub invariant_of-self : goal.invariant_of-self
invariant_of-self c =
    let w = c.self.inside in
    let can = subst (λ (v : OwnWords). CanCut v c.args.x) (sym c.self.view_is) c.requires in
    let before : OwnWords = record { shape = w.shape; name = w.name; cut = w.cut; heard = w.heard.items; permitted = w.permitted; taken = w.taken } in
    let is = ok-of c.fail.result (c.fail.ensures.known ∙ can.uncut) c.fail.ensures.ok in
    subst (λ (set : Membership). AreWords (record before { cut = set })) (sym is) (cut-whole before c.args.x can c.self.invariant)

pub returns-clause-words : goal.returns-clause-words
returns-clause-words c =
    let w = c.self.inside in
    let can = subst (λ (v : OwnWords). CanCut v c.args.x) (sym c.self.view_is) c.requires in
    let before : OwnWords = record { shape = w.shape; name = w.name; cut = w.cut; heard = w.heard.items; permitted = w.permitted; taken = w.taken } in
    let is = ok-of c.fail.result (c.fail.ensures.known ∙ can.uncut) c.fail.ensures.ok in
    subst (λ (set : Membership). AreWords (record before { cut = set })) (sym is) (cut-whole before c.args.x can c.self.invariant)
