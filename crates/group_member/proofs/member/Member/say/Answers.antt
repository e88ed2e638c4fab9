use Rattle.std.proofs.Common.{[], ◌∷◌, sym, ap, subst, ◌∙◌}
use Rattle.membership.specs.Members.{Membership}
use Rattle.group_wire.specs.Actions.{Say}
use Rattle.group_member.specs.Acting.{ActsHanding, set_handed}
use Rattle.group_member.specs.Standing.{Member}
use Rattle.group_member.proofs.Said.{say-acts}
use Rattle.group_member.proofs.member.Member.say.Goals as goal

pub returns-clause-acts : goal.returns-clause-acts
returns-clause-acts c =
    let v = c.args.self.now in
    subst (λ (set : Membership). ActsHanding (Say v.words.name ∷ []) (set_handed set) v v)
    (sym (c.all_cut.ensures ∙ ap (λ (m : Member). m.words.cut) c.self.view_is)) (say-acts v)
