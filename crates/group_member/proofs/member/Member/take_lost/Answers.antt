use Rattle.std.proofs.Common.{◌≡◌, true, [], ap, sym, subst, ◌∙◌}
use Rattle.group_types.specs.Dimensions.{Dimensions}
use Rattle.group_types.specs.Names.{IsProcess}
use Rattle.membership.specs.Members.{knows_dead}
use Rattle.group_run.specs.Process.{Node}
use Rattle.group_member.specs.Acting.{Acts}
use Rattle.group_member.specs.Standing.{Member}
use Rattle.group_member.proofs.Handed.{drop-acts, handed}
use Rattle.group_member.proofs.member.Member.take_lost.Goals as goal

pub returns-clause-acts : goal.returns-clause-acts
returns-clause-acts c =
    let n = c.self.inside in
    let v : Member = record { words = n.words; signs = n.signs; callers = n.callers; parked = n.parked.items; node = n.node.node } in
    let member = subst (λ (old : Member). IsProcess old.words.shape c.args.to) (sym c.self.view_is) c.requires.member in
    let cut = subst (λ (old : Member). knows_dead old.words.cut c.args.to ≡ true) (sym c.self.view_is) c.requires.cut in
    let now = c.hand_out.ensures.rest ∙ ap (λ (s : Dimensions). handed s c.args.to n.node.node) c.self.invariant.member.shape_is in
    subst (λ (old : Member). Acts [] old (record v { node = c.hand_out.new.self.node })) c.self.view_is
    (subst (λ (node : Node). Acts [] v (record v { node = node })) (sym now) (drop-acts v c.args.to member cut))
