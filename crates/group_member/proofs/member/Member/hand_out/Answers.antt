use Rattle.std.proofs.Common.{◌≡◌, false, [], ap, sym, subst, ◌∙◌}
use Rattle.std.specs.Prelude.{IfSome, slice_get}
use Rattle.group_types.specs.Dimensions.{Dimensions}
use Rattle.group_types.specs.Lists.{at}
use Rattle.group_types.specs.Names.{IsProcess, index_of}
use Rattle.membership.specs.Members.{knows_dead}
use Rattle.group_member.specs.Acting.{ActsHanding, message_handed}
use Rattle.group_member.specs.Standing.{Member}
use Rattle.group_member.proofs.Handed.{hands-some, handed}
use Rattle.group_member.proofs.member.Member.hand_out.Goals as goal

pub returns-clause-handed : goal.returns-clause-handed
returns-clause-handed c =
    let n = c.self.inside in
    let v : Member = record { words = n.words; signs = n.signs; callers = n.callers; parked = n.parked.items; node = n.node.node } in
    let member = subst (λ (old : Member). IsProcess old.words.shape c.args.to) (sym c.self.view_is) c.requires.member in
    let uncut = subst (λ (old : Member). knows_dead old.words.cut c.args.to ≡ false) (sym c.self.view_is) c.requires.uncut in
    let now = c.hand_out.ensures.rest ∙ ap (λ (s : Dimensions). handed s c.args.to n.node.node) c.self.invariant.member.shape_is in
    let first = c.hand_out.ensures.first
    ∙ ap (λ (s : Dimensions). slice_get (at [] n.node.node.links (index_of s c.args.to)) 0)
    c.self.invariant.member.shape_is in
    subst (λ (old : Member). IfSome c.hand_out.result
    (λ m. ActsHanding [] (message_handed c.args.to m) old (record v { node = c.hand_out.new.self.node })))
    c.self.view_is
    (hands-some v c.args.to member uncut c.hand_out.new.self.node now c.hand_out.result first)
