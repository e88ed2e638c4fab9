use Rattle.std.proofs.Common.{ℕ, [], ◌∷◌, sym, subst}
use Rattle.membership.specs.Members.{knows_dead}
use Rattle.group_wire.specs.Actions.{Ping}
use Rattle.group_member.specs.Acting.{ActsHanding, ping_handed}
use Rattle.group_member.specs.Standing.{Member, OwnSigns}
use Rattle.group_member.proofs.Signed.{ping-acts}
use Rattle.group_member.proofs.member.Member.ping.Goals as goal

pub returns-clause-acts : goal.returns-clause-acts
returns-clause-acts c =
    let n = c.self.inside in
    let to = knows_dead c.args.to.now in
    let v : Member = record { words = n.words; signs = n.signs; callers = n.callers; parked = n.parked.items; node = n.node.node } in
    subst (λ (old : Member). ActsHanding (Ping to old.words.name ∷ []) (ping_handed to old.words.cut c.ping.result) old
    (record v { signs = c.ping.new.self })) c.self.view_is
    (subst (λ (number : ℕ). ActsHanding (Ping to v.words.name ∷ []) (ping_handed to v.words.cut number) v
    (record v { signs = c.ping.new.self })) (sym c.ping.ensures.number)
    (subst (λ (s : OwnSigns). ActsHanding (Ping to v.words.name ∷ []) (ping_handed to v.words.cut v.signs.pinged) v
    (record v { signs = s })) (sym c.ping.ensures.sent) (ping-acts v to)))
