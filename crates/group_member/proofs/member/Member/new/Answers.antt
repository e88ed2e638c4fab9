use Rattle.std.proofs.Common.{rules, ◌≡◌, List, [], sym, ap, subst}
use Rattle.group_node.specs.Standing.{NodeStanding}
use Rattle.group_wire.specs.State.{Request, opening_group}
use Rattle.group_member.specs.Acting.{nothing_out}
use Rattle.group_member.specs.Standing.{MemberStands}
use Rattle.group_member.proofs.Starting.{starts-as}
use Rattle.group_member.proofs.member.Member.new.Goals as goal

pub returns-clause-stands : goal.returns-clause-stands
returns-clause-stands c =
    let none : c.new-5.result.items ≡ [] = search rules in
    subst (λ (parked : List Request). MemberStands (opening_group c.args.shape) nothing_out (record {
      words = c.in_ok-new.field-0;
      signs = c.in_ok-new-2.field-0;
      callers = c.in_ok-new-3.field-0;
      parked = parked;
      node = c.in_ok-new-4.field-0.node;
    })) (sym none)
    (starts-as c.args.shape c.args.name c.in_ok-new.field-0 c.in_ok-new-2.field-0 c.in_ok-new-3.field-0
    c.in_ok-new-4.field-0.node c.in_ok-new-3.ensures.own.limits
    c.requires c.in_ok-new.ensures.opening c.in_ok-new-2.ensures c.in_ok-new-3.ensures.opening (ap (λ (n : NodeStanding). n.node) c.in_ok-new-4.ensures))
