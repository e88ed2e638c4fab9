use Rattle.std.proofs.Common.{◌↔◌, IsTrue, subst}
use Rattle.group_member.specs.Standing.{Member}
use Rattle.group_member.specs.Words.{CanPermit}
use Rattle.group_member.proofs.member.Member.may_permit.Goals as goal

pub returns : goal.returns
returns c = subst (λ (v : Member). IsTrue c.may_permit.result ↔ CanPermit v.words) c.self.view_is c.may_permit.ensures
