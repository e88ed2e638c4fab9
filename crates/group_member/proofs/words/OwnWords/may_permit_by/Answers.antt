use Rattle.std.proofs.Common.{rules, ◌≡◌, ◌≢◌, ◌↔◌, ◌+◌, ◌<◌, false, IsTrue, sym, subst, arith}
use Rattle.group_types.specs.Names.{process_at}
use Rattle.membership.specs.Members.{knows_dead}
use Rattle.group_member.specs.Standing.{OwnWords}
use Rattle.group_member.specs.Words.{HasSaidAll}
use Rattle.group_member.proofs.Permitting.{said-all}
use Rattle.group_member.proofs.words.OwnWords.may_permit_by.Goals as goal

pub returns : goal.returns
returns c =
    let n = c.self.inside in
    let w : OwnWords = record { shape = n.shape; name = n.name; cut = n.cut; heard = n.heard.items; permitted = n.permitted; taken = n.taken } in
    let low = subst (λ (v : OwnWords). c.args.x < v.shape.k + v.shape.m) (sym c.self.view_is) c.requires in
    let other : process_at n.shape c.args.x ≢ n.name = search rules in
    let uncut : knows_dead n.cut (process_at n.shape c.args.x) ≡ false = search rules in
    subst (λ (v : OwnWords). IsTrue c.is_within.result ↔ HasSaidAll v (process_at v.shape c.args.x)) c.self.view_is
    (said-all w c.index.result.now c.args.x c.is_within.result (let many = c.self.invariant.many in
    omega (arith, low, many)) c.index.ensures c.is_within.ensures other uncut)
