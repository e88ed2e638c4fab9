use Rattle.group_member.proofs.Signed.{pong-acts}
use Rattle.group_member.proofs.member.Member.pong.Goals as goal

pub returns-clause-acts : goal.returns-clause-acts
returns-clause-acts c = pong-acts c.args.self.now c.args.from c.args.ping c.requires
