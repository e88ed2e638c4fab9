use Rattle.member_gateway.proofs.work.MemberWork.pong_ping.Goals as goal

pub returns : goal.returns
returns c = record { goes = λ start way. way }
