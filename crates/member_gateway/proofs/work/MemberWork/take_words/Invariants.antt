use Rattle.member_gateway.specs.Calls.{GoesQuietly}
use Rattle.member_gateway.proofs.work.MemberWork.take_words.Given as goal

abbrev pub invariant-words : goal.invariant-words
invariant-words g l = record { goes : GoesQuietly l.initial.self l.self }
