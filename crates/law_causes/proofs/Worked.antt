-- The run, computed.
use Rattle.std.proofs.Common.{refl}
use Rattle.law_causes.specs.Worked.{AnswersCome}

pub answers_come : AnswersCome
answers_come = record { ticket = refl; pending = refl; not_yet = refl; traced = refl; flushed = refl; replied = refl }
