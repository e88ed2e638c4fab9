use Rattle.law_answers.proofs.OwnMarks.{own_marks_always}
use Rattle.law_answers.proofs.own_marks_always.Goals as goal

pub returns : goal.returns
returns c = own_marks_always
