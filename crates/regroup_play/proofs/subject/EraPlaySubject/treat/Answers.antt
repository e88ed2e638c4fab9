use Rattle.regroup_play.proofs.Lines.{left}
use Rattle.regroup_play.proofs.subject.EraPlaySubject.treat.Goals as goal

pub returns-clause-onward : goal.returns-clause-onward
returns-clause-onward c = left
