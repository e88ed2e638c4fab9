use Rattle.scenario_play.proofs.Lines.{left}
use Rattle.scenario_play.proofs.group_subject.PlaySubject.treat.Goals as goal

pub returns-clause-onward : goal.returns-clause-onward
returns-clause-onward c = left
