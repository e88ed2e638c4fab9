use Rattle.cluster_play.proofs.Lines.{left}
use Rattle.cluster_play.proofs.subject.ClusterPlaySubject.treat.Goals as goal

pub returns-clause-onward : goal.returns-clause-onward
returns-clause-onward c = left
