use Rattle.std.proofs.Common.{ap, ◌∙◌}
use Rattle.process_service.specs.Current.{is_current}
use Rattle.process_service.specs.Standing.{Standing}
use Rattle.data_process.specs.Values.{data_process_of}
use Rattle.data_process.proofs.process.DataProcess.acts_on.Goals as goal

pub returns : goal.returns
returns c = c.acts_on.ensures (data_process_of c.self.inside.values) ∙ ap (λ (p : Standing). is_current p.process c.args.message.now) c.self.view_is
