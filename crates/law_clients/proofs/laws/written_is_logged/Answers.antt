use Rattle.law_clients.proofs.Connecting as connecting
use Rattle.law_clients.proofs.laws.written_is_logged.Goals as goal

pub returns : goal.returns
returns c = connecting.written_is_logged
