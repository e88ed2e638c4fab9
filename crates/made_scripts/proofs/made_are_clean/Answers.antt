use Rattle.made_scripts.proofs.Made.{made_are_clean}
use Rattle.made_scripts.proofs.made_are_clean.Goals as goal

pub returns : goal.returns
returns c = made_are_clean
